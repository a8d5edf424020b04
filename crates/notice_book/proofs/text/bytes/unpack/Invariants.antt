-- The bytes so far. Assumes nothing.
use Rattle.std.proofs.Common.{◌≡◌, ◌*◌, length, take}
use Rattle.notice_book.specs.Bytes.{bytes_of}
use Rattle.notice_book.proofs.text.bytes.unpack.Given as goal

abbrev pub invariant-loop-word : goal.invariant-loop-word
invariant-loop-word l = (l.bytes.items ≡ bytes_of (take l.word-index l.words)) × (length l.bytes.items ≡ 4 * l.word-index)
