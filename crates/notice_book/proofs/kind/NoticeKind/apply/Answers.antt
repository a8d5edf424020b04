-- The call's answer, and what its rule and its rows mean. Assumes nothing.
use Rattle.notice_book.specs.NoticesLemmas.{accepted_entries_edit, rows_are_texts, worked_examples}
use Rattle.notice_book.proofs.kind.NoticeKind.apply.Goals as goal

pub returns : goal.returns
returns c = record { answer = c.write.ensures; edits = accepted_entries_edit; texts = rows_are_texts; examples = worked_examples }
