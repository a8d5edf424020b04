-- The number that was made has the value of the definition. Assumes nothing.
use Rattle.std.proofs.Common.{ap, rules}
use Rattle.words.specs.declared.refusal.Refusal.TheVariants.{Rule}
use Rattle.book.specs.Faults.{rule_number}
use Rattle.book.specs.Numbers.{same_number}
use Rattle.book.proofs.fault.RefusalFromFault.from.Goals as goal

pub returns : goal.returns
returns c = ap Rule (same_number c.unwrap.result (rule_number c.args.value) (search rules))
