use Rattle.std.proofs.Common.{rules}
use Rattle.std.proofs.lemmas.List.{take_at}
use Rattle.group.proofs.memory.Group.deliver.Goals as goal

pub returns-in_err-received : goal.returns-in_err-received
returns-in_err-received g c =
    let took = c.in_err-received.ensures.1 in
    record { place = 0; waits = λ some. some; by_rule = search rules; spare_is = search rules }

pub returns : goal.returns
returns g c =
    let took = c.in_ok-received.ensures in
    record { place = took.0; waits = λ _. search rules; by_rule = search (rules, take_at); spare_is = search rules }
