-- The laws that `request_limit` names are the theorems on runs. Assumes nothing.
use Rattle.std.proofs.Common.{rules}
use Rattle.arrow.proofs.Example.{worked_run}
use Rattle.arrow.proofs.Law.{law_over_runs}
use Rattle.arrow.proofs.Mask.{word_of_waiting}
use Rattle.arrow.proofs.Reaches.{facts_of_runs}
use Rattle.arrow.proofs.Runs.{refusals_are_listed}
use Rattle.arrow.proofs.limit.request_limit.Goals as goal

pub returns : goal.returns
returns c = record {
  answer = search rules;
  law = law_over_runs;
  facts = facts_of_runs;
  refusals = refusals_are_listed;
  waiting = word_of_waiting;
  example = worked_run;
}
