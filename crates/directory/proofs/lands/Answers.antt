-- The laws that `lands` names are the theorems on runs. Assumes nothing.
use Rattle.std.proofs.Common.{rules}
use Rattle.directory.proofs.Example.{worked_example}
use Rattle.directory.proofs.Runs.{directory_law}
use Rattle.directory.proofs.Service.{every_request_served}
use Rattle.directory.proofs.lands.Goals as goal

pub returns : goal.returns
returns c = record { answer = search rules; law = directory_law; served = every_request_served; example = worked_example }
