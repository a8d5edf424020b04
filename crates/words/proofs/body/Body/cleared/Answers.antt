use Rattle.std.proofs.Common.{length, take, ◌≡◌, arith}
use Rattle.std.proofs.lemmas.List.{take-replicate, length-take-le}
use Rattle.words.specs.Bodies.{longest_body}
use Rattle.words.proofs.body.Body.cleared.Goals as goal

pub returns : goal.returns
returns c =
    let body = c.args.self.now in
    let size : length (take body.size body.words) ≡ body.size = length-take-le body.size body.words (omega arith) in
    rw size (take-replicate body.size longest_body 0 body.fits)
