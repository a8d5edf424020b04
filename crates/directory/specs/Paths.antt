-- Ways through a graph in which every vertex has one successor or none. Assumes nothing.
use Rattle.std.specs.Prelude.{◌≡◌}
use Rattle.std.proofs.Math.Option.{Option, some}

-- p leads to q: it is q already, or its successor leads to q
pub data Leads {V : Type 0} (next : V → Option V) : V → V → Type 0 where
  here : {p q : V} → p ≡ q → Leads next p q
  on : {p m q : V} → next p ≡ some m → Leads next m q → Leads next p q
