-- The queue that a directory stands for, and the laws that every run keeps. Assumes nothing.
use Rattle.std.specs.Prelude.{◌≡◌, ℕ, cond, ◌==◌}
use Rattle.std.proofs.Math.Option.{Option, none, some}
use Rattle.directory.specs.Directory.{Directory, Place, idle, flying, after, front}
use Rattle.directory.specs.Paths.{Leads}

-- what the queue is made of: a find that comes to a panel, and the request of a panel
pub data Vertex : Type 0 where
  find_at : ℕ → Vertex
  request_of : ℕ → Vertex

-- where a find goes from v whose arrow is x: it queues behind the request of v if the arrow is v itself, else it goes on to x
abbrev pub from_arrow : ℕ → ℕ → Vertex
from_arrow v x = cond (x == v) (request_of v) (find_at x)

-- what stands before a request, by its place: a find under way will come to u, and a follower of p stands behind p
abbrev pub from_place : Place → Option Vertex
from_place idle = none
from_place (flying w u) = some (find_at u)
from_place (after p) = some (request_of p)
from_place front = none

-- the one that comes next, on the way to the front of the queue
abbrev pub next : Directory → Vertex → Option Vertex
next d (find_at v) = some (from_arrow v (d.arrow v))
next d (request_of a) = from_place (d.place a)

-- a find that comes to v queues, sooner or later, behind the request of a
abbrev pub Behind : Directory → ℕ → ℕ → Type 0
Behind d v a = Leads (next d) (find_at v) (request_of a)

-- the laws of the queue
pub record Sound (d : Directory) : Type 0 where
  -- the panel in front: it has the book, or the book is on its way to it
  pub home : ℕ
  pub home_front : d.place home ≡ front
  -- a find that comes to any panel queues behind the panel in front: every arrow leads home
  pub leads_home : (v : ℕ) → Behind d v home
  -- a find that comes to a panel with a request queues behind that request
  pub own : (a : ℕ) → ¬ (d.place a ≡ idle) → Behind d a a
  -- a find that comes to the panel that another find has just left queues behind that one
  pub sent : (a w u : ℕ) → d.place a ≡ flying w u → Behind d w a
  -- a find that comes to the panel where another has landed queues behind that one
  pub landed : (a p : ℕ) → d.place a ≡ after p → Behind d p a
