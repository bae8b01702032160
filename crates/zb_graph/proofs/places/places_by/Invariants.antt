use Rattle.std.proofs.Common.{◌≡◌, ℕ, List, take}
use Rattle.zb_graph.specs.Places.{places}
use Rattle.zb_graph.specs.PlacesAt.{places_at}
use Rattle.zb_graph.proofs.places.places_by.Given as goal

abbrev pub invariant-loop-place : goal.invariant-loop-place
invariant-loop-place g l = (name : List ℕ) → places_at l.made name ≡ places (λ x. g.L.Label.has_name x name) (take l.place l.items)
