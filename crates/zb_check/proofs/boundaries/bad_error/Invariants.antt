use Rattle.std.proofs.Common.{◌≡◌, ℕ, List, [], drop, take, reverse}
use Rattle.zb_faults.specs.Faults.{find_behind, catches_badly, catches_error}
use Rattle.zb_check.specs.Pairs.{is_noted}
use Rattle.zb_check.proofs.boundaries.bad_error.Given as goal

-- the activities and codes so far are noted, and none so far catches badly
abbrev pub invariant-loop-node : goal.invariant-loop-node
invariant-loop-node l =
    let before = reverse (take l.node-index l.nodes) in
    ((p q : List ℕ) → is_noted l.caught p q ≡ catches_error before p q) × (find_behind catches_badly before (drop l.node-index l.nodes) ≡ find_behind catches_badly [] l.nodes)
