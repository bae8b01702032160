use Rattle.std.proofs.Common.{◌≡◌, ℕ, List, [], drop, take, reverse}
use Rattle.zb_faults.specs.Faults.{find_behind, is_too_deep, depth_among}
use Rattle.zb_check.specs.Notes.{count_in}
use Rattle.zb_check.proofs.scopes.is_deep.Given as goal

-- the depths so far are noted, and none is too large
abbrev pub invariant-loop-node : goal.invariant-loop-node
invariant-loop-node l =
    let before = reverse (take l.node-index l.nodes) in
    ((q : List ℕ) → count_in l.depths q ≡ depth_among before q) × (find_behind is_too_deep before (drop l.node-index l.nodes) ≡ find_behind is_too_deep [] l.nodes)
