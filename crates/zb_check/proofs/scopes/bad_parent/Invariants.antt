use Rattle.std.proofs.Common.{◌≡◌, ℕ, List, [], drop, take, reverse, is_some}
use Rattle.zb_faults.specs.Faults.{find_behind, lacks_parent, has_subprocess}
use Rattle.zb_check.specs.Notes.{noted}
use Rattle.zb_check.proofs.scopes.bad_parent.Given as goal

-- the subprocesses so far are noted, and each node so far has a parent
abbrev pub invariant-loop-node : goal.invariant-loop-node
invariant-loop-node l =
    let before = reverse (take l.node-index l.nodes) in
    ((q : List ℕ) → is_some (noted l.subprocesses q) ≡ has_subprocess before q) × (find_behind lacks_parent before (drop l.node-index l.nodes) ≡ find_behind lacks_parent [] l.nodes)
