use Rattle.std.proofs.Common.{◌≡◌, ℕ, List, [], drop, take, reverse, is_some}
use Rattle.zb_faults.specs.Faults.{find_behind, is_compensated_badly, names_handler, compensates}
use Rattle.zb_check.specs.Notes.{noted}
use Rattle.zb_check.proofs.boundaries.bad_compensation.Given as goal

-- the handlers and activities so far are noted, and no node so far is bad
abbrev pub invariant-loop-node : goal.invariant-loop-node
invariant-loop-node l =
    let before = reverse (take l.node-index l.nodes) in
    ((q : List ℕ) → is_some (noted l.handlers q) ≡ names_handler before q)
    × ((q : List ℕ) → is_some (noted l.activities q) ≡ compensates before q)
    × (find_behind (is_compensated_badly l.parts) before (drop l.node-index l.nodes) ≡ find_behind (is_compensated_badly l.parts) [] l.nodes)
