use Rattle.std.proofs.Common.{◌≡◌, ℕ, List, [], map, drop, take, reverse, is_some}
use Rattle.zb_faults.specs.Faults.{find_behind, has_id}
use Rattle.zb_check.specs.Notes.{noted}
use Rattle.zb_check.proofs.naming.first_used.Given as goal

-- the ids so far are noted, and none of them was used before
abbrev pub invariant-loop-id : goal.invariant-loop-id
invariant-loop-id l =
    let ids = map (λ id. id.now) l.ids in
    ((q : List ℕ) → is_some (noted l.used q) ≡ has_id (reverse (take l.id-index ids)) q) × (find_behind has_id (reverse (take l.id-index ids)) (drop l.id-index ids) ≡ find_behind has_id [] ids)
