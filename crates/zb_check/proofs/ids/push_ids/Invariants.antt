use Rattle.std.proofs.Common.{◌≡◌, ◌++◌, map, take}
use Rattle.zb_check.proofs.ids.push_ids.Given as goal

-- the ids so far stand at the end
abbrev pub invariant-loop-item : goal.invariant-loop-item
invariant-loop-item g l = map (λ id. id.now) l.ids.items ≡ map (λ id. id.now) l.fn.ids.items ++ map g.T.HasId.id_of (take l.item-index l.items)
