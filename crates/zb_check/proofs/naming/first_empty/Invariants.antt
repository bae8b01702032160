use Rattle.std.proofs.Common.{◌≡◌, [], map, drop}
use Rattle.std.specs.List.{find}
use Rattle.std.specs.Str.{bytes_eq}
use Rattle.zb_check.proofs.naming.first_empty.Given as goal

-- none so far is empty
abbrev pub invariant-loop-id : goal.invariant-loop-id
invariant-loop-id l = find (λ id. bytes_eq id []) (map (λ id. id.now) (drop l.id-index l.ids)) ≡ find (λ id. bytes_eq id []) (map (λ id. id.now) l.ids)
