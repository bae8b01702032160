use Rattle.std.proofs.Common.{◌≡◌, ℕ, List, take}
use Rattle.std.specs.List.{find}
use Rattle.std.specs.Option.{option_copied}
use Rattle.std.specs.Str.{bytes_eq}
use Rattle.zb_check.specs.Notes.{noted}
use Rattle.zb_check.proofs.ids.by_id.Given as goal

-- the first one so far with each id
abbrev pub invariant-loop-item : goal.invariant-loop-item
invariant-loop-item g l = (q : List ℕ) → option_copied (noted l.index q) ≡ find (λ x. bytes_eq (g.T.HasId.id_of x) q) (take l.item-index l.items)
