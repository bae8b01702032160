-- Keys, of which a single one stands in its place.
use Rattle.std.specs.Prelude.{ℕ, List, [], ◌∷◌, Option, Some, None}
use Rattle.zb_line.specs.declared.keys.Kept.{Kept}
use Rattle.zb_line.specs.declared.keys.Kept.TheVariants as kinds

-- the keys that stand in their place or apart (own)
abbrev pub keys_kept : Kept → List ℕ
keys_kept (kinds.InPlace None) = []
keys_kept (kinds.InPlace (Some key)) = key ∷ []
keys_kept (kinds.Apart line) = line
