-- Editing a list at its first member that passes a test.
use Rattle.std.specs.Prelude.{List, [], ◌∷◌, Bool, true, false}
pub use Rattle.zb_table.specs.Edits.{edited, removed, without_first}

-- there are none of these
abbrev pub is_none_of : {A : Type 0} → List A → Bool
is_none_of [] = true
is_none_of (x ∷ xs) = false
