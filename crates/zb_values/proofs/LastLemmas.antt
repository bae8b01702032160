-- Variables that are set one after another.
use Rattle.std.proofs.Common.{◌≡◌, ℕ, List, [], ◌∷◌, ◌++◌, if◌then◌else◌, Some, refl, ap, ◌∙◌}
use Rattle.std.specs.Ordering.{is_eq}
use Rattle.zb_base.specs.declared.vars.Variable.{Variable}
use Rattle.zb_base.specs.Vars.{order_of, value_named, with_value}
use Rattle.zb_base.proofs.VarsLaws.{value_of_set}
use Rattle.zb_tokens.specs.Catches.{set_over}

-- one more is set over those in front of it
set_last : (vs : List Variable) (v : Variable) (vars : List Variable) → set_over (vs ++ v ∷ []) vars ≡ with_value v.name v.value (set_over vs vars)
set_last [] v vars = refl
set_last (w ∷ vs) v vars = set_last vs v (with_value w.name w.value vars)

-- it counts for its name, and those in front of it for each other one
pub value_of_last : (name : List ℕ) (vs : List Variable) (v : Variable) → value_named name (set_over (vs ++ v ∷ []) []) ≡ (if is_eq (order_of name v.name) then Some v.value else value_named name (set_over vs []))
value_of_last name vs v = ap (value_named name) (set_last vs v []) ∙ value_of_set name v.name v.value (set_over vs [])
