-- Variables: their names ascend, and a name has one value.
use Rattle.std.specs.Prelude.{◌≡◌, ℕ, ◌≤◌, Bool, true, ◌&&◌, Option, None, Some, List, [], ◌∷◌, All, length, take, drop, if◌then◌else◌}
use Rattle.std.specs.declared.cmp.Ordering.{Ordering}
use Rattle.std.specs.declared.cmp.Ordering.TheVariants.{Less, Greater}
use Rattle.std.specs.Ordering.{nat_cmp, match_ordering, is_lt, is_eq}
use Rattle.std.specs.Cmp.Lexicographic.{slice_cmp}
use Rattle.zb_base.specs.declared.value.Value.{Value}
use Rattle.zb_base.specs.declared.vars.Variable.{Variable}

-- the order of two names, byte by byte
abbrev pub order_of : List ℕ → List ℕ → Ordering
order_of = slice_cmp nat_cmp

-- the order of a name and the first of these variables; a name comes before none
abbrev pub order_at : List ℕ → List Variable → Ordering
order_at name [] = Less
order_at name (v ∷ vs) = order_of name v.name

-- each name comes before the next
abbrev pub is_ascending : List Variable → Bool
is_ascending [] = true
is_ascending (v ∷ vs) = is_lt (order_at v.name vs) && is_ascending vs

-- the value of a name
abbrev pub value_named : List ℕ → List Variable → Option Value
value_named name [] = None
value_named name (v ∷ vs) = if is_eq (order_of name v.name) then Some v.value else value_named name vs

-- the variables with a value set: in place of the one of that name, else at its place in the order
abbrev pub with_value : List ℕ → Value → List Variable → List Variable
with_value name value [] = record { name = name; value = value } ∷ []
with_value name value (v ∷ vs) = match_ordering (order_of name v.name) (record { name = name; value = value } ∷ v ∷ vs) (record { name = name; value = value } ∷ vs) (v ∷ with_value name value vs)

-- the name comes behind the first i of the variables, and its order to the next is this
pub record StandsAt (name : List ℕ) (vs : List Variable) (order : Ordering) (i : ℕ) : Type 0 where
  pub within : i ≤ length vs
  pub behind : All (λ (v : Variable). order_of name v.name ≡ Greater) (take i vs)
  pub next : order_at name (drop i vs) ≡ order
