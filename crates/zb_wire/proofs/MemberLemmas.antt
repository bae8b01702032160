-- The variables of an object come in the order of its members, so their names ascend.
use Rattle.std.proofs.Common.{◌≡◌, ℕ, List, [], ◌∷◌, ◌++◌, length, Bool, true, false, if◌then◌else◌, Option, Some, None, IsTrue, IsSome, IfSome, ◌↔◌, String, refl, ap, sym, ◌∙◌, append_assoc}
use Rattle.std.proofs.lemmas.List.{append-nil}
use Rattle.std.specs.Prelude.{option_map, option_and_then, string_bytes, nat_le}
use Rattle.std.specs.declared.alloc.Global.{Global}
use Rattle.std.specs.declared.cmp.Ordering.TheVariants.{Less}
use Rattle.std.specs.List.{AllByRecursion}
use Rattle.std.specs.List.Sorted.{IsStrictlySortedBy}
use Rattle.std.specs.Map.{keys_of}
use Rattle.std.specs.String.{string_cmp}
use Rattle.serde_json.specs.Data.{Data, Members, member}
use Rattle.serde_json.specs.View.{view, members_view}
use Rattle.serde_json.specs.declared.value.Value.{Value as Json}
use Rattle.zb_base.specs.Vars.{order_of, order_at, is_ascending}
use Rattle.zb_base.specs.declared.value.Value.{Value}
use Rattle.zb_base.specs.declared.vars.Variable.{Variable}
use Rattle.zb_wire.specs.Variables.{longest_name, variable_value, variable_of, variables_of}

joined : (vs : List Variable) (v : Variable) (o : Option (List Variable)) → option_map (λ rest. vs ++ rest) (option_map (λ rest. v ∷ rest) o) ≡ option_map (λ rest. (vs ++ v ∷ []) ++ rest) o
joined vs v None = refl
joined vs v (Some rest) = ap Some (simp append_assoc)

-- one more variable
pub variables_of-member : (vs : List Variable) (name : List ℕ) (d : Data) (ms : Members) (v : Variable) → variable_of name d ≡ Some v → option_map (λ rest. vs ++ rest) (variables_of (member name d ms)) ≡ option_map (λ rest. (vs ++ v ∷ []) ++ rest) (variables_of ms)
variables_of-member vs name d ms v is = rw is (joined vs v (variables_of ms))

-- one more member was read, and it is a variable
pub variables_of-step : (all : Option (List Variable)) (vs more : List Variable) (es left : List (String Global × Json)) (e : String Global × Json) (v : Variable) → all ≡ option_map (λ rest. vs ++ rest) (variables_of (members_view es)) → es ≡ e ∷ left → variable_of (string_bytes e.0) (view e.1) ≡ Some v → more ≡ vs ++ v ∷ [] → all ≡ option_map (λ rest. more ++ rest) (variables_of (members_view left))
variables_of-step all vs more es left e v so_far first is grown = rw grown ((rw first at so_far) ∙ variables_of-member vs (string_bytes e.0) (view e.1) (members_view left) v is)

named_by : (name : List ℕ) (b : Bool) (o : Option Value) (v : Variable) → (if b then option_map (λ value. record { name = name; value = value }) o else None) ≡ Some v → v.name ≡ name
named_by name false o v is = absurd (cc)
named_by name true None v is = absurd (cc)
named_by name true (Some value) v is = cc

-- a variable has the member's name
named : (name : List ℕ) (d : Data) (v : Variable) → variable_of name d ≡ Some v → v.name ≡ name
named name d v is = named_by name (nat_le (length name) longest_name) (variable_value d) v is

-- what a list of variables is that begins with a member's
record Parts (o : Option Variable) (rest : Option (List Variable)) (vs : List Variable) : Type 0 where
  first : Variable
  others : List Variable
  is_first : o ≡ Some first
  are_others : rest ≡ Some others
  are : vs ≡ first ∷ others

parts : (o : Option Variable) (rest : Option (List Variable)) (vs : List Variable) → option_and_then (λ v. option_map (λ vs. v ∷ vs) rest) o ≡ Some vs → Parts o rest vs
parts None rest vs is = absurd (cc)
parts (Some v) None vs is = absurd (cc)
parts (Some v) (Some ws) vs is = record { first = v; others = ws; is_first = refl; are_others = refl; are = cc }

-- a name that comes before each key comes before the first of their variables
comes_before : (name : List ℕ) (es : List (String Global × Json)) (vs : List Variable) → AllByRecursion (λ k. order_of name (string_bytes k) ≡ Less) (keys_of es) → variables_of (members_view es) ≡ Some vs → order_at name vs ≡ Less
comes_before name [] vs before is =
    let none : vs ≡ [] = cc in
    rw none refl
comes_before name (e ∷ es) vs before is =
    let p = parts (variable_of (string_bytes e.0) (view e.1)) (variables_of (members_view es)) vs is in
    let same : p.first.name ≡ string_bytes e.0 = named (string_bytes e.0) (view e.1) p.first p.is_first in
    rw (p.are, same) before.0

-- where the keys ascend, the names of the variables do
pub variables_of-ascending : (es : List (String Global × Json)) (vs : List Variable) → IsStrictlySortedBy string_cmp (keys_of es) → variables_of (members_view es) ≡ Some vs → is_ascending vs ≡ true
unfolding IsStrictlySortedBy
variables_of-ascending [] vs sorted is =
    let none : vs ≡ [] = cc in
    rw none refl
variables_of-ascending (e ∷ es) vs sorted is =
    let p = parts (variable_of (string_bytes e.0) (view e.1)) (variables_of (members_view es)) vs is in
    let same : p.first.name ≡ string_bytes e.0 = named (string_bytes e.0) (view e.1) p.first p.is_first in
    let first : order_at p.first.name p.others ≡ Less = rw same (comes_before (string_bytes e.0) es p.others sorted.0 p.are_others) in
    let rest : is_ascending p.others ≡ true = variables_of-ascending es p.others sorted.1 p.are_others in
    rw (p.are, first, rest) refl

made_by : (o : Option (List Variable)) (vs : List Variable) → IfSome o (λ made. made ≡ vs) → (IsSome o ↔ IsTrue (is_ascending vs)) → is_ascending vs ≡ true → o ≡ Some vs
made_by None vs made ascends ascending = absurd (cc (ascends.1 ascending))
made_by (Some x) vs made ascends ascending = ap Some made

-- all members were read, and what was made of them is their variables
pub variables_of-made : (o : Option (List Variable)) (vs : List Variable) (all es : List (String Global × Json)) → IsStrictlySortedBy string_cmp (keys_of all) → variables_of (members_view all) ≡ option_map (λ rest. vs ++ rest) (variables_of (members_view es)) → es ≡ [] → IfSome o (λ made. made ≡ vs) → (IsSome o ↔ IsTrue (is_ascending vs)) → o ≡ variables_of (members_view all)
variables_of-made o vs all es sorted read none made ascends =
    let whole : variables_of (members_view all) ≡ Some vs = (rw none at read) ∙ ap Some (append-nil vs) in
    made_by o vs made ascends (variables_of-ascending all vs sorted whole) ∙ sym whole
