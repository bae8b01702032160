-- Laws of variables whose names ascend.
use Rattle.std.proofs.Common.{◌≡◌, ℕ, Bool, true, false, if◌then◌else◌, Some, List, [], ◌∷◌, refl}
use Rattle.std.specs.declared.cmp.Ordering.{Ordering}
use Rattle.std.specs.declared.cmp.Ordering.TheVariants.{Less, Equal, Greater}
use Rattle.std.specs.Ordering.{is_eq}
use Rattle.std.proofs.lemmas.Map.Lookups.{exact_bytes}
use Rattle.zb_base.specs.declared.value.Value.{Value}
use Rattle.zb_base.specs.declared.vars.Variable.{Variable}
use Rattle.zb_base.specs.Vars.{order_of, value_named, with_value}

twice : {X : Type 0} (b : Bool) (x y z : X) → (if b then x else z) ≡ (if b then x else (if b then y else z))
twice true x y z = refl
twice false x y z = refl

value_of_set_first : (q name : List ℕ) (value : Value) (v : Variable) (vs : List Variable) (o : Ordering) → order_of q name ≡ o → order_of name v.name ≡ Greater → order_of q v.name ≡ Equal → Some v.value ≡ (if is_eq o then Some value else Some v.value)
value_of_set_first q name value v vs Less e g h = refl
value_of_set_first q name value v vs Greater e g h = refl
value_of_set_first q name value v vs Equal e g h =
    let same : q ≡ name = exact_bytes q name e in
    cc

value_of_set_by : (q name : List ℕ) (value : Value) (v : Variable) (vs : List Variable) (o : Ordering) → order_of name v.name ≡ o → (p : Ordering) → order_of q v.name ≡ p → value_named q (with_value name value vs) ≡ (if is_eq (order_of q name) then Some value else value_named q vs) → value_named q (with_value name value (v ∷ vs)) ≡ (if is_eq (order_of q name) then Some value else value_named q (v ∷ vs))
value_of_set_by q name value v vs Less e p h r = rw e
value_of_set_by q name value v vs Equal e p h r =
    let same : name ≡ v.name = exact_bytes name v.name e in
    rw (e, ← same) (twice (is_eq (order_of q name)) (Some value) (Some v.value) (value_named q vs))
value_of_set_by q name value v vs Greater e Equal h r = rw (e, h) (value_of_set_first q name value v vs (order_of q name) refl e h)
value_of_set_by q name value v vs Greater e Less h r = rw (e, h) r
value_of_set_by q name value v vs Greater e Greater h r = rw (e, h) r

-- a name that was set has the value that was set, and each other name its value from before
pub value_of_set : (q name : List ℕ) (value : Value) (vs : List Variable) → value_named q (with_value name value vs) ≡ (if is_eq (order_of q name) then Some value else value_named q vs)
value_of_set q name value [] = refl
value_of_set q name value (v ∷ vs) = value_of_set_by q name value v vs (order_of name v.name) refl (order_of q v.name) refl (value_of_set q name value vs)
