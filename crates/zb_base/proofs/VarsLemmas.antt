-- Variables whose names ascend, and the place of a name among them.
use Rattle.std.proofs.Common.{◌≡◌, ℕ, zero, suc, Bool, true, false, ◌&&◌, IsTrue, None, Some, List, [], ◌∷◌, take, get_or, set, refl, ap, subst, ◌∙◌, arith}
use Rattle.std.specs.declared.cmp.Ordering.{Ordering}
use Rattle.std.specs.declared.cmp.Ordering.TheVariants.{Less, Equal, Greater}
use Rattle.std.specs.Ordering.{is_lt, ordering_reverse}
use Rattle.std.specs.List.{insert}
use Rattle.std.proofs.lemmas.Cmp.{nat_list_cmp_total}
use Rattle.std.proofs.lemmas.List.Elements.{All-head, All-tail}
use Rattle.std.proofs.lemmas.Map.Lookups.{exact_bytes}
use Rattle.zb_base.specs.declared.value.Value.{Value}
use Rattle.zb_base.specs.declared.vars.Variable.{Variable}
use Rattle.zb_base.specs.Vars.{order_of, order_at, is_ascending, value_named, with_value, StandsAt}

and_left : (a b : Bool) → (a && b) ≡ true → a ≡ true
and_left true b h = refl
and_left false b h = cc

and_right : (a b : Bool) → (a && b) ≡ true → b ≡ true
and_right true b h = h
and_right false b h = cc

is_less : (o : Ordering) → is_lt o ≡ true → o ≡ Less
is_less Less h = refl
is_less Equal h = cc
is_less Greater h = cc

-- what is known of a name that stands behind the first of the variables
behind_first : (name : List ℕ) (v : Variable) (vs : List Variable) (o : Ordering) (i : ℕ) → StandsAt name (v ∷ vs) o (suc i) → order_of name v.name ≡ Greater
behind_first name v vs o i s = All-head (λ (w : Variable). order_of name w.name ≡ Greater) v (take i vs) s.behind

stands_in_rest : (name : List ℕ) (v : Variable) (vs : List Variable) (o : Ordering) (i : ℕ) → StandsAt name (v ∷ vs) o (suc i) → StandsAt name vs o i
stands_in_rest name v vs o i s = record {
  within = omega (arith, s.within);
  behind = All-tail (λ (w : Variable). order_of name w.name ≡ Greater) v (take i vs) s.behind;
  next = s.next;
}

-- a name that stands among the variables has its value
pub value_of_found : (name : List ℕ) (vs : List Variable) (i : ℕ) (d : Variable) → StandsAt name vs Equal i → value_named name vs ≡ Some (get_or vs i d).value
value_of_found name [] zero d s = cc (s.next)
value_of_found name [] (suc i) d s = cc (s.next)
value_of_found name (v ∷ vs) zero d s = rw s.next
value_of_found name (v ∷ vs) (suc i) d s =
    rw (behind_first name v vs Equal i s) (value_of_found name vs i d (stands_in_rest name v vs Equal i s))

-- and is set there
pub with_value_found : (name : List ℕ) (value : Value) (vs : List Variable) (i : ℕ) → StandsAt name vs Equal i → set vs i (record { name = name; value = value }) ≡ with_value name value vs
with_value_found name value [] zero s = cc (s.next)
with_value_found name value [] (suc i) s = cc (s.next)
with_value_found name value (v ∷ vs) zero s = rw s.next
with_value_found name value (v ∷ vs) (suc i) s =
    rw (behind_first name v vs Equal i s) (ap (λ ws. v ∷ ws) (with_value_found name value vs i (stands_in_rest name v vs Equal i s)))

-- a name that doesn't stand there is set where it would stand
pub with_value_missing : (name : List ℕ) (value : Value) (vs : List Variable) (i : ℕ) → StandsAt name vs Less i → insert vs i (record { name = name; value = value }) ≡ with_value name value vs
with_value_missing name value [] zero s = refl
with_value_missing name value [] (suc i) s = absurd (omega (arith, s.within))
with_value_missing name value (v ∷ vs) zero s = rw s.next
with_value_missing name value (v ∷ vs) (suc i) s =
    rw (behind_first name v vs Less i s) (ap (λ ws. v ∷ ws) (with_value_missing name value vs i (stands_in_rest name v vs Less i s)))

-- a name before one that comes before all of the variables comes before all of them too
before_next : (name : List ℕ) (v : Variable) (vs : List Variable) → order_of name v.name ≡ Less → is_lt (order_at v.name vs) ≡ true → order_at name vs ≡ Less
before_next name v [] h a = refl
before_next name v (w ∷ vs) h a = nat_list_cmp_total.trans name v.name w.name h (is_less (order_of v.name w.name) a)

-- a name that comes before all of the variables has no value
value_of_before : (name : List ℕ) (vs : List Variable) → IsTrue (is_ascending vs) → order_at name vs ≡ Less → value_named name vs ≡ None
value_of_before name [] a h = refl
value_of_before name (v ∷ vs) a h =
    rw h (value_of_before name vs (and_right (is_lt (order_at v.name vs)) (is_ascending vs) a) (before_next name v vs h (and_left (is_lt (order_at v.name vs)) (is_ascending vs) a)))

-- a name that doesn't stand among them has no value
pub value_of_missing : (name : List ℕ) (vs : List Variable) (i : ℕ) → IsTrue (is_ascending vs) → StandsAt name vs Less i → value_named name vs ≡ None
value_of_missing name [] i a s = refl
value_of_missing name (v ∷ vs) zero a s = value_of_before name (v ∷ vs) a s.next
value_of_missing name (v ∷ vs) (suc i) a s =
    rw (behind_first name v vs Less i s) (value_of_missing name vs i (and_right (is_lt (order_at v.name vs)) (is_ascending vs) a) (stands_in_rest name v vs Less i s))

both : (a b : Bool) → a ≡ true → b ≡ true → (a && b) ≡ true
both a b p q = rw (p, q)

first_stays : (before name : List ℕ) (value : Value) (v : Variable) (vs : List Variable) (o : Ordering) → order_of name v.name ≡ o → order_of before name ≡ Less → is_lt (order_at before (v ∷ vs)) ≡ true → order_at before (with_value name value (v ∷ vs)) ≡ Less
first_stays before name value v vs Less e h a = rw e h
first_stays before name value v vs Equal e h a = rw e h
first_stays before name value v vs Greater e h a = rw e (is_less (order_of before v.name) a)

-- what came before all of the variables, and before the new name, comes before all of them still
order_at-with_value : (before name : List ℕ) (value : Value) (vs : List Variable) → order_of before name ≡ Less → is_lt (order_at before vs) ≡ true → order_at before (with_value name value vs) ≡ Less
order_at-with_value before name value [] h a = h
order_at-with_value before name value (v ∷ vs) h a = first_stays before name value v vs (order_of name v.name) refl h a

ascending_step : (name : List ℕ) (value : Value) (v : Variable) (vs : List Variable) (o : Ordering) → order_of name v.name ≡ o → is_ascending (v ∷ vs) ≡ true → is_ascending (with_value name value vs) ≡ true → is_ascending (with_value name value (v ∷ vs)) ≡ true
ascending_step name value v vs Less e a r = rw e (rw e a)
ascending_step name value v vs Equal e a r =
    let first : is_lt (order_at v.name vs) ≡ true = and_left (is_lt (order_at v.name vs)) (is_ascending vs) a in
    let rest : is_ascending vs ≡ true = and_right (is_lt (order_at v.name vs)) (is_ascending vs) a in
    rw e (both (is_lt (order_at name vs)) (is_ascending vs) (ap (λ n. is_lt (order_at n vs)) (exact_bytes name v.name e) ∙ first) rest)
ascending_step name value v vs Greater e a r =
    let first : is_lt (order_at v.name vs) ≡ true = and_left (is_lt (order_at v.name vs)) (is_ascending vs) a in
    let behind : order_of v.name name ≡ Less = nat_list_cmp_total.antisymm v.name name ∙ ap ordering_reverse e in
    rw e (both (is_lt (order_at v.name (with_value name value vs))) (is_ascending (with_value name value vs)) (ap is_lt (order_at-with_value v.name name value vs behind first)) r)

-- names that ascend still do with one more
pub is_ascending-with_value : (name : List ℕ) (value : Value) (vs : List Variable) → IsTrue (is_ascending vs) → IsTrue (is_ascending (with_value name value vs))
is_ascending-with_value name value [] a = refl
is_ascending-with_value name value (v ∷ vs) a =
    ascending_step name value v vs (order_of name v.name) refl a (is_ascending-with_value name value vs (and_right (is_lt (order_at v.name vs)) (is_ascending vs) a))

-- the same of equal names and variables
pub stands_in_same : (n name : List ℕ) (ws vs : List Variable) (o : Ordering) (i : ℕ) → n ≡ name → ws ≡ vs → StandsAt n ws o i → StandsAt name vs o i
stands_in_same n name ws vs o i p q s =
    subst (λ (m : List ℕ). StandsAt m vs o i) p (subst (λ (us : List Variable). StandsAt n us o i) q s)
