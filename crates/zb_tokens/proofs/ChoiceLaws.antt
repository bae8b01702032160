-- Laws of choices, in the subject's own words.
use Rattle.std.proofs.Common.{◌≡◌, ◌⊎◌, ℕ, List, [], ◌∷◌, ◌++◌, All, Contains, cond, Bool, true, false, not, ◌&&◌, Option, Some, None, Result, Ok, Err, refl, inl, inr, sym, ap, subst}
use Rattle.std.specs.Option.{option_map_or, ok_or}
use Rattle.std.specs.List.{find}
use Rattle.std.specs.Str.{bytes_eq}
use Rattle.std.proofs.lemmas.Bool.{and_parts, and_from, not-true}
use Rattle.std.proofs.lemmas.Slice.Eq.{bytes_eq-Decides}
use Rattle.std.proofs.lemmas.List.Elements.{All-nil, All-cons, All-head, All-contains_itself, Contains-append_right}
use Rattle.zb_base.specs.Results.{◌>>=◌}
use Rattle.zb_base.specs.declared.value.Value.{Value}
use Rattle.zb_base.specs.declared.value.Value.TheVariants as values
use Rattle.zb_process.specs.declared.model.Node.{Node}
use Rattle.zb_process.specs.declared.model.Flow.{Flow}
use Rattle.zb_process.specs.Tree.{Tree}
use Rattle.zb_process.specs.Expr.{ValueFault, value_of}
use Rattle.zb_instance_records.specs.declared.happening.IncidentKind.TheVariants as kinds
use Rattle.zb_tokens.specs.Incidents.{Hindrance}
use Rattle.zb_tokens.specs.Edits.{is_none_of}
use Rattle.zb_tokens.specs.Choice.{Gateway, truth_of, truth_at, is_false, is_default, decides, decided, by_default, choice_at}
use Rattle.zb_tokens.specs.Chosen.{HasTruth, HasFault, IsDefault, AreFalse, IsEvaluated, IsChoice, IsUndecided}
use Rattle.zb_tokens.proofs.GameLaws.{found_holds, found_passes, none_found}

-- a list taken apart at the first member that passes
record IsFirstIn {A : Type 0} (P : A → Type 0) (xs : List A) (x : A) : Type 0 where
  front : List A
  back : List A
  whole : xs ≡ front ++ x ∷ back
  in_front : All P front

module _ {A : Type 0} (passes : A → Bool) (P : A → Type 0) (fails : (x : A) → passes x ≡ false → P x) where
  apart_by : (t : Bool) (y : A) (ys : List A) (x : A) → passes y ≡ t → (find passes ys ≡ Some x → IsFirstIn P ys x) → cond t (Some y) (find passes ys) ≡ Some x → IsFirstIn P (y ∷ ys) x
  apart_by true y ys x it later is = let same : y ≡ x = cc in record { front = []; back = ys; whole = ap (λ z. z ∷ ys) same; in_front = All-nil P }
  apart_by false y ys x it later is =
      let r = later is in
      record { front = y ∷ r.front; back = r.back; whole = ap (λ zs. y ∷ zs) r.whole; in_front = All-cons P y r.front (fails y it) r.in_front }

  -- the one that is found, what doesn't pass in front of it, and what is behind
  found_apart : (xs : List A) (x : A) → find passes xs ≡ Some x → IsFirstIn P xs x
  found_apart [] x is = absurd (cc)
  found_apart (y ∷ ys) x is = apart_by (passes y) y ys x refl (found_apart ys x) is

-- a flow is the default where it has the id that the gateway names
named_one : (id : List ℕ) → not (is_none_of id) ≡ true → ¬ (id ≡ [])
named_one [] it = absurd (cc)
named_one (byte ∷ id) it = λ same. absurd (cc)

one_named : (id : List ℕ) → ¬ (id ≡ []) → not (is_none_of id) ≡ true
one_named [] it = absurd (it refl)
one_named (byte ∷ id) it = refl

is_default_one : (n : Node) (f : Flow) → is_default n f ≡ true → IsDefault n f
is_default_one n f it =
    let h = and_parts (not (is_none_of n.otherwise)) (bytes_eq f.id n.otherwise) it in
    ((bytes_eq-Decides f.id n.otherwise).0 h.1, named_one n.otherwise h.0)

no_default_one : (n : Node) (f : Flow) → is_default n f ≡ false → ¬ (IsDefault n f)
no_default_one n f out = λ d.
    let is : is_default n f ≡ true = and_from (not (is_none_of n.otherwise)) (bytes_eq f.id n.otherwise) (one_named n.otherwise d.1) ((bytes_eq-Decides f.id n.otherwise).1 d.0) in
    cc

module _ (names : List ℕ → Option Value) where
  false_at : (f : Flow) (condition : Tree) (value : Result Value ValueFault) → f.condition ≡ Some condition → value_of names condition ≡ value → is_false (value >>= truth_of) ≡ true → HasTruth names false f
  false_at f condition (Ok (values.Bool false)) has gives it = (condition, has, gives)
  false_at f condition value has gives it = absurd (cc)

  false_by : (f : Flow) (condition : Option Tree) → f.condition ≡ condition → is_false (option_map_or (λ t. value_of names t >>= truth_of) condition (Ok true)) ≡ true → HasTruth names false f
  false_by f None has it = absurd (cc)
  false_by f (Some condition) has it = false_at f condition (value_of names condition) has refl it

  -- a condition is false only where there is one, and it has that value
  is_false_one : (f : Flow) → is_false (truth_at names f) ≡ true → HasTruth names false f
  is_false_one f it = false_by f f.condition refl it

  true_at : (f : Flow) (condition : Tree) (value : Result Value ValueFault) → f.condition ≡ Some condition → value_of names condition ≡ value → (value >>= truth_of) ≡ Ok true → HasTruth names true f
  true_at f condition (Ok (values.Bool true)) has gives it = (condition, has, gives)
  true_at f condition value has gives it = absurd (cc)

  true_by : (f : Flow) (condition : Option Tree) → f.condition ≡ condition → option_map_or (λ t. value_of names t >>= truth_of) condition (Ok true) ≡ Ok true → (f.condition ≡ None) ⊎ HasTruth names true f
  true_by f None has it = inl has
  true_by f (Some condition) has it = inr (true_at f condition (value_of names condition) has refl it)

  fault_at : (f : Flow) (condition : Tree) (fault : ValueFault) (value : Result Value ValueFault) → f.condition ≡ Some condition → value_of names condition ≡ value → (value >>= truth_of) ≡ Err fault → HasFault names fault f
  fault_at f condition fault (Err other) has gives it = (condition, has, inl (let same : other ≡ fault = cc in subst (λ (e : ValueFault). value_of names condition ≡ Err e) same gives))
  fault_at f condition fault (Ok (values.Bool truth)) has gives it = absurd (cc)
  fault_at f condition fault (Ok value) has gives it = (condition, has, inr (value, gives, (λ truth same. absurd (cc)), cc))

  fault_by : (f : Flow) (fault : ValueFault) (condition : Option Tree) → f.condition ≡ condition → option_map_or (λ t. value_of names t >>= truth_of) condition (Ok true) ≡ Err fault → HasFault names fault f
  fault_by f fault None has it = absurd (cc)
  fault_by f fault (Some condition) has it = fault_at f condition fault (value_of names condition) has refl it

  -- a flow that doesn't decide is the default, or false
  passed_by : (n : Node) (f : Flow) (default out : Bool) → is_default n f ≡ default → is_false (truth_at names f) ≡ out → (not default && not out) ≡ false → IsDefault n f ⊎ HasTruth names false f
  passed_by n f true out is falls it = inl (is_default_one n f is)
  passed_by n f false true is falls it = inr (is_false_one f falls)
  passed_by n f false false is falls it = absurd (cc)

  passed : (n : Node) (f : Flow) → decides names n f ≡ false → IsDefault n f ⊎ HasTruth names false f
  passed n f it = passed_by n f (is_default n f) (is_false (truth_at names f)) refl refl it

  module _ (g : Gateway) where
    reached : (f : Flow) → find (decides names g.node) g.outs ≡ Some f → IsEvaluated names g f
    reached f found =
        let r = found_apart (decides names g.node) (λ (x : Flow). IsDefault g.node x ⊎ HasTruth names false x) (passed g.node) g.outs f found in
        let it = and_parts (not (is_default g.node f)) (not (is_false (truth_at names f))) (found_passes (decides names g.node) g.outs f found) in
        record { front = r.front; back = r.back; whole = r.whole; in_front = r.in_front; other = no_default_one g.node f (not-true (is_default g.node f) it.0) }

    all_false : find (decides names g.node) g.outs ≡ None → AreFalse names g.node g.outs
    all_false none = none_found (decides names g.node) (λ (x : Flow). IsDefault g.node x ⊎ HasTruth names false x) (passed g.node) g.outs none

    decided_by : (d f : Flow) (truth : Result Bool ValueFault) → find (decides names g.node) g.outs ≡ Some d → truth_at names d ≡ truth → not (is_false truth) ≡ true → decided d truth ≡ Ok f → IsChoice names g f
    decided_by d f (Ok true) found is holds it = let same : d ≡ f = cc in subst (IsChoice names g) same (inl (reached d found, true_by d d.condition refl is))
    decided_by d f (Ok false) found is holds it = absurd (cc)
    decided_by d f (Err fault) found is holds it = absurd (cc)

    defaulted : (f : Flow) (d : Option Flow) → AreFalse names g.node g.outs → find (is_default g.node) g.outs ≡ d → ok_or {E = Hindrance} d (record { kind = kinds.ConditionError; text = g.node.id }) ≡ Ok f → IsChoice names g f
    defaulted f None none found it = absurd (cc)
    defaulted f (Some d) none found it =
        let same : d ≡ f = cc in
        let r = found_holds (is_default g.node) (Contains g.outs) g.outs d (All-contains_itself g.outs) found in
        subst (IsChoice names g) same (inr (r.0, is_default_one g.node d r.1, none))

    chosen_by : (f : Flow) (d : Option Flow) → find (decides names g.node) g.outs ≡ d → option_map_or (λ x. decided x (truth_at names x)) d (by_default g) ≡ Ok f → IsChoice names g f
    chosen_by f None found it = defaulted f (find (is_default g.node) g.outs) (all_false found) refl it
    chosen_by f (Some d) found it =
        let it_holds = and_parts (not (is_default g.node d)) (not (is_false (truth_at names d))) (found_passes (decides names g.node) g.outs d found) in
        decided_by d f (truth_at names d) found refl it_holds.1 it

    -- a flow that is chosen is the first that can be taken, or the default where there is none
    pub is_choice : (f : Flow) → choice_at names g ≡ Ok f → IsChoice names g f
    is_choice f it = chosen_by f (find (decides names g.node) g.outs) refl it

    -- and it is one of the flows out of the gateway
    pub chosen_out : (f : Flow) → IsChoice names g f → Contains g.outs f
    chosen_out f (inl first) = subst (λ (fs : List Flow). Contains fs f) (sym first.0.whole) (Contains-append_right first.0.front (f ∷ first.0.back) f (All-head (Contains (f ∷ first.0.back)) f first.0.back (All-contains_itself (f ∷ first.0.back))))
    chosen_out f (inr default) = default.0

    faulty_by : (d : Flow) (hindrance : Hindrance) (truth : Result Bool ValueFault) → find (decides names g.node) g.outs ≡ Some d → truth_at names d ≡ truth → decided d truth ≡ Err hindrance → IsUndecided names g hindrance
    faulty_by d hindrance (Ok truth) found is it = absurd (cc)
    faulty_by d hindrance (Err fault) found is it = inl (d, fault, reached d found, fault_by d fault d.condition refl is, cc)

    no_default : (hindrance : Hindrance) (d : Option Flow) → AreFalse names g.node g.outs → find (is_default g.node) g.outs ≡ d → ok_or {E = Hindrance} d (record { kind = kinds.ConditionError; text = g.node.id }) ≡ Err hindrance → IsUndecided names g hindrance
    no_default hindrance None none found it = inr (none, none_found (is_default g.node) (λ (x : Flow). ¬ (IsDefault g.node x)) (no_default_one g.node) g.outs found, cc)
    no_default hindrance (Some d) none found it = absurd (cc)

    undecided_by : (hindrance : Hindrance) (d : Option Flow) → find (decides names g.node) g.outs ≡ d → option_map_or (λ x. decided x (truth_at names x)) d (by_default g) ≡ Err hindrance → IsUndecided names g hindrance
    undecided_by hindrance None found it = no_default hindrance (find (is_default g.node) g.outs) (all_false found) refl it
    undecided_by hindrance (Some d) found it = faulty_by d hindrance (truth_at names d) found refl it

    -- where no flow is chosen, the first that could be taken is faulty, or there is neither such a one nor a default
    pub is_undecided : (hindrance : Hindrance) → choice_at names g ≡ Err hindrance → IsUndecided names g hindrance
    is_undecided hindrance it = undecided_by hindrance (find (decides names g.node) g.outs) refl it
