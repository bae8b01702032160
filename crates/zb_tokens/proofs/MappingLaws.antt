-- Laws of mappings, and of cells that complete with them, in the subject's own words.
use Rattle.std.proofs.Common.{◌≡◌, ◌⊎◌, ℕ, List, [], ◌∷◌, IsTrue, Option, Result, Ok, Err, refl, inl, inr, ap, subst}
use Rattle.std.specs.Result.{is_ok}
use Rattle.std.proofs.lemmas.List.Elements.{All-nil, All-cons}
use Rattle.zb_base.specs.Results.{◌>>=◌}
use Rattle.zb_base.specs.declared.value.Value.{Value}
use Rattle.zb_base.specs.declared.vars.Variable.{Variable}
use Rattle.zb_process.specs.declared.model.Mapping.{Mapping}
use Rattle.zb_process.specs.Expr.{ValueFault, value_of}
use Rattle.zb_tokens.specs.declared.board.Cell.{Cell}
use Rattle.zb_tokens.specs.Board.{Board}
use Rattle.zb_tokens.specs.Incidents.{Hindrance}
use Rattle.zb_tokens.specs.Mappings.{mapped, outputs_of}
use Rattle.zb_tokens.specs.MoveLeave.{exit_of, completion_of}
use Rattle.zb_tokens.specs.Mapped.{AreMapped, IsFirstFault, IsKeptBy}

module _ (names : List ℕ → Option Value) where
  mapped_by : (m : Mapping) (ms : List Mapping) (value : Result Value ValueFault) (rest : Result (List Variable) ValueFault) (vs : List Variable) → value_of names m.source ≡ value
      → ((later : List Variable) → rest ≡ Ok later → AreMapped names ms later) → (value >>= (λ x. rest >>= (λ xs. Ok (record { name = m.target; value = x } ∷ xs)))) ≡ Ok vs → AreMapped names (m ∷ ms) vs
  mapped_by m ms (Ok value) (Ok later) vs gives behind is =
      subst (AreMapped names (m ∷ ms)) (let same : record { name = m.target; value = value } ∷ later ≡ vs = cc in same) (refl, gives, behind later refl)
  mapped_by m ms (Ok value) (Err fault) vs gives behind is = absurd (cc)
  mapped_by m ms (Err fault) rest vs gives behind is = absurd (cc)

  -- each source gives its target a value, and all are asked of the same names
  pub values_mapped : (ms : List Mapping) (vs : List Variable) → mapped names ms ≡ Ok vs → AreMapped names ms vs
  values_mapped [] vs is = subst (AreMapped names []) (let same : [] ≡ vs = cc in same) tt
  values_mapped (m ∷ ms) vs is = mapped_by m ms (value_of names m.source) (mapped names ms) vs refl (values_mapped ms) is

  faulty_by : (m : Mapping) (ms : List Mapping) (value : Result Value ValueFault) (rest : Result (List Variable) ValueFault) (fault : ValueFault) → value_of names m.source ≡ value
      → (rest ≡ Err fault → IsFirstFault names ms fault) → (value >>= (λ x. rest >>= (λ xs. Ok (record { name = m.target; value = x } ∷ xs)))) ≡ Err fault → IsFirstFault names (m ∷ ms) fault
  faulty_by m ms (Ok value) (Ok later) fault gives behind is = absurd (cc)
  faulty_by m ms (Ok value) (Err other) fault gives behind is =
      let r = behind (cc) in
      record {
        front = m ∷ r.front;
        mapping = r.mapping;
        back = r.back;
        whole = ap (λ xs. m ∷ xs) r.whole;
        in_front = All-cons (λ (x : Mapping). IsTrue (is_ok (value_of names x.source))) m r.front (rw gives refl) r.in_front;
        faulty = r.faulty;
      }
  faulty_by m ms (Err other) rest fault gives behind is =
      let same : other ≡ fault = cc in
      record { front = []; mapping = m; back = ms; whole = refl; in_front = All-nil (λ (x : Mapping). IsTrue (is_ok (value_of names x.source))); faulty = subst (λ (e : ValueFault). value_of names m.source ≡ Err e) same gives }

  -- a fault is that of the first source that has one
  pub first_fault_mapped : (ms : List Mapping) (fault : ValueFault) → mapped names ms ≡ Err fault → IsFirstFault names ms fault
  first_fault_mapped [] fault is = absurd (cc)
  first_fault_mapped (m ∷ ms) fault is = faulty_by m ms (value_of names m.source) (mapped names ms) fault refl (first_fault_mapped ms fault) is

-- a result that another comes before
both_there : {A B E : Type 0} (r : Result A E) (s : Result B E) (x : B) → (r >>= (λ y. s)) ≡ Ok x → IsTrue (is_ok r) × (s ≡ Ok x)
both_there (Ok y) s x is = (refl, is)
both_there (Err e) s x is = absurd (cc)

first_of_both : {A B E : Type 0} (r : Result A E) (s : Result B E) (e : E) → (r >>= (λ y. s)) ≡ Err e → (r ≡ Err e) ⊎ (IsTrue (is_ok r) × (s ≡ Err e))
first_of_both (Ok y) s e is = inr (refl, is)
first_of_both (Err d) s e is = inl (cc)

module _ (b : Board) (c : Cell) where
  -- a cell that completes has outputs with values, and is left by these flows
  pub completed_with : (owed : List (List ℕ)) → completion_of b c ≡ Ok owed → IsTrue (is_ok (outputs_of b c)) × (exit_of b c ≡ Ok owed)
  completed_with owed is = both_there (outputs_of b c) (exit_of b c) owed is

  -- one that can't has a fault in its outputs, or else can't be left
  pub completion_fails : (hindrance : Hindrance) → completion_of b c ≡ Err hindrance → IsKeptBy b c hindrance
  completion_fails hindrance is = first_of_both (outputs_of b c) (exit_of b c) hindrance is
