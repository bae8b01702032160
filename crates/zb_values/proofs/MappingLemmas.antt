-- What mappings make, one after the other.
use Rattle.std.proofs.Common.{◌≡◌, ℕ, ◌+◌, ◌++◌, List, [], ◌∷◌, drop, slice_get, Option, Some, None, Result, Ok, Err, option_map, refl, sym, ap, subst, ◌∙◌, append_assoc}
use Rattle.std.proofs.lemmas.Option.{slice_get_within, get_or_from_slice_get}
use Rattle.std.proofs.lemmas.List.{drop_more}
use Rattle.zb_base.specs.Results.{◌>>=◌}
use Rattle.zb_base.specs.declared.value.Value.{Value}
use Rattle.zb_base.specs.declared.vars.Variable.{Variable}
use Rattle.zb_process.specs.declared.model.Mapping.{Mapping}
use Rattle.zb_process.specs.Expr.{ValueFault, value_of}
use Rattle.zb_process.specs.Tree.{Tree}
use Rattle.zb_expr.specs.Outcome.{IsTold}
use Rattle.zb_expr.specs.declared.fault.EvalFault.{EvalFault}
use Rattle.zb_expr.proofs.RunLemmas.{told-too}
use Rattle.zb_tokens.specs.Mappings.{mapped}

-- what is made so far, and then the rest
abbrev pub behind : List Variable → Result (List Variable) ValueFault → Result (List Variable) ValueFault
behind made rest = rest >>= (λ vs. Ok (made ++ vs))

module _ (names : List ℕ → Option Value) where
  one_more : (v : Variable) (made : List Variable) (rest : Result (List Variable) ValueFault) → behind made (rest >>= (λ vs. Ok (v ∷ vs))) ≡ behind (made ++ v ∷ []) rest
  one_more v made (Ok vs) = ap Ok (sym (append_assoc made (v ∷ []) vs))
  one_more v made (Err e) = refl

  -- a source that has a value makes one variable more
  pub mapped_more : (m : Mapping) (ms : List Mapping) (made : List Variable) (value : Value) → value_of names m.source ≡ Ok value
      → behind made (mapped names (m ∷ ms)) ≡ behind (made ++ record { name = m.target; value = value } ∷ []) (mapped names ms)
  mapped_more m ms made value gives = rw gives (one_more (record { name = m.target; value = value }) made (mapped names ms))

  -- one that has none is why there are none
  pub mapped_stops : (m : Mapping) (ms : List Mapping) (made : List Variable) (e : ValueFault) → value_of names m.source ≡ Err e → behind made (mapped names (m ∷ ms)) ≡ Err e
  mapped_stops m ms made e gives = rw gives refl

-- the mapping at a place, where its source is known
pub record StandsAtPlace (ms : List Mapping) (i : ℕ) (source : Tree) : Type 0 where
  pub mapping : Mapping
  pub is : mapping.source ≡ source
  pub there : slice_get ms i ≡ Some mapping
  pub left : drop i ms ≡ mapping ∷ drop (i + 1) ms

place_by : (ms : List Mapping) (i : ℕ) (source : Tree) (found : Option Mapping) → slice_get ms i ≡ found → option_map (λ (m : Mapping). m.source) found ≡ Some source → StandsAtPlace ms i source
place_by ms i source None there is = absurd (cc)
place_by ms i source (Some m) there is = record {
  mapping = m;
  is = cc;
  there = there;
  left = drop_more ms i m (slice_get_within ms i m there) ∙ ap (λ (x : Mapping). x ∷ drop (i + 1) ms) (get_or_from_slice_get ms i m m there);
}

-- it is the one whose source that is
pub at_place : (ms : List Mapping) (i : ℕ) (source : Tree) → option_map (λ (m : Mapping). m.source) (slice_get ms i) ≡ Some source → StandsAtPlace ms i source
at_place ms i source is = place_by ms i source (slice_get ms i) refl is

module _ (names : List ℕ → Option Value) (ms : List Mapping) (made : List Variable) (i : ℕ) (source : Tree) (at : option_map (λ (m : Mapping). m.source) (slice_get ms i) ≡ Some source) (left : behind made (mapped names (drop i ms)) ≡ mapped names ms) where
  from_here : behind made (mapped names ((at_place ms i source at).mapping ∷ drop (i + 1) ms)) ≡ mapped names ms
  from_here = subst (λ (xs : List Mapping). behind made (mapped names xs) ≡ mapped names ms) (at_place ms i source at).left left

  -- a fault of the source at a place is that of all
  pub fault_here : (fault : EvalFault) → IsTold fault (value_of names source) → IsTold fault (mapped names ms)
  fault_here fault told =
      let p = at_place ms i source at in
      told-too fault (value_of names source) (mapped names ms) (λ e is. sym from_here ∙ mapped_stops names p.mapping (drop (i + 1) ms) made e (ap (value_of names) p.is ∙ is)) told

  -- where it has a value, the mappings behind it are left
  pub left_behind : (m : Mapping) (value : Value) → slice_get ms i ≡ Some m → value_of names source ≡ Ok value → behind (made ++ record { name = m.target; value = value } ∷ []) (mapped names (drop (i + 1) ms)) ≡ mapped names ms
  left_behind m value there gives =
      let p = at_place ms i source at in
      let same : p.mapping ≡ m = (let e : Some p.mapping ≡ Some m = sym p.there ∙ there in cc) in
      subst (λ (x : Mapping). behind (made ++ record { name = x.target; value = value } ∷ []) (mapped names (drop (i + 1) ms)) ≡ mapped names ms) same
      (sym (mapped_more names p.mapping (drop (i + 1) ms) made value (ap (value_of names) p.is ∙ gives)) ∙ from_here)
