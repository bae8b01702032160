-- The first of some faults.
use Rattle.std.proofs.Common.{◌≡◌, ℕ, ◌+◌, ◌<◌, List, length, drop, get_or, Option, Some, None, sym, ap, ◌∙◌}
use Rattle.std.proofs.lemmas.List.{drop_more}
use Rattle.zb_process.specs.declared.model.Model.{Model}
use Rattle.zb_faults.specs.declared.fault.Fault.{Fault}
use Rattle.zb_faults.specs.Faults.{first_fault_among, offender, or_found}

module _ (m : Model) (faults : List Fault) (i : ℕ) (d : Fault) (within : i < length faults) (found : Option (List ℕ)) (told : found ≡ offender (get_or faults i d) m) where
  step : first_fault_among (drop i faults) m ≡ or_found (get_or faults i d) found (first_fault_among (drop (i + 1) faults) m)
  step =
      ap (λ l. first_fault_among l m) (drop_more faults i d within)
      ∙ ap (λ o. or_found (get_or faults i d) o (first_fault_among (drop (i + 1) faults) m)) (sym told)

  pub first_of_here : (id copy : List ℕ) → copy ≡ id → found ≡ Some id → first_fault_among (drop i faults) m ≡ Some (get_or faults i d, copy)
  first_of_here id copy copied is =
      step ∙ (ap (λ o. or_found (get_or faults i d) o (first_fault_among (drop (i + 1) faults) m)) is ∙ ap (λ (text : List ℕ). Some (get_or faults i d, text)) (sym copied))

  pub first_of_later : found ≡ None → first_fault_among (drop i faults) m ≡ first_fault_among (drop (i + 1) faults) m
  first_of_later none = step ∙ ap (λ o. or_found (get_or faults i d) o (first_fault_among (drop (i + 1) faults) m)) none
