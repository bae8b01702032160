-- What the last of some events tells.
use Rattle.std.proofs.Common.{◌≡◌, ℕ, ◌<◌, suc, List, ◌∷◌, length, take, drop, get_or, Option, Some, None, refl, sym, ap, ◌∙◌, drop-cons}
use Rattle.std.specs.Option.{option_or}
use Rattle.std.proofs.lemmas.List.{take-append-drop}
use Rattle.zb_model.specs.declared.record.Event.{Event}
use Rattle.zb_views.specs.Told.{last_told}
use Rattle.zb_views.proofs.ToldLaws.{last_told_joined}

module _ {A : Type 0} (tell : Event → Option A) where
  -- of the events from one on, and of that one and those behind it
  pub last_told_from : (es : List Event) (place : ℕ) (e : Event) → place < length es → e ≡ get_or es place e → last_told tell (drop place es) ≡ option_or (last_told tell (drop (suc place) es)) (tell e)
  last_told_from es place e within is = ap (last_told tell) (drop-cons es place e within ∙ ap (λ (x : Event). x ∷ drop (suc place) es) (sym is))

  -- where those behind it tell nothing, an event that does is the last one
  pub told_last : (es : List Event) (place : ℕ) (e : Event) (x : A) → place < length es → e ≡ get_or es place e → last_told tell (drop (suc place) es) ≡ None → tell e ≡ Some x → last_told tell es ≡ Some x
  told_last es place e x within is none told =
      let behind : last_told tell (drop place es) ≡ Some x = last_told_from es place e within is ∙ rw (none, told) refl in
      ap (last_told tell) (sym (take-append-drop place es))
      ∙ (last_told_joined tell (take place es) (drop place es) ∙ ap (λ (o : Option A). option_or o (last_told tell (take place es))) behind)
