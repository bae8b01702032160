-- Laws of what the last of some events tells.
use Rattle.std.proofs.Common.{◌≡◌, List, [], ◌∷◌, ◌++◌, Option, Some, None, refl, ap, ◌∙◌}
use Rattle.std.specs.Option.{option_or}
use Rattle.zb_model.specs.declared.record.Event.{Event}
use Rattle.zb_views.specs.Told.{last_told}

or_behind : {A : Type 0} (told last first : Option A) → option_or (option_or told last) first ≡ option_or told (option_or last first)
or_behind None last first = refl
or_behind (Some x) last first = refl

or_none : {A : Type 0} (told : Option A) → told ≡ option_or told None
or_none None = refl
or_none (Some x) = refl

module _ {A : Type 0} (tell : Event → Option A) where
  -- of two lists, one behind the other
  pub last_told_joined : (first behind : List Event) → last_told tell (first ++ behind) ≡ option_or (last_told tell behind) (last_told tell first)
  last_told_joined [] behind = or_none (last_told tell behind)
  last_told_joined (e ∷ first) behind = ap (λ (o : Option A). option_or o (tell e)) (last_told_joined first behind) ∙ or_behind (last_told tell behind) (last_told tell first) (tell e)

  -- behind an event more
  pub last_told_more : (es : List Event) (e : Event) → last_told tell (es ++ e ∷ []) ≡ option_or (tell e) (last_told tell es)
  last_told_more es e = last_told_joined es (e ∷ [])
