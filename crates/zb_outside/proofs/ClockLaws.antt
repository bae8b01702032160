-- Laws of what Clock.antt defines.
use Rattle.std.proofs.Common.{◌+◌, ◌-◌, ◌<◌, ℕ, List, [], ◌∷◌, Contains, min, length, ap, ◌∙◌, arith}
use Rattle.std.proofs.lemmas.List.Elements.{Contains-get_or}
use Rattle.zb_outside.specs.Clock.{clock_moments, told_at, HasGoneOn}

some_moments : (moments : List ℕ) → 0 < length (clock_moments moments)
some_moments [] = omega arith
some_moments (moment ∷ moments) = omega arith

-- what a clock over a list reads is of the list
pub told_listed : (moments : List ℕ) (readings : ℕ) → Contains (clock_moments moments) (told_at moments readings)
told_listed moments readings =
    let within : min readings (length (clock_moments moments) - 1) < length (clock_moments moments) = omega (arith, some_moments moments) in
    Contains-get_or (clock_moments moments) (min readings (length (clock_moments moments) - 1)) 0 within

-- a clock that wasn't read
pub gone_nowhere : (upcoming : ℕ → ℕ) → HasGoneOn upcoming upcoming
gone_nowhere upcoming = (0, λ k. ap upcoming (omega arith))

-- one that went on, and went on further
pub gone_further : (old mid new : ℕ → ℕ) → HasGoneOn old mid → HasGoneOn mid new → HasGoneOn old new
gone_further old mid new first then = (
  then.0 + first.0,
  λ k. then.1 k ∙ (first.1 (k + then.0) ∙ ap old (omega arith)),
)
