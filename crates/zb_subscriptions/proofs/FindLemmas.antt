-- The first one of some that passes, from a place on.
use Rattle.std.proofs.Common.{◌≡◌, ℕ, suc, ◌+◌, ◌<◌, List, length, get_or, drop, drop-cons, Bool, true, false, cond, Some, sym, ap, ◌∙◌, arith}
use Rattle.std.specs.List.{find}

module _ {A : Type 0} (p : A → Bool) (xs : List A) (i : ℕ) (x : A) (within : i < length xs) (is : x ≡ get_or xs i x) where
  step : find p (drop i xs) ≡ cond (p x) (Some x) (find p (drop (i + 1) xs))
  step =
      let up : suc i ≡ i + 1 = omega arith in
      ap (find p) (drop-cons xs i x within) ∙ (ap (λ y. cond (p y) (Some y) (find p (drop (suc i) xs))) (sym is) ∙ ap (λ (n : ℕ). cond (p x) (Some x) (find p (drop n xs))) up)

  -- the one at the place passes
  pub found_here : p x ≡ true → find p (drop i xs) ≡ Some x
  found_here so = step ∙ ap (λ (t : Bool). cond t (Some x) (find p (drop (i + 1) xs))) so

  -- it doesn't, so the first one is behind it
  pub found_later : p x ≡ false → find p (drop i xs) ≡ find p (drop (i + 1) xs)
  found_later so = step ∙ ap (λ (t : Bool). cond t (Some x) (find p (drop (i + 1) xs))) so
