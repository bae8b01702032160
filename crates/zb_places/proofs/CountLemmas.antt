-- How many members of a list pass.
use Rattle.std.proofs.Common.{◌≡◌, ℕ, zero, suc, ◌+◌, ◌<◌, ◌≤◌, ◌==◌, List, [], ◌∷◌, ◌++◌, length, filter, get_or, slice_set, remove, Bool, true, false, not, ◌||◌, cond, if◌then◌else◌, refl, sym, ap, ◌∙◌, arith}
use Rattle.std.specs.List.{list_any}
use Rattle.zb_places.proofs.FlowLemmas.{suc_not}

module _ {A : Type 0} (p : A → Bool) where
  -- how many pass
  abbrev pub passing : List A → ℕ
  passing xs = length (filter p xs)

  one_by : (t : Bool) (x : A) (xs : List A) → length (cond t (x ∷ filter p xs) (filter p xs)) ≡ passing xs + (if t then 1 else 0)
  one_by true x xs = omega arith
  one_by false x xs = omega arith

  -- with one in front
  pub passing_cons : (x : A) (xs : List A) → passing (x ∷ xs) ≡ passing xs + (if p x then 1 else 0)
  passing_cons x xs = one_by (p x) x xs

  within_by : (t : Bool) (x : A) (xs : List A) → passing xs ≤ length xs → length (cond t (x ∷ filter p xs) (filter p xs)) ≤ suc (length xs)
  within_by true x xs later = omega (arith, later)
  within_by false x xs later = omega (arith, later)

  -- no more than there are
  pub passing_within : (xs : List A) → passing xs ≤ length xs
  passing_within [] = omega arith
  passing_within (x ∷ xs) = within_by (p x) x xs (passing_within xs)

  -- with one behind
  pub passing_more : (xs : List A) (x : A) → passing (xs ++ x ∷ []) ≡ passing xs + (if p x then 1 else 0)
  passing_more [] x = passing_cons x []
  passing_more (y ∷ ys) x = passing_cons y (ys ++ x ∷ []) ∙ omega (arith, passing_more ys x, passing_cons y ys)

  -- without one
  pub passing_fewer : (xs : List A) (i : ℕ) (x : A) → i < length xs → x ≡ get_or xs i x → passing xs ≡ passing (remove xs i) + (if p x then 1 else 0)
  passing_fewer [] i x within at = absurd (omega (arith, within))
  passing_fewer (y ∷ ys) zero x within at = passing_cons y ys ∙ ap (λ (z : A). passing ys + (if p z then 1 else 0)) (sym at)
  passing_fewer (y ∷ ys) (suc i) x within at =
      let later = passing_fewer ys i x (omega (arith, within)) at in
      passing_cons y ys ∙ omega (arith, later, passing_cons y (remove ys i))

  -- with one in place of another that passes just when it does
  pub passing_same : (xs : List A) (i : ℕ) (x y : A) → i < length xs → x ≡ get_or xs i x → p y ≡ p x → passing (slice_set xs i y) ≡ passing xs
  passing_same [] i x y within at same = absurd (omega (arith, within))
  passing_same (z ∷ zs) zero x y within at same =
      passing_cons y zs ∙ (ap (λ (t : Bool). passing zs + (if t then 1 else 0)) (same ∙ ap p at) ∙ sym (passing_cons z zs))
  passing_same (z ∷ zs) (suc i) x y within at same =
      passing_cons z (slice_set zs i y) ∙ (ap (λ (n : ℕ). n + (if p z then 1 else 0)) (passing_same zs i x y (omega (arith, within)) at same) ∙ sym (passing_cons z zs))

  any_by : (t : Bool) (x : A) (xs : List A) → list_any p xs ≡ not (passing xs == 0) → (t || list_any p xs) ≡ not (length (cond t (x ∷ filter p xs) (filter p xs)) == 0)
  any_by true x xs later = ap not (sym (suc_not (passing xs)))
  any_by false x xs later = later

  -- one passes where their number isn't 0
  pub any_passing : (xs : List A) → list_any p xs ≡ not (passing xs == 0)
  any_passing [] = refl
  any_passing (x ∷ xs) = any_by (p x) x xs (any_passing xs)
