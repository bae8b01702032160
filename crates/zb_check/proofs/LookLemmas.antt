-- What is found among some items and one more.
use Rattle.std.proofs.Common.{◌≡◌, ℕ, ◌+◌, ◌<◌, List, [], ◌∷◌, take, drop, length, get_or, Option, Some, None, Bool, true, false, cond, refl, ap, sym, ◌∙◌, Bor, count_by, nat_lt, is_some, ◌||◌, arith}
use Rattle.std.specs.List.{find, list_any}
use Rattle.std.specs.Option.{option_copied, option_or}
use Rattle.std.proofs.lemmas.List.{drop_more, take_more}
use Rattle.std.proofs.lemmas.List.Folds.{find-append}
use Rattle.std.proofs.lemmas.Bool.Decides.{nat_tests}
use Rattle.std.proofs.lemmas.List.Sums.{sum_by-cons}

-- what a reference is to, where one was kept beside those that were there
pub copied_or : {A : Type 0} (o : Option (Bor A)) (t : Bool) (x : Bor A) → option_copied (option_or o (cond t (Some x) None)) ≡ option_or (option_copied o) (cond t (Some x.now) None)
copied_or None true x = refl
copied_or None false x = refl
copied_or (Some y) t x = refl

-- the first one among one more
pub find_more : {A : Type 0} (p : A → Bool) (xs : List A) (i : ℕ) (x : A) (t : Bool) → i < length xs → x ≡ get_or xs i x → t ≡ p x → find p (take (i + 1) xs) ≡ option_or (find p (take i xs)) (cond t (Some x) None)
find_more p xs i x t within is tested =
    ap (find p) (take_more xs i x within)
    ∙ (find-append p (take i xs) (get_or xs i x ∷ [])
    ∙ (ap (λ y. option_or (find p (take i xs)) (cond (p y) (Some y) None)) (sym is) ∙ ap (λ u. option_or (find p (take i xs)) (cond u (Some x) None)) (sym tested)))

-- some are counted where there is one
pub some_counted : {A : Type 0} (p : A → Bool) (xs : List A) → nat_lt 0 (count_by p xs) ≡ list_any p xs
some_counted p [] = refl
some_counted p (x ∷ xs) = ap (nat_lt 0) (sum_by-cons (λ y. cond (p y) 1 0) x xs) ∙ by_test (p x) (count_by p xs) (list_any p xs) (some_counted p xs)
  where
    by_test : (t : Bool) (n : ℕ) (a : Bool) → nat_lt 0 n ≡ a → nat_lt 0 (cond t 1 0 + n) ≡ (t || a)
    by_test true n a so = grind (arith, nat_tests)
    by_test false n a so = let same : 0 + n ≡ n = omega arith in ap (nat_lt 0) same ∙ so

-- a note is there where it was put, and where one was
pub some_put : {A : Type 0} (t : Bool) (v : A) (o : Option A) → is_some (cond t (Some v) o) ≡ (t || is_some o)
some_put true v o = refl
some_put false v o = refl

-- at a place, where the test of the item there is known
module _ {A : Type 0} (p : A → Bool) (xs : List A) (i : ℕ) (x : A) (passes : Bool) (within : i < length xs) (is : x ≡ get_or xs i x) (tested : passes ≡ p x) where
  step : find p (drop i xs) ≡ cond passes (Some x) (find p (drop (i + 1) xs))
  step = ap (find p) (drop_more xs i x within ∙ ap (λ y. y ∷ drop (i + 1) xs) (sym is)) ∙ ap (λ t. cond t (Some x) (find p (drop (i + 1) xs))) (sym tested)

  pub first_here : passes ≡ true → find p (drop i xs) ≡ Some x
  first_here so = step ∙ ap (λ t. cond t (Some x) (find p (drop (i + 1) xs))) so

  pub first_later : passes ≡ false → find p (drop i xs) ≡ find p (drop (i + 1) xs)
  first_later so = step ∙ ap (λ t. cond t (Some x) (find p (drop (i + 1) xs))) so
