-- Laws of what is earliest: of two lists, and of things that were made of others.
use Rattle.std.proofs.Common.{◌≡◌, ℕ, List, [], ◌∷◌, ◌++◌, map, filter, Bool, true, false, cond, if◌then◌else◌, Option, Some, None, option_map, refl, sym, ap, ◌∙◌, arith}
use Rattle.std.proofs.lemmas.Bool.Decides.{nat_tests}
use Rattle.zb_table.specs.Earliest.{is_earlier, earliest, earlier_option, earlier_of}
use Rattle.zb_table.proofs.EarliestLaws.{earliest_more}

-- what comes before something that comes before another one comes before that
both_before : (a b c : ℕ × ℕ) → is_earlier a b ≡ true → is_earlier b c ≡ true → is_earlier a c ≡ true
both_before a b c ab bc = grind (arith, nat_tests)

neither_before : (a b c : ℕ × ℕ) → is_earlier a b ≡ false → is_earlier b c ≡ false → is_earlier a c ≡ false
neither_before a b c ab bc = grind (arith, nat_tests)

module _ {A : Type 0} (place : A → (ℕ × ℕ)) where
  in_turn : (x : A) (a b : Option A) → earlier_of place x (earlier_option place a b) ≡ earlier_option place (earlier_of place x a) b
  in_turn x None b = refl
  in_turn x (Some y) None = by_test (is_earlier (place y) (place x))
    where
      by_test : (t : Bool) → (if t then Some y else Some x) ≡ earlier_option place (if t then Some y else Some x) None
      by_test true = refl
      by_test false = refl
  in_turn x (Some y) (Some z) = by_tests (is_earlier (place z) (place y)) (is_earlier (place y) (place x)) refl refl
    where
      by_tests : (t u : Bool) → is_earlier (place z) (place y) ≡ t → is_earlier (place y) (place x) ≡ u
          → earlier_of place x (if t then Some z else Some y) ≡ earlier_option place (if u then Some y else Some x) (Some z)
      by_tests true true zy yx = rw (both_before (place z) (place y) (place x) zy yx, zy) refl
      by_tests true false zy yx = refl
      by_tests false true zy yx = rw (yx, zy) refl
      by_tests false false zy yx = rw (yx, neither_before (place z) (place y) (place x) zy yx) refl

  -- the earliest of two lists is the earlier one of the earliest of each
  pub earliest_append : (xs ys : List A) → earliest place (xs ++ ys) ≡ earlier_option place (earliest place xs) (earliest place ys)
  earliest_append [] ys = refl
  earliest_append (x ∷ xs) ys =
      earliest_more place x (xs ++ ys)
      ∙ (ap (earlier_of place x) (earliest_append xs ys)
      ∙ (in_turn x (earliest place xs) (earliest place ys)
      ∙ sym (ap (λ (o : Option A). earlier_option place o (earliest place ys)) (earliest_more place x xs))))

module _ {A B : Type 0} (f : A → B) where
  -- those of them that pass
  pub filter_mapped : (p : B → Bool) (xs : List A) → filter p (map f xs) ≡ map f (filter (λ x. p (f x)) xs)
  filter_mapped p [] = refl
  filter_mapped p (x ∷ xs) = by_test (p (f x)) (filter_mapped p xs)
    where
      by_test : (t : Bool) → filter p (map f xs) ≡ map f (filter (λ y. p (f y)) xs) → cond t (f x ∷ filter p (map f xs)) (filter p (map f xs)) ≡ map f (cond t (x ∷ filter (λ y. p (f y)) xs) (filter (λ y. p (f y)) xs))
      by_test true later = ap (λ (l : List B). f x ∷ l) later
      by_test false later = later

  -- the earliest of them is made of the earliest
  pub earliest_mapped : (place : B → (ℕ × ℕ)) (xs : List A) → earliest place (map f xs) ≡ option_map f (earliest (λ x. place (f x)) xs)
  earliest_mapped place [] = refl
  earliest_mapped place (x ∷ xs) =
      earliest_more place (f x) (map f xs)
      ∙ (ap (earlier_of place (f x)) (earliest_mapped place xs)
      ∙ (by_found (earliest (λ y. place (f y)) xs)
      ∙ sym (ap (option_map f) (earliest_more (λ y. place (f y)) x xs))))
    where
      by_found : (found : Option A) → earlier_of place (f x) (option_map f found) ≡ option_map f (earlier_of (λ y. place (f y)) x found)
      by_found None = refl
      by_found (Some y) = by_test (is_earlier (place (f y)) (place (f x)))
        where
          by_test : (t : Bool) → (if t then Some (f y) else Some (f x)) ≡ option_map f (if t then Some y else Some x)
          by_test true = refl
          by_test false = refl
