-- What stays where some are taken away, one after another.
use Rattle.std.proofs.Common.{◌≡◌, ◌<◌, ◌||◌, List, [], ◌∷◌, length, filter, Bool, true, false, not, cond, if◌then◌else◌, Option, Some, None, is_some, option_map, refl, ap, arith}
use Rattle.std.specs.List.{find, list_any}
use Rattle.zb_tokens.specs.Edits.{removed, without_first}
use Rattle.zb_arrivals.proofs.SplitLemmas.{or_kept}

module _ {A : Type 0} (p : A → Bool) where
  -- those that stay stay where the first that doesn't is taken away
  pub stay_without : (xs : List A) → filter (λ x. not (p x)) (without_first p xs) ≡ filter (λ x. not (p x)) xs
  stay_without [] = refl
  stay_without (x ∷ xs) = by_test (p x) refl (stay_without xs)
    where
      by_rest : (rest : Option (List A)) → filter (λ y. not (p y)) (or_kept rest xs) ≡ filter (λ y. not (p y)) xs → filter (λ y. not (p y)) (or_kept (option_map (λ l. x ∷ l) rest) (x ∷ xs)) ≡ filter (λ y. not (p y)) (x ∷ xs)
      by_rest None later = refl
      by_rest (Some l) later = ap (λ (m : List A). cond (not (p x)) (x ∷ m) m) later

      by_test : (t : Bool) → p x ≡ t → filter (λ y. not (p y)) (without_first p xs) ≡ filter (λ y. not (p y)) xs
          → filter (λ y. not (p y)) (or_kept (if t then Some xs else option_map (λ l. x ∷ l) (removed p xs)) (x ∷ xs)) ≡ filter (λ y. not (p y)) (x ∷ xs)
      by_test true here later = rw here refl
      by_test false here later = by_rest (removed p xs) later

  -- they get fewer
  pub fewer_without : (xs : List A) → is_some (find p xs) ≡ true → length (without_first p xs) < length xs
  fewer_without [] some = absurd (cc)
  fewer_without (x ∷ xs) some = by_test (p x) some (fewer_without xs)
    where
      by_rest : (rest : Option (List A)) → length (or_kept rest xs) < length xs → length (or_kept (option_map (λ l. x ∷ l) rest) (x ∷ xs)) < length (x ∷ xs)
      by_rest None later = absurd (omega (arith, later))
      by_rest (Some l) later = omega (arith, later)

      by_test : (t : Bool) → is_some {T = A} (cond t (Some x) (find p xs)) ≡ true → (is_some (find p xs) ≡ true → length (without_first p xs) < length xs)
          → length (or_kept (if t then Some xs else option_map (λ l. x ∷ l) (removed p xs)) (x ∷ xs)) < length (x ∷ xs)
      by_test true some later = omega arith
      by_test false some later = by_rest (removed p xs) (later some)

  -- where there is none, all stay
  pub none_goes : (xs : List A) → is_some (find p xs) ≡ false → filter (λ x. not (p x)) xs ≡ xs
  none_goes [] none = refl
  none_goes (x ∷ xs) none = by_test (p x) none (none_goes xs)
    where
      by_test : (t : Bool) → is_some {T = A} (cond t (Some x) (find p xs)) ≡ false → (is_some (find p xs) ≡ false → filter (λ y. not (p y)) xs ≡ xs)
          → cond (not t) (x ∷ filter (λ y. not (p y)) xs) (filter (λ y. not (p y)) xs) ≡ x ∷ xs
      by_test true none later = absurd (cc)
      by_test false none later = ap (λ (l : List A). x ∷ l) (later none)

  pub none_taken : (xs : List A) → is_some (find p xs) ≡ false → without_first p xs ≡ xs
  none_taken [] none = refl
  none_taken (x ∷ xs) none = by_test (p x) none (none_taken xs)
    where
      by_rest : (rest : Option (List A)) → or_kept rest xs ≡ xs → or_kept (option_map (λ l. x ∷ l) rest) (x ∷ xs) ≡ x ∷ xs
      by_rest None later = refl
      by_rest (Some l) later = ap (λ (m : List A). x ∷ m) later

      by_test : (t : Bool) → is_some {T = A} (cond t (Some x) (find p xs)) ≡ false → (is_some (find p xs) ≡ false → without_first p xs ≡ xs)
          → or_kept (if t then Some xs else option_map (λ l. x ∷ l) (removed p xs)) (x ∷ xs) ≡ x ∷ xs
      by_test true none later = absurd (cc)
      by_test false none later = by_rest (removed p xs) (later none)

module _ {A : Type 0} (keep : A → Bool) where
  kept_by : (drops : A → Bool) (t : Bool) (x : A) (xs : List A) → drops x ≡ t → (drops x ≡ false → keep x ≡ true) → (list_any drops xs ≡ false → filter keep xs ≡ xs) → (t || list_any drops xs) ≡ false → filter keep (x ∷ xs) ≡ x ∷ xs
  kept_by drops true x xs it here later none = absurd (cc)
  kept_by drops false x xs not_it here later none = rw (here not_it) (ap (λ (ys : List A). x ∷ ys) (later none))

  -- where none is dropped, all are kept
  pub all_kept : (drops : A → Bool) (xs : List A) → ((x : A) → drops x ≡ false → keep x ≡ true) → list_any drops xs ≡ false → filter keep xs ≡ xs
  all_kept drops [] each none = refl
  all_kept drops (x ∷ xs) each none = kept_by drops (drops x) x xs refl (each x) (all_kept drops xs each) none
