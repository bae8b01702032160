-- What is found in two lists, one behind the other, and what is made of them.
use Rattle.std.proofs.Common.{◌≡◌, List, [], ◌∷◌, ◌++◌, Bool, true, false, cond, if◌then◌else◌, Option, Some, None, option_map, refl, ap, ◌∙◌, append-nil}
use Rattle.std.specs.List.{find}
use Rattle.std.specs.Option.{option_map_or}
use Rattle.zb_table.specs.Edits.{edited, removed, without_first}

-- what a list is, or becomes where it can
abbrev pub or_kept : {A : Type 0} → Option (List A) → List A → List A
or_kept made xs = option_map_or (λ ys. ys) made xs

module _ {A : Type 0} (p : A → Bool) where
  -- what is found in the first of them
  pub found_front : (xs ys : List A) (x : A) → find p xs ≡ Some x → find p (xs ++ ys) ≡ Some x
  found_front [] ys x is = absurd (cc)
  found_front (y ∷ xs) ys x is = by_test (p y) is (found_front xs ys x)
    where
      by_test : (t : Bool) → ◌≡◌ {A = Option A} (cond t (Some y) (find p xs)) (Some x) → (find p xs ≡ Some x → find p (xs ++ ys) ≡ Some x) → ◌≡◌ {A = Option A} (cond t (Some y) (find p (xs ++ ys))) (Some x)
      by_test true is later = is
      by_test false is later = later is

  -- what isn't is found in the second
  pub found_back : (xs ys : List A) → find p xs ≡ None → find p (xs ++ ys) ≡ find p ys
  found_back [] ys none = refl
  found_back (x ∷ xs) ys none = by_test (p x) none (found_back xs ys)
    where
      by_test : (t : Bool) → ◌≡◌ {A = Option A} (cond t (Some x) (find p xs)) None → (find p xs ≡ None → find p (xs ++ ys) ≡ find p ys) → ◌≡◌ {A = Option A} (cond t (Some x) (find p (xs ++ ys))) (find p ys)
      by_test true none later = absurd (cc)
      by_test false none later = later none

  -- so it is taken out
  pub removed_front : (xs ys left : List A) → removed p xs ≡ Some left → without_first p (xs ++ ys) ≡ left ++ ys
  removed_front xs ys left is = ap (λ (o : Option (List A)). or_kept o (xs ++ ys)) (both xs left is)
    where
      both : (zs left : List A) → removed p zs ≡ Some left → removed p (zs ++ ys) ≡ Some (left ++ ys)
      both [] left is = absurd (cc)
      both (z ∷ zs) left is = by_test (p z) (removed p zs) is (both zs)
        where
          by_test : (t : Bool) (rest : Option (List A)) → (if t then Some zs else option_map (λ l. z ∷ l) rest) ≡ Some left → ((l : List A) → rest ≡ Some l → removed p (zs ++ ys) ≡ Some (l ++ ys))
              → (if t then Some (zs ++ ys) else option_map (λ l. z ∷ l) (removed p (zs ++ ys))) ≡ Some (left ++ ys)
          by_test true rest is later = let same : zs ≡ left = cc in ap (λ (l : List A). Some (l ++ ys)) same
          by_test false None is later = absurd (cc)
          by_test false (Some l) is later =
              let same : z ∷ l ≡ left = cc in
              ap (option_map (λ (m : List A). z ∷ m)) (later l refl) ∙ ap (λ (m : List A). Some (m ++ ys)) same

  pub removed_back : (xs ys : List A) → find p xs ≡ None → without_first p (xs ++ ys) ≡ xs ++ without_first p ys
  removed_back [] ys none = refl
  removed_back (x ∷ xs) ys none = by_test (p x) none (removed_back xs ys)
    where
      by_rest : (rest : Option (List A)) (more : List A) → or_kept rest (xs ++ ys) ≡ more → or_kept (option_map (λ (l : List A). x ∷ l) rest) (x ∷ (xs ++ ys)) ≡ x ∷ more
      by_rest None more is = ap (λ (l : List A). x ∷ l) is
      by_rest (Some l) more is = ap (λ (m : List A). x ∷ m) is

      by_test : (t : Bool) → ◌≡◌ {A = Option A} (cond t (Some x) (find p xs)) None → (find p xs ≡ None → without_first p (xs ++ ys) ≡ xs ++ without_first p ys)
          → or_kept (if t then Some (xs ++ ys) else option_map (λ l. x ∷ l) (removed p (xs ++ ys))) (x ∷ (xs ++ ys)) ≡ x ∷ (xs ++ without_first p ys)
      by_test true none later = absurd (cc)
      by_test false none later = by_rest (removed p (xs ++ ys)) (xs ++ without_first p ys) (later none)

  module _ (f : A → A) where
    -- and edited
    pub edited_front : (xs ys made : List A) → edited p f xs ≡ Some made → or_kept (edited p f (xs ++ ys)) (xs ++ ys) ≡ made ++ ys
    edited_front xs ys made is = ap (λ (o : Option (List A)). or_kept o (xs ++ ys)) (both xs made is)
      where
        both : (zs made : List A) → edited p f zs ≡ Some made → edited p f (zs ++ ys) ≡ Some (made ++ ys)
        both [] made is = absurd (cc)
        both (z ∷ zs) made is = by_test (p z) (edited p f zs) is (both zs)
          where
            by_test : (t : Bool) (rest : Option (List A)) → (if t then Some (f z ∷ zs) else option_map (λ l. z ∷ l) rest) ≡ Some made → ((l : List A) → rest ≡ Some l → edited p f (zs ++ ys) ≡ Some (l ++ ys))
                → (if t then Some (f z ∷ (zs ++ ys)) else option_map (λ l. z ∷ l) (edited p f (zs ++ ys))) ≡ Some (made ++ ys)
            by_test true rest is later = let same : f z ∷ zs ≡ made = cc in ap (λ (l : List A). Some (l ++ ys)) same
            by_test false None is later = absurd (cc)
            by_test false (Some l) is later =
                let same : z ∷ l ≡ made = cc in
                ap (option_map (λ (m : List A). z ∷ m)) (later l refl) ∙ ap (λ (m : List A). Some (m ++ ys)) same

    pub edited_back : (xs ys : List A) → find p xs ≡ None → or_kept (edited p f (xs ++ ys)) (xs ++ ys) ≡ xs ++ or_kept (edited p f ys) ys
    edited_back [] ys none = refl
    edited_back (x ∷ xs) ys none = by_test (p x) none (edited_back xs ys)
      where
        by_rest : (rest : Option (List A)) (more : List A) → or_kept rest (xs ++ ys) ≡ more → or_kept (option_map (λ (l : List A). x ∷ l) rest) (x ∷ (xs ++ ys)) ≡ x ∷ more
        by_rest None more is = ap (λ (l : List A). x ∷ l) is
        by_rest (Some l) more is = ap (λ (m : List A). x ∷ m) is

        by_test : (t : Bool) → ◌≡◌ {A = Option A} (cond t (Some x) (find p xs)) None → (find p xs ≡ None → or_kept (edited p f (xs ++ ys)) (xs ++ ys) ≡ xs ++ or_kept (edited p f ys) ys)
            → or_kept (if t then Some (f x ∷ (xs ++ ys)) else option_map (λ l. x ∷ l) (edited p f (xs ++ ys))) (x ∷ (xs ++ ys)) ≡ x ∷ (xs ++ or_kept (edited p f ys) ys)
        by_test true none later = absurd (cc)
        by_test false none later = by_rest (edited p f (xs ++ ys)) (xs ++ or_kept (edited p f ys) ys) (later none)

-- nothing stands behind
pub none_behind : {A : Type 0} (xs ys : List A) → ys ≡ [] → xs ++ ys ≡ xs
none_behind xs ys none = ap (λ l. xs ++ l) none ∙ append-nil xs
