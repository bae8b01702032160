-- The nodes for whose events a cell waits, by their numbers.
use Rattle.std.proofs.Common.{◌≡◌, ℕ, ◌+◌, ◌<◌, List, [], ◌∷◌, ◌++◌, length, drop, get_or, slice_get, map, filter, Bool, true, false, ◌&&◌, ◌||◌, cond, Option, Some, refl, sym, ap, subst, ◌∙◌, append_assoc}
use Rattle.std.specs.List.{list_any}
use Rattle.std.proofs.lemmas.List.{drop_more, length-map, map-append}
use Rattle.std.proofs.lemmas.Option.{slice_get_within, get_or_from_slice_get}
use Rattle.zb_places.proofs.FlowLemmas.{named_at}

-- what some numbers name in a list, one by one
module _ {A : Type 0} (all named : List A) (numbers : List ℕ) (is : map (slice_get all) numbers ≡ map Some named) where
  -- they name as many as they are
  pub many_named : length numbers ≡ length named
  many_named = sym (length-map numbers (slice_get all)) ∙ (ap length is ∙ length-map named Some)

  module _ (i : ℕ) (within : i < length numbers) where
    -- one of them names something
    pub names_item : get_or numbers i 0 < length all
    names_item = let at = named_at (slice_get all) numbers named i is within in slice_get_within all (get_or numbers i 0) at.0 at.1

    -- which is the first of those that are left
    pub named_left : (x : A) → slice_get all (get_or numbers i 0) ≡ Some x → drop i named ≡ x ∷ drop (i + 1) named
    named_left x there =
        let at = named_at (slice_get all) numbers named i is within in
        let same : at.0 ≡ x = (let e : Some at.0 ≡ Some x = sym at.1 ∙ there in cc) in
        drop_more named i x at.3 ∙ ap (λ (y : A). y ∷ drop (i + 1) named) (subst (λ (y : A). get_or named i y ≡ y) same at.2)

    pub item_named : (x : A) × (slice_get all (get_or numbers i 0) ≡ Some x) × (drop i named ≡ x ∷ drop (i + 1) named)
    item_named = let at = named_at (slice_get all) numbers named i is within in (at.0, at.1, named_left at.0 at.1)

-- of those that pass one test, one passes another where one of all passes both
pub any_filtered : {A : Type 0} (p q : A → Bool) (xs : List A) → list_any p (filter q xs) ≡ list_any (λ x. p x && q x) xs
any_filtered p q [] = refl
any_filtered {A} p q (x ∷ xs) = by_test (q x) (any_filtered p q xs)
  where
    both_there : (u a b : Bool) → a ≡ b → (u || a) ≡ ((u && true) || b)
    both_there true a b is = refl
    both_there false a b is = is

    one_there : (u a b : Bool) → a ≡ b → a ≡ ((u && false) || b)
    one_there true a b is = is
    one_there false a b is = is

    by_test : (t : Bool) → list_any p (filter q xs) ≡ list_any (λ y. p y && q y) xs → list_any p (cond t (x ∷ filter q xs) (filter q xs)) ≡ ((p x && t) || list_any (λ y. p y && q y) xs)
    by_test true later = both_there (p x) (list_any p (filter q xs)) (list_any (λ y. p y && q y) xs) later
    by_test false later = one_there (p x) (list_any p (filter q xs)) (list_any (λ y. p y && q y) xs) later

-- what passes from a place of a list on, where its numbers so far make this with those behind
module _ {A : Type 0} (p : A → Bool) (all : List A) (i : ℕ) (x : A) (there : slice_get all i ≡ Some x) (numbers : List ℕ) (sum : List (Option A))
    (so_far : map (slice_get all) numbers ++ map Some (filter p (drop i all)) ≡ sum) where
  left_there : drop i all ≡ x ∷ drop (i + 1) all
  left_there = drop_more all i x (slice_get_within all i x there) ∙ ap (λ (y : A). y ∷ drop (i + 1) all) (get_or_from_slice_get all i x x there)

  from_there : map (slice_get all) numbers ++ map Some (filter p (x ∷ drop (i + 1) all)) ≡ sum
  from_there = subst (λ (xs : List A). map (slice_get all) numbers ++ map Some (filter p xs) ≡ sum) left_there so_far

  -- the number of one that passes is one more
  pub number_added : p x ≡ true → map (slice_get all) (numbers ++ i ∷ []) ++ map Some (filter p (drop (i + 1) all)) ≡ sum
  number_added passes =
      let here : map Some (filter p (x ∷ drop (i + 1) all)) ≡ Some x ∷ map Some (filter p (drop (i + 1) all)) = rw passes refl in
      let one : map (slice_get all) (numbers ++ i ∷ []) ≡ map (slice_get all) numbers ++ Some x ∷ [] = map-append (slice_get all) numbers (i ∷ []) ∙ ap (λ (o : Option A). map (slice_get all) numbers ++ o ∷ []) there in
      ap (λ (l : List (Option A)). l ++ map Some (filter p (drop (i + 1) all))) one
      ∙ (append_assoc (map (slice_get all) numbers) (Some x ∷ []) (map Some (filter p (drop (i + 1) all)))
      ∙ (ap (λ (l : List (Option A)). map (slice_get all) numbers ++ l) (sym here) ∙ from_there))

  -- one that doesn't is passed
  pub number_passed : p x ≡ false → map (slice_get all) numbers ++ map Some (filter p (drop (i + 1) all)) ≡ sum
  number_passed out =
      let here : filter p (x ∷ drop (i + 1) all) ≡ filter p (drop (i + 1) all) = rw out refl in
      ap (λ (l : List A). map (slice_get all) numbers ++ map Some l) (sym here) ∙ from_there

-- where none passes, none is left
pub none_pass : {A : Type 0} (p : A → Bool) (xs : List A) → ((x : A) → p x ≡ false) → filter p xs ≡ []
none_pass p [] out = refl
none_pass p (x ∷ xs) out = rw (out x) (none_pass p xs out)
