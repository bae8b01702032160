-- Members of lists.
use Rattle.std.proofs.Common.{◌≡◌, ℕ, zero, suc, List, [], ◌∷◌, ◌++◌, length, map, filter, slice_get, get_or, Bool, true, false, ◌||◌, if◌then◌else◌, Some, Contains, ◌⊎◌, inl, inr, refl, sym, ap, ◌∙◌, subst, arith}
use Rattle.std.specs.List.{flat_map, list_any}
use Rattle.std.proofs.lemmas.Bool.{cases_lt}
use Rattle.std.proofs.lemmas.List.{length-append, get_or_append_left}
use Rattle.std.proofs.lemmas.List.Elements.{Contains-append_left, Contains-append_right, Contains-append_cases}
use Rattle.std.proofs.lemmas.List.Folds.{list_any_at}
use Rattle.std.proofs.lemmas.Option.{slice_get_within, get_or_from_slice_get, slice_get-get_or}
use Rattle.std.proofs.Math.Seq.{get_or-append_seam}

-- there is none in none
pub nothing_in : {A : Type 0} (x : A) → Contains [] x → ⊥
nothing_in x (i, within, is) = omega (arith, within)

-- the one in one
pub the_one : {A : Type 0} (y x : A) → Contains (y ∷ []) x → x ≡ y
the_one y x (zero, within, is) = sym is
the_one y x (suc k, within, is) = absurd (omega (arith, within))

-- the first one is a member
pub here_in : {A : Type 0} (x : A) (xs : List A) → Contains (x ∷ xs) x
here_in x xs = (zero, omega arith, refl)

-- a member still is one behind another
pub later_in : {A : Type 0} (y x : A) (xs : List A) → Contains xs x → Contains (y ∷ xs) x
later_in y x xs is = Contains-append_right (y ∷ []) xs x is

-- a member is the first one, or one of the rest
pub first_or_later : {A : Type 0} (y x : A) (xs : List A) → Contains (y ∷ xs) x → (x ≡ y) ⊎ Contains xs x
first_or_later y x xs is = elim (Contains-append_cases (y ∷ []) xs x is) [
  | inl one ↦ inl (the_one y x one)
  | inr rest ↦ inr rest
]

-- what stands at a place is a member
pub among : {A : Type 0} (xs : List A) (i : ℕ) (x : A) → slice_get xs i ≡ Some x → Contains xs x
among xs i x at = (i, slice_get_within xs i x at, get_or_from_slice_get xs i x x at)

-- what stands at a place of some and one more stands there in those, or is the one, at the end
pub placed_or_last : {A : Type 0} (xs : List A) (y : A) (i : ℕ) (x : A) → slice_get (xs ++ y ∷ []) i ≡ Some x → (slice_get xs i ≡ Some x) ⊎ ((i ≡ length xs) × (x ≡ y))
placed_or_last xs y i x at =
    let within = slice_get_within (xs ++ y ∷ []) i x at in
    let here : get_or (xs ++ y ∷ []) i x ≡ x = get_or_from_slice_get (xs ++ y ∷ []) i x x at in
    elim (cases_lt i (length xs)) [
      | inl lt ↦ inl (slice_get-get_or xs i x lt ∙ ap Some (sym (get_or_append_left xs (y ∷ []) x i lt) ∙ here))
      | inr ge ↦
          let end : i ≡ length xs = omega (arith, length-append xs (y ∷ []), within) in
          let seam : get_or (xs ++ y ∷ []) (length xs) x ≡ y = get_or-append_seam xs y [] x in
          inr (end, sym (subst (λ (z : ℕ). get_or (xs ++ y ∷ []) z x ≡ x) end here) ∙ seam)
    ]

-- a member of what a member makes is one of what all make
pub flat_in : {A B : Type 0} (f : A → List B) (xs : List A) (x : A) (y : B) → Contains xs x → Contains (f x) y → Contains (flat_map f xs) y
flat_in f [] x y is has = absurd (nothing_in x is)
flat_in f (z ∷ xs) x y is has = elim (first_or_later z x xs is) [
  | inl same ↦ Contains-append_left (f z) (flat_map f xs) y (subst (λ q. Contains (f q) y) same has)
  | inr rest ↦ Contains-append_right (f z) (flat_map f xs) y (flat_in f xs x y rest has)
]

-- a member of what all make is one of what a member makes
pub flat_out : {A B : Type 0} (f : A → List B) (xs : List A) (y : B) → Contains (flat_map f xs) y → (x : A) × Contains xs x × Contains (f x) y
flat_out f [] y is = absurd (nothing_in y is)
flat_out f (z ∷ xs) y is = elim (Contains-append_cases (f z) (flat_map f xs) y is) [
  | inl its ↦ (z, here_in z xs, its)
  | inr rest ↦ let found = flat_out f xs y rest in (found.0, later_in z found.0 xs found.1, found.2)
]

-- a member that passes is one of those that do
pub filter_in : {A : Type 0} (test : A → Bool) (xs : List A) (x : A) → Contains xs x → test x ≡ true → Contains (filter test xs) x
filter_in test [] x is passes = absurd (nothing_in x is)
filter_in {A} test (z ∷ xs) x is passes = elim (first_or_later z x xs is) [
  | inl same ↦ let here : test z ≡ true = ap test (sym same) ∙ passes in rw here (subst (λ q. Contains (q ∷ filter test xs) x) same (here_in x (filter test xs)))
  | inr rest ↦ by_test (test z) (filter_in test xs x rest passes)
]
  where
    by_test : (b : Bool) → Contains (filter test xs) x → Contains (if b then z ∷ filter test xs else filter test xs) x
    by_test true rest = later_in z x (filter test xs) rest
    by_test false rest = rest

-- a member of what members become is what one becomes
pub map_out : {A B : Type 0} (f : A → B) (xs : List A) (y : B) → Contains (map f xs) y → (x : A) × Contains xs x × (y ≡ f x)
map_out f [] y is = absurd (nothing_in y is)
map_out f (z ∷ xs) y is = elim (first_or_later (f z) y (map f xs) is) [
  | inl same ↦ (z, here_in z xs, same)
  | inr rest ↦ let found = map_out f xs y rest in (found.0, later_in z found.0 xs found.1, found.2)
]

-- where a member passes, one does
pub has_passed : {A : Type 0} (test : A → Bool) (xs : List A) (x : A) → Contains xs x → test x ≡ true → list_any test xs ≡ true
has_passed test xs x (k, within, is) passes = list_any_at test xs k x within (ap test is ∙ passes)

-- where one passes, a member does
pub passing : {A : Type 0} (test : A → Bool) (xs : List A) → list_any test xs ≡ true → (x : A) × Contains xs x × (test x ≡ true)
passing {A} test [] is = absurd (cc)
passing {A} test (x ∷ xs) is = by_test (test x) refl (passing test xs)
  where
    by_test : (b : Bool) → test x ≡ b → (list_any test xs ≡ true → (y : A) × Contains xs y × (test y ≡ true)) → (y : A) × Contains (x ∷ xs) y × (test y ≡ true)
    by_test true passes further = (x, here_in x xs, passes)
    by_test false fails further = let found = further (sym (ap (λ b. b || list_any test xs) fails) ∙ is) in (found.0, later_in x found.0 xs found.1, found.2)
