-- Laws of what is earliest.
use Rattle.std.proofs.Common.{◌≡◌, ℕ, ◌≤◌, List, [], ◌∷◌, filter, Bool, true, false, not, ◌&&◌, ◌||◌, if◌then◌else◌, Some, None, Contains, refl, sym, ap, ◌∙◌, subst, arith}
use Rattle.std.specs.List.{list_any}
use Rattle.std.proofs.lemmas.Bool.Decides.{nat_tests}
use Rattle.std.proofs.lemmas.List.Elements.{Contains-append_right}
use Rattle.std.proofs.lemmas.List.Recursion.{or_at}
use Rattle.zb_table.specs.Rows.{first_passing}
use Rattle.zb_table.specs.Earliest.{is_earlier, earliest, earlier_of}

-- the order by moment, then key
before_itself : (a : ℕ × ℕ) → is_earlier a a ≡ false
before_itself a = grind (arith, nat_tests)

one_way : (a b : ℕ × ℕ) → is_earlier a b ≡ true → is_earlier b a ≡ false
one_way a b is = grind (arith, nat_tests)

chain : (a b c : ℕ × ℕ) → is_earlier a b ≡ false → is_earlier b c ≡ false → is_earlier a c ≡ false
chain a b c first_passing next = grind (arith, nat_tests)

-- what isn't earlier than another one comes no sooner, and at the same moment its key is no smaller
pub not_before : (a b : ℕ × ℕ) → is_earlier a b ≡ false → (b.0 ≤ a.0) × (b.0 ≡ a.0 → b.1 ≤ a.1)
not_before a b is = (grind (arith, nat_tests), λ same. grind (arith, nat_tests))

module _ {A : Type 0} where
  -- one of them passes a test
  pub any_of : (passes : A → Bool) (xs : List A) (x : A) → Contains xs x → passes x ≡ true → list_any passes xs ≡ true
  any_of passes xs x has is = or_at (list_any passes) passes refl (λ _ _. refl) xs has.0 x has.1 (ap passes has.2 ∙ is)

  -- one of those that are kept passes a test where one of all is kept and passes it
  pub any_kept : (passes keeps : A → Bool) (xs : List A) → list_any passes (filter keeps xs) ≡ list_any (λ x. keeps x && passes x) xs
  any_kept passes keeps [] = refl
  any_kept passes keeps (x ∷ xs) = by_test (keeps x) (any_kept passes keeps xs)
    where
      by_test : (t : Bool) → list_any passes (filter keeps xs) ≡ list_any (λ x. keeps x && passes x) xs
          → list_any passes (if t then x ∷ filter keeps xs else filter keeps xs) ≡ ((t && passes x) || list_any (λ x. keeps x && passes x) xs)
      by_test true rest = ap (λ (r : Bool). passes x || r) rest
      by_test false rest = rest

  -- the first member that passes is one of them, and it passes
  first_found : (passes : A → Bool) (xs : List A) (x : A) → first_passing passes xs ≡ Some x → Contains xs x × (passes x ≡ true)
  first_found passes [] x is = absurd (cc)
  first_found passes (y ∷ xs) x is = by_test (first_found passes xs x) (passes y) refl is
    where
      by_test : (first_passing passes xs ≡ Some x → Contains xs x × (passes x ≡ true)) → (t : Bool) → passes y ≡ t → (if t then Some y else first_passing passes xs) ≡ Some x
          → Contains (y ∷ xs) x × (passes x ≡ true)
      by_test behind true here is =
          let same : y ≡ x = cc in
          ((0, omega (arith), same), subst (λ (z : A). passes z ≡ true) same here)
      by_test behind false here is = let r = behind is in (Contains-append_right (y ∷ []) xs x r.0, r.1)

  -- the first that passes a test is the first that passes a narrower one, if it does
  first_narrower : (wide narrow : A → Bool) (xs : List A) (x : A) → ((y : A) → narrow y ≡ true → wide y ≡ true) → narrow x ≡ true → first_passing wide xs ≡ Some x → first_passing narrow xs ≡ Some x
  first_narrower wide narrow [] x widens is at = absurd (cc)
  first_narrower wide narrow (y ∷ xs) x widens is at = by_test (first_narrower wide narrow xs x widens is) (wide y) refl at
    where
      passed_over : (t : Bool) → narrow y ≡ t → wide y ≡ false → first_passing narrow xs ≡ Some x → (if t then Some y else first_passing narrow xs) ≡ Some x
      passed_over true passes fails later = absurd (let w = widens y passes in cc)
      passed_over false passes fails later = later

      by_test : (first_passing wide xs ≡ Some x → first_passing narrow xs ≡ Some x) → (t : Bool) → wide y ≡ t → (if t then Some y else first_passing wide xs) ≡ Some x → first_passing narrow (y ∷ xs) ≡ Some x
      by_test behind true here at =
          let same : y ≡ x = cc in
          let passes : narrow y ≡ true = ap narrow same ∙ is in
          rw passes at
      by_test behind false here at = passed_over (narrow y) refl here (behind at)

-- what is earliest among things with a place in time
module _ {A : Type 0} (place : A → (ℕ × ℕ)) where
  -- one of these comes before x
  abbrev is_beaten : List A → A → Bool
  is_beaten xs x = list_any (λ other. is_earlier (place other) (place x)) xs

  -- none comes before what doesn't come after one that none comes before
  unbeaten_chain : (xs : List A) (y x : A) → is_beaten xs y ≡ false → is_earlier (place y) (place x) ≡ false → is_beaten xs x ≡ false
  unbeaten_chain [] y x none is = refl
  unbeaten_chain (z ∷ xs) y x none is =
      let here : is_earlier (place z) (place y) ≡ false = grind arith in
      let later : is_beaten xs y ≡ false = grind arith in
      rw (chain (place z) (place y) (place x) here is) (unbeaten_chain xs y x later is)

  -- the earliest is one of them, and none comes before it
  pub earliest_found : (xs : List A) (x : A) → earliest place xs ≡ Some x → Contains xs x × (is_beaten xs x ≡ false)
  earliest_found xs x is =
      let r = first_found (λ x. not (is_beaten xs x)) xs x is in
      (r.0, grind (arith, r.1))

  only_one : (x : A) → earliest place (x ∷ []) ≡ Some x
  only_one x = rw (before_itself (place x)) refl

  one_more : (x : A) (xs : List A) (y : A) → earliest place xs ≡ Some y → earliest place (x ∷ xs) ≡ earlier_of place x (Some y)
  one_more x xs y is = by_test (is_earlier (place y) (place x)) refl
    where
      by_test : (t : Bool) → is_earlier (place y) (place x) ≡ t → earliest place (x ∷ xs) ≡ (if t then Some y else Some x)
      by_test true before =
          let found = earliest_found xs y is in
          let beaten : is_beaten xs x ≡ true = any_of (λ other. is_earlier (place other) (place x)) xs y found.0 before in
          let after : is_earlier (place x) (place y) ≡ false = one_way (place y) (place x) before in
          let later = first_narrower (λ z. not (is_beaten xs z)) (λ z. not (is_beaten (x ∷ xs) z)) xs y (λ z none. grind arith) (rw (after, found.1) refl) is in
          rw (before_itself (place x), beaten) later
      by_test false before =
          let found = earliest_found xs y is in
          rw (before_itself (place x), unbeaten_chain xs y x found.1 before) refl

  if_some : (x y : A) → (t : Bool) → (z : A) × ((if t then Some y else Some x) ≡ Some z)
  if_some x y true = (y, refl)
  if_some x y false = (x, refl)

  -- one of them is the earliest
  pub earliest_some : (x : A) (xs : List A) → (y : A) × (earliest place (x ∷ xs) ≡ Some y)
  earliest_some x [] = (x, only_one x)
  earliest_some x (z ∷ xs) =
      let r = earliest_some z xs in
      let s = if_some x r.0 (is_earlier (place r.0) (place x)) in
      (s.0, one_more x (z ∷ xs) r.0 r.1 ∙ s.1)

  -- where none is, there are none
  pub earliest_none : (xs : List A) → earliest place xs ≡ None → xs ≡ []
  earliest_none [] is = refl
  earliest_none (x ∷ xs) is = absurd (let r = earliest_some x xs in cc)

  -- one more in front
  pub earliest_more : (x : A) (xs : List A) → earliest place (x ∷ xs) ≡ earlier_of place x (earliest place xs)
  earliest_more x [] = only_one x
  earliest_more x (z ∷ xs) = let r = earliest_some z xs in one_more x (z ∷ xs) r.0 r.1 ∙ ap (earlier_of place x) (sym r.1)
