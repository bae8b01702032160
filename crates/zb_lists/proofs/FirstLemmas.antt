-- The row that is due first is the first one that is kept, if its moment has come.
use Rattle.std.proofs.Common.{◌≡◌, ℕ, ◌+◌, ◌==◌, nat_le, List, [], ◌∷◌, filter, Bool, true, false, ◌&&◌, ◌||◌, cond, if◌then◌else◌, Option, Some, None, option_map, refl, sym, ap, ◌∙◌, arith}
use Rattle.std.specs.List.{find, list_any}
use Rattle.std.specs.Option.{option_map_or}
use Rattle.std.proofs.lemmas.Bool.Decides.{nat_tests}
use Rattle.zb_table.specs.Rows.{Ascend}
use Rattle.zb_table.specs.Earliest.{is_earlier, earliest, place_in_time, is_due, first_due, earlier_of}
use Rattle.zb_table.proofs.EarliestLaws.{any_of, any_kept, earliest_found, earliest_more}
use Rattle.zb_pairs.proofs.FoundLemmas.{found_above, found_passes}

-- what is found passes another test, so one does
any_found : {A : Type 0} (p q : A → Bool) (xs : List A) (x : A) → find p xs ≡ Some x → q x ≡ true → list_any q xs ≡ true
any_found p q [] x is passes = absurd (cc)
any_found {A} p q (y ∷ xs) x is passes = by_test (p y) is (any_found p q xs x)
  where
    by_test : (t : Bool) → ◌≡◌ {A = Option A} (cond t (Some y) (find p xs)) (Some x) → (find p xs ≡ Some x → q x ≡ true → list_any q xs ≡ true) → (q y || list_any q xs) ≡ true
    by_test true is later =
        let same : y ≡ x = cc in
        rw (ap q same ∙ passes) refl
    by_test false is later = let rest = later is passes in grind (arith, rest)

-- where there is none at all
none_at_all : {A : Type 0} (xs : List A) → list_any (λ x. true) xs ≡ false → xs ≡ []
none_at_all [] none = refl
none_at_all (x ∷ xs) none = absurd (cc)

-- no row passes where none that is found by its key does
any_none : {A : Type 0} (key : A → ℕ) (q : A → Bool) (low : ℕ) (rows : List A) → Ascend key low rows → ((r : A) → find (λ x. key x == key r) rows ≡ Some r → q r ≡ false) → list_any q rows ≡ false
any_none key q low [] up fails = refl
any_none {A} key q low (x ∷ rows) up fails =
    let itself : (key x == key x) ≡ true = grind (arith, nat_tests) in
    rw (fails x (rw itself refl)) (any_none key q (key x + 1) rows up.1 later)
  where
    later : (r : A) → find (λ o. key o == key r) rows ≡ Some r → q r ≡ false
    later r at =
        let above = found_above key (λ o. key o == key r) (key x + 1) rows r up.1 at in
        let apart : (key x == key r) ≡ false = grind (arith, nat_tests, above) in
        fails r (rw apart at)

-- a pair by its parts
pair_of : (p : ℕ × ℕ) (a b : ℕ) → a ≡ p.0 → b ≡ p.1 → ◌≡◌ {A = ℕ × ℕ} (a, b) p
pair_of p a b first second = ap (λ (x : ℕ). (x, b)) first ∙ ap (λ (y : ℕ). (p.0, y)) second

-- of two places of which neither comes before the other
one_place : (a b : ℕ × ℕ) → is_earlier a b ≡ false → is_earlier b a ≡ false → a ≡ b
one_place a b ab ba =
    let first : a.0 ≡ b.0 = grind (arith, nat_tests) in
    let second : a.1 ≡ b.1 = grind (arith, nat_tests, first) in
    pair_of b a.0 a.1 first second

module _ {A : Type 0} (place : A → ℕ × ℕ) where
  -- places are the same
  abbrev pub is_place : ℕ × ℕ → A → Bool
  is_place p r = ((place r).0 == p.0) && ((place r).1 == p.1)

  -- the place of the earliest is one that some have and that none comes before
  earliest_at : (p : ℕ × ℕ) (xs : List A) → list_any (is_place p) xs ≡ true → list_any (λ r. is_earlier (place r) p) xs ≡ false → option_map place (earliest place xs) ≡ Some p
  earliest_at p [] some none = absurd (cc)
  earliest_at p (x ∷ xs) some none = by_later (λ has. earliest_at p xs has later) (list_any (is_place p) xs) refl
    where
      here : is_earlier (place x) p ≡ false
      here = grind (arith, none)

      later : list_any (λ r. is_earlier (place r) p) xs ≡ false
      later = grind (arith, none)

      by_test : (y : A) → place y ≡ p → (t : Bool) → is_earlier (place y) (place x) ≡ t → option_map place (if t then Some y else Some x) ≡ Some p
      by_test y at true is = ap (λ (q : ℕ × ℕ). Some q) at
      by_test y at false is =
          let isnt : is_earlier p (place x) ≡ false = ap (λ (q : ℕ × ℕ). is_earlier q (place x)) (sym at) ∙ is in
          ap (λ (q : ℕ × ℕ). Some q) (one_place (place x) p here isnt)

      x_first : list_any (is_place p) xs ≡ false → place x ≡ p
      x_first nowhere =
          let first : (place x).0 ≡ p.0 = grind (arith, nat_tests, some, nowhere) in
          let second : (place x).1 ≡ p.1 = grind (arith, nat_tests, some, nowhere) in
          pair_of p (place x).0 (place x).1 first second

      by_other : (y : A) → earliest place xs ≡ Some y → place x ≡ p → (t : Bool) → is_earlier (place y) (place x) ≡ t → option_map place (if t then Some y else Some x) ≡ Some p
      by_other y is at true before =
          let found = earliest_found place xs y is in
          let earlier : is_earlier (place y) p ≡ true = ap (λ (q : ℕ × ℕ). is_earlier (place y) q) (sym at) ∙ before in
          let one = any_of (λ r. is_earlier (place r) p) xs y found.0 earlier in
          let isnt = later in
          absurd (cc)
      by_other y is at false before = ap (λ (q : ℕ × ℕ). Some q) at

      some_place : (found : Option A) → option_map place found ≡ Some p → option_map place (earlier_of place x found) ≡ Some p
      some_place None at = absurd (cc)
      some_place (Some y) at =
          let its : place y ≡ p = cc in
          by_test y its (is_earlier (place y) (place x)) refl

      other_place : (found : Option A) → earliest place xs ≡ found → place x ≡ p → option_map place (earlier_of place x found) ≡ Some p
      other_place None is at = ap (λ (q : ℕ × ℕ). Some q) at
      other_place (Some y) is at = by_other y is at (is_earlier (place y) (place x)) refl

      by_later : (list_any (is_place p) xs ≡ true → option_map place (earliest place xs) ≡ Some p) → (t : Bool) → list_any (is_place p) xs ≡ t → option_map place (earliest place (x ∷ xs)) ≡ Some p
      by_later rest true has =
          ap (option_map place) (earliest_more place x xs) ∙ some_place (earliest place xs) (rest has)
      by_later rest false nowhere =
          ap (option_map place) (earliest_more place x xs) ∙ other_place (earliest place xs) refl (x_first nowhere)

module _ {A : Type 0} (key : A → ℕ) (moment : A → Option ℕ) (now : ℕ) (rows : List A) (up : Ascend key 0 rows)
    (has : ℕ → ℕ → Bool) (kept : (r : A) (m : ℕ) → find (λ x. key x == key r) rows ≡ Some r → moment r ≡ Some m → has m (key r) ≡ true) where
  abbrev place : A → ℕ × ℕ
  place = place_in_time key moment

  abbrev due : A → Bool
  due = is_due key moment now

  -- what a test says of those that are due
  due_any : (q : A → Bool) → list_any q (filter due rows) ≡ list_any (λ r. due r && q r) rows
  due_any q = any_kept q due rows

  -- where no moment that is kept has come
  pub due_none : ((n k : ℕ) → has n k ≡ true → nat_le n now ≡ false) → first_due key moment now rows ≡ None
  due_none late =
      let none = any_none key (λ r. due r && true) 0 rows up (λ r at. let isnt = by_moment r at (moment r) refl in grind (arith, isnt)) in
      ap (earliest place) (none_at_all (filter due rows) (due_any (λ r. true) ∙ none))
    where
      by_moment : (r : A) → find (λ x. key x == key r) rows ≡ Some r → (m : Option ℕ) → moment r ≡ m → option_map_or (λ m. nat_le m now) m false ≡ false
      by_moment r at None is = refl
      by_moment r at (Some m) is = late m (key r) (kept r m at is)

  -- where the moment of the first has come
  pub due_first : (first : ℕ × ℕ) (r : A) → find (λ x. key x == first.1) rows ≡ Some r → moment r ≡ Some first.0
      → ((n k : ℕ) → has n k ≡ true → is_earlier (n, k) first ≡ false) → nat_le first.0 now ≡ true → option_map place (first_due key moment now rows) ≡ Some first
  due_first first r at waits none come =
      earliest_at place first (filter due rows)
      (due_any (is_place place first) ∙ any_found (λ o. key o == first.1) (λ o. due o && is_place place first o) rows r at passes)
      (due_any (λ o. is_earlier (place o) first) ∙ others)
    where
      others : list_any (λ r. due r && is_earlier (place r) first) rows ≡ false
      others = any_none key (λ r. due r && is_earlier (place r) first) 0 rows up (λ r at. by_moment r at (moment r) refl)
        where
          by_moment : (r : A) → find (λ x. key x == key r) rows ≡ Some r → (m : Option ℕ) → moment r ≡ m
              → (option_map_or (λ m. nat_le m now) m false && is_earlier (option_map_or (λ m. m) m 0, key r) first) ≡ false
          by_moment r at None waits = refl
          by_moment r at (Some m) waits = let later = none m (key r) (kept r m at waits) in grind (arith, later)

      passes : (option_map_or (λ m. nat_le m now) (moment r) false && ((option_map_or (λ m. m) (moment r) 0 == first.0) && (key r == first.1))) ≡ true
      passes =
          let its = found_passes (λ x. key x == first.1) rows r at in
          let same : (first.0 == first.0) ≡ true = grind (arith, nat_tests) in
          rw (waits, come, same, its) refl
