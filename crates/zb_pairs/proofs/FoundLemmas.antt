-- Rows in the order of their keys: what is found among them, and one more, one fewer, or one changed.
use Rattle.std.proofs.Common.{◌≡◌, ℕ, ◌+◌, ◌<◌, ◌≤◌, ◌==◌, nat_lt, List, [], ◌∷◌, ◌++◌, map, filter, Bool, true, false, not, cond, if◌then◌else◌, Option, Some, None, option_map, refl, sym, ap, subst, ◌∙◌, arith}
use Rattle.std.specs.List.{find}
use Rattle.std.proofs.lemmas.Bool.Decides.{nat_tests}
use Rattle.zb_table.specs.Rows.{Ascend, are_below, first_passing, with_edit, with_row, without}
use Rattle.zb_table.proofs.Ascending.{lower}
use Rattle.zb_table.proofs.Reading.{row_edited}

module _ {A : Type 0} (p : A → Bool) where
  -- what is found first
  pub first_is_found : (xs : List A) → first_passing p xs ≡ find p xs
  first_is_found [] = refl
  first_is_found (x ∷ xs) = by_test (p x) (first_is_found xs)
    where
      by_test : (t : Bool) → first_passing p xs ≡ find p xs → ◌≡◌ {A = Option A} (if t then Some x else first_passing p xs) (cond t (Some x) (find p xs))
      by_test true later = refl
      by_test false later = later

  -- where none is found, the first doesn't pass
  pub none_here : (x : A) (xs : List A) → find p (x ∷ xs) ≡ None → p x ≡ false
  none_here x xs none = by_test (p x) refl none
    where
      by_test : (t : Bool) → p x ≡ t → ◌≡◌ {A = Option A} (cond t (Some x) (find p xs)) None → p x ≡ false
      by_test true here none = absurd (cc)
      by_test false here none = here

  -- and there is none behind it
  pub none_later : (x : A) (xs : List A) → find p (x ∷ xs) ≡ None → find p xs ≡ None
  none_later x xs none = by_test (p x) none
    where
      by_test : (t : Bool) → ◌≡◌ {A = Option A} (cond t (Some x) (find p xs)) None → find p xs ≡ None
      by_test true none = absurd (cc)
      by_test false none = none

  -- none is found with one more that doesn't pass
  pub none_more : (xs : List A) (x : A) → find p xs ≡ None → p x ≡ false → find p (xs ++ x ∷ []) ≡ None
  none_more [] x none fails = rw fails refl
  none_more (y ∷ xs) x none fails = rw (none_here y xs none) (none_more xs x (none_later y xs none) fails)

  -- nor among some of them
  pub none_kept : (keeps : A → Bool) (xs : List A) → find p xs ≡ None → find p (filter keeps xs) ≡ None
  none_kept keeps [] none = refl
  none_kept keeps (x ∷ xs) none = by_test (keeps x) (none_kept keeps xs (none_later x xs none))
    where
      by_test : (t : Bool) → find p (filter keeps xs) ≡ None → find p (cond t (x ∷ filter keeps xs) (filter keeps xs)) ≡ None
      by_test true later = rw (none_here x xs none) later
      by_test false later = later

  -- nor where they are changed in another respect
  pub none_mapped : (f : A → A) (xs : List A) → ((x : A) → p (f x) ≡ p x) → find p xs ≡ None → find p (map f xs) ≡ None
  none_mapped f [] keeps none = refl
  none_mapped f (x ∷ xs) keeps none = rw (keeps x, none_here x xs none) (none_mapped f xs keeps (none_later x xs none))

  -- where none passes, all stay that don't
  pub all_stay : (xs : List A) → find p xs ≡ None → filter (λ x. not (p x)) xs ≡ xs
  all_stay [] none = refl
  all_stay (x ∷ xs) none = rw (none_here x xs none) (ap (λ (l : List A). x ∷ l) (all_stay xs (none_later x xs none)))

  -- what is found passes
  pub found_passes : (xs : List A) (x : A) → find p xs ≡ Some x → p x ≡ true
  found_passes [] x is = absurd (cc)
  found_passes (y ∷ xs) x is = by_test (p y) refl is (found_passes xs x)
    where
      by_test : (t : Bool) → p y ≡ t → ◌≡◌ {A = Option A} (cond t (Some y) (find p xs)) (Some x) → (find p xs ≡ Some x → p x ≡ true) → p x ≡ true
      by_test true here is later = let same : y ≡ x = cc in ap p (sym same) ∙ here
      by_test false here is later = later is

  -- what is found with one more that is the first to pass
  pub found_new : (xs : List A) (x : A) → find p xs ≡ None → p x ≡ true → find p (xs ++ x ∷ []) ≡ Some x
  found_new [] x none is = rw is refl
  found_new (y ∷ xs) x none is = rw (none_here y xs none) (found_new xs x (none_later y xs none) is)

  -- or that doesn't
  pub found_other : (xs : List A) (x : A) → p x ≡ false → find p (xs ++ x ∷ []) ≡ find p xs
  found_other [] x isnt = rw isnt refl
  found_other (y ∷ xs) x isnt = ap (λ (o : Option A). cond (p y) (Some y) o) (found_other xs x isnt)

  -- where all are changed in another respect
  pub found_mapped : (f : A → A) (xs : List A) → ((x : A) → p (f x) ≡ p x) → find p (map f xs) ≡ option_map f (find p xs)
  found_mapped f [] keeps = refl
  found_mapped f (x ∷ xs) keeps = rw (keeps x) (by_test (p x) (found_mapped f xs keeps))
    where
      by_test : (t : Bool) → find p (map f xs) ≡ option_map f (find p xs) → cond t (Some (f x)) (find p (map f xs)) ≡ option_map f (cond t (Some x) (find p xs))
      by_test true later = refl
      by_test false later = later

-- a function that changes nothing
pub map_same : {A : Type 0} (f : A → A) (xs : List A) → ((x : A) → f x ≡ x) → map f xs ≡ xs
map_same f [] same = refl
map_same f (x ∷ xs) same = rw (same x, map_same f xs same) refl

-- all are kept
pub filter_all : {A : Type 0} (xs : List A) → filter (λ x. true) xs ≡ xs
filter_all [] = refl
filter_all {A} (x ∷ xs) = ap (λ (l : List A). x ∷ l) (filter_all xs)

module _ {A : Type 0} (key : A → ℕ) where
  -- what is found isn't below the first
  pub found_above : (p : A → Bool) (low : ℕ) (rows : List A) (r : A) → Ascend key low rows → find p rows ≡ Some r → low ≤ key r
  found_above p low [] r up is = absurd (cc)
  found_above p low (x ∷ rows) r up is = by_test (p x) is (found_above p (key x + 1) rows r up.1)
    where
      by_test : (t : Bool) → ◌≡◌ {A = Option A} (cond t (Some x) (find p rows)) (Some r) → (find p rows ≡ Some r → key x + 1 ≤ key r) → low ≤ key r
      by_test true is later = let same : x ≡ r = cc in rw (sym same) up.0
      by_test false is later = let above = later is in omega (arith, up.0, above)

  -- rows without some go on ascending
  pub ascend_kept : (keeps : A → Bool) (low : ℕ) (rows : List A) → Ascend key low rows → Ascend key low (filter keeps rows)
  ascend_kept keeps low [] up = tt
  ascend_kept keeps low (r ∷ rows) up = by_test (keeps r) (ascend_kept keeps (key r + 1) rows up.1)
    where
      by_test : (t : Bool) → Ascend key (key r + 1) (filter keeps rows) → Ascend key low (cond t (r ∷ filter keeps rows) (filter keeps rows))
      by_test true later = (up.0, later)
      by_test false later = lower key low (key r + 1) (filter keeps rows) (omega (arith, up.0)) later

  -- and so they do where the keys stay
  pub ascend_mapped : (f : A → A) (low : ℕ) (rows : List A) → ((r : A) → key (f r) ≡ key r) → Ascend key low rows → Ascend key low (map f rows)
  ascend_mapped f low [] keeps up = tt
  ascend_mapped f low (r ∷ rows) keeps up = rw (keeps r) (up.0, ascend_mapped f (key r + 1) rows keeps up.1)

  module _ (f : A → A) (k : ℕ) (keeps : (r : A) → key (f r) ≡ key r) (only : (r : A) → (key r == k) ≡ false → f r ≡ r) where
    -- rows with greater keys stay as they are
    pub map_above : (low : ℕ) (rows : List A) → Ascend key low rows → k < low → map f rows ≡ rows
    map_above low [] up below = refl
    map_above low (r ∷ rows) up below =
        let other : (key r == k) ≡ false = grind (arith, nat_tests, up.0, below) in
        rw (only r other, map_above (key r + 1) rows up.1 (omega (arith, up.0, below))) refl

    -- and all do where none has the key
    pub map_absent : (rows : List A) → find (λ r. key r == k) rows ≡ None → map f rows ≡ rows
    map_absent [] none = refl
    map_absent (r ∷ rows) none =
        rw (only r (none_here (λ x. key x == k) r rows none), map_absent rows (none_later (λ x. key x == k) r rows none)) refl

    -- and it is enough to edit the row with the key
    pub edited_all : (rows : List A) → with_edit key k f rows ≡ map f rows
    edited_all [] = refl
    edited_all (r ∷ rows) = by_test (key r == k) refl (edited_all rows)
      where
        by_test : (t : Bool) → (key r == k) ≡ t → with_edit key k f rows ≡ map f rows → (if t then f r else r) ∷ with_edit key k f rows ≡ f r ∷ map f rows
        by_test true here later = ap (λ (l : List A). f r ∷ l) later
        by_test false here later = rw (only r here) (ap (λ (l : List A). r ∷ l) later)

  -- another row is found as before where the row with a key is edited, and keys stay
  pub found_other_edited : (k n : ℕ) (f : A → A) (rows : List A) → map key (with_edit key k f rows) ≡ map key rows → (k == n) ≡ false → find (λ r. key r == n) (with_edit key k f rows) ≡ find (λ r. key r == n) rows
  found_other_edited k n f rows same apart =
      sym (first_is_found (λ (r : A). key r == n) (with_edit key k f rows)) ∙ (row_edited key k n f rows same ∙ rw apart (first_is_found (λ (r : A). key r == n) rows))

-- what is found without those that have a number
pub found_without : {A : Type 0} (number : A → ℕ) (gone n : ℕ) (xs : List A) → find (λ x. number x == n) (filter (λ x. not (number x == gone)) xs) ≡ cond (gone == n) None (find (λ x. number x == n) xs)
found_without {A} number gone n [] = by_test (gone == n)
  where
    by_test : (t : Bool) → ◌≡◌ {A = Option A} None (cond t None None)
    by_test true = refl
    by_test false = refl
found_without {A} number gone n (x ∷ xs) = by_tests (number x == gone) (number x == n) (gone == n) refl (λ is at. grind (arith, nat_tests)) (λ is at. grind (arith, nat_tests)) (found_without number gone n xs)
  where
    by_tests : (s t u : Bool) → (number x == n) ≡ t → (s ≡ true → t ≡ true → u ≡ true) → (u ≡ true → t ≡ true → s ≡ true) → find (λ y. number y == n) (filter (λ y. not (number y == gone)) xs) ≡ cond u None (find (λ y. number y == n) xs)
        → find (λ y. number y == n) (cond (not s) (x ∷ filter (λ y. not (number y == gone)) xs) (filter (λ y. not (number y == gone)) xs)) ≡ cond u None (cond t (Some x) (find (λ y. number y == n) xs))
    by_tests true true u at both back later = rw (both refl refl) (later ∙ rw (both refl refl) refl)
    by_tests true false u at both back later = later
    by_tests false true true at both back later = absurd (let is = back refl refl in cc)
    by_tests false true false at both back later = rw at refl
    by_tests false false u at both back later = rw at later

-- none has a key that is greater than all
pub none_below : {A : Type 0} (key : A → ℕ) (k : ℕ) (rows : List A) → are_below key k rows ≡ true → find (λ r. key r == k) rows ≡ None
none_below key k [] below = refl
none_below key k (r ∷ rows) below =
    let less : key r < k = grind (arith, nat_tests, below) in
    let later : are_below key k rows ≡ true = grind (arith, nat_tests, below) in
    let apart : (key r == k) ≡ false = grind (arith, nat_tests, less) in
    rw apart (none_below key k rows later)

module _ {A : Type 0} (key : A → ℕ) (row : A) where
  -- what is found where a row comes in whose key none has
  pub found_with : (k : ℕ) (rows : List A) → find (λ r. key r == key row) rows ≡ None → find (λ r. key r == k) (with_row key row rows) ≡ cond (key row == k) (Some row) (find (λ r. key r == k) rows)
  found_with k [] none = refl
  found_with k (r ∷ rows) none = by_test (nat_lt (key r) (key row)) (found_with k rows (none_later (λ x. key x == key row) r rows none))
    where
      apart : (key r == key row) ≡ false
      apart = none_here (λ x. key x == key row) r rows none

      mine : (t u : Bool) → (key r == k) ≡ t → (key row == k) ≡ u → cond t (Some r) (cond u (Some row) (find (λ x. key x == k) rows)) ≡ cond u (Some row) (cond t (Some r) (find (λ x. key x == k) rows))
      mine true true its too = absurd (let same : (key r == key row) ≡ true = grind (arith, nat_tests, its, too) in cc)
      mine true false its other = refl
      mine false u other its = refl

      by_test : (s : Bool) → find (λ x. key x == k) (with_row key row rows) ≡ cond (key row == k) (Some row) (find (λ x. key x == k) rows)
          → find (λ x. key x == k) (if s then r ∷ with_row key row rows else if key r == key row then row ∷ rows else row ∷ r ∷ rows) ≡ cond (key row == k) (Some row) (cond (key r == k) (Some r) (find (λ x. key x == k) rows))
      by_test true later = ap (λ (o : Option A). cond (key r == k) (Some r) o) later ∙ mine (key r == k) (key row == k) refl refl
      by_test false later = rw apart refl

  -- the keys go on ascending with it
  pub ascend_with : (low : ℕ) (rows : List A) → low ≤ key row → Ascend key low rows → Ascend key low (with_row key row rows)
  ascend_with low [] least up = (least, tt)
  ascend_with low (r ∷ rows) least up = by_tests (λ above. ascend_with (key r + 1) rows above up.1) (nat_lt (key r) (key row)) (key r == key row) refl refl
    where
      by_tests : (key r + 1 ≤ key row → Ascend key (key r + 1) (with_row key row rows)) → (s e : Bool) → nat_lt (key r) (key row) ≡ s → (key r == key row) ≡ e → Ascend key low (if s then r ∷ with_row key row rows else if e then row ∷ rows else row ∷ r ∷ rows)
      by_tests later true e before same = (up.0, later (grind (arith, nat_tests, before)))
      by_tests later false true behind same = (least, subst (λ (k : ℕ). Ascend key (k + 1) rows) (grind (arith, nat_tests, same)) up.1)
      by_tests later false false behind same = (least, (grind (arith, nat_tests, behind, same), up.1))

  -- where it goes again, all is as it was
  pub without_with : (rows : List A) → find (λ r. key r == key row) rows ≡ None → without key (key row) (with_row key row rows) ≡ rows
  without_with [] none = let itself : (key row == key row) ≡ true = grind (arith, nat_tests) in rw itself refl
  without_with (r ∷ rows) none =
      let p : A → Bool = λ (x : A). key x == key row in
      by_test (none_here p r rows none) (without_with rows (none_later p r rows none)) (all_stay p rows (none_later p r rows none)) (nat_lt (key r) (key row))
    where
      by_test : (key r == key row) ≡ false → without key (key row) (with_row key row rows) ≡ rows → without key (key row) rows ≡ rows
          → (t : Bool) → without key (key row) (if t then r ∷ with_row key row rows else if key r == key row then row ∷ rows else row ∷ r ∷ rows) ≡ r ∷ rows
      by_test apart later stay true = rw apart (ap (λ (l : List A). r ∷ l) later)
      by_test apart later stay false =
          let itself : (key row == key row) ≡ true = grind (arith, nat_tests) in
          rw (apart, itself, apart) (ap (λ (l : List A). r ∷ l) stay)
