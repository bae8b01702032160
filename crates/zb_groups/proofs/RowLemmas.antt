-- Rows under their numbers, in their groups.
use Rattle.std.proofs.Common.{◌≡◌, ℕ, ◌+◌, ◌==◌, List, [], ◌∷◌, ◌++◌, map, filter, length, get_or, slice_get, All, Bool, true, false, ◌&&◌, ◌||◌, not, cond, is_some, if◌then◌else◌, Option, Some, option_map, refl, sym, ap, subst, ◌∙◌, arith}
use Rattle.std.specs.List.{find, list_any}
use Rattle.std.specs.Option.{option_map_or}
use Rattle.std.proofs.lemmas.Bool.Decides.{nat_tests}
use Rattle.std.proofs.lemmas.List.{length-map}
use Rattle.std.proofs.lemmas.List.Elements.{All-nil, All-cons, All-head, All-tail}
use Rattle.zb_table.specs.Rows.{Ascend, row_at, without}
use Rattle.zb_table.proofs.Ascending.{lower, not_below}
use Rattle.zb_table.proofs.Changing.{without_none}
use Rattle.zb_groups.specs.declared.held.Held.{Held}
use Rattle.zb_groups.specs.Groups.{numbers_in, passes_at}

-- each row is the one that is found with its key
pub each_found : {A : Type 0} (key : A → ℕ) (low : ℕ) (rows : List A) → Ascend key low rows → All (λ r. row_at key (key r) rows ≡ Some r) rows
each_found key low [] up = All-nil (λ r. row_at key (key r) [] ≡ Some r)
each_found key low (r ∷ rows) up =
    let same : (key r == key r) ≡ true = grind (arith, nat_tests) in
    let later = each_found key (key r + 1) rows up.1 in
    All-cons (λ x. row_at key (key x) (r ∷ rows) ≡ Some x) r rows (rw same refl)
    (λ k d within.
    let above = not_below key (key r + 1) rows k d up.1 within in
    let other : (key r == key (get_or rows k d)) ≡ false = grind (arith, nat_tests, above) in
    rw other (later k d within))

module _ {A : Type 0} (group_in : A → ℕ) (group : ℕ) where
  abbrev is_in : Held A → Bool
  is_in h = group_in h.row == group

  more_by : (t u : Bool) (h new : Held A) (rows : List (Held A)) → numbers_in group_in group (rows ++ new ∷ []) ≡ (if u then numbers_in group_in group rows ++ new.number ∷ [] else numbers_in group_in group rows)
      → map (λ (x : Held A). x.number) (cond t (h ∷ filter is_in (rows ++ new ∷ [])) (filter is_in (rows ++ new ∷ [])))
      ≡ (if u then map (λ (x : Held A). x.number) (cond t (h ∷ filter is_in rows) (filter is_in rows)) ++ new.number ∷ [] else map (λ (x : Held A). x.number) (cond t (h ∷ filter is_in rows) (filter is_in rows)))
  more_by true true h new rows later = ap (λ (l : List ℕ). h.number ∷ l) later
  more_by true false h new rows later = ap (λ (l : List ℕ). h.number ∷ l) later
  more_by false u h new rows later = later

  one_by : (u : Bool) (new : Held A) → map (λ (x : Held A). x.number) (cond u (new ∷ []) []) ≡ (if u then [] ++ new.number ∷ [] else [])
  one_by true new = refl
  one_by false new = refl

  -- the numbers of a group, with a row more
  pub numbers_more : (rows : List (Held A)) (new : Held A) → numbers_in group_in group (rows ++ new ∷ []) ≡ (if group_in new.row == group then numbers_in group_in group rows ++ new.number ∷ [] else numbers_in group_in group rows)
  numbers_more [] new = one_by (is_in new) new
  numbers_more (h ∷ rows) new = more_by (is_in h) (is_in new) h new rows (numbers_more rows new)

  -- there are as many as rows
  pub numbers_counted : (rows : List (Held A)) → length (numbers_in group_in group rows) ≡ length (filter is_in rows)
  numbers_counted rows = length-map (filter is_in rows) (λ (h : Held A). h.number)

  -- there is a first number where the group has a row
  pub has_first : (rows : List (Held A)) → is_some (slice_get (numbers_in group_in group rows) 0) ≡ list_any is_in rows
  has_first [] = refl
  has_first (h ∷ rows) = by_test (is_in h) (has_first rows)
    where
      by_test : (t : Bool) → is_some (slice_get (numbers_in group_in group rows) 0) ≡ list_any is_in rows
          → is_some (slice_get (map (λ (x : Held A). x.number) (cond t (h ∷ filter is_in rows) (filter is_in rows))) 0) ≡ (t || list_any is_in rows)
      by_test true later = refl
      by_test false later = later

  module _ (passes : A → Bool) (all : List (Held A)) where
    -- a row is the one that is found with its number
    abbrev IsFound : Held A → Type 0
    IsFound h = row_at (λ (x : Held A). x.number) h.number all ≡ Some h

    -- a row is in the group, and passes
    abbrev fits : Held A → Bool
    fits h = is_in h && passes h.row

    abbrev first : List ℕ → Option ℕ
    first numbers = find (passes_at passes all) numbers

    asked : (h : Held A) → IsFound h → passes_at passes all h.number ≡ passes h.row
    asked h found = ap (λ (x : Option (Held A)). option_map_or (λ y. passes y.row) x false) found

    found_by : (t u : Bool) (h : Held A) (rows : List (Held A)) → passes_at passes all h.number ≡ u → first (numbers_in group_in group rows) ≡ option_map (λ x. x.number) (find fits rows)
        → first (map (λ (x : Held A). x.number) (cond t (h ∷ filter is_in rows) (filter is_in rows))) ≡ option_map (λ x. x.number) (cond (t && u) (Some h) (find fits rows))
    found_by true true h rows asks later = ap (λ (t : Bool). cond t (Some h.number) (first (numbers_in group_in group rows))) asks
    found_by true false h rows asks later = ap (λ (t : Bool). cond t (Some h.number) (first (numbers_in group_in group rows))) asks ∙ later
    found_by false u h rows asks later = later

    -- the first number of the group whose row passes is that of the first such row
    pub row_found : (rows : List (Held A)) → All IsFound rows → first (numbers_in group_in group rows) ≡ option_map (λ x. x.number) (find fits rows)
    row_found [] each = refl
    row_found (h ∷ rows) each =
        found_by (is_in h) (passes h.row) h rows (asked h (All-head IsFound h rows each)) (row_found rows (All-tail IsFound h rows each))

-- without a row the numbers of other groups stay
module _ {A : Type 0} (group_in : A → ℕ) (n : ℕ) where
  abbrev number_in : Held A → ℕ
  number_in h = h.number

  stay_by : (t u : Bool) (low : ℕ) (x h : Held A) (rows : List (Held A)) (group : ℕ) → (x.number == n) ≡ t → (group_in x.row == group) ≡ u → (group_in h.row == group) ≡ false → Ascend number_in (x.number + 1) rows
      → (row_at number_in n rows ≡ Some h → numbers_in group_in group (without number_in n rows) ≡ numbers_in group_in group rows)
      → (if t then Some x else row_at number_in n rows) ≡ Some h
      → numbers_in group_in group (cond (not t) (x ∷ without number_in n rows) (without number_in n rows)) ≡ map number_in (cond u (x ∷ filter (λ y. group_in y.row == group) rows) (filter (λ y. group_in y.row == group) rows))
  stay_by true true low x h rows group same its other up later is =
      let one : x ≡ h = cc in
      let both : (group_in x.row == group) ≡ false = subst (λ (y : Held A). (group_in y.row == group) ≡ false) (sym one) other in
      absurd (cc)
  stay_by true false low x h rows group same its other up later is =
      ap (numbers_in group_in group) (without_none number_in n (x.number + 1) rows up (grind (arith, nat_tests)))
  stay_by false true low x h rows group apart its other up later is = rw its (ap (λ (l : List ℕ). x.number ∷ l) (later is))
  stay_by false false low x h rows group apart its other up later is = rw its (later is)

  pub numbers_stay : (group low : ℕ) (h : Held A) (rows : List (Held A)) → Ascend number_in low rows → (group_in h.row == group) ≡ false → row_at number_in n rows ≡ Some h → numbers_in group_in group (without number_in n rows) ≡ numbers_in group_in group rows
  numbers_stay group low h [] up other is = absurd (cc)
  numbers_stay group low h (x ∷ rows) up other is = stay_by (x.number == n) (group_in x.row == group) low x h rows group refl refl other up.1 (numbers_stay group (x.number + 1) h rows up.1 other) is

-- rows without some go on ascending
pub ascend_without : {A : Type 0} (key : A → ℕ) (n low : ℕ) (rows : List A) → Ascend key low rows → Ascend key low (without key n rows)
ascend_without key n low [] up = tt
ascend_without key n low (r ∷ rows) up = by_test (key r == n) (ascend_without key n (key r + 1) rows up.1)
  where
    by_test : (t : Bool) → Ascend key (key r + 1) (without key n rows) → Ascend key low (cond (not t) (r ∷ without key n rows) (without key n rows))
    by_test true later = lower key low (key r + 1) (without key n rows) (omega (arith, up.0)) later
    by_test false later = (up.0, later)
