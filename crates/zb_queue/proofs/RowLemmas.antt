-- Rows under their numbers: what is found, one fewer, and one more.
use Rattle.std.proofs.Common.{◌≡◌, ℕ, suc, ◌+◌, ◌<◌, ◌≤◌, ◌==◌, nat_lt, List, [], ◌∷◌, ◌++◌, map, filter, get_or, length, not, Bool, true, false, ◌&&◌, ◌||◌, is_some, cond, Option, Some, option_map, All, BTreeMap, refl, sym, ap, arith, nat_cmp}
use Rattle.std.specs.List.{find, list_any}
use Rattle.std.specs.List.Sorted.{IsStrictlySortedBy}
use Rattle.std.specs.Map.{keys_of, values_of, remove_entry}
use Rattle.std.specs.BTreeMap.{is_at, get, insert_entry, IsOrdered}
use Rattle.std.specs.Option.{option_map_or}
use Rattle.std.proofs.lemmas.Bool.Decides.{nat_tests}
use Rattle.std.proofs.lemmas.List.Elements.{All-head, All-tail}
use Rattle.std.proofs.lemmas.Map.Keys.{sorted_tail, below_from_sorted}
use Rattle.zb_table.specs.Rows.{Ascend, are_below, without}
use Rattle.zb_table.proofs.Changing.{without_none}
use Rattle.zb_queue.specs.Numbers.{row_passes}

-- a row has this key, and passes
abbrev pub is_under : {A : Type 0} → (A → ℕ) → ℕ → (A → Bool) → A → Bool
is_under name_in key passes row = (name_in row == key) && passes row

module _ {A : Type 0} where
  -- the number of a row
  abbrev pub number : ℕ × A → ℕ
  number e = e.0

  -- the numbers of a map ascend
  ascending : (low : ℕ) (es : List (ℕ × A)) → All (λ k. low ≤ k) (keys_of es) → IsStrictlySortedBy nat_cmp (keys_of es) → Ascend number low es
  ascending low [] above sorted = tt
  ascending low (e ∷ es) above sorted =
      let apart : All (λ k. e.0 + 1 ≤ k) (keys_of es) =
      λ i d within. let less : e.0 < get_or (keys_of es) i d = below_from_sorted (keys_of (e ∷ es)) 0 (suc i) d sorted (omega arith) (omega (arith, within)) in omega (arith, less) in
      (All-head (λ (k : ℕ). low ≤ k) e.0 (keys_of es) above, ascending (e.0 + 1) es apart (sorted_tail nat_cmp e.0 (keys_of es) sorted))

  -- from the least on
  pub numbers_ascend : (rows : BTreeMap ℕ A) → IsOrdered nat_cmp rows → Ascend number 0 rows.entries
  numbers_ascend rows order = ascending 0 rows.entries (λ i d within. omega arith) order

  -- below a number that is greater than all
  pub all_below : (n : ℕ) (es : List (ℕ × A)) → All (λ k. k < n) (keys_of es) → are_below number n es ≡ true
  all_below n [] less = refl
  all_below n (e ∷ es) less =
      let here : nat_lt e.0 n ≡ true = grind (arith, nat_tests, All-head (λ (k : ℕ). k < n) e.0 (keys_of es) less) in
      rw here (all_below n es (All-tail (λ (k : ℕ). k < n) e.0 (keys_of es) less))

  -- the row under it goes behind all
  pub put_last : (n : ℕ) (row : A) (es : List (ℕ × A)) → are_below number n es ≡ true → insert_entry nat_cmp es n row ≡ es ++ (n, row) ∷ []
  put_last n row [] below = refl
  put_last n row (e ∷ es) below =
      let before : nat_lt n e.0 ≡ false = grind (arith, nat_tests, below) in
      let apart : (n == e.0) ≡ false = grind (arith, nat_tests, below) in
      rw (before, apart) (ap (λ (l : List (ℕ × A)). e ∷ l) (put_last n row es (grind (arith, nat_tests, below))))

  -- rows that pass are those of the entries whose rows do
  pub values_kept : (keeps : A → Bool) (es : List (ℕ × A)) → values_of (filter (λ e. keeps e.1) es) ≡ filter keeps (values_of es)
  values_kept keeps [] = refl
  values_kept keeps (e ∷ es) = by_test (keeps e.1) (values_kept keeps es)
    where
      by_test : (t : Bool) → values_of (filter (λ o. keeps o.1) es) ≡ filter keeps (values_of es)
          → values_of (cond t (e ∷ filter (λ o. keeps o.1) es) (filter (λ o. keeps o.1) es)) ≡ cond t (e.1 ∷ filter keeps (values_of es)) (filter keeps (values_of es))
      by_test true later = ap (λ (l : List A). e.1 ∷ l) later
      by_test false later = later

  -- there is a first number where a row passes
  pub any_first : (fits : A → Bool) (es : List (ℕ × A)) → is_some (option_map number (find (λ e. fits e.1) es)) ≡ list_any fits (values_of es)
  any_first fits [] = refl
  any_first fits (e ∷ es) = by_test (fits e.1) (any_first fits es)
    where
      by_test : (t : Bool) → is_some (option_map number (find (λ o. fits o.1) es)) ≡ list_any fits (values_of es)
          → is_some (option_map number (cond t (Some e) (find (λ o. fits o.1) es))) ≡ (t || list_any fits (values_of es))
      by_test true later = refl
      by_test false later = later

  -- of the numbers under a key the first whose row passes is that of the first such row
  module _ (name_in : A → ℕ) (key : ℕ) (passes : A → Bool) (all : BTreeMap ℕ A) where
    abbrev IsFound : ℕ × A → Type 0
    IsFound e = get nat_cmp all e.0 ≡ Some e.1

    abbrev of_key : List (ℕ × A) → List (ℕ × A)
    of_key es = filter (λ e. name_in e.1 == key) es

    abbrev found : List (ℕ × A) → Option ℕ
    found es = option_map number (find (λ e. is_under name_in key passes e.1) es)

    pub first_found : (es : List (ℕ × A)) → All IsFound es → find (row_passes passes all) (map number (of_key es)) ≡ found es
    first_found [] each = refl
    first_found (e ∷ es) each =
        by_tests (name_in e.1 == key) (passes e.1) (ap (λ (o : Option A). option_map_or passes o false) (All-head IsFound e es each)) (first_found es (All-tail IsFound e es each))
      where
        by_tests : (t u : Bool) → row_passes passes all e.0 ≡ u → find (row_passes passes all) (map number (of_key es)) ≡ found es
            → find (row_passes passes all) (map number (cond t (e ∷ of_key es) (of_key es))) ≡ option_map number (cond (t && u) (Some e) (find (λ o. is_under name_in key passes o.1) es))
        by_tests true true asks later = rw asks refl
        by_tests true false asks later = rw asks later
        by_tests false u asks later = later

  -- a row doesn't pass
  abbrev pub out : (A → Bool) → ℕ × A → Bool
  out fits e = not (fits e.1)

  -- without the first row that passes, under its number, the others stay
  module _ (fits : A → Bool) (n : ℕ) where
    pub record IsGone (low : ℕ) (es : List (ℕ × A)) : Type 0 where
      pub row : A
      pub from : low ≤ n
      pub passes : fits row ≡ true
      pub at : find (λ e. e.0 == n) es ≡ Some (n, row)
      pub left : remove_entry (is_at (nat_cmp n)) es ≡ without number n es
      pub fewer : length (without number n es) < length es
      pub stay : filter (out fits) (without number n es) ≡ filter (out fits) es

    pub one_gone : (low : ℕ) (es : List (ℕ × A)) → Ascend number low es → Some n ≡ option_map number (find (λ e. fits e.1) es) → IsGone low es
    one_gone low [] up is = absurd (cc)
    one_gone low (e ∷ es) up is = by_test (fits e.1) refl is (one_gone (e.0 + 1) es up.1)
      where
        by_test : (t : Bool) → fits e.1 ≡ t → Some n ≡ option_map number (cond t (Some e) (find (λ o. fits o.1) es)) → (Some n ≡ option_map number (find (λ o. fits o.1) es) → IsGone (e.0 + 1) es) → IsGone low (e ∷ es)
        by_test true passing is rest =
            let one : n ≡ e.0 = cc in
            let same : (e.0 == n) ≡ true = grind (arith, nat_tests, one) in
            let back : (n == e.0) ≡ true = grind (arith, nat_tests, one) in
            let less : nat_lt n e.0 ≡ false = grind (arith, nat_tests, one) in
            let gone : without number n es ≡ es = without_none number n (e.0 + 1) es up.1 (omega (arith, one)) in
            record {
              row = e.1;
              from = omega (arith, one, up.0);
              passes = passing;
              at = rw same (ap (λ (m : ℕ). Some (m, e.1)) (sym one));
              left = rw (less, back, same) (sym gone);
              fewer = rw (same, gone) (omega arith);
              stay = rw (same, passing) (ap (filter (out fits)) gone);
            }
        by_test false fails is rest =
            let later = rest is in
            let above = later.from in
            let other : (e.0 == n) ≡ false = grind (arith, nat_tests, above) in
            let back : (n == e.0) ≡ false = grind (arith, nat_tests, above) in
            let less : nat_lt n e.0 ≡ false = grind (arith, nat_tests, above) in
            record {
              row = later.row;
              from = omega (arith, above, up.0);
              passes = later.passes;
              at = rw other later.at;
              left = rw (less, back, other) (ap (λ (l : List (ℕ × A)). e ∷ l) later.left);
              fewer = let fewer = later.fewer in rw other (omega (arith, fewer));
              stay = rw (other, fails) (ap (λ (l : List (ℕ × A)). e ∷ l) later.stay);
            }

-- where each row that passes has the key, its test changes nothing
pub all_under : {A : Type 0} (name_in : A → ℕ) (key : ℕ) (passes : A → Bool) → ((row : A) → passes row ≡ true → name_in row ≡ key) → is_under name_in key passes ≡ passes
all_under name_in key passes its i row = by_test (passes row) refl i
  where
    by_test : (t : Bool) → passes row ≡ t → ((name_in row == key) && t) ≡ t
    by_test true passing = let is = its row passing in grind (arith, nat_tests, is)
    by_test false fails = by_key (name_in row == key)
      where
        by_key : (u : Bool) → (u && false) ≡ false
        by_key true = refl
        by_key false = refl
