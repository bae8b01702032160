-- The keys that are kept under a number are those of its rows.
use Rattle.std.proofs.Common.{◌≡◌, ℕ, ◌+◌, ◌<◌, ◌≤◌, ◌==◌, nat_lt, List, [], ◌∷◌, length, map, filter, Bool, true, false, not, ◌&&◌, ◌||◌, cond, Option, Some, None, refl, sym, ap, subst, ◌∙◌, arith, nat_cmp}
use Rattle.std.specs.declared.cmp.Ordering.TheVariants.{Less, Equal, Greater}
use Rattle.std.specs.declared.ops.Bound.TheVariants.{Included, Unbounded}
use Rattle.std.specs.Ordering.{is_eq, is_le, ordering_then}
use Rattle.std.specs.BTreeMap.Range.{range_contains}
use Rattle.std.proofs.lemmas.List.Kept.{IsStrictlySortedBy-filter}
use Rattle.std.specs.List.{find, list_any, AllByRecursion}
use Rattle.std.specs.Option.{option_map_or}
use Rattle.std.specs.BTreeSet.{BTreeSet, IsOrdered}
use Rattle.std.specs.List.Sorted.{IsStrictlySortedBy}
use Rattle.std.proofs.lemmas.Bool.Decides.{nat_tests}
use Rattle.std.proofs.lemmas.Map.Keys.{sorted_head, sorted_tail}
use Rattle.zb_table.specs.Rows.{Ascend}
use Rattle.zb_pairs.specs.Pairs.{is_number, is_row_under, keys_under, place_cmp, IsIndex}
use Rattle.zb_pairs.proofs.FoundLemmas.{ascend_kept}
use Rattle.zb_pairs.proofs.PairLemmas.{same_place}

-- what isn't equal
pub is_other : (t : Bool) → true ≡ not t → t ≡ false
is_other true is = absurd (cc)
is_other false is = refl

-- no pairs are in order
no_keys : (keys : List (ℕ × ℕ)) → length keys ≡ 0 → IsStrictlySortedBy place_cmp keys
unfolding IsStrictlySortedBy
no_keys [] none = tt
no_keys (p ∷ keys) none = absurd (cc)

pub none_ordered : (pairs : BTreeSet (ℕ × ℕ)) → length pairs.keys ≡ 0 → IsOrdered place_cmp pairs
none_ordered pairs none = no_keys pairs.keys none

-- of two pairs that ascend
place_less : (a b : ℕ × ℕ) → place_cmp a b ≡ Less → (a.0 ≤ b.0) × (a.0 ≡ b.0 → a.1 < b.1)
place_less a b = by_tests (nat_lt a.0 b.0) (a.0 == b.0) (nat_lt a.1 b.1) (a.1 == b.1) refl refl refl
  where
    by_tests : (t u v w : Bool) → nat_lt a.0 b.0 ≡ t → (a.0 == b.0) ≡ u → nat_lt a.1 b.1 ≡ v → ordering_then (cond t Less (cond u Equal Greater)) (cond v Less (cond w Equal Greater)) ≡ Less → (a.0 ≤ b.0) × (a.0 ≡ b.0 → a.1 < b.1)
    by_tests true u v w ab same cd is = (grind (arith, nat_tests, ab), λ one. absurd (grind (arith, nat_tests, ab, one)))
    by_tests false true true w ab same cd is = (grind (arith, nat_tests, same), λ one. grind (arith, nat_tests, cd))
    by_tests false true false true ab same cd is = absurd (cc)
    by_tests false true false false ab same cd is = absurd (cc)
    by_tests false false v w ab same cd is = absurd (cc)

-- the first parts don't fall, from one on
abbrev pub RiseFrom : ℕ → List (ℕ × ℕ) → Type 0
RiseFrom low [] = Unit {0}
RiseFrom low (p ∷ ps) = (low ≤ p.0) × RiseFrom p.0 ps

-- pairs that ascend rise from the first one on
pub rises : (p : ℕ × ℕ) (ps : List (ℕ × ℕ)) → IsStrictlySortedBy place_cmp (p ∷ ps) → RiseFrom p.0 ps
rises p [] up = tt
rises p (q ∷ ps) up =
    let next = place_less p q (sorted_head place_cmp p (q ∷ ps) up).0 in
    (next.0, rises q ps (sorted_tail place_cmp p (q ∷ ps) up))

-- none is under a lower cell
pub none_under : (cell low : ℕ) (ps : List (ℕ × ℕ)) → RiseFrom low ps → cell < low → keys_under cell ps ≡ []
none_under cell low [] up below = refl
none_under cell low (p ∷ ps) up below =
    let apart : (p.0 == cell) ≡ false = grind (arith, nat_tests, up.0, below) in
    rw apart (none_under cell p.0 ps up.1 (omega (arith, up.0, below)))

-- members that pass another test wherever they pass the first
pub filter_within : {A : Type 0} (narrow wide : A → Bool) (xs : List A) → ((x : A) → narrow x ≡ true → wide x ≡ true) → filter narrow (filter wide xs) ≡ filter narrow xs
filter_within narrow wide [] widens = refl
filter_within {A} narrow wide (x ∷ xs) widens = by_tests (wide x) (narrow x) refl refl (filter_within narrow wide xs widens)
  where
    by_tests : (t u : Bool) → wide x ≡ t → narrow x ≡ u → filter narrow (filter wide xs) ≡ filter narrow xs
        → filter narrow (cond t (x ∷ filter wide xs) (filter wide xs)) ≡ cond u (x ∷ filter narrow xs) (filter narrow xs)
    by_tests true true wides is later = rw is (ap (λ (l : List A). x ∷ l) later)
    by_tests true false wides isnt later = rw isnt later
    by_tests false true wont is later = absurd (let it = widens x is in cc)
    by_tests false false wont isnt later = later

-- keys under a cell are from one on
abbrev AreAbove : ℕ → ℕ → List (ℕ × ℕ) → Type 0
AreAbove cell low [] = Unit {0}
AreAbove cell low (p ∷ ps) = ((p.0 == cell) ≡ true → low ≤ p.1) × AreAbove cell low ps

above_first : (cell : ℕ) (p : ℕ × ℕ) (ps : List (ℕ × ℕ)) → (p.0 == cell) ≡ true → AllByRecursion (λ q. place_cmp p q ≡ Less) ps → AreAbove cell (p.1 + 1) ps
above_first cell p [] here less = tt
above_first cell p (q ∷ ps) here less =
    let next = place_less p q less.0 in
    (λ there. let same : p.0 ≡ q.0 = grind (arith, nat_tests, here, there) in let more = next.1 same in omega (arith, more), above_first cell p ps here less.1)

above_none : (cell : ℕ) (ps : List (ℕ × ℕ)) → AreAbove cell 0 ps
above_none cell [] = tt
above_none cell (p ∷ ps) = (λ here. omega arith, above_none cell ps)

keys_ascend : (cell low : ℕ) (ps : List (ℕ × ℕ)) → IsStrictlySortedBy place_cmp ps → AreAbove cell low ps → Ascend (λ k. k) low (keys_under cell ps)
keys_ascend cell low [] up above = tt
keys_ascend cell low (p ∷ ps) up above =
    by_test (keys_ascend cell low ps (sorted_tail place_cmp p ps up) above.1) (λ from. keys_ascend cell (p.1 + 1) ps (sorted_tail place_cmp p ps up) from) (p.0 == cell) refl
  where
    by_test : Ascend (λ k. k) low (keys_under cell ps) → (AreAbove cell (p.1 + 1) ps → Ascend (λ k. k) (p.1 + 1) (keys_under cell ps)) → (t : Bool) → (p.0 == cell) ≡ t
        → Ascend (λ k. k) low (map (λ (q : ℕ × ℕ). q.1) (cond t (p ∷ filter (λ q. q.0 == cell) ps) (filter (λ q. q.0 == cell) ps)))
    by_test all later true here = (above.0 here, later (above_first cell p ps here (sorted_head place_cmp p ps up)))
    by_test all later false there = all

-- a key is among those under a cell where the pair is
pub under_any : (cell k : ℕ) (ps : List (ℕ × ℕ)) → list_any (λ x. x == k) (keys_under cell ps) ≡ list_any (λ p. is_eq (place_cmp (cell, k) p)) ps
under_any cell k [] = refl
under_any cell k (p ∷ ps) =
    by_test (p.0 == cell) refl (under_any cell k ps)
  where
    here : (cell == p.0) ≡ true → (p.1 == k) ≡ is_eq (place_cmp (cell, k) p)
    here same = let turned : (p.1 == k) ≡ (k == p.1) = grind (arith, nat_tests) in turned ∙ sym (same_place cell k p.0 p.1 ∙ rw same refl)

    there : (cell == p.0) ≡ false → false ≡ is_eq (place_cmp (cell, k) p)
    there apart = sym (same_place cell k p.0 p.1 ∙ rw apart refl)

    by_test : (t : Bool) → (p.0 == cell) ≡ t → list_any (λ x. x == k) (keys_under cell ps) ≡ list_any (λ q. is_eq (place_cmp (cell, k) q)) ps
        → list_any (λ x. x == k) (map (λ (q : ℕ × ℕ). q.1) (cond t (p ∷ filter (λ q. q.0 == cell) ps) (filter (λ q. q.0 == cell) ps))) ≡ (is_eq (place_cmp (cell, k) p) || list_any (λ q. is_eq (place_cmp (cell, k) q)) ps)
    by_test true same later = rw (later, here (grind (arith, nat_tests, same))) refl
    by_test false apart later = later ∙ ap (λ (b : Bool). b || list_any (λ q. is_eq (place_cmp (cell, k) q)) ps) (there (grind (arith, nat_tests, apart)))

-- no lower key is among those that ascend
none_lower : (k low : ℕ) (ks : List ℕ) → Ascend (λ x. x) low ks → k < low → list_any (λ x. x == k) ks ≡ false
none_lower k low [] up below = refl
none_lower k low (x ∷ ks) up below =
    let apart : (x == k) ≡ false = grind (arith, nat_tests, up.0, below) in
    rw apart (none_lower k (x + 1) ks up.1 (omega (arith, up.0, below)))

-- two lists that ascend and have the same members are one
pub same_members : (low : ℕ) (xs ys : List ℕ) → Ascend (λ x. x) low xs → Ascend (λ y. y) low ys → ((k : ℕ) → list_any (λ x. x == k) xs ≡ list_any (λ y. y == k) ys) → xs ≡ ys
same_members low [] [] up too same = refl
same_members low [] (y ∷ ys) up too same =
    absurd (let itself : (y == y) ≡ true = grind (arith, nat_tests) in let both = same y in let one : (y == y || list_any (λ x. x == y) ys) ≡ true = rw itself refl in cc)
same_members low (x ∷ xs) [] up too same =
    absurd (let itself : (x == x) ≡ true = grind (arith, nat_tests) in let both = same x in let one : (x == x || list_any (λ y. y == x) xs) ≡ true = rw itself refl in cc)
same_members low (x ∷ xs) (y ∷ ys) up too same = joined first (same_members (x + 1) xs ys up.1 (subst (λ (n : ℕ). Ascend (λ k. k) (n + 1) ys) (sym first) too.1) rest)
  where
    member : (z : ℕ) (zs : List ℕ) → (z == z || list_any (λ k. k == z) zs) ≡ true
    member z zs = let itself : (z == z) ≡ true = grind (arith, nat_tests) in rw itself refl

    by_order : (less more : Bool) → nat_lt x y ≡ less → nat_lt y x ≡ more → x ≡ y
    by_order true more before after =
        absurd (let none = none_lower x y (y ∷ ys) (omega arith, too.1) (grind (arith, nat_tests, before)) in let some = sym (same x) ∙ member x xs in cc)
    by_order false true before after =
        absurd (let none = none_lower y x (x ∷ xs) (omega arith, up.1) (grind (arith, nat_tests, after)) in let some = same y ∙ member y ys in cc)
    by_order false false before after = grind (arith, nat_tests, before, after)

    first : x ≡ y
    first = by_order (nat_lt x y) (nat_lt y x) refl refl

    rest : (k : ℕ) → list_any (λ z. z == k) xs ≡ list_any (λ z. z == k) ys
    rest k = by_test (x == k) refl
      where
        by_test : (t : Bool) → (x == k) ≡ t → list_any (λ z. z == k) xs ≡ list_any (λ z. z == k) ys
        by_test true here =
            let is : k < x + 1 = grind (arith, nat_tests, here) in
            none_lower k (x + 1) xs up.1 is ∙ sym (none_lower k (y + 1) ys too.1 (let one = first in omega (arith, is, one)))
        by_test false other =
            let apart : (y == k) ≡ false = ap (λ (n : ℕ). n == k) (sym first) ∙ other in
            let both = same k in
            sym (rw other refl) ∙ (both ∙ rw apart refl)

    joined : x ≡ y → xs ≡ ys → x ∷ xs ≡ y ∷ ys
    joined one others = ap (λ (n : ℕ). n ∷ xs) one ∙ ap (λ (l : List ℕ). y ∷ l) others

-- pairs from a cell on
from_cell : (cell : ℕ) (p : ℕ × ℕ) → is_le (place_cmp (cell, 0) p) ≡ true → cell ≤ p.0
from_cell cell p = by_tests (nat_lt cell p.0) (cell == p.0) refl refl
  where
    by_tests : (t u : Bool) → nat_lt cell p.0 ≡ t → (cell == p.0) ≡ u → is_le (ordering_then (cond t Less (cond u Equal Greater)) (nat_cmp 0 p.1)) ≡ true → cell ≤ p.0
    by_tests true u less same is = grind (arith, nat_tests, less)
    by_tests false true less same is = grind (arith, nat_tests, same)
    by_tests false false less same is = absurd (cc)

of_cell : (cell : ℕ) (p : ℕ × ℕ) → (p.0 == cell) ≡ true → is_le (place_cmp (cell, 0) p) ≡ true
of_cell cell p here = by_tests (nat_lt cell p.0) (cell == p.0) (nat_lt 0 p.1) (0 == p.1) refl refl refl refl
  where
    by_tests : (t u v w : Bool) → nat_lt cell p.0 ≡ t → (cell == p.0) ≡ u → nat_lt 0 p.1 ≡ v → (0 == p.1) ≡ w → is_le (ordering_then (cond t Less (cond u Equal Greater)) (cond v Less (cond w Equal Greater))) ≡ true
    by_tests true u v w less same more none = refl
    by_tests false true true w less same more none = refl
    by_tests false true false true less same more none = refl
    by_tests false true false false less same more none = absurd (grind (arith, nat_tests, more, none))
    by_tests false false v w less same more none = absurd (grind (arith, nat_tests, here, same))

module _ (cell : ℕ) where
  -- a pair is from the cell on
  abbrev pub is_from : ℕ × ℕ → Bool
  is_from p = range_contains place_cmp (Included (cell, 0)) Unbounded p

  -- those from the cell on have all that are under it
  pub under_from : (ps : List (ℕ × ℕ)) → keys_under cell (filter is_from ps) ≡ keys_under cell ps
  under_from ps = ap (map (λ (p : ℕ × ℕ). p.1)) (filter_within (λ (p : ℕ × ℕ). p.0 == cell) is_from ps (λ p here. rw (of_cell cell p here) refl))

  -- and rise from it on
  pub from_rises : (ps : List (ℕ × ℕ)) → IsStrictlySortedBy place_cmp ps → RiseFrom cell (filter is_from ps)
  from_rises [] up = tt
  from_rises (p ∷ ps) up = by_test (is_le (place_cmp (cell, 0) p)) refl (IsStrictlySortedBy-filter place_cmp is_from (p ∷ ps) up) (from_rises ps (sorted_tail place_cmp p ps up))
    where
      by_test : (t : Bool) → is_le (place_cmp (cell, 0) p) ≡ t → IsStrictlySortedBy place_cmp (cond (t && true) (p ∷ filter is_from ps) (filter is_from ps)) → RiseFrom cell (filter is_from ps)
          → RiseFrom cell (cond (t && true) (p ∷ filter is_from ps) (filter is_from ps))
      by_test true is sorted later = (from_cell cell p is, rises p (filter is_from ps) sorted)
      by_test false isnt sorted later = later

  -- none is under it behind a pair that isn't
  pub none_behind : (p : ℕ × ℕ) (ps : List (ℕ × ℕ)) → RiseFrom cell (p ∷ ps) → (p.0 == cell) ≡ false → keys_under cell (p ∷ ps) ≡ []
  none_behind p ps up apart = rw apart (none_under cell p.0 ps up.1 (grind (arith, nat_tests, up.0, apart)))

module _ {A : Type 0} (key : A → ℕ) where
  -- the keys of rows ascend by themselves
  own_ascend : (low : ℕ) (rows : List A) → Ascend key low rows → Ascend (λ k. k) low (map key rows)
  own_ascend low [] up = tt
  own_ascend low (r ∷ rows) up = (up.0, own_ascend (key r + 1) rows up.1)

  module _ (p : A → Bool) where
    -- the keys of the rows that pass
    abbrev pub keys_of : List A → List ℕ
    keys_of rows = map key (filter p rows)

    pub keys_of_ascend : (low : ℕ) (rows : List A) → Ascend key low rows → Ascend (λ k. k) low (keys_of rows)
    keys_of_ascend low rows up = own_ascend low (filter p rows) (ascend_kept key p low rows up)

    -- a key is among those of the rows that pass where its row does
    of_any : (k low : ℕ) (rows : List A) → Ascend key low rows → list_any (λ x. x == k) (keys_of rows) ≡ option_map_or p (find (λ r. key r == k) rows) false
    of_any k low [] up = refl
    of_any k low (r ∷ rows) up = by_tests (p r) (key r == k) refl refl (of_any k (key r + 1) rows up.1)
      where
        by_tests : (c s : Bool) → p r ≡ c → (key r == k) ≡ s → list_any (λ x. x == k) (keys_of rows) ≡ option_map_or p (find (λ o. key o == k) rows) false
            → list_any (λ x. x == k) (map key (cond c (r ∷ filter p rows) (filter p rows))) ≡ option_map_or p (cond s (Some r) (find (λ o. key o == k) rows)) false
        by_tests true true on its later = rw (its, on) refl
        by_tests true false on other later = rw other later
        by_tests false true off its later =
            rw off (none_lower k (key r + 1) (keys_of rows) (keys_of_ascend (key r + 1) rows up.1) (grind (arith, nat_tests, its)))
        by_tests false false off other later = later

    -- keys that ascend, and are those of the rows that pass
    pub keys_passing : (keys : List ℕ) (rows : List A) → Ascend key 0 rows → Ascend (λ k. k) 0 keys
        → ((k : ℕ) → list_any (λ x. x == k) keys ≡ option_map_or p (find (λ r. key r == k) rows) false) → keys ≡ keys_of rows
    keys_passing keys rows up ascend has = same_members 0 keys (keys_of rows) ascend (keys_of_ascend 0 rows up) (λ k. has k ∙ sym (of_any k 0 rows up))

  -- the keys that are kept under a number are those of its rows
  pub kept_under : (number : A → Option ℕ) (n : ℕ) (rows : List A) (pairs : BTreeSet (ℕ × ℕ)) → Ascend key 0 rows → IsIndex key number rows pairs → IsStrictlySortedBy place_cmp pairs.keys
      → keys_under n pairs.keys ≡ keys_of (λ r. is_number n (number r)) rows
  kept_under number n rows pairs up index sorted =
      keys_passing (λ r. is_number n (number r)) (keys_under n pairs.keys) rows up (keys_ascend n 0 pairs.keys sorted (above_none n pairs.keys))
      (λ k. under_any n k pairs.keys ∙ (index n k ∙ by_row (find (λ r. key r == k) rows)))
    where
      by_row : (o : Option A) → is_row_under number n o ≡ option_map_or (λ r. is_number n (number r)) o false
      by_row None = refl
      by_row (Some r) = refl
