-- Changing a place.
use Rattle.std.proofs.Common.{◌≡◌, ℕ, zero, suc, ◌+◌, ◌<◌, ◌≤◌, ◌==◌, nat_lt, not, List, [], ◌∷◌, ◌++◌, length, take, slice_get, set, map, filter, Option, Some, None, is_some, Bool, true, false, if◌then◌else◌, refl, ap, sym, ◌∙◌, subst, arith}
use Rattle.std.specs.List.{insert}
use Rattle.std.proofs.lemmas.Bool.Decides.{nat_tests}
use Rattle.zb_table.specs.declared.row.Place.{Place}
use Rattle.zb_table.specs.Rows.{Ascend, row_at, without, with_edit, with_row}
use Rattle.zb_table.specs.Places.{held, rows_in, IsUnder, AreOrdered, count_below}
use Rattle.zb_table.proofs.Finding.{rows_ascend}

module _ {A : Type 0} (key : A → ℕ) where
  -- rows with greater keys
  pub without_none : (k low : ℕ) (rows : List A) → Ascend key low rows → k < low → without key k rows ≡ rows
  without_none k low [] up below = refl
  without_none k low (r ∷ rows) up below =
      let other : (key r == k) ≡ false = grind (arith, nat_tests, up.0, below) in
      rw other (ap (λ (l : List A). r ∷ l) (without_none k (key r + 1) rows up.1 (omega (arith, up.0, below))))

  -- a row in front of them
  with_front : (row : A) (low : ℕ) (rows : List A) → Ascend key low rows → key row < low → with_row key row rows ≡ row ∷ rows
  with_front row low [] up below = refl
  with_front row low (r ∷ rows) up below =
      let above : nat_lt (key r) (key row) ≡ false = grind (arith, nat_tests, up.0, below) in
      let other : (key r == key row) ≡ false = grind (arith, nat_tests, up.0, below) in
      rw (above, other) refl

  -- a row with a lower key stays in front
  with_behind : (row : A) (at : ℕ) (held_row : Option A) (rows : List A) → IsUnder key at held_row → at < key row → with_row key row (held held_row rows) ≡ held held_row (with_row key row rows)
  with_behind row at None rows under below = refl
  with_behind row at (Some r) rows under below = let test : nat_lt (key r) (key row) ≡ true = grind (arith, nat_tests, under, below) in rw test refl

  without_behind : (k at : ℕ) (row : Option A) (rows : List A) → IsUnder key at row → at < k → without key k (held row rows) ≡ held row (without key k rows)
  without_behind k at None rows under below = refl
  without_behind k at (Some r) rows under below = let other : (key r == k) ≡ false = grind (arith, nat_tests, under, below) in rw other refl

  -- no row with this key
  pub without_absent : (k : ℕ) (rows : List A) → row_at key k rows ≡ None → without key k rows ≡ rows
  without_absent k [] none = refl
  without_absent k (r ∷ rows) none = by_test (key r == k) none (without_absent k rows)
    where
      by_test : (t : Bool) → (if t then Some r else row_at key k rows) ≡ None → (row_at key k rows ≡ None → without key k rows ≡ rows) → (if not t then r ∷ without key k rows else without key k rows) ≡ r ∷ rows
      by_test true none later = absurd (cc)
      by_test false none later = ap (λ (l : List A). r ∷ l) (later none)

  -- nothing is edited among rows with greater keys, or where none has the key
  pub edit_none : (k : ℕ) (f : A → A) (low : ℕ) (rows : List A) → Ascend key low rows → k < low → with_edit key k f rows ≡ rows
  edit_none k f low [] up below = refl
  edit_none k f low (r ∷ rows) up below =
      let other : (key r == k) ≡ false = grind (arith, nat_tests, up.0, below) in
      rw other (ap (λ (l : List A). r ∷ l) (edit_none k f (key r + 1) rows up.1 (omega (arith, up.0, below))))

  pub edit_absent : (k : ℕ) (f : A → A) (rows : List A) → row_at key k rows ≡ None → with_edit key k f rows ≡ rows
  edit_absent k f [] none = refl
  edit_absent k f (r ∷ rows) none = by_test (key r == k) none (edit_absent k f rows)
    where
      by_test : (t : Bool) → (if t then Some r else row_at key k rows) ≡ None → (row_at key k rows ≡ None → with_edit key k f rows ≡ rows) → (if t then f r else r) ∷ with_edit key k f rows ≡ r ∷ rows
      by_test true none later = absurd (cc)
      by_test false none later = ap (λ (l : List A). r ∷ l) (later none)

  edit_behind : (k : ℕ) (f : A → A) (at : ℕ) (row : Option A) (rows : List A) → IsUnder key at row → at < k → with_edit key k f (held row rows) ≡ held row (with_edit key k f rows)
  edit_behind k f at None rows under below = refl
  edit_behind k f at (Some r) rows under below = let other : (key r == k) ≡ false = grind (arith, nat_tests, under, below) in rw other refl

  -- an edit that leaves each row its key leaves all keys
  pub keys_stay : (k : ℕ) (f : A → A) (rows : List A) → ((row : A) → key (f row) ≡ key row) → map key (with_edit key k f rows) ≡ map key rows
  keys_stay k f [] same = refl
  keys_stay k f (r ∷ rows) same = by_test (key r == k) (keys_stay k f rows same)
    where
      by_test : (t : Bool) → map key (with_edit key k f rows) ≡ map key rows → key (if t then f r else r) ∷ map key (with_edit key k f rows) ≡ key r ∷ map key rows
      by_test true later = rw (same r, later) refl
      by_test false later = ap (λ (l : List ℕ). key r ∷ l) later

  -- and so does one that leaves it the row that is edited
  pub edit_keys : (k : ℕ) (f : A → A) (low : ℕ) (rows : List A) (row : A) → Ascend key low rows → row_at key k rows ≡ Some row → key (f row) ≡ key row → map key (with_edit key k f rows) ≡ map key rows
  edit_keys k f low [] row up is same = absurd (cc)
  edit_keys k f low (r ∷ rows) row up is same = by_test (key r == k) refl is (edit_keys k f (key r + 1) rows row up.1)
    where
      by_test : (t : Bool) → (key r == k) ≡ t → (if t then Some r else row_at key k rows) ≡ Some row → (row_at key k rows ≡ Some row → key (f row) ≡ key row → map key (with_edit key k f rows) ≡ map key rows)
          → key (if t then f r else r) ∷ map key (with_edit key k f rows) ≡ key r ∷ map key rows
      by_test true here is later =
          let its : r ≡ row = cc in
          let rest = edit_none k f (key r + 1) rows up.1 (grind (arith, nat_tests, here)) in
          rw rest (ap (λ (n : ℕ). n ∷ map key rows) (ap (λ (x : A). key (f x)) its ∙ (same ∙ ap key (sym its))))
      by_test false here is later = ap (λ (l : List ℕ). key r ∷ l) (later is same)

  -- a place keeps its key
  pub set_ordered : (low : ℕ) (ps : List (Place A)) (i : ℕ) (q new : Place A) → AreOrdered key low ps → slice_get ps i ≡ Some q → new.key ≡ q.key → IsUnder key new.key new.row → (low ≤ q.key) × AreOrdered key low (set ps i new)
  set_ordered low [] i q new o at same under = absurd (cc)
  set_ordered low (p ∷ ps) zero q new o at same under =
      let one : p.key ≡ q.key = ap (λ (z : Place A). z.key) (let here : p ≡ q = cc in here) in
      let keeps : new.key ≡ p.key = same ∙ sym one in
      (omega (arith, one, o.0), (omega (arith, keeps, o.0), under, subst (λ (k : ℕ). AreOrdered key (k + 1) ps) (sym keeps) o.2))
  set_ordered low (p ∷ ps) (suc i) q new o at same under =
      let later = set_ordered (p.key + 1) ps i q new o.2 at same under in
      (omega (arith, o.0, later.0), (o.0, o.1, later.1))

  -- an emptied place
  pub emptied : (low : ℕ) (ps : List (Place A)) (i : ℕ) (q new : Place A) → AreOrdered key low ps → slice_get ps i ≡ Some q → new.row ≡ None → (low ≤ q.key) × (rows_in (set ps i new) ≡ without key q.key (rows_in ps))
  emptied low [] i q new o at none = absurd (cc)
  emptied low (p ∷ ps) zero q new o at none =
      let one : p ≡ q = cc in
      subst (λ (z : Place A). (low ≤ z.key) × (rows_in (new ∷ ps) ≡ without key z.key (rows_in (p ∷ ps)))) one (o.0, rw none (by_row p.row o.1))
    where
      rest : without key p.key (rows_in ps) ≡ rows_in ps
      rest = without_none p.key (p.key + 1) (rows_in ps) (rows_ascend key (p.key + 1) ps o.2) (omega arith)

      by_row : (row : Option A) → IsUnder key p.key row → rows_in ps ≡ without key p.key (held row (rows_in ps))
      by_row None under = sym rest
      by_row (Some r) under = let test : (key r == p.key) ≡ true = grind (arith, nat_tests, under) in rw test (sym rest)
  emptied low (p ∷ ps) (suc i) q new o at none =
      let later = emptied (p.key + 1) ps i q new o.2 at none in
      (omega (arith, o.0, later.0), ap (λ (l : List A). held p.row l) later.1 ∙ sym (without_behind q.key p.key p.row (rows_in ps) o.1 (omega (arith, later.0))))

  -- a place whose row was edited
  pub edited : (f : A → A) (low : ℕ) (ps : List (Place A)) (i : ℕ) (q new : Place A) (row : A) → AreOrdered key low ps → slice_get ps i ≡ Some q → q.row ≡ Some row → new.row ≡ Some (f row)
      → (low ≤ q.key) × (rows_in (set ps i new) ≡ with_edit key q.key f (rows_in ps))
  edited f low [] i q new row o at was is = absurd (cc)
  edited f low (p ∷ ps) zero q new row o at was is =
      let one : p ≡ q = cc in
      subst (λ (z : Place A). (low ≤ z.key) × (rows_in (new ∷ ps) ≡ with_edit key z.key f (rows_in (p ∷ ps)))) one (o.0, rw is (by_row p.row o.1 (ap (λ (z : Place A). z.row) one ∙ was)))
    where
      by_row : (before : Option A) → IsUnder key p.key before → before ≡ Some row → f row ∷ rows_in ps ≡ with_edit key p.key f (held before (rows_in ps))
      by_row None under its = absurd (cc)
      by_row (Some r) under its =
          let same : row ≡ r = cc in
          let test : (key r == p.key) ≡ true = grind (arith, nat_tests, under) in
          let rest = edit_none p.key f (p.key + 1) (rows_in ps) (rows_ascend key (p.key + 1) ps o.2) (omega arith) in
          rw (test, rest) (ap (λ (x : A). f x ∷ rows_in ps) same)
  edited f low (p ∷ ps) (suc i) q new row o at was is =
      let later = edited f (p.key + 1) ps i q new row o.2 at was is in
      (omega (arith, o.0, later.0), ap (λ (l : List A). held p.row l) later.1 ∙ sym (edit_behind q.key f p.key p.row (rows_in ps) o.1 (omega (arith, later.0))))

  -- a place that has another row
  pub refilled : (low : ℕ) (ps : List (Place A)) (i : ℕ) (q new : Place A) (row : A) → AreOrdered key low ps → slice_get ps i ≡ Some q → key row ≡ q.key → new.row ≡ Some row → (low ≤ q.key) × (rows_in (set ps i new) ≡ with_row key row (rows_in ps))
  refilled low [] i q new row o at same is = absurd (cc)
  refilled low (p ∷ ps) zero q new row o at same is =
      let one : p.key ≡ q.key = ap (λ (z : Place A). z.key) (let here : p ≡ q = cc in here) in
      (omega (arith, one, o.0), rw is (by_row p.row o.1 (same ∙ sym one)))
    where
      by_row : (before : Option A) → IsUnder key p.key before → key row ≡ p.key → row ∷ rows_in ps ≡ with_row key row (held before (rows_in ps))
      by_row None under here = sym (with_front row (p.key + 1) (rows_in ps) (rows_ascend key (p.key + 1) ps o.2) (omega (arith, here)))
      by_row (Some r) under here =
          let above : nat_lt (key r) (key row) ≡ false = grind (arith, nat_tests, under, here) in
          let test : (key r == key row) ≡ true = grind (arith, nat_tests, under, here) in
          rw (above, test) refl
  refilled low (p ∷ ps) (suc i) q new row o at same is =
      let later = refilled (p.key + 1) ps i q new row o.2 at same is in
      (omega (arith, o.0, later.0), ap (λ (l : List A). held p.row l) later.1 ∙ sym (with_behind row p.key p.row (rows_in ps) o.1 (omega (arith, later.0, same))))

  -- a place more
  pub inserted : (low : ℕ) (ps : List (Place A)) (new : Place A) (row : A) → AreOrdered key low ps → low ≤ new.key → key row ≡ new.key → new.row ≡ Some row
      → ((q : Place A) → slice_get ps (count_below new.key ps) ≡ Some q → (q.key == new.key) ≡ false)
      → (rows_in (insert ps (count_below new.key ps) new) ≡ with_row key row (rows_in ps)) × AreOrdered key low (insert ps (count_below new.key ps) new)
  inserted low [] new row o le same is other = (rw is refl, (le, rw is same, tt))
  inserted low (p ∷ ps) new row o le same is other =
      by_test (λ below fresh. inserted (p.key + 1) ps new row o.2 below same is fresh) (nat_lt p.key new.key) refl other
    where
      by_test : (p.key + 1 ≤ new.key → ((q : Place A) → slice_get ps (count_below new.key ps) ≡ Some q → (q.key == new.key) ≡ false)
          → (rows_in (insert ps (count_below new.key ps) new) ≡ with_row key row (rows_in ps)) × AreOrdered key (p.key + 1) (insert ps (count_below new.key ps) new)) → (t : Bool) → nat_lt p.key new.key ≡ t → ((q : Place A) → slice_get (p ∷ ps) (if t then suc (count_below new.key ps) else 0) ≡ Some q → (q.key == new.key) ≡ false)
          → (rows_in (insert (p ∷ ps) (if t then suc (count_below new.key ps) else 0) new) ≡ with_row key row (rows_in (p ∷ ps))) × AreOrdered key low (insert (p ∷ ps) (if t then suc (count_below new.key ps) else 0) new)
      by_test behind true test other =
          let below : p.key < new.key = grind (arith, nat_tests) in
          let later = behind (omega (arith, below)) other in
          (ap (λ (l : List A). held p.row l) later.0 ∙ sym (with_behind row p.key p.row (rows_in ps) o.1 (omega (arith, below, same))), (o.0, o.1, later.1))
      by_test behind false test other =
          let another : (p.key == new.key) ≡ false = other p refl in
          let above : new.key < p.key = grind (arith, nat_tests) in
          let up = rows_ascend key p.key (p ∷ ps) (omega arith, o.1, o.2) in
          (rw is (sym (with_front row p.key (rows_in (p ∷ ps)) up (omega (arith, above, same)))), (le, rw is same, (omega (arith, above), o.1, o.2)))

  -- the places that have rows
  pub swept : (ps : List (Place A)) → rows_in (filter (λ p. is_some p.row) ps) ≡ rows_in ps
  swept [] = refl
  swept (p ∷ ps) = by_row p.row refl (swept ps)
    where
      by_row : (row : Option A) → p.row ≡ row → rows_in (filter (λ p. is_some p.row) ps) ≡ rows_in ps → rows_in (if is_some row then p ∷ filter (λ p. is_some p.row) ps else filter (λ p. is_some p.row) ps) ≡ held row (rows_in ps)
      by_row None is later = later
      by_row (Some r) is later = rw is (ap (λ (l : List A). r ∷ l) later)

  pub swept_ordered : (low : ℕ) (ps : List (Place A)) → AreOrdered key low ps → AreOrdered key low (filter (λ p. is_some p.row) ps)
  swept_ordered low [] o = tt
  swept_ordered low (p ∷ ps) o = by_test (is_some p.row) (swept_ordered (p.key + 1) ps o.2)
    where
      lower : (high : ℕ) (qs : List (Place A)) → low ≤ high → AreOrdered key high qs → AreOrdered key low qs
      lower high [] le up = tt
      lower high (q ∷ qs) le up = (omega (arith, le, up.0), up.1, up.2)

      by_test : (t : Bool) → AreOrdered key (p.key + 1) (filter (λ p. is_some p.row) ps) → AreOrdered key low (if t then p ∷ filter (λ p. is_some p.row) ps else filter (λ p. is_some p.row) ps)
      by_test true later = (o.0, o.1, later)
      by_test false later = lower (p.key + 1) (filter (λ p. is_some p.row) ps) (omega (arith, o.0)) later

-- the last place, where it is empty, has no row
pub rows_front : {A : Type 0} (front : List (Place A)) (last : Place A) → last.row ≡ None → rows_in (front ++ last ∷ []) ≡ rows_in front
rows_front [] last none = rw none refl
rows_front (p ∷ front) last none = ap (held p.row) (rows_front front last none)

pub ordered_front : {A : Type 0} (key : A → ℕ) (low : ℕ) (front : List (Place A)) (last : Place A) → AreOrdered key low (front ++ last ∷ []) → AreOrdered key low front
ordered_front key low [] last up = tt
ordered_front key low (p ∷ front) last up = (up.0, up.1, ordered_front key (p.key + 1) front last up.2)

pub take_front : {A : Type 0} (front : List A) (last : A) → take (length front) (front ++ last ∷ []) ≡ front
take_front [] last = refl
take_front (p ∷ front) last = ap (λ (l : List _). p ∷ l) (take_front front last)
