-- How many places are empty, where one is changed or put in, and where the empty ones are dropped.
use Rattle.std.proofs.Common.{◌≡◌, ℕ, zero, suc, ◌+◌, ◌-◌, ◌≤◌, ◌==◌, List, [], ◌∷◌, ◌++◌, length, get_or, slice_get, set, filter, Option, Some, None, is_some, is_none, false, cond, refl, sym, ap, ◌∙◌, subst, arith}
use Rattle.std.specs.List.{insert}
use Rattle.std.proofs.lemmas.List.Sums.{sum_by-cons, sum_by-set, sum_by-insert, get_or-le-sum_by}
use Rattle.std.proofs.lemmas.Option.{slice_get_within, get_or_from_slice_get}
use Rattle.zb_table.specs.declared.row.Place.{Place}
use Rattle.zb_table.specs.Places.{held, rows_in, IsUnder, count_below, count_empty, ArePlaces}
use Rattle.zb_table.proofs.Finding.{keyed}
use Rattle.zb_table.proofs.Changing.{set_ordered, inserted, swept_ordered}

module _ {A : Type 0} where
  -- how many empty places a place is
  abbrev pub lack : Place A → ℕ
  lack p = cond (is_none p.row) 1 0

  -- each place has a row or is empty
  pub rows_counted : (ps : List (Place A)) → length (rows_in ps) + count_empty ps ≡ length ps
  rows_counted [] = refl
  rows_counted (p ∷ ps) = ap (λ (n : ℕ). length (rows_in (p ∷ ps)) + n) (sum_by-cons lack p ps) ∙ by_row p.row (rows_counted ps)
    where
      by_row : (row : Option A) → length (rows_in ps) + count_empty ps ≡ length ps → length (held row (rows_in ps)) + (cond (is_none row) 1 0 + count_empty ps) ≡ length (p ∷ ps)
      by_row None later = omega (arith, later)
      by_row (Some r) later = omega (arith, later)

  -- the last place, where it is empty, is one of the empty ones
  pub count_front : (front : List (Place A)) (last : Place A) → last.row ≡ None → count_empty (front ++ last ∷ []) ≡ count_empty front + 1
  count_front [] last none = rw none refl
  count_front (p ∷ front) last none =
      let one = sum_by-cons lack p (front ++ last ∷ []) in
      let other = sum_by-cons lack p front in
      let later = count_front front last none in
      omega (arith, one, other, later)

  -- a place that is changed is what it was changed to last
  pub set_at : (ps : List (Place A)) (i : ℕ) (q new : Place A) → slice_get ps i ≡ Some q → slice_get (set ps i new) i ≡ Some new
  set_at [] i q new at = absurd (cc)
  set_at (p ∷ ps) zero q new at = refl
  set_at (p ∷ ps) (suc i) q new at = set_at ps i q new at

  pub set_twice : (ps : List (Place A)) (i : ℕ) (before new : Place A) → set (set ps i before) i new ≡ set ps i new
  set_twice [] i before new = refl
  set_twice (p ∷ ps) zero before new = refl
  set_twice (p ∷ ps) (suc i) before new = ap (λ (l : List (Place A)). p ∷ l) (set_twice ps i before new)

  count_set : (ps : List (Place A)) (i : ℕ) (q new : Place A) → slice_get ps i ≡ Some q → count_empty (set ps i new) + lack q ≡ count_empty ps + lack new
  count_set ps i q new at =
      subst (λ (z : Place A). count_empty (set ps i new) + lack z ≡ count_empty ps + lack new) (get_or_from_slice_get ps i q q at)
      (sum_by-set lack ps i new q (slice_get_within ps i q at))

  count_swept : (ps : List (Place A)) → count_empty (filter (λ p. is_some p.row) ps) ≡ 0
  count_swept [] = refl
  count_swept (p ∷ ps) = by_row p.row refl (count_swept ps)
    where
      by_row : (row : Option A) → p.row ≡ row → count_empty (filter (λ p. is_some p.row) ps) ≡ 0 → count_empty (cond (is_some row) (p ∷ filter (λ p. is_some p.row) ps) (filter (λ p. is_some p.row) ps)) ≡ 0
      by_row None is later = later
      by_row (Some r) is later =
          let here : lack p ≡ 0 = ap (λ (row : Option A). cond (is_none row) 1 0) is in
          sum_by-cons lack p (filter (λ p. is_some p.row) ps) ∙ omega (arith, here, later)

module _ {A : Type 0} (key : A → ℕ) (n : ℕ) (ps : List (Place A)) (are : ArePlaces key n ps) where
  module _ (i : ℕ) (q : Place A) (at : slice_get ps i ≡ Some q) where
    -- the row of a place goes
    pub place_emptied : (r : A) (new : Place A) → new.key ≡ q.key → q.row ≡ Some r → new.row ≡ None → ArePlaces key (n + 1) (set ps i new)
    place_emptied r new keeps was none =
        let counts = count_set ps i q new at in
        let before : lack q ≡ 0 = ap (λ (row : Option A). cond (is_none row) 1 0) was in
        let after : lack new ≡ 1 = ap (λ (row : Option A). cond (is_none row) 1 0) none in
        record {
          ordered = (set_ordered key 0 ps i q new are.ordered at keeps (subst (λ (row : Option A). IsUnder key new.key row) (sym none) tt)).1;
          counted = omega (arith, counts, before, after, are.counted);
        }

    -- it gets one; it was empty before, or not
    pub place_filled : (row : A) (new : Place A) → new.key ≡ q.key → key row ≡ q.key → new.row ≡ Some row → ArePlaces key (n - lack q) (set ps i new)
    place_filled row new keeps its is =
        let counts = count_set ps i q new at in
        let after : lack new ≡ 0 = ap (λ (r : Option A). cond (is_none r) 1 0) is in
        record {
          ordered = (set_ordered key 0 ps i q new are.ordered at keeps (subst (λ (r : Option A). IsUnder key new.key r) (sym is) (its ∙ sym keeps))).1;
          counted = omega (arith, counts, after, are.counted);
        }

    -- it gets one with the same key, in place of one that went
    pub place_edited : (row after : A) (between new : Place A) → new.key ≡ q.key → q.row ≡ Some row → key after ≡ key row → new.row ≡ Some after → ArePlaces key (n + 1 - 1) (set (set ps i between) i new)
    place_edited row after between new keeps was same is =
        let filled = place_filled after new keeps (same ∙ keyed key 0 ps i q row are.ordered at was) is in
        let before : lack q ≡ 0 = ap (λ (r : Option A). cond (is_none r) 1 0) was in
        let count : n - lack q ≡ n + 1 - 1 = omega (arith, before) in
        subst (λ (k : ℕ). ArePlaces key k (set (set ps i between) i new)) count (subst (λ (l : List (Place A)). ArePlaces key (n - lack q) l) (sym (set_twice ps i between new)) filled)

    -- it is counted where it is empty
    pub lack_counted : lack q ≤ n
    lack_counted =
        let counts = get_or-le-sum_by lack ps i q (slice_get_within ps i q at) in
        let its : lack (get_or ps i q) ≡ lack q = ap lack (get_or_from_slice_get ps i q q at) in
        omega (arith, counts, its, are.counted)

  -- a place more, with a row
  pub place_added : (new : Place A) (row : A) → key row ≡ new.key → new.row ≡ Some row
      → ((q : Place A) → slice_get ps (count_below new.key ps) ≡ Some q → (q.key == new.key) ≡ false) → ArePlaces key n (insert ps (count_below new.key ps) new)
  place_added new row same is other =
      let counts = sum_by-insert lack ps (count_below new.key ps) new in
      let after : lack new ≡ 0 = ap (λ (r : Option A). cond (is_none r) 1 0) is in
      record {
        ordered = (inserted key 0 ps new row are.ordered (omega arith) same is other).1;
        counted = omega (arith, counts, after, are.counted);
      }

  -- the empty places are dropped
  pub places_swept : ArePlaces key 0 (filter (λ p. is_some p.row) ps)
  places_swept = record { ordered = swept_ordered key 0 ps are.ordered; counted = count_swept ps }
