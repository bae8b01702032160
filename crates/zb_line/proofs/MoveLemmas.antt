-- Members that move one place, and the part of a list that is written.
use Rattle.std.proofs.Common.{◌≡◌, ℕ, zero, suc, ◌+◌, ◌-◌, ◌<◌, ◌≤◌, List, [], ◌∷◌, ◌++◌, length, take, drop, set, refl, sym, ap, ◌∙◌, subst, arith, add-one}
use Rattle.std.specs.List.{insert, remove}
use Rattle.std.proofs.lemmas.List.{append-nil, take_at, drop_at, take-take, take-append-drop, take_rest, drop-drop, length-take-le, length-append, length-drop, drop_all}
use Rattle.std.proofs.lemmas.List.Edits.{length-insert, insert-append_right, remove-append_right}
use Rattle.std.specs.declared.cmp.Ordering.{Ordering}
use Rattle.std.specs.List.Sorted.{IsStrictlySortedBy}
use Rattle.zb_line.specs.Line.{IsLine}
use borrow.Rule.Slice.PartMut.{put_mid}

module _ {A : Type 0} where
  written_behind : (room item : A) (line : List A) (at : ℕ) → at ≤ length line → set ((take at line ++ room ∷ []) ++ drop at line) at item ≡ insert line at item
  written_behind room item [] zero within = refl
  written_behind room item [] (suc at) within = absurd (omega (arith, within))
  written_behind room item (y ∷ ys) zero within = refl
  written_behind room item (y ∷ ys) (suc at) within = ap (λ (l : List A). y ∷ l) (written_behind room item ys at (omega (arith, within)))

  -- those in front of a place move down into the first, and one is written behind them
  pub moved_down : (row : List A) (at : ℕ) (item : A) → at < length row → set ((drop 1 (take (at + 1) row) ++ take 1 (take (at + 1) row)) ++ drop (at + 1) row) at item ≡ insert (drop 1 row) at item
  moved_down [] at item within = absurd (omega (arith, within))
  moved_down (x ∷ xs) at item within = rw add-one (written_behind x item xs at (omega (arith, within)))

  alone : (row : List A) (at : ℕ) → at < length row → (x : A) × (drop at (take (suc at) row) ≡ x ∷ [])
  alone [] at within = absurd (omega (arith, within))
  alone (x ∷ xs) zero within = (x, refl)
  alone (x ∷ xs) (suc at) within = alone xs at (omega (arith, within))

  -- those in front of a place move up over it
  pub moved_up : (row : List A) (at : ℕ) → at < length row → (turned : List A)
      → turned ≡ drop (length (take (at + 1) row) - 1) (take (at + 1) row) ++ take (length (take (at + 1) row) - 1) (take (at + 1) row)
      → drop 1 (turned ++ drop (at + 1) row) ≡ remove row at
  moved_up row at within turned is =
      let many : length (take (at + 1) row) - 1 ≡ at = omega (arith, length-take-le (at + 1) row (omega (arith, within))) in
      let one = alone row at within in
      let front : take at (take (at + 1) row) ≡ take at row = take-take at (at + 1) row (omega arith) in
      let turns : turned ≡ one.0 ∷ take at row = is ∙ rw (many, front, add-one, one.1) refl in
      rw (turns, add-one) refl

  -- the part of a list from a place on is written
  module _ (items row : List A) (n from : ℕ) (now : List A) where
    abbrev pub written : List A
    written = take n (put_mid from (length now - from) now row ++ drop (length (put_mid from (length now - from) now row)) items)

    module _ (long : length items ≡ n) (within : from ≤ n) (fits : length row ≡ n - from) (same : now ≡ items) where
      whole_long : length (take from items ++ row) ≡ n
      whole_long = let front = length-take-le from items (omega (arith, long, within)) in omega (arith, length-append (take from items) row, front, fits, within)

      whole : written ≡ take from items ++ row
      whole =
          let behind : drop (length items - from) (drop from items) ≡ [] = drop_all (length items - from) (drop from items) (omega (arith, length-drop from items)) in
          let put : put_mid from (length items - from) items row ≡ take from items ++ row = rw (behind, append-nil) refl in
          let end = take_at (take from items ++ row) (drop (length (take from items ++ row)) items) n whole_long in
          subst (λ (now : List A). take n (put_mid from (length now - from) now row ++ drop (length (put_mid from (length now - from) now row)) items) ≡ take from items ++ row) (sym same) (rw put end)

      pub view_from : drop from written ≡ row
      view_from = rw whole (drop_at (take from items) row from (length-take-le from items (omega (arith, long, within))))

      pub view_past : drop (from + 1) written ≡ drop 1 row
      view_past = sym (drop-drop 1 from written) ∙ ap (λ (l : List A). drop 1 l) view_from

      module _ (cmp : A → A → Ordering) where
        pub line_from : IsStrictlySortedBy cmp row → IsLine cmp from written
        line_from sorted = record { within = rw (whole, whole_long) within; order = rw view_from sorted }

        pub line_past : from < n → IsStrictlySortedBy cmp (drop 1 row) → IsLine cmp (from + 1) written
        line_past below sorted = record { within = rw (whole, whole_long) (omega (arith, below)); order = rw view_past sorted }

  -- what is lent from a place on
  lent_from : (items now : List A) (from : ℕ) → now ≡ items → take (length now - from) (drop from now) ≡ drop from items
  lent_from items now from same = take_rest now from ∙ ap (λ (l : List A). drop from l) same

  module _ (items now row line : List A) (n from place : ℕ) (long : length items ≡ n) (within : from ≤ n) (same : now ≡ items) (shown : drop from items ≡ line) where
    many : length line ≡ n - from
    many = ap length (sym shown) ∙ (length-drop from items ∙ omega (arith, long))

    -- a member was put in, and those in front of it moved down into the room
    module _ (item : A) (room : 0 < from) (fits : place ≤ length line) (put : row ≡ insert (drop 1 (take (length now - (from - 1)) (drop (from - 1) now))) place item) where
      its : row ≡ insert line place item
      its =
          let next : from - 1 + 1 ≡ from = omega (arith, room) in
          let past : drop 1 (drop (from - 1) items) ≡ line = drop-drop 1 (from - 1) items ∙ (ap (λ (n : ℕ). drop n items) next ∙ shown) in
          put ∙ ap (λ (l : List A). insert l place item) (ap (λ (l : List A). drop 1 l) (lent_from items now (from - 1) same) ∙ past)

      its_long : length row ≡ n - (from - 1)
      its_long = ap length its ∙ omega (arith, length-insert line place item fits, many, room, within)

      pub put_view : drop (from - 1) (written items row n (from - 1) now) ≡ insert line place item
      put_view = view_from items row n (from - 1) now long (omega (arith, within)) its_long same ∙ its

      pub put_line : (cmp : A → A → Ordering) → IsStrictlySortedBy cmp (insert line place item) → IsLine cmp (from - 1) (written items row n (from - 1) now)
      put_line cmp sorted = line_from items row n (from - 1) now long (omega (arith, within)) its_long same cmp (rw its sorted)

    -- a member was taken out, and those in front of it moved up
    module _ (fits : place < length line) (kept : length row ≡ length (take (length now - from) (drop from now))) (taken : drop 1 row ≡ remove (take (length now - from) (drop from now)) place) where
      left : drop 1 row ≡ remove line place
      left = taken ∙ ap (λ (l : List A). remove l place) (lent_from items now from same ∙ shown)

      left_long : length row ≡ n - from
      left_long = kept ∙ (ap length (lent_from items now from same ∙ shown) ∙ many)

      pub take_view : drop (from + 1) (written items row n from now) ≡ remove line place
      take_view = view_past items row n from now long within left_long same ∙ left

      pub take_line : (cmp : A → A → Ordering) → IsStrictlySortedBy cmp (remove line place) → IsLine cmp (from + 1) (written items row n from now)
      take_line cmp sorted = line_past items row n from now long within left_long same cmp (omega (arith, fits, many)) (rw left sorted)

  -- one is put in, or taken out, behind a place, and what stands in front of it stays
  module _ (items line : List A) (from : ℕ) (within : from ≤ length items) (shown : drop from items ≡ line) where
    front : length (take from items) ≡ from
    front = length-take-le from items within

    parts : take from items ++ line ≡ items
    parts = ap (λ (l : List A). take from items ++ l) (sym shown) ∙ take-append-drop from items

    module _ (behind new : List A) (is : new ≡ take from items ++ behind) where
      kept_view : drop from new ≡ behind
      kept_view = rw is (drop_at (take from items) behind from front)

      kept_line : (cmp : A → A → Ordering) → IsStrictlySortedBy cmp behind → IsLine cmp from new
      kept_line cmp sorted = record { within = rw is (omega (arith, length-append (take from items) behind, front)); order = rw kept_view sorted }

    module _ (place : ℕ) (new : List A) where
      there : from + place - from ≡ place
      there = omega arith

      module _ (item : A) (put : new ≡ insert items (from + place) item) where
        put_behind : new ≡ take from items ++ insert line place item
        put_behind =
            let whole = insert-append_right (take from items) line from (from + place) item front (omega arith) in
            put ∙ subst (λ (l : List A). insert l (from + place) item ≡ take from items ++ insert line place item) parts (rw there at whole)

        pub behind_view : drop from new ≡ insert line place item
        behind_view = kept_view (insert line place item) new put_behind

        pub behind_line : (cmp : A → A → Ordering) → IsStrictlySortedBy cmp (insert line place item) → IsLine cmp from new
        behind_line = kept_line (insert line place item) new put_behind

      module _ (taken : new ≡ remove items (from + place)) where
        left_behind : new ≡ take from items ++ remove line place
        left_behind =
            let whole = remove-append_right (take from items) line from (from + place) front (omega arith) in
            taken ∙ subst (λ (l : List A). remove l (from + place) ≡ take from items ++ remove line place) parts (rw there at whole)

        pub rest_view : drop from new ≡ remove line place
        rest_view = kept_view (remove line place) new left_behind

        pub rest_line : (cmp : A → A → Ordering) → IsStrictlySortedBy cmp (remove line place) → IsLine cmp from new
        rest_line = kept_line (remove line place) new left_behind
