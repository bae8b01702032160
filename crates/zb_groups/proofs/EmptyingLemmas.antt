-- A group that is emptied, row by row.
use Rattle.std.proofs.Common.{◌≡◌, ℕ, ◌+◌, ◌≤◌, ◌==◌, List, [], ◌∷◌, map, filter, Bool, true, false, not, cond, refl, sym, ap, ◌∙◌, arith}
use Rattle.std.proofs.lemmas.Bool.Decides.{nat_tests}
use Rattle.zb_table.specs.Rows.{Ascend, without}
use Rattle.zb_table.proofs.Changing.{without_none}
use Rattle.zb_groups.specs.declared.held.Held.{Held}
use Rattle.zb_groups.specs.Groups.{numbers_in}
use Rattle.zb_groups.proofs.RowLemmas.{ascend_without}

module _ {A : Type 0} (group_in : A → ℕ) (group : ℕ) where
  abbrev number_in : Held A → ℕ
  number_in h = h.number

  -- a row is in another group
  abbrev is_out : Held A → Bool
  is_out h = not (group_in h.row == group)

  -- without the first row of the group the others of it are left, and those of other groups stay
  abbrev IsLeft : ℕ → List (Held A) → ℕ → List ℕ → Type 0
  IsLeft low rows n left = (low ≤ n) × (numbers_in group_in group (without number_in n rows) ≡ left) × (filter is_out (without number_in n rows) ≡ filter is_out rows)

  one_gone : (low : ℕ) (rows : List (Held A)) (n : ℕ) (left : List ℕ) → Ascend number_in low rows → numbers_in group_in group rows ≡ n ∷ left → IsLeft low rows n left
  one_gone low [] n left up is = absurd (cc)
  one_gone low (x ∷ rows) n left up is = by_group (group_in x.row == group) refl is (λ e. one_gone (x.number + 1) rows n left up.1 e)
    where
      by_group : (t : Bool) → (group_in x.row == group) ≡ t → map number_in (cond t (x ∷ filter (λ y. group_in y.row == group) rows) (filter (λ y. group_in y.row == group) rows)) ≡ n ∷ left
          → (numbers_in group_in group rows ≡ n ∷ left → IsLeft (x.number + 1) rows n left) → IsLeft low (x ∷ rows) n left
      by_group true its is later =
          let one : x.number ≡ n = cc in
          let rest : numbers_in group_in group rows ≡ left = cc in
          let same : (x.number == n) ≡ true = grind (arith, nat_tests, one) in
          let gone : without number_in n rows ≡ rows = without_none number_in n (x.number + 1) rows up.1 (omega (arith, one)) in
          (omega (arith, one, up.0), rw (same, gone) rest, rw (same, gone, its) refl)
      by_group false its is later =
          let r = later is in
          let above = r.0 in
          let other : (x.number == n) ≡ false = grind (arith, nat_tests, above) in
          (omega (arith, above, up.0), rw (other, its) r.1, rw (other, its) (ap (λ (l : List (Held A)). x ∷ l) r.2))

  -- some rows of the group are gone, and these numbers of it are left
  pub record IsEmptying (all rows : List (Held A)) (left : List ℕ) : Type 0 where
    pub ascend : Ascend number_in 0 rows
    pub here : numbers_in group_in group rows ≡ left
    pub out : filter is_out rows ≡ filter is_out all

  -- one more is gone
  pub goes_on : (all rows : List (Held A)) (n : ℕ) (left : List ℕ) → IsEmptying all rows (n ∷ left) → IsEmptying all (without number_in n rows) left
  goes_on all rows n left so_far =
      let r = one_gone 0 rows n left so_far.ascend so_far.here in
      record {
        ascend = ascend_without number_in n 0 rows so_far.ascend;
        here = r.1;
        out = r.2 ∙ so_far.out;
      }

  out_by : (t : Bool) (x : Held A) (rows : List (Held A)) → map number_in (cond t (x ∷ filter (λ y. group_in y.row == group) rows) (filter (λ y. group_in y.row == group) rows)) ≡ []
      → (numbers_in group_in group rows ≡ [] → filter is_out rows ≡ rows) → cond (not t) (x ∷ filter is_out rows) (filter is_out rows) ≡ x ∷ rows
  out_by true x rows is later = absurd (cc)
  out_by false x rows is later = ap (λ (l : List (Held A)). x ∷ l) (later is)

  -- where no number is left, all rows are in other groups
  all_out : (rows : List (Held A)) → numbers_in group_in group rows ≡ [] → filter is_out rows ≡ rows
  all_out [] is = refl
  all_out (x ∷ rows) is = out_by (group_in x.row == group) x rows is (all_out rows)

  -- the rows that are left then
  pub emptied : (all rows : List (Held A)) → IsEmptying all rows [] → rows ≡ filter is_out all
  emptied all rows done = sym (all_out rows done.here) ∙ done.out
