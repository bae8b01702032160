-- What is kept stays right where a row is taken out or edited.
use Rattle.std.proofs.Common.{◌≡◌, ℕ, ◌==◌, List, map, length, not, Result, Ok, Err, OnOk, OnErr, IsTrue, sym, ap, subst, ◌∙◌, arith}
use Rattle.std.specs.Prelude.{⊤}
use Rattle.std.specs.declared.alloc.AllocError.{AllocError}
use Rattle.std.proofs.lemmas.List.{length-map}
use Rattle.std.proofs.lemmas.List.Sums.{length-filter, count_by-le-length}
use Rattle.zb_groups.proofs.RowLemmas.{ascend_without}
use Rattle.zb_table.specs.Rows.{without}
use Rattle.zb_table.proofs.Ascending.{ascend_by_keys, below_by_keys}
use Rattle.zb_table.proofs.Growing.{below_without}
use Rattle.zb_arrivals.specs.InOrder.{IsInOrder}

module _ {A : Type 0} (key : A → ℕ) (next : ℕ) (rows : List A) (kept : IsInOrder key next rows) (k : ℕ) where
  -- without the row with a key
  pub in_order_without : IsInOrder key next (without key k rows)
  in_order_without = record {
    ascend = ascend_without key k 0 rows kept.ascend;
    below = below_without key k next rows kept.below;
    fits = omega (arith, kept.fits, length-filter (λ r. not (key r == k)) rows, count_by-le-length (λ r. not (key r == k)) rows);
  }

  -- where keys stay
  in_order_by_keys : (made : List A) → map key made ≡ map key rows → IsInOrder key next made
  in_order_by_keys made same = record {
    ascend = ascend_by_keys key 0 made rows same kept.ascend;
    below = subst IsTrue (sym (below_by_keys key next made rows same)) kept.below;
    fits = (let count : length made ≡ length rows = sym (length-map made key) ∙ (ap length same ∙ length-map rows key) in omega (arith, count, kept.fits));
  }

  -- with that row edited, or gone where there was no memory
  pub in_order_edited : (result : Result ⊤ AllocError) (made : List A) → OnOk result (map key made ≡ map key rows) → OnErr result (made ≡ without key k rows) → IsInOrder key next made
  in_order_edited (Ok done) made same gone = in_order_by_keys made same
  in_order_edited (Err e) made same gone = subst (IsInOrder key next) (sym gone) in_order_without
