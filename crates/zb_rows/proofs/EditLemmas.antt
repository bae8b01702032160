-- The keys that are kept under cells, where a row is edited and its cell may be another one.
use Rattle.std.proofs.Common.{◌≡◌, ℕ, ◌==◌, List, map, Bool, true, false, if◌then◌else◌, Option, Some, None, refl, sym, ap, ◌∙◌, arith}
use Rattle.std.specs.List.{find}
use Rattle.std.specs.Option.{option_and_then}
use Rattle.std.specs.BTreeSet.{BTreeSet}
use Rattle.std.proofs.lemmas.Bool.Decides.{nat_tests}
use Rattle.zb_table.specs.Rows.{with_edit}
use Rattle.zb_pairs.specs.Pairs.{has_pair, is_number, is_row_under, IsIndex}
use Rattle.zb_pairs.proofs.FoundLemmas.{found_other_edited}

-- a row that is there has a number where that is it
under_number : {A : Type 0} (number : A → Option ℕ) (n : ℕ) (found : Option A) → is_row_under number n found ≡ is_number n (option_and_then number found)
under_number number n None = refl
under_number number n (Some r) = refl

module _ {A : Type 0} (key : A → ℕ) (number : A → Option ℕ) (rows : List A) (pairs : BTreeSet (ℕ × ℕ)) (index : IsIndex key number rows pairs) (edited : ℕ) where
  -- with the row with a key edited
  pub index_edited : (f : A → A) (after : Option ℕ) (new : BTreeSet (ℕ × ℕ)) → map key (with_edit key edited f rows) ≡ map key rows
      → after ≡ option_and_then number (find (λ r. key r == edited) (with_edit key edited f rows))
      → ((n k : ℕ) → has_pair new n k ≡ (if edited == k then is_number n after else has_pair pairs n k))
      → IsIndex key number (with_edit key edited f rows) new
  index_edited f after new same is shifts n k = shifts n k ∙ by_test (edited == k) refl
    where
      by_test : (t : Bool) → (edited == k) ≡ t → (if t then is_number n after else has_pair pairs n k) ≡ is_row_under number n (find (λ r. key r == k) (with_edit key edited f rows))
      by_test true here =
          let at : edited ≡ k = grind (arith, nat_tests, here) in
          ap (is_number n) is
          ∙ (sym (under_number number n (find (λ r. key r == edited) (with_edit key edited f rows)))
          ∙ ap (λ (j : ℕ). is_row_under number n (find (λ (r : A). key r == j) (with_edit key edited f rows))) at)
      by_test false other = index n k ∙ ap (is_row_under number n) (sym (found_other_edited key edited k f rows same other))
