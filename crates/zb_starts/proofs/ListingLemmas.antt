-- Rows that are listed: the same ones, and whether there are some under a label.
use Rattle.std.proofs.Common.{◌≡◌, ℕ, suc, ◌==◌, List, [], ◌∷◌, map, filter, length, not, Bool, true, false, ◌||◌, cond, if◌then◌else◌, Option, Some, None, refl, sym, ap, ◌∙◌, arith}
use Rattle.std.specs.List.{list_any}
use Rattle.std.proofs.lemmas.Bool.Decides.{nat_tests}
use Rattle.zb_pairs.specs.Pairs.{is_number}
use Rattle.zb_lists.specs.Moments.{is_among}
use Rattle.zb_lists.specs.Listed.{is_label, is_labelled, without_named, AreListed}
use Rattle.zb_lists.specs.declared.lists.Lists.{Lists}
use Rattle.zb_lists.proofs.ListedLemmas.{listed_same}

module _ {A : Type 0} where
  -- rows that are found as the ones that are listed
  pub found_same : (moment : A → Option ℕ) (label : A → Option (List ℕ × List ℕ)) (found now : ℕ → Option A) (lists : Lists) → ((k : ℕ) → now k ≡ found k) → AreListed moment label found lists → AreListed moment label now lists
  found_same moment label found now lists same are = record {
    in_time = λ n. listed_same (λ r. is_number n (moment r)) found now (λ k. is_among lists.moments n k) same (are.in_time n);
    labelled = λ a b. listed_same (λ r. is_label a b (label r)) found now (λ k. is_labelled lists.labels a b k) same (are.labelled a b);
  }

  -- nothing is left out where the key is of none
  pub none_named : (found : ℕ → Option A) (key k : ℕ) → found key ≡ None → without_named (Some key) found k ≡ found k
  none_named found key k none = by_test (key == k) refl
    where
      by_test : (t : Bool) → (key == k) ≡ t → (if t then None else found k) ≡ found k
      by_test true is = let one : key ≡ k = grind (arith, nat_tests, is) in sym none ∙ ap found one
      by_test false other = refl

  -- the keys of rows that pass are some where one passes
  pub some_pass : (key : A → ℕ) (passes : A → Bool) (rows : List A) → not (length (map key (filter passes rows)) == 0) ≡ list_any passes rows
  some_pass key passes [] = refl
  some_pass key passes (r ∷ rows) = by_test (passes r) (some_pass key passes rows)
    where
      one_more : (n : ℕ) → not (suc n == 0) ≡ true
      one_more n = let isnt : (suc n == 0) ≡ false = grind (arith, nat_tests) in rw isnt refl

      by_test : (t : Bool) → not (length (map key (filter passes rows)) == 0) ≡ list_any passes rows
          → not (length (map key (cond t (r ∷ filter passes rows) (filter passes rows))) == 0) ≡ (t || list_any passes rows)
      by_test true later = one_more (length (map key (filter passes rows)))
      by_test false later = later
