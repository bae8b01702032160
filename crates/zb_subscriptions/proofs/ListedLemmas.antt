-- Rows that are listed as others were.
use Rattle.std.proofs.Common.{◌≡◌, ℕ, ◌==◌, List, Bool, true, false, if◌then◌else◌, Option, Some, None, refl, sym, ap, ◌∙◌, arith}
use Rattle.std.specs.Option.{option_map, option_map_or}
use Rattle.std.proofs.lemmas.Bool.Decides.{nat_tests}
use Rattle.zb_pairs.specs.Pairs.{is_number}
use Rattle.zb_lists.specs.Listed.{is_label, without_named, AreListed}
use Rattle.zb_lists.specs.declared.lists.Lists.{Lists}
use Rattle.zb_subscriptions.specs.declared.opened.Opened.{Opened}
use Rattle.zb_subscriptions.specs.Opened.{label_of_opened}

-- rows with the texts that others have are listed as these
pub listed_as : (found now : ℕ → Option Opened) (lists : Lists) → ((k : ℕ) → option_map label_of_opened (now k) ≡ option_map label_of_opened (found k)) → AreListed (λ o. None) label_of_opened found lists
    → AreListed (λ o. None) label_of_opened now lists
listed_as found now lists same are = record {
  in_time = λ n k. are.in_time n k ∙ (no_moment n (found k) ∙ sym (no_moment n (now k)));
  labelled = λ a b k. are.labelled a b k ∙ (by_label a b (found k) ∙ (ap (λ (o : Option (Option (List ℕ × List ℕ))). option_map_or (is_label a b) o false) (sym (same k)) ∙ sym (by_label a b (now k))));
}
  where
    no_moment : (n : ℕ) (o : Option Opened) → option_map_or (λ r. is_number n None) o false ≡ false
    no_moment n None = refl
    no_moment n (Some r) = refl

    by_label : (a b : List ℕ) (o : Option Opened) → option_map_or (λ r. is_label a b (label_of_opened r)) o false ≡ option_map_or (is_label a b) (option_map label_of_opened o) false
    by_label a b None = refl
    by_label a b (Some r) = refl

-- nothing is left out where the key is of none
pub none_named : (found : ℕ → Option Opened) (key k : ℕ) → found key ≡ None → without_named (Some key) found k ≡ found k
none_named found key k none = by_test (key == k) refl
  where
    by_test : (t : Bool) → (key == k) ≡ t → (if t then None else found k) ≡ found k
    by_test true is = let one : key ≡ k = grind (arith, nat_tests, is) in sym none ∙ ap found one
    by_test false other = refl
