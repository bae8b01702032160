-- Members in their order: where one stands, and that the order stays.
use Rattle.std.proofs.Common.{◌≡◌, ℕ, zero, suc, ◌+◌, ◌-◌, ◌<◌, ◌≤◌, List, [], ◌∷◌, length, get_or, Bool, true, false, cond, ◌||◌, inl, inr, Some, slice_get, Result, Ok, Err, IfOk, IfErr, refl, sym, ap, ◌∙◌, subst, arith}
use Rattle.std.specs.declared.cmp.Ordering.{Ordering}
use Rattle.std.specs.declared.cmp.Ordering.TheVariants.{Less, Equal, Greater}
use Rattle.std.specs.Ordering.{is_eq, is_lt, eq_by_cmp, ordering_index, ordering_reverse, match_ordering}
use Rattle.std.specs.Cmp.{IsTotalOrder, Equal-is, alike_right}
use Rattle.std.specs.BTreeMap.{is_at}
use Rattle.std.specs.BTreeSet.{insert_key}
use Rattle.std.specs.List.{insert, remove, AllByRecursion, dedup, dedup_from, list_any}
use Rattle.std.specs.List.Sorted.{IsStrictlySortedBy, IsNonDecreasingBy, IsPartitionPoint, IsSearchInRange, IsBinarySearchResult}
use Rattle.std.proofs.lemmas.Bool.{cases_order}
use Rattle.std.proofs.lemmas.Option.{get_or_from_slice_get}
use Rattle.std.proofs.lemmas.Map.Keys.{Less-from_sorted}
use Rattle.std.proofs.lemmas.List.Sorted.{searchable_from_sorted}
use Rattle.zb_line.specs.Line.{IsMemberAt, IsVacant}

module _ {A : Type 0} (cmp : A → A → Ordering) (o : IsTotalOrder cmp) where
  -- what comes before another one, and what comes behind it, the other way round
  turned : (x y : A) (r : Ordering) → cmp y x ≡ r → cmp x y ≡ ordering_reverse r
  turned x y r is = o.antisymm x y ∙ ap ordering_reverse is

  -- all in front of a place are less, and none from there on
  pub is_free : (x : A) (line : List A) (at : ℕ) → at ≤ length line → IsPartitionPoint (λ y. cmp y x ≡ Less) (λ y. cmp y x ≡ Greater) line at → IsVacant cmp x line at
  is_free x [] zero within parts = record { within = within; added = refl; removed = refl }
  is_free x [] (suc at) within parts = absurd (omega (arith, within))
  is_free x (y ∷ ys) zero within parts =
      let here : cmp x y ≡ Less = turned x y Greater (parts.1 0 x (omega arith) (omega arith)) in
      let later = is_free x ys zero (omega arith) ((λ k d low high. absurd (omega (arith, high))), λ k d low high. parts.1 (suc k) d (omega arith) (omega (arith, high))) in
      record { within = within; added = rw here refl; removed = rw here (ap (λ (l : List A). y ∷ l) later.removed) }
  is_free x (y ∷ ys) (suc at) within parts =
      let here : cmp x y ≡ Greater = turned x y Less (parts.0 0 x (omega arith) (omega arith)) in
      let later = is_free x ys at (omega (arith, within)) ((λ k d low high. parts.0 (suc k) d (omega arith) (omega (arith, high))), λ k d low high. parts.1 (suc k) d (omega (arith, low)) (omega (arith, high))) in
      record { within = within; added = rw here (ap (λ (l : List A). y ∷ l) later.added); removed = rw here (ap (λ (l : List A). y ∷ l) later.removed) }

  -- the member at a place is equal
  pub is_taken : (x d : A) (line : List A) (at : ℕ) → IsStrictlySortedBy cmp line → at < length line → cmp (get_or line at d) x ≡ Equal → IsMemberAt cmp x line at
  unfolding IsStrictlySortedBy
  is_taken x d [] at sorted within same = absurd (omega (arith, within))
  is_taken x d (y ∷ ys) zero sorted within same =
      let here : cmp x y ≡ Equal = turned x y Equal same in
      record { within = within; added = rw here refl; removed = rw here refl }
  is_taken x d (y ∷ ys) (suc at) sorted within same =
      let it = get_or ys at d in
      let above : cmp y it ≡ Less = Less-from_sorted cmp (y ∷ ys) 0 (suc at) d sorted (omega arith) within in
      let here : cmp x y ≡ Greater = sym (o.congr it x y same) ∙ turned it y Less above in
      let later = is_taken x d ys at sorted.1 (omega (arith, within)) same in
      record { within = within; added = rw here (ap (λ (l : List A). y ∷ l) later.added); removed = rw here (ap (λ (l : List A). y ∷ l) later.removed) }

  is_less : (r : Ordering) → is_lt r ≡ true → r ≡ Less
  is_less Less is = refl
  is_less Equal is = absurd (cc)
  is_less Greater is = absurd (cc)

  -- all are less where the last one is
  pub is_behind : (x last : A) (line : List A) → IsStrictlySortedBy cmp line → slice_get line (length line - 1) ≡ Some last → is_lt (cmp last x) ≡ true → IsVacant cmp x line (length line)
  is_behind x last line sorted ends less = is_free x line (length line) (omega arith) ((λ k d low high. before k d high), λ k d low high. absurd (omega (arith, low, high)))
    where
      at_end : (d : A) → get_or line (length line - 1) d ≡ last
      at_end d = get_or_from_slice_get line (length line - 1) last d ends

      before : (k : ℕ) (d : A) → k < length line → cmp (get_or line k d) x ≡ Less
      before k d high = elim (cases_order k (length line - 1)) [
        | inl same ↦ subst (λ (z : A). cmp z x ≡ Less) (sym (ap (λ (n : ℕ). get_or line n d) same ∙ at_end d)) (is_less (cmp last x) less)
        | inr (inl front) ↦ o.trans (get_or line k d) last x (subst (λ (z : A). cmp (get_or line k d) z ≡ Less) (at_end d) (Less-from_sorted cmp line k (length line - 1) d sorted front (omega (arith, high)))) (is_less (cmp last x) less)
        | inr (inr behind) ↦ absurd (omega (arith, high, behind))
      ]

  -- what a search tells
  pub is_found : (x : A) (line : List A) (r : Result ℕ ℕ) → IsStrictlySortedBy cmp line → IsSearchInRange r (length line) → IsBinarySearchResult (λ y. cmp y x) line r → IfOk r (IsMemberAt cmp x line)
  is_found x line (Ok at) sorted within there = is_taken x x line at sorted within (there x)
  is_found x line (Err at) sorted within there = tt

  pub is_missing : (x : A) (line : List A) (r : Result ℕ ℕ) → IsStrictlySortedBy cmp line → IsSearchInRange r (length line) → IsBinarySearchResult (λ y. cmp y x) line r → IfErr r (IsVacant cmp x line)
  is_missing x line (Ok at) sorted within there = tt
  is_missing x line (Err at) sorted within there = is_free x line at within (there rising)
    where
      rising : IsNonDecreasingBy (λ y. ordering_index (cmp y x)) line
      rising = searchable_from_sorted o (λ y. y) line x (λ k d low high. ap is_lt (turned (get_or line (k + 1) d) (get_or line k d) Less (Less-from_sorted cmp line k (k + 1) d sorted (omega arith) high)))

  -- one that is less than a member is less than those behind it
  below_all : (x y : A) (line : List A) → cmp x y ≡ Less → AllByRecursion (λ z. cmp y z ≡ Less) line → AllByRecursion (λ z. cmp x z ≡ Less) line
  below_all x y [] less all = tt
  below_all x y (z ∷ zs) less all = (o.trans x y z less all.0, below_all x y zs less all.1)

  module _ (x : A) where
    below_added : (y : A) (line : List A) → cmp y x ≡ Less → AllByRecursion (λ z. cmp y z ≡ Less) line → AllByRecursion (λ z. cmp y z ≡ Less) (insert_key cmp line x)
    below_added y [] less all = (less, tt)
    below_added y (z ∷ zs) less all = by (cmp x z) (below_added y zs less all.1)
      where
        by : (r : Ordering) → AllByRecursion (λ z. cmp y z ≡ Less) (insert_key cmp zs x) → AllByRecursion (λ z. cmp y z ≡ Less) (match_ordering r (x ∷ z ∷ zs) (z ∷ zs) (z ∷ insert_key cmp zs x))
        by Less later = (less, all)
        by Equal later = all
        by Greater later = (all.0, later)

    -- the order stays where a member is added
    pub sorted_added : (line : List A) → IsStrictlySortedBy cmp line → IsStrictlySortedBy cmp (insert_key cmp line x)
    unfolding IsStrictlySortedBy
    sorted_added [] sorted = (tt, tt)
    sorted_added (y ∷ ys) sorted = by (cmp x y) refl (sorted_added ys sorted.1)
      where
        by : (r : Ordering) → cmp x y ≡ r → IsStrictlySortedBy cmp (insert_key cmp ys x) → IsStrictlySortedBy cmp (match_ordering r (x ∷ y ∷ ys) (y ∷ ys) (y ∷ insert_key cmp ys x))
        by Less is later = ((is, below_all x y ys is sorted.0), sorted)
        by Equal is later = sorted
        by Greater is later = (below_added y ys (turned y x Greater is) sorted.0, later)

  -- also where a member is put in at the place that was found for it in the same members
  pub sorted_put : (x : A) (line now : List A) (at : ℕ) → now ≡ line → IsStrictlySortedBy cmp line → IsVacant cmp x now at → IsStrictlySortedBy cmp (insert line at x)
  sorted_put x line now at same sorted free =
      let put : insert_key cmp line x ≡ insert line at x = subst (λ (l : List A). insert_key cmp l x ≡ insert l at x) same free.added in
      rw (← put) (sorted_added x line sorted)

  below_left : (y : A) (line : List A) (at : ℕ) → AllByRecursion (λ z. cmp y z ≡ Less) line → AllByRecursion (λ z. cmp y z ≡ Less) (remove line at)
  below_left y [] zero all = all
  below_left y [] (suc at) all = all
  below_left y (z ∷ zs) zero all = all.1
  below_left y (z ∷ zs) (suc at) all = (all.0, below_left y zs at all.1)

  -- the order stays where one is taken out
  pub sorted_left : (line : List A) (at : ℕ) → IsStrictlySortedBy cmp line → IsStrictlySortedBy cmp (remove line at)
  unfolding IsStrictlySortedBy
  sorted_left [] zero sorted = sorted
  sorted_left [] (suc at) sorted = sorted
  sorted_left (y ∷ ys) zero sorted = sorted.1
  sorted_left (y ∷ ys) (suc at) sorted = (below_left y ys at sorted.0, sorted_left ys at sorted.1)

-- a test that equal members pass alike passes one of those that are left without equal neighbours where it passes one of all
module _ {A : Type 0} (same : A → A → Bool) (test : A → Bool) (alike : (x y : A) → same x y ≡ true → test x ≡ test y) where
  twice : (a b : Bool) → (a || b) ≡ (a || (a || b))
  twice true b = refl
  twice false b = refl

  any_from : (k : A) (xs : List A) → list_any test (dedup_from same k xs) ≡ (test k || list_any test xs)
  any_from k [] = refl
  any_from k (x ∷ xs) = by (same x k) refl (any_from k xs) (any_from x xs)
    where
      by : (b : Bool) → same x k ≡ b → list_any test (dedup_from same k xs) ≡ (test k || list_any test xs) → list_any test (dedup_from same x xs) ≡ (test x || list_any test xs)
          → list_any test (cond b (dedup_from same k xs) (k ∷ dedup_from same x xs)) ≡ (test k || (test x || list_any test xs))
      by true is gone kept = rw (alike x k is) (gone ∙ twice (test k) (list_any test xs))
      by false is gone kept = ap (λ (b : Bool). test k || b) kept

  pub any_once : (xs : List A) → list_any test (dedup same xs) ≡ list_any test xs
  any_once [] = refl
  any_once (x ∷ xs) = any_from x xs

module _ {A : Type 0} (cmp : A → A → Ordering) where
  -- no members are in order
  pub none_sorted : IsStrictlySortedBy cmp []
  unfolding IsStrictlySortedBy
  none_sorted = tt

  -- nor is a single one out of order
  pub one_sorted : (x : A) → IsStrictlySortedBy cmp (x ∷ [])
  unfolding IsStrictlySortedBy
  one_sorted x = (tt, tt)

  -- members that are the same stand at one place
  pub alike : IsTotalOrder cmp → (same : A → A → Bool) → ((x y : A) → same x y ≡ eq_by_cmp cmp x y) → (x y z : A) → same y z ≡ true → is_at (cmp x) y ≡ is_at (cmp x) z
  alike o same ties x y z is = ap is_eq (alike_right o y z x ((Equal-is (cmp y z)).0 (sym (ties y z) ∙ is)))
