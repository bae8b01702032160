-- The keys of cells that are kept under their scopes.
use Rattle.std.proofs.Common.{◌≡◌, ℕ, zero, suc, ◌<◌, ◌==◌, List, [], ◌∷◌, ◌++◌, length, map, filter, get_or, slice_get, slice_set, remove, All, Bool, true, false, ◌&&◌, ◌||◌, cond, is_some, Some, None, refl, sym, ap, subst, ◌∙◌, arith}
use Rattle.std.specs.BTreeSet.{BTreeSet}
use Rattle.std.specs.List.{find, list_any}
use Rattle.std.specs.List.Sorted.{IsStrictlySortedBy}
use Rattle.std.proofs.lemmas.Bool.Decides.{nat_tests}
use Rattle.zb_table.specs.Rows.{Ascend, are_below}
use Rattle.zb_table.proofs.Growing.{with_last}
use Rattle.zb_pairs.specs.Pairs.{has_pair, is_row_under, keys_under, place_cmp}
use Rattle.zb_pairs.proofs.FoundLemmas.{none_below}
use Rattle.zb_pairs.proofs.PairLemmas.{index_with}
use Rattle.zb_pairs.proofs.UnderLemmas.{kept_under, under_any}
use Rattle.zb_tokens.specs.declared.board.Cell.{Cell}
use Rattle.zb_board.specs.Indexed.{AreChildren}
use Rattle.zb_board.proofs.TallyLemmas.{found_without, none_with}

module _ (cells : List Cell) (children : BTreeSet (ℕ × ℕ)) (kept : AreChildren cells children) where
  -- with a cell more
  pub children_more : (c : Cell) (more : BTreeSet (ℕ × ℕ)) → are_below (λ x. x.key) c.key cells ≡ true
      → ((scope key : ℕ) → has_pair more scope key ≡ cond ((c.scope == scope) && (c.key == key)) true (has_pair children scope key)) → AreChildren (cells ++ c ∷ []) more
  children_more c more below puts =
      subst (λ (l : List Cell). AreChildren l more) (with_last (λ (x : Cell). x.key) c cells below)
      (index_with (λ (x : Cell). x.key) (λ (x : Cell). Some x.scope) cells children kept c more (none_below (λ (x : Cell). x.key) c.key cells below) puts)

  -- with one that is changed where it is
  pub children_set : (i : ℕ) (c d : Cell) → c ≡ get_or cells i c → d.key ≡ c.key → d.scope ≡ c.scope → AreChildren (slice_set cells i d) children
  children_set i c d at key scope = λ s k. kept s k ∙ sym (found_set s k cells i at)
    where
      found_set : (s k : ℕ) (xs : List Cell) (i : ℕ) → c ≡ get_or xs i c
          → is_row_under (λ (x : Cell). Some x.scope) s (find (λ x. x.key == k) (slice_set xs i d)) ≡ is_row_under (λ (x : Cell). Some x.scope) s (find (λ x. x.key == k) xs)
      found_set s k [] i at = refl
      found_set s k (x ∷ xs) zero at =
          by_test (d.key == k) (x.key == k) (ap (λ (n : ℕ). n == k) (key ∙ ap (λ (y : Cell). y.key) at)) (scope ∙ ap (λ (y : Cell). y.scope) at)
        where
          by_test : (t u : Bool) → t ≡ u → d.scope ≡ x.scope → is_row_under (λ (y : Cell). Some y.scope) s (cond t (Some d) (find (λ y. y.key == k) xs)) ≡ is_row_under (λ (y : Cell). Some y.scope) s (cond u (Some x) (find (λ y. y.key == k) xs))
          by_test true true same around = ap (λ (n : ℕ). n == s) around
          by_test true false same around = absurd (cc)
          by_test false true same around = absurd (cc)
          by_test false false same around = refl
      found_set s k (x ∷ xs) (suc i) at = by_test (x.key == k) (found_set s k xs i at)
        where
          by_test : (t : Bool) → is_row_under (λ (y : Cell). Some y.scope) s (find (λ y. y.key == k) (slice_set xs i d)) ≡ is_row_under (λ (y : Cell). Some y.scope) s (find (λ y. y.key == k) xs)
              → is_row_under (λ (y : Cell). Some y.scope) s (cond t (Some x) (find (λ y. y.key == k) (slice_set xs i d))) ≡ is_row_under (λ (y : Cell). Some y.scope) s (cond t (Some x) (find (λ y. y.key == k) xs))
          by_test true later = refl
          by_test false later = later

  -- without one
  pub children_away : (i : ℕ) (c : Cell) (left : BTreeSet (ℕ × ℕ)) → i < length cells → c ≡ get_or cells i c → All (λ (x : Cell). (x.key == c.key) ≡ false) (remove cells i) → find (λ x. x.key == c.key) cells ≡ Some c
      → ((scope key : ℕ) → has_pair left scope key ≡ cond ((c.scope == scope) && (c.key == key)) false (has_pair children scope key)) → AreChildren (remove cells i) left
  children_away i c left within at apart own takes = λ s k. takes s k ∙ by_key s k (c.key == k) refl
    where
      here : (t u : Bool) → u ≡ t → cond (t && true) false u ≡ false
      here true u same = refl
      here false u same = same

      there : (t u : Bool) → cond (t && false) false u ≡ u
      there true u = refl
      there false u = refl

      by_key : (s k : ℕ) (t : Bool) → (c.key == k) ≡ t → cond ((c.scope == s) && t) false (has_pair children s k) ≡ is_row_under (λ (x : Cell). Some x.scope) s (find (λ x. x.key == k) (remove cells i))
      by_key s k true is =
          let same : c.key ≡ k = grind (arith, nat_tests, is) in
          let none : find (λ (x : Cell). x.key == k) (remove cells i) ≡ None = subst (λ (n : ℕ). find (λ (x : Cell). x.key == n) (remove cells i) ≡ None) same (none_with c.key (remove cells i) apart) in
          let found : find (λ (x : Cell). x.key == k) cells ≡ Some c = subst (λ (n : ℕ). find (λ (x : Cell). x.key == n) cells ≡ Some c) same own in
          rw none (here (c.scope == s) (has_pair children s k) (kept s k ∙ rw found refl))
      by_key s k false other = rw (found_without (λ (x : Cell). x.key == k) cells i c within at other) (there (c.scope == s) (has_pair children s k) ∙ kept s k)

  -- those of one scope are the keys of the cells in it
  pub children_in : (scope : ℕ) → Ascend (λ c. c.key) 0 cells → IsStrictlySortedBy place_cmp children.keys → keys_under scope children.keys ≡ map (λ (c : Cell). c.key) (filter (λ (c : Cell). c.scope == scope) cells)
  children_in scope up sorted = kept_under (λ (c : Cell). c.key) (λ (c : Cell). Some c.scope) scope cells children up kept sorted

-- there is a first one where there is one
pub first_child : (scope : ℕ) (cells : List Cell) → is_some (slice_get (map (λ (c : Cell). c.key) (filter (λ (c : Cell). c.scope == scope) cells)) 0) ≡ list_any (λ c. c.scope == scope) cells
first_child scope [] = refl
first_child scope (c ∷ cells) = by_test (c.scope == scope) (first_child scope cells)
  where
    by_test : (t : Bool) → is_some (slice_get (map (λ (x : Cell). x.key) (filter (λ (x : Cell). x.scope == scope) cells)) 0) ≡ list_any (λ x. x.scope == scope) cells
        → is_some (slice_get (map (λ (x : Cell). x.key) (cond t (c ∷ filter (λ (x : Cell). x.scope == scope) cells) (filter (λ (x : Cell). x.scope == scope) cells))) 0) ≡ (t || list_any (λ x. x.scope == scope) cells)
    by_test true later = refl
    by_test false later = later

-- a scope under which a key is kept has a first one
pub has_first : {G : Type 0} (scope key : ℕ) (pairs : BTreeSet (ℕ × ℕ)) → has_pair pairs scope key ≡ true → slice_get (keys_under scope pairs.keys) 0 ≡ None → G
has_first scope key pairs there none = by_keys (keys_under scope pairs.keys) (under_any scope key pairs.keys ∙ there) none
  where
    by_keys : {G : Type 0} (keys : List ℕ) → list_any (λ k. k == key) keys ≡ true → slice_get keys 0 ≡ None → G
    by_keys [] is none = absurd (cc)
    by_keys (k ∷ keys) is none = absurd (cc)
