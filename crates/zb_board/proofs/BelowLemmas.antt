-- Looking below a scope, cell by cell.
use Rattle.std.proofs.Common.{◌≡◌, ℕ, ◌<◌, ◌-◌, ◌==◌, nat_lt, List, [], ◌∷◌, ◌++◌, filter, All, Bool, true, false, ◌||◌, cond, refl, sym, ap, ◌∙◌, arith, nat_cmp, slice_get}
use Rattle.std.specs.BTreeSet.{BTreeSet, contains, insert_key}
use Rattle.std.specs.List.{list_any}
use Rattle.std.specs.Option.{option_map_or}
use Rattle.std.specs.Ordering.{is_eq, match_ordering}
use Rattle.std.specs.declared.cmp.Ordering.{Ordering}
use Rattle.std.specs.declared.cmp.Ordering.TheVariants.{Less, Equal, Greater}
use Rattle.std.proofs.lemmas.Bool.Decides.{nat_tests}
use Rattle.std.proofs.lemmas.List.Elements.{All-head, All-tail, All-cons}
use Rattle.zb_pairs.specs.Pairs.{keys_under}
use Rattle.zb_board.specs.Below.{HasBelow}
use Rattle.zb_board.specs.Indexed.{is_kept}

-- a key that was there is, where one is put
pub still_there : (t u : Bool) → u ≡ true → cond t true u ≡ true
still_there true u is = refl
still_there false u is = is

-- a key that is put is as new as the others
pub newer_put : (low key : ℕ) (keys : List ℕ) → low < key → All (λ k. low < k) keys → All (λ k. low < k) (insert_key nat_cmp keys key)
newer_put low key [] own all = All-cons (λ k. low < k) key [] own all
newer_put low key (k ∷ keys) own all = by_order (nat_cmp key k) (newer_put low key keys own (All-tail (λ x. low < x) k keys all))
  where
    by_order : (o : Ordering) → All (λ x. low < x) (insert_key nat_cmp keys key) → All (λ x. low < x) (match_ordering o (key ∷ k ∷ keys) (k ∷ keys) (k ∷ insert_key nat_cmp keys key))
    by_order Less later = All-cons (λ x. low < x) key (k ∷ keys) own all
    by_order Equal later = all
    by_order Greater later = All-cons (λ x. low < x) k (insert_key nat_cmp keys key) (All-head (λ x. low < x) k keys all) later

-- the keys that are above a bound
abbrev pub above : ℕ → List ℕ → List ℕ
above low keys = filter (λ k. nat_lt low k) keys

pub above_kept : (low key : ℕ) (keys : List ℕ) → is_kept (above low keys) key ≡ true → (low < key) × (is_kept keys key ≡ true)
above_kept low key [] is = absurd (cc)
above_kept low key (k ∷ keys) is = by_tests (nat_lt low k) (k == key) refl refl is (above_kept low key keys)
  where
    by_tests : (t u : Bool) → nat_lt low k ≡ t → (k == key) ≡ u → is_kept (cond t (k ∷ above low keys) (above low keys)) key ≡ true → (is_kept (above low keys) key ≡ true → (low < key) × (is_kept keys key ≡ true))
        → (low < key) × ((u || is_kept keys key) ≡ true)
    by_tests true true more own is later = (grind (arith, nat_tests, more, own), refl)
    by_tests true false more own is later = later (let other = ap (λ (t : Bool). t || is_kept (above low keys) key) own in sym other ∙ is)
    by_tests false true more own is later = (let r = later is in (r.0, refl))
    by_tests false false more own is later = later is

pub kept_above : (low key : ℕ) (keys : List ℕ) → low < key → is_kept keys key ≡ true → is_kept (above low keys) key ≡ true
kept_above low key [] less is = absurd (cc)
kept_above low key (k ∷ keys) less is = by_tests (nat_lt low k) (k == key) refl refl is (kept_above low key keys less)
  where
    by_tests : (t u : Bool) → nat_lt low k ≡ t → (k == key) ≡ u → (u || is_kept keys key) ≡ true → (is_kept keys key ≡ true → is_kept (above low keys) key ≡ true)
        → is_kept (cond t (k ∷ above low keys) (above low keys)) key ≡ true
    by_tests true true more own is later = rw own refl
    by_tests true false more own is later = rw own (later is)
    by_tests false true more own is later = absurd (grind (arith, nat_tests, more, own, less))
    by_tests false false more own is later = later is

either_kept : (keys more : List ℕ) (key : ℕ) → is_kept (keys ++ more) key ≡ (is_kept keys key || is_kept more key)
either_kept [] more key = refl
either_kept (k ∷ keys) more key = by_test (k == key) (either_kept keys more key)
  where
    by_test : (t : Bool) → is_kept (keys ++ more) key ≡ (is_kept keys key || is_kept more key) → (t || is_kept (keys ++ more) key) ≡ ((t || is_kept keys key) || is_kept more key)
    by_test true later = refl
    by_test false later = later

-- some keys below a scope are among the ready ones, and what is in each of them is too, but for those that wait
pub record IsLooking (pairs : List (ℕ × ℕ)) (scope : ℕ) (ready : List ℕ) (waiting : BTreeSet ℕ) : Type 0 where
  pub below : List ℕ
  pub kept : (key : ℕ) → is_kept below key ≡ true → is_kept ready key ≡ true
  pub first : (key : ℕ) → scope < key → is_kept (keys_under scope pairs) key ≡ true → is_kept below key ≡ true
  pub next : (around key : ℕ) → contains nat_cmp waiting around ≡ false → around < key → is_kept below around ≡ true → is_kept (keys_under around pairs) key ≡ true → is_kept below key ≡ true

module _ (pairs : List (ℕ × ℕ)) (scope : ℕ) where
  -- as it begins
  pub looking_first : (ready : List ℕ) (waiting : BTreeSet ℕ)
      → ((key : ℕ) → scope < key → is_kept (keys_under scope pairs) key ≡ true → is_kept ready key ≡ true)
      → ((key : ℕ) → scope < key → is_kept (keys_under scope pairs) key ≡ true → contains nat_cmp waiting key ≡ true) → IsLooking pairs scope ready waiting
  looking_first ready waiting woken waits = record {
    below = above scope (keys_under scope pairs);
    kept = λ key is. let r = above_kept scope key (keys_under scope pairs) is in woken key r.0 r.1;
    first = λ key less is. kept_above scope key (keys_under scope pairs) less is;
    next = λ around key isnt less is there. absurd (let r = above_kept scope around (keys_under scope pairs) is in let it = waits around r.0 r.1 in cc);
  }

  -- with one that waited
  pub looking_next : (key : ℕ) (ready more : List ℕ) (waiting left now : BTreeSet ℕ) → IsLooking pairs scope ready waiting
      → ((k : ℕ) → contains nat_cmp left k ≡ cond (is_eq (nat_cmp key k)) false (contains nat_cmp waiting k))
      → ((k : ℕ) → is_kept ready k ≡ true → is_kept more k ≡ true) → ((k : ℕ) → contains nat_cmp left k ≡ true → contains nat_cmp now k ≡ true)
      → ((k : ℕ) → key < k → is_kept (keys_under key pairs) k ≡ true → is_kept more k ≡ true)
      → ((k : ℕ) → key < k → is_kept (keys_under key pairs) k ≡ true → contains nat_cmp now k ≡ true) → IsLooking pairs scope more now
  looking_next key ready more waiting left now was takes still stay woken waits = record {
    below = was.below ++ new;
    kept = λ k is. kept_by k (is_kept was.below k) (is_kept new k) refl refl (sym (either_kept was.below new k) ∙ is);
    first = λ k less is. either_kept was.below new k ∙ by_left _ _ (was.first k less is);
    next = λ around k isnt less is there. either_kept was.below new k ∙ next_by around k (is_kept was.below around) (is_kept new around) refl refl isnt less (sym (either_kept was.below new around) ∙ is) there;
  }
    where
      new : List ℕ
      new = above key (keys_under key pairs)

      by_left : (s u : Bool) → s ≡ true → (s || u) ≡ true
      by_left s u is = rw is refl

      by_right : (s u : Bool) → u ≡ true → (s || u) ≡ true
      by_right true u is = refl
      by_right false u is = is

      kept_by : (k : ℕ) (s t : Bool) → is_kept was.below k ≡ s → is_kept new k ≡ t → (s || t) ≡ true → is_kept more k ≡ true
      kept_by k true t there here is = still k (was.kept k there)
      kept_by k false true there here is = let r = above_kept key k (keys_under key pairs) here in woken k r.0 r.1
      kept_by k false false there here is = absurd (cc)

      waited : (around : ℕ) (t w : Bool) → (around == key) ≡ t → contains nat_cmp waiting around ≡ w → t ≡ false → contains nat_cmp now around ≡ false → w ≡ false
      waited around true w same has apart isnt = absurd (cc)
      waited around false false same has apart isnt = refl
      waited around false true same has apart isnt =
          absurd (let other : is_eq (nat_cmp key around) ≡ false = grind (arith, nat_tests, same) in
          let left_has : contains nat_cmp left around ≡ true = takes around ∙ rw other has in
          let it = stay around left_has in cc)

      next_by : (around k : ℕ) (s t : Bool) → is_kept was.below around ≡ s → is_kept new around ≡ t → contains nat_cmp now around ≡ false → around < k → (s || t) ≡ true → is_kept (keys_under around pairs) k ≡ true
          → (is_kept was.below k || is_kept new k) ≡ true
      next_by around k true t there here isnt less is under = by_own (around == key) refl
        where
          by_own : (o : Bool) → (around == key) ≡ o → (is_kept was.below k || is_kept new k) ≡ true
          by_own true same =
              let own : around ≡ key = grind (arith, nat_tests, same) in
              by_right _ _ (kept_above key k (keys_under key pairs) (rw (← own) less) (rw (← own) under))
          by_own false same = by_left _ _ (was.next around k (waited around false (contains nat_cmp waiting around) same refl refl isnt) less there under)
      next_by around k false true there here isnt less is under = absurd (let r = above_kept key around (keys_under key pairs) here in let it = waits around r.0 r.1 in cc)
      next_by around k false false there here isnt less is under = absurd (cc)

  -- as none waits any more
  pub looking_last : (ready : List ℕ) (waiting : BTreeSet ℕ) → IsLooking pairs scope ready waiting → waiting.keys ≡ [] → HasBelow pairs scope ready
  looking_last ready waiting was none = record {
    below = was.below;
    kept = was.kept;
    first = was.first;
    next = λ around key less is there. was.next around key (nobody around) less is there;
  }
    where
      nobody : (k : ℕ) → contains nat_cmp waiting k ≡ false
      nobody k = ap (λ (ks : List ℕ). list_any (λ x. is_eq (nat_cmp k x)) ks) none

-- the first that waits is greater than the one that did, and so less is left to a bound
pub less_left : (high key : ℕ) (keys left now : List ℕ) → key < high → keys ≡ key ∷ left → All (λ k. key < k) now
    → high - option_map_or (λ k. k) (slice_get now 0) high < high - option_map_or (λ k. k) (slice_get keys 0) high
less_left high key keys left [] below is all = rw is (omega (arith, below))
less_left high key keys left (k ∷ now) below is all = (let first = All-head (λ x. key < x) k now all in rw is (omega (arith, below, first)))
