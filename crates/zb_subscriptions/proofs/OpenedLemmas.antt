-- Subscriptions at their places: one fewer, one that correlates another message, and the one with a key.
use Rattle.std.proofs.Common.{◌≡◌, ℕ, ◌+◌, ◌<◌, ◌==◌, List, [], ◌∷◌, map, filter, Bool, true, false, not, cond, if◌then◌else◌, IsTrue, Option, Some, None, refl, sym, ap, subst, ◌∙◌, arith}
use Rattle.std.specs.List.{find}
use Rattle.std.specs.Option.{option_map}
use Rattle.std.proofs.lemmas.Bool.Decides.{nat_tests}
use Rattle.zb_table.specs.Rows.{Ascend, are_below, with_edit, without}
use Rattle.zb_table.proofs.Ascending.{below_by_keys}
use Rattle.zb_table.proofs.Changing.{without_none}
use Rattle.zb_pairs.proofs.FoundLemmas.{none_here, none_later, all_stay, found_above, found_mapped, ascend_mapped}
use Rattle.zb_lists.specs.Listed.{row_found}
use Rattle.zb_lists.specs.declared.lists.Lists.{Lists}
use Rattle.zb_views.specs.declared.subscription.Subscription.{Subscription}
use Rattle.zb_views.specs.Subscriptions.{with_task}
use Rattle.zb_subscriptions.specs.declared.opened.Opened.{Opened}
use Rattle.zb_subscriptions.specs.Opened.{opened_as, label_of_opened, AreOpened}
use Rattle.zb_views.specs.OwnKeys.{HaveOwnKeys}
use Rattle.zb_views.proofs.OwnKeyLaws.{own_mapped}
use Rattle.zb_subscriptions.proofs.ListedLemmas.{listed_as}

-- the place, the subscription and its key
abbrev pub place_in : Opened → ℕ
place_in o = o.place

abbrev pub its : Opened → Subscription
its o = o.subscription

abbrev pub own_key : Opened → ℕ
own_key o = o.subscription.key

abbrev pub named : ℕ → Opened → Bool
named key o = o.subscription.key == key

-- the subscription with a key is that of the row with it
pub found_its : (p : Subscription → Bool) (os : List Opened) → find p (map its os) ≡ option_map its (find (λ o. p (its o)) os)
found_its p [] = refl
found_its p (o ∷ os) = by_test (p (its o)) (found_its p os)
  where
    by_test : (t : Bool) → find p (map its os) ≡ option_map its (find (λ x. p (its x)) os) → cond t (Some (its o)) (find p (map its os)) ≡ option_map its (cond t (Some o) (find (λ x. p (its x)) os))
    by_test true later = refl
    by_test false later = later

pub none_its : (p : Subscription → Bool) (os : List Opened) → find p (map its os) ≡ None → find (λ o. p (its o)) os ≡ None
none_its p os none = by_found (find (λ (o : Opened). p (its o)) os) (sym (found_its p os) ∙ none)
  where
    by_found : (found : Option Opened) → option_map its found ≡ None → found ≡ None
    by_found None is = refl
    by_found (Some o) is = absurd (cc)

-- no row has a key
pub absent : (key : ℕ) (os : List Opened) → None ≡ option_map place_in (find (named key) os) → find (named key) os ≡ None
absent key os is = by_found (find (named key) os) is
  where
    by_found : (found : Option Opened) → None ≡ option_map place_in found → found ≡ None
    by_found None is = refl
    by_found (Some o) is = absurd (cc)

-- the row with a key is found at its place
place_found : (key low : ℕ) (os : List Opened) (o : Opened) → Ascend place_in low os → find (named key) os ≡ Some o → find (λ x. x.place == o.place) os ≡ Some o
place_found key low [] o up is = absurd (cc)
place_found key low (x ∷ os) o up is = by_test (named key x) is (place_found key (x.place + 1) os o up.1)
  where
    by_test : (t : Bool) → ◌≡◌ {A = Option Opened} (cond t (Some x) (find (named key) os)) (Some o) → (find (named key) os ≡ Some o → find (λ y. y.place == o.place) os ≡ Some o)
        → find (λ y. y.place == o.place) (x ∷ os) ≡ Some o
    by_test true is later =
        let same : x ≡ o = cc in
        let at : (x.place == o.place) ≡ true = (let one : x.place ≡ o.place = ap place_in same in grind (arith, nat_tests, one)) in
        rw at (ap Some same)
    by_test false is later =
        let above = found_above place_in (named key) (x.place + 1) os o up.1 is in
        let apart : (x.place == o.place) ≡ false = grind (arith, nat_tests, above) in
        rw apart (later is)

pub found_place : (key place : ℕ) (os : List Opened) → Ascend place_in 0 os → Some place ≡ option_map place_in (find (named key) os) → find (λ o. o.place == place) os ≡ find (named key) os
found_place key place os up is = by_found (find (named key) os) refl is
  where
    by_found : (found : Option Opened) → find (named key) os ≡ found → Some place ≡ option_map place_in found → find (λ o. o.place == place) os ≡ found
    by_found None at is = absurd (cc)
    by_found (Some o) at is = let one : place ≡ o.place = cc in ap (λ (k : ℕ). find (λ (x : Opened). x.place == k) os) one ∙ place_found key 0 os o up at

-- the subscriptions but those that pass
kept_its : (p : Subscription → Bool) (os : List Opened) → map its (filter (λ o. not (p (its o))) os) ≡ filter (λ s. not (p s)) (map its os)
kept_its p [] = refl
kept_its p (o ∷ os) = by_test (p (its o)) (kept_its p os)
  where
    by_test : (t : Bool) → map its (filter (λ x. not (p (its x))) os) ≡ filter (λ s. not (p s)) (map its os)
        → map its (cond (not t) (o ∷ filter (λ x. not (p (its x))) os) (filter (λ x. not (p (its x))) os)) ≡ cond (not t) (its o ∷ filter (λ s. not (p s)) (map its os)) (filter (λ s. not (p s)) (map its os))
    by_test true later = later
    by_test false later = ap (λ (l : List Subscription). its o ∷ l) later

-- the row with a key is the only one that has it
place_gone : (key low : ℕ) (os : List Opened) (o : Opened) → Ascend place_in low os → HaveOwnKeys own_key os → find (named key) os ≡ Some o → without place_in o.place os ≡ filter (λ x. not (named key x)) os
place_gone key low [] o up own is = absurd (cc)
place_gone key low (x ∷ os) o up own is = by_test (named key x) refl is (place_gone key (x.place + 1) os o up.1 own.1)
  where
    by_test : (t : Bool) → named key x ≡ t → ◌≡◌ {A = Option Opened} (cond t (Some x) (find (named key) os)) (Some o)
        → (find (named key) os ≡ Some o → without place_in o.place os ≡ filter (λ y. not (named key y)) os)
        → without place_in o.place (x ∷ os) ≡ cond (not t) (x ∷ filter (λ y. not (named key y)) os) (filter (λ y. not (named key y)) os)
    by_test true here is later =
        let same : x ≡ o = cc in
        let at : key ≡ x.subscription.key = grind (arith, nat_tests, here) in
        let one : o.place ≡ x.place = ap place_in (sym same) in
        let itself : (x.place == x.place) ≡ true = grind (arith, nat_tests) in
        let gone : without place_in x.place (x ∷ os) ≡ os = rw itself (without_none place_in x.place (x.place + 1) os up.1 (omega arith)) in
        let others : filter (λ y. not (named key y)) os ≡ os = all_stay (named key) os (ap (λ (k : ℕ). find (named k) os) at ∙ own.0) in
        ap (λ (k : ℕ). without place_in k (x ∷ os)) one ∙ (gone ∙ sym others)
    by_test false here is later =
        let above = found_above place_in (named key) (x.place + 1) os o up.1 is in
        let apart : (x.place == o.place) ≡ false = grind (arith, nat_tests, above) in
        rw apart (ap (λ (l : List Opened). x ∷ l) (later is))

-- so the subscription with a key goes
pub its_gone : (key place : ℕ) (os : List Opened) → Ascend place_in 0 os → HaveOwnKeys own_key os → Some place ≡ option_map place_in (find (named key) os)
    → map its (without place_in place os) ≡ filter (λ s. not (s.key == key)) (map its os)
its_gone key place os up own is = by_found (find (named key) os) refl is
  where
    by_found : (found : Option Opened) → find (named key) os ≡ found → Some place ≡ option_map place_in found → map its (without place_in place os) ≡ filter (λ s. not (s.key == key)) (map its os)
    by_found None at is = absurd (cc)
    by_found (Some o) at is =
        let one : place ≡ o.place = cc in
        ap (λ (k : ℕ). map its (without place_in k os)) one ∙ (ap (map its) (place_gone key 0 os o up own at) ∙ kept_its (λ s. s.key == key) os)

-- where none has the key all stay
pub none_gone : (key : ℕ) (os : List Opened) → find (named key) os ≡ None → map its os ≡ filter (λ s. not (s.key == key)) (map its os)
none_gone key os none = ap (map its) (sym (all_stay (named key) os none)) ∙ kept_its (λ s. s.key == key) os

-- a subscription that correlates another message, or none, from now on
module _ (key : ℕ) (task : Option ℕ) where
  abbrev pub turned : Opened → Opened
  turned o = opened_as o.place (with_task task o.subscription)

  abbrev told : Subscription → Subscription
  told s = if s.key == key then with_task task s else s

  told_key : (s : Subscription) → (told s).key ≡ s.key
  told_key s = by_test (s.key == key)
    where
      by_test : (t : Bool) → (if t then with_task task s else s).key ≡ s.key
      by_test true = refl
      by_test false = refl

  -- no subscription has the key
  pub none_told : (os : List Opened) → find (named key) os ≡ None → map its os ≡ map told (map its os)
  none_told [] none = refl
  none_told (o ∷ os) none =
      rw (none_here (named key) o os none) (ap (λ (l : List Subscription). o.subscription ∷ l) (none_told os (none_later (named key) o os none)))

  -- the row at its place is the one
  place_told : (low : ℕ) (os : List Opened) (o : Opened) → Ascend place_in low os → HaveOwnKeys own_key os → find (named key) os ≡ Some o → map its (with_edit place_in o.place turned os) ≡ map told (map its os)
  place_told low [] o up own is = absurd (cc)
  place_told low (x ∷ os) o up own is = by_test (named key x) refl is (place_told (x.place + 1) os o up.1 own.1)
    where
      by_test : (t : Bool) → named key x ≡ t → ◌≡◌ {A = Option Opened} (cond t (Some x) (find (named key) os)) (Some o)
          → (find (named key) os ≡ Some o → map its (with_edit place_in o.place turned os) ≡ map told (map its os))
          → map its (with_edit place_in o.place turned (x ∷ os)) ≡ (if t then with_task task x.subscription else x.subscription) ∷ map told (map its os)
      by_test true here is later =
          let same : x ≡ o = cc in
          let one : o.place ≡ x.place = ap place_in (sym same) in
          let at : key ≡ x.subscription.key = grind (arith, nat_tests, here) in
          let itself : (x.place == x.place) ≡ true = grind (arith, nat_tests) in
          let others : with_edit place_in x.place turned os ≡ os = above x.place (x.place + 1) os up.1 (omega arith) in
          let none : find (named key) os ≡ None = ap (λ (k : ℕ). find (named k) os) at ∙ own.0 in
          ap (λ (k : ℕ). map its (with_edit place_in k turned (x ∷ os))) one
          ∙ rw (itself, others) (ap (λ (l : List Subscription). with_task task x.subscription ∷ l) (none_told os none))
        where
          above : (place low : ℕ) (os : List Opened) → Ascend place_in low os → place < low → with_edit place_in place turned os ≡ os
          above place low [] up below = refl
          above place low (y ∷ os) up below =
              let other : (y.place == place) ≡ false = grind (arith, nat_tests, up.0, below) in
              rw (other, above place (y.place + 1) os up.1 (omega (arith, up.0, below))) refl
      by_test false here is later =
          let above = found_above place_in (named key) (x.place + 1) os o up.1 is in
          let apart : (x.place == o.place) ≡ false = grind (arith, nat_tests, above) in
          rw apart (ap (λ (l : List Subscription). x.subscription ∷ l) (later is))

  pub its_told : (place : ℕ) (os : List Opened) → Ascend place_in 0 os → HaveOwnKeys own_key os → Some place ≡ option_map place_in (find (named key) os) → map its (with_edit place_in place turned os) ≡ map told (map its os)
  its_told place os up own is = by_found (find (named key) os) refl is
    where
      by_found : (found : Option Opened) → find (named key) os ≡ found → Some place ≡ option_map place_in found → map its (with_edit place_in place turned os) ≡ map told (map its os)
      by_found None at is = absurd (cc)
      by_found (Some o) at is = let one : place ≡ o.place = cc in ap (λ (k : ℕ). map its (with_edit place_in k turned os)) one ∙ place_told 0 os o up own at

  -- what is kept beside them stays right
  pub opened_told : (place next : ℕ) (os new : List Opened) (lists : Lists) → new ≡ with_edit place_in place turned os → AreOpened os lists next → AreOpened new lists next
  opened_told place next os new lists edited are = record {
    ascend = subst (λ (l : List Opened). Ascend place_in 0 l) (sym edited) (ascend_mapped place_in f 0 os same_place are.ascend);
    below = subst (λ (l : List Opened). IsTrue (are_below place_in next l)) (sym edited) (below_by_keys place_in next (map f os) os (places os) ∙ are.below);
    own = subst (HaveOwnKeys own_key) (sym edited) (own_mapped own_key f os same_key are.own);
    listed = listed_as (row_found place_in os) (row_found place_in new) lists
        (λ k. ap (λ (l : List Opened). option_map label_of_opened (row_found place_in l k)) edited ∙ (ap (option_map label_of_opened) (found_mapped (λ (o : Opened). o.place == k) f os (λ o. ap (λ (n : ℕ). n == k) (same_place o))) ∙ labels (row_found place_in os k)))
        are.listed;
  }
    where
      f : Opened → Opened
      f o = if o.place == place then turned o else o

      same_place : (o : Opened) → (f o).place ≡ o.place
      same_place o = by_test (o.place == place)
        where
          by_test : (t : Bool) → (if t then turned o else o).place ≡ o.place
          by_test true = refl
          by_test false = refl

      same_key : (o : Opened) → (f o).subscription.key ≡ o.subscription.key
      same_key o = by_test (o.place == place)
        where
          by_test : (t : Bool) → (if t then turned o else o).subscription.key ≡ o.subscription.key
          by_test true = refl
          by_test false = refl

      same_label : (o : Opened) → label_of_opened (f o) ≡ label_of_opened o
      same_label o = by_test (o.place == place)
        where
          by_test : (t : Bool) → label_of_opened (if t then turned o else o) ≡ label_of_opened o
          by_test true = refl
          by_test false = refl

      labels : (found : Option Opened) → option_map label_of_opened (option_map f found) ≡ option_map label_of_opened found
      labels None = refl
      labels (Some o) = ap Some (same_label o)

      places : (os : List Opened) → map place_in (map f os) ≡ map place_in os
      places [] = refl
      places (o ∷ os) = rw (same_place o, places os) refl
