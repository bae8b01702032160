-- A subscription that has correlated its message: it ends with that, or correlates none from then on.
use Rattle.std.proofs.Common.{◌≡◌, ℕ, ◌==◌, ◌&&◌, List, [], ◌∷◌, map, filter, Bool, true, false, not, cond, if◌then◌else◌, Option, Some, None, option_map, refl, sym, ap, ◌∙◌, arith}
use Rattle.std.specs.List.{find}
use Rattle.std.proofs.lemmas.Bool.Decides.{nat_tests}
use Rattle.zb_pairs.proofs.FoundLemmas.{none_here, none_later}
use Rattle.zb_views.specs.declared.subscription.Subscription.{Subscription}
use Rattle.zb_views.specs.OwnKeys.{HaveOwnKeys}
use Rattle.zb_views.specs.Subscriptions.{with_task}
use Rattle.zb_subscriptions.specs.declared.opened.Opened.{Opened}
use Rattle.zb_subscriptions.proofs.OpenedLemmas.{its, own_key, found_its}

-- subscriptions have keys of their own where their rows have
pub its_own : (os : List Opened) → HaveOwnKeys own_key os → HaveOwnKeys (λ s. s.key) (map its os)
its_own [] own = tt
its_own (o ∷ os) own = (found_its (λ s. s.key == o.subscription.key) os ∙ ap (option_map its) own.0, its_own os own.1)

module _ (key : ℕ) where
  abbrev has : Subscription → Bool
  has s = s.key == key

  abbrev pub told : Subscription → Subscription
  told s = if has s then with_task None s else s

  abbrev pub stays : Subscription → Bool
  stays s = not (has s && s.cancel)

  -- where none has the key all stay, as they were
  record Untouched (ss : List Subscription) : Type 0 where
    gone : filter (λ s. not (has s)) ss ≡ ss
    kept : filter stays ss ≡ ss
    same : map told ss ≡ ss

  untouched : (ss : List Subscription) → find has ss ≡ None → Untouched ss
  untouched [] none = record { gone = refl; kept = refl; same = refl }
  untouched (s ∷ ss) none =
      let other : has s ≡ false = none_here has s ss none in
      let later = untouched ss (none_later has s ss none) in
      record {
        gone = rw other (ap (λ (l : List Subscription). s ∷ l) later.gone);
        kept = rw other (ap (λ (l : List Subscription). s ∷ l) later.kept);
        same = rw other (ap (λ (l : List Subscription). s ∷ l) later.same);
      }

  -- it ends
  pub ends_with : (ss : List Subscription) (r : Subscription) → HaveOwnKeys (λ s. s.key) ss → find has ss ≡ Some r → r.cancel ≡ true → filter (λ s. not (has s)) ss ≡ map told (filter stays ss)
  ends_with [] r own found cancels = absurd (cc)
  ends_with (s ∷ ss) r own found cancels = by_test (has s) refl found (ends_with ss r own.1)
    where
      by_test : (t : Bool) → has s ≡ t → ◌≡◌ {A = Option Subscription} (cond t (Some s) (find has ss)) (Some r) → (find has ss ≡ Some r → r.cancel ≡ true → filter (λ x. not (has x)) ss ≡ map told (filter stays ss))
          → cond (not t) (s ∷ filter (λ x. not (has x)) ss) (filter (λ x. not (has x)) ss) ≡ map told (cond (not (t && s.cancel)) (s ∷ filter stays ss) (filter stays ss))
      by_test true here found later =
          let same : s ≡ r = cc in
          let cancel : s.cancel ≡ true = ap (λ (x : Subscription). x.cancel) same ∙ cancels in
          let at : key ≡ s.key = grind (arith, nat_tests, here) in
          let u = untouched ss (ap (λ (k : ℕ). find (λ (x : Subscription). x.key == k) ss) at ∙ own.0) in
          rw cancel (u.gone ∙ (sym u.same ∙ ap (map told) (sym u.kept)))
      by_test false other found later = rw other (ap (λ (l : List Subscription). s ∷ l) (later found cancels))

  -- it stays
  pub stays_with : (ss : List Subscription) (found : Option Subscription) → find has ss ≡ found → ((r : Subscription) → found ≡ Some r → r.cancel ≡ false) → HaveOwnKeys (λ s. s.key) ss → filter stays ss ≡ ss
  stays_with ss None at cancels own = (untouched ss at).kept
  stays_with ss (Some r) at cancels own = by_rows ss at own
    where
      by_rows : (ss : List Subscription) → find has ss ≡ Some r → HaveOwnKeys (λ s. s.key) ss → filter stays ss ≡ ss
      by_rows [] at own = absurd (cc)
      by_rows (s ∷ ss) at own = by_test (has s) refl at (λ rest. by_rows ss rest own.1)
        where
          by_test : (t : Bool) → has s ≡ t → ◌≡◌ {A = Option Subscription} (cond t (Some s) (find has ss)) (Some r) → (find has ss ≡ Some r → filter stays ss ≡ ss)
              → cond (not (t && s.cancel)) (s ∷ filter stays ss) (filter stays ss) ≡ s ∷ ss
          by_test true here at later =
              let same : s ≡ r = cc in
              let cancel : s.cancel ≡ false = ap (λ (x : Subscription). x.cancel) same ∙ cancels r refl in
              let its_key : key ≡ s.key = grind (arith, nat_tests, here) in
              let u = untouched ss (ap (λ (k : ℕ). find (λ (x : Subscription). x.key == k) ss) its_key ∙ own.0) in
              ap (λ (t : Bool). cond (not t) (s ∷ filter stays ss) (filter stays ss)) cancel ∙ ap (λ (l : List Subscription). s ∷ l) u.kept
          by_test false other at later = ap (λ (l : List Subscription). s ∷ l) (later at)
