-- What a log says of the subscription of an element instance is what its events tell of it.
use Rattle.std.proofs.Common.{◌≡◌, ◌↔◌, ℕ, ◌==◌, List, [], ◌∷◌, ◌++◌, map, Bool, true, false, cond, if◌then◌else◌, IsTrue, Option, Some, None, option_map, Contains, refl, inl, inr, sym, ap, ◌∙◌, subst, append-nil, append_assoc, arith}
use Rattle.std.specs.List.{find}
use Rattle.std.specs.Option.{option_map_or}
use Rattle.std.proofs.lemmas.Bool.{and_parts}
use Rattle.std.proofs.lemmas.Bool.Decides.{nat_tests}
use Rattle.std.proofs.lemmas.List.{map-append}
use Rattle.std.proofs.lemmas.List.Elements.{Contains-append_left, Contains-append_right, Contains-append_cases}
use Rattle.zb_pairs.proofs.FoundLemmas.{found_without}
use Rattle.zb_exchange_records.specs.declared.subscription.ProcessMessageSubscriptionCreating.{ProcessMessageSubscriptionCreating}
use Rattle.zb_model.specs.declared.record.Event.{Event}
use Rattle.zb_model.specs.declared.record.Event.TheVariants as events
use Rattle.zb_views.specs.View.{keys_in}
use Rattle.zb_views.specs.ProcessSubscriptions.{process_subscription_of, process_subscription_sort, process_subscription_changed, process_subscriptions, process_subscription_at, is_being_created, is_being_deleted, says_nothing_of_process_subscriptions}
use Rattle.zb_views.specs.declared.process_subscription.ProcessSubscription.{ProcessSubscription}
use Rattle.zb_views.specs.declared.process_subscription.WaitPhase.{WaitPhase}
use Rattle.zb_views.specs.declared.process_subscription.WaitPhase.TheVariants as phases
use Rattle.zb_views.proofs.ProcessSubscriptionLaws.{process_subscriptions_more, process_subscriptions_kept}
use Rattle.zb_views.proofs.StandingLaws.{one_more, some_gone, each_changed}
use Rattle.zb_record.specs.Sendings.{opening_of}
use Rattle.zb_rules.specs.Applies.{is_fresh, holds_own, holds_of_game, applies, all_apply}
use Rattle.zb_rules.specs.WaitEvents.{may_subscribe, is_waiting, is_open}
use Rattle.zb_rules.proofs.KeysLaws.{fresh_is}
use Rattle.zb_rules.proofs.ReceiveLaws.{found_changed}
use Rattle.zb_once.specs.May.{IsNowhere}
use Rattle.zb_once.specs.Tellings.{Terms, Telling}
use Rattle.zb_once.specs.Tellings.Telling.{Opens, Kept, Closing, Gone}
use Rattle.zb_once.proofs.ListLemmas.{nothing_in, the_one, here_in, map_out}
use Rattle.zb_once.proofs.ViewLaws.{eq_true}
use Rattle.zb_world.specs.Tellings.{terms_from, tells}
use Rattle.zb_world.proofs.FreshLaws.{unnamed}
use Rattle.zb_world.proofs.SubscriptionMayLaws.{own_holds}

-- the terms of a subscription
abbrev pub terms_with : ProcessSubscription → Terms
terms_with x = record { name = x.name; correlation_key = x.correlation_key; process = x.process; cancel = x.cancel }

-- it is open as long as no closing is told, and then it closes
abbrev pub Shows : ℕ → List Telling → WaitPhase → Type 0
Shows s told phases.Deleting = (correlation_key : List ℕ) × (keys : List ℕ) × Contains told (Closing s correlation_key keys)
Shows s told phase = (correlation_key keys : List ℕ) → Contains told (Closing s correlation_key keys) → ⊥

-- what is told of one that is there
pub record IsToldOf (s : ℕ) (told : List Telling) (x : ProcessSubscription) : Type 0 where
  pub opens : Contains told (Opens s (terms_with x))
  pub kept : (m : ℕ) → Contains x.kept m ↔ Contains told (Kept s m)
  pub shows : Shows s told x.phase

module _ (s : ℕ) where
  -- what is told of it, where it is there or not
  abbrev Says : List Telling → Option ProcessSubscription → Type 0
  Says told None = IsNowhere s told
  Says told (Some x) = IsToldOf s told x

  -- what is told tells of it
  abbrev concerns : Telling → Bool
  concerns (Opens key terms) = key == s
  concerns (Kept key message) = key == s
  concerns (Closing key correlation_key keys) = key == s
  concerns (Gone key) = key == s
  concerns t = false

  itself : (s == s) ≡ true
  itself = grind (arith, nat_tests)

  -- what was told before is all that is told but the last
  before_it : (told : List Telling) (t u : Telling) → (u ≡ t → ⊥) → Contains (told ++ t ∷ []) u → Contains told u
  before_it told t u other is = elim (Contains-append_cases told (t ∷ []) u is) [
    | inl among ↦ among
    | inr last ↦ absurd (other (the_one t u last))
  ]

  -- the last is told
  last_of : (told : List Telling) (t : Telling) → Contains (told ++ t ∷ []) t
  last_of told t = Contains-append_right told (t ∷ []) t (here_in t [])

  -- what tells of it isn't what doesn't
  apart_by : (t u : Telling) → concerns u ≡ true → concerns t ≡ false → u ≡ t → ⊥
  apart_by t u its other same = let both : concerns t ≡ true = ap concerns (sym same) ∙ its in absurd (cc (both, other))

  shows_still : (told : List Telling) (t : Telling) (phase : WaitPhase) → ((correlation_key keys : List ℕ) → Closing s correlation_key keys ≡ t → ⊥) → Shows s told phase → Shows s (told ++ t ∷ []) phase
  shows_still told t phases.Deleting none is = (is.0, is.1, Contains-append_left told (t ∷ []) (Closing s is.0 is.1) is.2)
  shows_still told t phases.Creating none is = λ correlation_key keys stands. is correlation_key keys (before_it told t (Closing s correlation_key keys) (none correlation_key keys) stands)
  shows_still told t phases.Created none is = λ correlation_key keys stands. is correlation_key keys (before_it told t (Closing s correlation_key keys) (none correlation_key keys) stands)

  kept_still : (told : List Telling) (t : Telling) (keys : List ℕ) → ((m : ℕ) → Kept s m ≡ t → ⊥) → ((m : ℕ) → Contains keys m ↔ Contains told (Kept s m)) → (m : ℕ) → Contains keys m ↔ Contains (told ++ t ∷ []) (Kept s m)
  kept_still told t keys none kept m = (λ has. Contains-append_left told (t ∷ []) (Kept s m) ((kept m).0 has), λ stands. (kept m).1 (before_it told t (Kept s m) (none m) stands))

  -- what doesn't tell of it leaves it as it is told
  still_so : (told : List Telling) (t : Telling) (row : Option ProcessSubscription) → concerns t ≡ false → Says told row → Says (told ++ t ∷ []) row
  still_so told t None other is = elim is [
    | inl never ↦ inl (λ terms stands. never terms (before_it told t (Opens s terms) (apart_by t (Opens s terms) itself other) stands))
    | inr gone ↦ inr (Contains-append_left told (t ∷ []) (Gone s) gone)
  ]
  still_so told t (Some x) other is = record {
    opens = Contains-append_left told (t ∷ []) (Opens s (terms_with x)) is.opens;
    kept = kept_still told t x.kept (λ m. apart_by t (Kept s m) itself other) is.kept;
    shows = shows_still told t x.phase (λ correlation_key keys. apart_by t (Closing s correlation_key keys) itself other) is.shows;
  }

  -- which one is there
  abbrev is_this : ProcessSubscription → Bool
  is_this x = x.key == s

  found_more : (xs : List ProcessSubscription) (x : ProcessSubscription) → find is_this (xs ++ x ∷ []) ≡ option_map_or (λ y. Some y) (find is_this xs) (if is_this x then Some x else None)
  found_more [] x = refl
  found_more (y ∷ xs) x = by_test (is_this y) (found_more xs x)
    where
      by_test : (t : Bool) → find is_this (xs ++ x ∷ []) ≡ option_map_or (λ z. Some z) (find is_this xs) (if is_this x then Some x else None)
          → cond t (Some y) (find is_this (xs ++ x ∷ [])) ≡ option_map_or (λ z. Some z) (cond t (Some y) (find is_this xs)) (if is_this x then Some x else None)
      by_test true later = refl
      by_test false later = later

  module _ (p : ℕ) (before : List Event) where
    abbrev told : List Telling
    told = map tells before

    abbrev row : Option ProcessSubscription
    row = process_subscription_at s before

    -- the one behind an event more
    abbrev row_by : Event → Option ProcessSubscription
    row_by e = process_subscription_at s (before ++ e ∷ [])

    pub row_still : (e : Event) → says_nothing_of_process_subscriptions e ≡ true → row_by e ≡ row
    row_still e nothing = ap (find is_this) (process_subscriptions_kept before e nothing)

    pub row_changed : (e : Event) → ((x : ProcessSubscription) → process_subscription_sort.ends before e x ≡ false) → process_subscription_sort.told before e ≡ None → row_by e ≡ option_map (process_subscription_changed e) row
    row_changed e lasts none =
        ap (find is_this) (process_subscriptions_more before e ∙ each_changed process_subscription_sort before e (process_subscriptions before) none lasts) ∙ found_changed s e (process_subscriptions before)

    pub row_opened : (c : ProcessMessageSubscriptionCreating) → row_by (events.ProcessMessageSubscriptionCreating c) ≡ option_map_or (λ y. Some y) row (if c.subscription == s then Some (process_subscription_of c) else None)
    row_opened c =
        ap (find is_this) (process_subscriptions_more before (events.ProcessMessageSubscriptionCreating c) ∙ one_more process_subscription_sort before (events.ProcessMessageSubscriptionCreating c) (process_subscriptions before) (process_subscription_of c) refl (λ x. refl) (λ x. refl))
        ∙ found_more (process_subscriptions before) (process_subscription_of c)

    pub row_gone : (key : ℕ) → row_by (events.ProcessMessageSubscriptionDeleted key) ≡ cond (key == s) None row
    row_gone key =
        ap (find is_this) (process_subscriptions_more before (events.ProcessMessageSubscriptionDeleted key) ∙ some_gone process_subscription_sort before (events.ProcessMessageSubscriptionDeleted key) (process_subscriptions before) (λ x. x.key == key) refl (λ x. refl) (λ x. refl))
        ∙ found_without (λ (x : ProcessSubscription). x.key) key s (process_subscriptions before)

    -- the one that is there has the key
    pub row_key : (x : ProcessSubscription) → row ≡ Some x → x.key ≡ s
    row_key x is = found_key (process_subscriptions before) is
      where
        found_key : (xs : List ProcessSubscription) → find is_this xs ≡ Some x → x.key ≡ s
        found_key [] is = absurd (cc)
        found_key (y ∷ xs) is = by_test (y.key == s) refl (found_key xs) is
          where
            by_test : (t : Bool) → (y.key == s) ≡ t → (find is_this xs ≡ Some x → x.key ≡ s) → cond t (Some y) (find is_this xs) ≡ Some x → x.key ≡ s
            by_test true its later is = let same : y ≡ x = cc in ap (λ (z : ProcessSubscription). z.key) (sym same) ∙ eq_true y.key s its
            by_test false other later is = later is

    -- where an event is of another one
    other_changed : (e : Event) → row_by e ≡ option_map (process_subscription_changed e) row → ((x : ProcessSubscription) → x.key ≡ s → process_subscription_changed e x ≡ x) → concerns (tells e) ≡ false → Says told row → Says (told ++ tells e ∷ []) (row_by e)
    other_changed e led same other is = by_row row refl (still_so told (tells e) row other is)
      where
        by_row : (found : Option ProcessSubscription) → row ≡ found → Says (told ++ tells e ∷ []) found → Says (told ++ tells e ∷ []) (row_by e)
        by_row None at now = let its : row_by e ≡ None = rw at at led in rw its now
        by_row (Some x) at now =
            let its : row_by e ≡ Some x = (rw at at led) ∙ ap Some (same x (row_key x at)) in
            rw its now

    -- where the row is as it was
    same_row : (e : Event) → row_by e ≡ row → concerns (tells e) ≡ false → Says told row → Says (told ++ tells e ∷ []) (row_by e)
    same_row e led other is = rw led (still_so told (tells e) row other is)

    -- what is there in a phase
    pub there_in : (such : WaitPhase → Bool) (key : ℕ) → key ≡ s → IsTrue (is_waiting such key before) → (x : ProcessSubscription) × (row ≡ Some x) × (such x.phase ≡ true)
    there_in such key same is = by_found row refl (subst (λ (k : ℕ). IsTrue (is_waiting such k before)) same is)
      where
        by_found : (found : Option ProcessSubscription) → row ≡ found → IsTrue (option_map_or (λ x. such x.phase) found false) → (x : ProcessSubscription) × (row ≡ Some x) × (such x.phase ≡ true)
        by_found None at is = absurd (cc)
        by_found (Some x) at is = (x, at, is)

    not_deleted : (phase : WaitPhase) → is_being_created phase ≡ true → is_being_deleted phase ≡ false
    not_deleted phases.Creating is = refl
    not_deleted phase is = absurd (cc)

    open_shows : (told : List Telling) (phase : WaitPhase) → is_being_deleted phase ≡ false → Shows s told phase → Shows s told phases.Created
    open_shows told phases.Deleting out is = absurd (cc)
    open_shows told phases.Creating out is = is
    open_shows told phases.Created out is = is

    -- where an event changes the one that is there
    changed_so : (e : Event) (x : ProcessSubscription) → row ≡ Some x → row_by e ≡ option_map (process_subscription_changed e) row → IsToldOf s (told ++ tells e ∷ []) (process_subscription_changed e x) → Says (told ++ tells e ∷ []) (row_by e)
    changed_so e x at led is = let its : row_by e ≡ Some (process_subscription_changed e x) = led ∙ ap (option_map (process_subscription_changed e)) at in rw its is

    its_key : (x : ProcessSubscription) (key : ℕ) → row ≡ Some x → key ≡ s → (x.key == key) ≡ true
    its_key x key at same = let its = row_key x at in grind (arith, nat_tests, its, same)

    told_so : (x : ProcessSubscription) → row ≡ Some x → Says told row → IsToldOf s told x
    told_so x at is = subst (Says told) at is

    -- one that is being created is created
    confirmed_so : (key : ℕ) → key ≡ s → IsTrue (is_waiting is_being_created key before) → Says told row → Says (told ++ tells (events.ProcessMessageSubscriptionCreated key) ∷ []) (row_by (events.ProcessMessageSubscriptionCreated key))
    confirmed_so key same own is =
        let e = events.ProcessMessageSubscriptionCreated key in
        let r = there_in is_being_created key same own in
        let was = still_so told (tells e) (Some r.0) refl (told_so r.0 r.1 is) in
        let one = its_key r.0 key r.1 same in
        let shown : Shows s (told ++ tells e ∷ []) (process_subscription_changed e r.0).phase = rw one (open_shows (told ++ tells e ∷ []) r.0.phase (not_deleted r.0.phase r.2) was.shows) in
        changed_so e r.0 r.1 (row_changed e (λ y. refl) refl) (record { opens = was.opens; kept = was.kept; shows = shown })

    -- one that isn't being deleted is given a message
    given_so : (m : ℕ) → IsTrue (is_waiting is_open s before) → Says told row
        → Says (told ++ Kept s m ∷ []) (row_by (events.ProcessMessageSubscriptionCorrelated (record { subscription = s; message = m })))
    given_so m own is =
        let e = events.ProcessMessageSubscriptionCorrelated (record { subscription = s; message = m }) in
        let r = there_in is_open s refl own in
        let x = r.0 in
        let was = told_so x r.1 is in
        let one = its_key x s r.1 refl in
        let keys : (n : ℕ) → Contains (process_subscription_changed e x).kept n ↔ Contains (told ++ Kept s m ∷ []) (Kept s n) = rw one (λ n. (in_told x.kept was.kept n, in_kept x.kept was.kept n)) in
        let shown : Shows s (told ++ Kept s m ∷ []) x.phase = shows_still told (Kept s m) x.phase (λ correlation_key keys same. absurd (cc)) was.shows in
        changed_so e x r.1 (row_changed e (λ y. refl) refl) (record { opens = Contains-append_left told (Kept s m ∷ []) (Opens s (terms_with x)) was.opens; kept = keys; shows = shown })
      where
        in_told : (keys : List ℕ) → ((n : ℕ) → Contains keys n ↔ Contains told (Kept s n)) → (n : ℕ) → Contains (keys ++ m ∷ []) n → Contains (told ++ Kept s m ∷ []) (Kept s n)
        in_told keys kept n has = elim (Contains-append_cases keys (m ∷ []) n has) [
          | inl among ↦ Contains-append_left told (Kept s m ∷ []) (Kept s n) ((kept n).0 among)
          | inr last ↦ let one : n ≡ m = the_one m n last in subst (λ (k : ℕ). Contains (told ++ Kept s m ∷ []) (Kept s k)) (sym one) (last_of told (Kept s m))
        ]

        in_kept : (keys : List ℕ) → ((n : ℕ) → Contains keys n ↔ Contains told (Kept s n)) → (n : ℕ) → Contains (told ++ Kept s m ∷ []) (Kept s n) → Contains (keys ++ m ∷ []) n
        in_kept keys kept n stands = elim (Contains-append_cases told (Kept s m ∷ []) (Kept s n) stands) [
          | inl among ↦ Contains-append_left keys (m ∷ []) n ((kept n).1 among)
          | inr last ↦
              let same : Kept s n ≡ Kept s m = the_one (Kept s m) (Kept s n) last in
              let one : n ≡ m = cc in
              subst (λ (k : ℕ). Contains (keys ++ m ∷ []) k) (sym one) (Contains-append_right keys (m ∷ []) m (here_in m []))
        ]

    -- one that isn't being deleted begins to be
    closes_so : (correlation_key keys : List ℕ) → IsTrue (is_waiting is_open s before) → Says told row
        → Says (told ++ Closing s correlation_key keys ∷ []) (row_by (events.ProcessMessageSubscriptionDeleting (record { subscription = s; correlation_key = correlation_key; keys = keys })))
    closes_so correlation_key keys own is =
        let e = events.ProcessMessageSubscriptionDeleting (record { subscription = s; correlation_key = correlation_key; keys = keys }) in
        let t = Closing s correlation_key keys in
        let r = there_in is_open s refl own in
        let x = r.0 in
        let was = told_so x r.1 is in
        let one = its_key x s r.1 refl in
        let shown : Shows s (told ++ t ∷ []) (process_subscription_changed e x).phase = rw one (correlation_key, keys, last_of told t) in
        changed_so e x r.1 (row_changed e (λ y. refl) refl)
        (record { opens = Contains-append_left told (t ∷ []) (Opens s (terms_with x)) was.opens; kept = kept_still told t x.kept (λ m same. absurd (cc)) was.kept; shows = shown })

    -- no event before tells of a fresh key
    unheard : IsTrue (is_fresh p before s) → (t : Telling) → concerns t ≡ true → Contains told t → ⊥
    unheard new t its stands =
        let f = fresh_is p before s new in
        let r = map_out tells before t stands in
        unnamed p before r.0 f.0 r.1 (subst (Contains (keys_in r.0)) f.1 (named r.0 (ap concerns (sym r.2) ∙ its)))
      where
        named : (e : Event) → concerns (tells e) ≡ true → Contains (keys_in e) s
        named (events.ProcessMessageSubscriptionCreating c) its = (0, omega arith, eq_true c.subscription s its)
        named (events.ProcessMessageSubscriptionCorrelated c) its = (0, omega arith, eq_true c.subscription s its)
        named (events.ProcessMessageSubscriptionDeleting c) its = (0, omega arith, eq_true c.subscription s its)
        named (events.ProcessMessageSubscriptionDeleted key) its = (0, omega arith, eq_true key s its)
        named e its = absurd (cc)

    -- one that opens was given no message, and isn't being deleted
    opened_so : (c : ProcessMessageSubscriptionCreating) → (c.subscription == s) ≡ true → IsTrue (is_fresh p before s) → Says told row → Says (told ++ tells (events.ProcessMessageSubscriptionCreating c) ∷ []) (row_by (events.ProcessMessageSubscriptionCreating c))
    opened_so c its new is = by_row row refl
      where
        same : c.subscription ≡ s
        same = eq_true c.subscription s its

        t : Telling
        t = Opens s (terms_from (opening_of c))

        now : IsToldOf s (told ++ t ∷ []) (process_subscription_of c)
        now = record {
          opens = last_of told t;
          kept = λ n. (λ has. absurd (nothing_in n has), λ stands. absurd (unheard new (Kept s n) itself (before_it told t (Kept s n) (λ is. absurd (cc)) stands)));
          shows = λ correlation_key keys stands. unheard new (Closing s correlation_key keys) itself (before_it told t (Closing s correlation_key keys) (λ is. absurd (cc)) stands);
        }

        by_row : (found : Option ProcessSubscription) → row ≡ found → Says (told ++ tells (events.ProcessMessageSubscriptionCreating c) ∷ []) (row_by (events.ProcessMessageSubscriptionCreating c))
        by_row None at =
            let led : row_by (events.ProcessMessageSubscriptionCreating c) ≡ Some (process_subscription_of c) = row_opened c ∙ rw (at, its) refl in
            rw led (subst (λ (k : ℕ). IsToldOf s (told ++ Opens k (terms_from (opening_of c)) ∷ []) (process_subscription_of c)) (sym same) now)
        by_row (Some x) at = absurd (unheard new (Opens s (terms_with x)) itself (told_so x at is).opens)

    -- where another one opens, or is gone
    another : (found : Option ProcessSubscription) → option_map_or (λ (y : ProcessSubscription). Some y) found None ≡ found
    another None = refl
    another (Some x) = refl

    -- an event that applies
    pub says_more : (e : Event) → holds_own p before e ≡ true → Says told row → Says (told ++ tells e ∷ []) (row_by e)
    says_more (events.ProcessMessageSubscriptionCreating c) own is = by_test (c.subscription == s) refl
      where
        by_test : (t : Bool) → (c.subscription == s) ≡ t → Says (told ++ tells (events.ProcessMessageSubscriptionCreating c) ∷ []) (row_by (events.ProcessMessageSubscriptionCreating c))
        by_test true its = opened_so c its (subst (λ (k : ℕ). IsTrue (is_fresh p before k)) (eq_true c.subscription s its) (and_parts (is_fresh p before c.subscription) (holds_of_game (may_subscribe c) before) own).0) is
        by_test false other = same_row (events.ProcessMessageSubscriptionCreating c) (row_opened c ∙ rw other (another row)) other is
    says_more (events.ProcessMessageSubscriptionCreated key) own is = by_test (key == s) refl
      where
        by_test : (t : Bool) → (key == s) ≡ t → Says (told ++ tells (events.ProcessMessageSubscriptionCreated key) ∷ []) (row_by (events.ProcessMessageSubscriptionCreated key))
        by_test true its = confirmed_so key (eq_true key s its) own is
        by_test false other = other_changed (events.ProcessMessageSubscriptionCreated key) (row_changed (events.ProcessMessageSubscriptionCreated key) (λ y. refl) refl) (λ x its. let apart : (x.key == key) ≡ false = grind (arith, nat_tests, its, other) in rw apart refl) refl is
    says_more (events.ProcessMessageSubscriptionCorrelated c) own is = by_test (c.subscription == s) refl
      where
        by_test : (t : Bool) → (c.subscription == s) ≡ t → Says (told ++ tells (events.ProcessMessageSubscriptionCorrelated c) ∷ []) (row_by (events.ProcessMessageSubscriptionCorrelated c))
        by_test true its =
            let same = eq_true c.subscription s its in
            subst (λ (k : ℕ). Says (told ++ Kept k c.message ∷ []) (row_by (events.ProcessMessageSubscriptionCorrelated (record { subscription = k; message = c.message })))) (sym same)
            (given_so c.message (subst (λ (k : ℕ). IsTrue (is_waiting is_open k before)) same own) is)
        by_test false other = other_changed (events.ProcessMessageSubscriptionCorrelated c) (row_changed (events.ProcessMessageSubscriptionCorrelated c) (λ y. refl) refl) (λ x its. let apart : (x.key == c.subscription) ≡ false = grind (arith, nat_tests, its, other) in rw apart refl) other is
    says_more (events.ProcessMessageSubscriptionDeleting c) own is = by_test (c.subscription == s) refl
      where
        by_test : (t : Bool) → (c.subscription == s) ≡ t → Says (told ++ tells (events.ProcessMessageSubscriptionDeleting c) ∷ []) (row_by (events.ProcessMessageSubscriptionDeleting c))
        by_test true its =
            let same = eq_true c.subscription s its in
            subst (λ (k : ℕ). Says (told ++ Closing k c.correlation_key c.keys ∷ []) (row_by (events.ProcessMessageSubscriptionDeleting (record { subscription = k; correlation_key = c.correlation_key; keys = c.keys })))) (sym same)
            (closes_so c.correlation_key c.keys (subst (λ (k : ℕ). IsTrue (is_waiting is_open k before)) same own) is)
        by_test false other = other_changed (events.ProcessMessageSubscriptionDeleting c) (row_changed (events.ProcessMessageSubscriptionDeleting c) (λ y. refl) refl) (λ x its. let apart : (x.key == c.subscription) ≡ false = grind (arith, nat_tests, its, other) in rw apart refl) other is
    says_more (events.ProcessMessageSubscriptionDeleted key) own is = by_test (key == s) refl
      where
        by_test : (t : Bool) → (key == s) ≡ t → Says (told ++ tells (events.ProcessMessageSubscriptionDeleted key) ∷ []) (row_by (events.ProcessMessageSubscriptionDeleted key))
        by_test true its =
            let led : row_by (events.ProcessMessageSubscriptionDeleted key) ≡ None = row_gone key ∙ rw its refl in
            rw led (inr (subst (λ (k : ℕ). Contains (told ++ Gone key ∷ []) (Gone k)) (eq_true key s its) (last_of told (Gone key))))
        by_test false other = same_row (events.ProcessMessageSubscriptionDeleted key) (row_gone key ∙ rw other refl) other is
    says_more e own is = same_row e (row_still e refl) refl is

-- what a log of events that apply tells of a subscription
pub says_of : (p s : ℕ) (es : List Event) → IsTrue (all_apply p [] es) → Says s (map tells es) (process_subscription_at s es)
says_of p s es apply = on [] es apply (inl (λ terms stands. nothing_in (Opens s terms) stands))
  where
    on : (before after : List Event) → IsTrue (all_apply p before after) → Says s (map tells before) (process_subscription_at s before) → Says s (map tells (before ++ after)) (process_subscription_at s (before ++ after))
    on before [] apply is = rw (append-nil before) is
    on before (e ∷ after) apply is =
        let r = and_parts (applies p before e) (all_apply p (before ++ e ∷ []) after) apply in
        let next : Says s (map tells (before ++ e ∷ [])) (process_subscription_at s (before ++ e ∷ [])) =
        subst (λ (told : List Telling). Says s told (process_subscription_at s (before ++ e ∷ []))) (sym (map-append tells before (e ∷ []))) (says_more s p before e (own_holds p before e r.0) is) in
        subst (λ (l : List Event). Says s (map tells l) (process_subscription_at s l)) (append_assoc before (e ∷ []) after) (on (before ++ e ∷ []) after r.1 next)

module _ (p s : ℕ) (es : List Event) (apply : IsTrue (all_apply p [] es)) where
  -- one that isn't there was never told, or is gone
  pub nowhere_told : process_subscription_at s es ≡ None → IsNowhere s (map tells es)
  nowhere_told at = subst (Says s (map tells es)) at (says_of p s es apply)

  -- one that is there is told of
  pub waiting_told : (x : ProcessSubscription) → process_subscription_at s es ≡ Some x → IsToldOf s (map tells es) x
  waiting_told x at = subst (Says s (map tells es)) at (says_of p s es apply)
