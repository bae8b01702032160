-- What a log says of a subscription is what its events tell of it.
use Rattle.std.proofs.Common.{◌≡◌, ◌⊎◌, ℕ, ◌==◌, List, [], ◌∷◌, ◌++◌, map, filter, is_some, Bool, true, false, if◌then◌else◌, IsTrue, Option, Some, None, option_and_then, refl, inl, inr, sym, ap, ◌∙◌, subst, append-nil, append_assoc}
use Rattle.std.specs.List.{find}
use Rattle.std.specs.Option.{option_map_or}
use Rattle.std.proofs.lemmas.Bool.{and_parts}
use Rattle.std.proofs.lemmas.List.{map-append}
use Rattle.std.proofs.lemmas.List.Elements.{filter-append}
use Rattle.zb_model.specs.declared.record.Event.{Event}
use Rattle.zb_model.specs.declared.record.Event.TheVariants as events
use Rattle.zb_views.specs.Standing.{left_by, begun_by, standing_by}
use Rattle.zb_views.specs.Subscriptions.{subscription_of, subscription_told, ends_subscription, with_task, task_by, subscription_sort, subscriptions, subscription_at, is_subscribed, opens_new, all_open_new}
use Rattle.zb_views.specs.declared.subscription.Subscription.{Subscription}
use Rattle.zb_views.proofs.StandingLaws.{standing_more}
use Rattle.zb_once.specs.Tellings.{Terms, Telling}
use Rattle.zb_once.specs.Tellings.Telling.{Opened, Correlated, Rejected, Deleted}
use Rattle.zb_once.specs.Views.{said_last, terms_told, terms_of, cancels, presence_told, is_there, task_told, task_of}
use Rattle.zb_once.proofs.ViewLaws.{said_last_more, eq_true}
use Rattle.zb_world.specs.Tellings.{tells}
use Rattle.zb_world.proofs.MessageViewLaws.{turned}

-- the terms of a subscription that is there
abbrev pub terms_in : Subscription → Terms
terms_in r = record { name = r.name; correlation_key = r.correlation_key; process = r.process; cancel = r.cancel }

module _ (s : ℕ) where
  abbrev is_it : Subscription → Bool
  is_it x = x.key == s

  -- what is told of it, where it is there or not
  abbrev Tells : List Telling → Option Subscription → Type 0
  Tells told None = is_there s told ≡ false
  Tells told (Some r) = (terms_of s told ≡ Some (terms_in r)) × (said_last (presence_told s r.cancel) told ≡ Some true) × (said_last (task_told s) told ≡ Some r.correlating)

  -- of what stands this is it, or nothing is
  record IsFound (told : List Telling) (xs : List Subscription) : Type 0 where
    row : Option Subscription
    alone : filter is_it xs ≡ begun_by row
    its : option_map_or (λ r. r.key) row s ≡ s
    tells : Tells told row

  -- what says nothing of it leaves it as it is told
  still : (told : List Telling) (t : Telling) (row : Option Subscription) → terms_told s t ≡ None → ((c : Bool) → presence_told s c t ≡ None) → task_told s t ≡ None → Tells told row → Tells (told ++ t ∷ []) row
  still told t None terms presence task is = rw (said_last_more (terms_told s) told t, terms, said_last_more (presence_told s (cancels s told)) told t, presence (cancels s told)) is
  still told t (Some r) terms presence task is = (
    said_last_more (terms_told s) told t ∙ rw terms is.0,
    said_last_more (presence_told s r.cancel) told t ∙ rw (presence r.cancel) is.1,
    said_last_more (task_told s) told t ∙ rw task is.2,
  )

  or_false : (t : Bool) → ((if t then Some false else None) ≡ None) ⊎ ((if t then Some false else None) ≡ Some false)
  or_false true = inr refl
  or_false false = inl refl

  -- where it isn't there, only an opening makes it so
  not_more : (t : Telling) (c : Bool) → terms_told s t ≡ None → (presence_told s c t ≡ None) ⊎ (presence_told s c t ≡ Some false)
  not_more (Opened key terms) c none = by_test (s == key) none
    where
      by_test : (t : Bool) → (if t then Some terms else None) ≡ None → ((if t then Some true else None) ≡ None) ⊎ ((if t then Some true else None) ≡ Some false)
      by_test true none = absurd (cc)
      by_test false none = inl refl
  not_more (Correlated key message) true none = or_false (s == key)
  not_more (Correlated key message) false none = inl refl
  not_more (Rejected key message) c none = or_false (s == key)
  not_more (Deleted key) c none = or_false (s == key)
  not_more _ c none = inl refl

  pub still_out : (told : List Telling) (t : Telling) → terms_told s t ≡ None → is_there s told ≡ false → is_there s (told ++ t ∷ []) ≡ false
  still_out told t none out = rw (said_last_more (terms_told s) told t, none, said_last_more (presence_told s (cancels s told)) told t) (elim (not_more t (cancels s told) none) [
    | inl nothing ↦ rw nothing out
    | inr gone ↦ rw gone refl
  ])

  -- where it goes, it isn't there
  goes : (told : List Telling) (t : Telling) (r : Subscription) → terms_told s t ≡ None → presence_told s r.cancel t ≡ Some false → Tells told (Some r) → is_there s (told ++ t ∷ []) ≡ false
  goes told t r none gone is = rw (said_last_more (terms_told s) told t, none, is.0, said_last_more (presence_told s r.cancel) told t, gone) refl

  -- where its task changes, it is as before but for that
  changes : (told : List Telling) (t : Telling) (r : Subscription) (task : Option ℕ) → terms_told s t ≡ None → presence_told s r.cancel t ≡ None → task_told s t ≡ Some task → Tells told (Some r) → Tells (told ++ t ∷ []) (Some (with_task task r))
  changes told t r task none presence tasks is = (
    said_last_more (terms_told s) told t ∙ rw none is.0,
    said_last_more (presence_told s r.cancel) told t ∙ rw presence is.1,
    said_last_more (task_told s) told t ∙ rw tasks refl,
  )

  -- what an event leaves of the one that is it is what it leaves of those that stand
  keys_stay : (e : Event) (x : Subscription) → (task_by e x).key ≡ x.key
  keys_stay (events.MessageSubscriptionCorrelating e) x = by_test (x.key == e.subscription)
    where
      by_test : (t : Bool) → (if t then with_task (Some e.message) x else x).key ≡ x.key
      by_test true = refl
      by_test false = refl
  keys_stay (events.MessageSubscriptionCorrelated e) x = by_test (x.key == e.subscription)
    where
      by_test : (t : Bool) → (if t then with_task None x else x).key ≡ x.key
      by_test true = refl
      by_test false = refl
  keys_stay e x = refl

  left_same : (before : List Event) (e : Event) (xs : List Subscription) → filter is_it (left_by subscription_sort before e xs) ≡ left_by subscription_sort before e (filter is_it xs)
  left_same before e [] = refl
  left_same before e (x ∷ xs) = by_tests (ends_subscription e x) (x.key == s) refl refl (left_same before e xs)
    where
      by_tests : (ended its : Bool) → ends_subscription e x ≡ ended → (x.key == s) ≡ its → filter is_it (left_by subscription_sort before e xs) ≡ left_by subscription_sort before e (filter is_it xs)
          → filter is_it (left_by subscription_sort before e (x ∷ xs)) ≡ left_by subscription_sort before e (filter is_it (x ∷ xs))
      by_tests true true is its later = rw (is, its, is) later
      by_tests true false is its later = rw (is, its) later
      by_tests false true is its later = rw (is, its, is, keys_stay e x, its) (ap (λ (l : List Subscription). task_by e x ∷ l) later)
      by_tests false false is its later = rw (is, its, keys_stay e x, its) later

  rows_more : (before : List Event) (e : Event) (xs : List Subscription) → filter is_it (standing_by subscription_sort before e xs) ≡ left_by subscription_sort before e (filter is_it xs) ++ filter is_it (begun_by (subscription_told e))
  rows_more before e xs = filter-append is_it (left_by subscription_sort before e xs) (begun_by (subscription_told e)) ∙ ap (λ (l : List Subscription). l ++ filter is_it (begun_by (subscription_told e))) (left_same before e xs)

  -- where it isn't there
  out_more : (before : List Event) (e : Event) (xs : List Subscription) → filter is_it xs ≡ [] → is_there s (map tells before) ≡ false → IsFound (map tells before ++ tells e ∷ []) (standing_by subscription_sort before e xs)
  out_more before e xs none out = by_event e (rows_more before e xs ∙ rw none refl)
    where
      by_event : (e : Event) → filter is_it (standing_by subscription_sort before e xs) ≡ filter is_it (begun_by (subscription_told e)) → IsFound (map tells before ++ tells e ∷ []) (standing_by subscription_sort before e xs)
      by_event (events.MessageSubscriptionCreated x) rows = by_test (x.subscription == s) refl
        where
          by_test : (t : Bool) → (x.subscription == s) ≡ t → IsFound (map tells before ++ tells (events.MessageSubscriptionCreated x) ∷ []) (standing_by subscription_sort before (events.MessageSubscriptionCreated x) xs)
          by_test true its =
              let asked : (s == x.subscription) ≡ true = turned s x.subscription ∙ its in
              let terms : terms_of s (map tells before ++ tells (events.MessageSubscriptionCreated x) ∷ []) ≡ Some (terms_in (subscription_of x)) = said_last_more (terms_told s) (map tells before) (tells (events.MessageSubscriptionCreated x)) ∙ rw asked refl in
              record {
                row = Some (subscription_of x);
                alone = rows ∙ rw its refl;
                its = eq_true x.subscription s its;
                tells = (
                  terms,
                  said_last_more (presence_told s x.cancel) (map tells before) (tells (events.MessageSubscriptionCreated x)) ∙ rw asked refl,
                  said_last_more (task_told s) (map tells before) (tells (events.MessageSubscriptionCreated x)) ∙ rw asked refl,
                );
              }
          by_test false other =
              let asked : (s == x.subscription) ≡ false = turned s x.subscription ∙ other in
              record { row = None; alone = rows ∙ rw other refl; its = refl; tells = still_out (map tells before) (tells (events.MessageSubscriptionCreated x)) (rw asked refl) out }
      by_event e rows = record { row = None; alone = rows; its = refl; tells = still_out (map tells before) (tells e) refl out }

  -- the one that stands is found
  found_alone : (xs : List Subscription) (row : Option Subscription) → filter is_it xs ≡ begun_by row → find is_it xs ≡ row
  found_alone [] None is = refl
  found_alone [] (Some r) is = absurd (cc)
  found_alone (x ∷ xs) row is = by_test (x.key == s) refl (found_alone xs row) is
    where
      by_test : (t : Bool) → (x.key == s) ≡ t → (filter is_it xs ≡ begun_by row → find is_it xs ≡ row) → (if t then x ∷ filter is_it xs else filter is_it xs) ≡ begun_by row → (if t then Some x else find is_it xs) ≡ row
      by_test true its later is = by_row row is
        where
          by_row : (row : Option Subscription) → x ∷ filter is_it xs ≡ begun_by row → Some x ≡ row
          by_row None is = absurd (cc)
          by_row (Some r) is = let same : x ≡ r = cc in ap Some same
      by_test false other later is = later is

  -- where it is there
  module _ (before : List Event) (r : Subscription) (alone : filter is_it (subscriptions before) ≡ r ∷ []) (key : r.key ≡ s) (its : Tells (map tells before) (Some r)) where
    abbrev told : List Telling
    told = map tells before

    abbrev after : Event → List Subscription
    after e = standing_by subscription_sort before e (subscriptions before)

    rows : (e : Event) → filter is_it (after e) ≡ left_by subscription_sort before e (r ∷ []) ++ filter is_it (begun_by (subscription_told e))
    rows e = rows_more before e (subscriptions before) ∙ ap (λ (l : List Subscription). left_by subscription_sort before e l ++ filter is_it (begun_by (subscription_told e))) alone

    stays : (e : Event) → filter is_it (after e) ≡ r ∷ [] → Tells (told ++ tells e ∷ []) (Some r) → IsFound (told ++ tells e ∷ []) (after e)
    stays e left tells = record { row = Some r; alone = left; its = key; tells = tells }

    gone : (e : Event) → filter is_it (after e) ≡ [] → is_there s (told ++ tells e ∷ []) ≡ false → IsFound (told ++ tells e ∷ []) (after e)
    gone e left out = record { row = None; alone = left; its = refl; tells = out }

    with_other : (e : Event) (task : Option ℕ) → filter is_it (after e) ≡ with_task task r ∷ [] → Tells (told ++ tells e ∷ []) (Some (with_task task r)) → IsFound (told ++ tells e ∷ []) (after e)
    with_other e task left tells = record { row = Some (with_task task r); alone = left; its = key; tells = tells }

    in_more : (e : Event) → opens_new before e ≡ true → IsFound (told ++ tells e ∷ []) (after e)
    in_more (events.MessageSubscriptionCreated x) new = by_test (x.subscription == s) refl
      where
        by_test : (t : Bool) → (x.subscription == s) ≡ t → IsFound (told ++ tells (events.MessageSubscriptionCreated x) ∷ []) (after (events.MessageSubscriptionCreated x))
        by_test true its =
            let there : find is_it (subscriptions before) ≡ Some r = found_alone (subscriptions before) (Some r) alone in
            let one : x.subscription ≡ s = eq_true x.subscription s its in
            let same : is_subscribed x.subscription before ≡ true = ap (λ (k : ℕ). is_subscribed k before) one ∙ rw there refl in
            absurd (cc (new, same))
        by_test false other =
            let asked : (s == x.subscription) ≡ false = turned s x.subscription ∙ other in
            stays (events.MessageSubscriptionCreated x) (rows (events.MessageSubscriptionCreated x) ∙ rw other refl) (still told (tells (events.MessageSubscriptionCreated x)) (Some r) (rw asked refl) (λ c. rw asked refl) (rw asked refl) its)
    in_more (events.MessageSubscriptionRejected x) new = by_test (s == x.subscription) refl
      where
        by_test : (t : Bool) → (s == x.subscription) ≡ t → IsFound (told ++ tells (events.MessageSubscriptionRejected x) ∷ []) (after (events.MessageSubscriptionRejected x))
        by_test true asked = gone (events.MessageSubscriptionRejected x) (rows (events.MessageSubscriptionRejected x) ∙ rw (key, asked) refl) (goes told (tells (events.MessageSubscriptionRejected x)) r refl (rw asked refl) its)
        by_test false asked = stays (events.MessageSubscriptionRejected x) (rows (events.MessageSubscriptionRejected x) ∙ rw (key, asked) refl) (still told (tells (events.MessageSubscriptionRejected x)) (Some r) refl (λ c. rw asked refl) (rw asked refl) its)
    in_more (events.MessageSubscriptionDeleted x) new = by_test (s == x) refl
      where
        by_test : (t : Bool) → (s == x) ≡ t → IsFound (told ++ tells (events.MessageSubscriptionDeleted x) ∷ []) (after (events.MessageSubscriptionDeleted x))
        by_test true asked = gone (events.MessageSubscriptionDeleted x) (rows (events.MessageSubscriptionDeleted x) ∙ rw (key, asked) refl) (goes told (tells (events.MessageSubscriptionDeleted x)) r refl (rw asked refl) its)
        by_test false asked = stays (events.MessageSubscriptionDeleted x) (rows (events.MessageSubscriptionDeleted x) ∙ rw (key, asked) refl) (still told (tells (events.MessageSubscriptionDeleted x)) (Some r) refl (λ c. rw asked refl) refl its)
    in_more (events.MessageSubscriptionCorrelating x) new = by_test (s == x.subscription) refl
      where
        by_test : (t : Bool) → (s == x.subscription) ≡ t → IsFound (told ++ tells (events.MessageSubscriptionCorrelating x) ∷ []) (after (events.MessageSubscriptionCorrelating x))
        by_test true asked = with_other (events.MessageSubscriptionCorrelating x) (Some x.message) (rows (events.MessageSubscriptionCorrelating x) ∙ rw (key, asked) refl) (changes told (tells (events.MessageSubscriptionCorrelating x)) r (Some x.message) refl refl (rw asked refl) its)
        by_test false asked = stays (events.MessageSubscriptionCorrelating x) (rows (events.MessageSubscriptionCorrelating x) ∙ rw (key, asked) refl) (still told (tells (events.MessageSubscriptionCorrelating x)) (Some r) refl (λ c. refl) (rw asked refl) its)
    in_more (events.MessageSubscriptionCorrelated x) new = by_tests (s == x.subscription) r.cancel refl refl
      where
        kept : (c : Bool) → (s == x.subscription) ≡ false → presence_told s c (tells (events.MessageSubscriptionCorrelated x)) ≡ None
        kept true asked = rw asked refl
        kept false asked = refl

        by_tests : (t cancel : Bool) → (s == x.subscription) ≡ t → r.cancel ≡ cancel → IsFound (told ++ tells (events.MessageSubscriptionCorrelated x) ∷ []) (after (events.MessageSubscriptionCorrelated x))
        by_tests true true asked ends = gone (events.MessageSubscriptionCorrelated x) (rows (events.MessageSubscriptionCorrelated x) ∙ rw (key, asked, ends) refl) (goes told (tells (events.MessageSubscriptionCorrelated x)) r refl (rw (ends, asked) refl) its)
        by_tests true false asked lasts = with_other (events.MessageSubscriptionCorrelated x) None (rows (events.MessageSubscriptionCorrelated x) ∙ rw (key, asked, lasts, asked) refl) (changes told (tells (events.MessageSubscriptionCorrelated x)) r None refl (rw lasts refl) (rw asked refl) its)
        by_tests false cancel asked is = stays (events.MessageSubscriptionCorrelated x) (rows (events.MessageSubscriptionCorrelated x) ∙ rw (key, asked, asked) refl) (still told (tells (events.MessageSubscriptionCorrelated x)) (Some r) refl (λ c. kept c asked) (rw asked refl) its)
    in_more e new = stays e (rows e) (still told (tells e) (Some r) refl (λ c. refl) refl its)

  -- so it is behind all events
  more : (before : List Event) (e : Event) → opens_new before e ≡ true → IsFound (map tells before) (subscriptions before) → IsFound (map tells before ++ tells e ∷ []) (standing_by subscription_sort before e (subscriptions before))
  more before e new f = by_row f.row f.alone f.its f.tells
    where
      by_row : (row : Option Subscription) → filter is_it (subscriptions before) ≡ begun_by row → option_map_or (λ r. r.key) row s ≡ s → Tells (map tells before) row → IsFound (map tells before ++ tells e ∷ []) (standing_by subscription_sort before e (subscriptions before))
      by_row None alone key tells = out_more before e (subscriptions before) alone tells
      by_row (Some r) alone key tells = in_more before r alone key tells e new

  found_in : (es : List Event) → IsTrue (all_open_new [] es) → IsFound (map tells es) (subscriptions es)
  found_in es fit = on [] es fit (record { row = None; alone = refl; its = refl; tells = refl })
    where
      on : (before after : List Event) → IsTrue (all_open_new before after) → IsFound (map tells before) (subscriptions before) → IsFound (map tells (before ++ after)) (subscriptions (before ++ after))
      on before [] fit f = rw (append-nil before) f
      on before (e ∷ after) fit f =
          let both = and_parts (opens_new before e) (all_open_new (before ++ e ∷ []) after) fit in
          let next : IsFound (map tells (before ++ e ∷ [])) (subscriptions (before ++ e ∷ [])) = rw (map-append tells before (e ∷ []), standing_more subscription_sort before e) (more before e both.0 f) in
          subst (λ (l : List Event). IsFound (map tells l) (subscriptions l)) (append_assoc before (e ∷ []) after) (on (before ++ e ∷ []) after both.1 next)

  -- a subscription is there, and correlates what it does, as its events tell
  pub there_same : (es : List Event) → IsTrue (all_open_new [] es) → is_there s (map tells es) ≡ is_subscribed s es
  there_same es fit = let f = found_in es fit in rw (found_alone (subscriptions es) f.row f.alone) (by_row f.row f.tells)
    where
      by_row : (row : Option Subscription) → Tells (map tells es) row → is_there s (map tells es) ≡ is_some row
      by_row None is = is
      by_row (Some r) is = rw (is.0, is.1) refl

  pub task_same : (es : List Event) → IsTrue (all_open_new [] es) → task_of s (map tells es) ≡ option_and_then (λ r. r.correlating) (subscription_at s es)
  task_same es fit = let f = found_in es fit in rw (found_alone (subscriptions es) f.row f.alone) (by_row f.row f.tells)
    where
      by_row : (row : Option Subscription) → Tells (map tells es) row → task_of s (map tells es) ≡ option_and_then (λ r. r.correlating) row
      by_row None is = rw is refl
      by_row (Some r) is = rw (is.0, is.1, is.2) refl

  -- and has the terms of the one that is there
  pub terms_there : (es : List Event) → IsTrue (all_open_new [] es) → (r : Subscription) → subscription_at s es ≡ Some r → terms_of s (map tells es) ≡ Some (terms_in r)
  terms_there es fit r at = let f = found_in es fit in by_row f.row f.tells (sym (found_alone (subscriptions es) f.row f.alone) ∙ at)
    where
      by_row : (row : Option Subscription) → Tells (map tells es) row → row ≡ Some r → terms_of s (map tells es) ≡ Some (terms_in r)
      by_row None is same = absurd (cc)
      by_row (Some x) is same = let one : x ≡ r = cc in is.0 ∙ ap (λ (y : Subscription). Some (terms_in y)) one
