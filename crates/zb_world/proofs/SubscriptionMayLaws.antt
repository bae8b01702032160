-- What events of subscriptions may tell behind events that apply.
use Rattle.std.proofs.Common.{◌≡◌, ℕ, ◌==◌, not, List, [], ◌∷◌, ◌++◌, map, is_some, Bool, true, false, if◌then◌else◌, IsTrue, Option, Some, None, option_and_then, Contains, refl, ap, ◌∙◌, subst, arith}
use Rattle.std.specs.List.{list_any}
use Rattle.std.specs.Option.{option_map_or}
use Rattle.std.proofs.lemmas.Bool.{and_parts, not-true}
use Rattle.std.proofs.lemmas.Bool.Decides.{nat_tests}
use Rattle.zb_exchange_records.specs.declared.message.MessagePublished.{MessagePublished}
use Rattle.zb_exchange_records.specs.declared.subscription.MessageCorrelation.{MessageCorrelation}
use Rattle.zb_exchange_records.specs.declared.subscription.MessageSubscriptionDelete.{MessageSubscriptionDelete}
use Rattle.zb_model.specs.declared.record.Event.{Event}
use Rattle.zb_model.specs.declared.record.Event.TheVariants as events
use Rattle.zb_views.specs.Messages.{buffered, message_at}
use Rattle.zb_views.specs.Subscriptions.{subscription_at, is_subscribed, is_locked_for, wants_messages, is_idle_for, opens_new, all_open_new}
use Rattle.zb_views.specs.declared.subscription.Subscription.{Subscription}
use Rattle.zb_rules.specs.Applies.{holds_own, holds_of_game, may_fit, applies, all_apply}
use Rattle.zb_rules.specs.Correlate.{fits_message, begins_correlating, is_correlating}
use Rattle.zb_rules.specs.Shown.{shown}
use Rattle.zb_rules.specs.Subscribe.{unkept_message}
use Rattle.zb_once.specs.May.{MayBegin}
use Rattle.zb_once.specs.Views.{task_of}
use Rattle.zb_once.proofs.ListLemmas.{has_passed}
use Rattle.zb_once.proofs.ViewLaws.{eq_true}
use Rattle.zb_world.specs.Tellings.{tells}
use Rattle.zb_world.proofs.FreshLaws.{keyed, any_found, buffered_same}
use Rattle.zb_world.proofs.MessageViewLaws.{locks_same}
use Rattle.zb_world.proofs.SubscriptionViewLaws.{terms_in, there_same, task_same, terms_there}

-- of an event that applies its own condition holds
pub own_holds : (p : ℕ) (before : List Event) (e : Event) → IsTrue (applies p before e) → holds_own p before e ≡ true
own_holds p before e is = (and_parts (holds_own p before e) (holds_of_game (may_fit (shown before e)) before) is).0

-- so it opens no subscription that is there
new_one : (p : ℕ) (before : List Event) (e : Event) → holds_own p before e ≡ true → opens_new before e ≡ true
new_one p before (events.MessageSubscriptionCreated s) own = own
new_one p before e own = refl

-- and none of some that apply does
all_new : (p : ℕ) (before es : List Event) → IsTrue (all_apply p before es) → IsTrue (all_open_new before es)
all_new p before [] apply = refl
all_new p before (e ∷ es) apply =
    let r = and_parts (applies p before e) (all_apply p (before ++ e ∷ []) es) apply in
    rw (new_one p before e (own_holds p before e r.0)) (all_new p (before ++ e ∷ []) es r.1)

-- what a deletion gives up isn't among its keys
pub given_up_unkept : (c : MessageSubscriptionDelete) (es : List Event) (m : ℕ) → unkept_message c es ≡ Some m → Contains c.keys m → ⊥
given_up_unkept c es m is among = by_found (subscription_at c.subscription es) is
  where
    by_test : (x : ℕ) (t : Bool) → list_any (λ key. key == x) c.keys ≡ t → ◌≡◌ {A = Option ℕ} (if t then None else Some x) (Some m) → ⊥
    by_test x true kept is = absurd (cc)
    by_test x false unkept is =
        let same : x ≡ m = cc in
        let passes : (m == x) ≡ true = grind (arith, nat_tests, same) in
        let kept = has_passed (λ (key : ℕ). key == x) c.keys m among passes in
        absurd (cc (unkept, kept))

    by_task : (task : Option ℕ) → option_and_then (λ (x : ℕ). if list_any (λ key. key == x) c.keys then None else Some x) task ≡ Some m → ⊥
    by_task None is = absurd (cc)
    by_task (Some x) is = by_test x (list_any (λ key. key == x) c.keys) refl is

    by_found : (found : Option Subscription) → option_and_then (λ (s : Subscription). option_and_then (λ (x : ℕ). if list_any (λ key. key == x) c.keys then None else Some x) s.correlating) found ≡ Some m → ⊥
    by_found None is = absurd (cc)
    by_found (Some s) is = by_task s.correlating is

module _ (p : ℕ) (es : List Event) (apply : IsTrue (all_apply p [] es)) where
  -- the message that a subscription is correlating
  task_known : (s : ℕ) → task_of s (map tells es) ≡ option_and_then (λ r. r.correlating) (subscription_at s es)
  task_known s = task_same s es (all_new p [] es apply)

  -- none, where it isn't there
  pub no_task : (s : ℕ) → is_subscribed s es ≡ false → task_of s (map tells es) ≡ None
  no_task s out = task_known s ∙ by_found (subscription_at s es) out
    where
      by_found : (found : Option Subscription) → is_some found ≡ false → option_and_then (λ (r : Subscription). r.correlating) found ≡ None
      by_found None out = refl
      by_found (Some r) out = absurd (cc)

  -- and this one, where it is that
  pub has_task : (s m : ℕ) → is_correlating s m es ≡ true → task_of s (map tells es) ≡ Some m
  has_task s m is = task_known s ∙ by_found (subscription_at s es) is
    where
      by_task : (task : Option ℕ) → option_map_or (λ (x : ℕ). x == m) task false ≡ true → task ≡ Some m
      by_task None is = absurd (cc)
      by_task (Some x) is = ap Some (eq_true x m is)

      by_found : (found : Option Subscription) → option_map_or (λ (r : Subscription). option_map_or (λ (x : ℕ). x == m) r.correlating false) found false ≡ true → option_and_then (λ (r : Subscription). r.correlating) found ≡ Some m
      by_found None is = absurd (cc)
      by_found (Some r) is = by_task r.correlating is

  -- a subscription that begins to correlate a message may
  pub may_begin : (e : MessageCorrelation) → begins_correlating e es ≡ true → MayBegin (map tells es) e.subscription e.message
  may_begin e begins = by_subscription (subscription_at e.subscription es) refl begins
    where
      new : IsTrue (all_open_new [] es)
      new = all_new p [] es apply

      none_of : (task : Option ℕ) → not (is_some task) ≡ true → task ≡ None
      none_of None idle = refl
      none_of (Some x) idle = absurd (cc)

      by_message : (s : Subscription) → subscription_at e.subscription es ≡ Some s → (found : Option MessagePublished) → message_at e.message es ≡ found → option_map_or (λ (m : MessagePublished). fits_message m s es) found false ≡ true
          → MayBegin (map tells es) e.subscription e.message
      by_message s there None at fits = absurd (cc)
      by_message s there (Some m) at fits =
          let both = and_parts (is_idle_for m.name m.correlation_key s) (not (is_locked_for m.key s.process es)) fits in
          let idle = (and_parts (wants_messages m.name m.correlation_key s) (not (is_some s.correlating)) both.0).1 in
          let key : m.key ≡ e.message = keyed e.message (buffered es) m at in
          let free : is_locked_for m.key s.process es ≡ false = not-true (is_locked_for m.key s.process es) both.1 in (
            terms_in s,
            terms_there e.subscription es new s there,
            there_same e.subscription es new ∙ rw there refl,
            task_known e.subscription ∙ rw there (none_of s.correlating idle),
            buffered_same e.message es ∙ any_found e.message (buffered es) m at,
            locks_same e.message s.process es ∙ subst (λ (k : ℕ). is_locked_for k s.process es ≡ false) key free,
          )

      by_subscription : (found : Option Subscription) → subscription_at e.subscription es ≡ found → option_map_or (λ (s : Subscription). option_map_or (λ (m : MessagePublished). fits_message m s es) (message_at e.message es) false) found false ≡ true
          → MayBegin (map tells es) e.subscription e.message
      by_subscription None there begins = absurd (cc)
      by_subscription (Some s) there begins = by_message s there (message_at e.message es) refl begins
