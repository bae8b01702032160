-- The own events of what partitions ask of the home of messages.
use Rattle.std.proofs.Common.{◌≡◌, ℕ, ◌==◌, List, [], ◌∷◌, ◌++◌, if◌then◌else◌, IsFalse, Option, Some, None, option_map, refl, sym, ap, subst, ◌∙◌}
use Rattle.std.specs.Option.{option_map_or, option_and_then}
use Rattle.std.specs.List.{list_any}
use Rattle.zb_exchange_records.specs.declared.subscription.MessageSubscription.{MessageSubscription}
use Rattle.zb_exchange_records.specs.declared.subscription.MessageSubscriptionDelete.{MessageSubscriptionDelete}
use Rattle.zb_exchange_records.specs.declared.subscription.SubscribedMessage.{SubscribedMessage}
use Rattle.zb_model.specs.declared.record.Event.{Event}
use Rattle.zb_model.specs.declared.record.Event.TheVariants as events
use Rattle.zb_exchange_records.specs.declared.message.MessagePublished.{MessagePublished}
use Rattle.zb_views.specs.Messages.{message_at}
use Rattle.zb_views.specs.declared.subscription.Subscription.{Subscription}
use Rattle.zb_views.specs.Subscriptions.{subscription_at, opened_told, opened_in}
use Rattle.zb_views.proofs.ToldLaws.{last_told_more}
use Rattle.zb_rules.specs.Applies.{all_apply}
use Rattle.zb_rules.specs.Correlate.{correlating_event, next_subscription, passed_to}
use Rattle.zb_rules.specs.Making.{just, and_then}
use Rattle.zb_rules.specs.Subscribe.{turned_away, unkept_message, deleted_with, unsubscribed}
use Rattle.zb_state.specs.State.{IsStateOf}
use Rattle.zb_state.specs.declared.facts.Facts.{Facts}
use Rattle.zb_state.proofs.SubscriptionLemmas.{opened_process}
use Rattle.zb_step.specs.declared.correlate.PassedTo.{PassedTo}
use Rattle.zb_step.specs.Passing.{is_given_up}

-- a message passes to the process for which its subscription was opened
passes_to : (message : ℕ) (process : List ℕ) (before : List Event) (found : Option MessageSubscription) → option_map (λ (o : MessageSubscription). o.process) found ≡ Some process
    → passed_to message process before ≡ option_map_or (λ (o : MessageSubscription). passed_to message o.process before) found []
passes_to message process before None is = absurd (cc)
passes_to message process before (Some o) is = let same : o.process ≡ process = cc in ap (λ (p : List ℕ). passed_to message p before) (sym same)

-- with what a subscription was opened stays so behind what opens none
still_opened : (key : ℕ) (es : List Event) (e : Event) (process : List ℕ) → opened_told key e ≡ None → option_map (λ (o : MessageSubscription). o.process) (opened_in key es) ≡ Some process
    → option_map (λ (o : MessageSubscription). o.process) (opened_in key (es ++ e ∷ [])) ≡ Some process
still_opened key es e process none is = ap (option_map (λ (o : MessageSubscription). o.process)) (last_told_more (opened_told key) es e ∙ rw none refl) ∙ is

-- a message that was turned away passes on
pub turned_as : (es : List Event) (c : SubscribedMessage) (process : List ℕ) → option_map (λ (o : MessageSubscription). o.process) (opened_in c.subscription es) ≡ Some process
    → and_then (just (events.MessageSubscriptionRejected c)) (passed_to c.message process) es ≡ turned_away c es
turned_as es c process opened =
    let e = events.MessageSubscriptionRejected c in
    ap (λ (l : List Event). e ∷ l) (passes_to c.message process (es ++ e ∷ []) (opened_in c.subscription (es ++ e ∷ [])) (still_opened c.subscription es e process refl opened))

-- where no subscription has the key it isn't
pub turned_none : (p : ℕ) (es : List Event) (c : SubscribedMessage) → subscription_at c.subscription es ≡ None → IsFalse (all_apply p es (turned_away c es))
turned_none p es c none = rw none refl

-- a subscription is deleted, and what it gives up passes on
pub deleted_as : (es : List Event) (c : MessageSubscriptionDelete) (next : PassedTo) → is_given_up (Some next) c es
    → and_then (just (events.MessageSubscriptionRejected (record { subscription = c.subscription; message = next.message }))) (and_then (just (events.MessageSubscriptionDeleted c.subscription)) (passed_to next.message next.process)) es ≡ unsubscribed c es
deleted_as es c next (unkept, opened) =
    let e = events.MessageSubscriptionRejected (record { subscription = c.subscription; message = next.message }) in
    let d = events.MessageSubscriptionDeleted c.subscription in
    let over = es ++ e ∷ [] in
    let first = still_opened c.subscription es e next.process refl opened in
    ap (λ (l : List Event). e ∷ d ∷ l) (passes_to next.message next.process (over ++ d ∷ []) (opened_in c.subscription (over ++ d ∷ [])) (still_opened c.subscription over d next.process refl first))
    ∙ ap (λ (o : Option ℕ). option_map_or (λ (m : ℕ). deleted_with c.subscription m es) o (d ∷ [])) (sym unkept)

-- one that gives nothing up is deleted
pub deleted_alone : (es : List Event) (c : MessageSubscriptionDelete) → is_given_up None c es → events.MessageSubscriptionDeleted c.subscription ∷ [] ≡ unsubscribed c es
deleted_alone es c none = ap (λ (o : Option ℕ). option_map_or (λ (m : ℕ). deleted_with c.subscription m es) o (events.MessageSubscriptionDeleted c.subscription ∷ [])) (sym none)

-- a message passes to the next subscription of a process
pub passed_is : (es : List Event) (message : ℕ) (process : List ℕ) (m : MessagePublished) (s : Subscription) (event : Option Event) → Some m ≡ message_at message es → Some s ≡ next_subscription m process es → event ≡ Some (correlating_event m s)
    → passed_to message process es ≡ option_map_or (λ (e : Event). e ∷ []) event []
passed_is es message process m s event waits next is =
    ap (λ (o : Option MessagePublished). option_map_or (λ (x : MessagePublished). option_map_or (λ (y : Subscription). correlating_event x y ∷ []) (next_subscription x process es) []) o []) (sym waits)
    ∙ (ap (λ (o : Option Subscription). option_map_or (λ (y : Subscription). correlating_event m y ∷ []) o []) (sym next)
    ∙ ap (λ (o : Option Event). option_map_or (λ (e : Event). e ∷ []) o []) (sym is))

-- what a subscription gives up as it is deleted
pub given_up_as : (es : List Event) (facts : Facts) → IsStateOf es facts → (c : MessageSubscriptionDelete) (s : Subscription) (m : ℕ) (next : Option PassedTo) → Some s ≡ subscription_at c.subscription es
    → Some m ≡ option_and_then (λ (x : ℕ). if list_any (λ key. key == x) c.keys then None else Some x) s.correlating → next ≡ Some (record { message = m; process = s.process }) → is_given_up next c es
given_up_as es facts is c s m next found unkept passes =
    let given : unkept_message c es ≡ Some m = ap (λ (o : Option Subscription). option_and_then (λ (x : Subscription). option_and_then (λ (y : ℕ). if list_any (λ key. key == y) c.keys then None else Some y) x.correlating) o) (sym found) ∙ sym unkept in
    subst (λ (n : Option PassedTo). is_given_up n c es) (sym passes) (given, opened_process es facts is c.subscription s (sym found))

pub none_given_up : (es : List Event) (c : MessageSubscriptionDelete) (s : Subscription) → Some s ≡ subscription_at c.subscription es
    → None ≡ option_and_then (λ (x : ℕ). if list_any (λ key. key == x) c.keys then None else Some x) s.correlating → unkept_message c es ≡ None
none_given_up es c s found unkept =
    ap (λ (o : Option Subscription). option_and_then (λ (x : Subscription). option_and_then (λ (y : ℕ). if list_any (λ key. key == y) c.keys then None else Some y) x.correlating) o) (sym found) ∙ sym unkept
