-- What an element instance makes of a message that it is given.
use Rattle.std.proofs.Common.{◌≡◌, ℕ, List, [], ◌∷◌, Option, Some, None, option_map, refl, sym, ap, ◌∙◌, subst}
use Rattle.std.specs.Option.{option_map_or}
use Rattle.zb_base.specs.declared.vars.Variable.{Variable}
use Rattle.zb_exchange_records.specs.declared.subscription.MessageCorrelation.{MessageCorrelation}
use Rattle.zb_model.specs.declared.record.Event.{Event}
use Rattle.zb_model.specs.declared.record.Event.TheVariants as events
use Rattle.zb_views.specs.declared.process_subscription.ProcessSubscription.{ProcessSubscription}
use Rattle.zb_views.specs.ProcessSubscriptions.{process_subscription_at}
use Rattle.zb_tokens.specs.declared.board.Assignments.{Assignments}
use Rattle.zb_rules.specs.Behind.{with_events_behind}
use Rattle.zb_rules.specs.InFront.{assigning}
use Rattle.zb_rules.specs.Making.{Making, just, and_then}
use Rattle.zb_rules.specs.Receive.{closed_after, brought, event_of_subscription, receive_events, received}
use Rattle.zb_rules.specs.Update.{set_each}
use Rattle.zb_follow.specs.declared.assigning.Place.{Place}

-- variables with their place
abbrev placed : List Variable → Place → Assignments
placed vs place = record { scope = place.scope; local = place.local; variables = vs }

-- they are set there, if there is one
abbrev pub sets : List Variable → Option Place → Making
sets vs place before = option_map_or (λ at. set_each at.local at.scope vs before) place []

set_there : (vs : List Variable) (place : Option Place) (before : List Event) → assigning (option_map (placed vs) place) before ≡ sets vs place before
set_there vs None before = refl
set_there vs (Some at) before = refl

-- the subscription is given the message
abbrev pub given : MessageCorrelation → Event
given c = events.ProcessMessageSubscriptionCorrelated (record { subscription = c.subscription; message = c.message })

-- what is put is what the rules say
pub received_as : (p moment : ℕ) (es : List Event) (c : MessageCorrelation) (s : ProcessSubscription) (place : Option Place) (event : Event) (vs : List Variable)
    → process_subscription_at c.subscription es ≡ Some s → brought vs s es ≡ option_map (placed vs) place → event ≡ event_of_subscription s → vs ≡ c.variables
    → and_then (just (given c)) (and_then (closed_after c.subscription) (and_then (sets vs place) (with_events_behind p moment event))) es ≡ received p moment c es
received_as p moment es c s place event vs at brings is are =
    let all : Making → Event → List Event = λ set happens. and_then (just (given c)) (and_then (closed_after c.subscription) (and_then set (with_events_behind p moment happens))) es in
    let set : sets vs place ≡ assigning (brought vs s es) = λ i before. sym (ap (λ (o : Option Assignments). assigning o before) brings ∙ set_there vs place before) i in
    let whole : all (sets vs place) event ≡ receive_events p moment c s es = ap (λ (m : Making). all m event) set ∙ (ap (all (assigning (brought vs s es))) is ∙ ap (λ (l : List Variable). all (assigning (brought l s es)) (event_of_subscription s)) are) in
    whole ∙ sym (ap (λ (o : Option ProcessSubscription). option_map_or (λ x. receive_events p moment c x es) o []) at)
