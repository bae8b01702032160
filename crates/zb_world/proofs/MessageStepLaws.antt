-- A step is a message step: a command may define a process, publish a message or have one expire, open a subscription or delete it, and say of a message that it was kept or turned away; and at the partition of an element instance it may give it a message, and say that its subscription is there or gone.
use Rattle.std.proofs.Common.{◌≡◌, ◌≤◌, ◌<◌, ℕ, ◌+◌, ◌-◌, ◌^◌, ◌==◌, List, [], ◌∷◌, ◌++◌, map, ◌&&◌, not, option_map, Bool, true, false, ◌||◌, if◌then◌else◌, IsTrue, Contains, Option, Some, None, refl, inl, inr, ap, sym, ◌∙◌, subst, append-nil, append_assoc, arith}
use Rattle.std.specs.List.{list_any, range_with_len}
use Rattle.std.specs.Option.{option_or, option_map_or}
use Rattle.std.proofs.lemmas.Bool.{and_parts, not-true, or_from}
use Rattle.std.proofs.lemmas.Bool.Decides.{nat_tests}
use Rattle.std.proofs.lemmas.List.{map-append}
use Rattle.std.proofs.lemmas.List.Elements.{Contains-append_right}
use Rattle.std.proofs.lemmas.List.Folds.{list_any-append}
use Rattle.zb_process.specs.declared.model.Model.{Model}
use Rattle.zb_instance_records.specs.declared.deployment.ProcessDefinition.{ProcessDefinition}
use Rattle.zb_exchange_records.specs.declared.message.MessagePublished.{MessagePublished}
use Rattle.zb_exchange_records.specs.declared.subscription.MessageCorrelation.{MessageCorrelation}
use Rattle.zb_exchange_records.specs.declared.subscription.MessageStartEventSubscriptionCorrelated.{MessageStartEventSubscriptionCorrelated}
use Rattle.zb_exchange_records.specs.declared.subscription.MessageSubscription.{MessageSubscription}
use Rattle.zb_exchange_records.specs.declared.subscription.MessageSubscriptionDelete.{MessageSubscriptionDelete}
use Rattle.zb_exchange_records.specs.declared.subscription.SubscribedMessage.{SubscribedMessage}
use Rattle.zb_model.specs.declared.record.Batch.{Batch}
use Rattle.zb_model.specs.declared.record.Command.{Command}
use Rattle.zb_model.specs.declared.record.Command.TheVariants as commands
use Rattle.zb_model.specs.declared.record.Event.{Event}
use Rattle.zb_model.specs.declared.record.Event.TheVariants as events
use Rattle.zb_model.specs.declared.record.Outcome.{Outcome}
use Rattle.zb_model.specs.declared.record.Outcome.TheVariants as outcomes
use Rattle.zb_model.specs.declared.record.Rejection.{Rejection}
use Rattle.zb_views.specs.View.{events_in, events_of, keys_in, greatest_counter, next_key}
use Rattle.zb_views.proofs.ViewLaws.{greatest_counter_more}
use Rattle.zb_views.specs.declared.definition.Definition.{Definition}
use Rattle.zb_views.specs.Definitions.{definitions, definition_told, greatest_version}
use Rattle.zb_views.specs.Messages.{buffered, is_buffered, message_at}
use Rattle.zb_views.specs.Processes.{process_in}
use Rattle.zb_views.specs.Subscriptions.{subscription_at, is_subscribed, opened_in, is_locked_for}
use Rattle.zb_views.specs.declared.subscription.Subscription.{Subscription}
use Rattle.zb_views.specs.ProcessSubscriptions.{process_subscriptions, process_subscription_at, is_being_deleted, has_kept}
use Rattle.zb_views.specs.declared.process_subscription.ProcessSubscription.{ProcessSubscription}
use Rattle.zb_views.specs.declared.process_subscription.WaitPhase.{WaitPhase}
use Rattle.zb_views.specs.declared.process_subscription.WaitPhase.TheVariants as wait_phases
use Rattle.zb_rules.specs.Starts.{may_start}
use Rattle.zb_rules.specs.Applies.{is_fresh, begins_start, has_definition, holds_own, applies, all_apply}
use Rattle.zb_rules.specs.Correlate.{correlating_event, next_message, next_correlated, next_subscription, passed_on}
use Rattle.zb_rules.specs.Deploy.{reason_to_deploy, sent_to, deployed, version_behind}
use Rattle.zb_rules.specs.Distribute.{reason_to_turn_back, reason_to_distribute, distributed}
use Rattle.zb_rules.specs.Kinds.{comes_beside, may_follow, Carries, AllCarry}
use Rattle.zb_rules.specs.Own.{own_events}
use Rattle.zb_rules.specs.Reason.{reason_for}
use Rattle.zb_rules.specs.Step.{IsAcceptance, IsOutcomeBy, IsOutcomeOf, IsStep, AreStepsOn}
use Rattle.zb_rules.specs.Behind.{closing_of, with_events_behind}
use Rattle.zb_rules.specs.InFront.{assigning}
use Rattle.zb_rules.specs.Making.{and_then}
use Rattle.zb_rules.specs.Receive.{subscription_in_wrong_state, waits_for_message, reason_to_pass_over, reason_to_receive, forgotten, closed_after, brought, event_of_subscription, receive_events, received}
use Rattle.zb_rules.specs.Shown.{holds_of_game}
use Rattle.zb_rules.specs.Trigger.{cell_not_waiting}
use Rattle.zb_rules.specs.WaitEvents.{is_open}
use Rattle.zb_rules.specs.Subscribe.{unknown_subscription, opened, taken, turned_away, unkept_message, deleted_with, unsubscribed}
use Rattle.zb_rules.proofs.KeysLaws.{fresh_is}
use Rattle.zb_rules.proofs.KindsLaws.{EachOf, Sets, Follows, kinds_in, from_weaker, listed_by, step_kind, rest_follows, command_told, closings_of_run, closings_of_steps, then_makes, assigning_makes, variable_beside, beside_follows, with_behind}
use Rattle.zb_rules.proofs.ReceiveLaws.{none_against, tests_hold}
use Rattle.zb_rules.proofs.MadeLaws.{made_of_any}
use Rattle.zb_rules.proofs.StepLaws.{all_apply_more}
use Rattle.zb_record.specs.Answers.{no_subscription, was_correlated, being_deleted}
use Rattle.zb_once.proofs.ListLemmas.{nothing_in, the_one, here_in, first_or_later, map_out, has_passed, passing}
use Rattle.zb_once.proofs.ViewLaws.{text_refl, deleted_out, eq_true, eq_refl}
use Rattle.zb_once.specs.Tellings.{Terms, Telling, Asking, Refusal, home}
use Rattle.zb_once.specs.Tellings.Refusal.{NoSubscription, WasCorrelated, BeingDeleted, AnyOther}
use Rattle.zb_once.specs.Tellings.Telling.{Defined, Published, Opens, Kept, Closing}
use Rattle.zb_once.specs.Tellings.Asking.{Distribute, Create, IsCreated, Correlate, WasKept, Reject, Delete, IsDeleted}
use Rattle.zb_once.specs.Views.{defined_process, terms_told, is_there, task_of, still_buffered, is_locked}
use Rattle.zb_world.proofs.MessageViewLaws.{process_of, process_same, locks_same}
use Rattle.zb_tokens.specs.declared.board.Assignments.{Assignments}
use Rattle.zb_tokens.proofs.GameLaws.{both_right, found_passes}
use Rattle.zb_once.specs.May.{May, EachMay, replies_to, MayAnswer, IsMessageStep}
use Rattle.zb_world.specs.Entries.{IsPartitionOf}
use Rattle.zb_world.specs.Tellings.{terms_from, tells, asks, turned_away_by, refusal_by}
use Rattle.zb_world.proofs.AppliedStepLaws.{outcome_applies, steps_apply}
use Rattle.zb_world.proofs.FreshLaws.{unnamed, drawn_home, keyed, any_found, buffered_same}
use Rattle.zb_world.proofs.SubscriptionMayLaws.{own_holds, given_up_unkept, no_task, has_task, may_begin}
use Rattle.zb_world.proofs.WaitViewLaws.{terms_with, Shows, IsToldOf, nowhere_told, waiting_told}
use Rattle.zb_world.proofs.SubscriptionViewLaws.{still_out}

-- the event makes a definition, or does to a subscription what is asked
abbrev makes : Event → Bool
makes (events.ProcessCreated e) = true
makes (events.MessageSubscriptionCreated e) = true
makes (events.MessageSubscriptionCorrelated e) = true
makes (events.MessageSubscriptionRejected e) = true
makes (events.MessageSubscriptionDeleted key) = true
makes (events.ProcessMessageSubscriptionCorrelated e) = true
makes (events.ProcessMessageSubscriptionDeleted key) = true
makes e = false

-- what may follow does neither
follows_make_none : (es : List Event) → EachOf may_follow es → list_any makes es ≡ false
follows_make_none [] follows = refl
follows_make_none (e ∷ es) follows = or_from (makes e) (list_any makes es) (by_event e follows.0) (follows_make_none es follows.1)
  where
    by_event : (e : Event) → IsTrue (may_follow e) → makes e ≡ false
    by_event (events.ProcessCreated e) follows = absurd (cc)
    by_event (events.MessageSubscriptionCreated e) follows = absurd (cc)
    by_event (events.MessageSubscriptionCorrelated e) follows = absurd (cc)
    by_event (events.MessageSubscriptionRejected e) follows = absurd (cc)
    by_event (events.MessageSubscriptionDeleted key) follows = absurd (cc)
    by_event (events.ProcessMessageSubscriptionCorrelated e) follows = absurd (cc)
    by_event (events.ProcessMessageSubscriptionDeleted key) follows = absurd (cc)
    by_event e follows = refl

-- nor does what sends a definition out
sent_make_none : (definition : ℕ) (qs : List ℕ) → list_any makes (map (sent_to definition) qs) ≡ false
sent_make_none definition [] = refl
sent_make_none definition (q ∷ qs) = sent_make_none definition qs

-- nor the next message of a subscription
next_make_none : (key : ℕ) (before : List Event) → list_any makes (next_correlated key before) ≡ false
next_make_none key before =
    made_of_any (λ (x : List Event). list_any makes x ≡ false) (λ (s : Subscription). option_map_or (λ m. correlating_event m s ∷ []) (next_message s before) []) (subscription_at key before) refl
    (λ s at. made_of_any (λ (x : List Event). list_any makes x ≡ false) (λ (m : MessagePublished). correlating_event m s ∷ []) (next_message s before) refl (λ m next. refl))

-- nor the next subscription of a message
passed_make_none : (subscription message : ℕ) (before : List Event) → list_any makes (passed_on subscription message before) ≡ false
passed_make_none subscription message before =
    made_of_any (λ (x : List Event). list_any makes x ≡ false) (λ (o : MessageSubscription). option_map_or (λ m. option_map_or (λ s. correlating_event m s ∷ []) (next_subscription m o.process before) []) (message_at message before) []) (opened_in subscription before) refl
    (λ o opened. made_of_any (λ (x : List Event). list_any makes x ≡ false) (λ (m : MessagePublished). option_map_or (λ s. correlating_event m s ∷ []) (next_subscription m o.process before) []) (message_at message before) refl
    (λ m at. made_of_any (λ (x : List Event). list_any makes x ≡ false) (λ (s : Subscription). correlating_event m s ∷ []) (next_subscription m o.process before) refl (λ s next. refl)))

-- a command in whose step such an event stands
abbrev is_maker : Command → Bool
is_maker (commands.DeploymentCreate m) = true
is_maker (commands.DeploymentDistribute c) = true
is_maker (commands.MessageSubscriptionCreate c) = true
is_maker (commands.MessageSubscriptionCorrelate c) = true
is_maker (commands.MessageSubscriptionReject c) = true
is_maker (commands.MessageSubscriptionDelete c) = true
is_maker (commands.ProcessMessageSubscriptionCorrelate c) = true
is_maker (commands.ProcessMessageSubscriptionDelete key) = true
is_maker command = false

maker_of : (e : Event) (command : Command) → IsTrue (step_kind command e) → IsTrue (makes e) → IsTrue (is_maker command)
maker_of e (commands.DeploymentCreate m) is made = refl
maker_of e (commands.DeploymentDistribute c) is made = refl
maker_of e (commands.MessageSubscriptionCreate c) is made = refl
maker_of e (commands.MessageSubscriptionCorrelate c) is made = refl
maker_of e (commands.MessageSubscriptionReject c) is made = refl
maker_of e (commands.MessageSubscriptionDelete c) is made = refl
maker_of e (commands.ProcessMessageSubscriptionCorrelate c) is made = refl
maker_of e (commands.ProcessMessageSubscriptionDelete key) is made = refl
maker_of (events.ProcessCreated e) command is made = absurd (cc)
maker_of (events.MessageSubscriptionCreated e) command is made = absurd (cc)
maker_of (events.MessageSubscriptionCorrelated e) command is made = absurd (cc)
maker_of (events.MessageSubscriptionRejected e) command is made = absurd (cc)
maker_of (events.MessageSubscriptionDeleted key) command is made = absurd (cc)
maker_of (events.ProcessMessageSubscriptionCorrelated e) command is made = absurd (cc)
maker_of (events.ProcessMessageSubscriptionDeleted key) command is made = absurd (cc)
maker_of e command is made = absurd (cc)

-- the events of a command that is run are its own, and then what is forced
pub events_are : (p n moment : ℕ) (es : List Event) (command : Command) (outcome : Outcome) (a : IsAcceptance p n moment es command outcome) (made : List Event) → own_events p n es moment command ≡ Some made → events_in outcome ≡ made ++ a.rest
events_are p n moment es command outcome a made are =
    let own : made ≡ a.own = (let its = a.are_own in cc) in
    ap events_in a.accepted ∙ ap (λ (l : List Event). l ++ a.rest) (sym own)

-- one test of two that fail together
either_fails : (a b : Bool) → (a || b) ≡ false → (a ≡ false) × (b ≡ false)
either_fails false b is = (refl, is)
either_fails true b is = absurd (cc)

-- what is published, opened or defined under a key names it
published_named : (key : ℕ) (e : Event) → tells e ≡ Published key → Contains (keys_in e) key
published_named key (events.MessagePublished m) is = let same : m.key ≡ key = cc in (0, omega arith, same)
published_named key _ is = absurd (cc)

opened_named : (key : ℕ) (terms : Terms) (e : Event) → tells e ≡ Opens key terms → Contains (keys_in e) key
opened_named key terms (events.ProcessMessageSubscriptionCreating c) is = let same : c.subscription ≡ key = cc in (0, omega arith, same)
opened_named key terms _ is = absurd (cc)

defined_named : (key : ℕ) (process : List ℕ) (e : Event) → tells e ≡ Defined key process → Contains (keys_in e) key
defined_named key process (events.ProcessCreated d) is = let same : d.key ≡ key = cc in (0, omega arith, same)
defined_named key process _ is = absurd (cc)

-- an instance that a message starts, as its event tells
abbrev MayBe : List Event → MessageStartEventSubscriptionCorrelated → Type 0
MayBe before e = (process : List ℕ) × (defined_process e.definition (map tells before) ≡ Some process) × (still_buffered e.message (map tells before) ≡ true) × (is_locked e.message process (map tells before) ≡ false)

start_may : (before : List Event) (e : MessageStartEventSubscriptionCorrelated) → IsTrue (begins_start e before) → MayBe before e
start_may before e begins = by_message (message_at e.message before) refl begins
  where
    not_locked : (t : Bool) (rest : Bool) → IsTrue (not t && rest) → t ≡ false
    not_locked false rest is = refl
    not_locked true rest is = absurd (cc)

    by_process : (m : MessagePublished) → message_at e.message before ≡ Some m → (found : Option ProcessDefinition) → process_in e.definition before ≡ found
        → IsTrue (option_map_or (λ d. may_start m d.model.process before) found false) → MayBe before e
    by_process m at None made may = absurd (cc)
    by_process m at (Some d) made may =
        let process = d.model.process in
        let key : m.key ≡ e.message = keyed e.message (buffered before) m at in
        let there : is_buffered e.message before ≡ true = any_found e.message (buffered before) m at in
        let free : is_locked_for m.key process before ≡ false = not_locked (is_locked_for m.key process before) _ may in (
          process,
          process_same e.definition before ∙ ap (option_map process_of) made,
          buffered_same e.message before ∙ there,
          locks_same e.message process before ∙ subst (λ (k : ℕ). is_locked_for k process before ≡ false) key free,
        )

    by_message : (found : Option MessagePublished) → message_at e.message before ≡ found → IsTrue (option_map_or (λ m. option_map_or (λ d. may_start m d.model.process before) (process_in e.definition before) false) found false) → MayBe before e
    by_message None at may = absurd (cc)
    by_message (Some m) at may = by_process m at (process_in e.definition before) refl may

-- what a message brings, and the event that comes about with those behind it, may follow
pub brought_follow : (p moment : ℕ) (brings : Option Assignments) (e : Event) → ((earlier : List Event) → Follows earlier e) → (before : List Event) → EachOf may_follow (and_then (assigning brings) (with_events_behind p moment e) before)
brought_follow p moment brings e follows before =
    kinds_in may_follow before _ (then_makes Follows (assigning brings) (with_events_behind p moment e)
    (λ earlier. from_weaker Sets Follows (λ first x sets. listed_by comes_beside may_follow beside_follows first x (variable_beside first x sets)) earlier (assigning brings earlier) (assigning_makes brings earlier))
    (with_behind may_follow beside_follows p moment e follows) before)

-- the subscription that is found has the key
keyed_so : (key : ℕ) (es : List Event) (s : ProcessSubscription) → process_subscription_at key es ≡ Some s → s.key ≡ key
keyed_so key es s at = let its = found_passes (λ (x : ProcessSubscription). x.key == key) (process_subscriptions es) s at in grind (arith, nat_tests, its)

-- one that is open doesn't close
never_closes : (s : ℕ) (told : List Telling) (x : ProcessSubscription) → IsToldOf s told x → is_open x.phase ≡ true → (correlation_key keys : List ℕ) → Contains told (Closing s correlation_key keys) → ⊥
never_closes s told x is stays = by_phase x.phase is.shows stays
  where
    by_phase : (phase : WaitPhase) → Shows s told phase → is_open phase ≡ true → (correlation_key keys : List ℕ) → Contains told (Closing s correlation_key keys) → ⊥
    by_phase wait_phases.Deleting shows stays = absurd (cc)
    by_phase wait_phases.Creating shows stays = shows
    by_phase wait_phases.Created shows stays = shows

-- and one that isn't does
closes_told : (s : ℕ) (told : List Telling) (x : ProcessSubscription) → IsToldOf s told x → is_being_deleted x.phase ≡ true → (correlation_key : List ℕ) × (keys : List ℕ) × Contains told (Closing s correlation_key keys)
closes_told s told x is closes = by_phase x.phase is.shows closes
  where
    by_phase : (phase : WaitPhase) → Shows s told phase → is_being_deleted phase ≡ true → (correlation_key : List ℕ) × (keys : List ℕ) × Contains told (Closing s correlation_key keys)
    by_phase wait_phases.Deleting shows closes = shows
    by_phase phase shows closes = absurd (cc)

-- what was kept is among those that were
unkept_so : (m : ℕ) (x : ProcessSubscription) → has_kept m x ≡ false → Contains x.kept m → ⊥
unkept_so m x new among = let kept = has_passed (λ (key : ℕ). key == m) x.kept m among (eq_refl m) in absurd (cc (new, kept))

kept_so : (m : ℕ) (x : ProcessSubscription) → has_kept m x ≡ true → Contains x.kept m
kept_so m x has = let r = passing (λ (key : ℕ). key == m) x.kept has in subst (Contains x.kept) (eq_true r.0 m r.2) r.1

-- where no event opens a subscription that isn't there, it isn't there behind them
stays_out : (s : ℕ) (told : List Telling) (es : List Event) → list_any makes es ≡ false → is_there s told ≡ false → is_there s (told ++ map tells es) ≡ false
stays_out s told [] quiet out = rw (append-nil told) out
stays_out s told (e ∷ es) quiet out =
    let q = either_fails (makes e) (list_any makes es) quiet in
    subst (λ (l : List Telling). is_there s l ≡ false) (append_assoc told (tells e ∷ []) (map tells es)) (stays_out s (told ++ tells e ∷ []) es q.1 (still_out s told (tells e) (by_event e q.0) out))
  where
    by_event : (e : Event) → makes e ≡ false → terms_told s (tells e) ≡ None
    by_event (events.MessageSubscriptionCreated x) quiet = absurd (cc)
    by_event _ quiet = refl

-- these events apply behind those before them, and what closes among them does so with what it was given
abbrev Comes : (p : ℕ) (before es : List Event) → Type 0
Comes p before es = IsTrue (all_apply p before es) × AllCarry before es

module _ (n p : ℕ) (low : 1 ≤ p) (high : p ≤ n) where
  -- what any other event tells may be told, behind events that apply
  quiet_may : (before : List Event) (asked : Asking) (e : Event) → IsTrue (all_apply p [] before) → holds_own p before e ≡ true → makes e ≡ false → Carries before e → May n p (map tells before) asked (tells e)
  quiet_may before asked (events.ProcessCreated e) there own quiet carries = absurd (cc)
  quiet_may before asked (events.MessagePublished m) there own quiet carries =
      let f = fresh_is p before m.key (and_parts (is_fresh p before m.key) _ own).0 in (
        subst (λ (key : ℕ). home n key ≡ p) (sym f.1) (drawn_home n p before low high f.0),
        λ stands.
            let r = map_out tells before (Published m.key) stands in
            unnamed p before r.0 f.0 r.1 (subst (Contains (keys_in r.0)) f.1 (published_named m.key r.0 (sym r.2))),
      )
  quiet_may before asked (events.MessageExpired key) there own quiet carries = buffered_same key before ∙ own
  quiet_may before asked (events.MessageStartEventSubscriptionCorrelated e) there own quiet carries = start_may before e (both_right (is_fresh p before e.instance) (begins_start e before) own)
  quiet_may before asked (events.MessageSubscriptionCreated e) there own quiet carries = absurd (cc)
  quiet_may before asked (events.MessageSubscriptionCorrelating e) there own quiet carries = may_begin p before there e own
  quiet_may before asked (events.MessageSubscriptionCorrelated e) there own quiet carries = absurd (cc)
  quiet_may before asked (events.MessageSubscriptionRejected e) there own quiet carries = absurd (cc)
  quiet_may before asked (events.MessageSubscriptionDeleted key) there own quiet carries = absurd (cc)
  quiet_may before asked (events.ProcessMessageSubscriptionCreating c) there own quiet carries =
      let f = fresh_is p before c.subscription (and_parts (is_fresh p before c.subscription) _ own).0 in (
        subst (λ (key : ℕ). home n key ≡ p) (sym f.1) (drawn_home n p before low high f.0),
        λ terms stands.
            let r = map_out tells before (Opens c.subscription terms) stands in
            unnamed p before r.0 f.0 r.1 (subst (Contains (keys_in r.0)) f.1 (opened_named c.subscription terms r.0 (sym r.2))),
      )
  quiet_may before asked (events.ProcessMessageSubscriptionCorrelated e) there own quiet carries = absurd (cc)
  quiet_may before asked (events.ProcessMessageSubscriptionDeleted key) there own quiet carries = absurd (cc)
  quiet_may before asked (events.ProcessMessageSubscriptionDeleting e) there own quiet carries =
      let s = carries.0 in
      let is : events.ProcessMessageSubscriptionDeleting e ≡ closing_of s = carries.2 in
      let named : e.subscription ≡ s.key = cc in
      let told = waiting_told p s.key before there s (subst (λ (k : ℕ). process_subscription_at k before ≡ Some s) named carries.1) in
      subst (λ (x : Event). May n p (map tells before) asked (tells x)) (sym is) (terms_with s, told.opens, refl, told.kept)
  quiet_may before asked _ there own quiet carries = tt

  -- the first of some events that apply behind others that do, and the rest
  record AreSplit (before : List Event) (e : Event) (es : List Event) : Type 0 where
    own : holds_own p before e ≡ true
    carries : Carries before e
    over : IsTrue (all_apply p [] (before ++ e ∷ []))
    rest : Comes p (before ++ e ∷ []) es

  split : (before : List Event) (e : Event) (es : List Event) → IsTrue (all_apply p [] before) → Comes p before (e ∷ es) → AreSplit before e es
  split before e es there apply =
      let r = and_parts (applies p before e) (all_apply p (before ++ e ∷ []) es) apply.0 in
      record { own = own_holds p before e r.0; carries = apply.1.0; over = rw (all_apply_more p [] before e, there) r.0; rest = (r.1, apply.1.1) }

  -- what the first tells, and then what the others do
  told_first : (before : List Event) (asked : Asking) (e : Event) (es : List Event) → May n p (map tells before) asked (tells e) → EachMay n p (map tells (before ++ e ∷ [])) asked (map tells es) → EachMay n p (map tells before) asked (map tells (e ∷ es))
  told_first before asked e es may rest = (may, subst (λ (told : List Telling). EachMay n p told asked (map tells es)) (map-append tells before (e ∷ [])) rest)

  -- so it is of all of them
  each_quiet : (before : List Event) (asked : Asking) (es : List Event) → IsTrue (all_apply p [] before) → Comes p before es → list_any makes es ≡ false → EachMay n p (map tells before) asked (map tells es)
  each_quiet before asked [] there apply quiet = tt
  each_quiet before asked (e ∷ es) there apply quiet =
      let r = split before e es there apply in
      let q = either_fails (makes e) (list_any makes es) quiet in
      told_first before asked e es (quiet_may before asked e there r.own q.0 r.carries) (each_quiet (before ++ e ∷ []) asked es r.over r.rest q.1)

  -- of some behind others, where neither do
  both_quiet : (made rest : List Event) → list_any makes made ≡ false → EachOf may_follow rest → list_any makes (made ++ rest) ≡ false
  both_quiet made rest quiet follows = list_any-append makes made rest ∙ rw (quiet, follows_make_none rest follows) refl

  -- where a definition isn't there, no event makes it
  undefined_by : (before : List Event) (key : ℕ) → has_definition key before ≡ false → (q : List ℕ) → Contains (map tells before) (Defined key q) → ⊥
  undefined_by before key none q stands =
      let r = map_out tells before (Defined key q) stands in
      let there = defined_there before r.0 r.1 (by_event r.0 (sym r.2)) in
      absurd (cc (there, none))
    where
      has : Definition → Bool
      has d = d.key == key

      by_event : (e : Event) → tells e ≡ Defined key q → list_any has (definition_told e) ≡ true
      by_event (events.ProcessCreated d) is = let same : d.key ≡ key = cc in let t : (d.key == key) ≡ true = grind (arith, nat_tests, same) in rw t refl
      by_event _ is = absurd (cc)

      or_right : (a b : Bool) → b ≡ true → (a || b) ≡ true
      or_right true b is = refl
      or_right false b is = is

      defined_there : (es : List Event) (e : Event) → Contains es e → list_any has (definition_told e) ≡ true → has_definition key es ≡ true
      defined_there [] e is told = absurd (nothing_in e is)
      defined_there (x ∷ es) e is told = list_any-append has (definition_told x) (definitions es) ∙ elim (first_or_later x e es is) [
        | inl same ↦ let here : list_any has (definition_told x) ≡ true = subst (λ (z : Event). list_any has (definition_told z) ≡ true) same told in rw here refl
        | inr rest ↦ or_right (list_any has (definition_told x)) (list_any has (definitions es)) (defined_there es e rest told)
      ]

  module _ (moment : ℕ) (es : List Event) (there : IsTrue (all_apply p [] es)) where
    -- a deployment defines its process under a key of the partition that no event names
    deployment_may : (m : Model) (asked : Asking) (rest : List Event) → Comes p es (deployed p n m es ++ rest) → EachOf may_follow rest → EachMay n p (map tells es) asked (map tells (deployed p n m es ++ rest))
    deployment_may m asked rest apply follows =
        let key = next_key p es in
        let made = events.ProcessCreated (record { key = key; version = version_behind (greatest_version m.process (definitions es)); model = m }) in
        let over = es ++ made ∷ [] in
        let deployment = events.DeploymentCreated (record { key = next_key p over; definition = key }) in
        let sent = map (sent_to key) (range_with_len 2 (n - 1)) in
        let first = split es made (deployment ∷ sent ++ rest) there apply in
        let second = split over deployment (sent ++ rest) first.over first.rest in
        let fresh = fresh_is p over (next_key p over) (and_parts (is_fresh p over (next_key p over)) (has_definition key over) second.own).0 in
        let left : greatest_counter p es + 1 < 2 ^ 51 = (let f = fresh.0 in omega (arith, f, greatest_counter_more p es (made ∷ []))) in
        let quiet : list_any makes (deployment ∷ sent ++ rest) ≡ false = both_quiet sent rest (sent_make_none key (range_with_len 2 (n - 1))) follows in
        told_first es asked made (deployment ∷ sent ++ rest) (
          inl (drawn_home n p es low high left),
          λ q stands.
              let r = map_out tells es (Defined key q) stands in
              unnamed p es r.0 left r.1 (defined_named key q r.0 (sym r.2)),
        )
        (each_quiet over asked (deployment ∷ sent ++ rest) first.over first.rest quiet)

    -- where a definition is taken it isn't there
    taken_new : (c : ProcessDefinition) → reason_to_distribute es c ≡ None → has_definition c.key es ≡ false
    taken_new c none = by_first (reason_to_deploy c.model) none
      where
        by_there : (t : Bool) (r : Rejection) → (if t then Some r else None) ≡ None → t ≡ false
        by_there true r is = absurd (cc)
        by_there false r is = refl

        by_first : (found : Option Rejection) → option_or found (reason_to_turn_back es c.key) ≡ None → has_definition c.key es ≡ false
        by_first None is = by_there (has_definition c.key es) _ is
        by_first (Some r) is = absurd (cc)

    -- one that is taken is defined under the key, and is of the process, that the command says
    taken_may : (c : ProcessDefinition) (rest : List Event) → reason_to_distribute es c ≡ None → Comes p es (events.ProcessCreated c ∷ rest) → EachOf may_follow rest
        → EachMay n p (map tells es) (Distribute c.key c.model.process) (map tells (events.ProcessCreated c ∷ rest))
    taken_may c rest none apply follows =
        let asked = Distribute c.key c.model.process in
        let first = split es (events.ProcessCreated c) rest there apply in
        told_first es asked (events.ProcessCreated c) rest (inr refl, undefined_by es c.key (taken_new c none))
        (each_quiet (es ++ events.ProcessCreated c ∷ []) asked rest first.over first.rest (follows_make_none rest follows))

    -- a subscription that is opened has the terms that are asked, and isn't there before
    opened_may : (c : MessageSubscription) (rest : List Event) → Comes p es (opened c es ++ rest) → EachOf may_follow rest
        → EachMay n p (map tells es) (Create c.subscription (terms_from c)) (map tells (opened c es ++ rest))
    opened_may c rest apply follows =
        let e = events.MessageSubscriptionCreated c in
        let asked = Create c.subscription (terms_from c) in
        let next = next_correlated c.subscription (es ++ e ∷ []) in
        let first = split es e (next ++ rest) there apply in
        told_first es asked e (next ++ rest) (refl, no_task p es there c.subscription (not-true (is_subscribed c.subscription es) first.own))
        (each_quiet (es ++ e ∷ []) asked (next ++ rest) first.over first.rest (both_quiet next rest (next_make_none c.subscription (es ++ e ∷ [])) follows))

    -- a message that is kept is the one that its subscription is correlating
    kept_may : (c : SubscribedMessage) (rest : List Event) → Comes p es (taken c es ++ rest) → EachOf may_follow rest
        → EachMay n p (map tells es) (WasKept c.subscription c.message) (map tells (taken c es ++ rest))
    kept_may c rest apply follows =
        let e = events.MessageSubscriptionCorrelated c in
        let asked = WasKept c.subscription c.message in
        let next = next_correlated c.subscription (es ++ e ∷ []) in
        let first = split es e (next ++ rest) there apply in
        told_first es asked e (next ++ rest) (refl, has_task p es there c.subscription c.message first.own)
        (each_quiet (es ++ e ∷ []) asked (next ++ rest) first.over first.rest (both_quiet next rest (next_make_none c.subscription (es ++ e ∷ [])) follows))

    -- and so is one that is turned away
    turned_may : (c : SubscribedMessage) (rest : List Event) → Comes p es (turned_away c es ++ rest) → EachOf may_follow rest
        → EachMay n p (map tells es) (Reject c.subscription c.message) (map tells (turned_away c es ++ rest))
    turned_may c rest apply follows =
        let e = events.MessageSubscriptionRejected c in
        let asked = Reject c.subscription c.message in
        let next = passed_on c.subscription c.message (es ++ e ∷ []) in
        let first = split es e (next ++ rest) there apply in
        told_first es asked e (next ++ rest) (has_task p es there c.subscription c.message first.own, inl refl)
        (each_quiet (es ++ e ∷ []) asked (next ++ rest) first.over first.rest (both_quiet next rest (passed_make_none c.subscription c.message (es ++ e ∷ [])) follows))

    -- a subscription that is deleted gives up what it is correlating, unless that is among the keys
    deleted_may : (c : MessageSubscriptionDelete) (rest : List Event) → Comes p es (unsubscribed c es ++ rest) → EachOf may_follow rest
        → EachMay n p (map tells es) (Delete c.subscription c.keys) (map tells (unsubscribed c es ++ rest))
    deleted_may c rest apply follows = by_found (unkept_message c es) refl apply
      where
        asked : Asking
        asked = Delete c.subscription c.keys

        d : Event
        d = events.MessageSubscriptionDeleted c.subscription

        made : Option ℕ → List Event
        made found = option_map_or (λ (m : ℕ). deleted_with c.subscription m es) found (d ∷ [])

        by_found : (found : Option ℕ) → unkept_message c es ≡ found → Comes p es (made found ++ rest) → EachMay n p (map tells es) asked (map tells (made found ++ rest))
        by_found None at apply =
            let first = split es d rest there apply in
            told_first es asked d rest (c.keys, refl) (each_quiet (es ++ d ∷ []) asked rest first.over first.rest (follows_make_none rest follows))
        by_found (Some m) at apply =
            let e = events.MessageSubscriptionRejected (record { subscription = c.subscription; message = m }) in
            let over = es ++ e ∷ [] in
            let next = passed_on c.subscription m (over ++ d ∷ []) in
            let first = split es e (d ∷ next ++ rest) there apply in
            let second = split over d (next ++ rest) first.over first.rest in
            told_first es asked e (d ∷ next ++ rest) (has_task p es there c.subscription m first.own, inr (c.keys, refl, given_up_unkept c es m at))
            (told_first over asked d (next ++ rest) (c.keys, refl)
            (each_quiet (over ++ d ∷ []) asked (next ++ rest) second.over second.rest (both_quiet next rest (passed_make_none c.subscription m (over ++ d ∷ [])) follows)))

    -- a message is kept where its subscription is open and hasn't kept it
    received_may : (c : MessageCorrelation) (rest : List Event) → reason_to_receive es c ≡ None → Comes p es (received p moment c es ++ rest) → EachOf may_follow rest
        → EachMay n p (map tells es) (Correlate c.subscription c.message) (map tells (received p moment c es ++ rest))
    received_may c rest none apply follows =
        let r = none_against es c.subscription (reason_to_pass_over es c.message) none in
        let x = r.0 in
        let at = r.1 in
        let made : received p moment c es ≡ receive_events p moment c x es = rw at refl in
        rw made (given_may x at (tests_hold (has_kept c.message x) (is_being_deleted x.phase) (holds_of_game (waits_for_message x) es) _ _ _ r.2).0 (subst (λ (l : List Event). Comes p es (l ++ rest)) made apply))
      where
        asked : Asking
        asked = Correlate c.subscription c.message

        e : Event
        e = events.ProcessMessageSubscriptionCorrelated (record { subscription = c.subscription; message = c.message })

        over : List Event
        over = es ++ e ∷ []

        closed : List Event
        closed = closed_after c.subscription over

        later : ProcessSubscription → List Event
        later x = and_then (assigning (brought c.variables x es)) (with_events_behind p moment (event_of_subscription x)) (over ++ closed)

        by_cancel : (s : ProcessSubscription) (cancel : Bool) → list_any makes (if cancel then closing_of s ∷ [] else []) ≡ false
        by_cancel s true = refl
        by_cancel s false = refl

        closing_quiet : list_any makes closed ≡ false
        closing_quiet = made_of_any (λ (l : List Event). list_any makes l ≡ false) (λ (s : ProcessSubscription). if s.cancel then closing_of s ∷ [] else []) (process_subscription_at c.subscription over) refl (λ s at. by_cancel s s.cancel)

        -- what is behind it says nothing new
        quiet : (x : ProcessSubscription) → list_any makes ((closed ++ later x) ++ rest) ≡ false
        quiet x =
            let happens : list_any makes (later x) ≡ false = follows_make_none (later x) (brought_follow p moment (brought c.variables x es) (event_of_subscription x) (λ earlier. (refl, tt)) (over ++ closed)) in
            both_quiet (closed ++ later x) rest (list_any-append makes closed (later x) ∙ rw (closing_quiet, happens) refl) follows

        given_may : (x : ProcessSubscription) → process_subscription_at c.subscription es ≡ Some x → has_kept c.message x ≡ false → Comes p es (receive_events p moment c x es ++ rest)
            → EachMay n p (map tells es) asked (map tells (receive_events p moment c x es ++ rest))
        given_may x at new apply =
            let first = split es e ((closed ++ later x) ++ rest) there apply in
            let told = waiting_told p c.subscription es there x at in
            let stays : is_open x.phase ≡ true = rw at at first.own in
            told_first es asked e ((closed ++ later x) ++ rest)
            (refl, never_closes c.subscription (map tells es) x told stays, λ stands. unkept_so c.message x new ((told.kept c.message).1 stands))
            (each_quiet over asked ((closed ++ later x) ++ rest) first.over first.rest (quiet x))

    -- a subscription that is gone is the one that is asked
    gone_may : (key : ℕ) (rest : List Event) → Comes p es (forgotten key es ++ rest) → EachOf may_follow rest → EachMay n p (map tells es) (IsDeleted key) (map tells (forgotten key es ++ rest))
    gone_may key rest apply follows =
        let e = events.ProcessMessageSubscriptionDeleted key in
        let first = split es e rest there apply in
        told_first es (IsDeleted key) e rest refl (each_quiet (es ++ e ∷ []) (IsDeleted key) rest first.over first.rest (follows_make_none rest follows))

    -- what is run tells what its own events do, and then what is forced
    of_made : (command : Command) (outcome : Outcome) (a : IsAcceptance p n moment es command outcome) (made : List Event) → own_events p n es moment command ≡ Some made
        → (Comes p es (made ++ a.rest) → EachOf may_follow a.rest → EachMay n p (map tells es) (asks command) (map tells (made ++ a.rest))) → EachMay n p (map tells es) (asks command) (map tells (events_in outcome))
    of_made command outcome a made are each =
        let all = events_are p n moment es command outcome a made are in
        let apply : Comes p es (made ++ a.rest) = subst (λ (l : List Event). Comes p es l) all (outcome_applies p n moment es command outcome None a, closings_of_run p n moment es command outcome a) in
        rw all (each apply (rest_follows p n moment es command outcome a))

    -- the events of a command that is run, where such an event stands among them
    maker_may : (command : Command) (outcome : Outcome) → IsTrue (is_maker command) → reason_for es moment command ≡ None → IsAcceptance p n moment es command outcome → EachMay n p (map tells es) (asks command) (map tells (events_in outcome))
    maker_may (commands.DeploymentCreate m) outcome is none a = of_made (commands.DeploymentCreate m) outcome a (deployed p n m es) refl (deployment_may m (asks (commands.DeploymentCreate m)) a.rest)
    maker_may (commands.DeploymentDistribute c) outcome is none a = of_made (commands.DeploymentDistribute c) outcome a (distributed c es) refl (taken_may c a.rest none)
    maker_may (commands.MessageSubscriptionCreate c) outcome is none a = of_made (commands.MessageSubscriptionCreate c) outcome a (opened c es) refl (opened_may c a.rest)
    maker_may (commands.MessageSubscriptionCorrelate c) outcome is none a = of_made (commands.MessageSubscriptionCorrelate c) outcome a (taken c es) refl (kept_may c a.rest)
    maker_may (commands.MessageSubscriptionReject c) outcome is none a = of_made (commands.MessageSubscriptionReject c) outcome a (turned_away c es) refl (turned_may c a.rest)
    maker_may (commands.MessageSubscriptionDelete c) outcome is none a = of_made (commands.MessageSubscriptionDelete c) outcome a (unsubscribed c es) refl (deleted_may c a.rest)
    maker_may (commands.ProcessMessageSubscriptionCorrelate c) outcome is none a = of_made (commands.ProcessMessageSubscriptionCorrelate c) outcome a (received p moment c es) refl (received_may c a.rest none)
    maker_may (commands.ProcessMessageSubscriptionDelete key) outcome is none a = of_made (commands.ProcessMessageSubscriptionDelete key) outcome a (forgotten key es) refl (gone_may key a.rest)
    maker_may command outcome is none a = absurd (cc)

    -- what the events of a step tell may be told
    events_may : (command : Command) (outcome : Outcome) → IsOutcomeOf p n moment es command outcome → EachMay n p (map tells es) (asks command) (map tells (events_in outcome))
    events_may command outcome is = by_test (list_any makes (events_in outcome)) refl
      where
        by_test : (t : Bool) → list_any makes (events_in outcome) ≡ t → EachMay n p (map tells es) (asks command) (map tells (events_in outcome))
        by_test false none = each_quiet es (asks command) (events_in outcome) there (outcome_applies p n moment es command outcome (reason_for es moment command) is, closings_of_steps p n moment es command outcome is) none
        by_test true some =
            let told = command_told p n moment es makes (λ command. IsTrue (is_maker command)) maker_of command outcome is some in
            maker_may command outcome told.0 told.1 told.2

-- a message that isn't kept says why
nowhere_said : (c : MessageCorrelation) → turned_away_by c (unknown_subscription c.subscription) ≡ NoSubscription
nowhere_said c = rw (text_refl (no_subscription c.subscription)) refl

kept_said : (c : MessageCorrelation) → turned_away_by c (subscription_in_wrong_state (was_correlated c.message)) ≡ WasCorrelated
kept_said c = rw (text_refl (was_correlated c.message)) refl

closing_said : (c : MessageCorrelation) → turned_away_by c (subscription_in_wrong_state (being_deleted c.subscription)) ≡ BeingDeleted
closing_said c = rw (text_refl (being_deleted c.subscription)) refl

waiting_said : (c : MessageCorrelation) (cell : ℕ) → turned_away_by c (subscription_in_wrong_state (cell_not_waiting cell)) ≡ AnyOther
waiting_said c cell = refl

module _ (p n moment : ℕ) (es : List Event) (there : IsTrue (all_apply p [] es)) where
  -- behind its deletion a subscription isn't there
  deleted_there : (c : MessageSubscriptionDelete) (rest : List Event) → EachOf may_follow rest → is_there c.subscription (map tells es ++ map tells (unsubscribed c es ++ rest)) ≡ false
  deleted_there c rest follows = by_found (unkept_message c es)
    where
      d : Event
      d = events.MessageSubscriptionDeleted c.subscription

      told : List Telling
      told = map tells es

      by_found : (found : Option ℕ) → is_there c.subscription (told ++ map tells (option_map_or (λ (m : ℕ). deleted_with c.subscription m es) found (d ∷ []) ++ rest)) ≡ false
      by_found None =
          subst (λ (l : List Telling). is_there c.subscription l ≡ false) (append_assoc told (tells d ∷ []) (map tells rest))
          (stays_out c.subscription (told ++ tells d ∷ []) rest (follows_make_none rest follows) (deleted_out c.subscription c.subscription told refl))
      by_found (Some m) =
          let e = events.MessageSubscriptionRejected (record { subscription = c.subscription; message = m }) in
          let given = told ++ tells e ∷ [] in
          let next = passed_on c.subscription m ((es ++ e ∷ []) ++ d ∷ []) in
          let quiet : list_any makes (next ++ rest) ≡ false = list_any-append makes next rest ∙ rw (passed_make_none c.subscription m ((es ++ e ∷ []) ++ d ∷ []), follows_make_none rest follows) refl in
          let behind = stays_out c.subscription (given ++ tells d ∷ []) (next ++ rest) quiet (deleted_out c.subscription c.subscription given refl) in
          subst (λ (l : List Telling). is_there c.subscription l ≡ false) (append_assoc told (tells e ∷ []) (map tells (d ∷ next ++ rest)))
          (subst (λ (l : List Telling). is_there c.subscription l ≡ false) (append_assoc given (tells d ∷ []) (map tells (next ++ rest))) behind)

  -- and is correlating nothing, also where it wasn't there before
  deleted_task : (c : MessageSubscriptionDelete) (outcome : Outcome) → IsOutcomeOf p n moment es (commands.MessageSubscriptionDelete c) outcome → task_of c.subscription (map tells es ++ map tells (events_in outcome)) ≡ None
  deleted_task c outcome is = by_test (is_subscribed c.subscription es) refl is
    where
      by_test : (t : Bool) → is_subscribed c.subscription es ≡ t
          → IsOutcomeBy (if t then None else Some (unknown_subscription c.subscription)) outcome (IsAcceptance p n moment es (commands.MessageSubscriptionDelete c) outcome)
          → task_of c.subscription (map tells es ++ map tells (events_in outcome)) ≡ None
      by_test false out is = rw (is, append-nil (map tells es)) (no_task p es there c.subscription out)
      by_test true stands a =
          let all = events_are p n moment es (commands.MessageSubscriptionDelete c) outcome a (unsubscribed c es) refl in
          rw (all, deleted_there c a.rest (rest_follows p n moment es (commands.MessageSubscriptionDelete c) outcome a)) refl

  -- a message for a subscription is answered as it was kept or not
  module _ (c : MessageCorrelation) (outcome : Outcome) where
    abbrev asking : Asking
    asking = Correlate c.subscription c.message

    abbrev behind : List Telling
    behind = map tells es ++ map tells (events_in outcome)

    abbrev Answers : Option Refusal → Type 0
    Answers refusal = (a : Asking) → Contains (replies_to asking refusal) a → MayAnswer behind asking a

    -- where it is rejected, nothing is told
    refused_answers : (r : Rejection) (said : Refusal) → turned_away_by c r ≡ said → outcome ≡ outcomes.Rejected r → ((a : Asking) → Contains (replies_to asking (Some said)) a → MayAnswer (map tells es) asking a) → Answers (refusal_by (commands.ProcessMessageSubscriptionCorrelate c) outcome)
    refused_answers r said says is answers = rw (is, says, append-nil (map tells es)) answers

    kept_answers : (x : ProcessSubscription) → process_subscription_at c.subscription es ≡ Some x → has_kept c.message x ≡ true → (a : Asking) → Contains (replies_to asking (Some WasCorrelated)) a → MayAnswer (map tells es) asking a
    kept_answers x at has a sends = rw (the_one (WasKept c.subscription c.message) a sends) (((waiting_told p c.subscription es there x at).kept c.message).0 (kept_so c.message x has))

    closing_answers : (x : ProcessSubscription) → process_subscription_at c.subscription es ≡ Some x → has_kept c.message x ≡ false → is_being_deleted x.phase ≡ true → (a : Asking) → Contains (replies_to asking (Some BeingDeleted)) a → MayAnswer (map tells es) asking a
    closing_answers x at new closes a sends =
        let told = waiting_told p c.subscription es there x at in
        rw (the_one (Reject c.subscription c.message) a sends) (refl, inr (closes_told c.subscription (map tells es) x told closes, λ stands. unkept_so c.message x new ((told.kept c.message).1 stands)))

    nowhere_answers : process_subscription_at c.subscription es ≡ None → (a : Asking) → Contains (replies_to asking (Some NoSubscription)) a → MayAnswer (map tells es) asking a
    nowhere_answers at a sends = rw (the_one (Reject c.subscription c.message) a sends) (refl, inl (nowhere_told p c.subscription es there at))

    -- where it is run, it was kept
    taken_answers : (x : ProcessSubscription) → process_subscription_at c.subscription es ≡ Some x → IsAcceptance p n moment es (commands.ProcessMessageSubscriptionCorrelate c) outcome → Answers (refusal_by (commands.ProcessMessageSubscriptionCorrelate c) outcome)
    taken_answers x at a =
        let all = events_are p n moment es (commands.ProcessMessageSubscriptionCorrelate c) outcome a (received p moment c es) refl in
        let made : received p moment c es ≡ receive_events p moment c x es = rw at refl in
        let none : refusal_by (commands.ProcessMessageSubscriptionCorrelate c) outcome ≡ None = rw (a.accepted) refl in
        λ reply sends.
        let one : reply ≡ WasKept c.subscription c.message = the_one (WasKept c.subscription c.message) reply (subst (λ (r : Option Refusal). Contains (replies_to asking r) reply) none sends) in
        rw (one, all, made) (Contains-append_right (map tells es) _ (Kept c.subscription c.message) (here_in (Kept c.subscription c.message) _))

    -- each reason in turn
    by_reasons : (x : ProcessSubscription) → process_subscription_at c.subscription es ≡ Some x → (kept closes waits : Bool) → has_kept c.message x ≡ kept → is_being_deleted x.phase ≡ closes → x.key ≡ c.subscription
        → IsOutcomeBy (if kept then Some (subscription_in_wrong_state (was_correlated c.message)) else if closes then Some (subscription_in_wrong_state (being_deleted x.key)) else if not waits then Some (subscription_in_wrong_state (cell_not_waiting x.cell)) else None) outcome
        (IsAcceptance p n moment es (commands.ProcessMessageSubscriptionCorrelate c) outcome)
        → Answers (refusal_by (commands.ProcessMessageSubscriptionCorrelate c) outcome)
    by_reasons x at true closes waits has is key outcome_is = refused_answers (subscription_in_wrong_state (was_correlated c.message)) WasCorrelated (kept_said c) outcome_is (kept_answers x at has)
    by_reasons x at false true waits new is key outcome_is =
        refused_answers (subscription_in_wrong_state (being_deleted x.key)) BeingDeleted (ap (λ (k : ℕ). turned_away_by c (subscription_in_wrong_state (being_deleted k))) key ∙ closing_said c) outcome_is (closing_answers x at new is)
    by_reasons x at false false false new is key outcome_is = refused_answers (subscription_in_wrong_state (cell_not_waiting x.cell)) AnyOther (waiting_said c x.cell) outcome_is (λ a sends. absurd (nothing_in a sends))
    by_reasons x at false false true new is key a = taken_answers x at a

    by_row : (found : Option ProcessSubscription) → process_subscription_at c.subscription es ≡ found
        → IsOutcomeBy (option_map_or (reason_to_pass_over es c.message) found (Some (unknown_subscription c.subscription))) outcome (IsAcceptance p n moment es (commands.ProcessMessageSubscriptionCorrelate c) outcome)
        → Answers (refusal_by (commands.ProcessMessageSubscriptionCorrelate c) outcome)
    by_row None at is = refused_answers (unknown_subscription c.subscription) NoSubscription (nowhere_said c) is (nowhere_answers at)
    by_row (Some x) at is = by_reasons x at (has_kept c.message x) (is_being_deleted x.phase) (holds_of_game (waits_for_message x) es) refl refl (keyed_so c.subscription es x at) is

    received_answers : IsOutcomeOf p n moment es (commands.ProcessMessageSubscriptionCorrelate c) outcome → Answers (refusal_by (commands.ProcessMessageSubscriptionCorrelate c) outcome)
    received_answers is = by_row (process_subscription_at c.subscription es) refl is

  -- what a step replies it may
  answers_may : (command : Command) (outcome : Outcome) → IsOutcomeOf p n moment es command outcome → (a : Asking) → Contains (replies_to (asks command) (refusal_by command outcome)) a
      → MayAnswer (map tells es ++ map tells (events_in outcome)) (asks command) a
  answers_may (commands.MessageSubscriptionCreate c) outcome is a sends = rw (the_one (IsCreated c.subscription) a sends) tt
  answers_may (commands.ProcessMessageSubscriptionCorrelate c) outcome is a sends = received_answers c outcome is a sends
  answers_may (commands.MessageSubscriptionDelete c) outcome is a sends = rw (the_one (IsDeleted c.subscription) a sends) (c.keys, refl, deleted_task c outcome is)
  answers_may _ outcome is a sends = absurd (nothing_in a sends)

-- a step of one of n partitions behind a log of steps is a message step
pub step_of_messages : (n p : ℕ) (log : List Batch) (batch : Batch) → IsPartitionOf n p → AreStepsOn p n [] log → IsStep p n log batch
    → IsMessageStep n p (map tells (events_of log)) (asks batch.command) (refusal_by batch.command batch.outcome) (map tells (events_in batch.outcome))
step_of_messages n p log batch (low, high) steps step =
    let there = steps_apply p n log steps in
    record {
      each = events_may n p low high batch.moment (events_of log) there batch.command batch.outcome step.outcome;
      answers = answers_may p n batch.moment (events_of log) there batch.command batch.outcome step.outcome;
    }
