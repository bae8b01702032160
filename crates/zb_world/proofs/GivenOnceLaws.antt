-- In a log of steps a subscription that ends with its first message is given at most one.
use Rattle.std.proofs.Common.{◌≡◌, ◌≤◌, ℕ, ◌==◌, List, [], ◌∷◌, ◌++◌, length, Bool, true, false, ◌||◌, if◌then◌else◌, IsTrue, Option, Some, None, option_map, refl, sym, ap, ◌∙◌, subst, append-nil, append_assoc, arith}
use Rattle.std.specs.List.{list_any}
use Rattle.std.specs.Option.{option_map_or}
use Rattle.std.proofs.lemmas.Bool.{and_parts, or_from}
use Rattle.std.proofs.lemmas.Bool.Decides.{nat_tests}
use Rattle.std.proofs.lemmas.List.Folds.{list_any-append}
use Rattle.zb_exchange_records.specs.declared.subscription.MessageCorrelation.{MessageCorrelation}
use Rattle.zb_model.specs.declared.record.Batch.{Batch}
use Rattle.zb_model.specs.declared.record.Command.{Command}
use Rattle.zb_model.specs.declared.record.Command.TheVariants as commands
use Rattle.zb_model.specs.declared.record.Event.{Event}
use Rattle.zb_model.specs.declared.record.Event.TheVariants as events
use Rattle.zb_model.specs.declared.record.Outcome.{Outcome}
use Rattle.zb_views.specs.View.{events_in, events_of}
use Rattle.zb_views.proofs.ViewLaws.{events_of_more}
use Rattle.zb_views.specs.ProcessSubscriptions.{process_subscription_of, process_subscription_changed, process_subscription_at, is_being_created}
use Rattle.zb_views.specs.declared.process_subscription.ProcessSubscription.{ProcessSubscription}
use Rattle.zb_views.specs.declared.process_subscription.WaitPhase.{WaitPhase}
use Rattle.zb_views.specs.declared.process_subscription.WaitPhase.TheVariants as phases
use Rattle.zb_rules.specs.Applies.{holds_own, applies, all_apply}
use Rattle.zb_rules.specs.Behind.{closing_of, with_events_behind}
use Rattle.zb_rules.specs.InFront.{assigning}
use Rattle.zb_rules.specs.Kinds.{may_follow}
use Rattle.zb_rules.specs.Making.{and_then}
use Rattle.zb_rules.specs.Reason.{reason_for}
use Rattle.zb_rules.specs.Receive.{closed_after, brought, event_of_subscription, receive_events, received}
use Rattle.zb_rules.specs.Step.{IsAcceptance, IsOutcomeOf, IsStep, AreStepsOn}
use Rattle.zb_rules.specs.WaitEvents.{is_waiting, is_open}
use Rattle.zb_rules.proofs.KindsLaws.{EachOf, step_kind, rest_follows, command_told}
use Rattle.zb_rules.proofs.StepLaws.{all_apply_on, each_on_all}
use Rattle.zb_once.proofs.ViewLaws.{eq_true}
use Rattle.zb_world.specs.Once.{IsGivenOnce}
use Rattle.zb_world.proofs.AppliedStepLaws.{outcome_applies}
use Rattle.zb_world.proofs.MessageStepLaws.{brought_follow, events_are}
use Rattle.zb_world.proofs.SubscriptionMayLaws.{own_holds}
use Rattle.zb_world.proofs.WaitViewLaws.{row_still, row_changed, row_opened, row_gone, row_key, there_in}

-- an event by which a subscription is given a message
abbrev is_given : Event → Bool
is_given (events.ProcessMessageSubscriptionCorrelated e) = true
is_given e = false

-- only what tells a subscription of a message has such an event
giver_of : (e : Event) (command : Command) → IsTrue (step_kind command e) → IsTrue (is_given e) → (c : MessageCorrelation) × (command ≡ commands.ProcessMessageSubscriptionCorrelate c)
giver_of (events.ProcessMessageSubscriptionCorrelated e) (commands.ProcessMessageSubscriptionCorrelate c) is given = (c, refl)
giver_of (events.ProcessMessageSubscriptionCorrelated e) command is given = absurd (cc)
giver_of e command is given = absurd (cc)

-- what follows gives none
follows_give_none : (es : List Event) → EachOf may_follow es → list_any is_given es ≡ false
follows_give_none [] follows = refl
follows_give_none (e ∷ es) follows = or_from (is_given e) (list_any is_given es) (by_event e follows.0) (follows_give_none es follows.1)
  where
    by_event : (e : Event) → IsTrue (may_follow e) → is_given e ≡ false
    by_event (events.ProcessMessageSubscriptionCorrelated e) follows = absurd (cc)
    by_event e follows = refl

module _ (s : ℕ) where
  -- the subscription was given at most one message, if it is there
  abbrev Once : Option ProcessSubscription → Type 0
  Once None = Unit {0}
  Once (Some x) = IsGivenOnce x

  abbrev at : List Event → Option ProcessSubscription
  at es = process_subscription_at s es

  module _ (p : ℕ) (before : List Event) where
    -- an event that changes neither what it was given nor opens it again
    changed_once : (e : Event) → at (before ++ e ∷ []) ≡ option_map (process_subscription_changed e) (at before)
        → ((x : ProcessSubscription) → at before ≡ Some x → ((process_subscription_changed e x).kept ≡ x.kept) × (IsTrue (is_open (process_subscription_changed e x).phase) → IsTrue (is_open x.phase)))
        → Once (at before) → Once (at (before ++ e ∷ []))
    changed_once e led stays once = by_row (at before) refl once
      where
        by_row : (found : Option ProcessSubscription) → at before ≡ found → Once found → Once (at (before ++ e ∷ []))
        by_row None is once = let its : at (before ++ e ∷ []) ≡ None = rw is at led in rw its tt
        by_row (Some x) is once =
            let its : at (before ++ e ∷ []) ≡ Some (process_subscription_changed e x) = rw is at led in
            let same = (stays x is).0 in
            rw its (λ cancel. (rw same (once cancel).0, λ opens. same ∙ (once cancel).1 ((stays x is).1 opens)))

    confirmed_open : (key : ℕ) → IsTrue (is_waiting is_being_created key before) → (x : ProcessSubscription) → at before ≡ Some x → (t : Bool) → (x.key == key) ≡ t → IsTrue (is_open (if t then phases.Created else x.phase)) → IsTrue (is_open x.phase)
    confirmed_open key own x is false other opens = opens
    confirmed_open key own x is true its opens =
        let same : key ≡ s = sym (eq_true x.key key its) ∙ row_key s p before x is in
        let r = there_in s p before is_being_created key same own in
        let one : r.0 ≡ x = (let both : Some r.0 ≡ Some x = sym r.1 ∙ is in cc) in
        by_phase x.phase (subst (λ (y : ProcessSubscription). is_being_created y.phase ≡ true) one r.2)
      where
        by_phase : (phase : WaitPhase) → is_being_created phase ≡ true → IsTrue (is_open phase)
        by_phase phases.Creating being = refl
        by_phase phase being = absurd (cc)

    closed_less : (x : ProcessSubscription) (t : Bool) → IsTrue (is_open (if t then phases.Deleting else x.phase)) → IsTrue (is_open x.phase)
    closed_less x true opens = absurd (cc)
    closed_less x false opens = opens

    opened_once : (row : Option ProcessSubscription) (c : ProcessSubscription) (t : Bool) → c.kept ≡ [] → Once row → Once (option_map_or (λ y. Some y) row (if t then Some c else None))
    opened_once None c true none once = λ cancel. (rw none (omega arith), λ opens. none)
    opened_once None c false none once = tt
    opened_once (Some x) c t none once = once

    gone_once : (t : Bool) → Once (at before) → Once (if t then None else at before)
    gone_once true once = tt
    gone_once false once = once

    -- any event that applies but one that gives a message
    quiet_once : (e : Event) → holds_own p before e ≡ true → is_given e ≡ false → Once (at before) → Once (at (before ++ e ∷ []))
    quiet_once (events.ProcessMessageSubscriptionCreating c) own quiet once = rw (row_opened s p before c) (opened_once (at before) (process_subscription_of c) (c.subscription == s) refl once)
    quiet_once (events.ProcessMessageSubscriptionCreated key) own quiet once =
        changed_once (events.ProcessMessageSubscriptionCreated key) (row_changed s p before (events.ProcessMessageSubscriptionCreated key) (λ y. refl) refl) (λ x is. (refl, confirmed_open key own x is (x.key == key) refl)) once
    quiet_once (events.ProcessMessageSubscriptionCorrelated c) own quiet once = absurd (cc)
    quiet_once (events.ProcessMessageSubscriptionDeleting c) own quiet once =
        changed_once (events.ProcessMessageSubscriptionDeleting c) (row_changed s p before (events.ProcessMessageSubscriptionDeleting c) (λ y. refl) refl) (λ x is. (refl, closed_less x (x.key == c.subscription))) once
    quiet_once (events.ProcessMessageSubscriptionDeleted key) own quiet once = rw (row_gone s p before key) (gone_once (key == s) once)
    quiet_once e own quiet once = rw (row_still s p before e refl) once

  -- and so do several
  each_once : (p : ℕ) (before es : List Event) → IsTrue (all_apply p before es) → list_any is_given es ≡ false → Once (at before) → Once (at (before ++ es))
  each_once p before [] apply quiet once = rw (append-nil before) once
  each_once p before (e ∷ es) apply quiet once =
      let r = and_parts (applies p before e) (all_apply p (before ++ e ∷ []) es) apply in
      let q = either (is_given e) (list_any is_given es) quiet in
      subst (λ (l : List Event). Once (at l)) (append_assoc before (e ∷ []) es) (each_once p (before ++ e ∷ []) es r.1 q.1 (quiet_once p before e (own_holds p before e r.0) q.0 once))
    where
      either : (a b : Bool) → (a || b) ≡ false → (a ≡ false) × (b ≡ false)
      either false b is = (refl, is)
      either true b is = absurd (cc)

  -- a message is given to it, which ends it where it ends with its first one
  module _ (p : ℕ) (es : List Event) (c : MessageCorrelation) (rest : List Event) (quiet : list_any is_given rest ≡ false) where
    abbrev given : Event
    given = events.ProcessMessageSubscriptionCorrelated (record { subscription = c.subscription; message = c.message })

    abbrev over : List Event
    over = es ++ given ∷ []

    led : at over ≡ option_map (process_subscription_changed given) (at es)
    led = row_changed s p es given (λ y. refl) refl

    -- another one is
    other_once : (c.subscription == s) ≡ false → Once (at es) → Once (at over)
    other_once other once = changed_once p es given led (λ x is. let apart : (x.key == c.subscription) ≡ false = (let key = row_key s p es x is in grind (arith, nat_tests, other, key)) in (rw apart refl, λ opens. opens)) once

    closing_once : (x : ProcessSubscription) → x.key ≡ s → x.cancel ≡ true → length x.kept ≤ 1 → at over ≡ Some x → Once (at (over ++ closing_of x ∷ []))
    closing_once x key cancel few is =
        let e = closing_of x in
        let its : at (over ++ e ∷ []) ≡ Some (process_subscription_changed e x) = row_changed s p over e (λ y. refl) refl ∙ ap (option_map (process_subscription_changed e)) is in
        let same : (x.key == x.key) ≡ true = grind (arith, nat_tests) in
        rw its (λ cancels. (few, λ opens. absurd (let closed : IsTrue (is_open phases.Deleting) = rw same at opens in cc)))

    -- it is
    its_once : (x : ProcessSubscription) → at es ≡ Some x → IsTrue (is_open x.phase) → c.subscription ≡ s → IsGivenOnce x → IsTrue (all_apply p over (closed_after c.subscription over ++ rest)) → Once (at (over ++ (closed_after c.subscription over ++ rest)))
    its_once x is opens same once apply = by_cancel x.cancel refl
      where
        y : ProcessSubscription
        y = process_subscription_changed given x

        now : at over ≡ Some y
        now = led ∙ ap (option_map (process_subscription_changed given)) is

        made : closed_after c.subscription over ≡ (if x.cancel then closing_of y ∷ [] else [])
        made = let found : process_subscription_at c.subscription over ≡ Some y = subst (λ (k : ℕ). process_subscription_at k over ≡ Some y) (sym same) now in rw found refl

        goes : (l : List Event) → closed_after c.subscription over ≡ l → Once (at (over ++ l)) → Once (at (over ++ (closed_after c.subscription over ++ rest)))
        goes l are once =
            let parts = and_parts (all_apply p over l) (all_apply p (over ++ l) rest) (sym (all_apply_on p over l rest) ∙ subst (λ (m : List Event). IsTrue (all_apply p over (m ++ rest))) are apply) in
            rw are (subst (λ (m : List Event). Once (at m)) (append_assoc over l rest) (each_once p (over ++ l) rest parts.1 quiet once))

        by_cancel : (t : Bool) → x.cancel ≡ t → Once (at (over ++ (closed_after c.subscription over ++ rest)))
        by_cancel false stays =
            goes [] (rw stays at made) (rw (append-nil over, now) (λ cancels. absurd (let both : true ≡ false = sym cancels ∙ stays in cc)))
        by_cancel true ends =
            let none : x.kept ≡ [] = (once ends).1 opens in
            let key = row_key s p es x is in
            let its : (x.key == c.subscription) ≡ true = grind (arith, nat_tests, key, same) in
            let few : length y.kept ≤ 1 = rw (its, none) (omega arith) in
            goes (closing_of y ∷ []) (rw ends at made) (closing_once y key ends few now)

    given_once : IsTrue (all_apply p es (given ∷ (closed_after c.subscription over ++ rest))) → list_any is_given (closed_after c.subscription over) ≡ false → Once (at es) → Once (at (es ++ (given ∷ (closed_after c.subscription over ++ rest))))
    given_once apply closing once =
        let r = and_parts (applies p es given) (all_apply p over (closed_after c.subscription over ++ rest)) apply in
        let own = own_holds p es given r.0 in
        subst (λ (l : List Event). Once (at l)) (append_assoc es (given ∷ []) (closed_after c.subscription over ++ rest)) (by_test (c.subscription == s) refl r.1 own)
      where
        by_test : (t : Bool) → (c.subscription == s) ≡ t → IsTrue (all_apply p over (closed_after c.subscription over ++ rest)) → holds_own p es given ≡ true → Once (at (over ++ (closed_after c.subscription over ++ rest)))
        by_test false other apply own = each_once p over (closed_after c.subscription over ++ rest) apply (list_any-append is_given (closed_after c.subscription over) rest ∙ rw (closing, quiet) refl) (other_once other once)
        by_test true its apply own =
            let same = eq_true c.subscription s its in
            let r = there_in s p es is_open c.subscription same own in
            let was : IsGivenOnce r.0 = subst Once r.1 once in
            its_once r.0 r.1 r.2 same was apply

  -- a step goes on so
  module _ (p n moment : ℕ) (es : List Event) (once : Once (at es)) where
    closing_quiet : (key : ℕ) (before : List Event) → list_any is_given (closed_after key before) ≡ false
    closing_quiet key before = by_found (process_subscription_at key before)
      where
        by_cancel : (x : ProcessSubscription) (t : Bool) → list_any is_given (if t then closing_of x ∷ [] else []) ≡ false
        by_cancel x true = refl
        by_cancel x false = refl

        by_found : (found : Option ProcessSubscription) → list_any is_given (option_map_or (λ x. if x.cancel then closing_of x ∷ [] else []) found []) ≡ false
        by_found None = refl
        by_found (Some x) = by_cancel x x.cancel

    correlate_once : (c : MessageCorrelation) (outcome : Outcome) → IsAcceptance p n moment es (commands.ProcessMessageSubscriptionCorrelate c) outcome → Once (at (es ++ events_in outcome))
    correlate_once c outcome a =
        let all = events_are p n moment es (commands.ProcessMessageSubscriptionCorrelate c) outcome a (received p moment c es) refl in
        let apply = outcome_applies p n moment es (commands.ProcessMessageSubscriptionCorrelate c) outcome None a in
        let follows = rest_follows p n moment es (commands.ProcessMessageSubscriptionCorrelate c) outcome a in
        rw all (by_found (process_subscription_at c.subscription es) refl (subst (λ (l : List Event). IsTrue (all_apply p es l)) all apply) follows)
      where
        by_found : (found : Option ProcessSubscription) → process_subscription_at c.subscription es ≡ found → IsTrue (all_apply p es (option_map_or (λ x. receive_events p moment c x es) found [] ++ a.rest)) → EachOf may_follow a.rest
            → Once (at (es ++ (option_map_or (λ x. receive_events p moment c x es) found [] ++ a.rest)))
        by_found None is apply follows = each_once p es a.rest apply (follows_give_none a.rest follows) once
        by_found (Some x) is apply follows =
            let over = es ++ events.ProcessMessageSubscriptionCorrelated (record { subscription = c.subscription; message = c.message }) ∷ [] in
            let closed = closed_after c.subscription over in
            let happens = and_then (assigning (brought c.variables x es)) (with_events_behind p moment (event_of_subscription x)) (over ++ closed) in
            let quiet : list_any is_given (happens ++ a.rest) ≡ false = list_any-append is_given happens a.rest
            ∙ rw (follows_give_none happens (brought_follow p moment (brought c.variables x es) (event_of_subscription x) (λ earlier. (refl, tt)) (over ++ closed)), follows_give_none a.rest follows) refl in
            let line : (closed ++ happens) ++ a.rest ≡ closed ++ (happens ++ a.rest) = append_assoc closed happens a.rest in
            rw line (given_once p es c (happens ++ a.rest) quiet (rw line at apply) (closing_quiet c.subscription over) once)

    step_once : (command : Command) (outcome : Outcome) → IsOutcomeOf p n moment es command outcome → Once (at (es ++ events_in outcome))
    step_once command outcome is = by_test (list_any is_given (events_in outcome)) refl
      where
        by_test : (t : Bool) → list_any is_given (events_in outcome) ≡ t → Once (at (es ++ events_in outcome))
        by_test false none = each_once p es (events_in outcome) (outcome_applies p n moment es command outcome (reason_for es moment command) is) none once
        by_test true some =
            let told = command_told p n moment es is_given (λ command. (c : MessageCorrelation) × (command ≡ commands.ProcessMessageSubscriptionCorrelate c)) giver_of command outcome is some in
            correlate_once told.0.0 outcome (subst (λ (x : Command). IsAcceptance p n moment es x outcome) told.0.1 told.2)

-- a subscription of a log of steps that ends with its first message was given at most one
pub given_at_most_once : (p n : ℕ) (log : List Batch) → AreStepsOn p n [] log → (key : ℕ) (s : ProcessSubscription) → process_subscription_at key (events_of log) ≡ Some s → IsGivenOnce s
given_at_most_once p n log steps key s is =
    subst (Once key) is (each_on_all (IsStep p n) [] (λ (front : List Batch). Once key (process_subscription_at key (events_of front)))
    (λ (front : List Batch) (batch : Batch) before once step. rw (events_of_more front batch) (step_once key p n batch.moment (events_of front) once batch.command batch.outcome step.outcome))
    tt log steps)
