-- What element instances hear from the home of their messages: that it has a subscription, that it has it no longer, and a message for it (BPMN 2.0.2, 13.5.3; Zeebe, the records).
use Rattle.std.specs.Prelude.{ℕ, List, [], ◌∷◌, ◌++◌, codes, Bool, false, not, if◌then◌else◌, Option, Some, None, option_map, option_and_then}
use Rattle.std.specs.Option.{option_map_or}
use Rattle.std.specs.Fmt.{decimal}
use Rattle.std.specs.Str.{bytes_eq}
use Rattle.zb_base.specs.declared.vars.Variable.{Variable}
use Rattle.zb_exchange_records.specs.declared.subscription.MessageCorrelation.{MessageCorrelation}
use Rattle.zb_model.specs.declared.record.Event.{Event}
use Rattle.zb_model.specs.declared.record.Event.TheVariants as events
use Rattle.zb_model.specs.declared.record.Rejection.{Rejection}
use Rattle.zb_model.specs.declared.record.RejectionKind.TheVariants as kinds
use Rattle.zb_views.specs.declared.process_subscription.ProcessSubscription.{ProcessSubscription}
use Rattle.zb_views.specs.ProcessSubscriptions.{process_subscription_at, is_being_created, is_being_deleted, has_kept}
use Rattle.zb_tokens.specs.declared.board.Assignments.{Assignments}
use Rattle.zb_tokens.specs.declared.board.Cell.{Cell}
use Rattle.zb_tokens.specs.Board.{Board, cell_at}
use Rattle.zb_tokens.specs.Mappings.{gives_outputs}
use Rattle.zb_tokens.specs.MoveTrigger.{is_awaited}
use Rattle.zb_record.specs.Answers.{was_correlated, being_deleted}
use Rattle.zb_rules.specs.Behind.{closing_of, with_events_behind}
use Rattle.zb_rules.specs.InFront.{assigning}
use Rattle.zb_rules.specs.Making.{Making, just, and_then}
use Rattle.zb_rules.specs.Shown.{board_of, holds_of_game}
use Rattle.zb_rules.specs.Subscribe.{unknown_subscription}
use Rattle.zb_rules.specs.Trigger.{cell_not_waiting}

-- what is told where a subscription isn't being created
abbrev pub not_being_created : ℕ → List ℕ
not_being_created key = codes "subscription " ++ (decimal key ++ codes " isn't being created")

-- and where it isn't being deleted
abbrev pub not_being_deleted : ℕ → List ℕ
not_being_deleted key = codes "subscription " ++ (decimal key ++ codes " isn't being deleted")

-- a rejection by the state that a subscription is in, with this text
abbrev pub subscription_in_wrong_state : List ℕ → Rejection
subscription_in_wrong_state text = record { kind = kinds.InvalidState; reason = text }

-- what there is against the subscription with a key: it isn't there, or this
abbrev pub against : List Event → ℕ → (ProcessSubscription → Option Rejection) → Option Rejection
against before key reason = option_map_or reason (process_subscription_at key before) (Some (unknown_subscription key))

-- the rejection of what says that a subscription is there, if there is a reason for one (Zeebe)
abbrev pub reason_to_confirm : List Event → ℕ → Option Rejection
reason_to_confirm before key = against before key (λ s. if is_being_created s.phase then None else Some (subscription_in_wrong_state (not_being_created key)))

-- and of what says that it is gone
abbrev pub reason_to_forget : List Event → ℕ → Option Rejection
reason_to_forget before key = against before key (λ s. if is_being_deleted s.phase then None else Some (subscription_in_wrong_state (not_being_deleted key)))

-- on a board the cell of a subscription waits for its message (BPMN 2.0.2, 13.5.3)
abbrev pub waits_for_message : ProcessSubscription → Board → Bool
waits_for_message s b = is_awaited b (record { cell = s.cell; node = s.node })

-- why a subscription isn't given a message: it was before, it is being deleted, or its cell doesn't wait (Zeebe; their order own)
abbrev pub reason_to_pass_over : List Event → ℕ → ProcessSubscription → Option Rejection
reason_to_pass_over before message s =
    if has_kept message s then Some (subscription_in_wrong_state (was_correlated message))
    else if is_being_deleted s.phase then Some (subscription_in_wrong_state (being_deleted s.key))
    else if not (holds_of_game (waits_for_message s) before) then Some (subscription_in_wrong_state (cell_not_waiting s.cell))
    else None

-- the rejection of a message for a subscription, if there is a reason for one
abbrev pub reason_to_receive : List Event → MessageCorrelation → Option Rejection
reason_to_receive before c = against before c.subscription (reason_to_pass_over before c.message)

-- it is told that the subscription is there
abbrev pub confirmed : ℕ → Making
confirmed key = just (events.ProcessMessageSubscriptionCreated key)

-- and that it is gone
abbrev pub forgotten : ℕ → Making
forgotten key = just (events.ProcessMessageSubscriptionDeleted key)

-- the one with a key begins to be deleted, if it ends with the first message that it is given
abbrev pub closed_after : ℕ → Making
closed_after key before = option_map_or (λ s. if s.cancel then closing_of s ∷ [] else []) (process_subscription_at key before) []

-- what a message brings is set on a cell for whose own event it is, where its node has outputs, which hand it up, else it is handed up from the cell; that for another event is handed up from the scope of the cell (Zeebe, variable mappings)
abbrev pub brought_to : Board → ProcessSubscription → List Variable → Cell → Assignments
brought_to b s variables c =
    if bytes_eq c.node s.node then record { scope = s.cell; local = gives_outputs b c; variables = variables }
    else record { scope = c.scope; local = false; variables = variables }

-- what a message brings to a subscription, by the events before
abbrev pub brought : List Variable → ProcessSubscription → List Event → Option Assignments
brought variables s before = option_and_then (λ b. option_map (brought_to b s variables) (cell_at b s.cell)) (board_of before)

-- the event of a subscription's node comes about for its cell
abbrev pub event_of_subscription : ProcessSubscription → Event
event_of_subscription s = events.ProcessEventTriggered (record { cell = s.cell; node = s.node })

-- a subscription is given a message, and begins to be deleted if it ends with that; what the message brings is set, and the event comes about, with the events behind that (Zeebe, the records)
abbrev pub receive_events : (p moment : ℕ) → MessageCorrelation → ProcessSubscription → Making
receive_events p moment c s before =
    and_then (just (events.ProcessMessageSubscriptionCorrelated (record { subscription = c.subscription; message = c.message })))
    (and_then (closed_after c.subscription)
    (and_then (assigning (brought c.variables s before)) (with_events_behind p moment (event_of_subscription s)))) before

-- the same for the subscription with the key that the message is for
abbrev pub received : (p moment : ℕ) → MessageCorrelation → Making
received p moment c before = option_map_or (λ s. receive_events p moment c s before) (process_subscription_at c.subscription before) []
