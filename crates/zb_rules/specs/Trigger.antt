-- A timer is triggered: the event comes about that its cell waits for (BPMN 2.0.2, 13.5.3; Zeebe, timers).
use Rattle.std.specs.Prelude.{ℕ, nat_le, List, [], ◌++◌, codes, Bool, not, if◌then◌else◌, Option, Some, None}
use Rattle.std.specs.Option.{option_map_or}
use Rattle.std.specs.Fmt.{decimal}
use Rattle.zb_model.specs.declared.record.Event.{Event}
use Rattle.zb_model.specs.declared.record.Event.TheVariants as events
use Rattle.zb_model.specs.declared.record.Rejection.{Rejection}
use Rattle.zb_model.specs.declared.record.RejectionKind.TheVariants as kinds
use Rattle.zb_views.specs.declared.timer.Timer.{Timer}
use Rattle.zb_views.specs.Timers.{timer_at}
use Rattle.zb_tokens.specs.Board.{Board}
use Rattle.zb_tokens.specs.MoveTrigger.{is_awaited}
use Rattle.zb_rules.specs.Shown.{holds_of_game}
use Rattle.zb_rules.specs.Making.{Making, just, and_then}
use Rattle.zb_rules.specs.Behind.{with_events_behind}

-- what is told where no timer has this key
abbrev pub no_timer : ℕ → List ℕ
no_timer key = codes "no timer " ++ decimal key

-- where its moment lies ahead
abbrev pub timer_not_due : ℕ → List ℕ
timer_not_due key = codes "timer " ++ (decimal key ++ codes " isn't due")

-- and where its cell doesn't wait for it
abbrev pub cell_not_waiting : ℕ → List ℕ
cell_not_waiting cell = codes "element " ++ (decimal cell ++ codes " doesn't wait")

-- on a board the cell of a timer waits for it (BPMN 2.0.2, 13.5.3)
abbrev pub waits_for : Timer → Board → Bool
waits_for t b = is_awaited b (record { cell = t.cell; node = t.node })

-- a rejection by the state that a timer is in, with this text
abbrev pub timer_in_wrong_state : List ℕ → Rejection
timer_in_wrong_state text = record { kind = kinds.InvalidState; reason = text }

-- why a timer isn't triggered at a moment: it isn't due, or its cell doesn't wait for it (Zeebe, timers)
abbrev pub reason_to_hold : List Event → ℕ → Timer → Option Rejection
reason_to_hold before moment t = if not (nat_le t.due moment) then Some (timer_in_wrong_state (timer_not_due t.key))
    else if not (holds_of_game (waits_for t) before) then Some (timer_in_wrong_state (cell_not_waiting t.cell))
    else None

-- the rejection of a command to trigger a timer, if there is a reason for one (Zeebe, timers)
abbrev pub reason_to_trigger : List Event → ℕ → ℕ → Option Rejection
reason_to_trigger before moment key = option_map_or (reason_to_hold before moment) (timer_at key before) (Some (record { kind = kinds.NotFound; reason = no_timer key }))

-- the event of a timer's node comes about for its cell
abbrev pub event_of_timer : Timer → Event
event_of_timer t = events.ProcessEventTriggered (record { cell = t.cell; node = t.node })

-- the timer ends, and its event comes about, with the events behind that (Zeebe, the records)
abbrev pub trigger_events : (p moment : ℕ) → Timer → Making
trigger_events p moment t = and_then (just (events.TimerTriggered t.key)) (with_events_behind p moment (event_of_timer t))

-- the same for the timer with a key
abbrev pub triggered : (p moment key : ℕ) → Making
triggered p moment key before = option_map_or (λ t. trigger_events p moment t before) (timer_at key before) []
