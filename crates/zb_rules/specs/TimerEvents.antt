-- Which events of timers a log may have (Zeebe, timers).
use Rattle.std.specs.Prelude.{◌≡◌, ℕ, ◌==◌, ◌≤◌, List, Bool, false, Some, is_some}
use Rattle.zb_instance_records.specs.declared.happening.TimerCreated.{TimerCreated}
use Rattle.zb_model.specs.declared.record.Event.{Event}
use Rattle.zb_model.specs.declared.record.Event.TheVariants as events
use Rattle.zb_views.specs.declared.timer.Timer.{Timer}
use Rattle.zb_views.specs.Timers.{timer_at}
use Rattle.zb_tokens.specs.declared.board.Catch.TheVariants as catches
use Rattle.zb_tokens.specs.Board.{Board}
use Rattle.zb_tokens.specs.Catches.{may_open_at}

-- a timer opens for a cell that has become active, at a node for whose time it waits (BPMN 2.0.2, 13.5.3)
abbrev pub may_open : TimerCreated → Board → Bool
may_open e b = may_open_at catches.Time e.cell e.node b

-- an event triggers the timer with a key (Zeebe, timers)
abbrev pub triggers : ℕ → Event → Bool
triggers timer (events.TimerTriggered key) = key == timer
triggers timer e = false

-- a timer of these events is due at a moment, or was before (Zeebe, timers)
pub record IsDueBy (es : List Event) (timer moment : ℕ) : Type 0 where
  pub row : Timer
  pub there : timer_at timer es ≡ Some row
  pub due : row.due ≤ moment

-- the timer with a key is there
abbrev pub has_timer : ℕ → List Event → Bool
has_timer key es = is_some (timer_at key es)
