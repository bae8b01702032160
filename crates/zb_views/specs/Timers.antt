-- The timers of a log: queries over all its events.
use Rattle.std.specs.Prelude.{ℕ, ◌==◌, List, [], ◌∷◌, ◌++◌, filter, count_by, Bool, true, false, ◌&&◌, is_some, Option, Some, None, is_none}
use Rattle.std.specs.Option.{option_map_or}
use Rattle.std.specs.List.{find, flat_map}
use Rattle.zb_instance_records.specs.declared.happening.TimerCreated.{TimerCreated}
use Rattle.zb_model.specs.declared.record.Event.{Event}
use Rattle.zb_model.specs.declared.record.Event.TheVariants as events
use Rattle.zb_table.specs.Rows.{are_below}
use Rattle.zb_views.specs.Standing.{Sort, standing}
use Rattle.zb_views.specs.declared.timer.Timer.{Timer}

-- a timer as it is made (Zeebe, timers)
abbrev pub timer_of : TimerCreated → Timer
timer_of e = record { key = e.key; cell = e.cell; node = e.node; due = e.due }

-- the timer that an event makes
abbrev pub timer_told : Event → Option Timer
timer_told (events.TimerCreated e) = Some (timer_of e)
timer_told _ = None

-- the key of the timer that an event ends: it is triggered or canceled. One whose cell ends stands until it is canceled itself (Zeebe, timers)
abbrev pub timer_ended : Event → Option ℕ
timer_ended (events.TimerTriggered key) = Some key
timer_ended (events.TimerCanceled key) = Some key
timer_ended _ = None

-- an event ends the timer with a key
abbrev pub ends_timer : ℕ → Event → Bool
ends_timer timer e = option_map_or (λ key. timer == key) (timer_ended e) false

-- timers are made and end, and stay as they were (Zeebe, timers)
abbrev pub timer_sort : Sort Timer
timer_sort = record {
  told = λ before e. timer_told e;
  ends = λ before e t. ends_timer t.key e;
  says = λ before e t. t;
}

-- the timers that are there: those that were made and neither triggered nor canceled after, in the order in which they were made (Zeebe, timers)
abbrev pub timers : List Event → List Timer
timers es = standing timer_sort es

-- the timer with a key
abbrev pub timer_at : ℕ → List Event → Option Timer
timer_at key es = find (λ t. t.key == key) (timers es)

-- the timers of the cell with a key
abbrev pub timers_on : ℕ → List Event → List Timer
timers_on cell es = filter (λ t. t.cell == cell) (timers es)

-- the keys of all timers that were made, also of those that have ended
abbrev pub timers_made : List Event → List ℕ
timers_made es = flat_map (λ e. option_map_or (λ t. t.key ∷ []) (timer_told e) []) es

-- an event makes the timer with a key (own)
abbrev pub makes_timer : ℕ → Event → Bool
makes_timer timer e = option_map_or (λ t. t.key == timer) (timer_told e) false

-- how many of these events make the timer with a key (own)
abbrev pub times_timer_made : ℕ → List Event → ℕ
times_timer_made timer es = count_by (makes_timer timer) es

-- how many of these events end the timer with a key (own)
abbrev pub times_timer_ended : ℕ → List Event → ℕ
times_timer_ended timer es = count_by (ends_timer timer) es

-- the timer that an event makes, if it does, has a greater key than all that were made before (own)
abbrev pub makes_later_timer : List Event → Option Timer → Bool
makes_later_timer before None = true
makes_later_timer before (Some t) = are_below (λ k. k) t.key (timers_made before)

-- the timer that an event ends, if it does, is there (own)
abbrev pub ends_timer_there : List Event → Option ℕ → Bool
ends_timer_there before None = true
ends_timer_there before (Some key) = is_some (timer_at key before)

-- an event fits the timers of those before it (own)
abbrev pub fits_timers : List Event → Event → Bool
fits_timers before e = makes_later_timer before (timer_told e) && ends_timer_there before (timer_ended e)

-- each of the events fits the timers of the ones before and of those of the list in front of it (own)
abbrev pub all_fit_timers : List Event → List Event → Bool
all_fit_timers before [] = true
all_fit_timers before (e ∷ es) = fits_timers before e && all_fit_timers (before ++ e ∷ []) es

-- an event makes no timer and ends none (own)
abbrev pub says_nothing_of_timers : Event → Bool
says_nothing_of_timers e = is_none (timer_told e) && is_none (timer_ended e)
