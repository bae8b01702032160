-- The table of timers.
use Rattle.std.specs.Prelude.{ℕ, ◌==◌, List, map, filter, nat_le, Bool, true, Option, None, Some}
use Rattle.zb_model.specs.declared.record.Event.{Event}
use Rattle.zb_table.specs.Earliest.{earliest}
use Rattle.zb_table.specs.Rows.{are_below}
use Rattle.zb_views.specs.declared.timer.Timer.{Timer}
use Rattle.zb_views.specs.Timers.{timer_told}

-- a timer has a place among others, if there is one: a greater key than all (own)
abbrev pub has_place : List Timer → Option Timer → Bool
has_place ts None = true
has_place ts (Some t) = are_below (λ x. x.key) t.key ts

-- an event can be taken into a table of timers: where it makes one, that has a greater key than all (own)
abbrev pub has_place_for_timer : List Timer → Event → Bool
has_place_for_timer ts e = has_place ts (timer_told e)

-- the keys of the timers of a cell, in the order of the list (own)
abbrev pub keys_on : ℕ → List Timer → List ℕ
keys_on cell ts = map (λ t. t.key) (filter (λ t. t.cell == cell) ts)

-- when a timer is due, and its key: timers come due in this order (own)
abbrev pub place_of_timer : Timer → ℕ × ℕ
place_of_timer t = (t.due, t.key)

-- of the timers whose moments have come the first by the moment, then by the key (Zeebe, timers)
abbrev pub due_timer : ℕ → List Timer → Option Timer
due_timer now ts = earliest place_of_timer (filter (λ t. nat_le t.due now) ts)
