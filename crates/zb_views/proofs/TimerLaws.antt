-- Laws of the timers as a log grows by an event.
use Rattle.std.proofs.Common.{◌≡◌, List, [], ◌∷◌, ◌++◌, filter, not, true, is_none, Option, Some, None, refl, ap, ◌∙◌, arith}
use Rattle.std.proofs.lemmas.List.{map-id}
use Rattle.zb_model.specs.declared.record.Event.{Event}
use Rattle.zb_views.specs.declared.timer.Timer.{Timer}
use Rattle.zb_views.specs.Standing.{begun_by}
use Rattle.zb_views.specs.Timers.{timer_told, timer_ended, ends_timer, timer_sort, timers, says_nothing_of_timers}
use Rattle.zb_views.proofs.StandingLaws.{IsSilent, standing_more, standing_kept}

-- the timers that an event doesn't end
abbrev pub timers_left : Event → List Timer → List Timer
timers_left e ts = filter (λ t. not (ends_timer t.key e)) ts

-- what one event more makes of the timers
pub timers_more : (es : List Event) (e : Event) → timers (es ++ e ∷ []) ≡ timers_left e (timers es) ++ begun_by (timer_told e)
timers_more es e = standing_more timer_sort es e ∙ ap (λ (l : List Timer). l ++ begun_by (timer_told e)) (map-id (timers_left e (timers es)))

-- where none is there
nothing_there : {A : Type 0} (a : Option A) → is_none a ≡ true → a ≡ None
nothing_there None is = refl
nothing_there (Some x) is = absurd (cc)

-- an event that says nothing of timers
pub silent_of_timers : (before : List Event) (e : Event) → says_nothing_of_timers e ≡ true → IsSilent timer_sort before e
silent_of_timers before e is =
    let ended = nothing_there (timer_ended e) (grind (arith, is)) in
    (nothing_there (timer_told e) (grind (arith, is)), λ t. rw ended refl, λ t. refl)

-- leaves them
pub timers_kept : (es : List Event) (e : Event) → says_nothing_of_timers e ≡ true → timers (es ++ e ∷ []) ≡ timers es
timers_kept es e is = standing_kept timer_sort es e (silent_of_timers es e is)
