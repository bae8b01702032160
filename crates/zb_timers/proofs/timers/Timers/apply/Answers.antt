use Rattle.std.proofs.Common.{refl, sym, ap, ◌∙◌}
use Rattle.std.proofs.lemmas.Result.{on_ok_weaker}
use Rattle.zb_model.specs.declared.record.Event.TheVariants as events
use Rattle.zb_views.specs.Standing.{standing_by}
use Rattle.zb_views.specs.Timers.{timer_of, timer_sort}
use Rattle.zb_views.proofs.StandingLaws.{all_left, one_more}
use Rattle.zb_views.proofs.TimerLaws.{silent_of_timers}
use Rattle.zb_timers.proofs.timers.Timers.apply.Goals as goal

pub returns-then-says_nothing_of_timers : goal.returns-then-says_nothing_of_timers
returns-then-says_nothing_of_timers c = λ before. sym (all_left timer_sort before c.args.event.now c.args.self.now (silent_of_timers before c.args.event.now (sym c.if-says_nothing_of_timers.ensures)))

pub returns-in-TimerCreated : goal.returns-in-TimerCreated
returns-in-TimerCreated c = λ before.
    let ts = c.args.self.now in
    let e = c.in-TimerCreated.e in
    on_ok_weaker c.add.result (λ is. is ∙ sym (ap (λ x. standing_by timer_sort before x ts) c.in-TimerCreated.is ∙ one_more timer_sort before (events.TimerCreated e) ts (timer_of e) refl (λ t. refl) (λ t. refl))) c.add.ensures
