use Rattle.std.proofs.Common.{◌≡◌, ◌∙◌, ℕ, List, ap, sym}
use Rattle.std.proofs.lemmas.Result.{on_ok_weaker}
use Rattle.zb_model.specs.declared.record.Event.{Event}
use Rattle.zb_model.specs.declared.record.Event.TheVariants as events
use Rattle.zb_views.specs.declared.timer.Timer.{Timer}
use Rattle.zb_views.specs.Timers.{timers_on}
use Rattle.zb_timers.specs.Table.{keys_on}
use Rattle.zb_rules.specs.Behind.{timers_canceled_on}
use Rattle.zb_rules.specs.Making.{Making, just, each_made}
use Rattle.zb_state.specs.State.{IsStateOf}
use Rattle.zb_follow.proofs.MakerLemmas.{same_cant, same_put, each_of_part}
use Rattle.zb_follow.proofs.catches.ClosedTimersMaker.put.Goals as goal

abbrev canceled : List ℕ → Making
canceled keys = each_made (λ key. just (events.TimerCanceled key)) keys

-- they are those of the timers on the cell
are_canceled : (c : goal.After-drop-keys-inside) → (es : List Event) → IsStateOf es c.args.state.now → canceled c.as_slice-things.result.now es ≡ timers_canceled_on c.args.self.0 es
are_canceled c es is =
    let are = c.in_ok-keys.ensures.keys ∙ ap (λ (ts : List Timer). keys_on c.args.self.0 ts) (sym (c.timers.ensures es is)) in
    ap (λ (keys : List ℕ). canceled keys es) (c.as_slice-things.ensures ∙ are) ∙ each_of_part events.TimerCanceled (λ t. t.key) (timers_on c.args.self.0 es) es

pub returns-clause-ok : goal.returns-clause-ok
returns-clause-ok c =
    on_ok_weaker c.put.result
    (same_put (canceled c.as_slice-things.result.now) (timers_canceled_on c.args.self.0) c.args.state.now c.put.new.state c.args.out.now c.put.new.out (are_canceled c))
    c.put.ensures.ok

pub returns-clause-misfit : goal.returns-clause-misfit
returns-clause-misfit c = λ misfit.
    same_cant (canceled c.as_slice-things.result.now) (timers_canceled_on c.args.self.0) c.args.state.now (are_canceled c) (c.put.ensures.misfit misfit)
