use Rattle.std.proofs.Common.{◌≡◌, refl, subst, ℕ, arith}
use Rattle.std.proofs.lemmas.Result.{IfOk-weaker}
use Rattle.zb_model.specs.Upshots.{events_at, upshot_at, upshot_behind}
use Rattle.zb_views.specs.View.{events_of}
use Rattle.zb_partition.specs.Reading.{AreRefused}
use Rattle.zb_partition.proofs.ReadingLemmas.{known_read, bad_events, bad_heading}
use Rattle.zb_partition.proofs.opening.take_body.Goals as goal

pub returns-in-Ok-clause-taken : goal.returns-in-Ok-clause-taken
returns-in-Ok-clause-taken c = λ p log known.
    let heading : upshot_at c.args.body.now ≡ upshot_behind c.in-Ok.heading c.read_heading.new.cursor = rw (← c.new-cursor.ensures) c.in-Ok.ensures in
    IfOk-weaker c.take_events.result _ _
    (λ taken said is.
    known_read p log c.args.body.now c.read_heading.new.cursor c.in-Ok.heading c.args.known.now _ (λ i. omega (arith, c.type_inv.body i)) heading known c.take_events.ensures.place (said is) refl)
    (c.take_events.ensures.taken (events_of log) known.state)

pub returns-in-Ok-clause-bad : goal.returns-in-Ok-clause-bad
returns-in-Ok-clause-bad c = λ p log known.
    let heading : upshot_at c.args.body.now ≡ upshot_behind c.in-Ok.heading c.read_heading.new.cursor = rw (← c.new-cursor.ensures) c.in-Ok.ensures in
    IfOk-weaker c.take_events.result _ _
    (λ taken said is.
    bad_events p log c.args.body.now c.read_heading.new.cursor c.in-Ok.heading heading
    (subst (λ (q : ℕ). AreRefused q (events_of log) (events_at c.in-Ok.heading.events c.read_heading.new.cursor)) known.place (said is)))
    (c.take_events.ensures.bad (events_of log) known.state)

pub returns-in-Err-NotSpelled-clause-bad : goal.returns-in-Err-NotSpelled-clause-bad
returns-in-Err-NotSpelled-clause-bad c = λ p log known is. bad_heading p log c.args.body.now (rw (← c.new-cursor.ensures) (rw c.in-Err-NotSpelled.field-0-is at c.in-Err-NotSpelled.ensures))
