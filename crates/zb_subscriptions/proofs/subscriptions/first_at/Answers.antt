use Rattle.std.proofs.Common.{sym, ◌∙◌, arith}
use Rattle.zb_subscriptions.specs.Opened.{passes_place}
use Rattle.zb_subscriptions.proofs.FindLemmas.{found_here, found_later}
use Rattle.zb_subscriptions.proofs.subscriptions.first_at.Goals as goal

pub returns-then-passes_place : goal.returns-then-passes_place
returns-then-passes_place g c =
    let passes = passes_place (g.Q.Query.passes c.args.query.now) c.args.rows.now in
    sym (sym c.loop-place.invariant ∙ found_here passes c.args.places.now c.loop-place.place-index c.place-item.result (omega arith) c.place-item.is (sym c.passes_place.ensures ∙ c.if-passes_place.true))

pub loop-place-preserved : goal.loop-place-preserved
loop-place-preserved g c =
    let passes = passes_place (g.Q.Query.passes c.args.query.now) c.args.rows.now in
    sym (found_later passes c.args.places.now c.loop-place.place-index c.place-item.result (omega arith) c.place-item.is (sym c.passes_place.ensures ∙ c.if-passes_place.false)) ∙ c.loop-place.invariant
