use Rattle.std.proofs.Common.{◌≡◌, take, Bool, Some, None, true, false, if◌then◌else◌, sym, ap, ◌∙◌, rules}
use Rattle.zb_arrivals.specs.Newer.{newer_of}
use Rattle.zb_arrivals.proofs.GreatestLemmas.{best_of, best_more, newer_none}
use Rattle.zb_arrivals.proofs.others.greatest.Goals as goal
use Rattle.zb_arrivals.proofs.others.greatest.Goals.{then-passes, else-passes}

pub loop-row-preserved : goal.loop-row-preserved
loop-row-preserved g c =
    let key = g.R.Row.key_in in
    let p = g.Q.Query.passes c.args.query.now in
    let row = c.row-item.result in
    let so_far = c.loop-row.invariant in
    let more = best_more key p c.args.rows.now c.loop-row.row-index row c.loop-row-test.true c.row-item.is in
    elim c.if-passes.branch [
      | then-passes w ↦
          let is : p row ≡ true = search rules in
          let best : c.if-passes.best ≡ newer_of c.loop-row.best (Some (key row)) = search rules in
          best ∙ (ap (λ o. newer_of o (Some (key row))) so_far ∙ (ap (λ (t : Bool). newer_of (best_of key p (take c.loop-row.row-index c.args.rows.now)) (if t then Some (key row) else None)) (sym is) ∙ sym more))
      | else-passes w ↦
          let is : p row ≡ false = search rules in
          let best : c.if-passes.best ≡ c.loop-row.best = search rules in
          best ∙ (so_far ∙ (sym (newer_none (best_of key p (take c.loop-row.row-index c.args.rows.now))) ∙ (ap (λ (t : Bool). newer_of (best_of key p (take c.loop-row.row-index c.args.rows.now)) (if t then Some (key row) else None)) (sym is) ∙ sym more)))
    ]
