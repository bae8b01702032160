use Rattle.std.proofs.Common.{◌-◌, is_some, ap, ◌∙◌, arith, rules}
use Rattle.std.proofs.lemmas.Fn.{filter_same}
use Rattle.zb_table.specs.Places.{rows_in, ArePlaces}
use Rattle.zb_table.proofs.Changing.{swept}
use Rattle.zb_table.proofs.Counting.{places_swept}
use Rattle.zb_table.proofs.table.Table.sweep.Goals as goal

pub invariant_of-self : goal.invariant_of-self
invariant_of-self g c =
    let left : ArePlaces g.R.Row.key_in (c.self.inside.empty - c.trim.result) c.trim.new.places.items = record {
      ordered = c.trim.ensures.order c.self.invariant.ordered;
      counted = omega (arith, c.trim.ensures.count, c.self.invariant.counted);
    } in
    rw (filter_same _ (λ p. is_some p.row) _ (λ x b f' k. search rules) _ _ c.retain.ensures.filtered) (places_swept g.R.Row.key_in _ c.trim.new.places.items left)

pub returns-then-self-len : goal.returns-then-self-len
returns-then-self-len g c =
    ap (λ ps. rows_in ps) (filter_same _ (λ p. is_some p.row) _ (λ x b f' k. search rules) _ _ c.retain.ensures.filtered) ∙ (swept g.R.Row.key_in c.trim.new.places.items ∙ (c.trim.ensures.rows ∙ c.self.view_is))
