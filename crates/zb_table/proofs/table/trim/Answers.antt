use Rattle.std.proofs.Common.{◌≡◌, ◌++◌, ◌∷◌, [], length, take, sym, ap, subst, ◌∙◌, arith, rules, length-append}
use Rattle.zb_table.specs.Places.{count_empty, rows_in, AreOrdered}
use Rattle.zb_table.proofs.Changing.{ordered_front, rows_front, take_front}
use Rattle.zb_table.proofs.Counting.{count_front}
use Rattle.zb_table.proofs.table.trim.Goals as goal

pub loop-places-preserved : goal.loop-places-preserved
loop-places-preserved g c =
    let key = g.R.Row.key_in in
    let kept = c.loop-places.invariant in
    let ends = c.ends_empty.ensures (search rules) in
    let front = ends.0 in
    let last = ends.1 in
    let is : c.loop-places.places.items ≡ front ++ last ∷ [] = sym c.deref.ensures.value ∙ ends.2 in
    let long = ap length is ∙ length-append front (last ∷ []) in
    let left : c.pop.new.self.items ≡ front =
    c.pop.ensures.rest ∙ (ap (λ n. take n c.loop-places.places.items) (omega (arith, c.loop-places.places.ok.0, long)) ∙ (ap (take (length front)) is ∙ take_front front last)) in
    record {
      rows = ap (λ ps. rows_in ps) left ∙ (sym (rows_front front last ends.3) ∙ (ap (λ ps. rows_in ps) (sym is) ∙ kept.rows));
      order = λ up. subst (λ ps. AreOrdered key 0 ps) (sym left) (ordered_front key 0 front last (subst (λ ps. AreOrdered key 0 ps) is (kept.order up)));
      count = omega (arith, ap (λ ps. count_empty ps) left, count_front front last ends.3, ap (λ ps. count_empty ps) is, kept.count);
      few = omega (arith, ap length left, long, kept.few);
    }
