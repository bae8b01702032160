use Rattle.std.proofs.Common.{Some, None, cond, ap, sym, ◌∙◌}
use Rattle.std.specs.Option.{option_copied, option_or}
use Rattle.std.specs.Str.{bytes_eq}
use Rattle.zb_check.specs.Notes.{noted}
use Rattle.zb_check.proofs.LookLemmas.{find_more, copied_or}
use Rattle.zb_check.proofs.ids.by_id.Goals as goal

pub loop-item-preserved : goal.loop-item-preserved
loop-item-preserved g c = λ q.
    ap option_copied (c.in_ok-keep.ensures q)
    ∙ (copied_or (noted c.loop-item.index q) (bytes_eq c.id.result.now q) _
    ∙ (ap (λ o. option_or o (cond (bytes_eq c.id.result.now q) (Some c.item-item.result) None)) (c.loop-item.invariant q)
    ∙ sym (find_more (λ x. bytes_eq (g.T.HasId.id_of x) q) c.args.items.now c.loop-item.item-index c.item-item.result (bytes_eq c.id.result.now q) c.loop-item-test.true c.item-item.is (ap (λ i. bytes_eq i q) c.id.ensures))))
