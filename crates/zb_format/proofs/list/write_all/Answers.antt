use Rattle.zb_format.proofs.Adding.{written_next}
use Rattle.zb_format.proofs.list.write_all.Goals as goal

pub loop-item-preserved : goal.loop-item-preserved
loop-item-preserved g c =
    written_next g.T.Format.layout.spelling g.T.Format.layout.fits _ _ c.args.items.now c.loop-item.item-index c.loop-item.encoder c.item-item.result _ c.loop-item-test.true c.item-item.is
    c.loop-item.invariant c.in_ok-write.ensures.added c.in_ok-write.ensures.kept c.in_ok-write.ensures.some c.in_ok-write.ensures.fits
