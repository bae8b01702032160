use Rattle.std.proofs.Common.{◌++◌, ◌∷◌, [], ◌∙◌, ap, arith, subst, sym}
use Rattle.std.proofs.lemmas.Result.{on_ok_weaker}
use Rattle.zb_disk.specs.declared.calls.Call.TheVariants.{Wrote}
use Rattle.zb_disk.specs.Disk.{overwritten}
use Rattle.zb_disk.specs.Image.{IsCovered}
use Rattle.zb_disk.proofs.ImageLemmas.{covered_past, covered_write}
use Rattle.zb_disk.proofs.image.cover_range.Goals as goal

pub returns-then-write-len : goal.returns-then-write-len
returns-then-write-len c = λ file calls old. covered_past file c.args.fill.now c.args.image.now.items calls c.args.write.now (omega arith) old

pub returns : goal.returns
returns c = on_ok_weaker c.overwrite.result (λ written file calls old.
    let piece = c.in_ok-piece.ensures in
    subst (λ l. IsCovered file (calls ++ Wrote c.args.write.now ∷ []) c.args.fill.now l)
    (sym (written ∙ ap (λ l. overwritten c.args.image.now.items c.args.write.now.at l) c.deref.ensures.value))
    (covered_write file c.args.fill.now c.args.image.now.items c.in_ok-piece.piece.items calls c.args.write.now (omega arith) (record { size = omega (arith, piece.size); bytes = λ k within. piece.bytes k (omega (arith, within)) }) old)) c.overwrite.ensures.ok
