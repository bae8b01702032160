use Rattle.std.proofs.Common.{◌≡◌, ◌∙◌, ◌+◌, ◌++◌, ◌∷◌, [], ap, sym, subst, take}
use Rattle.std.proofs.lemmas.List.{take_more}
use Rattle.zb_disk.specs.Image.{IsCovered}
use Rattle.zb_disk.proofs.image.cover.Goals as goal

pub loop-call-preserved : goal.loop-call-preserved
loop-call-preserved c =
    let calls = take c.loop-call.call-index c.args.calls.now in
    let more : take (c.loop-call.call-index + 1) c.args.calls.now ≡ calls ++ c.call-item.result ∷ [] =
    take_more c.args.calls.now c.loop-call.call-index c.call-item.result c.loop-call-test.true ∙ ap (λ x. calls ++ x ∷ []) (sym c.call-item.is) in
    subst (λ l. IsCovered c.args.image.now.items l c.args.fill.now c.cover_call.new.image.items) (sym more)
    (c.in_ok-cover_call.ensures c.args.image.now.items calls c.loop-call.invariant)
