use Rattle.std.proofs.Common.{◌≡◌, ◌∙◌, ◌+◌, ◌++◌, ◌∷◌, [], ap, sym, take}
use Rattle.std.proofs.lemmas.List.{take_more}
use Rattle.zb_disk.specs.Kept.{after, file_after}
use Rattle.zb_disk.proofs.PushLemmas.{file_push}
use Rattle.zb_disk.proofs.image.redo.Goals as goal

pub loop-call-preserved : goal.loop-call-preserved
loop-call-preserved c =
    let calls = take c.loop-call.call-index c.args.calls.now in
    let more : take (c.loop-call.call-index + 1) c.args.calls.now ≡ calls ++ c.call-item.result ∷ [] =
    take_more c.args.calls.now c.loop-call.call-index c.call-item.result c.loop-call-test.true ∙ ap (λ x. calls ++ x ∷ []) (sym c.call-item.is) in
    c.in_ok-redo_call.ensures
    ∙ ap (λ l. after l c.call-item.result) c.loop-call.invariant
    ∙ sym (file_push c.args.file.now.items calls c.call-item.result)
    ∙ ap (λ l. file_after c.args.file.now.items l) (sym more)
