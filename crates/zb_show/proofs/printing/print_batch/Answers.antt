use Rattle.std.proofs.Common.{◌≡◌, List, ℕ, ◌++◌, ap, ◌∙◌, subst}
use Rattle.zb_show.specs.Lines.{batch_lines}
use Rattle.zb_show.specs.Show.{Writes}
use Rattle.zb_show.proofs.ShowLemmas.{sent_front, written_none}
use Rattle.zb_show.proofs.printing.print_batch.Goals as goal

pub returns-in-Ok-clause-written : goal.returns-in-Ok-clause-written
returns-in-Ok-clause-written g c = λ told.
    let lines : c.as_bytes.result.now ≡ batch_lines c.args.place c.args.position c.args.batch.now = c.as_bytes.ensures.value ∙ (c.in-Ok.ensures ∙ ap (λ text. text ++ batch_lines c.args.place c.args.position c.args.batch.now) c.new-text.ensures.bytes) in
    subst (λ (bytes : List ℕ). Writes c.send.result bytes (g.K.Sink.view c.args.sink.now).written (g.K.Sink.view c.send.new.sink).written) lines
    (sent_front c.send.result c.as_bytes.result.now (g.K.Sink.view c.args.sink.now).written (g.K.Sink.view c.send.new.sink).written (c.send.ensures.sent told) (c.send.ensures.part told))

pub returns-clause-written : goal.returns-clause-written
returns-clause-written g c = λ told.
    let lines = batch_lines c.args.place c.args.position c.args.batch.now in
    (lines, written_none lines (g.K.Sink.view c.args.sink.now).written, tt)
