use Rattle.std.proofs.Common.{refl, sym, subst, inl, inr, map, string_bytes, Result, Ok, Err, arith}
use Rattle.zb_outside.specs.declared.trouble.Trouble.{Trouble}
use Rattle.zb_tally.specs.Served.{IsSummary}
use Rattle.zb_disk.specs.contracts.sound.SoundDiskDisk.TheImpl as sound
use Rattle.zb_show.proofs.ShowLemmas.{sent_front, told_written}
use Rattle.zb_tally.proofs.RunLemmas.{of_run, of_sink, run_cause, sink_cause}
use Rattle.zb_tally.proofs.serving.write_summary.Goals as goal

-- nothing was written
pub returns-in-Err-clause-served : goal.returns-in-Err-clause-served
returns-in-Err-clause-served g c = inl (refl, of_run sound.ghosts (map string_bytes c.args.words.now) c.in-Err.fault c.in-Err.ensures.fault)

pub returns-in-Err-clause-cause : goal.returns-in-Err-clause-cause
returns-in-Err-clause-cause g c = run_cause sound.ghosts (map string_bytes c.args.words.now) _ _ _ c.in-Err.fault c.in-Err.ensures.fault

-- a front of the summary was, and all of it where the sink took it
pub returns-in-Ok-send-clause-served : goal.returns-in-Ok-send-clause-served
returns-in-Ok-send-clause-served g c =
    let summary = subst (IsSummary sound.ghosts (map string_bytes c.args.words.now)) (sym c.as_bytes.ensures.value) c.in-Ok.ensures.told in
    let sent : Result (Unit {0}) Trouble = Ok tt in
    let told = told_written g.K.Sink.tells sent c.as_bytes.result.now (g.K.Sink.view c.args.sink.now).written (g.K.Sink.view c.send.new.sink).written
    (λ told. sent_front sent c.as_bytes.result.now _ _ (c.in-Ok-send.ensures.sent told) (c.in-Ok-send.ensures.part told)) in
    inr ((0, omega arith, refl), (told.0, (c.as_bytes.result.now, summary, told.1), told.2))

pub returns-clause-served : goal.returns-clause-served
returns-clause-served g c =
    let summary = subst (IsSummary sound.ghosts (map string_bytes c.args.words.now)) (sym c.as_bytes.ensures.value) c.in-Ok.ensures.told in
    let sent : Result (Unit {0}) Trouble = Err c.in-Err-send.trouble in
    let told = told_written g.K.Sink.tells sent c.as_bytes.result.now (g.K.Sink.view c.args.sink.now).written (g.K.Sink.view c.send.new.sink).written
    (λ told. sent_front sent c.as_bytes.result.now _ _ (c.in-Err-send.ensures.sent told) (c.in-Err-send.ensures.part told)) in
    inr (of_sink c.in-Err-send.trouble, (told.0, (c.as_bytes.result.now, summary, told.1), tt))

pub returns-clause-cause : goal.returns-clause-cause
returns-clause-cause g c = sink_cause sound.ghosts (map string_bytes c.args.words.now) _ _ _ c.in-Err-send.trouble c.in-Err-send.ensures.cause
