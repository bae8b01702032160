use Rattle.std.proofs.Common.{◌+◌, ◌<◌, length, ap, arith}
use Rattle.zb_partition.specs.Log.{bodies_of}
use Rattle.zb_show.specs.Lines.{batch_lines}
use Rattle.zb_show.proofs.ShowLemmas.{batch_there, written_none}
use Rattle.zb_show.proofs.printing.print_frame.Goals as goal

-- nothing was written of a batch that could not be read
pub returns-in-Err-clause-shown : goal.returns-in-Err-clause-shown
returns-in-Err-clause-shown g c = λ tells told all has fits.
    let within : c.args.i < length (bodies_of all) = omega (arith, has.frames.count, c.requires.within) in
    let batch = batch_there all c.args.i within in
    let lines = batch_lines c.args.place c.args.position batch.0 in
    (batch.0, batch.1, tt, (lines, written_none lines (g.K.Sink.view c.args.sink.now).written, tt))

-- or a front of its lines
pub returns-in-Err-print_batch-clause-shown : goal.returns-in-Err-print_batch-clause-shown
returns-in-Err-print_batch-clause-shown g c = λ tells told all has fits.
    let part = c.in-Err-print_batch.ensures.written told in
    (c.in-Ok.batch, c.in-Ok.ensures.read tells all has fits, tt, (part.0, part.1, tt))

pub returns-clause-shown : goal.returns-clause-shown
returns-clause-shown g c = λ tells told all has fits.
    let whole = c.print_batch.ensures.written told in
    (c.in-Ok.batch, c.in-Ok.ensures.read tells all has fits, ap (λ n. c.args.position + n) c.records_in.ensures.records, rw c.in_default.is at whole)
