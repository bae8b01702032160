use Rattle.std.proofs.Common.{◌∙◌, sym}
use Rattle.zb_partition.specs.Log.{bodies_of}
use Rattle.zb_show.proofs.ShowLemmas.{batch_at, some_batch}
use Rattle.zb_show.proofs.printing.read_batch.Goals as goal

pub returns-in-Some-clause-read : goal.returns-in-Some-clause-read
returns-in-Some-clause-read g c = λ tells all has fits.
    let at = c.in_ok-frame.ensures.body tells (bodies_of all) has.frames in
    let found = rw c.in-Some.is at c.in_ok-batch.ensures.found in
    batch_at all c.args.i c.frame.new.body.items c.in-Some.batch at fits found.0 (sym c.deref.ensures.value ∙ found.1)

pub returns-in-None-clause-good : goal.returns-in-None-clause-good
returns-in-None-clause-good g c = λ tells all has fits n bad.
    let at = c.in_ok-frame.ensures.body tells (bodies_of all) has.frames in
    let none = rw c.in-None.is at c.in_ok-batch.ensures.none in
    some_batch all c.args.i c.frame.new.body.items at fits (λ batch is spelled. none batch is (c.deref.ensures.value ∙ spelled))
