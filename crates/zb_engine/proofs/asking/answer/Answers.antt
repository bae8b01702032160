use Rattle.std.proofs.Common.{◌++◌}
use Rattle.std.proofs.lemmas.List.{length-map}
use Rattle.zb_partition.specs.Ledger.{Opening}
use Rattle.zb_engine.proofs.AskingLemmas.{answered_by, cut_in_units}
use Rattle.zb_engine.proofs.asking.answer.Goals as goal

pub returns-in-Ok-deliver-clause-asked : goal.returns-in-Ok-deliver-clause-asked
returns-in-Ok-deliver-clause-asked g c = λ start made has.
    let done = c.in-Ok.ensures.done start made has in
    let many = length-map start.openings (λ (o : Opening g.row.D.Denot). o.batches) in
    answered_by start made c.args.request c.args.reading done.own done.done c.in-Ok.reply c.in-Ok-deliver.units _ many done.told (c.in-Ok-deliver.ensures.delivered start (made ++ done.own) done.holds)

pub returns-in-Err-deliver-clause-cut : goal.returns-in-Err-deliver-clause-cut
returns-in-Err-deliver-clause-cut g c = λ start made has.
    let done = c.in-Ok.ensures.done start made has in
    cut_in_units start made c.args.request c.args.reading done.own done.done c.in-Err-deliver.stop _ (c.in-Err-deliver.ensures.cut start (made ++ done.own) done.holds)
