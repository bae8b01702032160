use Rattle.std.proofs.Common.{◌≡◌, ℕ, ◌<◌, ◌∷◌, ◌++◌, [], None, Some, refl, sym, ap, ◌∙◌, length, arith}
use Rattle.std.proofs.lemmas.List.{length-map}
use Rattle.zb_model.specs.declared.stop.Stop.TheVariants as stops
use Rattle.zb_world.specs.Entries.{as_entry}
use Rattle.zb_wire.specs.Asked.{partition_asked}
use Rattle.zb_partition.specs.Ledger.{Opening}
use Rattle.zb_engine.specs.Solo.{logs_in, partitions_in}
use Rattle.zb_engine.proofs.AnswerLemmas.{asked_run}
use Rattle.zb_engine.proofs.AskingLemmas.{asked_within, cut_asking, command_asked, command_done, command_cut}
use Rattle.zb_engine.proofs.MadeLemmas.{ended_resting}
use Rattle.zb_engine.proofs.asking.command.Goals as goal

pub commit-requires-clause-there : goal.commit-requires-clause-there
commit-requires-clause-there g c =
    let within = asked_within c.count.result c.args.request (c.count.ensures.some) in
    omega (arith, within, c.count.ensures.many, c.partition-partition.ensures)

pub commit-requires-clause-run : goal.commit-requires-clause-run
commit-requires-clause-run g c = asked_run c.args.request c.in-Some.command (sym c.into_command.ensures ∙ c.in-Some.is)

pub returns-in-Err-clause-cut : goal.returns-in-Err-clause-cut
returns-in-Err-clause-cut g c = λ start made has.
    let many = length-map start.openings (λ (o : Opening g.row.D.Denot). o.batches) in
    let at : c.partition-partition.result ≡ partition_asked (length (logs_in start)) c.args.request =
    c.partition-partition.ensures ∙ ap (λ (n : ℕ). partition_asked n c.args.request) (c.count.ensures.count start made has ∙ sym many) in
    command_cut start made c.args.request c.args.reading c.in-Some.command c.partition-partition.result (sym c.into_command.ensures ∙ c.in-Some.is) at c.in-Err.stop c.commit.new.self
    (c.in-Err.ensures.stopped start made has)

pub returns-in-Ok-Some-clause-done : goal.returns-in-Ok-Some-clause-done
returns-in-Ok-Some-clause-done g c = λ start made has.
    let many = length-map start.openings (λ (o : Opening g.row.D.Denot). o.batches) in
    let at : c.partition-partition.result ≡ partition_asked (length (logs_in start)) c.args.request =
    c.partition-partition.ensures ∙ ap (λ (n : ℕ). partition_asked n c.args.request) (c.count.ensures.count start made has ∙ sym many) in
    command_done start made c.args.request c.args.reading c.in-Some.command c.partition-partition.result (sym c.into_command.ensures ∙ c.in-Some.is) at c.in-Ok.batch c.in-Ok-Some.reply
    c.commit.new.self many (c.in-Ok.ensures.placed start made has) (sym c.in-Ok-Some.ensures.told ∙ c.in-Ok-Some.field-0-is)

-- there was no memory for the reply
pub returns-in-Ok-None-clause-cut : goal.returns-in-Ok-None-clause-cut
returns-in-Ok-None-clause-cut g c = λ start made has.
    let many = length-map start.openings (λ (o : Opening g.row.D.Denot). o.batches) in
    let at : c.partition-partition.result ≡ partition_asked (length (logs_in start)) c.args.request =
    c.partition-partition.ensures ∙ ap (λ (n : ℕ). partition_asked n c.args.request) (c.count.ensures.count start made has ∙ sym many) in
    let placed = c.in-Ok.ensures.placed start made has in
    let one = as_entry c.partition-partition.result c.in-Ok.batch ∷ [] in
    let within : 0 < length (partitions_in c.commit.new.self) = omega (arith, c.commit.new.self.some) in
    rw (c.keep.ensures.stop) (cut_asking start made c.args.request c.args.reading one None stops.Memory c.keep.new.self
    (command_asked start made c.args.request c.args.reading c.in-Some.command c.partition-partition.result (sym c.into_command.ensures ∙ c.in-Some.is) at c.in-Ok.batch c.commit.new.self placed)
    (λ entry is. absurd (cc))
    (ended_resting start (made ++ one) c.commit.new.self c.keep.new.self placed.holds 1 0 refl within g.met.D.Disk.images_told c.keep.ensures.partitions c.keep.ensures.stamps
    (c.keep.ensures.kept ∙ ap (λ (p : ℕ). Some (p, stops.Memory)) c.new.ensures)))
