use Rattle.std.proofs.Common.{◌≡◌, rules, ◌++◌, ◌∷◌, [], None, sym, ap, ◌∙◌, subst, refl}
use Rattle.zb_model.specs.declared.record.Batch.{Batch}
use Rattle.zb_model.specs.declared.stop.Stop.{Stop}
use Rattle.zb_model.specs.declared.stop.Stop.TheVariants as stops
use Rattle.zb_store.specs.GateLog as gates
use Rattle.zb_store.specs.declared.gate_log.GateLog.{GateLog}
use Rattle.zb_partition.specs.Ledger.{log_of}
use Rattle.zb_partition.specs.Partition.{disk_of, in_writing}
use Rattle.zb_partition.specs.Submitting.{IsStepFor, HasRefused, IsAdded, IsUnwritten}
use Rattle.zb_partition.proofs.WritingLemmas.{has_kept, leaves_log}
use Rattle.zb_partition.proofs.LedgerLaws.{step_for, committed_by, refused_by, refused_none}
use Rattle.zb_partition.proofs.partition.Partition.submit.Goals as goal

pub returns-in-Err-clause-stopped : goal.returns-in-Err-clause-stopped
returns-in-Err-clause-stopped g c = λ account holds.
    let laws = g.met.D.Disk in
    let old = c.args.self.now in
    let new = c.make.new.self in
    let has = holds.is_open.has in
    let none : in_writing new ≡ None = c.in-Err.ensures.in_writing ∙ has.resting in
    let memory : c.in-Err.stop ≡ stops.Memory = let e = c.in-Err.ensures.memory in cc in
    let leaves = leaves_log old.log new (log_of account) c.in-Err.ensures.log none laws.images_told (λ tells image was. laws.only_now (disk_of old) image tells was) has.frames _ in
    let faults = ap (λ (l : GateLog g.row.D.Denot g.D.Disk). (gates.view_of_log l).faults) c.in-Err.ensures.log in
    subst (λ (stop : Stop). HasRefused account c.args.reading c.args.begin c.args.command stop new) (sym memory)
    (refused_none account old holds new c.in-Err.ensures.same.slots c.args.reading c.args.begin c.args.command none leaves faults)

pub returns-in-Ok-write-clause-committed : goal.returns-in-Ok-write-clause-committed
returns-in-Ok-write-clause-committed g c = λ account holds.
    let old = c.args.self.now in
    let log = log_of account in
    let batch = c.in-Ok.batch in
    let made = c.in-Ok.ensures in
    let done = c.in-Ok-write.ensures in
    let stored = c.in-Ok-write.batch in
    let held = has_kept log old _ refl refl refl refl holds.is_open.has in
    let there = subst (λ (l : GateLog g.row.D.Denot g.D.Disk). IsAdded log batch l c.write.new.self) made.log (done.written log (made.ahead log held)) in
    let written = subst (λ (b : Batch). IsAdded log b old.log c.write.new.self) (sym done.stored) there in
    let step = step_for account old holds c.args.reading c.later_of-moment.result c.args.begin c.args.command batch c.later_of-moment.ensures (made.step log held) made.command in
    committed_by account old holds _ (done.same.slots ∙ made.same.slots) c.args.reading c.args.begin c.args.command stored
    (subst (λ (b : Batch). IsStepFor account c.args.reading c.args.begin c.args.command b) (sym done.stored) step)
    (record {
      has = has_kept (log ++ stored ∷ []) c.write.new.self _ refl refl refl refl written.has;
      long = written.long;
      fits = written.fits;
      leaves = written.leaves;
      later = written.later;
      steady = written.steady;
    })
    refl
    (record { place = done.same.place ∙ made.same.place; partitions = done.same.partitions ∙ made.same.partitions; limit = done.same.limit ∙ made.same.limit; slots = done.same.slots ∙ made.same.slots })

pub returns-in-Err-write-clause-stopped : goal.returns-in-Err-write-clause-stopped
returns-in-Err-write-clause-stopped g c = λ account holds.
    let old = c.args.self.now in
    let log = log_of account in
    let batch = c.in-Ok.batch in
    let made = c.in-Ok.ensures in
    let stop = c.in-Err-write.stop in
    let said = c.in-Err-write.ensures in
    let held = has_kept log old _ refl refl refl refl holds.is_open.has in
    let left = subst (λ (l : GateLog g.row.D.Denot g.D.Disk). IsUnwritten log batch stop l c.write.new.self) made.log (said.unwritten log (made.ahead log held)) in
    let step = step_for account old holds c.args.reading c.later_of-moment.result c.args.begin c.args.command batch c.later_of-moment.ensures (made.step log held) made.command in
    refused_by account old holds c.write.new.self (said.same.slots ∙ made.same.slots) stop left.leaves left.steady c.args.reading c.args.begin c.args.command batch step left.why

pub invariant_of-self-in-Ok-write : goal.invariant_of-self-in-Ok-write
invariant_of-self-in-Ok-write g c = record {
  whole = search rules;
  sound = search rules;
  limited = search rules;
  counted = search rules;
  resting = λ live. c.in-Ok-write.ensures.ready.2 ∙ (c.in-Ok.ensures.in_writing ∙ c.args.self.now.resting c.requires.live);
}
