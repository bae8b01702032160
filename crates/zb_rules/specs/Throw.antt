-- A worker throws an error in a job (BPMN 2.0.2, 10.5.7 and 13.3.3; Zeebe, jobs).
use Rattle.zb_exchange_records.specs.declared.job.JobError.{JobError}
use Rattle.zb_model.specs.declared.record.Event.TheVariants as events
use Rattle.zb_rules.specs.Making.{Making, just}

-- the error is thrown in the job, which is over (Zeebe, the records)
abbrev pub thrown : JobError → Making
thrown c = just (events.JobErrorThrown c)
