-- A worker fails a job (Zeebe, jobs and incidents).
use Rattle.std.specs.Prelude.{ℕ, ◌==◌, [], ◌∷◌, if◌then◌else◌}
use Rattle.std.specs.Option.{option_map_or}
use Rattle.zb_instance_records.specs.declared.happening.IncidentKind.TheVariants as kinds
use Rattle.zb_exchange_records.specs.declared.job.JobFailure.{JobFailure}
use Rattle.zb_model.specs.declared.record.Event.{Event}
use Rattle.zb_model.specs.declared.record.Event.TheVariants as events
use Rattle.zb_views.specs.View.{next_key}
use Rattle.zb_views.specs.Jobs.{job_at}
use Rattle.zb_rules.specs.Making.{Making, just, and_then}

-- the job has failed, with so many tries left
abbrev pub failure_told : JobFailure → Event
failure_told c = events.JobFailed c

-- where no try is left, an incident with the worker's text stands on the job's cell (Zeebe, incidents)
abbrev pub stopped : ℕ → JobFailure → Making
stopped p c before =
    if c.retries == 0
    then option_map_or (λ j. events.IncidentCreated (record { key = next_key p before; kind = kinds.JobNoRetries; cell = j.cell; job = c.key; text = c.text }) ∷ []) (job_at c.key before) []
    else []

-- the job has failed, and its cell is stopped where no try is left (Zeebe, the records)
abbrev pub failed : ℕ → JobFailure → Making
failed p c = and_then (just (failure_told c)) (stopped p c)
