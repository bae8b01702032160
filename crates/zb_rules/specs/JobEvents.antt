-- Which events of jobs a log may have (Zeebe, jobs).
use Rattle.std.specs.Prelude.{ℕ, ◌==◌, List, Bool, true, false, ◌&&◌, not, is_some, is_none, if◌then◌else◌}
use Rattle.std.specs.Option.{option_map_or}
use Rattle.std.specs.List.{list_all}
use Rattle.zb_instance_records.specs.declared.happening.IncidentCreated.{IncidentCreated}
use Rattle.zb_instance_records.specs.declared.happening.IncidentKind.{IncidentKind}
use Rattle.zb_instance_records.specs.declared.happening.IncidentKind.TheVariants as kinds
use Rattle.zb_exchange_records.specs.declared.job.JobActivated.{JobActivated}
use Rattle.zb_model.specs.declared.record.Event.{Event}
use Rattle.zb_views.specs.declared.job.JobPhase.{JobPhase}
use Rattle.zb_views.specs.Jobs.{job_at, job_on, is_activatable, is_failed}
use Rattle.zb_tokens.specs.Work.{may_have_job, is_work_in}
use Rattle.zb_rules.specs.Shown.{holds_of_game}

-- the job with a key is there
abbrev pub has_job : ℕ → List Event → Bool
has_job key es = is_some (job_at key es)

-- and in a phase that passes
abbrev pub is_job_in : (JobPhase → Bool) → ℕ → List Event → Bool
is_job_in passes key es = option_map_or (λ j. passes j.phase) (job_at key es) false

-- a job is made for a cell that waits for it, and has none (Zeebe, jobs)
abbrev pub begins_job : ℕ → List Event → Bool
begins_job cell before = holds_of_game (may_have_job cell) before && is_none (job_on cell before)

-- a worker is given a job that it may have, with its node and its instance (Zeebe, jobs)
abbrev pub hands_out : JobActivated → List Event → Bool
hands_out e before = option_map_or (λ j. is_activatable j.phase && holds_of_game (is_work_in j.cell e.instance e.node) before) (job_at e.key before) false

-- each of these jobs is there
abbrev pub are_jobs : List ℕ → List Event → Bool
are_jobs keys before = list_all (λ key. has_job key before) keys

-- an incident of this kind tells that a job has no try left (Zeebe, incidents)
abbrev pub tells_of_job : IncidentKind → Bool
tells_of_job kinds.JobNoRetries = true
tells_of_job kind = false

-- the job that is the cause of an incident has failed, and is the one of its cell; or none is its cause (Zeebe, incidents)
abbrev pub has_cause : IncidentCreated → List Event → Bool
has_cause e before = if tells_of_job e.kind then not (e.job == 0) && option_map_or (λ j. is_failed j.phase && (j.cell == e.cell)) (job_at e.job before) false else e.job == 0
