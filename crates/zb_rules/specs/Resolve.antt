-- Resolving an incident (Zeebe, incidents).
use Rattle.std.specs.Prelude.{ℕ, ◌==◌, List, [], ◌∷◌, ◌++◌, codes, Bool, false, if◌then◌else◌, Option, Some, None, option_and_then}
use Rattle.std.specs.Fmt.{decimal}
use Rattle.std.specs.Option.{option_map_or}
use Rattle.zb_model.specs.declared.record.Event.{Event}
use Rattle.zb_model.specs.declared.record.Rejection.{Rejection}
use Rattle.zb_model.specs.declared.record.RejectionKind.TheVariants as kinds
use Rattle.zb_views.specs.Jobs.{job_at}
use Rattle.zb_tokens.specs.declared.board.Incident.{Incident}
use Rattle.zb_tokens.specs.Incidents.{incident_at}
use Rattle.zb_rules.specs.Shown.{board_of}
use Rattle.zb_rules.specs.Behind.{repair_event}
use Rattle.zb_rules.specs.JobReasons.{job_in_wrong_state, job_without_retries}

-- what is told where no incident has this key
abbrev pub no_incident : ℕ → List ℕ
no_incident key = codes "no incident " ++ decimal key

-- the incident with a key, by the events before
abbrev pub incident_in : ℕ → List Event → Option Incident
incident_in key before = option_and_then (λ b. incident_at b key) (board_of before)

-- the job with a key is there, and has no try left
abbrev pub is_without_retries : ℕ → List Event → Bool
is_without_retries job before = option_map_or (λ j. j.retries == 0) (job_at job before) false

-- why an incident isn't resolved: the job that is its cause has no try left (Zeebe, incidents)
abbrev pub reason_to_leave : List Event → Incident → Option Rejection
reason_to_leave before i = if is_without_retries i.job before then Some (job_in_wrong_state (job_without_retries i.job)) else None

-- the rejection of a command to resolve, if there is a reason for one
abbrev pub reason_to_resolve : List Event → ℕ → Option Rejection
reason_to_resolve before key = option_map_or (reason_to_leave before) (incident_in key before) (Some (record { kind = kinds.NotFound; reason = no_incident key }))

-- the incident is resolved, and its cell goes on; where what it evaluates has a fault again, another incident is made (Zeebe, incidents)
abbrev pub resolved : ℕ → List Event → List Event
resolved key before = option_map_or (λ i. repair_event i ∷ []) (incident_in key before) []
