-- The table of jobs.
use Rattle.std.specs.Prelude.{◌≡◌, ℕ, ◌==◌, List, [], ◌∷◌, filter, nat_le, Bool, true, false, ◌&&◌, is_none, Option, None}
use Rattle.std.specs.List.{find}
use Rattle.zb_model.specs.declared.record.Event.{Event}
use Rattle.zb_model.specs.declared.record.Event.TheVariants as events
use Rattle.zb_table.specs.Earliest.{earliest}
use Rattle.zb_table.specs.Rows.{are_below}
use Rattle.zb_views.specs.declared.job.Job.{Job}
use Rattle.zb_views.specs.Jobs.{is_activated, job_changed}

-- the first of some jobs that waits on a cell (own)
abbrev pub job_of_cell : ℕ → List Job → Option Job
job_of_cell cell js = find (λ j. j.cell == cell) js

-- no two jobs wait on one cell (own)
abbrev pub HaveOwnCells : List Job → Type 0
HaveOwnCells [] = Unit {0}
HaveOwnCells (j ∷ js) = (job_of_cell j.cell js ≡ None) × HaveOwnCells js

-- an event can be taken into a table of jobs: where it makes one, that has a greater key than all, and its cell has none yet (own)
abbrev pub has_place_for : List Job → Event → Bool
has_place_for js (events.JobCreated e) = are_below (λ j. j.key) e.key js && is_none (job_of_cell e.cell js)
has_place_for js _ = true

-- an event changes no job but the one with this key (own)
abbrev pub ChangesOnly : ℕ → Event → Type 0
ChangesOnly key e = (j : Job) → (j.key == key) ≡ false → job_changed e j ≡ j

-- until when a worker has a job, and its key: jobs come due in this order (own)
abbrev pub place_of_job : Job → ℕ × ℕ
place_of_job j = (j.deadline, j.key)

-- of the jobs that workers have and whose deadlines have come the first by the deadline, then by the key (Zeebe, job timeout)
abbrev pub due_job : ℕ → List Job → Option Job
due_job now js = earliest place_of_job (filter (λ j. nat_le j.deadline now) (filter (λ j. is_activated j.phase) js))
