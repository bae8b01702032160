-- A worker completes a job (BPMN 2.0.2, 13.3.3; Zeebe, jobs).
use Rattle.std.specs.Prelude.{List, Option, option_and_then, option_map}
use Rattle.zb_exchange_records.specs.declared.job.JobComplete.{JobComplete}
use Rattle.zb_model.specs.declared.record.Event.{Event}
use Rattle.zb_model.specs.declared.record.Event.TheVariants as events
use Rattle.zb_views.specs.declared.job.Job.{Job}
use Rattle.zb_views.specs.Jobs.{job_at}
use Rattle.zb_tokens.specs.declared.board.Assignments.{Assignments}
use Rattle.zb_tokens.specs.Board.{Board, cell_at}
use Rattle.zb_tokens.specs.Mappings.{gives_outputs}
use Rattle.zb_rules.specs.Shown.{board_of}
use Rattle.zb_rules.specs.Making.{Making, just, and_then}
use Rattle.zb_rules.specs.InFront.{assigning}

-- what a worker says that came of a job is set on the job's cell where its node has outputs, which hand it up; else it is handed up from the cell
-- (Zeebe, variable mappings)
abbrev pub results_on : JobComplete → Board → Job → Option Assignments
results_on c b j = option_map (λ cell. record { scope = j.cell; local = gives_outputs b cell; variables = c.variables }) (cell_at b j.cell)

-- the same by the events before
abbrev pub results : JobComplete → List Event → Option Assignments
results c before = option_and_then (λ j. option_and_then (λ b. results_on c b j) (board_of before)) (job_at c.key before)

-- the job is completed, and then each result is set, in order (Zeebe, the records)
abbrev pub completed : JobComplete → Making
completed c before = and_then (just (events.JobCompleted c.key)) (assigning (results c before)) before
