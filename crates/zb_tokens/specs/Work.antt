-- What a cell waits for at a service task, and where that is done (BPMN 2.0.2, 13.3.3).
use Rattle.std.specs.Prelude.{ℕ, ◌==◌, List, Bool, false, ◌&&◌, not, if◌then◌else◌, Option, None, option_and_then}
use Rattle.std.specs.Option.{option_map_or}
use Rattle.std.specs.Str.{bytes_eq}
use Rattle.zb_process.specs.declared.model.Node.{Node}
use Rattle.zb_tokens.specs.declared.board.Cell.{Cell}
use Rattle.zb_tokens.specs.Board.{Board, cell_at}
use Rattle.zb_tokens.specs.Incidents.{incident_at, is_stuck}
use Rattle.zb_tokens.specs.Mappings.{node_of}
use Rattle.zb_tokens.specs.Marks.{is_service_cell, awaits_work}
use Rattle.zb_tokens.specs.Names.{root_of}

-- the node of a cell that is to have a job: that of a service task (BPMN 2.0.2, 13.3.3)
abbrev pub work_of : Board → Cell → Option Node
work_of b c = if is_service_cell b c then node_of b c else None

-- the node by which the cell with a key is to have a job
abbrev pub work_at : Board → ℕ → Option Node
work_at b cell = option_and_then (work_of b) (cell_at b cell)

-- the cell with a key waits for its work, and no incident stands on it (BPMN 2.0.2, 13.3.3; Zeebe, incidents)
abbrev pub may_have_job : ℕ → Board → Bool
may_have_job cell b = option_map_or (λ c. awaits_work b c && not (is_stuck b c)) (cell_at b cell) false

-- the cell with a key is at the node, in the instance
abbrev pub is_work_in : (cell instance : ℕ) → List ℕ → Board → Bool
is_work_in cell instance node b = option_map_or (λ c. bytes_eq c.node node) (cell_at b cell) false && option_map_or (λ root. root == instance) (root_of b cell) false

-- the job is the cause of the incident with a key; 0 where none is (Zeebe, incidents)
abbrev pub is_cause_of : (job incident : ℕ) → Board → Bool
is_cause_of job incident b = option_map_or (λ i. i.job == job) (incident_at b incident) false
