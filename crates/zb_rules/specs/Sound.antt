-- What holds of the board of every log whose events apply.
use Rattle.std.specs.Prelude.{◌≡◌, ◌⊎◌, ◌<◌, ◌+◌, ◌^◌, ◌==◌, ℕ, List, ◌++◌, Bool, false, ◌&&◌, ◌||◌, Option, Some, None, IsTrue, IsFalse, is_some, All}
use Rattle.std.specs.Option.{option_map_or}
use Rattle.std.specs.List.{AllPairs}
use Rattle.zb_base.specs.Vars.{is_ascending}
use Rattle.zb_model.specs.declared.record.Event.{Event}
use Rattle.zb_model.specs.declared.record.Command.{Command}
use Rattle.zb_model.specs.declared.record.Command.TheVariants as commands
use Rattle.zb_process.specs.declared.model.Model.{Model}
use Rattle.zb_faults.specs.Faults.{most_nodes}
use Rattle.zb_table.specs.Rows.{Ascend}
use Rattle.zb_views.specs.declared.job.Job.{Job}
use Rattle.zb_views.specs.Jobs.{jobs, job_at, is_failed}
use Rattle.zb_views.specs.View.{greatest_counter, next_key}
use Rattle.zb_tokens.specs.declared.board.Cell.{Cell}
use Rattle.zb_tokens.specs.declared.board.Token.{Token}
use Rattle.zb_tokens.specs.declared.board.Incident.{Incident}
use Rattle.zb_tokens.specs.declared.board.Move.{Move}
use Rattle.zb_tokens.specs.declared.board.Mover.{Mover}
use Rattle.zb_tokens.specs.declared.board.Phase.{Phase}
use Rattle.zb_tokens.specs.declared.board.Phase.TheVariants as phases
use Rattle.zb_tokens.specs.Edits.{is_none_of}
use Rattle.zb_tokens.specs.Board.{Board, CellsAscend, cell_at, model_under, is_phase, is_root, holds_cells, holds_tokens}
use Rattle.zb_tokens.specs.Incidents.{incident_on}
use Rattle.zb_tokens.specs.Marks.{awaits_work}
use Rattle.zb_tokens.specs.MoveAssign.{has_name}
use Rattle.zb_tokens.specs.Game.{agrees}
use Rattle.zb_tokens.specs.Forced.{move_of}
use Rattle.zb_rules.specs.Shown.{shown, event_of}
use Rattle.zb_rules.specs.Applies.{applies, all_apply}
use Rattle.zb_rules.specs.InFront.{events_in_front}

-- in this phase others may be in a scope (BPMN 2.0.2, 13.3.2)
abbrev pub runs : Phase → Bool
runs phase = is_phase phase phases.Active || is_phase phase phases.Terminating

-- a cell holds others or tokens: its model says so, and it is active or terminating (BPMN 2.0.2, 13.2 and 13.3.4)
abbrev pub holds_by : (Model → Cell → Bool) → Board → Cell → Bool
holds_by holds b c = runs c.phase && option_map_or (λ m. holds m c) (model_under b c.definition) false

-- on a board the cell with a key is there, and does
abbrev pub is_around : (Model → Cell → Bool) → Board → ℕ → Bool
is_around holds b key = option_map_or (holds_by holds b) (cell_at b key) false

-- two incidents stand on different cells, and have different keys (Zeebe, incidents)
abbrev pub StandApart : Incident → Incident → Type 0
StandApart i other = IsFalse (i.cell == other.cell) × IsFalse (i.key == other.key)

-- a board of a log: cells ascend, scopes and models are there, tokens stand in scopes, incidents on different cells (BPMN 2.0.2, 13.1)
pub record IsSound (b : Board) : Type 0 where
  -- the keys of the cells ascend, and none is 0
  pub cells : CellsAscend 1 b.cells
  -- each cell is a root, or stands in an earlier cell, in which others may be: a scope, a body, or a compensation event
  pub scopes : All (λ (c : Cell). (c.scope ≡ 0) ⊎ (IsTrue (is_around holds_cells b c.scope) × (c.scope < c.key))) b.cells
  -- the model of each cell's definition is there
  pub models : All (λ (c : Cell). IsTrue (is_some (model_under b c.definition))) b.cells
  -- each token stands in a scope
  pub tokens : All (λ (t : Token). IsTrue (is_around holds_tokens b t.scope)) b.tokens
  -- a leaving cell owes a flow, and is no root
  pub leaving : All (λ (c : Cell). IsTrue (is_phase c.phase phases.Leaving) → IsFalse (is_none_of c.owed) × IsFalse (is_root c)) b.cells
  -- at most one incident stands on each cell, and no two have one key
  pub incidents : AllPairs StandApart b.incidents

-- two jobs are of different cells (own)
abbrev pub AreApartJobs : Job → Job → Type 0
AreApartJobs j other = IsFalse (j.cell == other.cell)

-- on a board the cell of a job waits for its work (BPMN 2.0.2, 13.3.3)
abbrev pub IsAwaited : Board → Job → Type 0
IsAwaited b j = IsTrue (option_map_or (awaits_work b) (cell_at b j.cell) false)

-- no incident stands on the cell of a job, unless that has no try left (Zeebe, incidents)
abbrev pub HasNoIncident : Board → Job → Type 0
HasNoIncident b j = is_failed j.phase ≡ false → incident_on b j.cell ≡ None

-- the job that is the cause of an incident is that of its cell, as long as it is there (Zeebe, incidents)
abbrev pub HasJobOfCell : List Event → Incident → Type 0
HasJobOfCell es i = (j : Job) → job_at i.job es ≡ Some j → j.cell ≡ i.cell

-- the jobs of a log of partition p whose board is this: they ascend, each stands on a cell of its own that waits for it (Zeebe, jobs)
pub record HasSoundJobs (p : ℕ) (es : List Event) (b : Board) : Type 0 where
  -- their keys ascend, and none is 0
  pub ascend : Ascend (λ (j : Job). j.key) 1 (jobs es)
  -- the partition draws none of them again
  pub below : All (λ (j : Job). j.key < next_key p es) (jobs es)
  -- no two are of one cell
  pub apart : AllPairs AreApartJobs (jobs es)
  -- the cell of each waits for its work
  pub awaited : All (IsAwaited b) (jobs es)
  -- no incident stands there, unless the job has no try left
  pub free : All (HasNoIncident b) (jobs es)
  -- an incident that a job is the cause of stands on the job's cell
  pub causes : All (HasJobOfCell es) b.incidents

-- a cell is found that has the name, or else a root: in it a value is set that is handed up (BPMN 2.0.2, 10.4.1)
pub record IsHolder (b : Board) (name : List ℕ) (found : Option ℕ) : Type 0 where
  pub key : ℕ
  pub cell : Cell
  pub is : found ≡ Some key
  pub there : cell_at b key ≡ Some cell
  pub holds : IsTrue (has_name name cell || is_root cell)

-- partition p has so many keys left behind these events
abbrev pub HasKeys : ℕ → List Event → ℕ → Type 0
HasKeys p es count = greatest_counter p es + count < 2 ^ 51

-- no turn draws more keys than these: one for a cell, an incident or a job, and one for each timer or subscription that opens, of which there is
-- at most one more than a model has nodes (own)
abbrev pub keys_of_turn : ℕ
keys_of_turn = most_nodes + 2

-- the names of a command's variables ascend
abbrev pub HasOrderedNames : Command → Type 0
HasOrderedNames (commands.ProcessInstanceCreationCreate c) = IsTrue (is_ascending c.variables)
HasOrderedNames (commands.MessagePublish c) = IsTrue (is_ascending c.variables)
HasOrderedNames _ = Unit {0}

-- the move of a mover behind these events of partition p, on their board at a moment, and the event of it: the events in front of that apply,
-- and behind them it applies and shows the move
pub record IsForcedEvent (p moment : ℕ) (es : List Event) (b : Board) (mover : Mover) : Type 0 where
  pub move : Move
  pub event : Event
  pub is_move : move_of b moment (next_key p es) mover ≡ Some move
  pub is_event : event_of b move ≡ Some event
  pub in_front : IsTrue (all_apply p es (events_in_front b move es))
  pub applied : IsTrue (applies p (es ++ events_in_front b move es) event)
  pub shows : shown (es ++ events_in_front b move es) event ≡ Some move
  pub agreed : IsTrue (agrees b moment move)
