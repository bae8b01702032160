-- An incident stands on a cell that can't go on (Zeebe, incidents; BPMN 2.0.2, 13.4.2: an exception where no flow can be chosen).
use Rattle.std.specs.Prelude.{ℕ, List, [], ◌∷◌, ◌++◌, Bool, true, false, ◌&&◌, ◌||◌, not, is_some, if◌then◌else◌, Option, Some, None, option_map}
use Rattle.std.specs.Option.{option_map_or}
use Rattle.std.specs.Result.{result_err}
use Rattle.zb_tokens.specs.declared.board.Cell.{Cell}
use Rattle.zb_tokens.specs.declared.board.Incident.{Incident}
use Rattle.zb_tokens.specs.declared.board.Phase.{Phase}
use Rattle.zb_tokens.specs.declared.board.Phase.TheVariants as phases
use Rattle.zb_tokens.specs.Board.{Board, cell_at, is_phase}
use Rattle.zb_tokens.specs.Incidents.{Hindrance, error_hindrance, is_of_job, is_stuck, tells_of}
use Rattle.zb_tokens.specs.Marks.{error_of, awaits_work}
use Rattle.zb_tokens.specs.declared.board.Triggered.{Triggered}
use Rattle.zb_tokens.specs.Catches.{opened_with}
use Rattle.zb_tokens.specs.Errors.{caught}
use Rattle.zb_tokens.specs.MoveLeave.{completion_of}

-- in a phase a cell evaluates what it goes on with (BPMN 2.0.2, 13.3.2)
abbrev pub evaluates : Phase → Bool
evaluates phases.Activating = true
evaluates phases.Completing = true
evaluates phase = false

-- an error that was thrown keeps a cell from going on where nothing catches it (BPMN 2.0.2, 10.5.7; Zeebe, incidents)
abbrev pub uncaught : Option Triggered → Option (List ℕ) → Option Hindrance
uncaught None error = option_map error_hindrance error
uncaught (Some t) error = None

-- what keeps a cell from going on in a phase at a moment: a fault of its inputs or its timers, or of its outputs or of what it is left by, or an error that was thrown in it,
-- which nothing catches (BPMN 2.0.2, 10.5.7, 13.3.2 and 13.4.2)
abbrev pub hindrance_in : Board → ℕ → Cell → Phase → Option Hindrance
hindrance_in b moment c phases.Activating = result_err (opened_with b moment c)
hindrance_in b moment c phases.Completing = result_err (completion_of b c)
hindrance_in b moment c phases.Active = uncaught (caught b c) (error_of c.mark)
hindrance_in b moment c phase = None

-- a cell may come to a stop by itself: it evaluates something, or is active and an error was thrown in it (BPMN 2.0.2, 10.5.7 and 13.3.2)
abbrev pub may_stop : Cell → Bool
may_stop c = evaluates c.phase || (is_phase c.phase phases.Active && is_some (error_of c.mark))

-- an incident may stand on a cell: one that a job is the cause of where the cell waits for its work, another one where it may come to a
-- stop (Zeebe, incidents)
abbrev pub may_stand : Board → Incident → Cell → Bool
may_stand b i c = if is_of_job i then awaits_work b c else may_stop c

-- when, but for what is evaluated: it may stand on the cell, and none does (Zeebe, incidents)
abbrev pub fits_incident : Board → Incident → Bool
fits_incident b i = option_map_or (λ c. may_stand b i c && not (is_stuck b c)) (cell_at b i.cell) false

-- what is evaluated: it tells of what keeps the cell from going on, where no job is its cause (Zeebe, incidents)
abbrev pub agrees_incident : Board → ℕ → Incident → Bool
agrees_incident b moment i = is_of_job i || option_map_or (λ c. option_map_or (tells_of i) (hindrance_in b moment c c.phase) false) (cell_at b i.cell) false

-- effect: it stands there (Zeebe, incidents)
abbrev pub play_incident : Board → Incident → Option Board
play_incident b i = Some (record b { incidents = b.incidents ++ i ∷ [] })
