-- Who is forced to move (BPMN 2.0.2, 13: a token moves on by itself where nothing is waited for), in which order (own), and to what.
use Rattle.std.specs.Prelude.{ℕ, ℤ, List, [], ◌∷◌, map, filter, Bool, true, false, ◌&&◌, ◌||◌, not, is_some, if◌then◌else◌, Option, Some, None, option_map, option_and_then, Result, Ok, Err, ◌≡◌, ◌⊎◌}
use Rattle.std.specs.Option.{option_map_or, option_or}
use Rattle.std.specs.List.{find}
use Rattle.std.specs.Str.{bytes_eq}
pub use Rattle.zb_table.specs.Greatest.{greatest}
use Rattle.zb_process.specs.declared.model.Model.{Model}
use Rattle.zb_tokens.specs.declared.board.Cell.{Cell}
use Rattle.zb_tokens.specs.declared.board.Token.{Token}
use Rattle.zb_tokens.specs.declared.board.Spot.{Spot}
use Rattle.zb_tokens.specs.declared.board.Spot.TheVariants as spots
use Rattle.zb_tokens.specs.declared.board.Move.{Move}
use Rattle.zb_tokens.specs.declared.board.Move.TheVariants as moves
use Rattle.zb_tokens.specs.declared.board.Mover.{Mover}
use Rattle.zb_tokens.specs.declared.board.Mover.TheVariants as movers
use Rattle.zb_tokens.specs.declared.board.Phase.{Phase}
use Rattle.zb_tokens.specs.declared.board.Phase.TheVariants as phases
use Rattle.zb_tokens.specs.Edits.{is_none_of}
use Rattle.zb_tokens.specs.Board.{Board, cell_at, model_under, has_child, is_body}
use Rattle.zb_tokens.specs.Bodies.{has_item}
use Rattle.zb_tokens.specs.Handlers.{next_handler}
use Rattle.zb_tokens.specs.Doom.{is_doomed}
use Rattle.zb_tokens.specs.MoveEnter.{joins, may_enter}
use Rattle.zb_tokens.specs.MoveOpen.{opens}
use Rattle.zb_tokens.specs.MoveFinish.{acts}
use Rattle.zb_tokens.specs.Incidents.{Hindrance, error_hindrance, is_stuck}
use Rattle.zb_tokens.specs.declared.board.Triggered.{Triggered}
use Rattle.zb_tokens.specs.Errors.{caught}
use Rattle.zb_tokens.specs.Marks.{error_of}
use Rattle.zb_tokens.specs.Catches.{opened_with}
use Rattle.zb_tokens.specs.MoveLeave.{completion_of}

-- in a phase a cell that isn't stuck goes on by itself; with an error that was thrown in it, to where that is caught, or to its incident (BPMN 2.0.2, 13)
abbrev pub goes_on_in : Board → Cell → Phase → Bool
goes_on_in b c phases.Activating = opens b c
goes_on_in b c phases.Active = is_some (error_of c.mark) || acts b c
goes_on_in b c phases.Completing = true
goes_on_in b c phases.Leaving = not (is_none_of c.owed)
goes_on_in b c phases.Terminating = not (has_child b c.key)

-- in a phase a doomed cell ends: it is called off, or is gone once nothing runs in it; one that leaves stays (BPMN 2.0.2, 13.3.2)
abbrev pub ends_in : Board → Cell → Phase → Bool
ends_in b c phases.Leaving = false
ends_in b c phases.Terminating = not (has_child b c.key)
ends_in b c phase = true

-- a cell is forced to a move: it goes on by itself where it isn't stuck, or ends where it is doomed (BPMN 2.0.2, 13; Zeebe, incidents)
abbrev pub is_forced : Board → Cell → Bool
is_forced b c = if is_doomed b c then ends_in b c c.phase else not (is_stuck b c) && goes_on_in b c c.phase

-- the flow that a token comes by to a node: where flows join it is none of them
abbrev pub way_by : Model → List ℕ → List ℕ → List ℕ
way_by m node flow = if joins m node then [] else flow

-- the node that a token at a spot would enter, and the flow by which
abbrev pub entry_at : Model → Spot → Option (List ℕ × List ℕ)
entry_at m (spots.BeforeNode node) = Some (node, [])
entry_at m (spots.OnFlow flow) = option_map (λ f. (f.to, way_by m f.to flow)) (find (λ f. bytes_eq f.id flow) m.flows)

-- the way that a token has, in the model of its scope's cell
abbrev pub way_of : Board → Token → Option (List ℕ × List ℕ)
way_of b t = option_and_then (λ c. option_and_then (λ m. entry_at m t.spot) (model_under b c.definition)) (cell_at b t.scope)

-- a token can enter the node that it has come to (BPMN 2.0.2, 13.3.2)
abbrev pub can_enter : Board → Token → Bool
can_enter b t = option_map_or (λ way. may_enter b t.scope way.0 way.1) (way_of b t) false

-- who moves next: the forced cell with the greatest key, or else the first token that can enter (own)
abbrev pub next_mover : Board → Option Mover
next_mover b = option_or (option_map movers.Cell (greatest (map (λ c. c.key) (filter (is_forced b) b.cells)))) (option_map movers.Token (find (can_enter b) b.tokens))

-- nobody is forced to move
abbrev pub IsQuiet : Board → Type 0
IsQuiet b = next_mover b ≡ None

-- the first flow that is owed is taken
abbrev pub take_first : ℕ → List (List ℕ) → Option Move
take_first key [] = None
take_first key (flow ∷ owed) = Some (moves.Take (record { key = key; flow = flow }))

-- an incident under this key tells what keeps a cell from going on (Zeebe, incidents)
abbrev pub stop_by : ℕ → Cell → Hindrance → Move
stop_by key c hindrance = moves.Incident (record { key = key; kind = hindrance.kind; cell = c.key; job = 0; text = hindrance.text })

-- a cell becomes active with these items, or an incident under this key tells why it can't (BPMN 2.0.2, 13.3.2; Zeebe, incidents)
abbrev pub open_by : ℕ → Cell → Result (List ℤ) Hindrance → Move
open_by key c (Ok items) = moves.Open (record { key = c.key; items = items })
open_by key c (Err hindrance) = stop_by key c hindrance

-- a cell is left by these flows, or an incident under this key tells why it can't be (BPMN 2.0.2, 13.3.1; Zeebe, incidents)
abbrev pub leave_by : ℕ → Cell → Result (List (List ℕ)) Hindrance → Move
leave_by key c (Ok owed) = moves.Leave (record { key = c.key; owed = owed })
leave_by key c (Err hindrance) = stop_by key c hindrance

-- an error that was thrown in a cell comes about where it is caught, or an incident under this key tells of it (BPMN 2.0.2, 10.5.7; Zeebe, incidents)
abbrev pub catch_by : ℕ → Cell → (code : List ℕ) → Option Triggered → Move
catch_by key c code None = stop_by key c (error_hindrance code)
catch_by key c code (Some t) = moves.Trigger t

-- a cell runs this handler under a key, or begins to complete where there is none (BPMN 2.0.2, 13.3.2 and 13.5.5)
abbrev pub undo_by : ℕ → Cell → Option (List ℕ) → Move
undo_by key c None = moves.Finish c.key
undo_by key c (Some node) = moves.Undo (record { key = key; event = c.key; node = node })

-- an active cell begins a run for its next item under this key, or runs its next handler, or begins to complete where neither is left (BPMN 2.0.2, 13.3.2, 13.3.7 and 13.5.5)
abbrev pub act_by : Board → ℕ → Cell → Move
act_by b key c = if is_body c && has_item c then moves.Inner (record { key = key; body = c.key }) else undo_by key c (next_handler b c)

-- an active cell acts, or an error that was thrown in it is caught or stops it (BPMN 2.0.2, 10.5.7 and 13.3.2)
abbrev pub finish_by : Board → ℕ → Cell → Option Triggered → Option (List ℕ) → Move
finish_by b key c caught_at None = act_by b key c
finish_by b key c caught_at (Some code) = catch_by key c code caught_at

-- what a cell does by itself in a phase at a moment, where an incident gets this key (BPMN 2.0.2, 13)
abbrev pub move_in : Board → (moment key : ℕ) → Cell → Phase → Option Move
move_in b moment key c phases.Activating = Some (open_by key c (opened_with b moment c))
move_in b moment key c phases.Active = Some (finish_by b key c (caught b c) (error_of c.mark))
move_in b moment key c phases.Completing = Some (leave_by key c (completion_of b c))
move_in b moment key c phases.Leaving = take_first c.key c.owed
move_in b moment key c phases.Terminating = Some (moves.Gone c.key)

-- how a doomed cell ends in a phase (BPMN 2.0.2, 13.3.2)
abbrev pub end_in : Cell → Phase → Option Move
end_in c phases.Leaving = None
end_in c phases.Terminating = Some (moves.Gone c.key)
end_in c phase = Some (moves.Halt c.key)

-- what a cell does by itself, or how it ends where it is doomed (BPMN 2.0.2, 13)
abbrev pub move_at : Board → (moment key : ℕ) → Cell → Option Move
move_at b moment key c = if is_doomed b c then end_in c c.phase else move_in b moment key c c.phase

-- a move by which a cell ends, or none (BPMN 2.0.2, 13.3.2)
abbrev pub IsEnd : Cell → Option Move → Type 0
IsEnd c move = (move ≡ None) ⊎ ((move ≡ Some (moves.Halt c.key)) ⊎ (move ≡ Some (moves.Gone c.key)))

-- how a token enters the node that it has come to, where the new cell gets this key (BPMN 2.0.2, 13.3.2)
abbrev pub entry_of : Board → ℕ → Token → Option Move
entry_of b key t = option_map (λ way. moves.Enter (record { key = key; scope = t.scope; node = way.0; via = way.1 })) (way_of b t)

-- the move of a mover on a board at a moment, where a new cell or an incident gets this key (BPMN 2.0.2, 13)
abbrev pub move_of : Board → ℕ → ℕ → Mover → Option Move
move_of b moment key (movers.Cell cell) = option_and_then (move_at b moment key) (cell_at b cell)
move_of b moment key (movers.Token t) = entry_of b key t
