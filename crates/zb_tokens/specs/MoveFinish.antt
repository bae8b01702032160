-- A cell begins to complete (BPMN 2.0.2, 13.3.2; a scope: 13.2 and 13.3.4, where no token is left).
use Rattle.std.specs.Prelude.{ℕ, ◌==◌, [], Bool, true, false, ◌&&◌, ◌||◌, not, if◌then◌else◌, Option, option_map}
use Rattle.std.specs.Option.{option_map_or}
use Rattle.zb_process.specs.declared.model.Model.{Model}
use Rattle.zb_process.specs.declared.model.NodeKind.{NodeKind}
use Rattle.zb_process.specs.declared.model.NodeKind.TheVariants as kinds
use Rattle.zb_faults.specs.Elements.{is_catch}
use Rattle.zb_tokens.specs.Edits.{edited}
use Rattle.zb_tokens.specs.declared.board.Cell.{Cell}
use Rattle.zb_tokens.specs.declared.board.Phase.TheVariants as phases
use Rattle.zb_tokens.specs.Board.{Board, cell_at, model_under, is_at, is_phase, is_body, holds_tokens, undoes, has_child, is_empty, in_phase}
use Rattle.zb_tokens.specs.Bodies.{has_item, is_sequential}
use Rattle.zb_tokens.specs.Handlers.{has_handler}
use Rattle.zb_tokens.specs.Marks.{has_come_about}

-- a node of this kind waits for nothing once a token has entered it (BPMN 2.0.2, chapter 13: 13.4 gateways, 13.5 events)
abbrev pub waits_for_nothing : NodeKind → Bool
waits_for_nothing kinds.StartEvent = true
waits_for_nothing kinds.MessageStartEvent = true
waits_for_nothing kinds.EndEvent = true
waits_for_nothing kinds.TerminateEndEvent = true
waits_for_nothing kinds.ExclusiveGateway = true
waits_for_nothing kinds.ParallelGateway = true
waits_for_nothing kinds.ThrowEvent = true
waits_for_nothing kinds.DateBoundaryEvent = true
waits_for_nothing kinds.DurationBoundaryEvent = true
waits_for_nothing kinds.MessageBoundaryEvent = true
waits_for_nothing kinds.ErrorBoundaryEvent = true
waits_for_nothing kinds.CompensationBoundaryEvent = true
waits_for_nothing kind = false

-- a cell waits for nothing at a node of this kind: none does, or its event has come at an event gateway in front of it (BPMN 2.0.2, 10.6.6)
abbrev pub rests_at : Cell → NodeKind → Bool
rests_at c kind = waits_for_nothing kind || (is_catch kind && c.before)

-- a cell acts in its model: a body where it may begin a run, or nothing runs in it; a compensation event where no handler runs in it; a scope where it is empty; another cell where its
-- event or its work has come, or it waits for neither (BPMN 2.0.2, 13.2, 13.3.3, 13.3.4, 13.3.7 and 13.5.5)
abbrev pub acts_in : Model → Board → Cell → Bool
acts_in m b c = if is_body c then not (has_child b c.key) || (has_item c && not (is_sequential m c)) else if undoes m c then not (has_child b c.key) else if holds_tokens m c then is_empty b c.key else has_come_about c.mark || is_at m c.node (rests_at c)

-- the same by its model
abbrev pub acts : Board → Cell → Bool
acts b c = option_map_or (λ m. acts_in m b c) (model_under b c.definition) false

-- nothing is left that a cell waits for: it acts, and neither an item is left for which it runs, nor a handler that it runs (BPMN 2.0.2, 13.3.2, 13.3.7 and 13.5.5)
abbrev pub is_done : Board → Cell → Bool
is_done b c = acts b c && not ((is_body c && has_item c) || has_handler b c)

-- when: it is active, and waits for nothing (BPMN 2.0.2, 13.3.2; a process: 13.2)
abbrev pub fits_finish : Board → ℕ → Bool
fits_finish b key = option_map_or (λ c. is_phase c.phase phases.Active && is_done b c) (cell_at b key) false

-- effect: it is completing (BPMN 2.0.2, 13.3.2; a process: 13.2)
abbrev pub play_finish : Board → ℕ → Option Board
play_finish b key = option_map (λ cells. record b { cells = cells }) (edited (λ c. c.key == key) (in_phase phases.Completing []) b.cells)
