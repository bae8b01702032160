-- An event comes about that a cell waits for: its own one, one behind an event gateway, or one at the boundary of an activity; or one that catches an error (BPMN 2.0.2, 10.5.4, 10.5.7, 10.6.6 and 13.5.3).
use Rattle.std.specs.Prelude.{◌==◌, List, ℕ, Bool, false, ◌&&◌, ◌||◌, not, if◌then◌else◌, Option, Some, None, is_none, option_map, option_and_then}
use Rattle.std.specs.Option.{option_map_or}
use Rattle.std.specs.List.{list_any}
use Rattle.std.specs.Str.{bytes_eq}
use Rattle.zb_faults.specs.Elements.{is_boundary_of, is_event_gateway}
use Rattle.zb_tokens.specs.Edits.{edited}
use Rattle.zb_tokens.specs.declared.board.Triggered.{Triggered}
use Rattle.zb_tokens.specs.declared.board.Catch.TheVariants as catches
use Rattle.zb_tokens.specs.declared.board.Cell.{Cell}
use Rattle.zb_tokens.specs.declared.board.Mark.{Mark}
use Rattle.zb_tokens.specs.declared.board.Mark.TheVariants as marks
use Rattle.zb_tokens.specs.declared.board.Phase.TheVariants as phases
use Rattle.zb_tokens.specs.declared.board.Spot.TheVariants as spots
use Rattle.zb_tokens.specs.Board.{Board, cell_at, model_under, node_with, is_inner, is_phase, with_token}
use Rattle.zb_tokens.specs.Catches.{may_be_told, waits_itself, awaits}
use Rattle.zb_tokens.specs.Doom.{is_doomed}
use Rattle.zb_tokens.specs.Errors.{caught, is_same_event}
use Rattle.zb_tokens.specs.Incidents.{is_stuck}
use Rattle.zb_tokens.specs.Mappings.{node_of}
use Rattle.zb_tokens.specs.Marks.{with_mark}

-- the cell waits for the event of this node, a time or a message (BPMN 2.0.2, 13.5.3)
abbrev pub awaits_event : Board → Triggered → Cell → Bool
awaits_event b t c = may_be_told b c && (awaits catches.Time b c t.node || awaits catches.Message b c t.node)

-- an error that was thrown in a cell comes about at this event: the cell isn't stuck or called off, and there it is caught (BPMN 2.0.2, 10.5.7)
abbrev pub comes_about_by : Board → Triggered → Cell → Bool
comes_about_by b t c = is_phase c.phase phases.Active && (not (is_doomed b c) && (not (is_stuck b c) && option_map_or (is_same_event t) (caught b c) false))

-- the cell of an event waits for it (BPMN 2.0.2, 13.5.3)
abbrev pub is_awaited : Board → Triggered → Bool
is_awaited b t = option_map_or (awaits_event b t) (cell_at b t.cell) false

-- when: the cell waits for it, or it catches an error (BPMN 2.0.2, 10.5.7 and 13.5.3)
abbrev pub fits_trigger : Board → Triggered → Bool
fits_trigger b t = is_awaited b t || list_any (comes_about_by b t) b.cells

-- a cell is at an event gateway (BPMN 2.0.2, 10.6.6)
abbrev pub is_gateway_cell : Board → Cell → Bool
is_gateway_cell b c = option_map_or (λ n. is_event_gateway n.kind) (node_of b c) false

-- a cell is told of its own event: it waits itself, and that is the node
abbrev pub is_own_event : Board → Triggered → Cell → Bool
is_own_event b t c = option_map_or (λ n. waits_itself c n && bytes_eq c.node t.node) (node_of b c) false

-- what a cell is told: that its own event has come, or, at an event gateway, at which node; an activity isn't told of the events at its boundary (BPMN 2.0.2, 10.5.4 and 10.6.6)
abbrev pub mark_by : Board → Triggered → Cell → Option Mark
mark_by b t c = if is_own_event b t c then Some marks.Done else if is_gateway_cell b c then Some (marks.Chosen t.node) else None

-- effect on a cell: it was told this; or a token stands before the boundary event, in its scope (BPMN 2.0.2, 13.5.3)
abbrev pub told : Board → Triggered → Cell → Option Mark → Option Board
told b t c (Some mark) = option_map (λ cells. record b { cells = cells }) (edited (λ x. x.key == t.cell) (with_mark mark) b.cells)
told b t c None = Some (with_token c.scope (spots.BeforeNode t.node) b)

-- effect (BPMN 2.0.2, 13.5.3)
abbrev pub play_trigger : Board → Triggered → Option Board
play_trigger b t = option_and_then (λ c. told b t c (mark_by b t c)) (cell_at b t.cell)

-- the event of a node interrupts a cell where it comes about: the cell isn't told of it and is no run of a body, and it is a boundary event at the cell's node that interrupts (BPMN 2.0.2, 10.5.4 and 13.3.7)
abbrev pub ends_cell : Board → Triggered → Cell → Bool
ends_cell b t c = is_none (mark_by b t c) && (not (is_inner c) && option_map_or (λ m. option_map_or (λ n. n.cancel && is_boundary_of c.node n) (node_with m t.node) false) (model_under b c.definition) false)

-- the same for the cell with a key
abbrev pub is_interrupting : (cell : ℕ) → List ℕ → Board → Bool
is_interrupting cell id b = option_map_or (ends_cell b (record { cell = cell; node = id })) (cell_at b cell) false
