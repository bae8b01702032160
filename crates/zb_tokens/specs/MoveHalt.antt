-- A cell is called off, and begins to terminate (BPMN 2.0.2, 13.3.2).
use Rattle.std.specs.Prelude.{ℕ, ◌==◌, [], filter, Bool, false, ◌&&◌, ◌||◌, not, Option, option_map}
use Rattle.std.specs.Option.{option_map_or}
use Rattle.std.specs.List.{list_any}
use Rattle.zb_process.specs.declared.model.Node.{Node}
use Rattle.zb_faults.specs.Elements.{is_boundary_of}
use Rattle.zb_tokens.specs.Edits.{edited}
use Rattle.zb_tokens.specs.declared.board.Cell.{Cell}
use Rattle.zb_tokens.specs.declared.board.Phase.TheVariants as phases
use Rattle.zb_tokens.specs.declared.board.Spot.TheVariants as spots
use Rattle.zb_tokens.specs.Board.{Board, cell_at, model_under, is_phase, is_root, is_inner, in_phase, emptied}
use Rattle.zb_tokens.specs.Doom.{is_doomed}
use Rattle.zb_tokens.specs.MoveEnter.{stands_at}

-- a cell that has neither completed nor begun to terminate
abbrev pub is_alive : Cell → Bool
is_alive c = not (is_phase c.phase phases.Leaving) && not (is_phase c.phase phases.Terminating)

-- a boundary event at the node of a cell interrupts it: it is one that does, and a token stands before it in the scope of the cell (BPMN 2.0.2, 10.5.4 and 13.5.3)
abbrev pub interrupts : Board → Cell → Node → Bool
interrupts b c n = n.cancel && list_any (stands_at c.scope (spots.BeforeNode n.id)) b.tokens

-- a boundary event interrupts a cell; that of a body doesn't interrupt a run in it (BPMN 2.0.2, 10.5.4 and 13.3.7)
abbrev pub is_interrupted : Board → Cell → Bool
is_interrupted b c = not (is_inner c) && option_map_or (λ m. list_any (interrupts b c) (filter (is_boundary_of c.node) m.nodes)) (model_under b c.definition) false

-- when: it is alive, and is a root or doomed, or a boundary event interrupts it (BPMN 2.0.2, 13.3.2 and 13.5.3)
abbrev pub fits_halt : Board → ℕ → Bool
fits_halt b key = option_map_or (λ c. is_alive c && (is_root c || is_doomed b c || is_interrupted b c)) (cell_at b key) false

-- effect: it is terminating; the tokens in it go, and so do the cells that leave in it (BPMN 2.0.2, 13.3.2)
abbrev pub play_halt : Board → ℕ → Option Board
play_halt b key = option_map (λ cells. emptied key (record b { cells = cells })) (edited (λ c. c.key == key) (in_phase phases.Terminating []) b.cells)
