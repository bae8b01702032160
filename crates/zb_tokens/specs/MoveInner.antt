-- A body begins a run for its next item (BPMN 2.0.2, 13.3.7).
use Rattle.std.specs.Prelude.{◌==◌, ◌+◌, [], ◌∷◌, ◌++◌, Bool, false, ◌&&◌, Option, option_map, option_and_then}
use Rattle.std.specs.Option.{option_map_or}
use Rattle.zb_instance_records.specs.declared.instance.Role.TheVariants as roles
use Rattle.zb_tokens.specs.Edits.{edited}
use Rattle.zb_tokens.specs.declared.board.Cell.{Cell}
use Rattle.zb_tokens.specs.declared.board.Inner.{Inner}
use Rattle.zb_tokens.specs.declared.board.Phase.TheVariants as phases
use Rattle.zb_tokens.specs.Board.{Board, cell_at, model_under, is_body, is_phase, new_cell}
use Rattle.zb_tokens.specs.Bodies.{may_run}

-- a cell is an active body, and may begin a run (BPMN 2.0.2, 13.3.7)
abbrev pub runs_next : Board → Cell → Bool
runs_next b c = is_body c && (is_phase c.phase phases.Active && option_map_or (λ m. may_run m b c) (model_under b c.definition) false)

-- when: the body is active, an item is left, and its runs come at once, or none is there (BPMN 2.0.2, 13.3.7)
abbrev pub fits_inner : Board → Inner → Bool
fits_inner b i = option_map_or (runs_next b) (cell_at b i.body) false

-- the cell that begins in a body: at the same node of the same definition (BPMN 2.0.2, 13.3.7)
abbrev pub run_in : Inner → Cell → Cell
run_in i c = new_cell i.key i.body c.definition c.node roles.Inner false

-- the cell, of whose items one more is taken
abbrev pub one_taken : Cell → Cell
one_taken c = record c { taken = c.taken + 1 }

-- effect: a new cell in the body, of whose items one more is taken (BPMN 2.0.2, 13.3.7)
abbrev pub play_inner : Board → Inner → Option Board
play_inner b i = option_and_then (λ c. option_map (λ cells. record b { cells = cells ++ run_in i c ∷ [] }) (edited (λ x. x.key == i.body) one_taken b.cells)) (cell_at b i.body)
