-- A compensation event runs the handler of the activity that finished last in its scope (BPMN 2.0.2, 10.7.2 and 13.5.5).
use Rattle.std.specs.Prelude.{ℕ, ◌==◌, ◌-◌, List, [], ◌∷◌, ◌++◌, length, take, Bool, false, ◌&&◌, not, Option, option_map, option_and_then}
use Rattle.std.specs.Option.{option_map_or}
use Rattle.std.specs.Str.{bytes_eq}
use Rattle.zb_instance_records.specs.declared.instance.Role.TheVariants as roles
use Rattle.zb_tokens.specs.Edits.{edited}
use Rattle.zb_tokens.specs.declared.board.Cell.{Cell}
use Rattle.zb_tokens.specs.declared.board.Undo.{Undo}
use Rattle.zb_tokens.specs.declared.board.Phase.TheVariants as phases
use Rattle.zb_tokens.specs.Board.{Board, cell_at, is_phase, has_child, new_cell}
use Rattle.zb_tokens.specs.Handlers.{next_handler}

-- a cell is an active compensation event in which no handler runs, and runs the one with this id next (BPMN 2.0.2, 10.7.2)
abbrev pub runs_handler : Board → List ℕ → Cell → Bool
runs_handler b id c = is_phase c.phase phases.Active && (not (has_child b c.key) && option_map_or (bytes_eq id) (next_handler b c) false)

-- when: the event is active, no handler runs in it, and this one is that of the activity that finished last in its scope (BPMN 2.0.2, 10.7.2 and 13.5.5)
abbrev pub fits_undo : Board → Undo → Bool
fits_undo b u = option_map_or (runs_handler b u.node) (cell_at b u.event) false

-- the cell that begins in a compensation event: the handler (BPMN 2.0.2, 13.5.5)
abbrev pub handler_in : Undo → Cell → Cell
handler_in u c = new_cell u.key u.event c.definition u.node roles.Handler false

-- the scope, of whose finished activities the last is being undone
abbrev pub one_undone : Cell → Cell
one_undone c = record c { finished = take (length c.finished - 1) c.finished }

-- effect: a new cell in the event, for whose scope the activity that finished last is no more one to be undone (BPMN 2.0.2, 13.5.5)
abbrev pub play_undo : Board → Undo → Option Board
play_undo b u = option_and_then (λ c. option_map (λ cells. record b { cells = cells ++ handler_in u c ∷ [] }) (edited (λ x. x.key == c.scope) one_undone b.cells)) (cell_at b u.event)
