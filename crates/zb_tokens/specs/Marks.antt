-- What a cell that waits was told, and for what it waits (BPMN 2.0.2, 13.3.3: a service task ends once its work is done, or is ended by an error).
use Rattle.std.specs.Prelude.{ℕ, List, Bool, true, false, ◌&&◌, ◌||◌, not, Option, Some, None}
use Rattle.std.specs.Option.{option_map_or}
use Rattle.zb_faults.specs.Elements.{is_service_task}
use Rattle.zb_tokens.specs.declared.board.Cell.{Cell}
use Rattle.zb_tokens.specs.declared.board.Mark.{Mark}
use Rattle.zb_tokens.specs.declared.board.Mark.TheVariants as marks
use Rattle.zb_tokens.specs.declared.board.Phase.TheVariants as phases
use Rattle.zb_tokens.specs.Board.{Board, model_under, is_at, is_phase, is_root, is_body}

-- a cell was told nothing so far
abbrev pub is_unset : Mark → Bool
is_unset marks.Unset = true
is_unset mark = false

-- what a cell waited for has come (BPMN 2.0.2, 13.3.3 and 13.5)
abbrev pub has_come_about : Mark → Bool
has_come_about marks.Done = true
has_come_about (marks.Chosen node) = true
has_come_about mark = false

-- the code of the error that was thrown in a cell (BPMN 2.0.2, 10.5.7)
abbrev pub error_of : Mark → Option (List ℕ)
error_of (marks.Thrown code) = Some code
error_of mark = None

-- the cell, which was told this
abbrev pub with_mark : Mark → Cell → Cell
with_mark mark c = record c { mark = mark }

-- a cell that runs a service task, by its model; a body leaves that to the cells in it (BPMN 2.0.2, 10.3.3 and 13.3.7)
abbrev pub is_service_cell : Board → Cell → Bool
is_service_cell b c = not (is_root c || is_body c) && option_map_or (λ m. is_at m c.node is_service_task) (model_under b c.definition) false

-- a cell waits for its work: it is active, at a service task, and was told nothing so far (BPMN 2.0.2, 13.3.3)
abbrev pub awaits_work : Board → Cell → Bool
awaits_work b c = is_phase c.phase phases.Active && (is_unset c.mark && is_service_cell b c)
