-- An error is thrown in a cell that waits for its work (BPMN 2.0.2, 13.3.3 and 10.5.7).
use Rattle.std.specs.Prelude.{◌==◌, Bool, false, Option, option_map}
use Rattle.std.specs.Option.{option_map_or}
use Rattle.zb_tokens.specs.Edits.{edited}
use Rattle.zb_tokens.specs.declared.board.Thrown.{Thrown}
use Rattle.zb_tokens.specs.declared.board.Mark.TheVariants as marks
use Rattle.zb_tokens.specs.Board.{Board, cell_at}
use Rattle.zb_tokens.specs.Marks.{awaits_work, with_mark}

-- when: the cell waits for its work (BPMN 2.0.2, 13.3.3)
abbrev pub fits_throw : Board → Thrown → Bool
fits_throw b t = option_map_or (awaits_work b) (cell_at b t.cell) false

-- effect: it was told of the error (BPMN 2.0.2, 10.5.7)
abbrev pub play_throw : Board → Thrown → Option Board
play_throw b t = option_map (λ cells. record b { cells = cells }) (edited (λ c. c.key == t.cell) (with_mark (marks.Thrown t.code)) b.cells)
