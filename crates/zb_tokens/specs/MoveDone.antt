-- The work that a cell waits for is done (BPMN 2.0.2, 13.3.3).
use Rattle.std.specs.Prelude.{ℕ, ◌==◌, Bool, false, Option, option_map}
use Rattle.std.specs.Option.{option_map_or}
use Rattle.zb_tokens.specs.Edits.{edited}
use Rattle.zb_tokens.specs.declared.board.Mark.TheVariants as marks
use Rattle.zb_tokens.specs.Board.{Board, cell_at}
use Rattle.zb_tokens.specs.Marks.{awaits_work, with_mark}

-- when: the cell waits for its work (BPMN 2.0.2, 13.3.3)
abbrev pub fits_done : Board → ℕ → Bool
fits_done b key = option_map_or (awaits_work b) (cell_at b key) false

-- effect: it was told that this is done (BPMN 2.0.2, 13.3.3)
abbrev pub play_done : Board → ℕ → Option Board
play_done b key = option_map (λ cells. record b { cells = cells }) (edited (λ c. c.key == key) (with_mark marks.Done) b.cells)
