-- A cell has terminated (BPMN 2.0.2, 13.3.2).
use Rattle.std.specs.Prelude.{ℕ, ◌==◌, filter, Bool, false, ◌&&◌, not, Option, option_map}
use Rattle.std.specs.Option.{option_map_or}
use Rattle.zb_tokens.specs.Edits.{removed}
use Rattle.zb_tokens.specs.declared.board.Phase.TheVariants as phases
use Rattle.zb_tokens.specs.Board.{Board, cell_at, is_phase, has_child}

-- when: it is terminating, and nothing runs in it any more (BPMN 2.0.2, 13.3.2)
abbrev pub fits_gone : Board → ℕ → Bool
fits_gone b key = option_map_or (λ c. is_phase c.phase phases.Terminating && not (has_child b key)) (cell_at b key) false

-- effect: it is gone, with its variables, and with a token in it where a log that no step made left one (BPMN 2.0.2, 13.3.2)
abbrev pub play_gone : Board → ℕ → Option Board
play_gone b key = option_map (λ cells. record b { cells = cells; tokens = filter (λ t. not (t.scope == key)) b.tokens }) (removed (λ c. c.key == key) b.cells)
