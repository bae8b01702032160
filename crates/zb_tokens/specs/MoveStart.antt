-- A process is instantiated (BPMN 2.0.2, 13.2).
use Rattle.std.specs.Prelude.{[], ◌∷◌, ◌++◌, Bool, false, is_some, Option, option_map}
use Rattle.zb_instance_records.specs.declared.instance.Role.TheVariants as roles
use Rattle.zb_tokens.specs.declared.board.Start.{Start}
use Rattle.zb_tokens.specs.Board.{Board, model_under, new_cell}

-- when: the model of its definition is there (BPMN 2.0.2, 13.2)
abbrev pub fits_start : Board → Start → Bool
fits_start b s = is_some (model_under b s.definition)

-- effect: a new root, with the id of the process as its node (BPMN 2.0.2, 13.2)
abbrev pub play_start : Board → Start → Option Board
play_start b s = option_map (λ m. record b { cells = b.cells ++ new_cell s.key 0 s.definition m.process roles.Plain false ∷ [] }) (model_under b s.definition)
