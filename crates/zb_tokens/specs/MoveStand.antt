-- A model stands under a key: a process is deployed.
use Rattle.std.specs.Prelude.{[], ◌∷◌, ◌++◌, Bool, not, is_some, Option, Some}
use Rattle.zb_tokens.specs.declared.board.Deployed.{Deployed}
use Rattle.zb_tokens.specs.Board.{Board, model_under}

-- when: no model stands under its key
abbrev pub fits_stand : Board → Deployed → Bool
fits_stand b d = not (is_some (model_under b d.key))

-- effect: the model stands there
abbrev pub play_stand : Board → Deployed → Option Board
play_stand b d = Some (record b { models = b.models ++ d ∷ [] })
