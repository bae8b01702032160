-- What is kept beside a game.
use Rattle.std.specs.Prelude.{Bool, IsTrue, is_none}
use Rattle.zb_tokens.specs.Board.{Board}
use Rattle.zb_tokens.specs.Forced.{next_mover}
use Rattle.zb_course.specs.Versions.{KeepsVersions}
use Rattle.zb_course.specs.declared.versions.Versions.{Versions}

-- beside a board what is kept of the models that stand on it, and nobody is forced to move where that is known (own)
pub record IsCourse (kept : Versions) (rests : Bool) (board : Board) : Type 0 where
  pub versions : KeepsVersions board.models kept
  pub resting : IsTrue rests → IsTrue (is_none (next_mover board))
