-- The game of tokens: which moves are legal, and what they lead to (BPMN 2.0.2, 13). Each move's own rule stands in a module of its name.
use Rattle.std.specs.Prelude.{◌≡◌, ℕ, [], Bool, true, IsTrue, Option, Some}
use Rattle.zb_tokens.specs.Board.{Board}
use Rattle.zb_tokens.specs.declared.board.Move.{Move}
use Rattle.zb_tokens.specs.declared.board.Move.TheVariants as moves
use Rattle.zb_tokens.specs.MoveStand.{fits_stand, play_stand}
use Rattle.zb_tokens.specs.MoveStart.{fits_start, play_start}
use Rattle.zb_tokens.specs.MoveEnter.{fits_enter, play_enter}
use Rattle.zb_tokens.specs.MoveInner.{fits_inner, play_inner}
use Rattle.zb_tokens.specs.MoveUndo.{fits_undo, play_undo}
use Rattle.zb_tokens.specs.MoveOpen.{fits_open, agrees_open, play_open}
use Rattle.zb_tokens.specs.MoveFinish.{fits_finish, play_finish}
use Rattle.zb_tokens.specs.MoveLeave.{fits_leave, agrees_leave, play_leave}
use Rattle.zb_tokens.specs.MoveTake.{fits_take, play_take}
use Rattle.zb_tokens.specs.MoveHalt.{fits_halt, play_halt}
use Rattle.zb_tokens.specs.MoveGone.{fits_gone, play_gone}
use Rattle.zb_tokens.specs.MoveAssign.{fits_assign, fits_update, play_assign}
use Rattle.zb_tokens.specs.MoveIncident.{fits_incident, agrees_incident, play_incident}
use Rattle.zb_tokens.specs.MoveDone.{fits_done, play_done}
use Rattle.zb_tokens.specs.MoveThrow.{fits_throw, play_throw}
use Rattle.zb_tokens.specs.MoveTrigger.{fits_trigger, play_trigger}
use Rattle.zb_tokens.specs.MoveRepair.{fits_repair, play_repair}

-- nothing on the board
abbrev pub empty_board : Board
empty_board = record { models = []; cells = []; tokens = []; incidents = [] }

-- a move fits the board: all that its rule asks but for what it evaluates (BPMN 2.0.2, 13)
abbrev pub fits : Board → Move → Bool
fits b (moves.Stand d) = fits_stand b d
fits b (moves.Start s) = fits_start b s
fits b (moves.Enter e) = fits_enter b e
fits b (moves.Inner i) = fits_inner b i
fits b (moves.Undo u) = fits_undo b u
fits b (moves.Open o) = fits_open b o
fits b (moves.Finish key) = fits_finish b key
fits b (moves.Leave l) = fits_leave b l
fits b (moves.Take t) = fits_take b t
fits b (moves.Halt key) = fits_halt b key
fits b (moves.Gone key) = fits_gone b key
fits b (moves.Assign a) = fits_assign b a
fits b (moves.Update a) = fits_update b a
fits b (moves.Done key) = fits_done b key
fits b (moves.Throw t) = fits_throw b t
fits b (moves.Trigger t) = fits_trigger b t
fits b (moves.Incident i) = fits_incident b i
fits b (moves.Repair key) = fits_repair b key

-- a move agrees with what it evaluates on a board at a moment (BPMN 2.0.2, 13)
abbrev pub agrees : Board → ℕ → Move → Bool
agrees b moment (moves.Open o) = agrees_open b moment o
agrees b moment (moves.Leave l) = agrees_leave b l
agrees b moment (moves.Incident i) = agrees_incident b moment i
agrees b moment move = true

-- the board after a move; None where it needs a cell, a token, a model or an incident that isn't there (BPMN 2.0.2, 13)
abbrev pub played : Board → Move → Option Board
played b (moves.Stand d) = play_stand b d
played b (moves.Start s) = play_start b s
played b (moves.Enter e) = play_enter b e
played b (moves.Inner i) = play_inner b i
played b (moves.Undo u) = play_undo b u
played b (moves.Open o) = play_open b o
played b (moves.Finish key) = play_finish b key
played b (moves.Leave l) = play_leave b l
played b (moves.Take t) = play_take b t
played b (moves.Halt key) = play_halt b key
played b (moves.Gone key) = play_gone b key
played b (moves.Assign a) = play_assign b a
played b (moves.Update a) = play_assign b a
played b (moves.Done key) = play_done b key
played b (moves.Throw t) = play_throw b t
played b (moves.Trigger t) = play_trigger b t
played b (moves.Incident i) = play_incident b i
played b (moves.Repair key) = play_repair b key

-- a move is legal and leads from one board to another, where what it evaluates is asked of a board from before, at a moment (BPMN 2.0.2, 13)
pub record IsLegal (evaluated : Board) (moment : ℕ) (board : Board) (move : Move) (after : Board) : Type 0 where
  pub fit : IsTrue (fits board move)
  pub agreed : IsTrue (agrees evaluated moment move)
  pub leads : played board move ≡ Some after
