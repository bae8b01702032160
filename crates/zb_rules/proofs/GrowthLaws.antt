-- Laws of the board of a log as it grows by an event, and of the moves that events show.
use Rattle.std.proofs.Common.{◌≡◌, List, [], ◌∷◌, ◌++◌, Bool, true, false, if◌then◌else◌, Option, Some, None, option_map, option_and_then, refl, append_assoc, append-nil, subst}
use Rattle.zb_instance_records.specs.declared.instance.ElementActivating.{ElementActivating}
use Rattle.zb_instance_records.specs.declared.instance.Role.{Role}
use Rattle.zb_instance_records.specs.declared.instance.Role.TheVariants as roles
use Rattle.zb_model.specs.declared.record.Event.{Event}
use Rattle.zb_views.specs.declared.job.Job.{Job}
use Rattle.zb_tokens.specs.declared.board.Enter.{Enter}
use Rattle.zb_tokens.specs.declared.board.Inner.{Inner}
use Rattle.zb_tokens.specs.declared.board.Start.{Start}
use Rattle.zb_tokens.specs.declared.board.Undo.{Undo}
use Rattle.zb_tokens.specs.declared.board.Move.{Move}
use Rattle.zb_tokens.specs.declared.board.Move.TheVariants as moves
use Rattle.zb_tokens.specs.Board.{Board, is_role}
use Rattle.zb_tokens.specs.Game.{empty_board}
use Rattle.zb_rules.specs.Shown.{shown, move_of_cell, after_shown, board_from, board_of}

last_step : (o : Option Board) → option_and_then (λ b. Some b) o ≡ o
last_step None = refl
last_step (Some b) = refl

more_behind : (before es : List Event) (x e : Event) (o : Option Board)
    → ((after : Board) → board_from (before ++ x ∷ []) after (es ++ e ∷ []) ≡ option_and_then (λ c. after_shown c (shown ((before ++ x ∷ []) ++ es) e)) (board_from (before ++ x ∷ []) after es))
    → option_and_then (λ after. board_from (before ++ x ∷ []) after (es ++ e ∷ [])) o ≡ option_and_then (λ c. after_shown c (shown (before ++ x ∷ es) e)) (option_and_then (λ after. board_from (before ++ x ∷ []) after es) o)
more_behind before es x e None each = refl
more_behind before es x e (Some after) each = subst (λ (l : List Event). board_from (before ++ x ∷ []) after (es ++ e ∷ []) ≡ option_and_then (λ c. after_shown c (shown l e)) (board_from (before ++ x ∷ []) after es)) (append_assoc before (x ∷ []) es) (each after)

board_from_more : (before es : List Event) (e : Event) (b : Board) → board_from before b (es ++ e ∷ []) ≡ option_and_then (λ c. after_shown c (shown (before ++ es) e)) (board_from before b es)
board_from_more before [] e b = rw (append-nil before) (last_step (after_shown b (shown before e)))
board_from_more before (x ∷ es) e b = more_behind before es x e (after_shown b (shown before x)) (λ after. board_from_more (before ++ x ∷ []) es e after)

-- the board behind one event more is the board before it after the move that the event shows
pub board_of_more : (es : List Event) (e : Event) → board_of (es ++ e ∷ []) ≡ option_and_then (λ b. after_shown b (shown es e)) (board_of es)
board_of_more es e = board_from_more [] es e empty_board

-- what holds of no move, and of that of each job, holds of the one that an event of a job shows
pub job_shows : (P : Option Move → Type 0) (f : Job → Move) (found : Option Job) → P None → ((j : Job) → P (Some (f j))) → P (option_map f found)
job_shows P f None none each = none
job_shows P f (Some j) none each = each j

-- the moves by which a cell begins: as a root, where a token enters a node, as a run of a body, and as a handler
abbrev pub started : ElementActivating → Start
started a = record { key = a.key; definition = a.definition }

abbrev pub entered_by : ElementActivating → Enter
entered_by a = record { key = a.key; scope = a.scope; node = a.node; via = a.via }

abbrev pub run_by : ElementActivating → Inner
run_by a = record { key = a.key; body = a.scope }

abbrev pub undone_by : ElementActivating → Undo
undone_by a = record { key = a.key; event = a.scope; node = a.node }

-- what holds of an entry, of a run and of a handler holds of the move by which a cell begins in another
pub cell_shows : (P : Move → Type 0) (a : ElementActivating) (role : Role) → P (moves.Enter (entered_by a)) → P (moves.Inner (run_by a)) → P (moves.Undo (undone_by a)) → P (move_of_cell a role)
cell_shows P a roles.Inner enters runs undoes = runs
cell_shows P a roles.Handler enters runs undoes = undoes
cell_shows P a role enters runs undoes = enters

-- and where it holds of a root too, of the move of any cell that begins
pub begin_shows : (P : Option Move → Type 0) (a : ElementActivating) (t : Bool) → P (Some (moves.Start (started a))) → P (Some (moves.Enter (entered_by a))) → P (Some (moves.Inner (run_by a)))
    → P (Some (moves.Undo (undone_by a))) → P (if t then Some (moves.Start (started a)) else Some (move_of_cell a a.role))
begin_shows P a true starts enters runs undoes = starts
begin_shows P a false starts enters runs undoes = cell_shows (λ m. P (Some m)) a a.role enters runs undoes

-- one that is no run and no handler shows by its entry
pub entry_shown : (a : ElementActivating) (role : Role) → is_role role roles.Inner ≡ false → is_role role roles.Handler ≡ false → move_of_cell a role ≡ moves.Enter (entered_by a)
entry_shown a roles.Inner plain whole = absurd (cc)
entry_shown a roles.Handler plain whole = absurd (cc)
entry_shown a role plain whole = refl

-- and a run by that of its body
pub run_shown : (a : ElementActivating) (role : Role) → is_role role roles.Inner ≡ true → move_of_cell a role ≡ moves.Inner (run_by a)
run_shown a roles.Inner run = refl
run_shown a role run = absurd (cc)

-- and a handler by that of its event
pub handler_shown : (a : ElementActivating) (role : Role) → is_role role roles.Handler ≡ true → move_of_cell a role ≡ moves.Undo (undone_by a)
handler_shown a roles.Handler handles = refl
handler_shown a role handles = absurd (cc)
