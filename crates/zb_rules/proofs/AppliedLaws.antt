-- Laws of events that apply: each has a board after it, and what each keeps holds of the board of them all.
use Rattle.std.proofs.Common.{◌≡◌, ℕ, List, [], ◌∷◌, ◌++◌, Bool, false, IsTrue, is_some, Option, Some, None, option_and_then, refl, sym, ap, ◌∙◌, subst, append-nil, append_assoc}
use Rattle.std.specs.Option.{option_map_or}
use Rattle.zb_model.specs.declared.record.Event.{Event}
use Rattle.zb_tokens.specs.declared.board.Move.{Move}
use Rattle.zb_tokens.specs.Board.{Board}
use Rattle.zb_tokens.specs.Game.{empty_board, fits}
use Rattle.zb_tokens.proofs.GameLaws.{both_left, both_right, fitting_is_played}
use Rattle.zb_rules.specs.Shown.{shown, after_shown, board_of}
use Rattle.zb_rules.specs.Applies.{holds_own, holds_of_game, may_fit, applies, all_apply}
use Rattle.zb_rules.proofs.GrowthLaws.{board_of_more}

-- what an event does to the board of those before it
pub record Advances (p : ℕ) (before : List Event) (b : Board) (e : Event) (after : Board) : Type 0 where
  pub board : board_of before ≡ Some b
  pub own : IsTrue (holds_own p before e)
  pub fit : IsTrue (may_fit (shown before e) b)
  pub leads : after_shown b (shown before e) ≡ Some after

-- what holds of a board holds where it is that of the events
pub game_holds : (holds : Board → Bool) (es : List Event) (b : Board) → board_of es ≡ Some b → IsTrue (holds_of_game holds es) → IsTrue (holds b)
game_holds holds es b is h = subst (λ (o : Option Board). IsTrue (option_map_or holds o false)) is h

-- and the other way
pub game_holds_from : (holds : Board → Bool) (es : List Event) (b : Board) → board_of es ≡ Some b → IsTrue (holds b) → IsTrue (holds_of_game holds es)
game_holds_from holds es b is h = subst (λ (o : Option Board). IsTrue (option_map_or holds o false)) (sym is) h

-- an event that shows a move that fits applies, where its own condition holds
pub applied_from : (p : ℕ) (es : List Event) (b : Board) (e : Event) (move : Move) → board_of es ≡ Some b → IsTrue (holds_own p es e) → shown es e ≡ Some move → IsTrue (fits b move) → IsTrue (applies p es e)
applied_from p es b e move is own shows fit =
    let there : IsTrue (holds_of_game (may_fit (shown es e)) es) = game_holds_from (may_fit (shown es e)) es b is (subst (λ (o : Option Move). IsTrue (may_fit o b)) (sym shows) fit) in
    rw (own, there) refl

-- a move that fits is made
made_by : (b : Board) (move : Option Move) → IsTrue (may_fit move b) → IsTrue (is_some (after_shown b move))
made_by b None fit = refl
made_by b (Some move) fit = fitting_is_played b move fit

-- what is in an option that has something
pub some_of : {A : Type 0} (o : Option A) → IsTrue (is_some o) → (a : A) × (o ≡ Some a)
some_of None there = absurd (cc)
some_of (Some a) there = (a, refl)

-- an event that applies has a board after it
pub applied_board : (p : ℕ) (before : List Event) (b : Board) (e : Event) → board_of before ≡ Some b → IsTrue (applies p before e) → (after : Board) × Advances p before b e after
applied_board p before b e is h =
    let own = both_left (holds_own p before e) _ h in
    let fit = game_holds (may_fit (shown before e)) before b is (both_right (holds_own p before e) _ h) in
    let found = some_of (after_shown b (shown before e)) (made_by b (shown before e) fit) in
    (found.0, record { board = is; own = own; fit = fit; leads = found.1 })

-- and it is the board of the events with that one behind
pub board_behind : (p : ℕ) (before : List Event) (b : Board) (e : Event) (after : Board) → Advances p before b e after → board_of (before ++ e ∷ []) ≡ Some after
board_behind p before b e after h = board_of_more before e ∙ (ap (option_and_then (λ (x : Board). after_shown x (shown before e))) h.board ∙ h.leads)

-- what each event that applies keeps holds of the board of them all
module _ (p : ℕ) (Holds : List Event → Board → Type 0) (keeps : (before : List Event) (b : Board) (e : Event) (after : Board) → Advances p before b e after → Holds before b → Holds (before ++ e ∷ []) after) where
  -- behind the events of any board that has it
  pub holds_on : (before es : List Event) (b : Board) → board_of before ≡ Some b → Holds before b → IsTrue (all_apply p before es) → (after : Board) × (board_of (before ++ es) ≡ Some after) × Holds (before ++ es) after
  holds_on before [] b is h apply = rw (append-nil before) (b, is, h)
  holds_on before (e ∷ es) b is h apply =
      let made = applied_board p before b e is (both_left (applies p before e) _ apply) in
      let r = holds_on (before ++ e ∷ []) es made.0 (board_behind p before b e made.0 made.1) (keeps before b e made.0 made.1 h) (both_right (applies p before e) _ apply) in
      rw append_assoc at r

  -- and so of the whole log
  pub holds_of_all : (es : List Event) (b : Board) → Holds [] empty_board → IsTrue (all_apply p [] es) → board_of es ≡ Some b → Holds es b
  holds_of_all es b first apply is =
      let r = holds_on [] es empty_board refl first apply in
      let same : r.0 ≡ b = (let e : Some r.0 ≡ Some b = sym r.1 ∙ is in cc) in
      subst (Holds es) same r.2
