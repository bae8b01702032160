-- What moves make of a board, from what was changed on it.
use Rattle.std.proofs.Common.{◌≡◌, ℕ, ◌==◌, List, [], ◌++◌, Option, Some, None, option_map, is_some, IsTrue, ap, ◌∙◌}
use Rattle.zb_tokens.specs.Edits.{edited}
use Rattle.zb_tokens.specs.declared.board.Cell.{Cell}
use Rattle.zb_tokens.specs.declared.board.Token.{Token}
use Rattle.zb_tokens.specs.declared.board.Move.{Move}
use Rattle.zb_tokens.specs.declared.board.Open.{Open}
use Rattle.zb_tokens.specs.Board.{Board, cell_at}
use Rattle.zb_tokens.specs.MoveOpen.{first_tokens, play_open, with_items}
use Rattle.zb_tokens.specs.Game.{fits, played}
use Rattle.zb_tokens.proofs.GameLaws.{fitting_is_played}
use Rattle.zb_arrivals.proofs.EditLemmas.{mapped_from}
use Rattle.std.proofs.lemmas.List.{append-nil}

-- a move that fits names nothing that isn't there
none_some : (after : Option Board) → IsTrue (is_some after) → after ≡ None → ⊥
none_some None some none = cc
none_some (Some b) some none = cc

pub never_illegal : (b : Board) (move : Move) → IsTrue (fits b move) → played b move ≡ None → ⊥
never_illegal b move fit none = none_some (played b move) (fitting_is_played b move fit) none

module _ (b : Board) where
  -- the board with other cells
  abbrev pub with_cells : List Cell → Board
  with_cells cells = record b { cells = cells }

  -- a cell is active with its items, and its tokens are there
  pub opened : (o : Open) (mid : Board) (c : Cell) (more : List Token) → cell_at b o.key ≡ Some c → first_tokens b c ≡ Some more
      → option_map with_cells (edited (λ x. x.key == o.key) (with_items o.items) b.cells) ≡ Some mid
      → play_open b o ≡ Some (record mid { tokens = mid.tokens ++ more })
  opened o mid c more cell tokens put =
      let r = mapped_from with_cells (edited (λ x. x.key == o.key) (with_items o.items) b.cells) mid put in
      let cells = r.1 in
      rw (cell, tokens, cells) (ap (λ (x : Board). Some (record x { tokens = x.tokens ++ more })) r.2)

  -- a cell that gets no token is active
  pub opened_alone : (o : Open) (mid : Board) (c : Cell) → cell_at b o.key ≡ Some c → first_tokens b c ≡ Some []
      → option_map with_cells (edited (λ x. x.key == o.key) (with_items o.items) b.cells) ≡ Some mid → play_open b o ≡ Some mid
  opened_alone o mid c cell tokens put =
      opened o mid c [] cell tokens put ∙ ap (λ (ts : List Token). Some (record mid { tokens = ts })) (append-nil mid.tokens)
