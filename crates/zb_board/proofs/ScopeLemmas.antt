-- Up the scopes from a cell, with the cells that are left as fuel.
use Rattle.std.proofs.Common.{◌≡◌, ℕ, ◌+◌, ◌<◌, ◌≤◌, ◌==◌, List, [], ◌∷◌, All, length, drop, get_or, Bool, true, false, is_some, Option, Some, None, refl, sym, ◌∙◌}
use Rattle.std.specs.List.{list_any}
use Rattle.std.proofs.lemmas.List.{at_drop_all, at_drop_more}
use Rattle.zb_tokens.specs.declared.board.Cell.{Cell}
use Rattle.zb_tokens.specs.Board.{Board, cell_at, nearest, up_from}
use Rattle.zb_tokens.specs.Doom.{calls_off, is_called_off}
use Rattle.zb_tokens.proofs.FoundLaws.{found_holds, nearest_there}
use Rattle.zb_board.proofs.RestLemmas.{IsCalling}

module _ (b : Board) (key : ℕ) where
  -- nothing is above a cell that isn't there
  pub up-none : (cells : List Cell) → cell_at b key ≡ None → up_from cells b key ≡ []
  up-none [] none = refl
  up-none (more ∷ cells) none = rw none refl

  -- nor where no cell is left
  pub up-past : (i : ℕ) → length b.cells ≤ i → up_from (drop i b.cells) b key ≡ []
  up-past i past = at_drop_all (λ cells. up_from cells b key) b.cells i past

  -- one step up
  pub up-step : (i : ℕ) (c : Cell) → i < length b.cells → cell_at b key ≡ Some c → up_from (drop i b.cells) b key ≡ c ∷ up_from (drop (i + 1) b.cells) b c.scope
  up-step i c within at = at_drop_more (λ cells. up_from cells b key) b.cells i c within ∙ rw at refl

-- where no cell calls off what is in it, nobody is called off
pub none_called : (b : Board) → All (λ (c : Cell). calls_off c ≡ false) b.cells → (key : ℕ) → is_called_off b key ≡ false
none_called b none key = by_nearest (nearest calls_off b key) refl
  where
    by_nearest : (found : Option Cell) → nearest calls_off b key ≡ found → is_some found ≡ false
    by_nearest None is = refl
    by_nearest (Some c) is =
        let there = nearest_there b calls_off key c is in
        let off = there.1 in
        let not_off = (found_holds (λ (x : Cell). x.key == c.key) (λ (x : Cell). calls_off x ≡ false) b.cells c none there.0).0 in
        absurd (cc)

-- no cell calls off what is in it where none is kept that does
pub none_calling : (calling : List ℕ) (cells : List Cell) → list_any (λ (k : ℕ). true) calling ≡ false → All (IsCalling calling) cells → All (λ (c : Cell). calls_off c ≡ false) cells
none_calling [] cells none called = λ k d within. not_true (calls_off (get_or cells k d)) (called k d within)
  where
    not_true : (t : Bool) → (t ≡ true → false ≡ true) → t ≡ false
    not_true true is = sym (is refl)
    not_true false is = refl
none_calling (key ∷ calling) cells none called = absurd (cc)
