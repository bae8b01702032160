use Rattle.std.proofs.Common.{◌≡◌, ℕ, true, false, All, subst, rules}
use Rattle.std.specs.List.{list_any}
use Rattle.zb_tokens.specs.Board.{Board}
use Rattle.zb_tokens.specs.Doom.{calls_off}
use Rattle.zb_tokens.specs.declared.board.Cell.{Cell}
use Rattle.zb_board.proofs.ScopeLemmas.{none_calling}
use Rattle.zb_board.proofs.game.Game.has_none_calling.Goals as goal

pub returns-then-self : goal.returns-then-self
returns-then-self c = λ is.
    let none : list_any (λ (k : ℕ). true) c.self.inside.calling ≡ false = search rules in
    let calls_not = none_calling c.self.inside.calling c.self.inside.cells none (c.self.invariant c.if-self.true).called in
    subst (λ (b : Board). All (λ (x : Cell). calls_off x ≡ false) b.cells) c.self.view_is calls_not
