use Rattle.std.proofs.Common.{ℕ, List, ◌==◌, is_some, slice_get, sym, ap, ◌∙◌}
use Rattle.std.specs.List.{list_any}
use Rattle.zb_tokens.specs.declared.board.Cell.{Cell}
use Rattle.zb_tokens.specs.Board.{Board, has_child}
use Rattle.zb_board.proofs.ChildLemmas.{children_in, first_child}
use Rattle.zb_board.proofs.TallyLemmas.{found_any, some_mapped}
use Rattle.zb_board.proofs.game.Game.has_child.Goals as goal

pub returns-then-self : goal.returns-then-self
returns-then-self c =
    let kept = c.self.invariant c.if-self.true in
    let cells = c.self.inside.cells in
    c.is_some.ensures ∙ (ap is_some c.first_under.ensures.key
    ∙ (ap (λ (ks : List ℕ). is_some (slice_get ks 0)) (children_in cells c.self.inside.children kept.children_right c.args.key kept.cells_ascend c.first_under.ensures.order)
    ∙ (first_child c.args.key cells ∙ ap (λ (b : Board). has_child b c.args.key) c.self.view_is)))

pub returns-else-self : goal.returns-else-self
returns-else-self c =
    let p = λ (x : Cell). x.scope == c.args.key in
    c.is_some-else-self.ensures ∙ (sym (some_mapped _ c.first.result) ∙ (ap is_some c.first.ensures ∙ (found_any p c.self.inside.cells ∙ ap (λ (b : Board). list_any p b.cells) c.self.view_is)))
