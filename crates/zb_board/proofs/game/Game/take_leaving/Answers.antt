use Rattle.std.proofs.Common.{List, length, not, filter, sym, ap, ◌∙◌, arith}
use Rattle.zb_tokens.specs.declared.board.Cell.{Cell}
use Rattle.zb_tokens.specs.Board.{Board, leaves_in}
use Rattle.zb_tokens.specs.Edits.{without_first}
use Rattle.zb_board.proofs.SweepLemmas.{stay_without, fewer_without, none_goes, none_taken}
use Rattle.zb_board.proofs.game.Game.take_leaving.Goals as goal

pub loop-smaller : goal.loop-smaller
loop-smaller c =
    let some = sym c.in_ok-take_one_leaving.ensures.one ∙ c.if-branch.true in
    let left = ap (λ (b : Board). length b.cells) c.in_ok-take_one_leaving.ensures.left in
    let fewer = fewer_without (leaves_in c.args.scope) c.loop.self.cells some in
    omega (arith, left, fewer)

pub loop-preserved : goal.loop-preserved
loop-preserved c =
    let left = c.in_ok-take_one_leaving.ensures.left in
    let cells = ap (λ (b : Board). b.cells) left in (
      left ∙ (ap (λ (b : Board). record b { cells = without_first (leaves_in c.args.scope) c.loop.self.cells }) c.loop.invariant.0 ∙ ap (λ (cs : List Cell). record c.args.self.now { cells = cs }) (sym cells)),
      ap (filter (λ (x : Cell). not (leaves_in c.args.scope x))) cells ∙ (stay_without (leaves_in c.args.scope) c.loop.self.cells ∙ c.loop.invariant.1),
    )

pub returns : goal.returns
returns c =
    let none = sym c.in_ok-take_one_leaving.ensures.one ∙ c.if-branch.false in
    let stays = none_goes (leaves_in c.args.scope) c.loop.self.cells none in
    let same = none_taken (leaves_in c.args.scope) c.loop.self.cells none in
    c.in_ok-take_one_leaving.ensures.left ∙ (ap (λ (b : Board). record b { cells = without_first (leaves_in c.args.scope) c.loop.self.cells }) c.loop.invariant.0
    ∙ ap (λ (cs : List Cell). record c.args.self.now { cells = cs }) (same ∙ (sym stays ∙ c.loop.invariant.1)))
