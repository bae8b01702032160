use Rattle.std.proofs.Common.{◌==◌, refl, sym}
use Rattle.zb_tokens.specs.declared.board.Cell.{Cell}
use Rattle.zb_arrivals.proofs.EditLemmas.{found_none}
use Rattle.zb_board.proofs.EditedLemmas.{there}
use Rattle.zb_board.proofs.game.Game.take_away.Goals as goal

pub returns-in_default-clause-none : goal.returns-in_default-clause-none
returns-in_default-clause-none c = λ _.
    (found_none (λ (x : Cell). x.key == c.args.key) c.args.self.now.cells (sym c.in_default.ensures)).0

pub returns-clause-gone : goal.returns-clause-gone
returns-clause-gone c =
    let its = there c.args.self.now.cells c.args.key c.in-Some.cell.now (sym c.in-Some.ensures) in
    let gone = its.gone in
    rw (c.in_ok-take_out.ensures, gone) refl
