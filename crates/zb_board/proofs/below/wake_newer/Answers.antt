use Rattle.std.proofs.Common.{ℕ, ◌<◌, All, List, sym, subst, ◌∙◌, arith}
use Rattle.std.proofs.lemmas.Bool.Decides.{nat_tests}
use Rattle.zb_board.proofs.BelowLemmas.{newer_put, still_there}
use Rattle.zb_board.proofs.below.wake_newer.Goals as goal

pub returns-clause-stay : goal.returns-clause-stay
returns-clause-stay c = λ other was. c.in_ok-insert.ensures.updates.0 other ∙ still_there _ _ was

pub returns-clause-newer : goal.returns-clause-newer
returns-clause-newer c = λ all.
    let above = c.if-le.ensures in
    let newer : c.args.scope < c.args.key = grind (arith, nat_tests, above) in
    subst (λ (keys : List ℕ). All (λ k. c.args.scope < k) keys) (sym c.in_ok-insert.ensures.keys) (newer_put c.args.scope c.args.key c.args.waiting.now.keys newer all)
