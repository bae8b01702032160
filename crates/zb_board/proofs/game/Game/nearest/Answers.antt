use Rattle.std.proofs.Common.{◌≡◌, ◌∙◌, ◌+◌, Bool, true, false, cond, drop, Some, ap, sym, rules}
use Rattle.std.specs.List.{find}
use Rattle.zb_tokens.specs.Board.{up_from}
use Rattle.zb_board.proofs.ScopeLemmas.{up-none, up-step}
use Rattle.zb_board.proofs.game.Game.nearest.Goals as goal

pub returns-in_default : goal.returns-in_default
returns-in_default g c =
    let none = up-none c.args.self.now c.loop-step.key (drop c.loop-step._step c.args.self.now.cells) (search rules) in
    ap (find (g.Q.Query.passes c.args.query.now)) (sym none) ∙ c.loop-step.invariant

pub returns-then-passes : goal.returns-then-passes
returns-then-passes g c =
    let b = c.args.self.now in
    let passes = g.Q.Query.passes c.args.query.now in
    let cell = c.in-Some.cell.now in
    let above = find passes (up_from (drop (c.loop-step._step + 1) b.cells) b cell.scope) in
    let is : passes cell ≡ true = sym c.passes.ensures ∙ c.if-passes.true in
    let step = up-step b c.loop-step.key c.loop-step._step cell (search rules) (sym c.in-Some.ensures) in
    sym (ap (λ (t : Bool). cond t (Some cell) above) is) ∙ (ap (find passes) (sym step) ∙ c.loop-step.invariant)

pub loop-step-preserved : goal.loop-step-preserved
loop-step-preserved g c =
    let b = c.args.self.now in
    let passes = g.Q.Query.passes c.args.query.now in
    let cell = c.in-Some.cell.now in
    let above = find passes (up_from (drop (c.loop-step._step + 1) b.cells) b cell.scope) in
    let is : passes cell ≡ false = sym c.passes.ensures ∙ c.if-passes.false in
    let step = up-step b c.loop-step.key c.loop-step._step cell (search rules) (sym c.in-Some.ensures) in
    sym (ap (λ (t : Bool). cond t (Some cell) above) is) ∙ (ap (find passes) (sym step) ∙ c.loop-step.invariant)
