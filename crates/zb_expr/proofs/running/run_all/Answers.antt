use Rattle.std.proofs.Common.{◌≡◌, ◌-◌, ◌++◌, ◌∷◌, [], length, take, drop, refl, sym, ◌∙◌, arith}
use Rattle.zb_process.specs.Expr.{values_of}
use Rattle.zb_process.specs.Tree.{trees_of}
use Rattle.zb_expr.specs.Instructions.{arity, value_over}
use Rattle.zb_expr.specs.Outcome.{IsTold}
use Rattle.zb_expr.proofs.RunLemmas.{to_end, run-is, stack-on, stack-fault, stack-over, told-too}
use Rattle.zb_expr.proofs.running.run_all.Goals as goal

pub returns-in_err-value : goal.returns-in_err-value
returns-in_err-value g c = λ trees written.
    let names = g.E.Env.values c.args.env.now in
    let is = c.args.instructions.now in
    let i = c.instruction-item.result in
    let vs = c.loop-instruction.stack.items in
    let below = c.saturating_sub-below.result in
    let vs_is : length c.deref.result.now ≡ length vs = rw c.deref.ensures.value refl in
    let at : below ≡ length vs - arity i = omega (arith, c.len.ensures, c.arity.ensures, c.saturating_sub-below.ensures, c.deref.ensures.len, vs_is) in
    let operands = to_end vs c.deref.result.now below c.deref.ensures.value in
    let told : IsTold c.in_err-value.field-0.0 (values_of names (trees_of trees)) =
    told-too c.in_err-value.field-0.0 (value_over names i (drop below vs)) (values_of names (trees_of trees))
    (λ e faults. run-is names is [] trees written ∙ (sym c.loop-instruction.invariant ∙ stack-fault names is c.loop-instruction.instruction-index below i vs e c.loop-instruction-test.true c.instruction-item.is at faults)) (rw (← operands) c.in_err-value.ensures) in
    grind (arith, told)

pub loop-instruction-preserved : goal.loop-instruction-preserved
loop-instruction-preserved g c =
    let names = g.E.Env.values c.args.env.now in
    let is = c.args.instructions.now in
    let i = c.instruction-item.result in
    let vs = c.loop-instruction.stack.items in
    let below = c.saturating_sub-below.result in
    let vs_is : length c.deref.result.now ≡ length vs = rw c.deref.ensures.value refl in
    let at : below ≡ length vs - arity i = omega (arith, c.len.ensures, c.arity.ensures, c.saturating_sub-below.ensures, c.deref.ensures.len, vs_is) in
    let operands = to_end vs c.deref.result.now below c.deref.ensures.value in
    let pushed : c.push.new.self.items ≡ take below vs ++ c.in_ok-value.value ∷ [] = rw (← c.truncate.ensures.items) c.in_ok-push.ensures.items in
    rw pushed (stack-on names is c.loop-instruction.instruction-index below i vs c.in_ok-value.value c.loop-instruction-test.true c.instruction-item.is at (rw (← operands) c.in_ok-value.ensures) ∙ c.loop-instruction.invariant)

pub returns : goal.returns
returns g c = λ trees written.
    let names = g.E.Env.values c.args.env.now in
    let is = c.args.instructions.now in
    let vs = c.loop-instruction.stack.items in
    run-is names is [] trees written ∙ (sym c.loop-instruction.invariant ∙ stack-over names is c.loop-instruction.instruction-index vs c.loop-instruction-test.false)
