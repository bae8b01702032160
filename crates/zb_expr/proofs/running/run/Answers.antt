use Rattle.std.proofs.Common.{◌≡◌, ◌∷◌, [], Some, arith}
use Rattle.zb_process.specs.Expr.{value_of}
use Rattle.zb_expr.specs.Outcome.{IsTold}
use Rattle.zb_expr.specs.Postfix.{trees_behind, tree_written}
use Rattle.zb_expr.proofs.RunLemmas.{alone_told, alone_last, alone_some, one-written}
use Rattle.zb_expr.proofs.running.run.Goals as goal

pub returns-in_err-stack-clause-fault : goal.returns-in_err-stack-clause-fault
returns-in_err-stack-clause-fault g c =
    let names = g.E.Env.values c.args.env.now in
    let is = c.instructions.result.now in
    let written : trees_behind [] is ≡ Some (tree_written is ∷ []) = one-written is c.instructions.ensures.one in
    let fault = c.in_err-stack.field-0.0 in
    let told : IsTold fault (value_of names c.args.code.now) = rw (← c.instructions.ensures.tree) (alone_told names (tree_written is) fault (c.in_err-stack.ensures (tree_written is ∷ []) written)) in
    grind (arith, told)

pub unreachable-requires : goal.unreachable-requires
unreachable-requires g c =
    let names = g.E.Env.values c.args.env.now in
    let is = c.instructions.result.now in
    let written : trees_behind [] is ≡ Some (tree_written is ∷ []) = one-written is c.instructions.ensures.one in
    let none = c.in-None.ensures in
    alone_some names (tree_written is) c.in_ok-stack.stack.items c.pop.new.self.items _ (c.in_ok-stack.ensures (tree_written is ∷ []) written) none.items none.rest none.cases.0

pub returns-clause-value : goal.returns-clause-value
returns-clause-value g c =
    let names = g.E.Env.values c.args.env.now in
    let is = c.instructions.result.now in
    let written : trees_behind [] is ≡ Some (tree_written is ∷ []) = one-written is c.instructions.ensures.one in
    rw (← c.instructions.ensures.tree, c.in_ok-into_value-in-Some.ensures) (alone_last names (tree_written is) c.in_ok-stack.stack.items c.pop.new.self.items c.in-Some.operand (c.in_ok-stack.ensures (tree_written is ∷ []) written) c.in-Some.ensures.items)
