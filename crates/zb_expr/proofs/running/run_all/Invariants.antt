use Rattle.std.proofs.Common.{◌≡◌, [], drop}
use Rattle.zb_expr.proofs.RunLemmas.{stack_behind}
use Rattle.zb_expr.proofs.running.run_all.Given as goal

-- the instructions that are left leave what all of them leave
abbrev pub invariant-loop-instruction : goal.invariant-loop-instruction
invariant-loop-instruction t l = stack_behind (t.E.Env.values l.env) l.stack.items (drop l.instruction-index l.instructions) ≡ stack_behind (t.E.Env.values l.env) [] l.instructions
