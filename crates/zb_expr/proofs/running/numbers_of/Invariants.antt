use Rattle.std.proofs.Common.{◌≡◌, drop}
use Rattle.zb_process.specs.Expr.{whole_numbers}
use Rattle.zb_expr.proofs.RunLemmas.{with_front}
use Rattle.zb_expr.proofs.running.numbers_of.Given as goal

-- the numbers so far, and those of the values that are left, are all of them
abbrev pub invariant-loop-operand : goal.invariant-loop-operand
invariant-loop-operand l = with_front l.numbers (whole_numbers (drop l.operand-index l.operands)) ≡ whole_numbers l.operands
