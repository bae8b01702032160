use Rattle.std.proofs.Common.{◌≡◌, ◌+◌, drop}
use Rattle.std.specs.List.{prefix_len}
use Rattle.zb_expr.specs.Spelling.{is_in}
use Rattle.zb_expr.proofs.class.run_length.Given as goal

-- the bytes so far are of the class
abbrev pub invariant-loop-index : goal.invariant-loop-index
invariant-loop-index l = l.index + prefix_len (is_in l.class) (drop l.index l.bytes) ≡ prefix_len (is_in l.class) l.bytes
