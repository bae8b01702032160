use Rattle.std.proofs.Common.{◌≡◌, false, [], length}
use Rattle.zb_expr.specs.Spelling.{quoted_after}
use Rattle.zb_expr.proofs.splitting.read_quoted.Given as goal

-- what follows the bytes so far is what follows at the beginning
abbrev pub invariant-loop-byte : goal.invariant-loop-byte
invariant-loop-byte l = quoted_after l.escaped l.content.items l.bytes ≡ quoted_after false [] l.fn.bytes

abbrev pub decreases-loop-byte : goal.decreases-loop-byte
decreases-loop-byte l = length l.bytes
