use Rattle.std.proofs.Common.{◌≡◌, ◌<◌, ◌^◌, drop}
use Rattle.zb_expr.specs.Spelling.{decimal_after}
use Rattle.zb_expr.proofs.splitting.number_of.Given as goal

-- the number so far, and the digits that are left
abbrev pub invariant-loop-digit : goal.invariant-loop-digit
invariant-loop-digit l = record {
  value : decimal_after l.number (drop l.digit-index l.digits) ≡ decimal_after 0 l.digits;
  few : l.number < 2 ^ 63;
}
