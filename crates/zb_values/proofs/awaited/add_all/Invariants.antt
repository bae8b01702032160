use Rattle.std.proofs.Common.{◌≡◌, ◌++◌, take}
use Rattle.zb_values.proofs.awaited.add_all.Given as goal

-- the numbers so far are added
abbrev pub invariant-loop-number : goal.invariant-loop-number
invariant-loop-number l = l.numbers ≡ l.fn.numbers ++ take l.number-index l.more
