use Rattle.std.proofs.Common.{◌≡◌, ◌++◌, map, string_bytes}
use Rattle.zb_starts.proofs.ids.Ids.copied.Given as goal

-- the copies, and the bytes of what is to come behind them
abbrev pub invariant-loop-id : goal.invariant-loop-id
invariant-loop-id l = l.ids.items ++ map string_bytes l.id-iterator ≡ l.fn.self
