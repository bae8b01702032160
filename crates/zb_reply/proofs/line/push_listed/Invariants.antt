use Rattle.std.proofs.Common.{◌≡◌, ◌++◌, false, drop}
use Rattle.std.specs.Prelude.{string_bytes}
use Rattle.zb_reply.specs.Reply.{listed}
use Rattle.zb_reply.proofs.line.push_listed.Given as goal

-- what is there, and then the items that are left
abbrev pub invariant-loop-item : goal.invariant-loop-item
invariant-loop-item g l = string_bytes l.line ++ listed g.T.Listed.text l.behind (drop l.item-index l.items) ≡ string_bytes l.initial.line ++ listed g.T.Listed.text false l.items
