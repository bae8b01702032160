use Rattle.std.proofs.Common.{◌≡◌, map, take}
use Rattle.zb_graph.proofs.codes.all_compiled.Given as goal

-- what is compiled so far
abbrev pub invariant-loop-item : goal.invariant-loop-item
invariant-loop-item g l = l.made ≡ map g.T.HasCodes.codes (take l.item-index l.items)
