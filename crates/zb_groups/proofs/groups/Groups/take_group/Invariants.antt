use Rattle.std.proofs.Common.{◌≡◌, drop}
use Rattle.zb_groups.proofs.EmptyingLemmas.{IsEmptying}
use Rattle.zb_groups.proofs.groups.Groups.take_group.Given as goal

-- the rows whose numbers were passed are gone
abbrev pub invariant-loop-number : goal.invariant-loop-number
invariant-loop-number g l = IsEmptying g.R.Grouped.group_in l.fn.group l.initial.self l.self (drop l.number-index l.number-items)
