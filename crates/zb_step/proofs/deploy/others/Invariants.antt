use Rattle.std.proofs.Common.{◌≡◌, ◌-◌, ◌≤◌}
use Rattle.std.specs.List.{range_with_len}
use Rattle.zb_step.proofs.deploy.others.Given as goal

-- the partitions up to this one are there
abbrev pub invariant-loop-behind : goal.invariant-loop-behind
invariant-loop-behind l = record {
  within : l.behind - 1 ≤ l.partitions - 1;
  are : l.others.items ≡ range_with_len 2 (l.behind - 1);
}
