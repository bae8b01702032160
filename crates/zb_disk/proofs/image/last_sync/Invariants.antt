use Rattle.std.proofs.Common.{◌≤◌, length, drop, All, IsFalse}
use Rattle.zb_disk.specs.Image.{is_sync}
use Rattle.zb_disk.proofs.image.last_sync.Given as goal

abbrev pub invariant-loop-count : goal.invariant-loop-count
invariant-loop-count l = record {
  within : l.count ≤ length l.calls;
  no_other : All (λ call. IsFalse (is_sync call)) (drop l.count l.calls);
}

abbrev pub decreases-loop-count : goal.decreases-loop-count
decreases-loop-count l = l.count
