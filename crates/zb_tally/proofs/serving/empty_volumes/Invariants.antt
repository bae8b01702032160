use Rattle.std.proofs.Common.{◌≡◌, [], length}
use Rattle.std.specs.List.{AllByRecursion}
use Rattle.zb_tally.proofs.serving.empty_volumes.Given as goal

-- so many are there, and nothing is in them
abbrev pub invariant-loop-place : goal.invariant-loop-place
invariant-loop-place l = record {
  many : length l.volumes.items ≡ l._place;
  empty : AllByRecursion (λ volume. volume.log ≡ []) l.volumes.items;
}
