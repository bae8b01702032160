use Rattle.std.proofs.Common.{◌≡◌, take, sum_by}
use Rattle.zb_partition.specs.Partition.{frames_of}
use Rattle.zb_engine.proofs.starting.frames_in.Given as goal

-- the frames of those before it were counted
abbrev pub invariant-loop-partition : goal.invariant-loop-partition
invariant-loop-partition g l = l.frames ≡ sum_by frames_of (take l.partition-index l.partitions)
