use Rattle.std.proofs.Common.{◌≡◌, ◌+◌, ◌++◌, map, vec_len, vec_capacity}
use Rattle.std.specs.Option.{option_or}
use Rattle.zb_serve.specs.Running.{files_of, first_writing}
use Rattle.zb_serve.proofs.closing.close_all.Given as goal

-- the volumes, and the files of the partitions that are left behind them, are all of them
abbrev pub invariant-loop : goal.invariant-loop
invariant-loop g l = record {
  left : vec_len l.partitions + l.counter ≡ vec_len l.fn.partitions;
  put : vec_len l.volumes ≡ vec_len l.fn.volumes + l.counter;
  room : vec_capacity l.volumes ≡ vec_capacity l.fn.volumes;
  all : l.volumes.items ++ map files_of l.partitions.items ≡ l.fn.volumes.items ++ map files_of l.fn.partitions.items;
  first : option_or l.writing (first_writing l.partitions.items) ≡ first_writing l.fn.partitions.items;
}
