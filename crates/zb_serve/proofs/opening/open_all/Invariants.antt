use Rattle.std.proofs.Common.{◌≡◌, ◌≤◌, ◌+◌, length, vec_len, vec_capacity}
use Rattle.zb_serve.proofs.OpeningLemmas.{HasOpened}
use Rattle.zb_serve.proofs.opening.open_all.Given as goal

-- the volumes that are left stand behind those that were opened
abbrev pub invariant-loop-index : goal.invariant-loop-index
invariant-loop-index g l = record {
  many : vec_len l.volumes + l.index ≡ vec_len l.fn.volumes;
  room : vec_capacity l.volumes ≡ vec_capacity l.fn.volumes;
  opened : vec_len l.partitions ≡ l.index;
  place : vec_len l.fn.volumes ≤ vec_capacity l.partitions;
  has : HasOpened (length l.fn.volumes.items) l.limit l.fn.volumes.items l.volumes.items l.partitions.items;
}
