use Rattle.std.proofs.Common.{◌≡◌, ℕ, ◌+◌, ◌<◌, length, slice_index}
use Rattle.zb_disk.specs.Image.{fill_at}
use Rattle.zb_disk.proofs.image.piece_of.Given as goal

abbrev pub invariant-loop-k : goal.invariant-loop-k
invariant-loop-k l = record {
  size : length l.piece.items ≡ l.k;
  bytes : (k : ℕ) → k < l.k → slice_index l.piece.items k ≡ fill_at l.fill (l.at + k);
}
