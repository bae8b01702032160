use Rattle.std.proofs.Common.{◌≡◌, ℕ, ◌-◌, ◌^◌, true, slice_get}
use Rattle.std.specs.Option.{option_map_or}
use Rattle.zb_board.specs.Indexed.{is_kept}
use Rattle.zb_board.proofs.BelowLemmas.{IsLooking}
use Rattle.zb_board.proofs.below.wake_below.Given as goal

-- those below that were found are ready, and some of them wait
abbrev pub invariant-loop-key : goal.invariant-loop-key
invariant-loop-key l = record {
  looking : IsLooking l.fn.children.keys l.fn.scope l.ready l.waiting;
  still : (key : ℕ) → is_kept l.fn.ready key ≡ true → is_kept l.ready key ≡ true;
}

-- the first that waits gets greater
abbrev pub decreases-loop-key : goal.decreases-loop-key
decreases-loop-key l = 2 ^ 64 - option_map_or (λ k. k) (slice_get l.waiting.keys 0) (2 ^ 64)
