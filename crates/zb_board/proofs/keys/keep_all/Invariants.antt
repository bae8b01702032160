use Rattle.std.proofs.Common.{◌≡◌, ℕ, true, take}
use Rattle.zb_board.specs.Indexed.{is_kept}
use Rattle.zb_board.proofs.keys.keep_all.Given as goal

-- the keys so far are kept, and those that were
abbrev pub invariant-loop-key : goal.invariant-loop-key
invariant-loop-key l = ((key : ℕ) → is_kept (take l.key-index l.more) key ≡ true → is_kept l.keys key ≡ true) × ((other : ℕ) → is_kept l.fn.keys other ≡ true → is_kept l.keys other ≡ true)
