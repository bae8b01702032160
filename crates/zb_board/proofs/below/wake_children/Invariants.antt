use Rattle.std.proofs.Common.{◌≡◌, ℕ, ◌<◌, true, take, All, nat_cmp}
use Rattle.std.specs.BTreeSet.{contains}
use Rattle.zb_board.specs.Indexed.{is_kept}
use Rattle.zb_board.proofs.below.wake_children.Given as goal

-- the keys so far are ready and wait, and so are those that were; those that wait are newer than the scope where they were
abbrev pub invariant-loop-key : goal.invariant-loop-key
invariant-loop-key l = record {
  still : (key : ℕ) → is_kept l.fn.ready key ≡ true → is_kept l.ready key ≡ true;
  stay : (key : ℕ) → contains nat_cmp l.fn.waiting key ≡ true → contains nat_cmp l.waiting key ≡ true;
  woken : (key : ℕ) → l.scope < key → is_kept (take l.key-index l.key-items) key ≡ true → is_kept l.ready key ≡ true;
  waits : (key : ℕ) → l.scope < key → is_kept (take l.key-index l.key-items) key ≡ true → contains nat_cmp l.waiting key ≡ true;
  newer : All (λ key. l.scope < key) l.fn.waiting.keys → All (λ key. l.scope < key) l.waiting.keys;
}
