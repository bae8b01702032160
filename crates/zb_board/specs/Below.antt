-- What is below a scope, by pairs of a scope and the key of a cell in it.
use Rattle.std.specs.Prelude.{◌≡◌, ℕ, ◌<◌, List, true}
use Rattle.zb_pairs.specs.Pairs.{keys_under}
use Rattle.zb_board.specs.Indexed.{is_kept}

-- some keys are among the ready ones: those in a scope, and those in each of them, where each is newer than what it is in (own)
pub record HasBelow (pairs : List (ℕ × ℕ)) (scope : ℕ) (ready : List ℕ) : Type 0 where
  pub below : List ℕ
  pub kept : (key : ℕ) → is_kept below key ≡ true → is_kept ready key ≡ true
  pub first : (key : ℕ) → scope < key → is_kept (keys_under scope pairs) key ≡ true → is_kept below key ≡ true
  pub next : (around key : ℕ) → around < key → is_kept below around ≡ true → is_kept (keys_under around pairs) key ≡ true → is_kept below key ≡ true
