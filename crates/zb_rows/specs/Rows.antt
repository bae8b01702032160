-- Rows that are found by their cells.
use Rattle.std.specs.Prelude.{ℕ, List, Option}
use Rattle.std.specs.BTreeSet.{BTreeSet}
use Rattle.zb_table.specs.Rows.{Ascend}
use Rattle.zb_pairs.specs.Pairs.{IsIndex}

-- what is kept is right: the keys ascend, and that of each row is kept under its cell, if it stands at one (own)
pub record AreFound {A : Type 0} (key : A → ℕ) (cell : A → Option ℕ) (rows : List A) (cells : BTreeSet (ℕ × ℕ)) : Type 0 where
  pub ascend : Ascend key 0 rows
  pub at_cells : IsIndex key cell rows cells
