-- What is kept beside rows that came in the order of their keys.
use Rattle.std.specs.Prelude.{ℕ, ◌<◌, ◌^◌, List, length, IsTrue}
use Rattle.zb_table.specs.Rows.{Ascend, are_below}

-- what is kept is right: the keys ascend below the next one, and memory has room for the rows (own)
pub record IsInOrder {A : Type 0} (key : A → ℕ) (next : ℕ) (rows : List A) : Type 0 where
  pub ascend : Ascend key 0 rows
  pub below : IsTrue (are_below key next rows)
  pub fits : length rows < 2 ^ 63
