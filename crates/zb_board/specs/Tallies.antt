-- How many incidents stand on a cell.
use Rattle.std.specs.Prelude.{ℕ, ◌==◌, filter, length}
use Rattle.zb_tokens.specs.Board.{Board}

-- how many incidents of a board stand on a cell (own)
abbrev pub incidents_on : Board → ℕ → ℕ
incidents_on b cell = length (filter (λ i. i.cell == cell) b.incidents)
