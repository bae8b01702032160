-- The summary of what came of a workload.
use Rattle.std.specs.Prelude.{ℕ, List, ◌++◌, codes}
use Rattle.std.specs.Fmt.{decimal}
use Rattle.zb_tally.specs.declared.tally.Tally.{Tally}

-- a line of a word and a number (own)
unfoldable pub summary_line : List ℕ → ℕ → List ℕ
summary_line word number = word ++ (codes " " ++ (decimal number ++ codes "\n"))

-- the lines of a summary, of a workload with so many requests behind the first one (own)
unfoldable pub summary : (requests : ℕ) → Tally → List ℕ
summary requests tally =
    summary_line (codes "requests") requests ++ (summary_line (codes "batches") tally.batches
    ++ (summary_line (codes "accepted") tally.accepted ++ (summary_line (codes "rejected") tally.rejected
    ++ (summary_line (codes "events") tally.events ++ (summary_line (codes "cells") tally.cells
    ++ summary_line (codes "messages") tally.messages)))))
