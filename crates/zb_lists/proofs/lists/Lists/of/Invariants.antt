use Rattle.std.proofs.Common.{ℕ, List}
use Rattle.zb_table.specs.Rows.{Ascend}
use Rattle.zb_pairs.specs.Pairs.{is_number}
use Rattle.zb_lists.specs.Moments.{is_among}
use Rattle.zb_lists.specs.Listed.{is_label, is_labelled}
use Rattle.zb_lists.proofs.ListedLemmas.{IsListBut}
use Rattle.zb_lists.proofs.lists.Lists.of.Given as goal

-- the rows so far are listed
abbrev pub invariant-loop-row : goal.invariant-loop-row
invariant-loop-row g l = record {
  ascend : Ascend g.R.Row.key_in 0 l.row-iterator;
  moments : (n : ℕ) → IsListBut g.R.Row.key_in (λ r. is_number n (g.R.Timed.moment_in r)) l.rows l.row-iterator (λ k. is_among l.pairs.items n k);
  labels : (a b : List ℕ) → IsListBut g.R.Row.key_in (λ r. is_label a b (g.R.Listed.label_in r)) l.rows l.row-iterator (λ k. is_labelled l.labels a b k);
}
