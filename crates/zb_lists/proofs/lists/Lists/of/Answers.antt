use Rattle.std.proofs.Common.{◌≡◌, ℕ, ◌+◌, ◌∷◌, List, sym, ap, subst, ◌∙◌, arith}
use Rattle.zb_table.specs.Rows.{Ascend}
use Rattle.zb_table.proofs.Ascending.{lower}
use Rattle.zb_pairs.specs.Pairs.{is_number}
use Rattle.zb_lists.specs.Moments.{is_among}
use Rattle.zb_lists.specs.Listed.{has_key, is_label, is_labelled}
use Rattle.zb_lists.proofs.ListedLemmas.{IsListBut, listed_first, listed_next}
use Rattle.zb_lists.proofs.lists.Lists.of.Goals as goal

pub loop-row-init : goal.loop-row-init
loop-row-init g c =
    let key = g.R.Row.key_in in
    let rows = c.args.rows.now in
    let is : c.into_iter-row-iterator.result ≡ rows = c.into_iter-row-iterator.ensures.into_iter_gives ∙ c.iter-row-items.ensures.rows in
    record {
      ascend = subst (λ (rest : List _). Ascend key 0 rest) (sym is) c.iter-row-items.ensures.order;
      moments = λ n. let test = λ (r : _). is_number n (g.R.Timed.moment_in r) in
          subst (λ (rest : List _). IsListBut key test rows rest (λ k. is_among c.new-pairs.result.items n k)) (sym is)
          (listed_first key test rows (λ k. is_among c.new-pairs.result.items n k) (λ k. ap (λ (ps : List (ℕ × ℕ)). is_among ps n k) c.new-pairs.ensures.items));
      labels = λ a b. let test = λ (r : _). is_label a b (g.R.Listed.label_in r) in
          subst (λ (rest : List _). IsListBut key test rows rest (λ k. is_labelled c.empty-labels.result a b k)) (sym is)
          (listed_first key test rows (λ k. is_labelled c.empty-labels.result a b k) (λ k. ap (has_key k) (c.empty-labels.ensures a b)));
    }

pub loop-row-preserved : goal.loop-row-preserved
loop-row-preserved g c =
    let key = g.R.Row.key_in in
    let rows = c.args.rows.now in
    let row = c.in-Some.row.now in
    let rest = c.next.new.self in
    let was = c.loop-row.invariant in
    let next = c.in-Some.ensures.steps in
    let up : Ascend key 0 (row ∷ rest) = subst (λ (rs : List _). Ascend key 0 rs) next was.ascend in
    record {
      ascend = lower key 0 (key row + 1) rest (omega arith) up.1;
      moments = λ n. let test = λ (r : _). is_number n (g.R.Timed.moment_in r) in
          listed_next key test rows row rest (λ k. is_among c.loop-row.pairs.items n k) (λ k. is_among c.list.new.pairs.items n k) up
          (subst (λ (rs : List _). IsListBut key test rows rs (λ k. is_among c.loop-row.pairs.items n k)) next (was.moments n)) (c.in_ok-list.ensures.moments n);
      labels = λ a b. let test = λ (r : _). is_label a b (g.R.Listed.label_in r) in
          listed_next key test rows row rest (λ k. is_labelled c.loop-row.labels a b k) (λ k. is_labelled c.list.new.labels a b k) up
          (subst (λ (rs : List _). IsListBut key test rows rs (λ k. is_labelled c.loop-row.labels a b k)) next (was.labels a b)) (c.in_ok-list.ensures.labels a b);
    }

pub returns : goal.returns
returns g c =
    let key = g.R.Row.key_in in
    let rows = c.args.rows.now in
    let was = c.loop-row.invariant in
    let none = c.in-None.ensures.steps.0 in
    record {
      in_time = λ n k. let test = λ (r : _). is_number n (g.R.Timed.moment_in r) in
          c.of.ensures (n, k) ∙ subst (λ (rs : List _). IsListBut key test rows rs (λ j. is_among c.loop-row.pairs.items n j)) none (was.moments n) k;
      labelled = λ a b k. let test = λ (r : _). is_label a b (g.R.Listed.label_in r) in
          subst (λ (rs : List _). IsListBut key test rows rs (λ j. is_labelled c.loop-row.labels a b j)) none (was.labels a b) k;
    }
