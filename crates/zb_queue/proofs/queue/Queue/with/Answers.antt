use Rattle.std.proofs.Common.{ℕ, ◌==◌, ◌&&◌, ◌∷◌, [], ◌++◌, Some, Bool, true, cond, sym, ap, subst, ◌∙◌}
use Rattle.std.specs.Map.{values_of}
use Rattle.std.proofs.lemmas.List.{map-append}
use Rattle.zb_table.proofs.Growing.{with_last}
use Rattle.zb_pairs.specs.Pairs.{has_pair, IsIndex}
use Rattle.zb_pairs.proofs.FoundLemmas.{none_below}
use Rattle.zb_pairs.proofs.PairLemmas.{same_place, index_with}
use Rattle.zb_queue.proofs.RowLemmas.{number, all_below, put_last}
use Rattle.zb_queue.proofs.queue.Queue.with.Goals as goal

pub invariant_of-self : goal.invariant_of-self
invariant_of-self g c =
    let name_in = g.R.Queued.name_in in
    let es = c.self.inside.rows.entries in
    let n = c.in_ok-number.number in
    let below = all_below n es c.in_ok-number.ensures in
    let added = c.in_ok-insert-2.ensures.entries ∙ (put_last n c.args.row es below ∙ sym (with_last number (n, c.args.row) es below)) in
    record {
      order = c.in_ok-insert-2.ensures.ordered;
      under = subst (λ now. IsIndex number (λ e. Some (name_in e.1)) now c.insert.new.self) (sym added)
          (index_with number (λ e. Some (name_in e.1)) es c.self.inside.numbers c.self.invariant.under (n, c.args.row) c.insert.new.self (none_below number n es below)
          (λ m k. c.in_ok-insert.ensures.updates.0 (m, k) ∙ (ap (λ (t : Bool). cond t true (has_pair c.self.inside.numbers m k)) (same_place c.name.result c.new.result m k)
          ∙ ap (λ (p : ℕ × ℕ). cond ((p.0 == m) && (p.1 == k)) true (has_pair c.self.inside.numbers m k)) (ap (λ (a : ℕ). (a, c.new.result)) c.name.ensures ∙ ap (λ (b : ℕ). (name_in c.args.row, b)) c.new.ensures))));
    }

pub returns : goal.returns
returns g c =
    let es = c.self.inside.rows.entries in
    let n = c.in_ok-number.number in
    ap values_of (c.in_ok-insert-2.ensures.entries ∙ put_last n c.args.row es (all_below n es c.in_ok-number.ensures))
    ∙ (map-append (λ e. e.1) es ((n, c.args.row) ∷ []) ∙ ap (λ rows. rows ++ c.args.row ∷ []) c.self.view_is)
