use Rattle.std.proofs.Common.{◌≡◌, ℕ, ◌<◌, ◌==◌, ◌&&◌, filter, not, length, Bool, false, cond, Option, Some, None, option_map, refl, sym, ap, subst, ◌∙◌, arith}
use Rattle.std.specs.Map.{values_of}
use Rattle.std.proofs.lemmas.Bool.Decides.{nat_tests}
use Rattle.zb_table.specs.Rows.{without}
use Rattle.zb_pairs.specs.Pairs.{has_pair, IsIndex}
use Rattle.zb_pairs.proofs.FoundLemmas.{all_stay}
use Rattle.zb_pairs.proofs.PairLemmas.{same_place, index_without}
use Rattle.zb_queue.proofs.RowLemmas.{is_under, number, numbers_ascend, values_kept, out, one_gone}
use Rattle.zb_queue.proofs.queue.Queue.end_under.Goals as goal

pub loop-number-preserved : goal.loop-number-preserved
loop-number-preserved g c =
    let name_in = g.R.Queued.name_in in
    let fits = is_under name_in c.args.key (g.Q.Query.passes c.args.query.now) in
    let rows = c.loop-number.self-inside.rows in
    let n = c.number.result in
    let numbers = c.loop-number.self-inside.numbers in
    let it = one_gone fits n 0 rows.entries (numbers_ascend rows c.loop-number.invariant.right.order) (ap Some c.number.ensures ∙ c.in-Some.ensures) in
    let left : c.remove.new.self.entries ≡ without number n rows.entries = c.remove.ensures.entries ∙ it.left in
    let passing = it.passes in
    let its : c.args.key ≡ name_in it.row = grind (arith, nat_tests, passing) in
    record {
      right = record {
        order = c.remove.ensures.ordered;
        under = subst (λ now. IsIndex number (λ e. Some (name_in e.1)) now c.remove-in-Some.new.self) (sym left)
            (index_without number (λ e. Some (name_in e.1)) rows.entries numbers c.loop-number.invariant.right.under n (n, it.row) c.remove-in-Some.new.self it.at
            (λ m k. c.remove-in-Some.ensures.updates.0 (m, k) ∙ (ap (λ (t : Bool). cond t false (has_pair numbers m k)) (same_place c.args.key c.in-Some.number m k)
            ∙ ap (λ (p : ℕ × ℕ). cond ((p.0 == m) && (p.1 == k)) false (has_pair numbers m k)) (ap (λ (a : ℕ). (a, c.in-Some.number)) its ∙ ap (λ (b : ℕ). (name_in it.row, b)) (sym c.number.ensures)))));
      };
      stay = ap (filter (out fits)) left ∙ (it.stay ∙ c.loop-number.invariant.stay);
    }

pub loop-number-smaller : goal.loop-number-smaller
loop-number-smaller g c =
    let fits = is_under g.R.Queued.name_in c.args.key (g.Q.Query.passes c.args.query.now) in
    let rows = c.loop-number.self-inside.rows in
    let it = one_gone fits c.number.result 0 rows.entries (numbers_ascend rows c.loop-number.invariant.right.order) (ap Some c.number.ensures ∙ c.in-Some.ensures) in
    subst (λ now. length now < length rows.entries) (sym (c.remove.ensures.entries ∙ it.left)) it.fewer

-- where there is no number of a row, there is no row
no_row : {A : Type 0} (found : Option (ℕ × A)) → None ≡ option_map number found → found ≡ None
no_row None none = refl
no_row (Some e) none = absurd (cc)

pub returns : goal.returns
returns g c =
    let fits = is_under g.R.Queued.name_in c.args.key (g.Q.Query.passes c.args.query.now) in
    let none = all_stay (λ e. fits e.1) c.loop-number.self-inside.rows.entries (no_row _ (sym c.in_default.is ∙ c.first_under.ensures)) in
    ap values_of (sym none ∙ c.loop-number.invariant.stay) ∙ (values_kept (λ r. not (fits r)) c.self.inside.rows.entries ∙ ap (filter (λ r. not (fits r))) c.self.view_is)
