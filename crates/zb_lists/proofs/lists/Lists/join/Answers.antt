use Rattle.std.proofs.Common.{◌≡◌, ℕ, ◌==◌, ◌&&◌, Option, Some, true, false, if◌then◌else◌, sym, ap, subst, ◌∙◌}
use Rattle.std.proofs.lemmas.Result.{on_ok_weaker}
use Rattle.zb_pairs.specs.Pairs.{is_number}
use Rattle.zb_lists.specs.Moments.{is_among}
use Rattle.zb_lists.specs.Listed.{row_found, is_label, is_labelled, without_named, AreListed}
use Rattle.zb_lists.proofs.ListedLemmas.{listed_joined}
use Rattle.zb_lists.proofs.lists.Lists.join.Goals as goal

pub returns : goal.returns
returns g c = λ found was others.
    let moment = g.R.Timed.moment_in in
    let label = g.R.Listed.label_in in
    let now = row_found g.R.Row.key_in c.args.rows.now in
    let old = c.args.self.now in
    let key = c.in-Some.key in
    let row = c.in-Some-get.row.now in
    let at = sym c.in-Some-get.ensures.row in
    let before = subst (λ (o : Option ℕ). AreListed moment label (without_named o found) old) c.in-Some.is was in
    let stay = subst (λ (o : Option ℕ). (k : ℕ) → is_number k o ≡ false → now k ≡ found k) c.in-Some.is others in
    on_ok_weaker c.label.result (λ is. record {
      in_time = λ n. listed_joined (λ r. is_number n (moment r)) found now (λ k. is_among old.moments n k) (λ k. is_among c.keep.new.moments n k) key (Some row) at stay (before.in_time n)
          (λ k. c.in_ok-keep.ensures n k ∙ ap (λ (m : Option ℕ). if is_number n m && (key == k) then true else is_among old.moments n k) c.moment.ensures);
      labelled = λ a b. listed_joined (λ r. is_label a b (label r)) found now (λ k. is_labelled old.labels a b k) (λ k. is_labelled c.label.new.labels a b k) key (Some row) at stay (before.labelled a b) (is a b);
    }) c.label.ensures
