use Rattle.std.proofs.Common.{◌==◌, List, Some, None, not, sym, ap, subst, ◌∙◌}
use Rattle.zb_table.specs.Rows.{Ascend}
use Rattle.zb_pairs.proofs.FoundLemmas.{ascend_kept, found_without}
use Rattle.zb_lists.specs.Listed.{row_found, without_named}
use Rattle.zb_views.specs.declared.started.Started.{Started}
use Rattle.zb_starts.specs.Listing.{label_of_start}
use Rattle.zb_starts.proofs.ListingLemmas.{found_same}
use Rattle.zb_starts.proofs.starts.Starts.end.Goals as goal

pub invariant_of-self : goal.invariant_of-self
invariant_of-self c =
    let found = row_found (λ (s : Started). s.instance) c.self.inside.rows in
    record {
      ascend = subst (λ (ss : List Started). Ascend (λ s. s.instance) 0 ss) (sym c.take.ensures.left)
          (ascend_kept (λ (s : Started). s.instance) (λ s. not (s.instance == c.args.instance)) 0 c.self.inside.rows c.self.invariant.ascend);
      listed = found_same (λ (s : Started). None) label_of_start (without_named (Some c.args.instance) found) (row_found (λ s. s.instance) c.take.new.self) c.leave.new.self
          (λ k. ap (λ (ss : List Started). row_found (λ s. s.instance) ss k) c.take.ensures.left ∙ found_without (λ (s : Started). s.instance) c.args.instance k c.self.inside.rows)
          (c.leave.ensures c.self.invariant.listed);
    }
