use Rattle.std.proofs.Common.{◌==◌, ℕ, List, None, not, length, ap, ◌∙◌}
use Rattle.std.specs.List.{list_any}
use Rattle.zb_lists.proofs.ListedLemmas.{keys_listed}
use Rattle.zb_views.specs.declared.started.Started.{Started}
use Rattle.zb_views.specs.Starts.{is_started_with}
use Rattle.zb_starts.specs.Listing.{label_of_start}
use Rattle.zb_starts.proofs.ListingLemmas.{some_pass}
use Rattle.zb_starts.proofs.starts.Starts.has.Goals as goal

pub returns : goal.returns
returns c =
    let process = c.args.process.now in
    let correlation_key = c.args.correlation_key.now in
    let rows = c.self.inside.rows in
    let keys = keys_listed (λ (s : Started). s.instance) (λ s. None) label_of_start rows c.self.inside.lists process correlation_key c.labelled.result.now
    c.self.invariant.ascend c.self.invariant.listed c.labelled.ensures.keys c.labelled.ensures.order in
    ap not c.is_empty.ensures
    ∙ (ap (λ (ks : List ℕ). not (length ks == 0)) keys ∙ (some_pass (λ (s : Started). s.instance) (is_started_with process correlation_key) rows ∙ ap (list_any (is_started_with process correlation_key)) c.self.view_is))
