use Rattle.std.proofs.Common.{◌==◌, slice_get, is_some, Some, List, ℕ, ap, ◌∙◌}
use Rattle.std.specs.List.{list_any}
use Rattle.zb_pairs.proofs.UnderLemmas.{kept_under}
use Rattle.zb_groups.specs.declared.held.Held.{Held}
use Rattle.zb_groups.proofs.RowLemmas.{has_first}
use Rattle.zb_groups.proofs.groups.Groups.has.Goals as goal

pub returns : goal.returns
returns g c =
    let group_in = g.R.Grouped.group_in in
    let keys = kept_under (λ (h : Held _). h.number) (λ (h : Held _). Some (group_in h.row)) c.args.group c.self.inside.rows c.self.inside.groups c.self.invariant.ascend c.self.invariant.in_groups c.first_under.ensures.order in
    c.is_some.ensures ∙ (ap is_some (c.first_under.ensures.key ∙ ap (λ (l : List ℕ). slice_get l 0) keys)
    ∙ (has_first group_in c.args.group c.self.inside.rows ∙ ap (list_any (λ (h : Held _). group_in h.row == c.args.group)) c.self.view_is))
