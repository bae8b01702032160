use Rattle.std.proofs.Common.{◌==◌, ◌&&◌, Some, option_map, ap, ◌∙◌}
use Rattle.std.specs.List.{find}
use Rattle.zb_pairs.proofs.UnderLemmas.{kept_under}
use Rattle.zb_groups.specs.declared.held.Held.{Held}
use Rattle.zb_groups.specs.Groups.{passes_at}
use Rattle.zb_groups.proofs.RowLemmas.{each_found, row_found}
use Rattle.zb_groups.proofs.groups.Groups.first_at.Goals as goal

pub returns-clause-first : goal.returns-clause-first
returns-clause-first g c =
    let place_in = g.R.Grouped.place_in in
    let passes = g.Q.Query.passes c.args.query.now in
    let rows = c.self.inside.rows in
    let each = each_found (λ (h : Held _). h.number) 0 rows c.self.invariant.ascend in
    let keys = kept_under (λ (h : Held _). h.number) (λ (h : Held _). Some (place_in h.row)) c.args.place rows c.self.inside.places c.self.invariant.ascend c.self.invariant.at_places c.first_under_that.ensures.order in
    c.first_under_that.ensures.key ∙ (ap (find (passes_at passes rows)) keys
    ∙ (row_found place_in c.args.place passes rows rows each ∙ ap (λ l. option_map (λ h. h.number) (find (λ h. (place_in h.row == c.args.place) && passes h.row) l)) c.self.view_is))
