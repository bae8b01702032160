use Rattle.std.proofs.Common.{Some, ap, ◌∙◌}
use Rattle.std.proofs.lemmas.Result.{IfOk-weaker}
use Rattle.zb_pairs.proofs.UnderLemmas.{kept_under}
use Rattle.zb_groups.specs.declared.held.Held.{Held}
use Rattle.zb_groups.specs.Groups.{numbers_in}
use Rattle.zb_groups.proofs.groups.Groups.numbers_in.Goals as goal

pub returns-clause-numbers : goal.returns-clause-numbers
returns-clause-numbers g c =
    let group_in = g.R.Grouped.group_in in
    let keys = kept_under (λ (h : Held _). h.number) (λ (h : Held _). Some (group_in h.row)) c.args.group c.self.inside.rows c.self.inside.groups c.self.invariant.ascend c.self.invariant.in_groups c.keys_under.ensures.order
    ∙ ap (λ rows. numbers_in group_in c.args.group rows) c.self.view_is in
    IfOk-weaker c.keys_under.result _ _ (λ numbers is. is ∙ keys) c.keys_under.ensures.keys
