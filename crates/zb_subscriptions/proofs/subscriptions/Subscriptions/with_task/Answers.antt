use Rattle.std.proofs.Common.{◌≡◌, ◌==◌, List, map, if◌then◌else◌, ap, subst, ◌∙◌}
use Rattle.zb_views.specs.declared.subscription.Subscription.{Subscription}
use Rattle.zb_views.specs.Subscriptions.{with_task}
use Rattle.zb_subscriptions.proofs.OpenedLemmas.{its, absent, its_told, none_told, opened_told}
use Rattle.zb_subscriptions.proofs.subscriptions.Subscriptions.with_task.Goals as goal

pub returns-in_default : goal.returns-in_default
returns-in_default c =
    let os = c.self.inside.rows in
    subst (λ (ss : List Subscription). ss ≡ map (λ s. if s.key == c.args.key then with_task c.args.message s else s) ss) c.self.view_is
    (none_told c.args.key c.args.message os (absent c.args.key os c.in_default.ensures))

pub invariant_of-self : goal.invariant_of-self
invariant_of-self c =
    opened_told c.args.key c.args.message c.in-Some.place c.self.inside.next c.self.inside.rows c.edit.new.self c.self.inside.lists c.in_ok-edit.ensures c.self.invariant

pub returns : goal.returns
returns c =
    ap (map its) c.in_ok-edit.ensures
    ∙ (its_told c.args.key c.args.message c.in-Some.place c.self.inside.rows c.self.invariant.ascend c.self.invariant.own c.in-Some.ensures
    ∙ ap (map (λ (s : Subscription). if s.key == c.args.key then with_task c.args.message s else s)) c.self.view_is)
