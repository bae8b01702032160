use Rattle.std.proofs.Common.{◌≡◌, ◌==◌, List, map, filter, not, option_map, IsTrue, Some, sym, ap, subst, ◌∙◌}
use Rattle.zb_table.specs.Rows.{Ascend, are_below}
use Rattle.zb_table.proofs.Growing.{below_without}
use Rattle.zb_pairs.proofs.FoundLemmas.{ascend_kept, found_without}
use Rattle.zb_lists.specs.Listed.{row_found, without_named}
use Rattle.zb_views.specs.declared.subscription.Subscription.{Subscription}
use Rattle.zb_subscriptions.specs.declared.opened.Opened.{Opened}
use Rattle.zb_subscriptions.specs.Opened.{label_of_opened}
use Rattle.zb_views.specs.OwnKeys.{HaveOwnKeys}
use Rattle.zb_views.proofs.OwnKeyLaws.{own_kept}
use Rattle.zb_subscriptions.proofs.OpenedLemmas.{place_in, its, absent, its_gone, none_gone, own_key}
use Rattle.zb_subscriptions.proofs.ListedLemmas.{listed_as}
use Rattle.zb_subscriptions.proofs.subscriptions.Subscriptions.end.Goals as goal

pub returns-in_default : goal.returns-in_default
returns-in_default c =
    let os = c.self.inside.rows in
    subst (λ (ss : List Subscription). ss ≡ filter (λ s. not (s.key == c.args.key)) ss) c.self.view_is (none_gone c.args.key os (absent c.args.key os c.in_default.ensures))

pub invariant_of-self : goal.invariant_of-self
invariant_of-self c =
    let os = c.self.inside.rows in
    let place = c.in-Some.place in
    let found = row_found place_in os in
    record {
      ascend = subst (λ (l : List Opened). Ascend place_in 0 l) (sym c.take.ensures.left) (ascend_kept place_in (λ o. not (o.place == place)) 0 os c.self.invariant.ascend);
      below = subst (λ (l : List Opened). IsTrue (are_below place_in c.self.inside.next l)) (sym c.take.ensures.left) (below_without place_in place c.self.inside.next os c.self.invariant.below);
      own = subst (HaveOwnKeys own_key) (sym c.take.ensures.left) (own_kept own_key (λ o. not (o.place == place)) os c.self.invariant.own);
      listed = listed_as (without_named (Some place) found) (row_found place_in c.take.new.self) c.leave.new.self
          (λ k. ap (λ (l : List Opened). option_map label_of_opened (row_found place_in l k)) c.take.ensures.left ∙ ap (option_map label_of_opened) (found_without place_in place k os))
          (c.leave.ensures c.self.invariant.listed);
    }

pub returns : goal.returns
returns c =
    ap (map its) c.take.ensures.left
    ∙ (its_gone c.args.key c.in-Some.place c.self.inside.rows c.self.invariant.ascend c.self.invariant.own c.in-Some.ensures
    ∙ ap (filter (λ (s : Subscription). not (s.key == c.args.key))) c.self.view_is)
