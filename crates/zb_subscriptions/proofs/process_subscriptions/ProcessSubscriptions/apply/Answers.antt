use Rattle.std.proofs.Common.{◌==◌, refl, sym, ap, ◌∙◌}
use Rattle.std.proofs.lemmas.Result.{on_ok_weaker}
use Rattle.zb_model.specs.declared.record.Event.TheVariants as events
use Rattle.zb_table.specs.Rows.{without}
use Rattle.zb_views.specs.Standing.{standing_by}
use Rattle.zb_views.specs.declared.process_subscription.ProcessSubscription.{ProcessSubscription}
use Rattle.zb_views.specs.ProcessSubscriptions.{process_subscription_of, process_subscription_sort}
use Rattle.zb_views.proofs.StandingLaws.{all_left, one_more, some_gone, each_changed}
use Rattle.zb_views.proofs.ProcessSubscriptionLaws.{silent_of_process_subscriptions}
use Rattle.zb_subscriptions.proofs.process_subscriptions.ProcessSubscriptions.apply.Goals as goal

pub returns-then-says_nothing : goal.returns-then-says_nothing
returns-then-says_nothing c = λ before. sym (all_left process_subscription_sort before c.args.event.now c.args.self.now (silent_of_process_subscriptions before c.args.event.now (sym c.if-says_nothing.ensures)))

pub returns-in-ProcessMessageSubscriptionCreating : goal.returns-in-ProcessMessageSubscriptionCreating
returns-in-ProcessMessageSubscriptionCreating c = λ before.
    let ss = c.args.self.now in
    let e = c.in-ProcessMessageSubscriptionCreating.e in
    on_ok_weaker c.open.result (λ is. is ∙ sym (ap (λ x. standing_by process_subscription_sort before x ss) c.in-ProcessMessageSubscriptionCreating.is ∙ one_more process_subscription_sort before (events.ProcessMessageSubscriptionCreating e) ss (process_subscription_of e) refl (λ s. refl) (λ s. refl))) c.open.ensures

pub returns-in-ProcessMessageSubscriptionDeleted : goal.returns-in-ProcessMessageSubscriptionDeleted
returns-in-ProcessMessageSubscriptionDeleted c = λ before.
    let ss = c.args.self.now in
    let key = c.in-ProcessMessageSubscriptionDeleted.key in
    c.take.ensures.left ∙ (ap (without (λ (s : ProcessSubscription). s.key) key) c.self.view_is
    ∙ sym (ap (λ x. standing_by process_subscription_sort before x ss) c.in-ProcessMessageSubscriptionDeleted.is ∙ some_gone process_subscription_sort before (events.ProcessMessageSubscriptionDeleted key) ss (λ s. s.key == key) refl (λ s. refl) (λ s. refl)))

pub returns-in-ProcessMessageSubscriptionCreated : goal.returns-in-ProcessMessageSubscriptionCreated
returns-in-ProcessMessageSubscriptionCreated c = λ before.
    on_ok_weaker c.change.result (λ is. is ∙ sym (each_changed process_subscription_sort before c.args.event.now c.args.self.now (rw c.in-ProcessMessageSubscriptionCreated.is refl) (λ s. rw c.in-ProcessMessageSubscriptionCreated.is refl))) c.change.ensures

pub returns-in-ProcessMessageSubscriptionCorrelated : goal.returns-in-ProcessMessageSubscriptionCorrelated
returns-in-ProcessMessageSubscriptionCorrelated c = λ before.
    on_ok_weaker c.change-in-ProcessMessageSubscriptionCorrelated.result (λ is. is ∙ sym (each_changed process_subscription_sort before c.args.event.now c.args.self.now (rw c.in-ProcessMessageSubscriptionCorrelated.is refl) (λ s. rw c.in-ProcessMessageSubscriptionCorrelated.is refl))) c.change-in-ProcessMessageSubscriptionCorrelated.ensures

pub returns-in-ProcessMessageSubscriptionDeleting : goal.returns-in-ProcessMessageSubscriptionDeleting
returns-in-ProcessMessageSubscriptionDeleting c = λ before.
    on_ok_weaker c.change-in-ProcessMessageSubscriptionDeleting.result (λ is. is ∙ sym (each_changed process_subscription_sort before c.args.event.now c.args.self.now (rw c.in-ProcessMessageSubscriptionDeleting.is refl) (λ s. rw c.in-ProcessMessageSubscriptionDeleting.is refl))) c.change-in-ProcessMessageSubscriptionDeleting.ensures
