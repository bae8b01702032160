use Rattle.std.proofs.Common.{◌==◌, map, if◌then◌else◌, ap, ◌∙◌}
use Rattle.zb_views.specs.declared.subscription.Subscription.{Subscription}
use Rattle.zb_views.specs.Subscriptions.{with_task}
use Rattle.zb_subscriptions.proofs.subscriptions.Subscriptions.correlate.Goals as goal

pub returns : goal.returns
returns c = c.in_ok-self.ensures ∙ ap (map (λ (s : Subscription). if s.key == c.args.key then with_task c.args.message s else s)) c.replace-whole.ensures.value
