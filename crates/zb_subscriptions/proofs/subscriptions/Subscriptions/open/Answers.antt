use Rattle.zb_subscriptions.proofs.subscriptions.Subscriptions.open.Goals as goal

pub with-requires : goal.with-requires
with-requires c = rw c.replace-whole.ensures.value c.requires
