use Rattle.zb_step.proofs.subscribe.is_kept.Goals as goal

pub returns : goal.returns
returns c = c.contains.ensures.value
