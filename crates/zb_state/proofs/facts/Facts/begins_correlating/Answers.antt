use Rattle.std.proofs.Common.{sym, ◌∙◌}
use Rattle.zb_state.proofs.SubscriptionLemmas.{begun_known, begun_lost}
use Rattle.zb_state.proofs.facts.Facts.begins_correlating.Goals as goal

pub returns-in-Some-get : goal.returns-in-Some-get
returns-in-Some-get c = λ es is.
    c.fits.ensures es is ∙ sym (begun_known es c.args.self.now is c.args.begun.now c.in-Some.subscription.now c.in-Some-get.message.now (c.in-Some.ensures.told es is) c.in-Some-get.ensures.message)

pub returns-in-None : goal.returns-in-None
returns-in-None c = λ es is.
    sym (begun_lost es c.args.self.now is c.args.begun.now c.in-Some.subscription.now (c.in-Some.ensures.told es is) c.in-None.ensures.message)
