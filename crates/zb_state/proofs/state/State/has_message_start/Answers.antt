use Rattle.std.proofs.Common.{is_some, ap, ◌∙◌}
use Rattle.zb_state.proofs.StarterLemmas.{some_copied, start_there}
use Rattle.zb_state.proofs.state.State.has_message_start.Goals as goal

pub returns : goal.returns
returns c = λ es is. c.is_some.ensures ∙ (some_copied c.message_start.result ∙ ap is_some c.message_start.ensures ∙ start_there es c.args.self.now is c.args.definition)
