use Rattle.std.proofs.Common.{List, subst}
use Rattle.zb_model.specs.declared.record.Event.{Event}
use Rattle.zb_definitions.specs.Kept.{KeepsDefinitions}
use Rattle.zb_views.specs.Definitions.{definitions}
use Rattle.zb_state.specs.declared.facts.Facts.{Facts}
use Rattle.zb_state.specs.State.{IsStateOf}
use Rattle.zb_state.proofs.StateLemmas.{keeps_told}
use Rattle.zb_state.proofs.state.State.definitions.Goals as goal

pub returns : goal.returns
returns c =
    subst (λ (f : Facts). (es : List Event) → IsStateOf es f → KeepsDefinitions (definitions es) c.definitions.result.now) c.self.view_is
    (λ es is. keeps_told es c.self.inside.facts c.definitions.result.now is c.definitions.ensures)
