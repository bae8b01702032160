-- Each outcome is spelled and read back as it is told. The layout of outcomes holds this, so it stands beside the definitions.
use Rattle.std.proofs.Common.{refl}
use Rattle.zb_format.specs.Kinds.{AreReadBack}
use Rattle.zb_format.specs.KindsLaws.{again}
use Rattle.zb_format.specs.Layout.{counted}
use Rattle.zb_model.specs.Layouts.{rejection, event}
use Rattle.zb_model.specs.Outcomes.{outcome_kinds, outcome_told}
use Rattle.zb_model.specs.declared.record.Outcome.TheVariants as outcomes

-- each is read back
pub outcome_back : AreReadBack outcome_kinds outcome_told
outcome_back (outcomes.Rejected r) rest h = again outcome_kinds 0 outcomes.Rejected rejection r rest (λ bytes. refl) h
outcome_back (outcomes.Accepted es) rest h = again outcome_kinds 1 outcomes.Accepted (counted event) es rest (λ bytes. refl) h
