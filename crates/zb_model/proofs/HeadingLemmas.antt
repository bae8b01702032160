-- What stands in front of a batch's events.
use Rattle.std.proofs.Common.{◌≡◌, ℕ, Option, None, Some, List, [], refl}
use Rattle.zb_format.specs.Reading.{made_at}
use Rattle.zb_model.specs.Upshots.{events_in}
use Rattle.zb_model.specs.declared.record.Event.{Event}
use Rattle.zb_model.specs.declared.record.Outcome.TheVariants as outcomes

-- the events of what was accepted are those that were read
pub accepted : (read : Option (List Event × List ℕ)) → made_at events_in (λ bytes. made_at outcomes.Accepted (λ bytes. read) bytes) [] ≡ read
accepted (Some x) = refl
accepted None = refl

pub ruleset counts = (accepted)
