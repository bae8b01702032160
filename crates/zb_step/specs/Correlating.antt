-- The subscriptions that wait for a message.
use Rattle.std.specs.Prelude.{◌≡◌, ℕ, List, [], Option, Some, None}
use Rattle.zb_exchange_records.specs.declared.message.MessagePublished.{MessagePublished}
use Rattle.zb_step.specs.declared.correlate.EachCorrelating.{EachCorrelating}

-- what there is to correlate is this message, at these subscriptions; there is nothing only where there are none (own)
abbrev pub correlating_as : Option EachCorrelating → MessagePublished → List ℕ → Type 0
correlating_as None m keys = keys ≡ []
correlating_as (Some correlating) m keys = (correlating.message ≡ m) × (correlating.keys.items ≡ keys)
