-- The instances that a message starts.
use Rattle.std.specs.Prelude.{◌≡◌, ℕ, List, [], Option, Some, None}
use Rattle.zb_exchange_records.specs.declared.message.MessagePublished.{MessagePublished}
use Rattle.zb_follow.specs.declared.starting.EachStarting.{EachStarting}

-- what there is to start is of this message and these processes; there is nothing only where there are none (own)
abbrev pub starting_as : Option EachStarting → MessagePublished → List (List ℕ) → Type 0
starting_as None m ids = ids ≡ []
starting_as (Some starting) m ids = (starting.message ≡ m) × (starting.processes.items ≡ ids)
