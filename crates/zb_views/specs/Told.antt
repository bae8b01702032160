-- What the last event says that says anything.
use Rattle.std.specs.Prelude.{List, [], ◌∷◌, Option, None}
use Rattle.std.specs.Option.{option_or}
use Rattle.zb_model.specs.declared.record.Event.{Event}

-- what the last of some events tells that tells something (own)
abbrev pub last_told : {A : Type 0} → (Event → Option A) → List Event → Option A
last_told tell [] = None
last_told tell (e ∷ es) = option_or (last_told tell es) (tell e)
