-- What is made of an event that may be there.
use Rattle.std.specs.Prelude.{List, [], ◌∷◌, Option}
use Rattle.std.specs.Option.{option_map_or}
use Rattle.zb_model.specs.declared.record.Event.{Event}

-- an event, if there is one (own)
abbrev pub any_event : Option Event → List Event
any_event found = option_map_or (λ e. e ∷ []) found []
