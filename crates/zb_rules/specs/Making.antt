-- Events that are made one after the other, each of all that are there by then.
use Rattle.std.specs.Prelude.{List, [], ◌∷◌, ◌++◌}
use Rattle.zb_model.specs.declared.record.Event.{Event}

-- what is made of all the events before
abbrev pub Making : Type 0
Making = List Event → List Event

-- one event, whatever was before
abbrev pub just : Event → Making
just e before = e ∷ []

-- what one making makes, and then what another makes of all that is there by then
abbrev pub and_then : Making → Making → Making
and_then first second before = let made = first before in made ++ second (before ++ made)

-- what is made of each of some things, one after the other
abbrev pub each_made : {A : Type 0} → (A → Making) → List A → Making
each_made make [] before = []
each_made make (x ∷ xs) before = and_then (make x) (each_made make xs) before
