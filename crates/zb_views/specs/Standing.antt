-- What stands in a log of the things of a sort: what an event began, and none after has ended.
use Rattle.std.specs.Prelude.{List, [], ◌∷◌, ◌++◌, map, filter, not, Bool, if◌then◌else◌, Option, Some, None}
use Rattle.std.specs.Option.{option_map_or}
use Rattle.zb_model.specs.declared.record.Event.{Event}

-- a sort of things: which one an event begins, told the events before it, whether it ends one that is there, and what it makes of one that it doesn't end (own)
pub record Sort (A : Type 0) : Type 0 where
  pub told : List Event → Event → Option A
  pub ends : List Event → Event → A → Bool
  pub says : List Event → Event → A → A

-- a thing that is there behind some events, as the events after say, unless one of them ends it (own)
abbrev pub lasting : {A : Type 0} → Sort A → (before after : List Event) → A → List A
lasting s before [] x = x ∷ []
lasting s before (e ∷ after) x = if s.ends before e x then [] else lasting s (before ++ e ∷ []) after (s.says before e x)

-- what stands of that which some events begin behind others (own)
abbrev pub standing_behind : {A : Type 0} → Sort A → (before es : List Event) → List A
standing_behind s before [] = []
standing_behind s before (e ∷ after) = option_map_or (lasting s (before ++ e ∷ []) after) (s.told before e) [] ++ standing_behind s (before ++ e ∷ []) after

-- what stands of a sort: each thing that an event begins and none after ends, as those say, in the order in which they began (own)
abbrev pub standing : {A : Type 0} → Sort A → List Event → List A
standing s es = standing_behind s [] es

-- what an event leaves of the things that are there: those that it doesn't end, as it says (own)
abbrev pub left_by : {A : Type 0} → Sort A → List Event → Event → List A → List A
left_by s before e xs = map (s.says before e) (filter (λ x. not (s.ends before e x)) xs)

-- what is begun, if something is (own)
abbrev pub begun_by : {A : Type 0} → Option A → List A
begun_by None = []
begun_by (Some x) = x ∷ []

-- what an event makes of the things that are there: those that it leaves, and behind them the one that it begins (own)
abbrev pub standing_by : {A : Type 0} → Sort A → List Event → Event → List A → List A
standing_by s before e xs = left_by s before e xs ++ begun_by (s.told before e)
