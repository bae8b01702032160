-- Places in a JSON value, as JSON pointers (RFC 6901).
use Rattle.std.specs.Prelude.{ℕ, ◌+◌, ◌==◌, List, [], ◌∷◌, ◌++◌, codes, Bool, if◌then◌else◌, Option, Some, None, option_map}
use Rattle.std.specs.Option.{option_map_or, option_or}
use Rattle.std.specs.List.{flat_map}
use Rattle.std.specs.Fmt.{decimal}
use Rattle.serde_json.specs.Data.{Data, Items, no_items, item}
use Rattle.serde_json.specs.Find.{as_array}

-- a name in a pointer: `~` is written `~0`, and `/` is written `~1` (RFC 6901, section 3)
abbrev pub escaped : List ℕ → List ℕ
escaped name = flat_map (λ c. if c == 126 then codes "~0" else (if c == 47 then codes "~1" else c ∷ [])) name

-- a place that is reached by a name first (RFC 6901, section 4)
abbrev pub behind : List ℕ → Option (List ℕ) → Option (List ℕ)
behind name place = option_map (λ path. 47 ∷ (escaped name ++ path)) place

-- the value itself fails where it isn't good
abbrev pub here_unless : Bool → Option (List ℕ)
here_unless good = if good then None else Some []

-- where the items fail first, the first of which has this number
abbrev pub place_from : (Data → Option (List ℕ)) → ℕ → Items → Option (List ℕ)
place_from place n no_items = None
place_from place n (item d ds) = option_or (behind (decimal n) (place d)) (place_from place (n + 1) ds)

-- a list fails at its first item that does
abbrev pub place_in_list : (Data → Option (List ℕ)) → Data → Option (List ℕ)
place_in_list place d = option_map_or (place_from place 0) (as_array d) (Some [])
