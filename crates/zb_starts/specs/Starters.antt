-- The processes that start by messages of a name, as they are kept.
use Rattle.std.specs.Prelude.{ℕ, List, []}
use Rattle.std.specs.Option.{option_map_or}
use Rattle.indexmap.specs.IndexMap.{get_by_text}
use Rattle.zb_starts.specs.declared.starters.Starters.{Starters}

-- the ids that are kept under a name, in byte order (own)
abbrev pub ids_under : Starters → List ℕ → List (List ℕ)
ids_under starters name = option_map_or (λ ids. ids) (get_by_text starters.names name) []
