-- The places that are kept for a name.
use Rattle.std.specs.Prelude.{ℕ, List, []}
use Rattle.std.specs.Option.{option_map_or}
use Rattle.indexmap.specs.IndexMap.{get_by_text}
use Rattle.zb_graph.specs.declared.places.Places.{Places}

-- the places that are kept for a name (own)
abbrev pub places_at : Places → List ℕ → List ℕ
places_at p name = option_map_or (λ list. list.items) (get_by_text p.lists name) []
