-- What is kept of a list of definitions.
use Rattle.std.specs.Prelude.{◌≡◌, ℕ, ◌==◌, List, ◌++◌, Option, option_map, option_and_then}
use Rattle.std.specs.List.{find}
use Rattle.std.specs.Option.{option_map_or}
use Rattle.indexmap.specs.IndexMap.{get_by_text}
use Rattle.zb_table.specs.Rows.{row_at}
use Rattle.zb_views.specs.Definitions.{greatest_version, version_of}
use Rattle.zb_views.specs.declared.definition.Definition.{Definition}
use Rattle.zb_definitions.specs.Versions.{counting_key}
use Rattle.zb_definitions.specs.declared.definitions.Definitions.{Definitions}

-- the version that is kept under a key (own)
abbrev pub version_at : Definitions → ℕ → Option ℕ
version_at kept key = option_map (λ d. d.version) (row_at (λ d. d.key) key kept.defined)

-- the greatest version that is kept of a process, or 0 (own)
abbrev pub latest_in : Definitions → List ℕ → ℕ
latest_in kept process = option_map_or (λ p. p.latest) (get_by_text kept.processes process) 0

-- the key that is kept for a version of a process (own)
abbrev pub key_in : Definitions → List ℕ → ℕ → Option ℕ
key_in kept process version = option_and_then (λ p. counting_key version p.versions) (get_by_text kept.processes process)

-- what is kept is that of these definitions: under each key the version of the first with it, of each process the greatest version, and for each version the key that counts (own)
pub record KeepsDefinitions (ds : List Definition) (kept : Definitions) : Type 0 where
  pub versions : (key : ℕ) → version_at kept key ≡ option_map (λ d. d.version) (find (λ d. d.key == key) ds)
  pub latest : (process : List ℕ) → latest_in kept process ≡ greatest_version process ds
  pub keys : (process : List ℕ) (version : ℕ) → key_in kept process version ≡ option_map (λ d. d.key) (version_of process version ds)

-- whatever definitions were kept, these are kept behind them (own)
abbrev pub KeepsMoreDefinitions : List Definition → Definitions → Definitions → Type 0
KeepsMoreDefinitions more old new = (ds : List Definition) → KeepsDefinitions ds old → KeepsDefinitions (ds ++ more) new
