-- What is kept of the models that stand on a board.
use Rattle.std.specs.Prelude.{◌≡◌, List, [], ◌++◌, map, filter, ℕ}
use Rattle.zb_definitions.specs.Kept.{KeepsDefinitions}
use Rattle.zb_rules.specs.Shown.{definition_of_model}
use Rattle.zb_rules.specs.Starts.{starts_by, in_byte_order}
use Rattle.zb_starts.specs.Starters.{ids_under}
use Rattle.zb_tokens.specs.declared.board.Deployed.{Deployed}
use Rattle.zb_course.specs.declared.versions.Versions.{Versions}

-- the ids of the processes of some models that start by messages of a name, in byte order (own)
abbrev pub starting : List ℕ → List Deployed → List (List ℕ)
starting name models = in_byte_order [] (map (λ d. d.model.process) (filter (λ d. starts_by name d.model) models))

-- what is kept is that of these models: the versions of their processes, and the processes that start by messages (own)
pub record KeepsVersions (models : List Deployed) (kept : Versions) : Type 0 where
  pub definitions : KeepsDefinitions (map definition_of_model models) kept.definitions
  pub starters : (name : List ℕ) → ids_under kept.starters name ≡ starting name models

-- whatever models there were, what is kept is that of these behind them (own)
abbrev pub KeepsMoreVersions : List Deployed → Versions → Versions → Type 0
KeepsMoreVersions more old new = (models : List Deployed) → KeepsVersions models old → KeepsVersions (models ++ more) new
