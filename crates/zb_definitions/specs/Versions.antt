-- The versions of one process.
use Rattle.std.specs.Prelude.{ℕ, max, List, Option, option_map}
use Rattle.std.specs.Option.{option_map_or}
use Rattle.zb_table.specs.Rows.{row_at}
use Rattle.zb_definitions.specs.declared.version.Version.{Version}

-- the key of the definition that counts for a version (own)
abbrev pub counting_key : ℕ → List Version → Option ℕ
counting_key version versions = option_map (λ v. v.definition) (row_at (λ v. v.number) version versions)

-- the greater one of a key and another, if there is another (own)
abbrev pub greater_key : ℕ → Option ℕ → ℕ
greater_key key found = option_map_or (λ other. max key other) found key
