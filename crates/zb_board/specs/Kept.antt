-- Numbers that are kept under keys.
use Rattle.std.specs.Prelude.{◌≡◌, ℕ, ◌==◌, List, position, Option}
use Rattle.std.specs.BTreeMap.{is_at}
use Rattle.std.specs.Map.{lookup}
use Rattle.std.specs.Ordering.{nat_cmp}
use Rattle.zb_tokens.specs.declared.board.Deployed.{Deployed}

-- the number that is kept under a key, if one is (own)
abbrev pub number_under : List (ℕ × ℕ) → ℕ → Option ℕ
number_under kept key = lookup (is_at (nat_cmp key)) kept

-- under each key the place of the first model with it is kept, and under no other one is any (own)
abbrev pub ArePlaced : List Deployed → List (ℕ × ℕ) → Type 0
ArePlaced models kept = (key : ℕ) → number_under kept key ≡ position (λ d. d.key == key) models
