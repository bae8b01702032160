-- What makes a spelling and a reading one format: each is the other's inverse.
use Rattle.std.specs.Prelude.{◌≡◌, ℕ, ◌<◌, Some, List, ◌++◌, get_or}
use Rattle.zb_format.specs.Reading.{Reader}

-- each number is a byte
abbrev pub IsBytes : List ℕ → Type 0
IsBytes bytes = (i : ℕ) → get_or bytes i 0 < 256

-- the bytes are a spelling, and then the rest
pub record Takes (bytes spelled rest : List ℕ) : Type 0 where
  pub parts : bytes ≡ spelled ++ rest
  pub rest_bytes : IsBytes rest

-- what is read is spelled so and fits; what fits and is spelled so is read, whatever follows
pub record IsFormat {A : Type 0} (spelling : A → List ℕ) (fits : A → Type 0) (reading : Reader A) : Type 0 where
  pub takes : (bytes : List ℕ) (x : A) (rest : List ℕ) → IsBytes bytes → reading bytes ≡ Some (x, rest) → Takes bytes (spelling x) rest × fits x
  pub again : (x : A) (rest : List ℕ) → fits x → reading (spelling x ++ rest) ≡ Some (x, rest)
