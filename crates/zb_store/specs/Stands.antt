-- What the file of a log stands for, by its bytes. A gate stands at offset 0. Behind an open gate come eight
-- bytes that tell how long the body is, highest first, then the body, and then the next gate. A gate of 0 is
-- closed, any other byte is an open one. A file of at most one byte is a log without frames.
use Rattle.std.specs.Prelude.{◌≡◌, ◌≢◌, ◌⊎◌, ◌<◌, ◌≤◌, ◌+◌, ℕ, List, [], ◌∷◌, ◌++◌, length, slice_index, slice_range}
use Rattle.std.specs.Int.{w64, from_be_bytes}

-- where the gate behind the frame of the gate at `at` has its place, by the length that is told there
unfoldable pub next_gate : List ℕ → ℕ → ℕ
next_gate file at = at + 9 + from_be_bytes w64 (slice_range file (at + 1) (at + 9))

-- the gate at `at` is open, and this body and the next gate lie whole behind it
pub record IsFrame (file : List ℕ) (at : ℕ) (body : List ℕ) : Type 0 where
  pub is_open : slice_index file at ≢ 0
  pub fits : next_gate file at < length file
  pub body_is : body ≡ slice_range file (at + 9) (next_gate file at)

-- from the gate at `at` on, the frames of these bodies lead to the gate at `end`
abbrev pub Leads : List ℕ → ℕ → List (List ℕ) → ℕ → Type 0
Leads file at [] end = at ≡ end
Leads file at (body ∷ bodies) end = IsFrame file at body × Leads file (next_gate file at) bodies end

-- the gate at `at` is open, and its frame runs past the end of the file
pub record RunsPast (file : List ℕ) (at : ℕ) : Type 0 where
  pub is_open : slice_index file at ≢ 0
  pub past : length file ≤ next_gate file at

-- the file stands for these bodies: those of the frames up to the first closed gate, whatever is behind it
pub record Stands (file : List ℕ) (bodies : List (List ℕ)) : Type 0 where
  pub short : length file ≤ 1 → bodies ≡ []
  pub long : 1 < length file → (end : ℕ) × Leads file 0 bodies end × (slice_index file end ≡ 0)

-- the file is not whole: these bodies lead to an open gate with a frame that runs past the end of the file
pub record IsCutAfter (file : List ℕ) (bodies : List (List ℕ)) : Type 0 where
  pub long : 1 < length file
  pub cut : (end : ℕ) × Leads file 0 bodies end × RunsPast file end

-- the frames of these bodies lead to the gate at `gate`, which is closed
pub record EndsAt (file : List ℕ) (bodies : List (List ℕ)) (gate : ℕ) : Type 0 where
  pub leads : Leads file 0 bodies gate
  pub inside : gate < length file
  pub closed : slice_index file gate ≡ 0

-- the file stands for these bodies, without this one behind them or with it
abbrev pub StandsWithOrWithout : List (List ℕ) → List ℕ → List ℕ → Type 0
StandsWithOrWithout bodies body file = Stands file bodies ⊎ Stands file (bodies ++ body ∷ [])
