-- The lines of a stream: bytes up to a newline (RFC 8259 texts, one a line).
use Rattle.std.specs.Prelude.{◌≡◌, ◌≢◌, ◌<◌, ℕ, List, [], ◌∷◌, ◌++◌, length, take, Bool, true, Result, Ok, Err}
use Rattle.std.specs.List.{flat_map, AllByRecursion}
use Rattle.zb_lines.specs.declared.reader.Next.{Next}
use Rattle.zb_lines.specs.declared.reader.Next.TheVariants as nexts
use Rattle.zb_outside.specs.declared.trouble.Trouble.{Trouble}
use Rattle.zb_outside.specs.declared.trouble.Trouble.TheVariants as troubles

-- the byte that ends a line
abbrev pub newline : ℕ
newline = 10

-- no newline is among the bytes
unfoldable pub IsOneLine : List ℕ → Type 0
IsOneLine bytes = AllByRecursion (λ byte. byte ≢ newline) bytes

-- a line with its newline
abbrev pub ended : List ℕ → List ℕ
ended line = line ++ newline ∷ []

-- the bytes are these lines, each with its newline, and a rest without one
pub record AreLines (bytes : List ℕ) (lines : List (List ℕ)) (rest : List ℕ) : Type 0 where
  pub whole : bytes ≡ flat_map ended lines ++ rest
  pub each : AllByRecursion IsOneLine lines
  pub partial : IsOneLine rest

-- how the stream of these bytes goes on, what is left of them then, and the first bytes of the line
abbrev pub Comes : ℕ → Result Next Trouble → List ℕ → List ℕ → List ℕ → Type 0
Comes most (Ok nexts.Line) bytes left shown = (line : List ℕ) × IsOneLine line × (bytes ≡ ended line ++ left) × (shown ≡ take most line)
Comes most (Ok nexts.Last) bytes left shown = IsOneLine bytes × (0 < length bytes) × (left ≡ []) × (shown ≡ take most bytes)
Comes most (Ok nexts.End) bytes left shown = (bytes ≡ []) × (left ≡ [])
Comes most (Ok nexts.Full) bytes left shown = IsOneLine bytes
Comes most (Err troubles.Failed) bytes left shown = IsOneLine bytes
Comes most (Err troubles.Memory) bytes left shown = Unit {0}

-- whether a source has told its end once its stream went on so: at the end of the stream it has, and else where it had before
abbrev pub has_ended : Result Next Trouble → (before : Bool) → Bool
has_ended (Ok nexts.Line) before = before
has_ended (Ok nexts.Last) before = true
has_ended (Ok nexts.End) before = true
has_ended (Ok nexts.Full) before = before
has_ended (Err e) before = before
