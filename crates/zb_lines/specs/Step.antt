-- The steps in which a reader goes through a line.
use Rattle.std.specs.Prelude.{◌≡◌, ◌↔◌, ◌<◌, ◌≤◌, ◌+◌, ◌-◌, ℕ, Bool, true, false, List, [], ◌∷◌, ◌++◌, length, take, drop, IsTrue, IsOk, Result, Ok, Err}
use Rattle.zb_outside.specs.Stream.{SourceView}
use Rattle.zb_lines.specs.declared.reader.Supply.{Supply}
use Rattle.zb_lines.specs.declared.reader.Supply.TheVariants as supplies
use Rattle.zb_lines.specs.Taken.{TakesBytes}
use Rattle.zb_lines.specs.Line.{IsOneLine, ended, newline}

-- what is kept of a line of which at most `most` bytes are kept, once more of it has come
abbrev pub kept : ℕ → List ℕ → List ℕ → List ℕ
kept most line part = line ++ take (most - length line) part

-- the first newline of the bytes stands at this place
pub record BreaksAt (bytes : List ℕ) (place : ℕ) : Type 0 where
  pub within : place < length bytes
  pub line : IsOneLine (take place bytes)
  pub split : bytes ≡ take place bytes ++ newline ∷ drop (place + 1) bytes

-- what was held went into the line: up to the first newline and without it (true), or all of it (false)
abbrev pub HandsOut : {E : Type 0} → ℕ → Result Bool E → List ℕ → List ℕ → List ℕ → List ℕ → Type 0
HandsOut most (Ok true) held left line shown = (part : List ℕ) × IsOneLine part × (held ≡ ended part ++ left) × (shown ≡ kept most line part)
HandsOut most (Ok false) held left line shown = IsOneLine held × (left ≡ []) × (shown ≡ kept most line held)
HandsOut most (Err e) held left line shown = Unit {0}

-- a line grows to at most `most` bytes, and memory is wanted only where it has room for fewer
pub record KeepsRoom {T E : Type 0} (most len capacity len' capacity' : ℕ) (result : Result T E) : Type 0 where
  pub grows : capacity ≤ capacity'
  pub within : len ≤ most → len' ≤ most
  pub holds : len ≤ most → most ≤ capacity → IsOk result

-- the source gave the next piece, had ended, wasn't asked or was refused, and what it gave is off the budget
abbrev pub Refills : {E : Type 0} → Bool → Result Supply E → SourceView → SourceView → ℕ → ℕ → List ℕ → Type 0
Refills tells (Ok supplies.Piece) old new budget budget' held = TakesBytes tells old new held × (budget ≡ budget' + length held) × (0 < length held) × (new.ended ≡ old.ended)
Refills tells (Ok supplies.End) old new budget budget' held = TakesBytes tells old new [] × (budget ≡ budget') × (held ≡ []) × IsTrue new.ended
Refills tells (Ok supplies.Spent) old new budget budget' held = TakesBytes tells old new [] × (budget ≡ budget') × (budget' ≡ 0) × (new.ended ≡ old.ended)
Refills tells (Err e) old new budget budget' held = TakesBytes tells old new [] × (budget ≡ budget') × (new.ended ≡ old.ended)

-- within a line: what the source gave since the call, and what of the line has been gone through
pub record ReadsLine (tells : Bool) (old new : SourceView) (budget budget' most : ℕ) (first held shown : List ℕ) (is_begun : Bool) : Type 0 where
  pub more : List ℕ
  pub seen : List ℕ
  pub takes : TakesBytes tells old new more
  pub spent : budget ≡ budget' + length more
  pub bytes : first ++ more ≡ seen ++ held
  pub one : IsOneLine seen
  pub shows : shown ≡ take most seen
  pub begun : IsTrue is_begun ↔ (0 < length (first ++ more))
