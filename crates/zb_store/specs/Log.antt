-- What is written for a frame, and how long a log is.
use Rattle.std.specs.Prelude.{ℕ, ◌+◌, List, [], ◌∷◌, ◌++◌, length}
use Rattle.std.specs.Int.{w64, to_be_bytes}

-- what is written behind the closed gate at the end: the length of a body in eight bytes, highest first, the body
-- and a closed gate
unfoldable pub framed : List ℕ → List ℕ
framed body = to_be_bytes w64 (length body) ++ (body ++ 0 ∷ [])

-- how long a log with these bodies is, its last gate included
abbrev pub extent : List (List ℕ) → ℕ
extent [] = 1
extent (body ∷ bodies) = 9 + length body + extent bodies
