-- The greater of two keys.
use Rattle.std.specs.Prelude.{ℕ, max, Option, Some, None}

-- the greater of two keys, as far as they are there
abbrev pub newer_of : Option ℕ → Option ℕ → Option ℕ
newer_of None other = other
newer_of (Some key) None = Some key
newer_of (Some key) (Some another) = Some (max key another)
