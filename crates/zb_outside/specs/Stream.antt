-- Streams of bytes as plain data.
use Rattle.std.specs.Prelude.{ℕ, ◌==◌, ◌&&◌, nat_lt, Bool, List}

-- a source: the bytes that are left, how many it has given, whether it has told its end, how often it has failed
pub record SourceView : Type 0 where
  pub left : List ℕ
  pub given : ℕ
  pub ended : Bool
  pub faults : ℕ

-- a read tells the end where it gives nothing for a piece with room (POSIX, read)
abbrev pub tells_end : (room count : ℕ) → Bool
tells_end room count = nat_lt 0 room && (count == 0)

-- a sink: the bytes that were written, how often it has failed
pub record SinkView : Type 0 where
  pub written : List ℕ
  pub faults : ℕ
