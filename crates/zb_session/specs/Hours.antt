-- The clock of a run, and its readings.
use Rattle.std.specs.Prelude.{◌≡◌, ◌≤◌, ◌+◌, min, sum_by, count_by, ℕ, List, Bool, true, false, IsTrue, is_ok, Result, Ok}
use Rattle.zb_base.specs.Moment.{last_moment}
use Rattle.zb_wire.specs.declared.given.Given.{Given}
use Rattle.zb_wire.specs.declared.request.Request.{Request}
use Rattle.zb_wire.specs.declared.request.Request.TheVariants as requests
use Rattle.zb_wire.specs.declared.request.LineFault.{LineFault}

-- the clock of a run: one that is moved by hand, or a real one, which may tell what it is to read from the beginning of
-- the run on, by the number of the reading
pub data Hours : Type 0 where
  manual : Hours
  real : Bool → (ℕ → ℕ) → Hours

-- whether it is moved by hand
abbrev pub is_manual : Hours → Bool
is_manual manual = true
is_manual (real tells upcoming) = false

-- what the line with this number is read by, in a run of so many partitions
abbrev pub given_of : Hours → (partitions number : ℕ) → Given
given_of hours partitions number = record { number = number; partitions = partitions; manual = is_manual hours }

-- how far a request moves the clock that is moved by hand: only an advance does
abbrev pub moved_by : Result Request LineFault → ℕ
moved_by (Ok (requests.Advance ms)) = ms
moved_by _ = 0

-- the clock that is moved by hand stands at 0 at first, and behind lines that were found to be these at the sum of their
-- advances, at most at the last moment
abbrev pub clock_after : List (Result Request LineFault) → ℕ
clock_after found = min (sum_by moved_by found) last_moment

-- how many of the lines that were found to be these are requests
abbrev pub requests_in : List (Result Request LineFault) → ℕ
requests_in found = count_by is_ok found

-- the reading of the clock behind lines that were found to be these, for what moves the one that is moved by hand on by so
-- many milliseconds: each request before it has read the real one once, and nothing else has
abbrev pub IsReadingOf : Hours → List (Result Request LineFault) → (by : ℕ) → ℕ → Type 0
IsReadingOf manual found by reading = reading ≡ min (clock_after found + by) last_moment
IsReadingOf (real tells upcoming) found by reading = (reading ≤ last_moment)
    × (IsTrue tells → reading ≡ min (upcoming (requests_in found)) last_moment)
