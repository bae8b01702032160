-- When a timer is due: at an instant, or a duration behind its start.
use Rattle.std.specs.Prelude.{ℕ, ◌+◌, ◌*◌, ◌/◌, ◌==◌, nat_eq, nat_le, codes, ℤ, pos, negsuc, int_div, Result, Ok, Err, List, [], ◌∷◌, if◌then◌else◌}
use Rattle.std.specs.List.{starts_with}
use Rattle.std.specs.Result.{result_map_both}
use Rattle.jiff_fmt.specs.Temporal.{parse_timestamp, parse_span}
use Rattle.zb_base.specs.Moment.{last_moment}
use Rattle.zb_base.specs.Results.{◌>>=◌}
use Rattle.zb_duration.specs.declared.fault.DueFault.{DueFault}
use Rattle.zb_duration.specs.declared.fault.DueFault.TheVariants.{Text, Range}
use Rattle.zb_duration.specs.declared.form.TimeForm.{TimeForm}
use Rattle.zb_duration.specs.declared.form.TimeForm.TheVariants.{Date, Duration}

-- the moment so many milliseconds behind the start of 1970, from there to the last moment (own)
abbrev pub moment_at : ℤ → Result ℕ DueFault
moment_at (pos ms) = if nat_le ms last_moment then Ok ms else Err Range
moment_at (negsuc ms) = Err Range

-- what was read; where nothing was, the text is none of its form (own)
abbrev pub read_in_form : {A E : Type 0} → Result A E → Result A DueFault
read_in_form answer = result_map_both (λ x. x) (λ e. Text) answer

-- the moment of a date, read in nanoseconds; parts of a millisecond go (RFC 3339, 5.6, as jiff reads it)
unfoldable pub due_of_date : List ℕ → Result ℕ DueFault
due_of_date text =
    read_in_form (parse_timestamp text) >>= (λ nanos. moment_at (int_div nanos (pos 1_000_000)))

-- the milliseconds of so many of each unit, 1 in front if below zero (ISO 8601-1, 3.1.2)
abbrev pub length_of_units : List ℕ → Result ℕ DueFault
length_of_units (sign ∷ years ∷ months ∷ weeks ∷ days ∷ hours ∷ minutes ∷ seconds ∷ ms ∷ us ∷ ns ∷ []) =
    if sign + years + months == 0
    then Ok ((weeks * 7 + days) * 86_400_000 + hours * 3_600_000 + minutes * 60_000
    + seconds * 1_000 + ms + (us * 1_000 + ns) / 1_000_000)
    else Err Text
length_of_units _ = Err Text

-- the milliseconds of a duration that begins with P (ISO 8601-1, 5.5.2, as jiff reads it)
unfoldable pub length_of_text : List ℕ → Result ℕ DueFault
length_of_text text =
    if starts_with nat_eq text (codes "P")
    then read_in_form (parse_span text) >>= length_of_units else Err Text

-- the moment that is a duration behind this one (ISO 8601-1, 5.5.2)
unfoldable pub due_of_duration : List ℕ → ℕ → Result ℕ DueFault
due_of_duration text now = length_of_text text >>= (λ ms. moment_at (pos (now + ms)))

-- the moment at which a timer is due that starts at this one (BPMN 2.0.2, 10.5.5)
unfoldable pub due_of : TimeForm → List ℕ → ℕ → Result ℕ DueFault
due_of Date text now = due_of_date text
due_of Duration text now = due_of_duration text now
