-- When timers are due, worked out by hand; the check computes each from the definition.
use Rattle.std.proofs.Common.{◌≡◌, Ok, Err, refl}
use Rattle.std.specs.Prelude.{ℕ, List, [], ◌∷◌, map, codes}
use Rattle.jiff_fmt.proofs.OnLiterals.{jiff_fmt_on_literals}
use Rattle.zb_duration.specs.Due.{due_of, due_of_date, due_of_duration, length_of_text}
use Rattle.zb_duration.specs.declared.fault.DueFault.TheVariants.{Text, Range}
use Rattle.zb_duration.specs.declared.form.TimeForm.TheVariants.{Date, Duration}

two_days : due_of Duration (codes "P2D") 0 ≡ Ok 172800000
unfolding jiff_fmt_on_literals due_of due_of_duration length_of_text
two_days = refl

-- one of each unit of fixed length, from a later start on; a millisecond and a half is one
each_unit : due_of Duration (codes "P1W1DT1H1M1.0015S") 1 ≡ Ok 694861002
unfolding jiff_fmt_on_literals due_of due_of_duration length_of_text
each_unit = refl

no_years_no_months : due_of Duration (codes "P0Y0M1D") 0 ≡ Ok 86400000
unfolding jiff_fmt_on_literals due_of due_of_duration length_of_text
no_years_no_months = refl

a_month : due_of Duration (codes "P1M") 0 ≡ Err Text
unfolding jiff_fmt_on_literals due_of due_of_duration length_of_text
a_month = refl

below_zero : due_of Duration (codes "-PT1S") 0 ≡ Err Text
unfolding jiff_fmt_on_literals due_of due_of_duration length_of_text
below_zero = refl

at_the_last_moment : due_of Duration (codes "PT1S") 249999999999000 ≡ Ok 250000000000000
unfolding jiff_fmt_on_literals due_of due_of_duration length_of_text
at_the_last_moment = refl

behind_the_last_moment : due_of Duration (codes "PT1S") 249999999999001 ≡ Err Range
unfolding jiff_fmt_on_literals due_of due_of_duration length_of_text
behind_the_last_moment = refl

a_second : due_of Date (codes "1970-01-01T00:00:01Z") 0 ≡ Ok 1000
unfolding jiff_fmt_on_literals due_of due_of_date
a_second = refl

before_1970 : due_of Date (codes "1969-12-31T23:59:59Z") 0 ≡ Err Range
unfolding jiff_fmt_on_literals due_of due_of_date
before_1970 = refl

part_of_a_millisecond_before_1970 : due_of Date (codes "1969-12-31T23:59:59.9995Z") 0 ≡ Ok 0
unfolding jiff_fmt_on_literals due_of due_of_date
part_of_a_millisecond_before_1970 = refl

-- texts that are no durations; the last three are behind the most days, weeks and seconds that are read
unfoldable no_durations : List (List ℕ)
no_durations =
    codes "" ∷ codes "P" ∷ codes "PT" ∷ codes "P1DT" ∷ codes "P1" ∷ codes "P1Y" ∷ codes "P1M" ∷ codes "P1Y0M" ∷
    codes "P0Y1M1D" ∷ codes "-PT1S" ∷ codes "-P0D" ∷ codes "+PT1S" ∷ codes "P-1D" ∷ codes "p1D" ∷ codes " PT1S" ∷
    codes "PT1S " ∷ codes "P 1D" ∷ codes "PT1D" ∷ codes "P1H" ∷ codes "PT1M1H" ∷ codes "P1D1W" ∷ codes "PT1S1S" ∷
    codes "PT1.5M1S" ∷ codes "P1.5D" ∷ codes "PT.5S" ∷ codes "PT1.S" ∷ codes "PT0.1239999990S" ∷ codes "1 day" ∷
    codes "P1 day" ∷ codes "1970-01-01T00:00:01Z" ∷ codes "P7304485D" ∷ codes "P1043498W" ∷
    codes "PT18446744073709551616S" ∷ []

told_as_texts : map (λ text. due_of Duration text 0) no_durations ≡ map (λ _. Err Text) no_durations
unfolding jiff_fmt_on_literals due_of due_of_duration length_of_text no_durations
told_as_texts = refl

-- those that are read, and are behind the last moment; and a start behind it
too_long : due_of Duration (codes "PT250000000000.001S") 0 ≡ Err Range
unfolding jiff_fmt_on_literals due_of due_of_duration length_of_text
too_long = refl

most_days : due_of Duration (codes "P7304484D") 0 ≡ Err Range
unfolding jiff_fmt_on_literals due_of due_of_duration length_of_text
most_days = refl

most_weeks : due_of Duration (codes "P1043497W") 0 ≡ Err Range
unfolding jiff_fmt_on_literals due_of due_of_duration length_of_text
most_weeks = refl

from_behind_the_last_moment : map (due_of Duration (codes "PT0S")) (250000000000001 ∷ 18446744073709551615 ∷ []) ≡ (Err Range ∷ Err Range ∷ [])
unfolding jiff_fmt_on_literals due_of due_of_duration length_of_text
from_behind_the_last_moment = refl

-- texts that are no dates; the last two are behind the last instant that is read
unfoldable no_dates : List (List ℕ)
no_dates =
    codes "" ∷ codes "1970-01-01" ∷ codes "1970-01-01T00:00:01" ∷ codes "00:00:01Z" ∷ codes " 1970-01-01T00:00:01Z" ∷
    codes "1970-01-01T00:00:01Z " ∷ codes "1970-01-01T00:00:61Z" ∷ codes "1970-01-01T24:00:00Z" ∷
    codes "1970-13-01T00:00:00Z" ∷ codes "2023-02-29T00:00:00Z" ∷ codes "1970-01-01T00:00:00.1239999990Z" ∷
    codes "PT1S" ∷ codes "9999-12-30T22:00:01Z" ∷ codes "+010000-01-01T00:00:00Z" ∷ []

told_as_texts_too : map (λ text. due_of Date text 0) no_dates ≡ map (λ _. Err Text) no_dates
unfolding jiff_fmt_on_literals due_of due_of_date no_dates
told_as_texts_too = refl

-- dates before 1970 and behind the last moment, up to the last one that is read
unfoldable dates_out_of_range : List (List ℕ)
dates_out_of_range =
    codes "1969-12-31T23:59:59Z" ∷ codes "1969-12-31T23:59:59.999Z" ∷ codes "1970-01-01T00:00:00+01:00" ∷
    codes "1937-01-01T12:00:27.87+00:20" ∷ codes "9892-03-08T12:26:40.001Z" ∷
    codes "9999-12-30T22:00:00.999999999Z" ∷ []

told_as_ranges : map (λ text. due_of Date text 0) dates_out_of_range ≡ map (λ _. Err Range) dates_out_of_range
unfolding jiff_fmt_on_literals due_of due_of_date dates_out_of_range
told_as_ranges = refl
