-- Passing over what is made of parts.
use Rattle.std.proofs.Common.{◌≡◌, ℕ, Option, None, Some, List, [], refl, ap, ◌∙◌}
use Rattle.zb_format.specs.FormatLaws.{some_is}
use Rattle.zb_format.specs.Reading.{Reader, both_at, made_at, skipped_at}

-- the same of a reader that always gives the same
made_of : {A B : Type 0} (make : A → B) (read : Option (A × List ℕ)) → skipped_at (made_at make (λ bytes. read)) [] ≡ skipped_at (λ bytes. read) []
made_of make (Some x) = refl
made_of make None = refl

-- what is made of parts is passed over as they are
pub made_over : {A B : Type 0} (make : A → B) (parts : Reader A) (bytes : List ℕ) → skipped_at (made_at make parts) bytes ≡ skipped_at parts bytes
made_over make parts bytes = made_of make (parts bytes)

over : {A B : Type 0} (read : Option (A × List ℕ)) (second : Reader B) (after : List ℕ) → skipped_at (λ bytes. read) [] ≡ Some (tt, after)
    → skipped_at (both_at (λ bytes. read) second) [] ≡ skipped_at second after
over (Some x) second after e =
    let same : x.1 ≡ after = ap (λ (p : Unit {0} × List ℕ). p.1) (some_is (tt, x.1) (tt, after) e) in
    made_over (λ y. (x.0, y)) second x.1 ∙ ap (λ (bytes : List ℕ). skipped_at second bytes) same
over None second after e = absurd cc

-- behind what was passed over first stands the second thing
pub both_over : {A B : Type 0} (first : Reader A) (second : Reader B) (bytes after : List ℕ) → skipped_at first bytes ≡ Some (tt, after)
    → skipped_at (both_at first second) bytes ≡ skipped_at second after
both_over first second bytes after e = over (first bytes) second after e

stops : {A B : Type 0} (read : Option (A × List ℕ)) (second : Reader B) → skipped_at (λ bytes. read) [] ≡ None → skipped_at (both_at (λ bytes. read) second) [] ≡ None
stops (Some x) second e = absurd cc
stops None second e = refl

-- without the first thing there are not both
pub both_stops : {A B : Type 0} (first : Reader A) (second : Reader B) (bytes : List ℕ) → skipped_at first bytes ≡ None → skipped_at (both_at first second) bytes ≡ None
both_stops first second bytes e = stops (first bytes) second e

there : {A : Type 0} (read : Option (A × List ℕ)) (after : List ℕ) → skipped_at (λ bytes. read) [] ≡ Some (tt, after) → (x : A) × (read ≡ Some (x, after))
there (Some x) after e = (x.0, ap (λ (bytes : List ℕ). Some (x.0, bytes)) (ap (λ (p : Unit {0} × List ℕ). p.1) (some_is (tt, x.1) (tt, after) e)))
there None after e = absurd cc

-- what was passed over was there
pub was_there : {A : Type 0} (read : Reader A) (bytes after : List ℕ) → skipped_at read bytes ≡ Some (tt, after) → (x : A) × (read bytes ≡ Some (x, after))
was_there read bytes after e = there (read bytes) after e

absent : {A : Type 0} (read : Option (A × List ℕ)) → skipped_at (λ bytes. read) [] ≡ None → read ≡ None
absent (Some x) e = absurd cc
absent None e = refl

-- what wasn't passed over wasn't there
pub was_absent : {A : Type 0} (read : Reader A) (bytes : List ℕ) → skipped_at read bytes ≡ None → read bytes ≡ None
was_absent read bytes e = absent (read bytes) e

pub ruleset skips = (both_over, both_stops, made_over)
