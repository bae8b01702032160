-- Lines of bytes and their parts.
use Rattle.std.proofs.Common.{◌≡◌, ◌≢◌, ◌<◌, ◌+◌, ◌-◌, ℕ, suc, zero, List, [], ◌∷◌, ◌++◌, length, take, drop, get_or, slice_range, refl, ap, sym, ◌∙◌, arith, eq-eqb, Option, Some, None, MatchOption}
use Rattle.std.proofs.lemmas.Bool.{eqb-true}
use Rattle.std.proofs.lemmas.List.{append_assoc, length-take, drop_more, take-append-drop, get_or-take, drop-take, drop-drop, take_rest}
use Rattle.std.proofs.Math.Seq.{take-add}
use Rattle.memchr.specs.Find.{IsFirstByte, NoneBefore, Passes, is_byte}
use Rattle.zb_lines.specs.Line.{IsOneLine, ended, newline}
use Rattle.zb_lines.specs.Step.{kept, BreaksAt}

-- two parts without a newline are one without a newline
pub IsOneLine-append : (first second : List ℕ) → IsOneLine first → IsOneLine second → IsOneLine (first ++ second)
unfolding IsOneLine
IsOneLine-append [] second a b = b
IsOneLine-append (x ∷ xs) second a b = (a.0, IsOneLine-append xs second a.1 b)

-- no byte is no newline
pub one_nothing : IsOneLine []
unfolding IsOneLine
one_nothing = tt

pub take-none : (n : ℕ) → take {A = ℕ} n [] ≡ []
take-none zero = refl
take-none (suc n) = refl

-- where no place has a newline there is none
pub IsOneLine_from : (bytes : List ℕ) → ((k : ℕ) → k < length bytes → get_or bytes k 0 ≢ newline) → IsOneLine bytes
unfolding IsOneLine
IsOneLine_from [] none = tt
IsOneLine_from (x ∷ xs) none = (none 0 (omega arith), IsOneLine_from xs (λ k below. none (suc k) (omega arith)))

-- the first bytes of two parts
pub take-append : (n : ℕ) (xs ys : List ℕ) → take n (xs ++ ys) ≡ take n xs ++ take (n - length xs) ys
take-append zero xs ys = let e : 0 - length xs ≡ 0 = omega arith in ap (λ n. take n ys) (sym e)
take-append (suc n) [] ys = let e : suc n - 0 ≡ suc n = omega arith in ap (λ k. take k ys) (sym e)
take-append (suc n) (x ∷ xs) ys =
    let e : n - length xs ≡ suc n - suc (length xs) = omega arith in
    ap (λ l. x ∷ l) (take-append n xs ys ∙ ap (λ k. take n xs ++ take k ys) e)

pub kept-take : (most : ℕ) (seen part : List ℕ) → kept most (take most seen) part ≡ take most (seen ++ part)
kept-take most seen part =
    let e : most - length (take most seen) ≡ most - length seen = omega (arith, length-take most seen) in
    ap (λ n. take most seen ++ take n part) e ∙ sym (take-append most seen part)

-- the first place of a newline
pub breaks_at : (bytes : List ℕ) (place : ℕ) → NoneBefore (Passes (is_byte newline) bytes) 0 (length bytes) place → Passes (is_byte newline) bytes place → BreaksAt bytes place
breaks_at bytes place first here = record {
  within = first.high;
  line = IsOneLine_from (take place bytes) (λ k below same.
      let within : k < place = omega (arith, length-take place bytes) in
      first.before k (omega arith) within (eq-eqb (get_or bytes k 0) newline (sym (get_or-take place bytes k 0 within) ∙ same)));
  split = sym (take-append-drop place bytes)
      ∙ ap (λ rest. take place bytes ++ rest) (drop_more bytes place 0 first.high ∙ ap (λ byte. byte ∷ drop (place + 1) bytes) (eqb-true (get_or bytes place 0) newline here));
}

-- what a search for a newline tells
pub breaks_first : (bytes : List ℕ) (found : Option ℕ) → IsFirstByte (is_byte newline) bytes found → MatchOption found (IsOneLine bytes) (BreaksAt bytes)
breaks_first bytes None none = IsOneLine_from bytes (λ k below same. none k (omega arith) below (eq-eqb (get_or bytes k 0) newline same))
breaks_first bytes (Some place) found = breaks_at bytes place found.0 found.1

-- what is held behind the first newline
pub held_after : (piece : List ℕ) (at end place : ℕ) → place < length (slice_range piece at end) → drop (place + 1) (slice_range piece at end) ≡ slice_range piece (at + (place + 1)) end
held_after piece at end place within =
    let inside : place < end - at = omega (arith, length-take (end - at) (drop at piece)) in
    let rest = end - (at + (place + 1)) in
    let split : end - at ≡ place + 1 + rest = omega arith in
    ap (λ n. drop (place + 1) (take n (drop at piece))) split
    ∙ (drop-take (place + 1) rest (drop at piece) ∙ ap (λ bytes. take rest bytes) (drop-drop (place + 1) at piece))

-- a line and what is held behind it
pub line_held : (piece seen : List ℕ) (at end place : ℕ) → seen ≡ piece → BreaksAt (slice_range seen at end) place → slice_range piece at end ≡ ended (take place (slice_range seen at end)) ++ slice_range piece (at + (place + 1)) end
line_held piece seen at end place same breaks =
    let line = take place (slice_range seen at end) in
    let split : slice_range seen at end ≡ ended line ++ slice_range seen (at + (place + 1)) end =
    breaks.split ∙ (ap (λ rest. line ++ newline ∷ rest) (held_after seen at end place breaks.within) ∙ sym (append_assoc line (newline ∷ []) (slice_range seen (at + (place + 1)) end))) in
    rw (← same) split

-- bytes that were written in two turns
pub written_on : (old mid new bytes : List ℕ) (sent count : ℕ) → mid ≡ old ++ take sent bytes → new ≡ mid ++ take count (slice_range bytes sent (length bytes)) → new ≡ old ++ take (sent + count) bytes
written_on old mid new bytes sent count before now =
    let rest : new ≡ mid ++ take count (drop sent bytes) = now ∙ ap (λ bs. mid ++ take count bs) (take_rest bytes sent) in
    rest ∙ (ap (λ bs. bs ++ take count (drop sent bytes)) before ∙ (append_assoc old (take sent bytes) (take count (drop sent bytes)) ∙ ap (λ bs. old ++ bs) (sym (take-add sent count bytes))))
