-- What the proofs of splitting a text rest on.
use Rattle.std.proofs.Common.{◌≡◌, ℕ, zero, suc, ◌+◌, ◌-◌, ◌*◌, ◌<◌, ◌≤◌, Bool, true, false, Option, Some, List, [], ◌∷◌, ◌++◌, length, take, drop, cond, slice_index, slice_index_or, refl, lit<, arith}
use Rattle.std.proofs.lemmas.List.Sums.{prefix_len-le-length}
use Rattle.std.proofs.lemmas.Bool.Decides.{nat_tests}
use Rattle.std.specs.List.{prefix_len}
use Rattle.std.proofs.lemmas.Str.{IsUtf8-from_ascii}
use Rattle.std.specs.Str.{IsUtf8, IsAscii}
use Rattle.zb_expr.specs.declared.class.Class.TheVariants.{Space, Word}
use Rattle.zb_expr.specs.declared.token.Token.{Token}
use Rattle.zb_expr.specs.Spelling.{is_in, run_of, decimal_after, token_at, tokens_after, where_left, behind_run}

pub ruleset runs = (prefix_len-le-length)

byte_below : (b : ℕ) → is_in Word b ≡ true → b < 128
byte_below b h = grind (arith, nat_tests)

word_by : (b : ℕ) (bs : List ℕ) (is : Bool) → is_in Word b ≡ is → IsAscii (run_of Word bs) → IsAscii (take (cond is (1 + prefix_len (is_in Word) bs) 0) (b ∷ bs))
word_by b bs false e others k = lit< tt
word_by b bs true e others k =
    let next : 1 + prefix_len (is_in Word) bs ≡ suc (prefix_len (is_in Word) bs) = omega arith in
    rw next (at_place k)
  where
    at_place : (k : ℕ) → slice_index (b ∷ run_of Word bs) k < 128
    at_place zero = byte_below b e
    at_place (suc k) = others k

-- the bytes of a word are ASCII
word_ascii : (bs : List ℕ) → IsAscii (run_of Word bs)
word_ascii [] k = lit< tt
word_ascii (b ∷ bs) k = word_by b bs (is_in Word b) refl (word_ascii bs) k

pub word_utf8 : (bs : List ℕ) → IsUtf8 (run_of Word bs)
word_utf8 bs = IsUtf8-from_ascii (run_of Word bs) (word_ascii bs)

-- further digits make no number less
pub decimal_after-least : (n : ℕ) (ds : List ℕ) → n ≤ decimal_after n ds
decimal_after-least n [] = omega arith
decimal_after-least n (d ∷ ds) = omega (arith, decimal_after-least (10 * n + (d - 48)) ds)

pub decimal_after-next : (n : ℕ) (ds : List ℕ) (i : ℕ) (d : ℕ) → i < length ds → 10 * n + (slice_index_or ds i d - 48) ≤ decimal_after n (drop i ds)
decimal_after-next n [] i d h = absurd (omega arith)
decimal_after-next n (x ∷ ds) zero d h = decimal_after-least (10 * n + (x - 48)) ds
decimal_after-next n (x ∷ ds) (suc i) d h = decimal_after-next n ds i d (omega arith)

pub ruleset numbers = (decimal_after-next)

-- where a byte is left, the rest follows
pub where_some_left : {A : Type 0} (left : List ℕ) (x : A) (f : List ℕ → Option A) → 0 < length left → where_left left x f ≡ f left
where_some_left [] x f h = absurd (omega arith)
where_some_left (b ∷ bs) x f h = refl

-- the next token, where bytes are left behind it
pub tokens-on : (n k : ℕ) (so_far : List Token) (t : Token) (bytes left : List ℕ) → k < n → token_at bytes ≡ Some (t, left) → 0 < length left → tokens_after (n - (k + 1)) (so_far ++ t ∷ []) (behind_run Space left) ≡ tokens_after (n - k) so_far bytes
tokens-on n k so_far t bytes left h read some =
    let next : n - k ≡ suc (n - (k + 1)) = omega arith in
    rw (next, read, where_some_left left (so_far ++ t ∷ []) (λ us. tokens_after (n - (k + 1)) (so_far ++ t ∷ []) (behind_run Space us)) some)
