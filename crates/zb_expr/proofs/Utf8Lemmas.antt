-- What is read off a text is UTF-8, since the text is: tokens begin and end between its characters.
use Rattle.std.proofs.Common.{◌≡◌, ℕ, ◌+◌, ◌<◌, Bool, true, false, ◌||◌, ◌==◌, if◌then◌else◌, Some, List, [], ◌∷◌, ◌++◌, length, drop, get_or, subst, refl, sym, append_assoc, length-append, arith}
use Rattle.std.proofs.lemmas.Bool.Decides.{nat_tests}
use Rattle.std.proofs.lemmas.List.{take_at, drop_at, get_or_at}
use Rattle.std.proofs.lemmas.Str.{IsUtf8-append, IsUtf8-take, IsUtf8-drop, IsCharBoundary-before_ascii, IsCharBoundary-after_ascii}
use Rattle.std.specs.Str.{IsUtf8}
use Rattle.zb_process.specs.declared.operator.Operator.{Operator}
use Rattle.zb_expr.specs.declared.class.Class.{Class}
use Rattle.zb_expr.specs.declared.class.Class.TheVariants as classes
use Rattle.zb_expr.specs.declared.token.Token.{Token}
use Rattle.zb_expr.specs.Spelling.{is_in, first_byte, behind_run, quoted_after, sign_alone, long_sign, token_at}
use Rattle.zb_expr.specs.Lexical.{are_in, backslashed, BeginsWith, number, word, quoted, sign, long}
use Rattle.zb_expr.proofs.LexicalLemmas.{both_true, quoted-gives, run-all, run-split, standing-read}

-- what stands before a byte of ASCII
pub utf8_before : (xs : List ℕ) (b : ℕ) (ys : List ℕ) → b < 128 → IsUtf8 (xs ++ b ∷ ys) → IsUtf8 xs
utf8_before xs b ys small h =
    let at : get_or (xs ++ b ∷ ys) (length xs) 0 ≡ b = get_or_at xs b ys 0 (length xs) refl in
    let within : length xs < length (xs ++ b ∷ ys) = omega (arith, length-append xs (b ∷ ys)) in
    subst IsUtf8 (take_at xs (b ∷ ys) (length xs) refl) (IsUtf8-take (xs ++ b ∷ ys) (length xs) h (IsCharBoundary-before_ascii (xs ++ b ∷ ys) (length xs) within (omega (arith, at))))

-- what stands behind it
pub utf8_behind : (xs : List ℕ) (b : ℕ) (ys : List ℕ) → b < 128 → IsUtf8 (xs ++ b ∷ ys) → IsUtf8 ys
utf8_behind xs b ys small h =
    let at : get_or (xs ++ b ∷ ys) (length xs) 0 ≡ b = get_or_at xs b ys 0 (length xs) refl in
    let within : length xs < length (xs ++ b ∷ ys) = omega (arith, length-append xs (b ∷ ys)) in
    let rest = IsUtf8-drop (xs ++ b ∷ ys) (length xs + 1) h (IsCharBoundary-after_ascii (xs ++ b ∷ ys) (length xs) h within (omega (arith, at))) in
    let past : length (xs ++ b ∷ []) ≡ length xs + 1 = omega (arith, length-append xs (b ∷ [])) in
    subst IsUtf8 (drop_at (xs ++ b ∷ []) ys (length xs + 1) past) (subst (λ (zs : List ℕ). IsUtf8 (drop (length xs + 1) zs)) (sym (append_assoc xs (b ∷ []) ys)) rest)

-- a byte of a class is ASCII
pub class_byte : (class : Class) (b : ℕ) → is_in class b ≡ true → b < 128
class_byte classes.Digit b h = grind (arith, nat_tests)
class_byte classes.Word b h = grind (arith, nat_tests)
class_byte classes.Space b h = grind (arith, nat_tests)

-- what stands behind bytes of a class
utf8_past : (class : Class) (xs ys : List ℕ) → are_in class xs ≡ true → IsUtf8 (xs ++ ys) → IsUtf8 ys
utf8_past class [] ys all h = h
utf8_past class (b ∷ xs) ys all h =
    let both = both_true (is_in class b) (are_in class xs) all in
    utf8_past class xs ys both.1 (utf8_behind [] b (xs ++ ys) (class_byte class b both.0) h)

-- behind a run of a class
pub utf8_behind_run : (class : Class) (bs : List ℕ) → IsUtf8 bs → IsUtf8 (behind_run class bs)
utf8_behind_run class bs h = utf8_past class _ _ (run-all class bs) (subst IsUtf8 (run-split class bs) h)

sign_byte : (b : ℕ) (t : Token) → sign_alone b ≡ Some t → b < 128
sign_byte b t h = grind (arith, nat_tests)

long_bytes : (b c : ℕ) (o : Operator) → long_sign b (Some c) ≡ Some o → (b < 128) × (c < 128)
long_bytes b c o h = (grind (arith, nat_tests), grind (arith, nat_tests))

-- behind a token
utf8_behind_token : (t : Token) (text behind : List ℕ) → BeginsWith t text behind → IsUtf8 text → IsUtf8 behind
utf8_behind_token t text behind (number d ds e all ends is) h = utf8_past classes.Digit (d ∷ ds) behind all (subst IsUtf8 e h)
utf8_behind_token t text behind (word b bs e begins all ends is) h = utf8_past classes.Word (b ∷ bs) behind all (subst IsUtf8 e h)
utf8_behind_token t text behind (quoted content e is) h = utf8_behind (34 ∷ backslashed content) 34 behind (omega arith) (subst IsUtf8 e h)
utf8_behind_token t text behind (sign b e short is) h = utf8_behind [] b behind (sign_byte b t is) (subst IsUtf8 e h)
utf8_behind_token t text behind (long b c o e is same) h =
    let small = long_bytes b c o is in
    utf8_behind (b ∷ []) c behind small.1 (subst IsUtf8 e h)

-- behind a token that is read
pub utf8_behind_read : (t : Token) (text behind : List ℕ) → token_at text ≡ Some (t, behind) → IsUtf8 text → IsUtf8 behind
utf8_behind_read t text behind h utf8 = utf8_behind_token t text behind (standing-read t text behind h) utf8

-- behind the first quote
pub utf8_behind_quote : (bs : List ℕ) → first_byte bs ≡ Some 34 → IsUtf8 bs → IsUtf8 (drop 1 bs)
utf8_behind_quote [] e h = absurd cc
utf8_behind_quote (b ∷ bs) e h =
    let same : b ≡ 34 = cc in
    utf8_behind [] b bs (omega (arith, same)) h

-- a byte of ASCII between two texts may go
utf8_without : (xs : List ℕ) (b : ℕ) (ys : List ℕ) → b < 128 → IsUtf8 (xs ++ b ∷ ys) → IsUtf8 (xs ++ ys)
utf8_without xs b ys small h = IsUtf8-append xs ys (utf8_before xs b ys small h) (utf8_behind xs b ys small h)

bare_by : (xs : List ℕ) (b : ℕ) (ys : List ℕ) (special : Bool) → IsUtf8 (xs ++ (if special then 92 ∷ b ∷ ys else b ∷ ys)) → IsUtf8 (xs ++ b ∷ ys)
bare_by xs b ys true h = utf8_without xs 92 (b ∷ ys) (omega arith) h
bare_by xs b ys false h = h

-- so may the backslashes
utf8_plain : (xs content : List ℕ) → IsUtf8 (xs ++ backslashed content) → IsUtf8 (xs ++ content)
utf8_plain xs [] h = h
utf8_plain xs (b ∷ bs) h =
    let others = utf8_plain (xs ++ b ∷ []) bs in
    let bare = bare_by xs b (backslashed bs) ((b == 34) || (b == 92)) h in
    subst IsUtf8 (append_assoc xs (b ∷ []) bs) (others (subst IsUtf8 (sym (append_assoc xs (b ∷ []) (backslashed bs))) bare))

-- the content of a text in quotes
pub utf8_quoted : (bs content behind : List ℕ) → quoted_after false [] bs ≡ Some (content, behind) → IsUtf8 bs → IsUtf8 content
utf8_quoted bs content behind h utf8 =
    let left = quoted-gives false bs [] content behind h in
    subst IsUtf8 (sym left.1) (utf8_plain [] left.0 (utf8_before (backslashed left.0) 34 behind (omega arith) (subst IsUtf8 left.2 utf8)))
