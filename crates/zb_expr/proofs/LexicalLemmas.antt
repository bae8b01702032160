-- The tokens that a text is split into are those that it is spelled by.
use Rattle.std.proofs.Common.{◌≡◌, ℕ, zero, suc, ◌+◌, ◌<◌, ◌≤◌, Bool, true, false, not, ◌&&◌, ◌||◌, ◌==◌, if◌then◌else◌, Option, Some, None, List, [], ◌∷◌, ◌++◌, length, take, drop, cond, subst, refl, sym, ◌∙◌, ap, append_assoc, append-nil, length-append, arith}
use Rattle.std.proofs.lemmas.Bool.Decides.{nat_tests}
use Rattle.std.proofs.lemmas.List.{take-append-drop, take_at, drop_at}
use Rattle.std.specs.List.{prefix_len}
use Rattle.zb_format.specs.Reading.{◌>>=◌}
use Rattle.zb_process.specs.declared.operator.Operator.{Operator}
use Rattle.zb_expr.specs.declared.class.Class.{Class}
use Rattle.zb_expr.specs.declared.class.Class.TheVariants as classes
use Rattle.zb_expr.specs.declared.token.Token.{Token}
use Rattle.zb_expr.specs.declared.token.Token.TheVariants as tokens
use Rattle.zb_expr.specs.Spelling.{is_in, is_decimal, begins_name, first_byte, run_of, behind_run, number_token, word_token, text_token, quoted_after, sign_alone, long_sign, sign_by, sign_at, with_behind, text_at_quote, token_by, token_at, where_left, tokens_after, tokens_of}
use Rattle.zb_expr.proofs.SplittingLemmas.{where_some_left}
use Rattle.zb_expr.specs.Lexical.{are_in, stops, backslashed, BeginsWith, number, word, quoted, sign, long, AreSpelled}

pub both_true : (a b : Bool) → (a && b) ≡ true → (a ≡ true) × (b ≡ true)
both_true true true h = (refl, refl)
both_true true false h = absurd cc
both_true false b h = absurd cc

not_true : (a : Bool) → not a ≡ true → a ≡ false
not_true true h = absurd cc
not_true false h = refl

-- a run that stops is all that stands first
run-whole : (class : Class) (w rest : List ℕ) → are_in class w ≡ true → stops class rest ≡ true → prefix_len (is_in class) (w ++ rest) ≡ length w
run-whole class [] [] h k = refl
run-whole class [] (b ∷ bs) h k = let no : is_in class b ≡ false = not_true (is_in class b) k in rw no refl
run-whole class (b ∷ w) rest h k =
    let both = both_true (is_in class b) (are_in class w) h in
    rw both.0 (omega (arith, run-whole class w rest both.1 k))

run-front : (class : Class) (w rest : List ℕ) → are_in class w ≡ true → stops class rest ≡ true → run_of class (w ++ rest) ≡ w
run-front class w rest h k = take_at w rest (prefix_len (is_in class) (w ++ rest)) (sym (run-whole class w rest h k))

run-rest : (class : Class) (w rest : List ℕ) → are_in class w ≡ true → stops class rest ≡ true → behind_run class (w ++ rest) ≡ rest
run-rest class w rest h k = drop_at w rest (prefix_len (is_in class) (w ++ rest)) (sym (run-whole class w rest h k))

-- what stands first is of the class
pub run-all : (class : Class) (bs : List ℕ) → are_in class (run_of class bs) ≡ true
run-all class [] = refl
run-all class (b ∷ bs) = by_first (is_in class b) refl (run-all class bs)
  where
    by_first : (is : Bool) → is_in class b ≡ is → are_in class (run_of class bs) ≡ true → are_in class (take (cond is (1 + prefix_len (is_in class) bs) 0) (b ∷ bs)) ≡ true
    by_first false e h = refl
    by_first true e h =
        let next : 1 + prefix_len (is_in class) bs ≡ suc (prefix_len (is_in class) bs) = omega arith in
        rw (next, e) h

-- and what stands behind isn't
run-stops : (class : Class) (bs : List ℕ) → stops class (behind_run class bs) ≡ true
run-stops class [] = refl
run-stops class (b ∷ bs) = by_first (is_in class b) refl (run-stops class bs)
  where
    by_first : (is : Bool) → is_in class b ≡ is → stops class (behind_run class bs) ≡ true → stops class (drop (cond is (1 + prefix_len (is_in class) bs) 0) (b ∷ bs)) ≡ true
    by_first false e h = rw e refl
    by_first true e h =
        let next : 1 + prefix_len (is_in class) bs ≡ suc (prefix_len (is_in class) bs) = omega arith in
        rw next h

pub run-split : (class : Class) (bs : List ℕ) → bs ≡ run_of class bs ++ behind_run class bs
run-split class bs = sym (take-append-drop (prefix_len (is_in class) bs) bs)

-- a text in quotes, with what stands behind it
quoted-on : (content so_far rest : List ℕ) → quoted_after false so_far (backslashed content ++ 34 ∷ rest) ≡ Some (so_far ++ content, rest)
quoted-on [] so_far rest = rw (append-nil so_far) refl
quoted-on (b ∷ bs) so_far rest = by_byte (b == 34) (b == 92) refl refl (quoted-on bs (so_far ++ b ∷ []) rest ∙ ap (λ (c : List ℕ). Some (c, rest)) (append_assoc so_far (b ∷ []) bs))
  where
    by_byte : (q s : Bool) → (b == 34) ≡ q → (b == 92) ≡ s → quoted_after false (so_far ++ b ∷ []) (backslashed bs ++ 34 ∷ rest) ≡ Some (so_far ++ b ∷ bs, rest) → quoted_after false so_far ((if (b == 34) || (b == 92) then 92 ∷ b ∷ backslashed bs else b ∷ backslashed bs) ++ 34 ∷ rest) ≡ Some (so_far ++ b ∷ bs, rest)
    by_byte true s e f h = rw e (rw e h)
    by_byte false true e f h = rw (e, f) (rw (e, f) h)
    by_byte false false e f h = rw (e, f) (rw (e, f) h)

some_pair : {A B : Type 0} (p q : A × B) → Some p ≡ Some q → p ≡ q
some_pair p q h = cc

-- what was read up to a quote, from bytes that are left
abbrev pub Left : Bool → List ℕ → List ℕ → List ℕ → List ℕ → Type 0
Left false bs so_far c rest = (content : List ℕ) × (c ≡ so_far ++ content) × (bs ≡ backslashed content ++ 34 ∷ rest)
Left true bs so_far c rest = (content : List ℕ) × (c ≡ so_far ++ content) × (92 ∷ bs ≡ backslashed content ++ 34 ∷ rest)

escaped_by : (b : ℕ) (bs so_far c rest : List ℕ) (special : Bool) → ((b == 34) || (b == 92)) ≡ special → (if special then quoted_after false (so_far ++ b ∷ []) bs else None) ≡ Some (c, rest) → (quoted_after false (so_far ++ b ∷ []) bs ≡ Some (c, rest) → Left false bs (so_far ++ b ∷ []) c rest) → Left true (b ∷ bs) so_far c rest
escaped_by b bs so_far c rest false e h k = absurd cc
escaped_by b bs so_far c rest true e h k =
    let found = k h in
    (b ∷ found.0, found.1 ∙ append_assoc so_far (b ∷ []) found.0, rw e (ap (λ (x : List ℕ). 92 ∷ b ∷ x) found.2))

raw_by : (b : ℕ) (bs so_far c rest : List ℕ) (q s : Bool) → (b == 34) ≡ q → (b == 92) ≡ s → (if q then Some (so_far, bs) else (if s then quoted_after true so_far bs else quoted_after false (so_far ++ b ∷ []) bs)) ≡ Some (c, rest) → (quoted_after true so_far bs ≡ Some (c, rest) → Left true bs so_far c rest) → (quoted_after false (so_far ++ b ∷ []) bs ≡ Some (c, rest) → Left false bs (so_far ++ b ∷ []) c rest) → Left false (b ∷ bs) so_far c rest
raw_by b bs so_far c rest true s e f h k l =
    let pair = some_pair (so_far, bs) (c, rest) h in
    let same : b ≡ 34 = grind (arith, nat_tests) in
    ([], sym (ap (λ (p : List ℕ × List ℕ). p.0) pair) ∙ sym (append-nil so_far), rw same (ap (λ (p : List ℕ × List ℕ). 34 ∷ p.1) pair))
raw_by b bs so_far c rest false true e f h k l =
    let found = k h in
    let same : b ≡ 92 = grind (arith, nat_tests) in
    (found.0, found.1, rw same found.2)
raw_by b bs so_far c rest false false e f h k l =
    let found = l h in
    (b ∷ found.0, found.1 ∙ append_assoc so_far (b ∷ []) found.0, rw (e, f) (ap (λ (x : List ℕ). b ∷ x) found.2))

pub quoted-gives : (e : Bool) (bs so_far c rest : List ℕ) → quoted_after e so_far bs ≡ Some (c, rest) → Left e bs so_far c rest
quoted-gives true [] so_far c rest h = absurd cc
quoted-gives false [] so_far c rest h = absurd cc
quoted-gives true (b ∷ bs) so_far c rest h = escaped_by b bs so_far c rest ((b == 34) || (b == 92)) refl h (quoted-gives false bs (so_far ++ b ∷ []) c rest)
quoted-gives false (b ∷ bs) so_far c rest h = raw_by b bs so_far c rest (b == 34) (b == 92) refl refl h (quoted-gives true bs so_far c rest) (quoted-gives false bs (so_far ++ b ∷ []) c rest)

number_by : (d : ℕ) (bytes digits behind : List ℕ) (t : Token) → is_decimal d ≡ true → run_of classes.Digit bytes ≡ digits → behind_run classes.Digit bytes ≡ behind → number_token digits ≡ Some t → token_by (Some d) bytes ≡ Some (t, behind)
number_by d bytes digits behind t h e f g = rw (h, e, f) (ap (λ (o : Option Token). with_behind o behind) g)

name_not_decimal : (b : ℕ) → begins_name b ≡ true → is_decimal b ≡ false
name_not_decimal b h = grind (arith, nat_tests)

word_by : (b : ℕ) (bytes w behind : List ℕ) (t : Token) → begins_name b ≡ true → run_of classes.Word bytes ≡ w → behind_run classes.Word bytes ≡ behind → word_token w ≡ t → token_by (Some b) bytes ≡ Some (t, behind)
word_by b bytes w behind t h e f g =
    let no = name_not_decimal b h in
    rw (no, h, e, f) (ap (λ (x : Token). Some (x, behind)) g)

sign_not_decimal : (b : ℕ) (t : Token) → sign_alone b ≡ Some t → is_decimal b ≡ false
sign_not_decimal b t h = grind (arith, nat_tests)

sign_no_name : (b : ℕ) (t : Token) → sign_alone b ≡ Some t → begins_name b ≡ false
sign_no_name b t h = grind (arith, nat_tests)

sign_no_quote : (b : ℕ) (t : Token) → sign_alone b ≡ Some t → (b == 34) ≡ false
sign_no_quote b t h = grind (arith, nat_tests)

long_not_decimal : (b c : ℕ) (o : Operator) → long_sign b (Some c) ≡ Some o → is_decimal b ≡ false
long_not_decimal b c o h = grind (arith, nat_tests)

long_no_name : (b c : ℕ) (o : Operator) → long_sign b (Some c) ≡ Some o → begins_name b ≡ false
long_no_name b c o h = grind (arith, nat_tests)

long_no_quote : (b c : ℕ) (o : Operator) → long_sign b (Some c) ≡ Some o → (b == 34) ≡ false
long_no_quote b c o h = grind (arith, nat_tests)

sign_at_byte : (b : ℕ) (bs : List ℕ) → is_decimal b ≡ false → begins_name b ≡ false → (b == 34) ≡ false → token_by (Some b) (b ∷ bs) ≡ sign_at b bs
sign_at_byte b bs h k l = rw (h, k, l) refl

-- a token that stands at the front is read
pub read-standing : (t : Token) (text behind : List ℕ) → BeginsWith t text behind → token_at text ≡ Some (t, behind)
unfolding token_at
read-standing t text behind (number d ds e all ends is) =
    rw e (number_by d ((d ∷ ds) ++ behind) (d ∷ ds) behind t (both_true (is_decimal d) (are_in classes.Digit ds) all).0 (run-front classes.Digit (d ∷ ds) behind all ends) (run-rest classes.Digit (d ∷ ds) behind all ends) is)
read-standing t text behind (word b bs e begins all ends is) =
    rw e (word_by b ((b ∷ bs) ++ behind) (b ∷ bs) behind t begins (run-front classes.Word (b ∷ bs) behind all ends) (run-rest classes.Word (b ∷ bs) behind all ends) is)
read-standing t text behind (quoted content e is) =
    rw (e, quoted-on content [] behind) (ap (λ (x : Token). Some (x, behind)) is)
read-standing t text behind (sign b e short is) =
    rw e (sign_at_byte b behind (sign_not_decimal b t is) (sign_no_name b t is) (sign_no_quote b t is) ∙ rw short (ap (λ (o : Option Token). with_behind o behind) is))
read-standing t text behind (long b c o e is same) =
    rw e (sign_at_byte b (c ∷ behind) (long_not_decimal b c o is) (long_no_name b c o is) (long_no_quote b c o is) ∙ rw is (ap (λ (x : Token). Some (x, behind)) same))

run_first : (class : Class) (b : ℕ) (bs : List ℕ) → is_in class b ≡ true → run_of class (b ∷ bs) ≡ b ∷ run_of class bs
run_first class b bs h =
    let next : 1 + prefix_len (is_in class) bs ≡ suc (prefix_len (is_in class) bs) = omega arith in
    rw (h, next) refl

behind_gives : (found : Option Token) (r behind : List ℕ) (t : Token) → with_behind found r ≡ Some (t, behind) → (found ≡ Some t) × (r ≡ behind)
behind_gives None r behind t h = absurd cc
behind_gives (Some u) r behind t h =
    let pair = some_pair (u, r) (t, behind) h in
    (ap (λ (p : Token × List ℕ). Some p.0) pair, ap (λ (p : Token × List ℕ). p.1) pair)

quote_gives : (found : Option (List ℕ × List ℕ)) (behind : List ℕ) (t : Token) → ◌>>=◌ {B = Token × List ℕ} found (λ x. Some (text_token x.0, x.1)) ≡ Some (t, behind) → (content : List ℕ) × (found ≡ Some (content, behind)) × (text_token content ≡ t)
quote_gives None behind t h = absurd cc
quote_gives (Some x) behind t h =
    let pair = some_pair (text_token x.0, x.1) (t, behind) h in
    (x.0, ap (λ (p : Token × List ℕ). Some (x.0, p.1)) pair, ap (λ (p : Token × List ℕ). p.0) pair)

sign_by_gives : (b : ℕ) (bs behind : List ℕ) (t : Token) (found : Option Operator) → long_sign b (first_byte bs) ≡ found → sign_by found b bs ≡ Some (t, behind) → BeginsWith t (b ∷ bs) behind
sign_by_gives b bs behind t None e h =
    let both = behind_gives (sign_alone b) bs behind t h in
    sign b (ap (λ (r : List ℕ). b ∷ r) both.1) (subst (λ (r : List ℕ). long_sign b (first_byte r) ≡ None) both.1 e) both.0
sign_by_gives b [] behind t (Some o) e h = absurd cc
sign_by_gives b (c ∷ cs) behind t (Some o) e h =
    let pair = some_pair (tokens.Operator o, cs) (t, behind) h in
    long b c o (ap (λ (p : Token × List ℕ). b ∷ c ∷ p.1) pair) e (ap (λ (p : Token × List ℕ). p.0) pair)

joined_same : (xs ys us vs : List ℕ) → xs ≡ us → ys ≡ vs → xs ++ ys ≡ us ++ vs
joined_same xs ys us vs h k = rw (h, k) refl

standing_by : (t : Token) (b : ℕ) (bs behind : List ℕ) (d n q : Bool) → is_decimal b ≡ d → begins_name b ≡ n → (b == 34) ≡ q → (if d then with_behind (number_token (run_of classes.Digit (b ∷ bs))) (behind_run classes.Digit (b ∷ bs)) else (if n then Some (word_token (run_of classes.Word (b ∷ bs)), behind_run classes.Word (b ∷ bs)) else (if q then text_at_quote bs else sign_at b bs))) ≡ Some (t, behind) → BeginsWith t (b ∷ bs) behind
standing_by t b bs behind true n q e f g h =
    let both = behind_gives (number_token (run_of classes.Digit (b ∷ bs))) (behind_run classes.Digit (b ∷ bs)) behind t h in
    let run = run_first classes.Digit b bs e in
    number b (run_of classes.Digit bs) (run-split classes.Digit (b ∷ bs) ∙ joined_same _ _ _ _ run both.1) (subst (λ (r : List ℕ). are_in classes.Digit r ≡ true) run (run-all classes.Digit (b ∷ bs))) (subst (λ (r : List ℕ). stops classes.Digit r ≡ true) both.1 (run-stops classes.Digit (b ∷ bs))) (subst (λ (r : List ℕ). number_token r ≡ Some t) run both.0)
standing_by t b bs behind false true q e f g h =
    let pair = some_pair (word_token (run_of classes.Word (b ∷ bs)), behind_run classes.Word (b ∷ bs)) (t, behind) h in
    let rest : behind_run classes.Word (b ∷ bs) ≡ behind = ap (λ (p : Token × List ℕ). p.1) pair in
    let is : is_in classes.Word b ≡ true = rw f refl in
    let run = run_first classes.Word b bs is in
    word b (run_of classes.Word bs) (run-split classes.Word (b ∷ bs) ∙ joined_same _ _ _ _ run rest) f (subst (λ (r : List ℕ). are_in classes.Word r ≡ true) run (run-all classes.Word (b ∷ bs))) (subst (λ (r : List ℕ). stops classes.Word r ≡ true) rest (run-stops classes.Word (b ∷ bs))) (subst (λ (r : List ℕ). word_token r ≡ t) run (ap (λ (p : Token × List ℕ). p.0) pair))
standing_by t b bs behind false false true e f g h =
    let found = quote_gives (quoted_after false [] bs) behind t h in
    let left = quoted-gives false bs [] found.0 behind found.1 in
    let same : b ≡ 34 = grind (arith, nat_tests) in
    quoted left.0 (ap (λ (x : ℕ). x ∷ bs) same ∙ ap (λ (r : List ℕ). 34 ∷ r) left.2) (subst (λ (r : List ℕ). text_token r ≡ t) left.1 found.2)
standing_by t b bs behind false false false e f g h = sign_by_gives b bs behind t (long_sign b (first_byte bs)) refl h

-- a token that is read stands at the front
pub standing-read : (t : Token) (text behind : List ℕ) → token_at text ≡ Some (t, behind) → BeginsWith t text behind
unfolding token_at
standing-read t [] behind h = absurd cc
standing-read t (b ∷ bs) behind h = standing_by t b bs behind (is_decimal b) (begins_name b) (b == 34) refl refl refl h

-- behind a token fewer bytes are left
stands-shorter : (t : Token) (text behind : List ℕ) → BeginsWith t text behind → length behind < length text
stands-shorter t text behind (number d ds e all ends is) = rw e (omega (arith, length-append ds behind))
stands-shorter t text behind (word b bs e begins all ends is) = rw e (omega (arith, length-append bs behind))
stands-shorter t text behind (quoted content e is) = rw e (omega (arith, length-append (backslashed content) (34 ∷ behind)))
stands-shorter t text behind (sign b e short is) = rw e (omega arith)
stands-shorter t text behind (long b c o e is same) = rw e (omega arith)

-- a text has a byte for each token at least
spelled-long : (ts : List Token) (text : List ℕ) → AreSpelled ts text → length ts ≤ length text
spelled-long [] text h = absurd h
spelled-long (t ∷ []) text h = omega (arith, stands-shorter t text [] h)
spelled-long (t ∷ u ∷ ts) text h = omega (arith, stands-shorter t text (h.0 ++ h.1) h.2, length-append h.0 h.1, spelled-long (u ∷ ts) h.1 h.5)

-- the tokens that a text is spelled by are those that it is split into
split-after : (ts : List Token) (n : ℕ) (so_far : List Token) (text : List ℕ) → AreSpelled ts text → length ts ≤ n → tokens_after n so_far text ≡ Some (so_far ++ ts)
split-after [] n so_far text h k = absurd h
split-after (t ∷ ts) zero so_far text h k = absurd (omega arith)
split-after (t ∷ []) (suc n) so_far text h k = rw (read-standing t text [] h) refl
split-after (t ∷ u ∷ ts) (suc n) so_far text h k =
    let some : 0 < length (h.0 ++ h.1) = omega (arith, length-append h.0 h.1, spelled-long (u ∷ ts) h.1 h.5) in
    let others = split-after (u ∷ ts) n (so_far ++ t ∷ []) h.1 h.5 (omega arith) in
    rw (read-standing t text (h.0 ++ h.1) h.2, where_some_left (h.0 ++ h.1) (so_far ++ t ∷ []) (λ left. tokens_after n (so_far ++ t ∷ []) (behind_run classes.Space left)) some, run-rest classes.Space h.0 h.1 h.3 h.4) (others ∙ ap Some (append_assoc so_far (t ∷ []) (u ∷ ts)))

pub split-spelled : (text : List ℕ) (ts : List Token) → AreSpelled ts text → tokens_of text ≡ Some ts
split-spelled text ts h = split-after ts (length text) [] text h (spelled-long ts text h)

token_gives : (found : Option (Token × List ℕ)) (n : ℕ) (so_far all : List Token) → (found >>= (λ x. where_left x.1 (so_far ++ x.0 ∷ []) (λ left. tokens_after n (so_far ++ x.0 ∷ []) (behind_run classes.Space left)))) ≡ Some all → (t : Token) × (behind : List ℕ) × (found ≡ Some (t, behind)) × (where_left behind (so_far ++ t ∷ []) (λ left. tokens_after n (so_far ++ t ∷ []) (behind_run classes.Space left)) ≡ Some all)
token_gives None n so_far all h = absurd cc
token_gives (Some x) n so_far all h = (x.0, x.1, refl, h)

one_more_spelled : (t : Token) (text left : List ℕ) (so_far all us : List Token) → BeginsWith t text left → all ≡ (so_far ++ t ∷ []) ++ us → AreSpelled us (behind_run classes.Space left) → (ts : List Token) × (all ≡ so_far ++ ts) × AreSpelled ts text
one_more_spelled t text left so_far all [] stands e h = absurd h
one_more_spelled t text left so_far all (u ∷ us) stands e h =
    (t ∷ u ∷ us, e ∙ append_assoc so_far (t ∷ []) (u ∷ us), (run_of classes.Space left, behind_run classes.Space left, subst (λ (r : List ℕ). BeginsWith t text r) (run-split classes.Space left) stands, run-all classes.Space left, run-stops classes.Space left, h))

left_by : (n : ℕ) (t : Token) (text behind : List ℕ) (so_far all : List Token) → BeginsWith t text behind → where_left behind (so_far ++ t ∷ []) (λ left. tokens_after n (so_far ++ t ∷ []) (behind_run classes.Space left)) ≡ Some all → ((left : List ℕ) → tokens_after n (so_far ++ t ∷ []) left ≡ Some all → (us : List Token) × (all ≡ (so_far ++ t ∷ []) ++ us) × AreSpelled us left) → (ts : List Token) × (all ≡ so_far ++ ts) × AreSpelled ts text
left_by n t text [] so_far all stands h others = (t ∷ [], sym cc, stands)
left_by n t text (b ∷ bs) so_far all stands h others =
    let found = others (behind_run classes.Space (b ∷ bs)) h in
    one_more_spelled t text (b ∷ bs) so_far all found.0 stands found.1 found.2

spelled-after : (n : ℕ) (so_far : List Token) (text : List ℕ) (all : List Token) → tokens_after n so_far text ≡ Some all → (ts : List Token) × (all ≡ so_far ++ ts) × AreSpelled ts text
spelled-after zero so_far text all h = absurd cc
spelled-after (suc n) so_far text all h =
    let found = token_gives (token_at text) n so_far all h in
    left_by n found.0 text found.1 so_far all (standing-read found.0 text found.1 found.2) found.3 (λ left k. spelled-after n (so_far ++ found.0 ∷ []) left all k)

-- the tokens that a text is split into are those that it is spelled by
pub spelled-split : (text : List ℕ) (ts : List Token) → tokens_of text ≡ Some ts → AreSpelled ts text
spelled-split text ts h =
    let found = spelled-after (length text) [] text ts h in
    subst (λ (us : List Token). AreSpelled us text) (sym found.1) found.2
