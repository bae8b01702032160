-- Formats from formats: each kind of field has one law. A layout is a value that holds its law, so these stand beside the definitions.
use Rattle.std.proofs.Common.{◌≡◌, ℕ, zero, suc, ◌+◌, ◌^◌, ◌<◌, ◌≤◌, Bool, true, false, cond, eqb, ltb, ℤ, List, [], ◌∷◌, ◌++◌, length, take, drop, Option, Some, None, refl, sym, ap, subst, ◌∙◌, append_assoc, arith, inl, inr}
use Rattle.std.specs.Prelude.{IsTrue}
use Rattle.std.specs.List.{flat_map, AllByRecursion}
use Rattle.std.specs.Int.{w32, w64, from_be_bytes, to_be_bytes, cast_signed, cast_unsigned}
use Rattle.std.specs.Str.{is_utf8}
use Rattle.std.proofs.lemmas.Bool.{cases_lt, ltb-false, le-ltb, eqb-true}
use Rattle.std.proofs.lemmas.List.{take_at, drop_at, take-append-drop, length-append, length-take, get_or-drop, get_or-take, get_or_past}
use Rattle.std.proofs.lemmas.List.Concat.{flat_map-cons}
use Rattle.std.proofs.lemmas.Nat.{be_bytes_4, be_bytes_8, from_be_bytes-to_be_bytes_4, from_be_bytes-to_be_bytes_8}
use Rattle.std.proofs.lemmas.Int.{of_z-to_z, to_z-of_z, ints}
use Rattle.zb_format.specs.Field.{number_bytes, long_bytes, signed_bytes, truth_byte, flag_bytes, text_bytes, counted_bytes, optional_bytes, value_bytes}
use Rattle.zb_format.specs.Fits.{IsAny, IsNumber, IsLong, IsSigned, IsText, AreCounted, IsOptional, IsValue}
use Rattle.zb_base.specs.declared.value.Value.{Value}
use Rattle.zb_base.specs.declared.value.Value.TheVariants as values
use Rattle.zb_format.specs.Law.{IsBytes, Takes, IsFormat}
use Rattle.zb_format.specs.Reading.{◌>>=◌, Reader, passed, empty_at, tagged_at, arm, no_arm, front_at, byte_at, both_at, made_at, chosen_at, one_of, flag_at, many_at, counted_at, number_at, long_at, signed_at, text_at, optional_at, value_at}

-- ---- bytes

-- bytes are bytes still without the first few
pub bytes-drop : (n : ℕ) (bytes : List ℕ) → IsBytes bytes → IsBytes (drop n bytes)
bytes-drop n bytes h i = rw get_or-drop (h (n + i))

-- the first few of some bytes are bytes
pub bytes-take : (n : ℕ) (bytes : List ℕ) → IsBytes bytes → IsBytes (take n bytes)
bytes-take n bytes h i =
    elim (cases_lt i n) [
      | inl lt ↦ rw (get_or-take n bytes i 0 lt) (h i)
      | inr le ↦ rw (get_or_past (take n bytes) i 0 (omega (arith, length-take n bytes))) (omega arith)
    ]

-- what stands behind the first byte is bytes
pub bytes-rest : (b : ℕ) (bytes : List ℕ) → IsBytes (b ∷ bytes) → IsBytes bytes
bytes-rest b bytes h i = h (suc i)

-- ---- what was read

-- the value of a step that read something
pub bind_some : {A B : Type 0} (r : Option A) (f : A → Option B) (y : B) → (r >>= f) ≡ Some y → (x : A) × (r ≡ Some x) × (f x ≡ Some y)
bind_some (Some x) f y e = (x, refl, e)
bind_some None f y e = absurd cc

-- a test that was passed
pub guard_some : {A : Type 0} (b : Bool) (x y : A) → cond b None (Some x) ≡ Some y → (b ≡ false) × (x ≡ y)
guard_some true x y e = absurd cc
guard_some false x y e = (refl, cc)

-- equal options hold equal values
pub some_is : {A : Type 0} (x y : A) → Some x ≡ Some y → x ≡ y
some_is x y e = cc

-- what one thing took and what the next one took of the rest is taken by both together
pub takes-then : (a x b y c : List ℕ) → Takes a x b → Takes b y c → Takes a (x ++ y) c
takes-then a x b y c p q = record { parts = p.parts ∙ ap (λ (t : List ℕ). x ++ t) q.parts ∙ sym (append_assoc x y c); rest_bytes = q.rest_bytes }

-- ---- formats from formats

-- one thing behind another is a format
pub both_format : {A B : Type 0} {f : A → List ℕ} {g : B → List ℕ} {P : A → Type 0} {Q : B → Type 0} {r : Reader A} {s : Reader B} → IsFormat f P r → IsFormat g Q s → IsFormat (λ p. f p.0 ++ g p.1) (λ p. P p.0 × Q p.1) (both_at r s)
both_format {f = f} {g = g} {P = P} {Q = Q} {r = r} {s = s} one two = record {
  takes = λ bytes x rest h e.
      let a = bind_some (r bytes) (λ x. s x.1 >>= λ y. Some ((x.0, y.0), y.1)) (x, rest) e in
      let b = bind_some (s a.0.1) (λ y. Some ((a.0.0, y.0), y.1)) (x, rest) a.2 in
      let p = one.takes bytes a.0.0 a.0.1 h a.1 in
      let q = two.takes a.0.1 b.0.0 b.0.1 p.0.rest_bytes b.1 in
      subst (λ z. Takes bytes (f z.0.0 ++ g z.0.1) z.1 × (P z.0.0 × Q z.0.1)) (some_is ((a.0.0, b.0.0), b.0.1) (x, rest) b.2) (takes-then bytes (f a.0.0) a.0.1 (g b.0.0) b.0.1 p.0 q.0, (p.1, q.1));
  again = λ x rest h.
      let first : r ((f x.0 ++ g x.1) ++ rest) ≡ Some (x.0, g x.1 ++ rest) = ap r (append_assoc (f x.0) (g x.1) rest) ∙ one.again x.0 (g x.1 ++ rest) h.0 in
      rw (first, two.again x.1 rest h.1) refl;
}

-- what is made of one format's values is a format, where making and taking apart undo each other
pub made_format : {A B : Type 0} {make : A → B} {f : A → List ℕ} {P : A → Type 0} {Q : B → Type 0} {r : Reader A} (from : B → A) → ((b : B) → Q b → (make (from b) ≡ b) × P (from b)) → ((a : A) → P a → (from (make a) ≡ a) × Q (make a)) → IsFormat f P r → IsFormat (λ b. f (from b)) Q (made_at make r)
made_format {make = make} {f = f} {P = P} {Q = Q} {r = r} from apart together one = record {
  takes = λ bytes x rest h e.
      let a = bind_some (r bytes) (λ x. Some (make x.0, x.1)) (x, rest) e in
      let p = one.takes bytes a.0.0 a.0.1 h a.1 in
      let t = together a.0.0 p.1 in
      let q = subst (λ y. Takes bytes (f y) a.0.1) (sym t.0) p.0 in
      subst (λ z. Takes bytes (f (from z.0)) z.1 × Q z.0) (some_is (make a.0.0, a.0.1) (x, rest) a.2) (q, t.1);
  again = λ x rest h.
      let t = apart x h in
      rw (one.again (from x) rest t.1) (ap (λ y. Some (y, rest)) t.0);
}

-- what fits, fits also taken apart and made again
pub fits_again : {A B : Type 0} (from : B → A) (make : A → B) (fits : A → Type 0) (a : A) → from (make a) ≡ a → fits a → fits (from (make a))
fits_again from make fits a same h = subst fits (sym same) h

-- ---- numbers

-- the first n bytes that are read off are n bytes, and the rest stands behind them
pub front_takes : (n : ℕ) (bytes piece rest : List ℕ) → IsBytes bytes → front_at n bytes ≡ Some (piece, rest) → Takes bytes piece rest × (length piece ≡ n) × IsBytes piece
front_takes n bytes piece rest h e =
    let g = guard_some (ltb (length bytes) n) (take n bytes, drop n bytes) (piece, rest) e in
    let long_bytes : n ≤ length bytes = ltb-false _ _ g.0 in
    subst (λ z. Takes bytes z.0 z.1 × (length z.0 ≡ n) × IsBytes z.0) g.1
    (record { parts = sym (take-append-drop n bytes); rest_bytes = bytes-drop n bytes h }, omega (arith, length-take n bytes), bytes-take n bytes h)

-- n bytes are read off whatever stands behind them
pub front_again : (n : ℕ) (piece rest : List ℕ) → length piece ≡ n → front_at n (piece ++ rest) ≡ Some (piece, rest)
front_again n piece rest len =
    let long_bytes : ltb (length (piece ++ rest)) n ≡ false = le-ltb _ _ (omega (arith, length-append piece rest, len)) in
    rw (long_bytes, take_at piece rest n len, drop_at piece rest n len) refl

front_format : (n : ℕ) → IsFormat (λ x. x) (λ x. length x ≡ n) (front_at n)
front_format n = record {
  takes = λ bytes x rest h e. let p = front_takes n bytes x rest h e in (p.0, p.1);
  again = λ x rest h. front_again n x rest h;
}

-- numbers of four bytes are a format
pub number_format : IsFormat number_bytes IsNumber number_at
unfolding number_bytes number_at
number_format = record {
  takes = λ bytes x rest h e.
      let a = bind_some (front_at 4 bytes) (λ y. Some (from_be_bytes w32 y.0, y.1)) (x, rest) e in
      let p = front_takes 4 bytes a.0.0 a.0.1 h a.1 in
      let fits = p.2 in
      let back : to_be_bytes w32 (from_be_bytes w32 a.0.0) ≡ a.0.0 = be_bytes_4 a.0.0 _ p.1 fits refl in
      let below : from_be_bytes w32 a.0.0 < 2 ^ 32 = omega (arith, fits 0, fits 1, fits 2, fits 3) in
      subst (λ z. Takes bytes (to_be_bytes w32 z.0) z.1 × (z.0 < 2 ^ 32)) (some_is (from_be_bytes w32 a.0.0, a.0.1) (x, rest) a.2) (subst (λ y. Takes bytes y a.0.1) (sym back) p.0, below);
  again = λ x rest h. rw (front_again 4 (to_be_bytes w32 x) rest refl, from_be_bytes-to_be_bytes_4 x h) refl;
}

-- numbers of eight bytes are a format
pub long_format : IsFormat long_bytes IsLong long_at
unfolding long_bytes long_at
long_format = record {
  takes = λ bytes x rest h e.
      let a = bind_some (front_at 8 bytes) (λ y. Some (from_be_bytes w64 y.0, y.1)) (x, rest) e in
      let p = front_takes 8 bytes a.0.0 a.0.1 h a.1 in
      let fits = p.2 in
      let back : to_be_bytes w64 (from_be_bytes w64 a.0.0) ≡ a.0.0 = be_bytes_8 a.0.0 _ p.1 fits refl in
      let below : from_be_bytes w64 a.0.0 < 2 ^ 64 = omega (arith, fits 0, fits 1, fits 2, fits 3, fits 4, fits 5, fits 6, fits 7) in
      subst (λ z. Takes bytes (to_be_bytes w64 z.0) z.1 × (z.0 < 2 ^ 64)) (some_is (from_be_bytes w64 a.0.0, a.0.1) (x, rest) a.2) (subst (λ y. Takes bytes y a.0.1) (sym back) p.0, below);
  again = λ x rest h. rw (front_again 8 (to_be_bytes w64 x) rest refl, from_be_bytes-to_be_bytes_8 x h) refl;
}

-- ---- a byte for each value

one_is_by : {A : Type 0} (byte : A → ℕ) (y : A) (b : ℕ) (x : A) (others : Option A) (t : Bool) → eqb (byte y) b ≡ t → (others ≡ Some x → byte x ≡ b) → cond t (Some y) others ≡ Some x → byte x ≡ b
one_is_by byte y b x others true h next e = ap byte (sym (some_is y x e)) ∙ eqb-true _ _ h
one_is_by byte y b x others false h next e = next e

-- the value that is found by a byte has that byte
pub one_is : {A : Type 0} (byte : A → ℕ) (all : List A) (b : ℕ) (x : A) → one_of byte all b ≡ Some x → byte x ≡ b
one_is byte [] b x e = absurd cc
one_is byte (y ∷ ys) b x e = one_is_by byte y b x (one_of byte ys b) (eqb (byte y) b) refl (one_is byte ys b x) e

byte_takes : {A : Type 0} (byte : A → ℕ) (all : List A) (bytes : List ℕ) (x : A) (rest : List ℕ) → IsBytes bytes → chosen_at (one_of byte all) byte_at bytes ≡ Some (x, rest) → Takes bytes (byte x ∷ []) rest × IsAny x
byte_takes byte all [] x rest h e = absurd cc
byte_takes byte all (b ∷ bs) x rest h e =
    let a = bind_some (one_of byte all b) (λ y. Some (y, bs)) (x, rest) e in
    let same : byte a.0 ≡ b = one_is byte all b a.0 a.1 in
    subst (λ z. Takes (b ∷ bs) (byte z.0 ∷ []) z.1 × Unit {0}) (some_is (a.0, bs) (x, rest) a.2)
    (record { parts = ap (λ (c : ℕ). c ∷ bs) (sym same); rest_bytes = bytes-rest b bs h }, tt)

-- values that are each known by a byte are a format
pub byte_format : {A : Type 0} (byte : A → ℕ) (all : List A) → ((x : A) → one_of byte all (byte x) ≡ Some x) → IsFormat (λ x. byte x ∷ []) IsAny (chosen_at (one_of byte all) byte_at)
byte_format byte all known = record {
  takes = byte_takes byte all;
  again = λ x rest h. rw (known x) refl;
}

-- truth values are a format
pub flag_format : IsFormat flag_bytes IsAny flag_at
flag_format = byte_format truth_byte (false ∷ true ∷ []) (elim [ false ↦ refl | true ↦ refl ])

-- whole numbers with a sign are a format
pub signed_format : IsFormat signed_bytes IsSigned signed_at
unfolding signed_bytes long_bytes signed_at
signed_format = made_format (cast_unsigned w64)
    (λ z h. (to_z-of_z w64 z h, unsigned_fits z h))
    (λ n h. (of_z-to_z w64 n h, signed_fits n h))
    long_format
  where
    unsigned_fits : (z : ℤ) → IsSigned z → IsLong (cast_unsigned w64 z)
    unsigned_fits z h = grind (arith, ints)

    signed_fits : (n : ℕ) → IsLong n → IsSigned (cast_signed w64 n)
    signed_fits n h = grind (arith, ints)

-- ---- what passes a test

passed_is : {A : Type 0} (b : Bool) (x y : A) → cond b (Some x) None ≡ Some y → (b ≡ true) × (x ≡ y)
passed_is true x y e = (refl, cc)
passed_is false x y e = absurd cc

-- a value and the bytes behind it
abbrev with_rest : {A : Type 0} → A → List ℕ → A × List ℕ
with_rest x rest = (x, rest)

pair_is : {A : Type 0} (a b : A) (r : List ℕ) (y : A × List ℕ) → a ≡ b → Some (with_rest b r) ≡ Some y → with_rest a r ≡ y
pair_is a b r y same e = rw same (some_is (with_rest b r) y e)

-- what passes a test, of a format's values
pub passing_format : {A : Type 0} {f : A → List ℕ} {P : A → Type 0} {r : Reader A} (test : A → Bool) → IsFormat f P r → IsFormat f (λ x. P x × IsTrue (test x)) (chosen_at (passed test) r)
passing_format {f = f} {P = P} {r = r} test one = record {
  takes = λ bytes x rest h e.
      let a = bind_some (r bytes) (λ y. passed test y.0 >>= λ z. Some (z, y.1)) (x, rest) e in
      let u = bind_some (passed test a.0.0) (λ z. Some (z, a.0.1)) (x, rest) a.2 in
      let g = passed_is (test a.0.0) a.0.0 u.0 u.1 in
      let p = one.takes bytes a.0.0 a.0.1 h a.1 in
      let whole : Takes bytes (f a.0.0) a.0.1 × (P a.0.0 × IsTrue (test a.0.0)) = (p.0, (p.1, g.0)) in
      subst (λ z. Takes bytes (f z.0) z.1 × (P z.0 × IsTrue (test z.0))) (pair_is a.0.0 u.0 a.0.1 (x, rest) g.1 u.2) whole;
  again = λ x rest h.
      let good : test x ≡ true = h.1 in
      rw (one.again x rest h.0, good) refl;
}

-- ---- texts

-- texts behind their length are a format
pub text_format : IsFormat text_bytes IsText text_at
unfolding text_bytes text_at
text_format = record {
  takes = λ bytes x rest h e.
      let n = bind_some (number_at bytes) (λ n. chosen_at (passed is_utf8) (front_at n.0) n.1) (x, rest) e in
      let p = number_format.takes bytes n.0.0 n.0.1 h n.1 in
      let q = (passing_format is_utf8 (front_format n.0.0)).takes n.0.1 x rest p.0.rest_bytes n.2 in
      let len : length x ≡ n.0.0 = q.1.0 in
      (subst (λ (k : ℕ). Takes bytes (number_bytes k ++ x) rest) (sym len) (takes-then bytes (number_bytes n.0.0) n.0.1 x rest p.0 q.0), (omega (arith, len, p.1), q.1.1));
  again = λ x rest h.
      let first : number_at ((number_bytes (length x) ++ x) ++ rest) ≡ Some (length x, x ++ rest) = ap number_at (append_assoc (number_bytes (length x)) x rest) ∙ number_format.again (length x) (x ++ rest) h.0 in
      let utf8 : is_utf8 x ≡ true = h.1 in
      rw (first, front_again (length x) x rest refl, utf8) refl;
}

-- ---- lists

many_takes : {A : Type 0} (f : A → List ℕ) (P : A → Type 0) (r : Reader A) → IsFormat f P r → (n : ℕ) (bytes : List ℕ) (xs : List A) (rest : List ℕ) → IsBytes bytes → many_at r n bytes ≡ Some (xs, rest) → Takes bytes (flat_map f xs) rest × (length xs ≡ n) × AllByRecursion P xs
many_takes f P r one zero bytes xs rest h e = subst (λ z. Takes bytes (flat_map f z.0) z.1 × (length z.0 ≡ 0) × AllByRecursion P z.0) (some_is ([], bytes) (xs, rest) e) (record { parts = refl; rest_bytes = h }, refl, tt)
many_takes f P r one (suc n) bytes xs rest h e =
    let a = bind_some (r bytes) (λ x. many_at r n x.1 >>= λ xs. Some (x.0 ∷ xs.0, xs.1)) (xs, rest) e in
    let b = bind_some (many_at r n a.0.1) (λ xs. Some (a.0.0 ∷ xs.0, xs.1)) (xs, rest) a.2 in
    let p = one.takes bytes a.0.0 a.0.1 h a.1 in
    let q = many_takes f P r one n a.0.1 b.0.0 b.0.1 p.0.rest_bytes b.1 in
    let both = takes-then bytes (f a.0.0) a.0.1 (flat_map f b.0.0) b.0.1 p.0 q.0 in
    subst (λ z. Takes bytes (flat_map f z.0) z.1 × (length z.0 ≡ suc n) × AllByRecursion P z.0) (some_is (a.0.0 ∷ b.0.0, b.0.1) (xs, rest) b.2) (rw flat_map-cons both, ap suc q.1, (p.1, q.2))

many_again : {A : Type 0} (f : A → List ℕ) (P : A → Type 0) (r : Reader A) → IsFormat f P r → (xs : List A) (rest : List ℕ) → AllByRecursion P xs → many_at r (length xs) (flat_map f xs ++ rest) ≡ Some (xs, rest)
many_again f P r one [] rest h = refl
many_again f P r one (x ∷ xs) rest h =
    let regrouped : flat_map f (x ∷ xs) ++ rest ≡ f x ++ (flat_map f xs ++ rest) = ap (λ (y : List ℕ). y ++ rest) (flat_map-cons f x xs) ∙ append_assoc (f x) (flat_map f xs) rest in
    ap (many_at r (suc (length xs))) regrouped ∙ rw (one.again x (flat_map f xs ++ rest) h.0, many_again f P r one xs rest h.1) refl

-- lists behind their length are a format, where their members are
pub counted_format : {A : Type 0} {f : A → List ℕ} {P : A → Type 0} {r : Reader A} → IsFormat f P r → IsFormat (counted_bytes f) (AreCounted P) (counted_at r)
unfolding counted_bytes counted_at
counted_format {f = f} {P = P} {r = r} one = record {
  takes = λ bytes x rest h e.
      let n = bind_some (number_at bytes) (λ n. many_at r n.0 n.1) (x, rest) e in
      let p = number_format.takes bytes n.0.0 n.0.1 h n.1 in
      let q = many_takes f P r one n.0.0 n.0.1 x rest p.0.rest_bytes n.2 in
      let whole : Takes bytes (counted_bytes f x) rest = subst (λ (k : ℕ). Takes bytes (number_bytes k ++ flat_map f x) rest) (sym q.1) (takes-then bytes (number_bytes n.0.0) n.0.1 (flat_map f x) rest p.0 q.0) in
      (whole, (omega (arith, q.1, p.1), q.2));
  again = λ x rest h.
      let first : number_at ((number_bytes (length x) ++ flat_map f x) ++ rest) ≡ Some (length x, flat_map f x ++ rest) = ap number_at (append_assoc (number_bytes (length x)) (flat_map f x) rest) ∙ number_format.again (length x) (flat_map f x ++ rest) h.0 in
      rw first (many_again f P r one x rest h.1);
}

-- ---- a byte for the kind

-- nothing at all is a format, of no bytes
pub empty_format : IsFormat (λ (u : Unit {0}). []) IsAny empty_at
empty_format = record {
  takes = λ bytes x rest h e. subst (λ z. Takes bytes [] z.1 × Unit {0}) (some_is (tt, bytes) (x, rest) e) (record { parts = refl; rest_bytes = h }, tt);
  again = λ x rest h. refl;
}

-- what is read behind a byte is spelled so, the byte first
pub record IsTagged {A : Type 0} (spelling : A → List ℕ) (fits : A → Type 0) (behind : ℕ → Reader A) : Type 0 where
  pub behind_takes : (tag : ℕ) (bytes : List ℕ) (x : A) (rest : List ℕ) → IsBytes bytes → behind tag bytes ≡ Some (x, rest) → Takes (tag ∷ bytes) (spelling x) rest × fits x

-- where no kind is left, nothing is read
pub no_arm_tagged : {B : Type 0} {spelling : B → List ℕ} {fits : B → Type 0} → IsTagged spelling fits no_arm
no_arm_tagged = record { behind_takes = λ tag bytes x rest h e. absurd cc }

-- what is made of a format's values, behind a byte
pub made_takes : {A B : Type 0} (n : ℕ) (make : A → B) (f : A → List ℕ) (P : A → Type 0) (r : Reader A) (spelling : B → List ℕ) (fits : B → Type 0) → IsFormat f P r → ((a : A) → spelling (make a) ≡ n ∷ f a) → ((a : A) → P a → fits (make a)) → (bytes : List ℕ) (x : B) (rest : List ℕ) → IsBytes bytes → made_at make r bytes ≡ Some (x, rest) → Takes (n ∷ bytes) (spelling x) rest × fits x
made_takes n make f P r spelling fits one spelled fitting bytes x rest h e =
    let a = bind_some (r bytes) (λ y. Some (make y.0, y.1)) (x, rest) e in
    let p = one.takes bytes a.0.0 a.0.1 h a.1 in
    let whole : Takes (n ∷ bytes) (spelling (make a.0.0)) a.0.1 = rw (spelled a.0.0) (record { parts = ap (λ (z : List ℕ). n ∷ z) p.0.parts; rest_bytes = p.0.rest_bytes }) in
    subst (λ z. Takes (n ∷ bytes) (spelling z.0) z.1 × fits z.0) (some_is (make a.0.0, a.0.1) (x, rest) a.2) (whole, fitting a.0.0 p.1)

arm_by : {B : Type 0} (n tag : ℕ) (t : Bool) → eqb tag n ≡ t → (here others : Option (B × List ℕ)) (Goal : ℕ → Type 0) (y : B × List ℕ) → (here ≡ Some y → Goal n) → (others ≡ Some y → Goal tag) → cond t here others ≡ Some y → Goal tag
arm_by n tag true h here others Goal y one two e = subst Goal (sym (eqb-true _ _ h)) (one e)
arm_by n tag false h here others Goal y one two e = two e

-- one kind more, by its byte: what is read behind it is spelled so, where the other kinds are
pub arm_tagged : {A B : Type 0} {f : A → List ℕ} {P : A → Type 0} {r : Reader A} {spelling : B → List ℕ} {fits : B → Type 0} {others : ℕ → Reader B} (n : ℕ) (make : A → B) → IsFormat f P r → ((a : A) → spelling (make a) ≡ n ∷ f a) → ((a : A) → P a → fits (make a)) → IsTagged spelling fits others → IsTagged spelling fits (arm n make r others)
arm_tagged {f = f} {P = P} {r = r} {spelling = spelling} {fits = fits} {others = others} n make one spelled fitting more = record {
  behind_takes = λ tag bytes x rest h e. arm_by n tag (eqb tag n) refl (made_at make r bytes) (others tag bytes) (λ k. Takes (k ∷ bytes) (spelling x) rest × fits x) (x, rest)
      (made_takes n make f P r spelling fits one spelled fitting bytes x rest h) (more.behind_takes tag bytes x rest h) e;
}

tagged_takes : {A : Type 0} (spelling : A → List ℕ) (fits : A → Type 0) (behind : ℕ → Reader A) → IsTagged spelling fits behind → (bytes : List ℕ) (x : A) (rest : List ℕ) → IsBytes bytes → tagged_at behind bytes ≡ Some (x, rest) → Takes bytes (spelling x) rest × fits x
tagged_takes spelling fits behind tagged [] x rest h e = absurd cc
tagged_takes spelling fits behind tagged (b ∷ bs) x rest h e = tagged.behind_takes b bs x rest (bytes-rest b bs h) e

-- values behind the byte of their kind are a format, where each is read again
pub tagged_format : {A : Type 0} {spelling : A → List ℕ} {fits : A → Type 0} {behind : ℕ → Reader A} → IsTagged spelling fits behind → ((x : A) (rest : List ℕ) → fits x → tagged_at behind (spelling x ++ rest) ≡ Some (x, rest)) → IsFormat spelling fits (tagged_at behind)
tagged_format {spelling = spelling} {fits = fits} {behind = behind} tagged again = record { takes = tagged_takes spelling fits behind tagged; again = again }

-- ---- what may be absent

optional_again : {A : Type 0} (f : A → List ℕ) (P : A → Type 0) (r : Reader A) → IsFormat f P r → (x : Option A) (rest : List ℕ) → IsOptional P x → optional_at r (optional_bytes f x ++ rest) ≡ Some (x, rest)
optional_again f P r one None rest h = refl
optional_again f P r one (Some x) rest h = rw (one.again x rest h) refl

-- what may be absent is a format
pub optional_format : {A : Type 0} {f : A → List ℕ} {P : A → Type 0} {r : Reader A} → IsFormat f P r → IsFormat (optional_bytes f) (IsOptional P) (optional_at r)
optional_format {f = f} {P = P} {r = r} one = tagged_format
    (arm_tagged 0 (λ u. None) empty_format (λ u. refl) (λ u h. tt)
    (arm_tagged 1 Some one (λ x. refl) (λ x h. h)
    no_arm_tagged))
    (optional_again f P r one)

-- ---- values of variables

value_again : (x : Value) (rest : List ℕ) → IsValue x → value_at (value_bytes x ++ rest) ≡ Some (x, rest)
unfolding value_bytes value_at
value_again (values.Int z) rest h = rw (signed_format.again z rest h) refl
value_again (values.Bool b) rest h = rw (flag_format.again b rest tt) refl
value_again (values.Text t) rest h = rw (text_format.again t rest h) refl
value_again (values.List zs) rest h = rw ((counted_format signed_format).again zs rest h) refl

-- values of variables are a format
pub value_format : IsFormat value_bytes IsValue value_at
unfolding value_bytes value_at
value_format = tagged_format
    (arm_tagged 0 values.Int signed_format (λ a. refl) (λ a h. h)
    (arm_tagged 1 values.Bool flag_format (λ a. refl) (λ a h. h)
    (arm_tagged 2 values.Text text_format (λ a. refl) (λ a h. h)
    (arm_tagged 3 values.List (counted_format signed_format) (λ a. refl) (λ a h. h)
    no_arm_tagged))))
    value_again
