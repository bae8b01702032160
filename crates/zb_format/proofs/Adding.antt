-- Pieces that are added to an encoder, one after another.
use Rattle.std.proofs.Common.{◌≡◌, ℕ, suc, ◌+◌, ◌^◌, ◌≤◌, ◌<◌, List, [], ◌∷◌, ◌++◌, length, take, slice_index_or, length-append, append_assoc, ◌∙◌, sym, ap, subst, arith}
use Rattle.std.proofs.Math.Seq.{take-suc, take-length}
use Rattle.zb_format.specs.Front.{Begins}
use Rattle.std.proofs.lemmas.List.{append-nil}
use Rattle.std.proofs.lemmas.List.Concat.{flat_map-cons}
use Rattle.std.specs.List.{flat_map, AllByRecursion}
use Rattle.zb_format.specs.Encoded.{Adds, HoldsFront, KeepsEncoded}
use Rattle.zb_format.specs.declared.encoder.Encoder.{Encoder}
use Rattle.zb_format.specs.declared.encoder.Encoder.TheVariants.{Bytes, Count}

-- one piece, and then another
pub adds_then : (a : Encoder) (x : List ℕ) (b : Encoder) (y : List ℕ) (c : Encoder) → Adds a x b → Adds b y c → Adds a (x ++ y) c
unfolding Adds
adds_then (Bytes a) x (Bytes b) y (Bytes c) p q = q ∙ ap (λ (t : List ℕ). t ++ y) p ∙ append_assoc a.items x y
adds_then (Count a) x (Count b) y (Count c) p q = omega (arith, p, q, length-append x y)
adds_then (Bytes a) x (Bytes b) y (Count c) p q = absurd q
adds_then (Bytes a) x (Count b) y c p q = absurd p
adds_then (Count a) x (Bytes b) y c p q = absurd p
adds_then (Count a) x (Count b) y (Bytes c) p q = absurd q

pub keeps_then : (a b c : Encoder) → KeepsEncoded a b → KeepsEncoded b c → KeepsEncoded a c
keeps_then a b c p q = (λ front h. q.0 front (p.0 front h), λ h. q.1 (p.1 h))

-- a byte, and then a piece
pub adds_byte : (a : Encoder) (byte : ℕ) (b : Encoder) (y : List ℕ) (c : Encoder) → Adds a (byte ∷ []) b → Adds b y c → Adds a (byte ∷ y) c
adds_byte a byte b y c p q = adds_then a (byte ∷ []) b y c p q

pub ruleset pieces = (adds_then, adds_byte)

-- behind a front, these items have been added one after another; each has a byte and fits
pub record Written {A : Type 0} (spelling : A → List ℕ) (fits : A → Type 0) (before : Encoder) (front : List ℕ) (items : List A) (after : Encoder) : Type 0 where
  pub added : Adds before (front ++ flat_map spelling items) after
  pub kept : KeepsEncoded before after
  pub some : length items ≤ length (flat_map spelling items)
  pub fitting : length (flat_map spelling items) < 2 ^ 32 → AllByRecursion fits items

flat_map_last : {A : Type 0} (f : A → List ℕ) (items : List A) (x : A) → flat_map f (items ++ x ∷ []) ≡ flat_map f items ++ f x
flat_map_last f [] x = append-nil (f x)
flat_map_last f (y ∷ ys) x = flat_map-cons f y (ys ++ x ∷ []) ∙ ap (λ (z : List ℕ). f y ++ z) (flat_map_last f ys x) ∙ sym (append_assoc (f y) (flat_map f ys) (f x)) ∙ ap (λ (z : List ℕ). z ++ f x) (sym (flat_map-cons f y ys))

all_last : {A : Type 0} (fits : A → Type 0) (items : List A) (x : A) → AllByRecursion fits items → fits x → AllByRecursion fits (items ++ x ∷ [])
all_last fits [] x all one = (one, tt)
all_last fits (y ∷ ys) x all one = (all.0, all_last fits ys x all.1 one)

-- one more item
pub written_more : {A : Type 0} (spelling : A → List ℕ) (fits : A → Type 0) (before : Encoder) (front : List ℕ) (items : List A) (between : Encoder) (x : A) (after : Encoder)
    → Written spelling fits before front items between → Adds between (spelling x) after → KeepsEncoded between after → 1 ≤ length (spelling x) → (length (spelling x) < 2 ^ 32 → fits x) → Written spelling fits before front (items ++ x ∷ []) after
written_more spelling fits before front items between x after so_far added kept some fitting =
    let spelled : flat_map spelling (items ++ x ∷ []) ≡ flat_map spelling items ++ spelling x = flat_map_last spelling items x in
    let long : length (flat_map spelling (items ++ x ∷ [])) ≡ length (flat_map spelling items) + length (spelling x) = ap length spelled ∙ length-append (flat_map spelling items) (spelling x) in
    record {
      added = subst (λ (z : List ℕ). Adds before z after) (append_assoc front (flat_map spelling items) (spelling x) ∙ ap (λ (z : List ℕ). front ++ z) (sym spelled)) (adds_then before (front ++ flat_map spelling items) between (spelling x) after so_far.added added);
      kept = keeps_then before between after so_far.kept kept;
      some = omega (arith, long, some, so_far.some, length-append items (x ∷ []));
      fitting = λ less. all_last fits items x (so_far.fitting (omega (arith, long, less))) (fitting (omega (arith, long, less)));
    }

-- the next item of a list
pub written_next : {A : Type 0} (spelling : A → List ℕ) (fits : A → Type 0) (before : Encoder) (front : List ℕ) (items : List A) (i : ℕ) (between : Encoder) (x : A) (after : Encoder)
    → i < length items → x ≡ slice_index_or items i x → Written spelling fits before front (take i items) between → Adds between (spelling x) after → KeepsEncoded between after → 1 ≤ length (spelling x) → (length (spelling x) < 2 ^ 32 → fits x) → Written spelling fits before front (take (i + 1) items) after
written_next spelling fits before front items i between x after within is so_far added kept some fitting =
    let next : suc i ≡ i + 1 = omega arith in
    let last : take i items ++ x ∷ [] ≡ take (i + 1) items = ap (λ (y : _). take i items ++ y ∷ []) is ∙ sym (take-suc items i x within) ∙ ap (λ (k : ℕ). take k items) next in
    subst (λ xs. Written spelling fits before front xs after) last (written_more spelling fits before front (take i items) between x after so_far added kept some fitting)

-- bytes that were kept stand at the front, and aren't counted alone
abbrev pub Front : Encoder → Encoder → Type 0
Front (Bytes before) (Bytes after) = Begins before.items after.items
Front (Bytes before) (Count after) = ⊥
Front (Count before) after = Unit {0}

pub kept_front : (a b : Encoder) → KeepsEncoded a b → Front a b
unfolding HoldsFront
kept_front (Bytes a) (Bytes b) p = p.0 a.items (record { front_of = take-length a.items })
kept_front (Bytes a) (Count b) p = absurd (p.0 a.items (record { front_of = take-length a.items }))
kept_front (Count a) b p = tt
