-- What a call more means for an image that is filled where the calls reached the file.
use Rattle.std.proofs.Common.{◌≡◌, ◌⊎◌, inl, inr, ℕ, ◌+◌, ◌-◌, ◌<◌, ◌≤◌, max, List, [], ◌∷◌, ◌++◌, length, take, drop, slice_index, ◌||◌, sym, ◌∙◌, ap, subst, arith, length-append, length-drop}
use Rattle.std.proofs.lemmas.Bool.Decides.{nat_tests}
use Rattle.std.proofs.lemmas.List.{length-take-le, length-take, get_or_append_left, get_or-append_right, get_or-take, get_or-drop}
use Rattle.std.proofs.lemmas.List.Folds.{list_any-append}
use Rattle.std.specs.List.{list_any}
use Rattle.zb_disk.specs.declared.calls.Call.{Call}
use Rattle.zb_disk.specs.declared.calls.Write.{Write}
use Rattle.zb_disk.specs.declared.calls.Call.TheVariants.{Wrote, Other}
use Rattle.zb_disk.specs.Disk.{overwritten, Torn}
use Rattle.zb_disk.proofs.PushLemmas.{image_push, left_push}
use Rattle.zb_disk.specs.MomentLaws.{torn_whole, torn_none}
use Rattle.zb_disk.specs.Image.{reaches, fill_at, IsFilled, IsCovered}

-- a call reaches a place by itself, or another did before
reached_push : (k : ℕ) (calls : List Call) (call : Call) → list_any (reaches k) (calls ++ call ∷ []) ≡ (list_any (reaches k) calls || reaches k call)
reached_push k calls call = grind (arith, list_any-append)

-- a call that neither writes nor syncs
pub covered_other : (file fill image : List ℕ) (calls : List Call) → IsCovered file calls fill image → IsCovered file (calls ++ Other ∷ []) fill image
covered_other file fill image calls old = record {
  left = left_push _ file calls Other image old.left;
  longest = λ c image. old.longest c (image_push _ file calls Other c image);
  filled = record {
    reached = λ k within is. old.filled.reached k within (grind (arith, reached_push k calls Other));
    others = λ k within is. old.filled.others k within (grind (arith, reached_push k calls Other));
  };
}

-- a write that begins past the end of a longest image reaches nothing
torn_past : (at n : ℕ) (d c : List ℕ) → length d < at → Torn at n d c → length c ≤ length d
torn_past at n d c past torn = omega (arith, ap length torn.before, length-take at c, length-take at d)

pub covered_past : (file fill image : List ℕ) (calls : List Call) (w : Write) → length image < w.at → IsCovered file calls fill image → IsCovered file (calls ++ Wrote w ∷ []) fill image
covered_past file fill image calls w past old = record {
  left = left_push _ file calls (Wrote w) image (image, old.left, torn_none image w.at (length w.bytes.items));
  longest = λ c left.
      let step = image_push _ file calls (Wrote w) c left in
      let shorter : length step.0 ≤ length image = old.longest step.0 step.1 in
      omega (arith, shorter, torn_past w.at (length w.bytes.items) step.0 c (omega arith) step.2);
  filled = record {
    reached = λ k within is. old.filled.reached k within (grind (arith, nat_tests, reached_push k calls (Wrote w)));
    others = λ k within is. old.filled.others k within (grind (arith, nat_tests, reached_push k calls (Wrote w)));
  };
}

-- the length of a file that was written over
overwritten_length : (file : List ℕ) (at : ℕ) (bytes : List ℕ) → at ≤ length file → length (overwritten file at bytes) ≡ max (length file) (at + length bytes)
overwritten_length file at bytes le =
    omega (arith, length-take-le at file le, length-append (take at file) bytes, length-append (take at file ++ bytes) (drop (at + length bytes) file), length-drop (at + length bytes) file)

-- its bytes, within the range of the write and outside of it
inside : (file : List ℕ) (at : ℕ) (bytes : List ℕ) (k : ℕ) → at ≤ length file → at ≤ k → k < at + length bytes → slice_index (overwritten file at bytes) k ≡ slice_index bytes (k - at)
inside file at bytes k le from to =
    let size : length (take at file) ≡ at = length-take-le at file le in
    get_or_append_left (take at file ++ bytes) (drop (at + length bytes) file) 0 k (omega (arith, length-append (take at file) bytes))
    ∙ get_or-append_right (take at file) bytes at k 0 size from

before : (file : List ℕ) (at : ℕ) (bytes : List ℕ) (k : ℕ) → at ≤ length file → k < at → slice_index (overwritten file at bytes) k ≡ slice_index file k
before file at bytes k le to =
    let size : length (take at file) ≡ at = length-take-le at file le in
    get_or_append_left (take at file ++ bytes) (drop (at + length bytes) file) 0 k (omega (arith, length-append (take at file) bytes))
    ∙ get_or_append_left (take at file) bytes 0 k (omega arith)
    ∙ get_or-take at file k 0 to

behind : (file : List ℕ) (at : ℕ) (bytes : List ℕ) (k : ℕ) → at ≤ length file → at + length bytes ≤ k → slice_index (overwritten file at bytes) k ≡ slice_index file k
behind file at bytes k le from =
    let size : length (take at file) ≡ at = length-take-le at file le in
    let long : length (take at file ++ bytes) ≡ at + length bytes = omega (arith, length-append (take at file) bytes) in
    get_or-append_right (take at file ++ bytes) (drop (at + length bytes) file) (at + length bytes) k 0 long from
    ∙ get_or-drop (at + length bytes) file (k - (at + length bytes)) 0
    ∙ ap (λ i. slice_index file i) (omega arith)

-- the longest image that a write leaves is one where it lengthens a longest one
torn_longest : (file d c : List ℕ) (at : ℕ) (bytes : List ℕ) → at ≤ length file → length d ≤ length file → Torn at (length bytes) d c → length c ≤ length (overwritten file at bytes)
torn_longest file d c at bytes le shorter torn = omega (arith, torn.no_longer, overwritten_length file at bytes le)

-- this piece is the fill from a place on
pub record IsPiece (fill : List ℕ) (at n : ℕ) (piece : List ℕ) : Type 0 where
  pub size : length piece ≡ n
  pub bytes : (k : ℕ) → k < n → slice_index piece k ≡ fill_at fill (at + k)

-- where the write reaches, the fill stands then, and elsewhere what stood there
filled_write : (file fill image piece : List ℕ) (calls : List Call) (w : Write) → w.at ≤ length image → IsPiece fill w.at (length w.bytes.items) piece → IsFilled file calls fill image → IsFilled file (calls ++ Wrote w ∷ []) fill (overwritten image w.at piece)
filled_write file fill image piece calls w le laid old = record {
  reached = λ k within is. elim (places k) [
    | inl sooner ↦ before image w.at piece k le sooner ∙ old.reached k (omega arith) (grind (arith, nat_tests, reached_push k calls (Wrote w)))
    | inr (inl here) ↦
        inside image w.at piece k le here.0 (omega (arith, here.1, laid.size))
        ∙ laid.bytes (k - w.at) (omega (arith, here))
        ∙ ap (λ i. fill_at fill i) (omega (arith, here.0))
    | inr (inr later) ↦ behind image w.at piece k le (omega (arith, later, laid.size)) ∙ old.reached k (shorter k within later) (grind (arith, nat_tests, reached_push k calls (Wrote w)))
  ];
  others = λ k within is. elim (places k) [
    | inl sooner ↦ before image w.at piece k le sooner ∙ old.others k (omega arith) (grind (arith, nat_tests, reached_push k calls (Wrote w)))
    | inr (inl here) ↦ absurd (grind (arith, nat_tests, reached_push k calls (Wrote w)))
    | inr (inr later) ↦ behind image w.at piece k le (omega (arith, later, laid.size)) ∙ old.others k (shorter k within later) (grind (arith, nat_tests, reached_push k calls (Wrote w)))
  ];
}
  where
    places : (k : ℕ) → (k < w.at) ⊎ ((w.at ≤ k) × (k < w.at + length w.bytes.items)) ⊎ (w.at + length w.bytes.items ≤ k)
    places k = grind arith

    shorter : (k : ℕ) → k < length (overwritten image w.at piece) → w.at + length w.bytes.items ≤ k → k < length image
    shorter k within later = omega (arith, overwritten_length image w.at piece le, laid.size)

pub covered_write : (file fill image piece : List ℕ) (calls : List Call) (w : Write) → w.at ≤ length image → IsPiece fill w.at (length w.bytes.items) piece → IsCovered file calls fill image → IsCovered file (calls ++ Wrote w ∷ []) fill (overwritten image w.at piece)
covered_write file fill image piece calls w le laid old = record {
  left = left_push _ file calls (Wrote w) (overwritten image w.at piece) (image, old.left, subst (λ n. Torn w.at n image (overwritten image w.at piece)) laid.size (torn_whole image w.at piece le));
  longest = λ c left.
      let step = image_push _ file calls (Wrote w) c left in
      torn_longest image step.0 c w.at piece le (old.longest step.0 step.1) (subst (λ n. Torn w.at n step.0 c) (sym laid.size) step.2);
  filled = filled_write file fill image piece calls w le laid old.filled;
}
