-- The parts of entries, by their places.
use Rattle.std.proofs.Common.{◌≡◌, ℕ, zero, suc, ◌+◌, List, [], ◌∷◌, length, map, slice_get, Some, refl, sym, ap, ◌∙◌, subst, arith}
use Rattle.std.specs.List.{AllZip, range_with_len}
use Rattle.zb_model.specs.declared.record.Batch.{Batch}
use Rattle.zb_world.specs.Entries.{part_of, parts_of}
use Rattle.zb_world.specs.declared.entry.Entry.{Entry}
use Rattle.zb_serve.proofs.ListLemmas.{some_same}

-- the part of a number, among parts that begin at another
parts_from : (a m : ℕ) (h : List Entry) (k : ℕ) (log : List Batch) → slice_get (map (λ p. part_of p h) (range_with_len a m)) k ≡ Some log → part_of (a + k) h ≡ log
parts_from a zero h k log at = absurd (cc (at))
parts_from a (suc m) h zero log at = let here : a + 0 ≡ a = omega arith in ap (λ (p : ℕ). part_of p h) here ∙ some_same _ _ at
parts_from a (suc m) h (suc k) log at =
    let same : a + suc k ≡ (a + 1) + k = omega arith in
    ap (λ (p : ℕ). part_of p h) same ∙ parts_from (a + 1) m h k log at

-- each log is the part of its number
pub part_at : (n : ℕ) (h : List Entry) (logs : List (List Batch)) → parts_of n h ≡ logs → (k : ℕ) (log : List Batch) → slice_get logs k ≡ Some log → part_of (suc k) h ≡ log
part_at n h logs are k log at =
    let same : suc k ≡ 1 + k = omega arith in
    ap (λ (p : ℕ). part_of p h) same ∙ parts_from 1 n h k log (subst (λ (l : List (List Batch)). slice_get l k ≡ Some log) (sym are) at)

zip_from : (R : List ℕ → List Batch → Type 0) (a m : ℕ) (kept : List (List ℕ)) (h : List Entry) → length kept ≡ m
    → ((k : ℕ) (image : List ℕ) → slice_get kept k ≡ Some image → R image (part_of (a + k) h)) → AllZip R kept (map (λ p. part_of p h) (range_with_len a m))
zip_from R a zero [] h many each = tt
zip_from R a (suc m) [] h many each = absurd (omega (arith, many))
zip_from R a zero (image ∷ kept) h many each = absurd (omega (arith, many))
zip_from R a (suc m) (image ∷ kept) h many each =
    let here : a + 0 ≡ a = omega arith in (
      subst (λ (p : ℕ). R image (part_of p h)) here (each 0 image refl),
      zip_from R (a + 1) m kept h (omega (arith, many)) (λ k other at. let same : a + suc k ≡ (a + 1) + k = omega arith in subst (λ (p : ℕ). R other (part_of p h)) same (each (suc k) other at)),
    )

-- images that go with the parts, one by one
pub zip_parts : (R : List ℕ → List Batch → Type 0) (n : ℕ) (kept : List (List ℕ)) (h : List Entry) → length kept ≡ n
    → ((k : ℕ) (image : List ℕ) → slice_get kept k ≡ Some image → R image (part_of (suc k) h)) → AllZip R kept (parts_of n h)
zip_parts R n kept h many each = zip_from R 1 n kept h many (λ k image at. let same : suc k ≡ 1 + k = omega arith in subst (λ (p : ℕ). R image (part_of p h)) same (each k image at))
