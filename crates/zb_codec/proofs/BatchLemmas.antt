-- What is read of whole bytes.
use Rattle.std.proofs.Common.{◌≡◌, ℕ, ◌++◌, Bool, true, false, cond, eqb, ◌==◌, if◌then◌else◌, length, List, [], Some, None, refl, sym, ap, ◌∙◌}
use Rattle.std.specs.Prelude.{◌≢◌, IfSome}
use Rattle.std.proofs.lemmas.List.{append-nil, nil_from_length}
use Rattle.std.proofs.lemmas.Bool.{eqb-true}
use Rattle.zb_format.specs.FormatLaws.{some_is}
use Rattle.zb_format.specs.Law.{IsBytes}
use Rattle.zb_model.specs.declared.record.Batch.{Batch}
use Rattle.zb_model.specs.Record.{bytes_of}
use Rattle.zb_model.specs.RecordFits.{IsBatch}
use Rattle.zb_model.specs.Batches.{batch}

-- a batch's bytes are read to their end
pub read_whole : (one : Batch) (bytes : List ℕ) → IsBatch one → bytes ≡ bytes_of one → batch.reading bytes ≡ Some (one, [])
read_whole one bytes fits e = ap batch.reading (e ∙ sym (append-nil (bytes_of one))) ∙ batch.law.again one [] fits

-- what was read to the end is a batch with these bytes
pub found : (one : Batch) (bytes rest : List ℕ) → IsBytes bytes → batch.reading bytes ≡ Some (one, rest) → rest ≡ [] → IsBatch one × (bytes ≡ bytes_of one)
found one bytes rest h e end =
    let t = batch.law.takes bytes one rest h e in
    (t.1, t.0.parts ∙ ap (λ (r : List ℕ). bytes_of one ++ r) end ∙ append-nil (bytes_of one))

found_by : (ended : Bool) (one : Batch) (bytes rest : List ℕ) → eqb (length rest) 0 ≡ ended → IsBytes bytes → batch.reading bytes ≡ Some (one, rest) → IfSome (cond ended (Some one) None) (λ b. IsBatch b × (bytes ≡ bytes_of b))
found_by true one bytes rest end h e = found one bytes rest h e (nil_from_length rest (eqb-true _ _ end))
found_by false one bytes rest end h e = tt

-- what was read, where nothing follows it
pub found_where : (one : Batch) (bytes rest : List ℕ) → IsBytes bytes → batch.reading bytes ≡ Some (one, rest) → IfSome (if (length rest == 0) then Some one else None) (λ b. IsBatch b × (bytes ≡ bytes_of b))
found_where one bytes rest h e = found_by (eqb (length rest) 0) one bytes rest refl h e

-- where something is left behind a batch, no batch has all of the bytes
pub left : (one : Batch) (bytes rest : List ℕ) → batch.reading bytes ≡ Some (one, rest) → rest ≢ [] → (other : Batch) → IsBatch other → bytes ≢ bytes_of other
left one bytes rest e more other fits spelled = more (ap (λ (p : Batch × List ℕ). p.1) (some_is (one, rest) (other, []) (sym e ∙ read_whole other bytes fits spelled)))

-- where nothing was read, no batch has the bytes
pub nothing : (bytes : List ℕ) → batch.reading bytes ≡ None → (other : Batch) → IsBatch other → bytes ≢ bytes_of other
nothing bytes e other fits spelled = let whole = read_whole other bytes fits spelled in absurd cc

pub one_spelling : (a b : Batch) (more : List ℕ) → IsBatch a → IsBatch b → bytes_of b ≡ bytes_of a ++ more → (a ≡ b) × (more ≡ [])
one_spelling a b more first second e =
    let first_read : batch.reading (bytes_of b) ≡ Some (a, more) = ap batch.reading e ∙ batch.law.again a more first in
    let same = some_is (a, more) (b, []) (sym first_read ∙ read_whole b (bytes_of b) second refl) in
    (ap (λ (p : Batch × List ℕ). p.0) same, ap (λ (p : Batch × List ℕ). p.1) same)

pub ruleset whole = (found, left, nothing)
