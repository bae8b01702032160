-- Laws of what Stands.antt defines: what the file of a log stands for, by its bytes. A gate stands at offset 0. Behind an open gate come eight.
use Rattle.std.specs.Prelude.{◌≡◌, ◌≤◌, ℕ, List, [], ◌∷◌, length, slice_index, refl}
use Rattle.std.proofs.Common.{arith}
use Rattle.zb_store.specs.Stands.{next_gate, Leads, Stands}

-- a file of at most one byte has no frames
none_in_short : (file : List ℕ) (bodies : List (List ℕ)) (gate : ℕ) → length file ≤ 1 → Leads file 0 bodies gate → bodies ≡ []
unfolding next_gate
none_in_short file [] gate few leads = refl
none_in_short file (body ∷ bodies) gate few leads = absurd (omega (arith, leads.0.fits))

-- a file in which frames lead to a closed gate stands for their bodies
pub closed_stands : (file : List ℕ) (bodies : List (List ℕ)) (gate : ℕ) → Leads file 0 bodies gate → slice_index file gate ≡ 0 → Stands file bodies
closed_stands file bodies gate leads closed = record { short = λ few. none_in_short file bodies gate few leads; long = λ _. (gate, leads, closed) }
