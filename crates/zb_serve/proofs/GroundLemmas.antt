-- Logs that go on from what was found of them: today these are the batches that were found.
use Rattle.std.proofs.Common.{◌≡◌, ℕ, suc, ◌+◌, List, [], ◌∷◌, ◌++◌, length, map, refl, sym, ap, ◌∙◌, arith, length-append}
use Rattle.std.specs.List.{AllByRecursion}
use Rattle.std.proofs.lemmas.List.Sums.{sum_by-cons}
use Rattle.zb_model.specs.declared.record.Batch.{Batch}
use Rattle.zb_partition.specs.Ground.{Ground, at_start, Found, IsLogOn}
use Rattle.zb_desk.specs.Numbered.{EachFrom}
use Rattle.zb_desk.specs.Serial.{place_behind}
use Rattle.zb_serve.specs.Ends.{RunEnds, VolumeEnds, Crashes}
use Rattle.zb_serve.specs.Log.{Course, OpenedLog, AreLogsOn, count_found, place_found, IsVolume}
use Rattle.zb_serve.specs.Served.{RunsOn, Serves}
use Rattle.zb_serve.proofs.ListLemmas.{no_members}

-- the batches that were found
abbrev pub tails_of : List OpenedLog → List (List Batch)
tails_of opened = map (λ one. one.found.tail) opened

-- every log was read from its start on
abbrev pub AreFromStart : List OpenedLog → Type 0
AreFromStart opened = AllByRecursion (λ one. one.found.ground ≡ at_start) opened

-- the log that goes on from what was found is that
only_tail : (found : Found) (log : List Batch) → found.ground ≡ at_start → IsLogOn found log → log ≡ found.tail
only_tail found log start on =
    let none : length on.0 ≡ 0 = on.2 ∙ ap (λ (ground : Ground). ground.frames) start in
    on.1 ∙ ap (λ (before : List Batch). before ++ found.tail) (no_members on.0 none)

pub only_tails : (opened : List OpenedLog) (logs : List (List Batch)) → AreFromStart opened → AreLogsOn opened logs → logs ≡ tails_of opened
only_tails [] [] start on = refl
only_tails (one ∷ opened) (log ∷ logs) start on =
    ap (λ (l : List Batch). l ∷ logs) (only_tail one.found log start.0 on.0) ∙ ap (λ (ls : List (List Batch)). one.found.tail ∷ ls) (only_tails opened logs start.1 on.1)
only_tails [] (log ∷ logs) start on = absurd on
only_tails (one ∷ opened) [] start on = absurd on

-- and that goes on
pub tails_on : (opened : List OpenedLog) → AreFromStart opened → AreLogsOn opened (tails_of opened)
tails_on [] start = tt
tails_on (one ∷ opened) start = (([], refl, sym (ap (λ (ground : Ground). ground.frames) start.0)), tails_on opened start.1)

-- the place of the first entry is the one behind all logs that go on so
pub place_is : (opened : List OpenedLog) (logs : List (List Batch)) → AreLogsOn opened logs → place_found opened ≡ place_behind logs []
place_is [] [] on = omega arith
place_is (one ∷ opened) (log ∷ logs) on =
    let before = on.0.0 in
    let here : length log ≡ count_found one = ap length on.0.1 ∙ (length-append before one.found.tail ∙ ap (λ (n : ℕ). n + length one.found.tail) on.0.2) in
    let rest = place_is opened logs on.1 in
    let found = sum_by-cons count_found one opened in
    let behind = sum_by-cons length log logs in
    omega (arith, here, rest, found, behind)
place_is [] (log ∷ logs) on = absurd on
place_is (one ∷ opened) [] on = absurd on

-- so a run that serves goes on with the batches that were found
module _ (course : Course) (crashes : Crashes) where
  pub from_start : (number : ℕ) (ends : List VolumeEnds) (opened : List OpenedLog) → EachFrom (IsVolume course crashes) number ends opened → AreFromStart opened
  from_start number [] [] each = tt
  from_start number (volume ∷ ends) (one ∷ opened) each = (each.0.found.ground, from_start (suc number) ends opened each.1)
  from_start number [] (one ∷ opened) each = absurd each
  from_start number (volume ∷ ends) [] each = absurd each

  pub runs_on_tails : (ends : RunEnds) (stamps : List (List ℕ)) (units : ℕ) (serves : Serves course ends crashes stamps units) → RunsOn course ends crashes serves.parts (tails_of serves.parts.opened)
  runs_on_tails ends stamps units serves = serves.runs_on (tails_of serves.parts.opened) (tails_on serves.parts.opened (from_start 1 ends.volumes serves.parts.opened serves.volumes))
