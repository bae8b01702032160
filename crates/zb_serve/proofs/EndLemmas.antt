-- How a run of one session ends: what its cause says, and what is left undone.
use Rattle.std.proofs.Common.{◌≡◌, ◌⊎◌, ℕ, zero, suc, ◌+◌, ◌-◌, ◌<◌, ◌≤◌, List, [], ◌∷◌, length, slice_get, nat_lt, Bool, true, false, IsTrue, IsFalse, Some, Ok, refl, sym, ap, subst, inl, inr, arith}
use Rattle.std.specs.List.{AllByRecursion}
use Rattle.std.proofs.lemmas.Bool.{false≢true}
use Rattle.std.proofs.lemmas.Bool.Decides.{nat_tests}
use Rattle.zb_disk.specs.Cause.{Rose}
use Rattle.zb_model.specs.declared.record.Batch.{Batch}
use Rattle.zb_world.specs.declared.entry.Entry.{Entry}
use Rattle.zb_partition.specs.Log.{frame_size}
use Rattle.zb_wire.specs.Request.{request_of}
use Rattle.zb_desk.specs.Numbered.{OfNumber}
use Rattle.zb_desk.specs.Serial.{Basis, IsNextEntry, AreMadeFor, IsNextUnit, AreUnits}
use Rattle.zb_session.specs.Hours.{given_of, moved_by, IsReadingOf}
use Rattle.zb_session.specs.Answer.{Answer, found_in, entries_made}
use Rattle.zb_session.specs.Session.{SessionEnds, SessionRun, CutsOff, IsLeftUndone, most_taken}
use Rattle.zb_session.specs.declared.session.End.{End}
use Rattle.zb_serve.specs.Ends.{Told, VolumeEnds, EachDisk, AnyDisk, IsSteady}
use Rattle.zb_serve.specs.Log.{Course, OpenedLog, length_in, batch_of}
use Rattle.zb_serve.specs.Served.{MayEnd, IsNoneLeft, IsWhyUndone, IsUndone, AreClosing, IsUntroubled, answers_of}
use Rattle.zb_serve.specs.Cause.{rank_of, comes_before}
use Rattle.zb_serve.specs.Parts.{RunParts}
use Rattle.zb_serve.specs.Order.{HasFailed, HasDiskFailed, WasMet}
use Rattle.zb_serve.specs.Running.{ends_alone}
use Rattle.zb_serve.specs.declared.run.Cause.{Cause}
use Rattle.zb_serve.specs.declared.run.Cause.TheVariants as causes
use Rattle.zb_serve.proofs.ListLemmas.{append_none, some_same, all_at, number_behind}

-- what a cause says of the session, in a run of n partitions
pub record IsNamed (told : Told) (n : ℕ) (sides : SessionEnds) (run : SessionRun) (cause : Cause) : Type 0 where
  pub status : MayEnd 1 n cause
  pub done : cause ≡ causes.Done → IsTrue run.ended × (run.unserved ≡ [])
  pub source_fault : cause ≡ causes.SourceFault 1 → Rose sides.source.faults sides.source_after.faults × (run.unserved ≡ [])
  pub sink_fault : cause ≡ causes.SinkFault 1 → Rose sides.sink.faults sides.sink_after.faults
  pub input_full : cause ≡ causes.InputFull 1 → (length run.taken ≡ most_taken) × (run.ended ≡ false) × (run.unserved ≡ [])
  pub no_source_fault : 4 < rank_of cause → IsTrue told.source_counts → sides.source_after.faults ≡ sides.source.faults
  pub no_sink_fault : 5 < rank_of cause → IsTrue told.sink_counts → sides.sink_after.faults ≡ sides.sink.faults
  pub not_full : 6 < rank_of cause → run.ended ≡ true

-- and that nothing that comes before it was met at the logs
pub record AreNamed (course : Course) (ends : List VolumeEnds) (opened : List OpenedLog) : Type 0 where
  pub steady : 1 < rank_of course.cause → AllByRecursion (IsUntroubled course.told) ends
  pub room : 2 < rank_of course.cause → (k : ℕ) (one : OpenedLog) → slice_get opened k ≡ Some one → (batch : Batch) → batch_of (suc k) course.unlogged ≡ Some batch
      → length_in course (suc k) one + frame_size batch ≤ course.setting.limit

-- what a run of one session is made of
abbrev pub parts_alone : List OpenedLog → SessionRun → (rest closing : List Entry) → RunParts
parts_alone opened run rest closing = record { opened = opened; runs = run ∷ []; rest = rest; closing = closing }

-- a run that wasn't cut off, of whose streams none failed and whose session isn't full, served every line
pub whole_served : (told : Told) (n : ℕ) (sides : SessionEnds) (run : SessionRun) (cause : Cause)
    → IsNamed told n sides run cause → IsFalse (comes_before cause (causes.SourceFault 1)) → (Rose sides.source.faults sides.source_after.faults → ⊥)
    → (Rose sides.sink.faults sides.sink_after.faults → ⊥) → length run.taken < most_taken → IsTrue run.ended × (run.unserved ≡ [])
whole_served told n sides run causes.Done named uncut source sink few = named.done refl
whole_served told n sides run (causes.SourceFault session) named uncut source sink few =
    let one : session ≡ 1 = omega (arith, named.status.0, named.status.1) in
    absurd (source (named.source_fault (ap causes.SourceFault one)).0)
whole_served told n sides run (causes.SinkFault session) named uncut source sink few =
    let one : session ≡ 1 = omega (arith, named.status.0, named.status.1) in
    absurd (sink (named.sink_fault (ap causes.SinkFault one)))
whole_served told n sides run (causes.InputFull session) named uncut source sink few =
    let one : session ≡ 1 = omega (arith, named.status.0, named.status.1) in
    let full = named.input_full (ap causes.InputFull one) in
    absurd (omega (arith, few, full.0))
whole_served told n sides run causes.Memory named uncut source sink few = absurd (false≢true (sym uncut))
whole_served told n sides run (causes.DiskFault partition batch) named uncut source sink few = absurd (false≢true (sym uncut))
whole_served told n sides run (causes.LogFull partition length_told frame most) named uncut source sink few = absurd (false≢true (sym uncut))
whole_served told n sides run causes.Usage named uncut source sink few = absurd (false≢true (sym uncut))
whole_served told n sides run (causes.BadLog partition frame) named uncut source sink few = absurd (false≢true (sym uncut))

-- an order that doesn't hold isn't told
not_told : (a b : ℕ) → (a < b → ⊥) → (test : Bool) → nat_lt a b ≡ test → IsFalse (nat_lt a b)
not_told a b never false is = is
not_told a b never true is = absurd (never (grind (arith, nat_tests)))

-- a count that stands didn't rise
no_failure : (counts : Bool) (before after : ℕ) → HasFailed counts before after → (IsTrue counts → after ≡ before) → ⊥
no_failure counts before after failed same = absurd (omega (arith, same failed.0, failed.1))

-- nor did those of a volume's disks
none_failed : (counts : Bool) (ends : VolumeEnds) → (IsTrue counts → EachDisk IsSteady ends) → AnyDisk (HasDiskFailed counts) ends → ⊥
none_failed counts ends steady (inl failed) = no_failure counts ends.log.before.faults ends.log.after.faults failed (λ t. (steady t).0)
none_failed counts ends steady (inr (inl failed)) = no_failure counts ends.snap_a.before.faults ends.snap_a.after.faults failed (λ t. (steady t).1)
none_failed counts ends steady (inr (inr failed)) = no_failure counts ends.snap_b.before.faults ends.snap_b.after.faults failed (λ t. (steady t).2)

-- the one member is the one that has a number
of_one : {A : Type 0} (member : A) (number : ℕ) (P : A → Type 0) → OfNumber (member ∷ []) number P → P member
of_one member number P is =
    by_place (number - 1) is.2
  where
    by_place : (place : ℕ) → slice_get (member ∷ []) place ≡ Some is.0 → P member
    by_place zero at = subst P (sym (some_same _ _ at)) is.3
    by_place (suc place) at = absurd (cc)

-- the run of one session
module _ (course : Course) (sides : SessionEnds) where
  -- of the causes that were met none comes before the one that is told
  pub none_first : (ends : List VolumeEnds) (run : SessionRun) (opened : List OpenedLog) (rest closing : List Entry) → IsNamed course.told course.partitions sides run course.cause → AreNamed course ends opened → (other : Cause)
      → WasMet course (ends_alone sides ends) (parts_alone opened run rest closing) other → IsFalse (comes_before other course.cause)
  none_first ends run opened rest closing named are (causes.DiskFault partition batch) met =
      not_told _ _ (λ before. none_failed course.told.disk_counts met.0 (all_at (IsUntroubled course.told) ends (partition - 1) met.0 (are.steady before) met.2) met.3) _ refl
  none_first ends run opened rest closing named are (causes.LogFull partition length_told frame most) met =
      let of = met.2 in
      let number : partition ≡ suc (partition - 1) = number_behind partition of.1 in
      let mine : batch_of (suc (partition - 1)) course.unlogged ≡ Some met.0 = subst (λ (p : ℕ). batch_of p course.unlogged ≡ Some met.0) number met.1 in
      let over_it : course.setting.limit < length_in course (suc (partition - 1)) of.0 + frame_size met.0 =
      subst (λ (p : ℕ). course.setting.limit < length_in course p of.0 + frame_size met.0) number of.3 in
      not_told 2 (rank_of course.cause) (λ (before : 2 < rank_of course.cause). let room = are.room before (partition - 1) of.0 of.2 met.0 mine in absurd (omega (arith, over_it, room))) _ refl
  none_first ends run opened rest closing named are (causes.SourceFault session) met =
      not_told _ _ (λ before. no_failure course.told.source_counts sides.source.faults sides.source_after.faults (of_one sides session _ met) (named.no_source_fault before)) _ refl
  none_first ends run opened rest closing named are (causes.SinkFault session) met =
      not_told _ _ (λ before. no_failure course.told.sink_counts sides.sink.faults sides.sink_after.faults (of_one sides session _ met) (named.no_sink_fault before)) _ refl
  none_first ends run opened rest closing named are (causes.InputFull session) met =
      let full = of_one run session _ met in
      not_told _ _ (λ before. let ended = named.not_full before in let more = full.1 in absurd (cc (ended, more))) _ refl
  none_first ends run opened rest closing named are causes.Done met = last course.cause
    where
      last : (cause : Cause) → IsFalse (comes_before causes.Done cause)
      last causes.Done = refl
      last causes.Usage = refl
      last (causes.SourceFault session) = refl
      last (causes.DiskFault partition batch) = refl
      last (causes.BadLog partition frame) = refl
      last (causes.SinkFault session) = refl
      last causes.Memory = refl
      last (causes.LogFull partition length_told frame limit) = refl
      last (causes.InputFull session) = refl
  none_first ends run opened rest closing named are causes.Memory met = absurd met
  none_first ends run opened rest closing named are causes.Usage met = absurd met
  none_first ends run opened rest closing named are (causes.BadLog partition frame) met = absurd met

  -- what it left undone, by what it goes by
  module _ (basis : Basis) (many : length basis.logs ≡ course.partitions) (opened : List OpenedLog) (run : SessionRun) where
    alone : run.answers ≡ answers_of (run ∷ [])
    alone = append_none run.answers

    pub undone_of : (rest : List Entry) (end : End) → IsLeftUndone course.setting.hours basis run rest course.unlogged end → IsUndone course basis (parts_alone opened run rest [])
    undone_of rest end (inl none) = inl none
    undone_of rest end (inr (first, cuts)) =
        let cut = first.cut in
        inr (inl (
          refl,
          (
            1,
            (
              run,
              omega arith,
              refl,
              record {
                line = first.line;
                lines = first.lines;
                first = first.first;
                request = cut.request;
                asks = subst (λ (n : ℕ). request_of (given_of course.setting.hours n (length run.served + 1)) first.line ≡ Ok cut.request) many cut.asks;
                reading = cut.reading;
                read = subst (λ (answers : List Answer). IsReadingOf course.setting.hours (found_in answers) (moved_by (Ok cut.request)) cut.reading) alone cut.read;
                made = subst (λ (answers : List Answer). AreMadeFor basis cut.request cut.reading (entries_made answers) rest) alone cut.made;
                next = λ entry is. subst (λ (answers : List Answer). IsNextEntry basis cut.request cut.reading (entries_made answers) rest entry) alone (cut.next entry is);
              },
            ),
          ),
        ))

    -- and why
    pub why_of : (volumes : List VolumeEnds) (rest : List Entry) (end : End) → IsLeftUndone course.setting.hours basis run rest course.unlogged end → (CutsOff end → IsWhyUndone course.cause volumes course.unlogged)
        → IsNoneLeft course (parts_alone opened run rest []) ⊎ IsWhyUndone course.cause volumes course.unlogged
    why_of volumes rest end (inl none) why = inl none
    why_of volumes rest end (inr (first, cuts)) why = inr (why cuts)

    -- units of work behind the last line that were cut off
    pub undone_work : (closing : List Entry) (reading : ℕ) → IsReadingOf course.setting.hours (found_in run.answers) 0 reading → AreUnits basis reading (entries_made run.answers) closing
        → ((entry : Entry) → course.unlogged ≡ Some entry → IsNextUnit basis reading (entries_made run.answers) closing entry) → IsUndone course basis (parts_alone opened run [] closing)
    undone_work closing reading read made next =
        inr (inr (
          refl,
          record {
            reading = reading;
            read = subst (λ (answers : List Answer). IsReadingOf course.setting.hours (found_in answers) 0 reading) alone read;
            made = subst (λ (answers : List Answer). AreUnits basis reading (entries_made answers) closing) alone made;
            next = λ entry is. subst (λ (answers : List Answer). IsNextUnit basis reading (entries_made answers) closing entry) alone (next entry is);
          },
        ))

    -- and units of work that were done
    pub closing_of : (closing : List Entry) (reading : ℕ) → IsReadingOf course.setting.hours (found_in run.answers) 0 reading → AreUnits basis reading (entries_made run.answers) closing
        → AreClosing course basis (parts_alone opened run [] closing)
    closing_of closing reading read made =
        inr (reading, subst (λ (answers : List Answer). IsReadingOf course.setting.hours (found_in answers) 0 reading) alone read, subst (λ (answers : List Answer). AreUnits basis reading (entries_made answers) closing) alone made)
