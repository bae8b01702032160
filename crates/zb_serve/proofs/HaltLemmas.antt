-- How a run is told that ends by itself, or by a stop of one of its partitions.
use Rattle.std.proofs.Common.{◌≡◌, ℕ, zero, suc, ◌+◌, ◌<◌, ◌≤◌, List, [], ◌∷◌, ◌++◌, length, map, take, slice_get, IsTrue, IsFalse, Option, Some, None, Result, Ok, Err, ◌-◌, refl, sym, ap, ◌∙◌, subst, inl, inr, arith}
use Rattle.std.specs.Option.{option_or}
use Rattle.std.specs.List.{AllByRecursion}
use Rattle.std.proofs.lemmas.Bool.{false≢true}
use Rattle.std.proofs.lemmas.List.{length-map}
use Rattle.std.proofs.lemmas.List.FromFn.{length-map-range_with_len}
use Rattle.std.proofs.lemmas.Grind.{flat_map-append}
use Rattle.zb_disk.specs.declared.disk.Disk.{Ghosts}
use Rattle.zb_model.specs.declared.record.Batch.{Batch}
use Rattle.zb_model.specs.declared.stop.Stop.{Stop}
use Rattle.zb_model.specs.declared.stop.Stop.TheVariants as stops
use Rattle.zb_rules.specs.Step.{EachOn}
use Rattle.zb_rules.proofs.StepLaws.{each_on_none, each_on_all, each_on_joined}
use Rattle.zb_store.specs.declared.volume.Volume.{Volume}
use Rattle.zb_partition.specs.Log.{frame_size}
use Rattle.zb_partition.specs.Partition.{disk_of, in_writing}
use Rattle.zb_partition.specs.declared.partition.Partition.{Partition}
use Rattle.zb_partition.specs.Submitting.{IsStopCause}
use Rattle.zb_world.specs.Entries.{IsPartitionOf, places_of, stamps_of}
use Rattle.zb_world.specs.declared.entry.Entry.{Entry}
use Rattle.zb_wire.specs.declared.request.Request.{Request}
use Rattle.zb_wire.specs.declared.request.LineFault.{LineFault}
use Rattle.zb_desk.specs.Numbered.{EachFrom}
use Rattle.zb_desk.specs.Serial.{Basis, next_unit, AreMadeFor, IsNextUnit, AreUnits}
use Rattle.zb_desk.proofs.SentLaws.{FollowsOn, asked_follows_on, unit_follows_on}
use Rattle.zb_session.specs.Hours.{Hours}
use Rattle.zb_session.specs.Answer.{Answer, found_in, entries_made, IsServed, IsServedAs, AreSerial}
use Rattle.zb_session.specs.Session.{Streams, SessionEnds, SessionRun, CutsOff, IsLeftUndone, LeavesDesk, IsEndOf, HasServed}
use Rattle.zb_session.specs.declared.session.End.{End}
use Rattle.zb_session.specs.declared.session.End.TheVariants as endings
use Rattle.zb_partition.specs.Ledger.{Opening, Account}
use Rattle.zb_engine.specs.Solo.{Start, account_in, many_in, logs_in, basis_in, place_at_start, HasPart, Halted, halted_at, IsLeftPart, IsBatchOf, partitions_in, stamps_in, kept_in, HasMade, HasEnded}
use Rattle.zb_engine.specs.declared.solo.Solo.{Solo}
use Rattle.zb_serve.specs.Setting.{RunSetting}
use Rattle.zb_serve.specs.Ends.{Told, VolumeEnds, RunEnds, volumes_ends, Crashes, crashes_of}
use Rattle.zb_serve.specs.Log.{Course, course_of, OpenedLog, length_in, batch_of, IsVolume, IsLog, IsLogIn}
use Rattle.zb_serve.specs.Served.{IsWhyUndone, IsUntroubled, Serves, answer_of_run, HasRun, IsRun}
use Rattle.zb_serve.specs.Slots.{AreSlotsLeft, AreAllSlotsLeft}
use Rattle.zb_serve.specs.Cause.{rank_of, comes_before, cuts_off}
use Rattle.zb_serve.specs.Opening.{IsFoundOver, volumes_in, IsBegunOver}
use Rattle.zb_serve.specs.WorkOff.{facts_in, Behind, behind_of, AreWorkedOff, AreWorkCut, IsWorkedOff}
use Rattle.zb_serve.specs.Running.{ends_alone, files_of, first_writing, stop_cause_of, cause_of}
use Rattle.zb_serve.specs.declared.run.Cause.{Cause}
use Rattle.zb_serve.specs.declared.run.Cause.TheVariants as causes
use Rattle.zb_serve.proofs.ListLemmas.{append_none, some_same, member_at, place_within, mapped_at, unmapped_at, all_at, has_number, or_none, each_length, first_at, first_by, number_behind}
use Rattle.zb_serve.proofs.LogLemmas.{told_by, AreTold, crashes_told, ends_at, ends_many, none_left, opened_by, ends_by, account_volume, account_log, account_steady, stopped_volume, stopped_log, stopped_steady, stopped_room}
use Rattle.zb_serve.proofs.GroundLemmas.{tails_of}
use Rattle.zb_serve.proofs.EndLemmas.{IsNamed, AreNamed, undone_of, why_of, undone_work, closing_of}
use Rattle.zb_serve.proofs.OverLemmas.{HasCome, over}

-- what a cause says of a session that ended by itself, or of which memory was wanting
module _ {D : Type 0} (streams : Streams) (disks : Ghosts D) (n : ℕ) (sides : SessionEnds) (run : SessionRun) where
  abbrev told : Told
  told = told_by streams disks

  abbrev Named : Cause → Type 0
  Named cause = IsNamed told n sides run cause

  named_memory : Named causes.Memory
  named_memory = record {
    status = tt;
    done = λ e. absurd (cc);
    source_fault = λ e. absurd (cc);
    sink_fault = λ e. absurd (cc);
    input_full = λ e. absurd (cc);
    no_source_fault = λ before. absurd (omega (arith, before));
    no_sink_fault = λ before. absurd (omega (arith, before));
    not_full = λ before. absurd (omega (arith, before));
  }

  named_by : (writing : Option Batch) (end : End) → (end ≡ endings.Stopped → ⊥) → IsEndOf streams sides run end → Named (cause_of writing None end)
  named_by writing endings.Done own is = record {
    status = tt;
    done = λ e. is.done refl;
    source_fault = λ e. absurd (cc);
    sink_fault = λ e. absurd (cc);
    input_full = λ e. absurd (cc);
    no_source_fault = λ before. is.source_steady (λ e. absurd (cc));
    no_sink_fault = λ before. is.sink_steady (λ e. absurd (cc));
    not_full = λ before. (is.done refl).0;
  }
  named_by writing endings.SourceFault own is = record {
    status = (omega arith, omega arith);
    done = λ e. absurd (cc);
    source_fault = λ e. is.source_fault refl;
    sink_fault = λ e. absurd (cc);
    input_full = λ e. absurd (cc);
    no_source_fault = λ before. absurd (omega (arith, before));
    no_sink_fault = λ before. absurd (omega (arith, before));
    not_full = λ before. absurd (omega (arith, before));
  }
  named_by writing endings.SinkFault own is = record {
    status = (omega arith, omega arith);
    done = λ e. absurd (cc);
    source_fault = λ e. absurd (cc);
    sink_fault = λ e. is.sink_fault refl;
    input_full = λ e. absurd (cc);
    no_source_fault = λ before. is.source_steady (λ e. absurd (cc));
    no_sink_fault = λ before. absurd (omega (arith, before));
    not_full = λ before. absurd (omega (arith, before));
  }
  named_by writing endings.InputFull own is = record {
    status = (omega arith, omega arith);
    done = λ e. absurd (cc);
    source_fault = λ e. absurd (cc);
    sink_fault = λ e. absurd (cc);
    input_full = λ e. is.input_full refl;
    no_source_fault = λ before. is.source_steady (λ e. absurd (cc));
    no_sink_fault = λ before. is.sink_steady (λ e. absurd (cc));
    not_full = λ before. absurd (omega (arith, before));
  }
  named_by writing endings.Memory own is = named_memory
  named_by writing endings.Stopped own is = absurd (own refl)

  -- and by a stop of a partition
  named_stop : (writing : Option Batch) (at : ℕ) → IsPartitionOf n at → (stop : Stop) → Named (stop_cause_of writing (Some (at, stop)))
  named_stop writing at of stops.Memory = named_memory
  named_stop writing at of stops.DiskFault = record {
    status = of;
    done = λ e. absurd (cc);
    source_fault = λ e. absurd (cc);
    sink_fault = λ e. absurd (cc);
    input_full = λ e. absurd (cc);
    no_source_fault = λ before. absurd (omega (arith, before));
    no_sink_fault = λ before. absurd (omega (arith, before));
    not_full = λ before. absurd (omega (arith, before));
  }
  named_stop writing at of (stops.LogFull a b c) = record {
    status = of;
    done = λ e. absurd (cc);
    source_fault = λ e. absurd (cc);
    sink_fault = λ e. absurd (cc);
    input_full = λ e. absurd (cc);
    no_source_fault = λ before. absurd (omega (arith, before));
    no_sink_fault = λ before. absurd (omega (arith, before));
    not_full = λ before. absurd (omega (arith, before));
  }

-- why a line was left undone: the batch that was made last isn't in the log, or there was no memory
undone_by : {D : Type 0} (account : Account D) (rose : Type 0) (number : ℕ) (volumes : List VolumeEnds) (unlogged : Option Entry) (refused writing : Option Batch) (stop : Stop) → IsBatchOf number unlogged refused
    → IsStopCause account rose refused writing stop → IsWhyUndone (stop_cause_of writing (Some (number, stop))) volumes unlogged
undone_by account rose number volumes unlogged refused writing stops.Memory last why = tt
undone_by account rose number volumes None refused writing stops.DiskFault last why = absurd (let e : None ≡ Some why.1.0 = sym last ∙ (why.2 ∙ why.1.1) in cc (e))
undone_by account rose number volumes (Some entry) refused writing stops.DiskFault last why = inl refl
undone_by account rose number volumes None refused writing (stops.LogFull a b c) last why = absurd (let e : None ≡ Some why.4.0 = sym last ∙ why.4.1 in cc (e))
undone_by account rose number volumes (Some entry) refused writing (stops.LogFull a b c) last why = refl

-- a cause of a session that ends so is told so
own_undone : (writing : Option Batch) (volumes : List VolumeEnds) (end : End) → (end ≡ endings.Stopped → ⊥) → CutsOff end → IsWhyUndone (cause_of writing None end) volumes None
own_undone writing volumes endings.Memory own cuts = tt
own_undone writing volumes endings.Stopped own cuts = absurd (own refl)
own_undone writing volumes endings.Done own cuts = absurd cuts
own_undone writing volumes endings.SourceFault own cuts = absurd cuts
own_undone writing volumes endings.SinkFault own cuts = absurd cuts
own_undone writing volumes endings.InputFull own cuts = absurd cuts

-- it names no partition
own_no_disk_fault : (writing : Option Batch) (end : End) → (end ≡ endings.Stopped → ⊥) → (number : ℕ) (batch : Option Batch) → cause_of writing None end ≡ causes.DiskFault number batch → ⊥
own_no_disk_fault writing endings.Memory own number batch e = cc (e)
own_no_disk_fault writing endings.Stopped own number batch e = own refl
own_no_disk_fault writing endings.Done own number batch e = cc (e)
own_no_disk_fault writing endings.SourceFault own number batch e = cc (e)
own_no_disk_fault writing endings.SinkFault own number batch e = cc (e)
own_no_disk_fault writing endings.InputFull own number batch e = cc (e)

own_not_full : (writing : Option Batch) (end : End) → (end ≡ endings.Stopped → ⊥) → (number a b c : ℕ) → cause_of writing None end ≡ causes.LogFull number a b c → ⊥
own_not_full writing endings.Memory own number a b c e = cc (e)
own_not_full writing endings.Stopped own number a b c e = own refl
own_not_full writing endings.Done own number a b c e = cc (e)
own_not_full writing endings.SourceFault own number a b c e = cc (e)
own_not_full writing endings.SinkFault own number a b c e = cc (e)
own_not_full writing endings.InputFull own number a b c e = cc (e)

-- and a stop names the one that it is of
stop_disk_number : (writing : Option Batch) (at : ℕ) (stop : Stop) (number : ℕ) (batch : Option Batch) → stop_cause_of writing (Some (at, stop)) ≡ causes.DiskFault number batch → number ≡ at
stop_disk_number writing at stops.Memory number batch e = absurd (cc (e))
stop_disk_number writing at stops.DiskFault number batch e = cc (e)
stop_disk_number writing at (stops.LogFull a b c) number batch e = absurd (cc (e))

stop_full_number : (writing : Option Batch) (at : ℕ) (stop : Stop) (number a b c : ℕ) → stop_cause_of writing (Some (at, stop)) ≡ causes.LogFull number a b c → number ≡ at
stop_full_number writing at stops.Memory number a b c e = absurd (cc (e))
stop_full_number writing at stops.DiskFault number a b c e = absurd (cc (e))
stop_full_number writing at (stops.LogFull a' b' c') number a b c e = cc (e)

-- a session that ended by itself doesn't cut the run off
uncut_cause : (writing : Option Batch) (end : End) → (CutsOff end → ⊥) → IsFalse (cuts_off (cause_of writing None end))
uncut_cause writing endings.Memory uncut = absurd (uncut tt)
uncut_cause writing endings.Stopped uncut = absurd (uncut tt)
uncut_cause writing endings.Done uncut = refl
uncut_cause writing endings.SourceFault uncut = refl
uncut_cause writing endings.SinkFault uncut = refl
uncut_cause writing endings.InputFull uncut = refl

-- and it isn't one that the engine stopped
own_end : (end : End) → (CutsOff end → ⊥) → end ≡ endings.Stopped → ⊥
own_end end uncut is = uncut (subst CutsOff (sym is) tt)

-- a stop does, and isn't told behind a sink's fault
stop_cuts : (writing : Option Batch) (at : ℕ) (stop : Stop) → IsTrue (cuts_off (stop_cause_of writing (Some (at, stop))))
stop_cuts writing at stops.Memory = refl
stop_cuts writing at stops.DiskFault = refl
stop_cuts writing at (stops.LogFull n frame most) = refl

stop_first : (writing : Option Batch) (at : ℕ) (stop : Stop) → IsFalse (comes_before (causes.SinkFault 1) (stop_cause_of writing (Some (at, stop))))
stop_first writing at stops.Memory = refl
stop_first writing at stops.DiskFault = refl
stop_first writing at (stops.LogFull n frame most) = refl

-- where a line was not cut off nothing of one was made
none_undone : (hours : Hours) (basis : Basis) (run : SessionRun) (rest : List Entry) (unlogged : Option Entry) (end : End) → IsLeftUndone hours basis run rest unlogged end → (CutsOff end → ⊥) → (rest ≡ []) × (unlogged ≡ None)
none_undone hours basis run rest unlogged end (inl none) uncut = none
none_undone hours basis run rest unlogged end (inr (first, cuts)) uncut = absurd (uncut cuts)

-- of partitions of which at most one was writing, that one is the first
none_writing : {D : Type 0} {disks : Ghosts D} (ps : List (Partition D disks)) → ((j : ℕ) (q : Partition D disks) → slice_get ps j ≡ Some q → in_writing q ≡ None) → first_writing ps ≡ None
none_writing [] none = refl
none_writing (p ∷ ps) none = ap (λ (o : Option Batch). option_or o (first_writing ps)) (none 0 p refl) ∙ none_writing ps (λ j q at. none (suc j) q at)

writing_of : {D : Type 0} {disks : Ghosts D} (ps : List (Partition D disks)) (k : ℕ) (p : Partition D disks) → slice_get ps k ≡ Some p
    → ((j : ℕ) (q : Partition D disks) → slice_get ps j ≡ Some q → (j ≡ k → ⊥) → in_writing q ≡ None) → first_writing ps ≡ in_writing p
writing_of [] k p at none = absurd (cc (at))
writing_of (q ∷ ps) zero p at none =
    ap (λ (o : Option Batch). option_or (in_writing q) o) (none_writing ps (λ j r there. none (suc j) r there (λ e. absurd (cc (e)))))
    ∙ (or_none (in_writing q) ∙ ap in_writing (some_same q p at))
writing_of (q ∷ ps) (suc k) p at none =
    ap (λ (o : Option Batch). option_or o (first_writing ps)) (none 0 q refl (λ e. absurd (cc (e))))
    ∙ writing_of ps k p at (λ j r there other. none (suc j) r there (λ e. other (omega (arith, e))))

-- the entries of answers of a serial run come about one behind the other
answer_comes : (hours : Hours) (basis : Basis) (before : List Answer) (answer : Answer) (asked : Result Request LineFault) → IsServedAs hours basis before answer asked → EachOn (FollowsOn basis.logs) (entries_made before) answer.entries
answer_comes hours basis before answer (Ok request) served = λ k entry at. asked_follows_on basis request answer.reading (entries_made before) (take k answer.entries) entry (served.1.made k entry at)
answer_comes hours basis before answer (Err fault) none = λ k entry at. absurd (let nothing : slice_get [] k ≡ Some entry = subst (λ (es : List Entry). slice_get es k ≡ Some entry) none at in cc (nothing))

answers_come : (hours : Hours) (basis : Basis) (answers : List Answer) → AreSerial hours basis answers → EachOn (FollowsOn basis.logs) [] (entries_made answers)
answers_come hours basis answers serial =
    each_on_all (IsServed hours basis) [] (λ (front : List Answer). EachOn (FollowsOn basis.logs) [] (entries_made front))
    (λ (front : List Answer) (answer : Answer) before come served.
    let more : entries_made (front ++ answer ∷ []) ≡ entries_made front ++ answer.entries = flat_map-append (λ (a : Answer). a.entries) front (answer ∷ []) ∙ ap (λ (es : List Entry). entries_made front ++ es) (sym (append_none answer.entries)) in
    subst (EachOn (FollowsOn basis.logs) []) (sym more)
    (each_on_joined (FollowsOn basis.logs) [] (entries_made front) answer.entries come (answer_comes hours basis front answer answer.asked served)))
    (each_on_none (FollowsOn basis.logs) []) answers serial

-- and so do those of a line that was cut off, and units of work
made_come : (basis : Basis) (request : Request) (reading : ℕ) (earlier entries : List Entry) → AreMadeFor basis request reading earlier entries → EachOn (FollowsOn basis.logs) earlier entries
made_come basis request reading earlier entries made = λ k entry at. asked_follows_on basis request reading earlier (take k entries) entry (made k entry at)

units_come : (basis : Basis) (reading : ℕ) (earlier units : List Entry) → AreUnits basis reading earlier units → EachOn (FollowsOn basis.logs) earlier units
units_come basis reading earlier units made = λ k entry at. unit_follows_on basis reading earlier (take k units) entry (made k entry at)

-- an engine as it ended, which began over these volumes with this limit
module _ {D : Type 0} {disks : Ghosts D} (streams : Streams) (hours : Hours) (images_told : IsTrue disks.tells_images → IsTrue disks.tells) (start : Start D) (limit : ℕ) (limits : AllByRecursion (λ opening. opening.limit ≡ limit) start.openings) (found : EachFrom (IsFoundOver disks) 1 (volumes_in start) start.openings)
    (sides : SessionEnds) (solo : Solo D disks) where
  abbrev n : ℕ
  n = many_in start

  abbrev ps : List (Partition D disks)
  ps = partitions_in solo

  abbrev news : List (Volume D)
  news = map files_of ps

  abbrev ends : List VolumeEnds
  ends = volumes_ends disks (volumes_in start) news

  abbrev crashes : Crashes
  crashes = crashes_of disks (volumes_in start) news

  abbrev setting : RunSetting
  setting = record { hours = hours; limit = limit; units = start.units }

  abbrev opened : List OpenedLog
  opened = map opened_by start.openings

  abbrev basis : Basis
  basis = basis_in start

  abbrev course : List Entry → Option Entry → Cause → Course
  course entries unlogged cause = course_of (told_by streams disks) setting n entries unlogged cause

  abbrev Runs : Cause → ℕ → Type 0
  Runs cause units = HasRun (told_by streams disks) setting (ends_alone sides ends) crashes (answer_of_run cause (stamps_in solo) units)

  -- each log is what was found of it
  tails_from : (number : ℕ) (os : List (Opening D)) → EachFrom (IsFoundOver disks) number (map (λ opening. opening.volume) os) os → tails_of (map opened_by os) ≡ map (λ opening. opening.batches) os
  tails_from number [] each = refl
  tails_from number (o ∷ os) each = ap (λ (log : List Batch). log ∷ tails_of (map opened_by os)) (sym each.0.log_is) ∙ ap (λ logs. o.batches ∷ logs) (tails_from (suc number) os each.1)

  tails : tails_of opened ≡ logs_in start
  tails = tails_from 1 start.openings found

  many_logs : length (logs_in start) ≡ n
  many_logs = length-map start.openings (λ (opening : Opening D). opening.batches)

  -- what holds of each opening and its partition holds of the volumes
  volumes_from : (c : Course) (number : ℕ) (os : List (Opening D)) (qs : List (Partition D disks)) → EachFrom (λ k o p. IsVolume c crashes k (ends_by o p) (opened_by o)) number os qs
      → EachFrom (IsVolume c crashes) number (volumes_ends disks (map (λ opening. opening.volume) os) (map files_of qs)) (map opened_by os)
  volumes_from c number [] [] each = tt
  volumes_from c number (o ∷ os) (q ∷ qs) each = (each.0, volumes_from c (suc number) os qs each.1)
  volumes_from c number [] (q ∷ qs) each = absurd each
  volumes_from c number (o ∷ os) [] each = absurd each

  steady_from : (number : ℕ) (os : List (Opening D)) (qs : List (Partition D disks)) → EachFrom (λ k o p. IsUntroubled (told_by streams disks) (ends_by o p)) number os qs
      → AllByRecursion (IsUntroubled (told_by streams disks)) (volumes_ends disks (map (λ opening. opening.volume) os) (map files_of qs))
  steady_from number [] [] each = tt
  steady_from number (o ∷ os) (q ∷ qs) each = (each.0, steady_from (suc number) os qs each.1)
  steady_from number [] (q ∷ qs) each = absurd each
  steady_from number (o ∷ os) [] each = absurd each

  -- the opening and the partition at a place
  limit_at : (k : ℕ) (o : Opening D) → slice_get start.openings k ≡ Some o → o.limit ≡ limit
  limit_at k o at = all_at (λ opening. opening.limit ≡ limit) start.openings k o limits at

  found_at : (k : ℕ) (o : Opening D) → slice_get start.openings k ≡ Some o → IsFoundOver disks (suc k) o.volume o
  found_at k o at = first_at (IsFoundOver disks) (volumes_in start) start.openings k o.volume o found (mapped_at (λ opening. opening.volume) start.openings k o at) at

  told_at : (k : ℕ) (o : Opening D) (p : Partition D disks) → slice_get start.openings k ≡ Some o → slice_get ps k ≡ Some p → AreTold disks crashes (suc k) o.volume.log (disk_of p)
  told_at k o p at_o at_p = crashes_told disks (volumes_in start) news k o.volume (files_of p) (mapped_at (λ opening. opening.volume) start.openings k o at_o) (mapped_at files_of ps k p at_p)

  -- the run, by all that is known of its logs
  module _ (c_entries : List Entry) (c_unlogged : Option Entry) (c_cause : Cause) (many : length start.openings ≡ length ps) where
    abbrev c : Course
    c = course c_entries c_unlogged c_cause

    -- each log goes on from what was found of it
    logs_from : ((k : ℕ) (o : Opening D) (p : Partition D disks) → slice_get start.openings k ≡ Some o → slice_get ps k ≡ Some p → IsLog c crashes (suc k) (ends_by o p) (opened_by o) o.batches)
        → EachFrom (IsLogIn c (ends_alone sides ends) crashes) 1 opened (tails_of opened)
    logs_from is_log = first_by (IsLogIn c (ends_alone sides ends) crashes) opened (tails_of opened) (sym (length-map opened (λ one. one.found.tail))) (λ k one log at_one at_log.
        let o = unmapped_at opened_by start.openings k one at_one in
        let p = member_at ps k (let within_it = place_within start.openings k o.0 o.1 in omega (arith, within_it, many)) in
        let same : one.found.tail ≡ log = some_same one.found.tail log (sym (mapped_at (λ one. one.found.tail) opened k one at_one) ∙ at_log) in
        has_number ends k (ends_by o.0 p.0) (λ volume. IsLog c crashes (suc k) volume one log) (ends_at disks (volumes_in start) news k o.0.volume (files_of p.0) (mapped_at (λ opening. opening.volume) start.openings k o.0 o.1) (mapped_at files_of ps k p.0 p.1))
        (subst (λ (l : List Batch). IsLog c crashes (suc k) (ends_by o.0 p.0) one l) same
        (subst (λ (l : OpenedLog). IsLog c crashes (suc k) (ends_by o.0 p.0) l l.found.tail) o.2
        (subst (λ (l : List Batch). IsLog c crashes (suc k) (ends_by o.0 p.0) (opened_by o.0) l) (found_at k o.0 o.1).log_is (is_log k o.0 p.0 o.1 p.1)))))

    run_is : (end : End) (run : SessionRun) (rest closing : List Entry) (units : ℕ)
        → (end ≡ endings.SinkFault → IsFalse (comes_before (causes.SinkFault 1) c_cause)) → (end ≡ endings.Memory → IsTrue (cuts_off c_cause))
        → (IsTrue (cuts_off c_cause) → units ≡ 0)
        → c_entries ≡ entries_made run.answers ++ (rest ++ closing)
        → AllByRecursion (λ entry. IsPartitionOf n entry.partition) c_entries
        → ((k : ℕ) (o : Opening D) (p : Partition D disks) → slice_get start.openings k ≡ Some o → slice_get ps k ≡ Some p → IsVolume c crashes (suc k) (ends_by o p) (opened_by o))
        → ((k : ℕ) (o : Opening D) (p : Partition D disks) → slice_get start.openings k ≡ Some o → slice_get ps k ≡ Some p → IsLog c crashes (suc k) (ends_by o p) (opened_by o) o.batches)
        → IsNamed (told_by streams disks) n sides run c_cause
        → (1 < rank_of c_cause → (k : ℕ) (o : Opening D) (p : Partition D disks) → slice_get start.openings k ≡ Some o → slice_get ps k ≡ Some p → IsUntroubled (told_by streams disks) (ends_by o p))
        → (2 < rank_of c_cause → (k : ℕ) (o : Opening D) (p : Partition D disks) → slice_get start.openings k ≡ Some o → slice_get ps k ≡ Some p → (batch : Batch) → batch_of (suc k) c_unlogged ≡ Some batch
        → length_in c (suc k) (opened_by o) + frame_size batch ≤ limit)
        → HasCome streams c sides ends opened run end rest closing units (stamps_in solo) (logs_in start)
        → Runs c_cause units
    run_is end run rest closing units failed forgot unworked split within is_volume is_log named steady room come =
        let each : EachFrom (λ k o p. IsVolume c crashes k (ends_by o p) (opened_by o)) 1 start.openings ps = first_by (λ k o p. IsVolume c crashes k (ends_by o p) (opened_by o)) start.openings ps many is_volume in
        let are_named : AreNamed c ends opened = record {
          steady = λ before. steady_from 1 start.openings ps (first_by (λ k o p. IsUntroubled (told_by streams disks) (ends_by o p)) start.openings ps many (steady before));
          room = λ before k one at batch last.
              let o = unmapped_at opened_by start.openings k one at in
              let p = member_at ps k (let within_it = place_within start.openings k o.0 o.1 in omega (arith, within_it, many)) in
              subst (λ (l : OpenedLog). length_in c (suc k) l + frame_size batch ≤ limit) o.2 (room before k o.0 p.0 o.1 p.1 batch last);
        } in
        let as_many : length ends ≡ n = ends_many disks (volumes_in start) news (length-map ps files_of ∙ (sym many ∙ sym (length-map start.openings (λ opening. opening.volume)))) ∙ (length-map ps files_of ∙ sym many) in
        let serves : Serves c (ends_alone sides ends) crashes (stamps_in solo) units =
        over streams c crashes sides ends opened run end rest closing units (stamps_in solo) (length-map start.openings opened_by) within (volumes_from c 1 start.openings ps each) (logs_from is_log)
        (subst (HasCome streams c sides ends opened run end rest closing units (stamps_in solo)) (sym tails) come)
        refl refl refl failed forgot unworked split named are_named in
        (c_entries, c_unlogged, subst (λ (m : ℕ). Serves (course_of (told_by streams disks) setting m c_entries c_unlogged c_cause) (ends_alone sides ends) crashes (stamps_in solo) units) (sym as_many) serves)

  -- nothing stopped it
  module _ (entries : List Entry) (h : HasMade start entries solo) where
    made_many : length start.openings ≡ length ps
    made_many = each_length (HasPart n entries) 1 start.openings ps h.parts

    part_at : (k : ℕ) (o : Opening D) (p : Partition D disks) → slice_get start.openings k ≡ Some o → slice_get ps k ≡ Some p → HasPart n entries (suc k) o p
    part_at k o p at_o at_p = first_at (HasPart n entries) start.openings ps k o p h.parts at_o at_p

    made_over : (writing : Option Batch) (end : End) (run : SessionRun) (rest closing : List Entry) (units : ℕ) → (end ≡ endings.Stopped → ⊥) → IsEndOf streams sides run end
        → entries ≡ entries_made run.answers ++ (rest ++ closing) → (IsTrue (cuts_off (cause_of writing None end)) → units ≡ 0)
        → HasCome streams (course entries None (cause_of writing None end)) sides ends opened run end rest closing units (stamps_in solo) (logs_in start)
        → Runs (cause_of writing None end) units
    made_over writing end run rest closing units own is_end split unworked come =
        let cause = cause_of writing None end in
        run_is entries None cause made_many end run rest closing units
        (λ e. subst (λ (ended : End). IsFalse (comes_before (causes.SinkFault 1) (cause_of writing None ended))) (sym e) refl) (λ e. subst (λ (ended : End). IsTrue (cuts_off (cause_of writing None ended))) (sym e) refl) unworked split h.within
        (λ k o p at_o at_p.
        let part = part_at k o p at_o at_p in
        account_volume streams images_told setting n entries None cause crashes (suc k) o p part.0.0 part.0.1 (limit_at k o at_o) (found_at k o at_o) (told_at k o p at_o at_p) part.1 refl
        (λ batch e. own_no_disk_fault writing end own (suc k) batch e) (λ a b d e. own_not_full writing end own (suc k) a b d e))
        (λ k o p at_o at_p.
        let part = part_at k o p at_o at_p in
        account_log streams images_told setting n entries None cause crashes (suc k) o p part.0.0 part.0.1 (limit_at k o at_o) (found_at k o at_o) (told_at k o p at_o at_p) part.1 refl)
        (named_by streams disks n sides run writing end own is_end)
        (λ before k o p at_o at_p.
        let part = part_at k o p at_o at_p in
        account_steady streams images_told setting n entries None cause crashes (suc k) o p part.0.0 part.0.1 (limit_at k o at_o) (found_at k o at_o) (told_at k o p at_o at_p) part.1 refl)
        (λ before k o p at_o at_p batch e. absurd (cc (e)))
        come

  -- a partition stopped it
  module _ (entries : List Entry) (unlogged : Option Entry) (stop : Stop) (h : HasEnded start entries unlogged stop solo) where
    ended_many : length start.openings ≡ length ps
    ended_many = each_length (IsLeftPart n entries (halted_at h.at stop unlogged)) 1 start.openings ps h.parts

    left_at : (k : ℕ) (o : Opening D) (p : Partition D disks) → slice_get start.openings k ≡ Some o → slice_get ps k ≡ Some p → IsLeftPart n entries (halted_at h.at stop unlogged) (suc k) o p
    left_at k o p at_o at_p = first_at (IsLeftPart n entries (halted_at h.at stop unlogged)) start.openings ps k o p h.parts at_o at_p

    -- no other partition was writing
    resting : (number : ℕ) (o : Opening D) (p : Partition D disks) → IsLeftPart n entries (halted_at h.at stop unlogged) number o p → (number ≡ h.at → ⊥) → in_writing p ≡ None
    resting number o p (of, inl live) other = live.1.is_open.has.resting
    resting number o p (of, inr dead) other = absurd (other dead.0)

    writing_at : (k : ℕ) (p : Partition D disks) → suc k ≡ h.at → slice_get ps k ≡ Some p → first_writing ps ≡ in_writing p
    writing_at k p here at = writing_of ps k p at (λ j q there other.
        let o = member_at start.openings j (let within_it = place_within ps j q there in omega (arith, within_it, ended_many)) in
        resting (suc j) o.0 q (left_at j o.0 q o.1 there) (λ e. other (omega (arith, e, here))))

    abbrev ended_cause : Cause
    ended_cause = stop_cause_of (first_writing ps) (Some (h.at, stop))

    cause_at : (k : ℕ) (p : Partition D disks) → suc k ≡ h.at → slice_get ps k ≡ Some p → ended_cause ≡ stop_cause_of (in_writing p) (Some (suc k, stop))
    cause_at k p here at = ap (λ (w : Option Batch). stop_cause_of w (Some (h.at, stop))) (writing_at k p here at) ∙ ap (λ (m : ℕ). stop_cause_of (in_writing p) (Some (m, stop))) (sym here)

    none_of : (number : ℕ) → (number ≡ h.at → ⊥) → batch_of number unlogged ≡ None
    none_of number other = none_left number unlogged (λ entry is its. other (sym its ∙ (h.last entry is).0))

    volume_by : (k : ℕ) (o : Opening D) (p : Partition D disks) → slice_get start.openings k ≡ Some o → slice_get ps k ≡ Some p → IsLeftPart n entries (halted_at h.at stop unlogged) (suc k) o p
        → IsVolume (course entries unlogged ended_cause) crashes (suc k) (ends_by o p) (opened_by o)
    volume_by k o p at_o at_p (of, inl live) =
        account_volume streams images_told setting n entries unlogged ended_cause crashes (suc k) o p of.0 of.1 (limit_at k o at_o) (found_at k o at_o) (told_at k o p at_o at_p) live.1 (none_of (suc k) live.0)
        (λ batch e. live.0 (stop_disk_number (first_writing ps) h.at stop (suc k) batch e)) (λ a b d e. live.0 (stop_full_number (first_writing ps) h.at stop (suc k) a b d e))
    volume_by k o p at_o at_p (of, inr dead) =
        let d = dead.1 in
        stopped_volume streams images_told setting n entries unlogged ended_cause crashes (suc k) o p of.0 of.1 (limit_at k o at_o) (found_at k o at_o) (told_at k o p at_o at_p) d.0 stop d.2 d.1 (cause_at k p dead.0 at_p)

    log_by : (k : ℕ) (o : Opening D) (p : Partition D disks) → slice_get start.openings k ≡ Some o → slice_get ps k ≡ Some p → IsLeftPart n entries (halted_at h.at stop unlogged) (suc k) o p
        → IsLog (course entries unlogged ended_cause) crashes (suc k) (ends_by o p) (opened_by o) o.batches
    log_by k o p at_o at_p (of, inl live) =
        account_log streams images_told setting n entries unlogged ended_cause crashes (suc k) o p of.0 of.1 (limit_at k o at_o) (found_at k o at_o) (told_at k o p at_o at_p) live.1 (none_of (suc k) live.0)
    log_by k o p at_o at_p (of, inr dead) =
        let d = dead.1 in
        stopped_log streams images_told setting n entries unlogged ended_cause crashes (suc k) o p of.0 of.1 (limit_at k o at_o) (found_at k o at_o) (told_at k o p at_o at_p) d.0 stop d.2 d.1 (cause_at k p dead.0 at_p)

    steady_by : 1 < rank_of ended_cause → (k : ℕ) (o : Opening D) (p : Partition D disks) → slice_get start.openings k ≡ Some o → slice_get ps k ≡ Some p → IsLeftPart n entries (halted_at h.at stop unlogged) (suc k) o p
        → IsUntroubled (told_by streams disks) (ends_by o p)
    steady_by before k o p at_o at_p (of, inl live) =
        account_steady streams images_told setting n entries unlogged ended_cause crashes (suc k) o p of.0 of.1 (limit_at k o at_o) (found_at k o at_o) (told_at k o p at_o at_p) live.1 (none_of (suc k) live.0)
    steady_by before k o p at_o at_p (of, inr dead) =
        let d = dead.1 in
        stopped_steady streams images_told setting n entries unlogged ended_cause crashes (suc k) o p of.0 of.1 (limit_at k o at_o) (found_at k o at_o) (told_at k o p at_o at_p) d.0 stop d.2 d.1 (cause_at k p dead.0 at_p) before

    room_by : 2 < rank_of ended_cause → (k : ℕ) (o : Opening D) (p : Partition D disks) → slice_get start.openings k ≡ Some o → slice_get ps k ≡ Some p → IsLeftPart n entries (halted_at h.at stop unlogged) (suc k) o p
        → (batch : Batch) → batch_of (suc k) unlogged ≡ Some batch → length_in (course entries unlogged ended_cause) (suc k) (opened_by o) + frame_size batch ≤ limit
    room_by before k o p at_o at_p (of, inl live) batch e = absurd (let some : None ≡ Some batch = sym (none_of (suc k) live.0) ∙ e in cc (some))
    room_by before k o p at_o at_p (of, inr dead) batch e =
        let d = dead.1 in
        stopped_room streams images_told setting n entries unlogged ended_cause crashes (suc k) o p of.0 of.1 (limit_at k o at_o) (found_at k o at_o) (told_at k o p at_o at_p) d.0 stop d.2 d.1 (cause_at k p dead.0 at_p) before batch e

    -- why something was left undone
    why_at : (k : ℕ) (o : Opening D) (p : Partition D disks) → suc k ≡ h.at → slice_get ps k ≡ Some p → IsLeftPart n entries (halted_at h.at stop unlogged) (suc k) o p → IsWhyUndone ended_cause ends unlogged
    why_at k o p here at_p (of, inl live) = absurd (live.0 here)
    why_at k o p here at_p (of, inr dead) =
        let d = dead.1 in
        subst (λ (cause : Cause). IsWhyUndone cause ends unlogged) (sym (cause_at k p here at_p))
        (undone_by {D = D} (account_in (suc k) o entries) _ (suc k) ends unlogged d.0 (in_writing p) stop d.1 d.2.cause)

    why_ended : IsWhyUndone ended_cause ends unlogged
    why_ended =
        let here : suc (h.at - 1) ≡ h.at = sym (number_behind h.at h.of.0) in
        let o = member_at start.openings (h.at - 1) (omega (arith, h.of.0, h.of.1)) in
        let p = member_at ps (h.at - 1) (omega (arith, h.of.0, h.of.1, ended_many)) in
        why_at (h.at - 1) o.0 p.0 here p.1 (left_at (h.at - 1) o.0 p.0 o.1 p.1)

    ended_over : (end : End) (run : SessionRun) (rest closing : List Entry) → entries ≡ entries_made run.answers ++ (rest ++ closing)
        → HasCome streams (course entries unlogged ended_cause) sides ends opened run end rest closing 0 (stamps_in solo) (logs_in start)
        → Runs ended_cause 0
    ended_over end run rest closing split come =
        run_is entries unlogged ended_cause ended_many end run rest closing 0
        (λ e. stop_first (first_writing ps) h.at stop) (λ e. stop_cuts (first_writing ps) h.at stop) (λ cut. refl) split h.within
        (λ k o p at_o at_p. volume_by k o p at_o at_p (left_at k o p at_o at_p))
        (λ k o p at_o at_p. log_by k o p at_o at_p (left_at k o p at_o at_p))
        (named_stop streams disks n sides run (first_writing ps) h.at h.of stop)
        (λ before k o p at_o at_p. steady_by before k o p at_o at_p (left_at k o p at_o at_p))
        (λ before k o p at_o at_p. room_by before k o p at_o at_p (left_at k o p at_o at_p))
        come

  -- what came of the lines, and of the units of work behind the last one
  module _ (run : SessionRun) (end : End) (served : HasServed streams hours basis sides run end) where
    answered : EachOn (FollowsOn (logs_in start)) [] (entries_made run.answers)
    answered = answers_come hours basis run.answers served.serial

    -- the entries of a line that was cut off, and the one that isn't in its log
    line_come : (rest : List Entry) (unlogged : Option Entry) → IsLeftUndone hours basis run rest unlogged end
        → EachOn (FollowsOn (logs_in start)) [] (entries_made run.answers ++ rest) × ((entry : Entry) → unlogged ≡ Some entry → FollowsOn (logs_in start) (entries_made run.answers ++ rest) entry)
    line_come rest unlogged (inl none) = (
      subst (λ (es : List Entry). EachOn (FollowsOn (logs_in start)) [] (entries_made run.answers ++ es)) (sym none.0) (subst (EachOn (FollowsOn (logs_in start)) []) (append_none (entries_made run.answers)) answered),
      λ entry is. absurd (let e : None ≡ Some entry = sym none.1 ∙ is in cc (e)),
    )
    line_come rest unlogged (inr (first, cuts)) =
        let cut = first.cut in (
          each_on_joined (FollowsOn (logs_in start)) [] (entries_made run.answers) rest answered (made_come basis cut.request cut.reading (entries_made run.answers) rest cut.made),
          λ entry is. asked_follows_on basis cut.request cut.reading (entries_made run.answers) rest entry (cut.next entry is),
        )

    -- a line was cut off
    line_cut : (rest : List Entry) (unlogged : Option Entry) → CutsOff end → IsLeftUndone hours basis run rest unlogged end
        → LeavesDesk (facts_in start solo) (entries_made run.answers ++ rest) unlogged end → Runs (cause_of (first_writing ps) (kept_in solo) end) 0
    line_cut rest unlogged cuts undone left = by_end end refl cuts left
      where
        entries : List Entry
        entries = entries_made run.answers ++ rest

        split : entries ≡ entries_made run.answers ++ (rest ++ [])
        split = ap (λ (es : List Entry). entries_made run.answers ++ es) (append_none rest)

        come : EachOn (FollowsOn (logs_in start)) [] entries × ((entry : Entry) → unlogged ≡ Some entry → FollowsOn (logs_in start) entries entry)
        come = line_come rest unlogged undone

        undone_by_end : (ended : End) → end ≡ ended → IsLeftUndone hours basis run rest unlogged ended
        undone_by_end ended is = subst (λ (e : End). IsLeftUndone hours basis run rest unlogged e) is undone

        by_end : (ended : End) → end ≡ ended → CutsOff ended → LeavesDesk (facts_in start solo) entries unlogged ended → Runs (cause_of (first_writing ps) (kept_in solo) ended) 0
        by_end endings.Stopped is cut (stop, h) =
            let cause = ended_cause entries unlogged stop h in
            subst (λ (k : Option (ℕ × Stop)). Runs (stop_cause_of (first_writing ps) k) 0) (sym h.kept)
            (ended_over entries unlogged stop h end run rest [] split
            (record {
              served = served;
              undone = undone_of (course entries unlogged cause) sides basis many_logs opened run rest end undone;
              why = why_of (course entries unlogged cause) sides basis many_logs opened run ends rest end undone (λ c. why_ended entries unlogged stop h);
              delivered = inl refl;
              worked = λ uncut. absurd (false≢true (sym uncut ∙ stop_cuts (first_writing ps) h.at stop));
              settled = λ uncut. absurd (false≢true (sym uncut ∙ stop_cuts (first_writing ps) h.at stop));
              stamped = h.stamped;
              each = come.0;
              last = λ entry e. (subst (IsPartitionOf n) (sym (h.last entry e).0) h.of, come.1 entry e);
            }))
        by_end endings.Memory is cut (h, none) =
            let forgot_cuts : IsFalse (cuts_off (cause_of (first_writing ps) None end)) → ⊥ = λ uncut.
            let cuts_too : IsFalse (cuts_off (cause_of (first_writing ps) None endings.Memory)) = subst (λ (e : End). IsFalse (cuts_off (cause_of (first_writing ps) None e))) is uncut in false≢true (sym cuts_too) in
            subst (λ (k : Option (ℕ × Stop)). Runs (cause_of (first_writing ps) k endings.Memory) 0) (sym h.goes_on)
            (subst (λ (e : End). Runs (cause_of (first_writing ps) None e) 0) is
            (made_over entries h (first_writing ps) end run rest [] 0 (λ e. let no : endings.Memory ≡ endings.Stopped = sym is ∙ e in cc (no)) served.ends split (λ c. refl)
            (record {
              served = served;
              undone = undone_of (course entries None (cause_of (first_writing ps) None end)) sides basis many_logs opened run rest end (subst (λ (u : Option Entry). IsLeftUndone hours basis run rest u end) none undone);
              why = why_of (course entries None (cause_of (first_writing ps) None end)) sides basis many_logs opened run ends rest end (subst (λ (u : Option Entry). IsLeftUndone hours basis run rest u end) none undone)
                  (λ c. own_undone (first_writing ps) ends end (λ e. let no : endings.Memory ≡ endings.Stopped = sym is ∙ e in cc (no)) c);
              delivered = inl refl;
              worked = λ uncut. absurd (forgot_cuts uncut);
              settled = λ uncut. absurd (forgot_cuts uncut);
              stamped = h.stamped;
              each = come.0;
              last = λ entry e. absurd (cc (e));
            })))
        by_end endings.Done is cut h = absurd cut
        by_end endings.SourceFault is cut h = absurd cut
        by_end endings.SinkFault is cut h = absurd cut
        by_end endings.InputFull is cut h = absurd cut

    -- nothing of a line is left, so the units come behind the answers
    without_rest : (rest units : List Entry) → rest ≡ [] → (entries_made run.answers ++ rest) ++ units ≡ entries_made run.answers ++ ([] ++ units)
    without_rest rest units none =
        ap (λ (es : List Entry). (entries_made run.answers ++ es) ++ units) none ∙ ap (λ (es : List Entry). es ++ units) (sym (append_none (entries_made run.answers)))

    no_rest : (rest : List Entry) → rest ≡ [] → entries_made run.answers ++ rest ≡ entries_made run.answers
    no_rest rest none = ap (λ (es : List Entry). entries_made run.answers ++ es) none ∙ sym (append_none (entries_made run.answers))

    -- all units of work were done
    all_done : (rest : List Entry) (unlogged : Option Entry) (count : ℕ) → (CutsOff end → ⊥) → IsLeftUndone hours basis run rest unlogged end
        → AreWorkedOff basis (behind_of hours (found_in run.answers) (entries_made run.answers ++ rest) unlogged end) (facts_in start solo) end count → Runs (cause_of (first_writing ps) (kept_in solo) end) count
    all_done rest unlogged count uncut undone w =
        let writing = first_writing ps in
        let none = (none_undone hours basis run rest unlogged end undone uncut).0 in
        let d = w.delivered in
        let entries = entries_made run.answers ++ ([] ++ d.units) in
        let same = without_rest rest d.units none in
        let h : HasMade start entries solo = subst (λ (es : List Entry). HasMade start es solo) same d.holds in
        let made : AreUnits basis w.reading (entries_made run.answers) d.units = subst (λ (es : List Entry). AreUnits basis w.reading es d.units) (no_rest rest none) d.done.made in
        let last : next_unit basis d.units entries ≡ None = subst (λ (es : List Entry). next_unit basis d.units es ≡ None) same d.done.all in
        subst (λ (k : Option (ℕ × Stop)). Runs (cause_of writing k end) count) (sym h.goes_on)
        (made_over entries h writing end run [] d.units count (own_end end uncut) served.ends refl (λ cut. absurd (false≢true (sym (uncut_cause writing end uncut) ∙ cut)))
        (record {
          served = served;
          undone = inl (refl, refl);
          why = inl (refl, refl);
          delivered = closing_of (course entries None (cause_of writing None end)) sides basis many_logs opened run d.units w.reading w.read made;
          worked = λ c. d.told;
          settled = λ c. last;
          stamped = h.stamped;
          each = each_on_joined (FollowsOn (logs_in start)) [] (entries_made run.answers) d.units answered (units_come basis w.reading (entries_made run.answers) d.units made);
          last = λ entry e. absurd (cc (e));
        }))

    -- or they were cut off
    work_cut : (rest : List Entry) (unlogged : Option Entry) (count : ℕ) → (CutsOff end → ⊥) → IsLeftUndone hours basis run rest unlogged end
        → AreWorkCut basis (behind_of hours (found_in run.answers) (entries_made run.answers ++ rest) unlogged end) (facts_in start solo) endings.Stopped count → Runs (stop_cause_of (first_writing ps) (kept_in solo)) 0
    work_cut rest unlogged count uncut undone w =
        let writing = first_writing ps in
        let none = (none_undone hours basis run rest unlogged end undone uncut).0 in
        let d = w.cut in
        let entries = entries_made run.answers ++ ([] ++ d.units) in
        let h : HasEnded start entries d.unlogged w.stop solo = subst (λ (es : List Entry). HasEnded start es d.unlogged w.stop solo) (without_rest rest d.units none) d.holds in
        let behind = no_rest rest none in
        let made : AreUnits basis w.reading (entries_made run.answers) d.units = subst (λ (es : List Entry). AreUnits basis w.reading es d.units) behind d.made in
        let next : (entry : Entry) → d.unlogged ≡ Some entry → IsNextUnit basis w.reading (entries_made run.answers) d.units entry = λ entry is. subst (λ (es : List Entry). IsNextUnit basis w.reading es d.units entry) behind (d.next entry is) in
        subst (λ (k : Option (ℕ × Stop)). Runs (stop_cause_of writing k) 0) (sym h.kept)
        (ended_over entries d.unlogged w.stop h end run [] d.units refl
        (record {
          served = served;
          undone = undone_work (course entries d.unlogged (ended_cause entries d.unlogged w.stop h)) sides basis many_logs opened run d.units w.reading w.read made next;
          why = inr (why_ended entries d.unlogged w.stop h);
          delivered = closing_of (course entries d.unlogged (ended_cause entries d.unlogged w.stop h)) sides basis many_logs opened run d.units w.reading w.read made;
          worked = λ c. absurd (false≢true (sym c ∙ stop_cuts writing h.at w.stop));
          settled = λ c. absurd (false≢true (sym c ∙ stop_cuts writing h.at w.stop));
          stamped = h.stamped;
          each = each_on_joined (FollowsOn (logs_in start)) [] (entries_made run.answers) d.units answered (units_come basis w.reading (entries_made run.answers) d.units made);
          last = λ entry e. (subst (IsPartitionOf n) (sym (h.last entry e).0) h.of, unit_follows_on basis w.reading (entries_made run.answers) d.units entry (next entry e));
        }))

    -- the run is over
    pub run_over : (rest : List Entry) (unlogged : Option Entry) (told_end : End) (count : ℕ) → IsLeftUndone hours basis run rest unlogged end
        → IsWorkedOff basis (behind_of hours (found_in run.answers) (entries_made run.answers ++ rest) unlogged end) (facts_in start solo) (told_end, count)
        → Runs (cause_of (first_writing ps) (kept_in solo) told_end) count
    run_over rest unlogged told_end count undone (inl idle) =
        subst (λ (e : End). Runs (cause_of (first_writing ps) (kept_in solo) e) count) (sym idle.same.0)
        (subst (λ (m : ℕ). Runs (cause_of (first_writing ps) (kept_in solo) end) m) (sym idle.same.1) (line_cut rest unlogged idle.cuts undone idle.leaves))
    run_over rest unlogged told_end count undone (inr (uncut, inl w)) =
        subst (λ (e : End). Runs (cause_of (first_writing ps) (kept_in solo) e) count) (sym w.same)
        (all_done rest unlogged count uncut undone (record { reading = w.reading; read = w.read; delivered = w.delivered; same = refl }))
    run_over rest unlogged told_end count undone (inr (uncut, inr w)) =
        subst (λ (e : End). Runs (cause_of (first_writing ps) (kept_in solo) e) count) (sym w.told.0)
        (subst (λ (m : ℕ). Runs (stop_cause_of (first_writing ps) (kept_in solo)) m) (sym w.told.1)
        (work_cut rest unlogged count uncut undone (record { reading = w.reading; read = w.read; stop = w.stop; cut = w.cut; told = (refl, w.told.1) })))

-- what is left of an engine, however its run ended: as many partitions as it began with, stamps for each, and the slots
module _ {D : Type 0} {disks : Ghosts D} (start : Start D) (solo : Solo D disks) where
  pub record IsLeft : Type 0 where
    pub many : length (partitions_in solo) ≡ many_in start
    pub stamps : length (stamps_in solo) ≡ many_in start
    pub slots : AreAllSlotsLeft (volumes_in start) (map files_of (partitions_in solo))

  slots_made : (n : ℕ) (entries : List Entry) (number : ℕ) (os : List (Opening D)) (qs : List (Partition D disks)) → EachFrom (HasPart n entries) number os qs
      → AreAllSlotsLeft (map (λ opening. opening.volume) os) (map files_of qs)
  slots_made n entries number [] [] each = tt
  slots_made n entries number (o ∷ os) (q ∷ qs) each = (each.0.1.slots, slots_made n entries (suc number) os qs each.1)
  slots_made n entries number [] (q ∷ qs) each = absurd each
  slots_made n entries number (o ∷ os) [] each = absurd each

  slot_left : (n : ℕ) (entries : List Entry) (halted : Halted) (number : ℕ) (o : Opening D) (q : Partition D disks) → IsLeftPart n entries halted number o q → AreSlotsLeft o.volume (files_of q)
  slot_left n entries halted number o q (of, inl live) = live.1.slots
  slot_left n entries halted number o q (of, inr dead) = dead.1.2.slots

  slots_ended : (n : ℕ) (entries : List Entry) (halted : Halted) (number : ℕ) (os : List (Opening D)) (qs : List (Partition D disks)) → EachFrom (IsLeftPart n entries halted) number os qs
      → AreAllSlotsLeft (map (λ opening. opening.volume) os) (map files_of qs)
  slots_ended n entries halted number [] [] each = tt
  slots_ended n entries halted number (o ∷ os) (q ∷ qs) each = (slot_left n entries halted number o q each.0, slots_ended n entries halted (suc number) os qs each.1)
  slots_ended n entries halted number [] (q ∷ qs) each = absurd each
  slots_ended n entries halted number (o ∷ os) [] each = absurd each

  stamps_count : (m first : ℕ) (entries : List Entry) → length (stamps_of m first entries) ≡ m
  stamps_count m first entries = length-map-range_with_len (λ p. places_of p first entries) 1 m

  left_made : (entries : List Entry) → HasMade start entries solo → IsLeft
  left_made entries h = record {
    many = sym (each_length (HasPart (many_in start) entries) 1 start.openings (partitions_in solo) h.parts);
    stamps = ap length h.stamped ∙ stamps_count (many_in start) (place_at_start start) entries;
    slots = slots_made (many_in start) entries 1 start.openings (partitions_in solo) h.parts;
  }

  left_ended : (entries : List Entry) (unlogged : Option Entry) (stop : Stop) → HasEnded start entries unlogged stop solo → IsLeft
  left_ended entries unlogged stop h = record {
    many = sym (each_length (IsLeftPart (many_in start) entries (halted_at h.at stop unlogged)) 1 start.openings (partitions_in solo) h.parts);
    stamps = ap length h.stamped ∙ stamps_count (many_in start) (place_at_start start) entries;
    slots = slots_ended (many_in start) entries (halted_at h.at stop unlogged) 1 start.openings (partitions_in solo) h.parts;
  }

  left_desk : (end : End) (entries : List Entry) (unlogged : Option Entry) → LeavesDesk (facts_in start solo) entries unlogged end → IsLeft
  left_desk endings.Stopped entries unlogged (stop, left) = left_ended entries unlogged stop left
  left_desk endings.Done entries unlogged left = left_made entries left.0
  left_desk endings.SourceFault entries unlogged left = left_made entries left.0
  left_desk endings.SinkFault entries unlogged left = left_made entries left.0
  left_desk endings.InputFull entries unlogged left = left_made entries left.0
  left_desk endings.Memory entries unlogged left = left_made entries left.0

  pub left_over : (goes_by : Basis) (behind : Behind) (result : End × ℕ) → IsWorkedOff goes_by behind (facts_in start solo) result → IsLeft
  left_over goes_by behind result (inl idle) = left_desk behind.end behind.entries behind.unlogged idle.leaves
  left_over goes_by behind result (inr (uncut, inl w)) = left_made _ w.delivered.holds
  left_over goes_by behind result (inr (uncut, inr w)) = left_ended _ _ _ w.cut.holds

-- a run whose logs were opened has stamps
pub run_by : (told : Told) (setting : RunSetting) (ends : RunEnds) (crashes : Crashes) (cause : Cause) (units : ℕ) (stamps : List (List ℕ)) → 1 ≤ length stamps → HasRun told setting ends crashes (answer_of_run cause stamps units)
    → IsRun told setting ends crashes (answer_of_run cause stamps units)
run_by told setting ends crashes cause units [] some run = absurd (omega (arith, some))
run_by told setting ends crashes cause units (stamp ∷ stamps) some run = run

-- the run is over, in the words of what was closed
module _ {D : Type 0} {disks : Ghosts D} (streams : Streams) (hours : Hours) (images_told : IsTrue disks.tells_images → IsTrue disks.tells) (start : Start D) (limit units : ℕ) (volumes : List (Volume D)) (begun : IsBegunOver disks limit units volumes start)
    (sides : SessionEnds) (solo : Solo D disks) where
  abbrev IsRunTo : List (Volume D) → ℕ → List (Volume D) → Cause → List (List ℕ) → ℕ → Type 0
  IsRunTo olds bound news cause stamps count =
      IsRun (told_by streams disks) (record { hours = hours; limit = limit; units = bound }) (ends_alone sides (volumes_ends disks olds news)) (crashes_of disks olds news) (answer_of_run cause stamps count)

  pub closed_over : (run : SessionRun) (end : End) → HasServed streams hours (basis_in start) sides run end → (rest : List Entry) (unlogged : Option Entry) (told_end : End) (count : ℕ) → IsLeftUndone hours (basis_in start) run rest unlogged end
      → IsWorkedOff (basis_in start) (behind_of hours (found_in run.answers) (entries_made run.answers ++ rest) unlogged end) (facts_in start solo) (told_end, count)
      → (news : List (Volume D)) → news ≡ map files_of (partitions_in solo) → (cause : Cause) → cause ≡ cause_of (first_writing (partitions_in solo)) (kept_in solo) told_end → (stamps : List (List ℕ)) → stamps ≡ stamps_in solo → (told_count : ℕ) → told_count ≡ count
      → 1 ≤ length (stamps_in solo) → IsRunTo volumes units news cause stamps told_count
  closed_over run end served rest unlogged told_end count undone worked news are_news cause is_cause stamps are_stamps told_count is_count some =
      let own = run_by (told_by streams disks) (record { hours = hours; limit = limit; units = start.units }) (ends_alone sides (volumes_ends disks (volumes_in start) (map files_of (partitions_in solo)))) (crashes_of disks (volumes_in start) (map files_of (partitions_in solo)))
      (cause_of (first_writing (partitions_in solo)) (kept_in solo) told_end) count (stamps_in solo) some
      (run_over streams hours images_told start limit begun.most (subst (λ (olds : List (Volume D)). EachFrom (IsFoundOver disks) 1 olds start.openings) (sym begun.over) begun.found) sides solo run end served rest unlogged told_end count undone worked) in
      subst (λ (olds : List (Volume D)). IsRunTo olds units news cause stamps told_count) begun.over
      (subst (λ (bound : ℕ). IsRunTo (volumes_in start) bound news cause stamps told_count) begun.bound
      (subst (λ (l : List (Volume D)). IsRunTo (volumes_in start) start.units l cause stamps told_count) (sym are_news)
      (subst (λ (c : Cause). IsRunTo (volumes_in start) start.units (map files_of (partitions_in solo)) c stamps told_count) (sym is_cause)
      (subst (λ (l : List (List ℕ)). IsRunTo (volumes_in start) start.units (map files_of (partitions_in solo)) (cause_of (first_writing (partitions_in solo)) (kept_in solo) told_end) l told_count) (sym are_stamps)
      (subst (λ (m : ℕ). IsRunTo (volumes_in start) start.units (map files_of (partitions_in solo)) (cause_of (first_writing (partitions_in solo)) (kept_in solo) told_end) (stamps_in solo) m) (sym is_count) own)))))
