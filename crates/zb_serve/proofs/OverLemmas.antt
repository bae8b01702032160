-- A run of one session that is over.
use Rattle.std.proofs.Common.{◌≡◌, ◌⊎◌, ℕ, suc, ◌-◌, List, [], ◌∷◌, ◌++◌, length, take, slice_get, Bool, All, IsTrue, IsFalse, Option, Some, None, IfSome, refl, sym, ◌∙◌, ap, subst, inl, inr, arith}
use Rattle.std.specs.List.{AllByRecursion}
use Rattle.std.proofs.lemmas.List.{length-map}
use Rattle.std.proofs.lemmas.List.Elements.{All-nil, All-cons}
use Rattle.zb_model.specs.declared.record.Batch.{Batch}
use Rattle.zb_rules.specs.Step.{EachOn, IsStep, AreStepsOn}
use Rattle.zb_world.specs.Entries.{IsPartitionOf, part_of, parts_of, stamps_of}
use Rattle.zb_world.specs.declared.entry.Entry.{Entry}
use Rattle.zb_world.specs.History.{IsHistory}
use Rattle.zb_lines.specs.Taken.{TakesBytes}
use Rattle.zb_desk.specs.Numbered.{EachFrom}
use Rattle.zb_desk.specs.Serial.{basis_of, log_behind, place_behind, next_unit}
use Rattle.zb_desk.proofs.SentLaws.{FollowsOn, AreSerially, serially_more, last_comes}
use Rattle.zb_session.specs.Hours.{given_of}
use Rattle.zb_session.specs.Answer.{Answer, IsAnswer, entries_made, AreSerial}
use Rattle.zb_session.specs.Session.{Streams, SessionEnds, SessionRun, AreWritten, HasServed}
use Rattle.zb_session.specs.declared.session.End.{End}
use Rattle.zb_session.specs.declared.session.End.TheVariants as endings
use Rattle.zb_serve.specs.Ends.{Told, VolumeEnds, Crashes}
use Rattle.zb_serve.specs.Log.{Course, OpenedLog, log_in, batch_of, AreLogsOn, place_found, IsVolume, IsLog, IsLogIn}
use Rattle.zb_serve.specs.History.{AreCut, AreImages}
use Rattle.zb_serve.specs.Served.{RunsOn, Serves, BeginsFrom, IsNoneLeft, IsWhyUndone, IsUndone, AreClosing, answers_of}
use Rattle.zb_serve.specs.Cause.{comes_before, cuts_off}
use Rattle.zb_serve.specs.Session.{IsSent}
use Rattle.zb_serve.specs.Running.{ends_alone}
use Rattle.zb_serve.specs.declared.run.Cause.{Cause}
use Rattle.zb_serve.specs.declared.run.Cause.TheVariants as causes
use Rattle.zb_serve.proofs.ListLemmas.{append_none, all_by, unmapped_at, first_at, number_behind}
use Rattle.zb_serve.proofs.HistoryLemmas.{goes_on, kept_at, cut_at_end}
use Rattle.zb_serve.proofs.LogLemmas.{batch_left}
use Rattle.zb_serve.proofs.GroundLemmas.{tails_of, only_tails, tails_on, place_is, from_start}
use Rattle.zb_serve.proofs.EndLemmas.{IsNamed, AreNamed, parts_alone, whole_served, none_first}

-- what the session wrote
sent_as : (streams : Streams) (told : Told) (sides : SessionEnds) (end : End) (cause : Cause) (answers : List Answer) → told.sink_memory ≡ streams.sink_memory
    → (end ≡ endings.SinkFault → IsFalse (comes_before (causes.SinkFault 1) cause)) → (end ≡ endings.Memory → IsTrue (cuts_off cause))
    → AreWritten streams sides end answers → IsSent told 1 sides cause answers
sent_as streams told sides end cause answers memory failed forgot (inl whole) = inl whole
sent_as streams told sides end cause answers memory failed forgot (inr (front, last, n, is, written, inl (rose, e))) = inr (front, last, n, is, written, inl (rose, failed e))
sent_as streams told sides end cause answers memory failed forgot (inr (front, last, n, is, written, inr (takes, e))) = inr (front, last, n, is, written, inr (subst IsTrue (sym memory) takes, forgot e))

all_from : (P : Entry → Type 0) (entries : List Entry) → AllByRecursion P entries → All P entries
all_from P [] all = All-nil P
all_from P (entry ∷ entries) all = All-cons P entry entries all.0 (all_from P entries all.1)

-- what follows on others begins behind what was opened
begins_behind : (logs : List (List Batch)) (front : List Entry) (entry : Entry) → FollowsOn logs front entry → BeginsFrom (place_behind logs []) entry
begins_behind logs front entry follows = omega (arith, follows.begin)

all_begin : (logs : List (List Batch)) (entries : List Entry) → EachOn (FollowsOn logs) [] entries → All (BeginsFrom (place_behind logs [])) entries
all_begin logs entries each = all_from (BeginsFrom (place_behind logs [])) entries (all_by (BeginsFrom (place_behind logs [])) entries (λ k entry at. begins_behind logs (take k entries) entry (each k entry at)))

last_begins : (logs : List (List Batch)) (front : List Entry) (last : Option Entry) → ((entry : Entry) → last ≡ Some entry → FollowsOn logs front entry) → IfSome last (BeginsFrom (place_behind logs []))
last_begins logs front None follows = tt
last_begins logs front (Some entry) follows = begins_behind logs front entry (follows entry refl)

-- what came of the lines, over logs that were opened with these batches
pub record HasCome (streams : Streams) (course : Course) (sides : SessionEnds) (ends : List VolumeEnds) (opened : List OpenedLog) (run : SessionRun) (end : End) (rest closing : List Entry) (units : ℕ) (stamps : List (List ℕ)) (logs : List (List Batch)) : Type 0 where
  pub served : HasServed streams course.setting.hours (basis_of logs course.setting.units) sides run end
  pub undone : IsUndone course (basis_of logs course.setting.units) (parts_alone opened run rest closing)
  pub why : IsNoneLeft course (parts_alone opened run rest closing) ⊎ IsWhyUndone course.cause ends course.unlogged
  pub delivered : AreClosing course (basis_of logs course.setting.units) (parts_alone opened run rest closing)
  pub worked : IsFalse (cuts_off course.cause) → units ≡ length closing
  pub settled : IsFalse (cuts_off course.cause) → next_unit (basis_of logs course.setting.units) closing course.entries ≡ None
  pub stamped : stamps ≡ stamps_of course.partitions (place_behind logs []) course.entries
  pub each : EachOn (FollowsOn logs) [] course.entries
  pub last : (entry : Entry) → course.unlogged ≡ Some entry → IsPartitionOf course.partitions entry.partition × FollowsOn logs course.entries entry

-- the logs of a run, of which each is what it has to be
module _ (course : Course) (crashes : Crashes) (sides : SessionEnds) (ends : List VolumeEnds) (opened : List OpenedLog) (many : length opened ≡ course.partitions) (are_logs : EachFrom (IsLogIn course (ends_alone sides ends) crashes) 1 opened (tails_of opened)) where
  abbrev n : ℕ
  n = course.partitions

  abbrev logs : List (List Batch)
  logs = tails_of opened

  -- the log at a place
  record IsThere (k : ℕ) (log : List Batch) : Type 0 where
    ends_there : VolumeEnds
    one : OpenedLog
    is : IsLog course crashes (suc k) ends_there one log

  there : (k : ℕ) (log : List Batch) → slice_get logs k ≡ Some log → IsThere k log
  there k log at =
      let one = unmapped_at (λ one. one.found.tail) opened k log at in
      let is = first_at (IsLogIn course (ends_alone sides ends) crashes) opened logs k one.0 log are_logs one.1 at in
      record { ends_there = is.0; one = one.0; is = is.3 }

  steps_at : (k : ℕ) (log : List Batch) → slice_get logs k ≡ Some log → AreStepsOn (suc k) n log (part_of (suc k) course.entries)
  steps_at k log at = (there k log at).is.steps

  next_at : (k : ℕ) (log : List Batch) (batch : Batch) → slice_get logs k ≡ Some log → batch_of (suc k) course.unlogged ≡ Some batch → IsStep (suc k) n (log_behind (suc k) log course.entries) batch
  next_at k log batch at last = (there k log at).is.next batch last

  -- the entries are a serial run
  pub serially : AllByRecursion (λ entry. IsPartitionOf n entry.partition) course.entries → EachOn (FollowsOn logs) [] course.entries → AreSerially n logs course.entries
  serially within each = record {
    within = within;
    each = each;
    steps = λ p log some at.
        let number : p ≡ suc (p - 1) = number_behind p some in
        subst (λ (q : ℕ). AreStepsOn q n log (part_of q course.entries)) (sym number) (steps_at (p - 1) log at);
  }

  -- with the entry that isn't in its log too
  pub serially_last : (entry : Entry) → course.unlogged ≡ Some entry → AreSerially n logs course.entries → IsPartitionOf n entry.partition → FollowsOn logs course.entries entry
      → AreSerially n logs (course.entries ++ entry ∷ [])
  serially_last entry is are of comes =
      let p = entry.partition in
      let number : p ≡ suc (p - 1) = number_behind p of.0 in
      let its : batch_of p course.unlogged ≡ Some entry.batch = ap (batch_of p) is ∙ batch_left p (Some entry) (Some entry.batch) (refl, refl) in
      serially_more n logs course.entries entry are of comes (λ log at.
      subst (λ (q : ℕ). IsStep q n (log_behind q log course.entries) entry.batch) (sym number)
      (next_at (p - 1) log entry.batch at (subst (λ (q : ℕ). batch_of q course.unlogged ≡ Some entry.batch) number its)))

  -- what a crash leaves of them is a cut of every history
  pub crash_cuts : IsTrue course.told.images → AreSerially n logs course.entries → ((entry : Entry) → course.unlogged ≡ Some entry → AreSerially n logs (course.entries ++ entry ∷ []))
      → (base : List Entry) → IsHistory n base → parts_of n base ≡ logs → (kept : List (List ℕ)) → length kept ≡ n → AreImages crashes.now kept → AreCut n (base ++ course.entries) kept
  crash_cuts tells are last base is parts kept all images =
      let history = (goes_on n logs course.entries are base is parts).0 in
      cut_at_end n logs (length-map opened (λ one. one.found.tail) ∙ many) course.entries course.unlogged crashes.now
      (λ k log image at now.
      let t = there k log at in
      kept_at course.told t.ends_there course.cause course.unlogged k (log_in course (suc k) log) image (t.is.crash_now tells image now))
      base parts (λ entry e. last_comes n logs course.entries entry (last entry e) base is parts history) kept all images

-- a run is over
module _ (streams : Streams) (course : Course) (crashes : Crashes) (sides : SessionEnds) (ends : List VolumeEnds) (opened : List OpenedLog) (run : SessionRun) (end : End) (rest closing : List Entry) (units : ℕ) (stamps : List (List ℕ))
    (many : length opened ≡ course.partitions) (within : AllByRecursion (λ entry. IsPartitionOf course.partitions entry.partition) course.entries)
    (are_volumes : EachFrom (IsVolume course crashes) 1 ends opened) (are_logs : EachFrom (IsLogIn course (ends_alone sides ends) crashes) 1 opened (tails_of opened))
    (come : HasCome streams course sides ends opened run end rest closing units stamps (tails_of opened)) where
  abbrev tails : List (List Batch)
  tails = tails_of opened

  alone : run.answers ≡ answers_of (run ∷ [])
  alone = append_none run.answers

  comes_serially : AreSerially course.partitions tails course.entries
  comes_serially = serially course crashes sides ends opened many are_logs within come.each

  -- it goes on with the batches that were found
  goes_on_tails : RunsOn course (ends_alone sides ends) crashes (parts_alone opened run rest closing) tails
  goes_on_tails =
      let last = λ (entry : Entry) (is : course.unlogged ≡ Some entry). serially_last course crashes sides ends opened many are_logs entry is comes_serially (come.last entry is).0 (come.last entry is).1 in
      record {
        are_logs = are_logs;
        history = goes_on course.partitions tails course.entries comes_serially;
        serial = subst (AreSerial course.setting.hours (basis_of tails course.setting.units)) alone come.served.serial;
        delivered = come.delivered;
        undone = come.undone;
        settled = come.settled;
        crash_cut = λ tells base is parts kept all images. crash_cuts course crashes sides ends opened many are_logs tells comes_serially last base is parts kept all images;
      }

  -- so with all logs that go on from what was found, which are those
  goes_on_all : (ls : List (List Batch)) → AreLogsOn opened ls → RunsOn course (ends_alone sides ends) crashes (parts_alone opened run rest closing) ls
  goes_on_all ls on = subst (RunsOn course (ends_alone sides ends) crashes (parts_alone opened run rest closing)) (sym (only_tails opened ls (from_start course crashes 1 ends opened are_volumes) on)) goes_on_tails

  place : place_found opened ≡ place_behind tails []
  place = place_is opened tails (tails_on opened (from_start course crashes 1 ends opened are_volumes))

  pub over : course.told.source ≡ streams.source_tells → course.told.sink ≡ streams.sink_tells → course.told.sink_memory ≡ streams.sink_memory
      → (end ≡ endings.SinkFault → IsFalse (comes_before (causes.SinkFault 1) course.cause)) → (end ≡ endings.Memory → IsTrue (cuts_off course.cause))
      → (IsTrue (cuts_off course.cause) → units ≡ 0)
      → course.entries ≡ entries_made run.answers ++ (rest ++ closing)
      → IsNamed course.told course.partitions sides run course.cause
      → AreNamed course ends opened
      → Serves course (ends_alone sides ends) crashes stamps units
  over tells_source tells_sink takes_memory failed forgot unworked split named are =
      let served = come.served in
      let count : length tails ≡ course.partitions = length-map opened (λ one. one.found.tail) ∙ many in
      record {
        parts = parts_alone opened run rest closing;
        status = named.status;
        first_met = none_first course sides ends run opened rest closing named are;
        within = all_from (λ entry. IsPartitionOf course.partitions entry.partition) course.entries within;
        stamped = come.stamped ∙ ap (λ (first : ℕ). stamps_of course.partitions first course.entries) (sym place);
        begun = subst (λ (first : ℕ). All (BeginsFrom first) course.entries × IfSome course.unlogged (BeginsFrom first)) (sym place)
            (all_begin tails course.entries come.each, last_begins tails course.entries course.unlogged (λ entry is. (come.last entry is).1));
        volumes = are_volumes;
        sessions = (
          record {
            takes = subst (λ (t : Bool). TakesBytes t sides.source sides.source_after run.taken) (sym tells_source) served.takes;
            lines = served.lines;
            within = served.within;
            to_end = λ ended. ((served.to_end ended).0, λ t. (served.to_end ended).1 (subst IsTrue tells_source t));
            not_ended = served.not_ended;
            first = served.first;
            answers = subst (λ (n : ℕ). EachFrom (λ number. IsAnswer (given_of course.setting.hours n number)) 1 run.served run.answers) count served.answers;
            sent = λ t. sent_as streams course.told sides end course.cause run.answers takes_memory failed forgot (served.sent (subst IsTrue tells_sink t));
            done = named.done;
            whole = λ uncut source sink few. whole_served course.told course.partitions sides run course.cause named uncut source sink few;
            source_fault = named.source_fault;
            sink_fault = named.sink_fault;
            input_full = named.input_full;
          },
          tt,
        );
        all = split ∙ ap (λ (given : List Answer). entries_made given ++ (rest ++ closing)) alone;
        why = come.why;
        worked = come.worked;
        unworked = unworked;
        runs_on = goes_on_all;
      }
