-- Showing a log: its lines batch by batch, and how it ends.
use Rattle.std.proofs.Common.{◌≡◌, ◌≢◌, ◌⊎◌, IsTrue, inl, inr, ℕ, zero, suc, ◌+◌, ◌<◌, ◌≤◌, List, [], ◌∷◌, ◌++◌, map, take, drop, length, get_or, refl, ap, sym, ◌∙◌, append_assoc, arith, subst, Some, Bool, true, false}
use Rattle.std.specs.Prelude.{slice_get, codes, Contains, Result, Ok, Err, IfErr, OnOk, OnErr}
use Rattle.std.proofs.lemmas.Bool.{cases_lt, false≢true}
use Rattle.std.proofs.lemmas.List.{append-nil, take_more, take-append-drop}
use Rattle.std.proofs.lemmas.Option.{slice_get_within, get_or_from_slice_get}
use Rattle.zb_model.specs.declared.record.Batch.{Batch}
use Rattle.zb_model.specs.Record.{bytes_of}
use Rattle.zb_model.specs.RecordFits.{IsBatch}
use Rattle.zb_codec.proofs.BatchLemmas.{one_spelling}
use Rattle.zb_outside.specs.declared.trouble.Trouble.{Trouble}
use Rattle.zb_outside.specs.declared.trouble.Trouble.TheVariants as troubles
use Rattle.zb_outside.specs.Cause.{StreamFaultsRose}
use Rattle.zb_disk.specs.Cause.{Rose}
use Rattle.zb_disk.specs.declared.disk.Disk.{Ghosts}
use Rattle.zb_store.specs.Calls.{LeftByOpening}
use Rattle.zb_store.proofs.CallLaws.{Opens, leaves_none, leaves_then, leaves_weaker}
use Rattle.zb_store.specs.Cause.{IsCaused}
use Rattle.zb_store.specs.declared.fault.StoreFault.{StoreFault}
use Rattle.zb_store.specs.declared.fault.StoreFault.TheVariants as store_faults
use Rattle.zb_partition.specs.Fault.{open_fault_of, IsDiskCause}
use Rattle.zb_partition.specs.Log.{AreBatches}
use Rattle.zb_partition.specs.declared.fault.OpenFault.{OpenFault}
use Rattle.zb_partition.specs.declared.fault.OpenFault.TheVariants as open_faults
use Rattle.zb_words.specs.Plan.{IsPlan}
use Rattle.zb_words.specs.declared.plan.LogPlan.{LogPlan}
use Rattle.zb_words.specs.declared.plan.Plan.TheVariants as plans
use Rattle.zb_words.proofs.WordLaws.{its_options}
use Rattle.zb_show.specs.Lines.{batch_lines, lines_from, log_lines, records_in}
use Rattle.zb_show.specs.Show.{IsWritten, Writes}
use Rattle.zb_show.specs.Status.{fault_status, status_shown, IsShowCause, IsBadLog}
use Rattle.zb_show.specs.declared.fault.ShowFault.{ShowFault}
use Rattle.zb_show.specs.declared.fault.ShowFault.TheVariants as faults

-- how many records these batches have
abbrev pub records_among : List Batch → ℕ
records_among [] = 0
records_among (b ∷ log) = records_in b + records_among log

records_more : (log : List Batch) (b : Batch) → records_among (log ++ b ∷ []) ≡ records_among log + records_in b
records_more [] b = omega arith
records_more (x ∷ log) b = omega (arith, records_more log b)

lines_behind : (p at : ℕ) (log more : List Batch) → lines_from p at (log ++ more) ≡ lines_from p at log ++ lines_from p (at + records_among log) more
lines_behind p at [] more =
    let same : at ≡ at + 0 = omega arith in
    ap (λ n. lines_from p n more) same
lines_behind p at (x ∷ log) more =
    let same : at + records_in x + records_among log ≡ at + records_among (x ∷ log) = omega arith in
    ap (λ ls. batch_lines p at x ++ ls) (lines_behind p (at + records_in x) log more ∙ ap (λ n. lines_from p (at + records_in x) log ++ lines_from p n more) same)
    ∙ sym (append_assoc (batch_lines p at x) (lines_from p (at + records_in x) log) _)

lines_more : (p at : ℕ) (log : List Batch) (b : Batch) → lines_from p at (log ++ b ∷ []) ≡ lines_from p at log ++ batch_lines p (at + records_among log) b
lines_more p at log b = lines_behind p at log (b ∷ []) ∙ ap (λ ls. lines_from p at log ++ ls) (append-nil (batch_lines p (at + records_among log) b))

-- with one batch more
record IsFollowed (p i : ℕ) (all : List Batch) (b : Batch) (position : ℕ) : Type 0 where
  pub count : records_among (take (i + 1) all) ≡ records_among (take i all) + records_in b
  pub lines : lines_from p 1 (take (i + 1) all) ≡ lines_from p 1 (take i all) ++ batch_lines p position b

followed : (p i : ℕ) (all : List Batch) (b : Batch) (position : ℕ) → slice_get all i ≡ Some b → position ≡ 1 + records_among (take i all) → IsFollowed p i all b position
followed p i all b position at here =
    let within : i < length all = slice_get_within all i b at in
    let front : take (i + 1) all ≡ take i all ++ b ∷ [] = take_more all i b within ∙ ap (λ x. take i all ++ x ∷ []) (get_or_from_slice_get all i b b at) in
    record {
      count = ap records_among front ∙ records_more (take i all) b;
      lines = ap (lines_from p 1) front ∙ lines_more p 1 (take i all) b ∙ ap (λ n. lines_from p 1 (take i all) ++ batch_lines p n b) (sym here);
    }

-- one batch more has its lines
pub told_more : (p i : ℕ) (all : List Batch) (b : Batch) (position next : ℕ) (before text more : List ℕ) → slice_get all i ≡ Some b → position ≡ 1 + records_among (take i all)
    → next ≡ position + records_in b → text ≡ before ++ lines_from p 1 (take i all) → more ≡ text ++ batch_lines p position b
    → (next ≡ 1 + records_among (take (i + 1) all)) × (more ≡ before ++ lines_from p 1 (take (i + 1) all))
told_more p i all b position next before text more at here on so_far adds =
    let f = followed p i all b position at here in (
      omega (arith, here, on, f.count),
      adds ∙ ap (λ t. t ++ batch_lines p position b) so_far ∙ append_assoc before (lines_from p 1 (take i all)) (batch_lines p position b) ∙ ap (λ ls. before ++ ls) (sym f.lines),
    )

-- or a front of them
pub told_part : (p i : ℕ) (all : List Batch) (b : Batch) (position : ℕ) (before text more left : List ℕ) → slice_get all i ≡ Some b → position ≡ 1 + records_among (take i all)
    → text ≡ before ++ lines_from p 1 (take i all) → IsWritten (batch_lines p position b) text more left → (rest : List ℕ) × IsWritten (log_lines p all) before more rest
told_part p i all b position before text more left at here so_far part =
    let f = followed p i all b position at here in
    let so : List ℕ = lines_from p 1 (take i all) in
    let rest : List ℕ = lines_from p (1 + records_among (take (i + 1) all)) (drop (i + 1) all) in
    let whole : log_lines p all ≡ lines_from p 1 (take (i + 1) all) ++ rest = ap (lines_from p 1) (sym (take-append-drop (i + 1) all)) ∙ lines_behind p 1 (take (i + 1) all) (drop (i + 1) all) in
    let split : log_lines p all ≡ (so ++ part.0) ++ (left ++ rest) =
    whole ∙ (ap (λ ls. ls ++ rest) (f.lines ∙ ap (λ ls. so ++ ls) part.1) ∙ simp append_assoc) in
    (left ++ rest, (so ++ part.0, split, part.2 ∙ (ap (λ t. t ++ part.0) so_far ∙ append_assoc before so part.0)))

-- ---- what was written

pub all_written : (bytes before after left : List ℕ) → IsWritten bytes before after left → left ≡ [] → after ≡ before ++ bytes
all_written bytes before after left part none =
    part.2 ∙ ap (λ bs. before ++ bs) (sym (part.1 ∙ (ap (λ l. part.0 ++ l) none ∙ append-nil part.0)))

pub written_all : (bytes before after : List ℕ) → after ≡ before ++ bytes → IsWritten bytes before after []
written_all bytes before after is = (bytes, sym (append-nil bytes), is)

pub written_none : (bytes before : List ℕ) → IsWritten bytes before before bytes
written_none bytes before = ([], refl, sym (append-nil before))

-- what a sink was sent
pub sent_front : {E : Type 0} (sent : Result (Unit {0}) E) (bytes before after : List ℕ) → OnOk sent (after ≡ before ++ bytes) → OnErr sent ((n : ℕ) × (after ≡ before ++ take n bytes)) → Writes sent bytes before after
sent_front (Ok done) bytes before after whole part = ([], written_all bytes before after whole, refl)
sent_front (Err fault) bytes before after whole part = (drop part.0 bytes, (take part.0 bytes, sym (take-append-drop part.0 bytes), part.1), tt)

-- what was written, whether the sink tells or not
pub told_written : {T E : Type 0} (told : Bool) (shown : Result T E) (bytes before after : List ℕ) → (IsTrue told → Writes shown bytes before after)
    → (left : List ℕ) × (IsTrue told → IsWritten bytes before after left) × OnOk shown (left ≡ [])
told_written true shown bytes before after writes = let w = writes refl in (w.0, λ t. w.1, w.2)
told_written false (Ok value) bytes before after writes = ([], λ t. absurd (false≢true t), refl)
told_written false (Err fault) bytes before after writes = ([], λ t. absurd (false≢true t), tt)

-- the batch of a frame
pub batch_there : (all : List Batch) (i : ℕ) → i < length (map bytes_of all) → (b : Batch) × (slice_get all i ≡ Some b)
batch_there [] i within = absurd (omega (arith, within))
batch_there (b ∷ all) zero within = (b, refl)
batch_there (b ∷ all) (suc i) within = batch_there all i (omega (arith, within))

-- the body of a frame spells the batch of that number alone
pub batch_at : (all : List Batch) (i : ℕ) (body : List ℕ) (b : Batch) → slice_get (map bytes_of all) i ≡ Some body → AreBatches all → IsBatch b → body ≡ bytes_of b → slice_get all i ≡ Some b
batch_at [] i body b at fits is spelled = cc
batch_at (x ∷ all) zero body b at fits is spelled =
    let same : bytes_of x ≡ body = grind arith in
    let one = one_spelling b x [] is fits.0 (same ∙ spelled ∙ sym (append-nil (bytes_of b))) in
    ap Some (sym one.0)
batch_at (x ∷ all) (suc i) body b at fits is spelled = batch_at all i body b at fits.1 is spelled

pub some_batch : (all : List Batch) (i : ℕ) (body : List ℕ) → slice_get (map bytes_of all) i ≡ Some body → AreBatches all → ((b : Batch) → IsBatch b → body ≢ bytes_of b) → ⊥
some_batch [] i body at fits none = cc
some_batch (x ∷ all) zero body at fits none =
    let same : bytes_of x ≡ body = grind arith in
    none x fits.0 (sym same)
some_batch (x ∷ all) (suc i) body at fits none = some_batch all i body at fits.1 none

-- ---- causes

pub log_cause : (a b s : ℕ) (fault : OpenFault) → (fault ≡ open_faults.DiskFault → Rose a b) → IsShowCause a b s s (faults.Log fault)
log_cause a b s open_faults.DiskFault rose = rose refl
log_cause a b s (open_faults.BadLog frame) rose = tt
log_cause a b s open_faults.Memory rose = tt

pub sink_cause : (a b s t : ℕ) (trouble : Trouble) → (trouble ≡ troubles.Failed → StreamFaultsRose s t) → IsShowCause a b s t (faults.Sink trouble)
sink_cause a b s t troubles.Failed rose = rose refl
sink_cause a b s t troubles.Memory rose = tt

-- what was named for the last calls is named for all
pub cause_since : (a b c s t u : ℕ) (fault : ShowFault) → a ≤ b → s ≤ t → IsShowCause b c t u fault → IsShowCause a c s u fault
cause_since a b c s t u faults.Usage disk sink cause = cause
cause_since a b c s t u (faults.Log open_faults.DiskFault) disk sink cause = λ small. let rose : b < c = cause small in omega arith
cause_since a b c s t u (faults.Log (open_faults.BadLog frame)) disk sink cause = tt
cause_since a b c s t u (faults.Log open_faults.Memory) disk sink cause = tt
cause_since a b c s t u (faults.Sink troubles.Failed) disk sink cause = λ small. let rose : t < u = cause small in omega arith
cause_since a b c s t u (faults.Sink troubles.Memory) disk sink cause = tt
cause_since a b c s t u faults.Memory disk sink cause = tt

pub err_since : (a b c s t u : ℕ) (shown : Result (Unit {0}) ShowFault) → a ≤ b → s ≤ t → IfErr shown (IsShowCause b c t u) → IfErr shown (IsShowCause a c s u)
err_since a b c s t u (Ok done) disk sink cause = tt
err_since a b c s t u (Err fault) disk sink cause = cause_since a b c s t u fault disk sink cause

pub err_then : {P Q : ShowFault → Type 0} (shown : Result (Unit {0}) ShowFault) → ((fault : ShowFault) → P fault → Q fault) → IfErr shown P → IfErr shown Q
err_then (Ok done) so p = tt
err_then (Err fault) so p = so fault p

pub store_cause : (counts : Bool) (a b s : ℕ) (fault : StoreFault) → IsCaused counts a b fault → IsShowCause a b s s (faults.Log (open_fault_of fault))
store_cause counts a b s store_faults.DiskFault cause = cause
store_cause counts a b s (store_faults.LogFull length frame limit) cause = tt
store_cause counts a b s store_faults.Memory cause = tt

pub open_cause : (counts : Bool) (a b s : ℕ) (fault : OpenFault) → IsDiskCause counts a b fault → IsShowCause a b s s (faults.Log fault)
open_cause counts a b s open_faults.DiskFault cause = cause
open_cause counts a b s (open_faults.BadLog frame) cause = tt
open_cause counts a b s open_faults.Memory cause = tt

-- no fault of a store is a bad log
pub store_good : (fault : StoreFault) → IsBadLog (faults.Log (open_fault_of fault)) → ⊥
store_good store_faults.DiskFault bad = bad
store_good (store_faults.LogFull length frame limit) bad = bad
store_good store_faults.Memory bad = bad

pub frame_good : (fault : OpenFault) → ((n : ℕ) → fault ≡ open_faults.BadLog n → ⊥) → IsBadLog (faults.Log fault) → ⊥
frame_good open_faults.DiskFault none bad = bad
frame_good (open_faults.BadLog frame) none bad = none frame refl
frame_good open_faults.Memory none bad = bad

pub frame_of : (fault : OpenFault) → IsBadLog (faults.Log fault) → (n : ℕ) × (fault ≡ open_faults.BadLog n)
frame_of open_faults.DiskFault bad = absurd bad
frame_of (open_faults.BadLog frame) bad = (frame, refl)
frame_of open_faults.Memory bad = absurd bad

-- ---- statuses

-- what a status says of how it ended
pub record Ends (shown : Result (Unit {0}) ShowFault) : Type 0 where
  pub done : status_shown shown ≡ 0 → shown ≡ Ok tt
  pub usage : status_shown shown ≡ 2 → shown ≡ Err faults.Usage
  pub disk : status_shown shown ≡ 4 → shown ≡ Err (faults.Log open_faults.DiskFault)
  pub bad : status_shown shown ≡ 5 → (frame : ℕ) × (shown ≡ Err (faults.Log (open_faults.BadLog frame)))
  pub sink : status_shown shown ≡ 6 → shown ≡ Err (faults.Sink troubles.Failed)

pub ends : (shown : Result (Unit {0}) ShowFault) → Ends shown
ends (Ok done) = record { done = λ e. refl; usage = λ e. absurd (omega arith); disk = λ e. absurd (omega arith); bad = λ e. absurd (omega arith); sink = λ e. absurd (omega arith) }
ends (Err faults.Usage) = record { done = λ e. absurd (omega arith); usage = λ e. refl; disk = λ e. absurd (omega arith); bad = λ e. absurd (omega arith); sink = λ e. absurd (omega arith) }
ends (Err (faults.Log open_faults.DiskFault)) = record { done = λ e. absurd (omega arith); usage = λ e. absurd (omega arith); disk = λ e. refl; bad = λ e. absurd (omega arith); sink = λ e. absurd (omega arith) }
ends (Err (faults.Log (open_faults.BadLog frame))) = record { done = λ e. absurd (omega arith); usage = λ e. absurd (omega arith); disk = λ e. absurd (omega arith); bad = λ e. (frame, refl); sink = λ e. absurd (omega arith) }
ends (Err (faults.Log open_faults.Memory)) = record { done = λ e. absurd (omega arith); usage = λ e. absurd (omega arith); disk = λ e. absurd (omega arith); bad = λ e. absurd (omega arith); sink = λ e. absurd (omega arith) }
ends (Err (faults.Sink troubles.Failed)) = record { done = λ e. absurd (omega arith); usage = λ e. absurd (omega arith); disk = λ e. absurd (omega arith); bad = λ e. absurd (omega arith); sink = λ e. refl }
ends (Err (faults.Sink troubles.Memory)) = record { done = λ e. absurd (omega arith); usage = λ e. absurd (omega arith); disk = λ e. absurd (omega arith); bad = λ e. absurd (omega arith); sink = λ e. absurd (omega arith) }
ends (Err faults.Memory) = record { done = λ e. absurd (omega arith); usage = λ e. absurd (omega arith); disk = λ e. absurd (omega arith); bad = λ e. absurd (omega arith); sink = λ e. absurd (omega arith) }

pub shown_usage : (a b s t : ℕ) (shown : Result (Unit {0}) ShowFault) → status_shown shown ≡ 2 → IfErr shown (IsShowCause a b s t) → ⊥
shown_usage a b s t shown status cause = let is = (ends shown).usage status in rw is at cause

pub shown_done : {P : Type 0} (shown : Result (Unit {0}) ShowFault) → status_shown shown ≡ 0 → OnOk shown P → P
shown_done shown status said = let is = (ends shown).done status in rw is at said

pub shown_disk : (a b s t : ℕ) (shown : Result (Unit {0}) ShowFault) → status_shown shown ≡ 4 → IfErr shown (IsShowCause a b s t) → Rose a b
shown_disk a b s t shown status cause = let is = (ends shown).disk status in rw is at cause

pub shown_bad : {P : Type 0} (shown : Result (Unit {0}) ShowFault) → status_shown shown ≡ 5 → IfErr shown (λ fault. IsBadLog fault → P) → P
shown_bad {P} shown status said =
    let is = (ends shown).bad status in
    let so : IsBadLog (faults.Log (open_faults.BadLog is.0)) → P = subst (λ (r : Result (Unit {0}) ShowFault). IfErr r (λ fault. IsBadLog fault → P)) is.1 said in
    so tt

pub shown_sink : (a b s t : ℕ) (shown : Result (Unit {0}) ShowFault) → status_shown shown ≡ 6 → IfErr shown (IsShowCause a b s t) → StreamFaultsRose s t
shown_sink a b s t shown status cause = let is = (ends shown).sink status in rw is at cause

-- which statuses there are: all; those of an opening; and those of a log that was opened
pub known : (shown : Result (Unit {0}) ShowFault) → Contains (0 ∷ 2 ∷ 4 ∷ 5 ∷ 6 ∷ 7 ∷ []) (status_shown shown)
known (Ok done) = (0, omega arith, refl)
known (Err faults.Usage) = (1, omega arith, refl)
known (Err (faults.Log open_faults.DiskFault)) = (2, omega arith, refl)
known (Err (faults.Log (open_faults.BadLog frame))) = (3, omega arith, refl)
known (Err (faults.Log open_faults.Memory)) = (5, omega arith, refl)
known (Err (faults.Sink troubles.Failed)) = (4, omega arith, refl)
known (Err (faults.Sink troubles.Memory)) = (5, omega arith, refl)
known (Err faults.Memory) = (5, omega arith, refl)

pub of_opening : (fault : OpenFault) → Contains (2 ∷ 4 ∷ 5 ∷ 7 ∷ []) (fault_status (faults.Log fault))
of_opening open_faults.DiskFault = (1, omega arith, refl)
of_opening (open_faults.BadLog frame) = (2, omega arith, refl)
of_opening open_faults.Memory = (3, omega arith, refl)

pub of_opened : (a b s t : ℕ) (shown : Result (Unit {0}) ShowFault) → IfErr shown (IsShowCause a b s t) → IfErr shown (λ fault. IsBadLog fault → ⊥) → Contains (0 ∷ 4 ∷ 6 ∷ 7 ∷ []) (status_shown shown)
of_opened a b s t (Ok done) cause good = (0, omega arith, refl)
of_opened a b s t (Err faults.Usage) cause good = absurd cause
of_opened a b s t (Err (faults.Log open_faults.DiskFault)) cause good = (1, omega arith, refl)
of_opened a b s t (Err (faults.Log (open_faults.BadLog frame))) cause good = absurd (good tt)
of_opened a b s t (Err (faults.Log open_faults.Memory)) cause good = (3, omega arith, refl)
of_opened a b s t (Err (faults.Sink troubles.Failed)) cause good = (2, omega arith, refl)
of_opened a b s t (Err (faults.Sink troubles.Memory)) cause good = (3, omega arith, refl)
of_opened a b s t (Err faults.Memory) cause good = (3, omega arith, refl)

-- 0 is none of an opening
pub not_of_opening : Contains {X = ℕ} (2 ∷ 4 ∷ 5 ∷ 7 ∷ []) 0 → ⊥
not_of_opening (zero, within, is) = absurd (omega (arith, is))
not_of_opening (suc zero, within, is) = absurd (omega (arith, is))
not_of_opening (suc (suc zero), within, is) = absurd (omega (arith, is))
not_of_opening (suc (suc (suc zero)), within, is) = absurd (omega (arith, is))
not_of_opening (suc (suc (suc (suc k))), within, is) = absurd (omega (arith, within))

-- where the words were not read, the status tells why
pub record WordsEnd (fault : ShowFault) (P : Type 0) : Type 0 where
  pub opening : Contains (2 ∷ 4 ∷ 5 ∷ 7 ∷ []) (fault_status fault)
  pub memory : fault_status fault ≢ 2 → fault_status fault ≡ 7
  pub usage : fault_status fault ≡ 2 → P
  pub done : fault_status fault ≡ 0 → ⊥
  pub disk : fault_status fault ≡ 4 → ⊥
  pub bad : fault_status fault ≡ 5 → ⊥
  pub sink : fault_status fault ≡ 6 → ⊥

pub words_end : {P : Type 0} (fault : ShowFault) → (fault ≡ faults.Memory) ⊎ ((fault ≡ faults.Usage) × P) → WordsEnd fault P
words_end fault (inl is) =
    let status : fault_status fault ≡ 7 = ap fault_status is in
    record {
      opening = (3, omega arith, sym status);
      memory = λ other. status;
      usage = λ e. absurd (omega arith);
      done = λ e. omega arith;
      disk = λ e. omega arith;
      bad = λ e. omega arith;
      sink = λ e. omega arith;
    }
words_end fault (inr (is, none)) =
    let status : fault_status fault ≡ 2 = ap fault_status is in
    record {
      opening = (0, omega arith, sym status);
      memory = λ other. absurd (other status);
      usage = λ e. none;
      done = λ e. omega arith;
      disk = λ e. omega arith;
      bad = λ e. omega arith;
      sink = λ e. omega arith;
    }

-- ---- words

serve_or_log : codes "serve" ≡ codes "log" → ⊥
serve_or_log e = let long : length (codes "serve") ≡ length (codes "log") = ap length e in omega arith

log_or_gen : codes "log" ≡ codes "gen" → ⊥
log_or_gen e = let first : get_or (codes "log") 0 0 ≡ get_or (codes "gen") 0 0 = ap (λ text. get_or text 0 0) e in omega arith

pub no_log_either : (words options : List (List ℕ)) (plan : LogPlan) → words ≡ codes "gen" ∷ options → IsPlan words (plans.Log plan) → ⊥
no_log_either words options plan e (others, e', is) = log_or_gen (its_options words others options _ _ e' e).0

pub no_log : (words options : List (List ℕ)) (plan : LogPlan) → words ≡ codes "serve" ∷ options → IsPlan words (plans.Log plan) → ⊥
no_log words options plan e (others, e', is) = serve_or_log (its_options words options others _ _ e e').0

-- no call
pub opens_same : {D : Type 0} (disks : Ghosts D) (disk : D) → Opens disks disk disk
opens_same disks disk = record {
  later = omega arith;
  same = λ t long. refl;
  short = λ t few. few;
  crash = λ t c image. inl image;
  time = λ t. leaves_none (disks.view disk).moment (disks.since disk) (LeftByOpening (disks.view disk).contents (disks.images disk));
}

-- an opening, and then another one
module _ {D : Type 0} (disks : Ghosts D) (told : IsTrue disks.tells_images → IsTrue disks.tells) (old mid new : D) (first : Opens disks old mid) (second : Opens disks mid new) where
  abbrev was : List ℕ
  was = (disks.view old).contents

  left_again : IsTrue disks.tells_images → (c : List ℕ) → LeftByOpening (disks.view mid).contents (disks.images mid) c → LeftByOpening was (disks.images old) c
  left_again t c (inl image) = first.crash t c image
  left_again t c (inr short) = elim (cases_lt 1 (length was)) [
    | inl long ↦ absurd (let no : ⊥ = omega (arith, long, short.0, ap length (first.same (told t) long)) in no)
    | inr few ↦ inr (omega (arith, few), short.1)
  ]

  left_of_both : IsTrue disks.tells_images → (c : List ℕ) → LeftByOpening was (disks.images old) c ⊎ LeftByOpening (disks.view mid).contents (disks.images mid) c → LeftByOpening was (disks.images old) c
  left_of_both t c (inl left) = left
  left_of_both t c (inr left) = left_again t c left

  pub opens_again : Opens disks old new
  opens_again = record {
    later = omega (arith, first.later, second.later);
    same = λ t long.
        let then : 1 < length (disks.view mid).contents = omega (arith, long, ap length (first.same t long)) in
        second.same t then ∙ first.same t long;
    short = λ t few. second.short t (first.short t few);
    crash = λ t c image. left_again t c (second.crash t c image);
    time = λ t.
        leaves_weaker (disks.view old).moment (disks.view new).moment (disks.since old) (disks.since new)
        (λ c. LeftByOpening was (disks.images old) c ⊎ LeftByOpening (disks.view mid).contents (disks.images mid) c) (LeftByOpening was (disks.images old)) (left_of_both t)
        (leaves_then (disks.view old).moment (disks.view mid).moment (disks.view new).moment (disks.since old) (disks.since mid) (disks.since new)
        (LeftByOpening was (disks.images old)) (LeftByOpening (disks.view mid).contents (disks.images mid)) (first.time t) (second.time t));
  }
