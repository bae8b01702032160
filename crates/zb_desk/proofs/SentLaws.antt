-- Laws of the serial run in a history: each packet that is delivered was sent, so its entries go on with every history of its logs.
use Rattle.std.proofs.Common.{◌≡◌, ◌⊎◌, ◌<◌, ◌≤◌, ◌+◌, ◌-◌, ℕ, zero, suc, List, [], ◌∷◌, ◌++◌, length, map, take, drop, filter, slice_get, sum_by, Bool, true, false, All, IsTrue, Option, Some, None, if◌then◌else◌, refl, sym, ap, ◌∙◌, subst, inl, inr, ⊎_elim, arith, append_assoc, length-append}
use Rattle.std.specs.Option.{option_or}
use Rattle.std.specs.List.{list_any, AllByRecursion, range_with_len}
use Rattle.std.proofs.lemmas.Bool.{cases_eq}
use Rattle.std.proofs.lemmas.List.{length-map, take_all, append-nil}
use Rattle.std.proofs.lemmas.List.FromFn.{length-range_with_len}
use Rattle.std.proofs.lemmas.List.Elements.{Contains-append_right, All-head, All-tail}
use Rattle.std.proofs.lemmas.List.Sums.{sum_by-cons}
use Rattle.std.proofs.lemmas.Option.{slice_get_within}
use Rattle.zb_model.specs.declared.record.Batch.{Batch}
use Rattle.zb_model.specs.declared.record.Command.{Command}
use Rattle.zb_model.specs.declared.record.Command.TheVariants as commands
use Rattle.zb_model.specs.declared.record.Packet.{Packet}
use Rattle.zb_views.specs.View.{events_in, events_of}
use Rattle.zb_views.specs.Standing.{begun_by}
use Rattle.zb_record.specs.Answers.{answer_packet}
use Rattle.zb_record.specs.Packets.{kept_by, outbox_of, delivery_of, is_by_packet}
use Rattle.zb_rules.specs.Step.{IsStep, EachOn, AreStepsOn}
use Rattle.zb_rules.proofs.StepLaws.{each_on_more, are_steps_more}
use Rattle.zb_world.specs.Entries.{IsPartitionOf, part_of, parts_of}
use Rattle.zb_world.specs.declared.entry.Entry.{Entry}
use Rattle.zb_world.proofs.EntryLaws.{part_of_joined, part_of_its, part_of_other}
use Rattle.zb_world.specs.History.{IsSentAmong, IsEntryOf, IsHistory}
use Rattle.zb_world.proofs.HistoryLaws.{history_more, history_within}
use Rattle.zb_world.proofs.PacketLaws.{outbox_was_sent}
use Rattle.zb_wire.specs.declared.request.Request.{Request}
use Rattle.zb_desk.specs.Serial.{Basis, log_behind, place_behind, next_asked, is_unit_command, is_unit, units_in, answers_sent, unit_in_logs, next_unit, IsNextEntry, IsNextUnit}
use Rattle.zb_desk.proofs.SerialLaws.{asked_no_unit}
use Rattle.zb_desk.proofs.UnitLaws.{AllHave, first_has, answers_have, first_sent_in, unit_in}

-- an entry stands among some
abbrev pub StandsIn : List Entry → Entry → Type 0
StandsIn h entry = (place : ℕ) × (slice_get h place ≡ Some entry)

-- an entry follows on these entries of a run: it begins at its own place, and if its command is taken by a packet, it is the next unit of work behind some of them
pub record FollowsOn (logs : List (List Batch)) (front : List Entry) (entry : Entry) : Type 0 where
  pub begin : entry.batch.begin ≡ place_behind logs front
  pub unit : IsTrue (is_by_packet entry.batch.command)
      → (units : List Entry) × AllByRecursion (StandsIn front) units × (unit_in_logs logs units front ≡ Some (entry.partition, entry.batch.command))

-- what stands behind others
stands_behind : (base front : List Entry) (entry : Entry) → StandsIn front entry → StandsIn (base ++ front) entry
stands_behind [] front entry there = there
stands_behind (e ∷ base) front entry there = let later = stands_behind base front entry there in (suc later.0, later.1)

all_stand_behind : (base front units : List Entry) → AllByRecursion (StandsIn front) units → AllByRecursion (StandsIn (base ++ front)) units
all_stand_behind base front [] all = tt
all_stand_behind base front (unit ∷ units) all = (stands_behind base front unit all.0, all_stand_behind base front units all.1)

all_stand : (xs : List Entry) → AllByRecursion (StandsIn xs) xs
all_stand [] = tt
all_stand (x ∷ xs) = ((0, refl), all_stand_behind (x ∷ []) xs xs (all_stand xs))

some_stand : (h xs : List Entry) (test : Entry → Bool) → AllByRecursion (StandsIn h) xs → AllByRecursion (StandsIn h) (filter test xs)
some_stand h [] test all = tt
some_stand h (x ∷ xs) test all = by_test (test x) refl (some_stand h xs test all.1)
  where
    by_test : (t : Bool) → test x ≡ t → AllByRecursion (StandsIn h) (filter test xs) → AllByRecursion (StandsIn h) (filter test (x ∷ xs))
    by_test true is rest = rw is (all.0, rest)
    by_test false is rest = rw is rest

-- a command that is taken by a packet is a unit of work
by_packet_unit : (command : Command) → IsTrue (is_by_packet command) → is_unit_command command ≡ true
by_packet_unit commands.ProcessInstanceBatchContinue is = refl
by_packet_unit command is = is

few_units : (few : Bool) (next : Option (ℕ × Command)) (x : ℕ × Command) → (if few then next else None) ≡ Some x → next ≡ Some x
few_units true next x is = is
few_units false next x is = absurd (cc)

none_asked : (any : Bool) (next : Option (ℕ × Command)) (x : ℕ × Command) → (if any then None else next) ≡ Some x → next ≡ Some x
none_asked true next x is = absurd (cc)
none_asked false next x is = is

either_found : (a b : Option (ℕ × Command)) (x : ℕ × Command) → option_or a b ≡ Some x → (a ≡ Some x) ⊎ (b ≡ Some x)
either_found None b x is = inr is
either_found (Some y) b x is = inl is

no_both : (t : Bool) → t ≡ true → t ≡ false → ⊥
no_both t is other = let e : true ≡ false = sym is ∙ other in cc (e)

-- the next unit of work follows on
pub unit_follows_on : (basis : Basis) (reading : ℕ) (earlier done : List Entry) (entry : Entry) → IsNextUnit basis reading earlier done entry → FollowsOn basis.logs (earlier ++ done) entry
unit_follows_on basis reading earlier done entry next = record {
  begin = next.begin;
  unit = λ by. (done, all_stand_behind earlier done done (all_stand done), few_units _ _ _ next.command);
}

-- and so does the entry that comes next for a request
pub asked_follows_on : (basis : Basis) (request : Request) (reading : ℕ) (earlier done : List Entry) (entry : Entry) → IsNextEntry basis request reading earlier done entry → FollowsOn basis.logs (earlier ++ done) entry
asked_follows_on basis request reading earlier done entry next = record {
  begin = next.begin;
  unit = λ by.
      let found = either_found (if list_any is_unit done then None else next_asked basis.logs request reading earlier done) (next_unit basis (units_in done) (earlier ++ done)) (entry.partition, entry.batch.command) next.command in
      let is : next_unit basis (units_in done) (earlier ++ done) ≡ Some (entry.partition, entry.batch.command) =
      ⊎_elim (λ asked. absurd (no_both _ (by_packet_unit entry.batch.command by) (asked_no_unit basis.logs request reading earlier done entry.partition entry.batch.command (none_asked _ _ _ asked)))) (λ unit. unit) found in
      (units_in done, all_stand_behind earlier done (units_in done) (some_stand done done is_unit (all_stand done)), few_units _ _ _ is);
}

-- in a history
module _ (n : ℕ) (h : List Entry) where
  -- a packet that comes next was sent, if it is one
  abbrev WasTaken : ℕ × Command → Type 0
  WasTaken next = IsTrue (is_by_packet next.1) → (packet : Packet) × IsSentAmong n h (length h) packet × (delivery_of packet ≡ next)

  all_taken : (packets : List Packet) → AllByRecursion (IsSentAmong n h (length h)) packets → AllHave WasTaken packets
  all_taken [] all = tt
  all_taken (packet ∷ packets) all = ((λ by. (packet, all.0, refl)), all_taken packets all.1)

  -- the answer of an entry that stands in it was sent
  answer_taken : (unit : Entry) → StandsIn h unit → (answer : Option Packet) → answer_packet unit.partition n unit.batch ≡ answer → AllHave WasTaken (begun_by answer)
  answer_taken unit there None is = tt
  answer_taken unit there (Some packet) is = (
    (λ by. (
      packet,
      record {
        place = there.0;
        sender = unit;
        at = there.1;
        before = slice_get_within h there.0 unit there.1;
        sends = Contains-append_right (kept_by unit.partition n (events_in unit.batch.outcome)) (begun_by (answer_packet unit.partition n unit.batch)) packet (rw is (0, omega arith, refl));
      },
      refl,
    )),
    tt,
  )

  answers_taken : (units : List Entry) → AllByRecursion (StandsIn h) units → AllHave WasTaken (answers_sent n units)
  answers_taken units all = answers_have WasTaken n (StandsIn h) (λ unit there. answer_taken unit there (answer_packet unit.partition n unit.batch) refl) units all

-- the part of each partition, by its place
part_at : (base : List Entry) (start n k : ℕ) (log : List Batch) → slice_get (map (λ p. part_of p base) (range_with_len start n)) k ≡ Some log → part_of (start + k) base ≡ log
part_at base start zero k log at = absurd (cc)
part_at base start (suc n) zero log at =
    let here : start + 0 ≡ start = omega arith in
    ap (λ p. part_of p base) here ∙ (let same : part_of start base ≡ log = cc in same)
part_at base start (suc n) (suc k) log at =
    let on : start + suc k ≡ (start + 1) + k = omega arith in
    ap (λ p. part_of p base) on ∙ part_at base (start + 1) n k log at

-- there are as many entries as the parts have batches
more_in_one : (f g : ℕ → List Batch) (at start n : ℕ) → start ≤ at → at < start + n → ((k : ℕ) → (k ≡ at → ⊥) → f k ≡ g k) → length (f at) ≡ suc (length (g at))
    → sum_by length (map f (range_with_len start n)) ≡ suc (sum_by length (map g (range_with_len start n)))
more_in_one f g at start zero above below same one = absurd (let no : ⊥ = omega (arith, above, below) in no)
more_in_one f g at start (suc n) above below same one =
    sum_by-cons length (f start) (map f (range_with_len (start + 1) n))
    ∙ (elim (cases_eq start at) [
      | inl its ↦
          let first : length (f start) ≡ suc (length (g start)) = ap (λ k. length (f k)) its ∙ (one ∙ ap (λ k. suc (length (g k))) (sym its)) in
          let rest : sum_by length (map f (range_with_len (start + 1) n)) ≡ sum_by length (map g (range_with_len (start + 1) n)) = ap (sum_by length) (rest_same f g at (start + 1) n (omega (arith, its)) same) in
          omega (arith, first, rest, sum_by-cons length (g start) (map g (range_with_len (start + 1) n)))
      | inr other ↦
          let first : length (f start) ≡ length (g start) = ap length (same start other) in
          let rest = more_in_one f g at (start + 1) n (omega (arith, above, other)) (omega (arith, below)) same one in
          omega (arith, first, rest, sum_by-cons length (g start) (map g (range_with_len (start + 1) n)))
    ])
  where
    rest_same : (f g : ℕ → List Batch) (at from m : ℕ) → at < from → ((k : ℕ) → (k ≡ at → ⊥) → f k ≡ g k) → map f (range_with_len from m) ≡ map g (range_with_len from m)
    rest_same f g at from zero past same = refl
    rest_same f g at from (suc m) past same =
        ap (λ x. x ∷ map f (range_with_len (from + 1) m)) (same from (λ its. let no : ⊥ = omega (arith, past, its) in no))
        ∙ ap (λ xs. g from ∷ xs) (rest_same f g at (from + 1) m (omega (arith, past)) same)

none_in_all : (start n : ℕ) → sum_by length (map (λ p. part_of p []) (range_with_len start n)) ≡ 0
none_in_all start zero = refl
none_in_all start (suc n) = let rest = none_in_all (start + 1) n in omega (arith, rest, sum_by-cons length (part_of start []) (map (λ p. part_of p []) (range_with_len (start + 1) n)))

-- the parts of all partitions have as many batches as there are entries
pub parts_count : (n : ℕ) (h : List Entry) → All (λ entry. IsPartitionOf n entry.partition) h → sum_by length (parts_of n h) ≡ length h
parts_count n [] all = none_in_all 1 n
parts_count n (e ∷ h) all =
    let its = All-head (λ (entry : Entry). IsPartitionOf n entry.partition) e h all in
    more_in_one (λ p. part_of p (e ∷ h)) (λ p. part_of p h) e.partition 1 n its.0 (omega (arith, its.1)) (λ k other. part_of_other k e h (λ same. other (sym same))) (ap length (part_of_its e.partition e h refl))
    ∙ ap suc (parts_count n h (All-tail (λ (entry : Entry). IsPartitionOf n entry.partition) e h all))

-- the entries of a run, each of which follows on those before it, and whose parts are steps on the logs
pub record AreSerially (n : ℕ) (logs : List (List Batch)) (entries : List Entry) : Type 0 where
  pub within : AllByRecursion (λ entry. IsPartitionOf n entry.partition) entries
  pub each : EachOn (FollowsOn logs) [] entries
  pub steps : (p : ℕ) (log : List Batch) → 1 ≤ p → slice_get logs (p - 1) ≡ Some log → AreStepsOn p n log (part_of p entries)

slice_taken : {A : Type 0} (xs : List A) (k : ℕ) (x : A) → slice_get xs k ≡ Some x → (take (suc k) xs ≡ take k xs ++ x ∷ []) × (xs ≡ take k xs ++ x ∷ drop (suc k) xs)
slice_taken [] k x at = absurd (cc)
slice_taken (y ∷ ys) zero x at = let same : y ≡ x = cc in (ap (λ z. z ∷ []) same, ap (λ z. z ∷ ys) same)
slice_taken (y ∷ ys) (suc k) x at = let rest = slice_taken ys k x at in (ap (λ zs. y ∷ zs) rest.0, ap (λ zs. y ∷ zs) rest.1)

slice_past : {A : Type 0} (xs : List A) (k : ℕ) → slice_get xs k ≡ None → take (suc k) xs ≡ take k xs
slice_past [] zero at = refl
slice_past [] (suc k) at = refl
slice_past (y ∷ ys) zero at = absurd (cc)
slice_past (y ∷ ys) (suc k) at = ap (λ zs. y ∷ zs) (slice_past ys k at)

at_length : {A : Type 0} (xs : List A) (y : A) (zs : List A) → (slice_get (xs ++ y ∷ zs) (length xs) ≡ Some y) × (take (length xs) (xs ++ y ∷ zs) ≡ xs)
at_length [] y zs = (refl, refl)
at_length (x ∷ xs) y zs = let rest = at_length xs y zs in (rest.0, ap (λ ws. x ∷ ws) rest.1)

all_at : {A : Type 0} (P : A → Type 0) (xs : List A) (k : ℕ) (x : A) → AllByRecursion P xs → slice_get xs k ≡ Some x → P x
all_at P [] k x all at = absurd (cc)
all_at P (y ∷ ys) zero x all at = let same : y ≡ x = cc in subst P same all.0
all_at P (y ∷ ys) (suc k) x all at = all_at P ys k x all.1 at

-- the part of a partition stands at its place
part_there : (base : List Entry) (start n k : ℕ) → k < n → slice_get (map (λ p. part_of p base) (range_with_len start n)) k ≡ Some (part_of (start + k) base)
part_there base start zero k within = absurd (let no : ⊥ = omega (arith, within) in no)
part_there base start (suc n) zero within = ap (λ p. Some (part_of p base)) (let here : start ≡ start + 0 = omega arith in here)
part_there base start (suc n) (suc k) within =
    part_there base (start + 1) n k (omega (arith, within)) ∙ ap (λ p. Some (part_of p base)) (let on : (start + 1) + k ≡ start + suc k = omega arith in on)

module _ (n : ℕ) (logs : List (List Batch)) (entries : List Entry) (are : AreSerially n logs entries) (base : List Entry) (is : IsHistory n base) (parts : parts_of n base ≡ logs) where
  many : length logs ≡ n
  many = ap length (sym parts) ∙ (length-map (range_with_len 1 n) (λ p. part_of p base) ∙ length-range_with_len 1 n)

  base_count : sum_by length logs ≡ length base
  base_count = ap (sum_by length) (sym parts) ∙ parts_count n base (history_within n base is)

  -- each of them is the next entry behind the history and those before it
  module _ (k : ℕ) (entry : Entry) (at : slice_get entries k ≡ Some entry) (history : IsHistory n (base ++ take k entries)) where
    abbrev front : List Entry
    front = take k entries

    abbrev behind : List Entry
    behind = base ++ front

    abbrev p : ℕ
    p = entry.partition

    comes : FollowsOn logs front entry
    comes = are.each k entry at

    its : IsPartitionOf n p
    its = all_at (λ (e : Entry). IsPartitionOf n e.partition) entries k entry are.within at

    begins : entry.batch.begin ≡ length behind
    begins = omega (arith, comes.begin, base_count, length-append base front)

    part_split : part_of p entries ≡ part_of p front ++ entry.batch ∷ part_of p (drop (suc k) entries)
    part_split =
        ap (part_of p) (slice_taken entries k entry at).1
        ∙ (part_of_joined p front (entry ∷ drop (suc k) entries) ∙ ap (λ bs. part_of p front ++ bs) (part_of_its p entry (drop (suc k) entries) refl))

    step : IsStep p n (part_of p behind) entry.batch
    step =
        let here : slice_get logs (p - 1) ≡ Some (part_of p base) = ap (λ (ls : List (List Batch)). slice_get ls (p - 1)) (sym parts)
        ∙ (part_there base 1 n (p - 1) (omega (arith, its.0, its.1)) ∙ ap (λ q. Some (part_of q base)) (let on : 1 + (p - 1) ≡ p = omega (arith, its.0) in on)) in
        let split = at_length (part_of p front) entry.batch (part_of p (drop (suc k) entries)) in
        let steps = subst (λ (bs : List Batch). AreStepsOn p n (part_of p base) bs) part_split (are.steps p (part_of p base) its.0 here) in
        let one : IsStep p n (part_of p base ++ take (length (part_of p front)) (part_of p front ++ entry.batch ∷ part_of p (drop (suc k) entries))) entry.batch = steps (length (part_of p front)) entry.batch split.0 in
        subst (λ (l : List Batch). IsStep p n l entry.batch) (ap (λ bs. part_of p base ++ bs) split.1 ∙ sym (part_of_joined p base front)) one

    boxes : (j : ℕ) (log : List Batch) → slice_get logs j ≡ Some log → AllHave (WasTaken n behind) (outbox_of (1 + j) n (events_of (log_behind (1 + j) log front)))
    boxes j log there =
        let own : part_of (1 + j) base ≡ log = part_at base 1 n j log (ap (λ (ls : List (List Batch)). slice_get ls j) parts ∙ there) in
        let whole : part_of (1 + j) behind ≡ log ++ part_of (1 + j) front = part_of_joined (1 + j) base front ∙ ap (λ l. l ++ part_of (1 + j) front) own in
        subst (λ (l : List Batch). AllHave (WasTaken n behind) (outbox_of (1 + j) n (events_of l))) whole (all_taken n behind (outbox_of (1 + j) n (events_of (part_of (1 + j) behind))) (outbox_was_sent n (1 + j) behind history))

    taken : WasTaken n behind (p, entry.batch.command)
    taken = λ by.
        let unit = comes.unit by in
        unit_in (WasTaken n behind) n logs unit.0 front many (λ j above below packet. absurd (cc (packet)))
        (first_has (WasTaken n behind) _ (answers_sent n unit.0) (answers_taken n behind unit.0 (all_stand_behind base front unit.0 unit.1)))
        (first_sent_in (WasTaken n behind) n 1 logs front boxes) (p, entry.batch.command) unit.2 by

    -- so it is an entry of a history behind those before it
    pub is_next : IsEntryOf n behind entry
    is_next = record {
      partition = its;
      step = step;
      begin = omega (arith, begins);
      packet = λ by.
          let sent = taken by in
          record {
            packet = sent.0;
            sent = subst (λ (below : ℕ). IsSentAmong n behind below sent.0) (sym begins) sent.1;
            to = ap (λ (x : ℕ × Command). x.0) sent.2;
            command = ap (λ (x : ℕ × Command). x.1) sent.2;
          };
    }

  goes_on_to : (k : ℕ) → IsHistory n (base ++ take k entries)
  goes_on_to zero = subst (IsHistory n) (sym (append-nil base)) is
  goes_on_to (suc k) = by_next (slice_get entries k) refl (goes_on_to k)
    where
      by_next : (found : Option Entry) → slice_get entries k ≡ found → IsHistory n (base ++ take k entries) → IsHistory n (base ++ take (suc k) entries)
      by_next None none history = subst (λ (es : List Entry). IsHistory n (base ++ es)) (sym (slice_past entries k none)) history
      by_next (Some entry) at history =
          subst (λ (es : List Entry). IsHistory n (base ++ es)) (sym (slice_taken entries k entry at).0)
          (subst (IsHistory n) (append_assoc base (take k entries) (entry ∷ [])) (history_more n (base ++ take k entries) entry history (is_next k entry at history)))

  -- so they go on with it
  pub serial_goes_on : IsHistory n (base ++ entries)
  serial_goes_on = subst (λ (es : List Entry). IsHistory n (base ++ es)) (take_all (length entries) entries (omega arith)) (goes_on_to (length entries))

-- one more follows on, and is a step on its log
pub serially_more : (n : ℕ) (logs : List (List Batch)) (entries : List Entry) (entry : Entry) → AreSerially n logs entries → IsPartitionOf n entry.partition → FollowsOn logs entries entry
    → ((log : List Batch) → slice_get logs (entry.partition - 1) ≡ Some log → IsStep entry.partition n (log_behind entry.partition log entries) entry.batch) → AreSerially n logs (entries ++ entry ∷ [])
serially_more n logs entries entry are its comes step = record {
  within = all_joined entries are.within;
  each = each_on_more (FollowsOn logs) [] entries entry are.each comes;
  steps = λ p log above at. elim (cases_eq entry.partition p) [
    | inl same ↦
        let one : part_of p (entries ++ entry ∷ []) ≡ part_of p entries ++ entry.batch ∷ [] = part_of_joined p entries (entry ∷ []) ∙ ap (λ bs. part_of p entries ++ bs) (part_of_its p entry [] same) in
        let here = subst (λ (q : ℕ). slice_get logs (q - 1) ≡ Some log) (sym same) at in
        subst (AreStepsOn p n log) (sym one) (are_steps_more p n log (part_of p entries) entry.batch (are.steps p log above at) (subst (λ (q : ℕ). IsStep q n (log ++ part_of q entries) entry.batch) same (step log here)))
    | inr other ↦
        let none : part_of p (entries ++ entry ∷ []) ≡ part_of p entries = part_of_joined p entries (entry ∷ []) ∙ (ap (λ bs. part_of p entries ++ bs) (part_of_other p entry [] other) ∙ append-nil (part_of p entries)) in
        subst (AreStepsOn p n log) (sym none) (are.steps p log above at)
  ];
}
  where
    all_joined : (xs : List Entry) → AllByRecursion (λ (e : Entry). IsPartitionOf n e.partition) xs → AllByRecursion (λ (e : Entry). IsPartitionOf n e.partition) (xs ++ entry ∷ [])
    all_joined [] all = (its, tt)
    all_joined (x ∷ xs) all = (all.0, all_joined xs all.1)

-- the last one may be the next one behind a history of the logs and the others
pub last_comes : (n : ℕ) (logs : List (List Batch)) (entries : List Entry) (entry : Entry) → AreSerially n logs (entries ++ entry ∷ []) → (base : List Entry) → IsHistory n base → parts_of n base ≡ logs
    → IsHistory n (base ++ entries) → IsEntryOf n (base ++ entries) entry
last_comes n logs entries entry are base is parts history =
    let split = at_length entries entry [] in
    subst (λ (es : List Entry). IsEntryOf n (base ++ es) entry) split.1
    (is_next n logs (entries ++ entry ∷ []) are base is parts (length entries) entry split.0 (subst (λ (es : List Entry). IsHistory n (base ++ es)) (sym split.1) history))
