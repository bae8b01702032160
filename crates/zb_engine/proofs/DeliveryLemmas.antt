-- Units of work that are done one after the other, and the answers that are in hand.
use Rattle.std.proofs.Common.{◌≡◌, ◌<◌, ◌≤◌, ◌+◌, nat_lt, nat_le, ℕ, zero, suc, List, [], ◌∷◌, ◌++◌, length, filter, drop, slice_get, Bool, true, false, if◌then◌else◌, Option, Some, None, option_map, refl, sym, ap, ◌∙◌, subst, inl, inr, arith, length-append, append-nil}
use Rattle.std.proofs.lemmas.Bool.{cases_eq}
use Rattle.std.proofs.lemmas.Bool.Decides.{nat_tests}
use Rattle.std.proofs.lemmas.List.{length-map}
use Rattle.std.proofs.lemmas.List.Elements.{filter-append}
use Rattle.std.proofs.lemmas.List.Concat.{flat_map-append}
use Rattle.zb_disk.specs.declared.disk.Disk.{Ghosts}
use Rattle.zb_model.specs.declared.record.Batch.{Batch}
use Rattle.zb_model.specs.declared.record.Command.{Command}
use Rattle.zb_model.specs.declared.record.Command.TheVariants as commands
use Rattle.zb_base.specs.Key.{home_of}
use Rattle.zb_model.specs.declared.record.Packet.{Packet}
use Rattle.zb_model.specs.declared.stop.Stop.{Stop}
use Rattle.zb_model.specs.declared.stop.Stop.TheVariants as stops
use Rattle.zb_views.specs.Standing.{begun_by}
use Rattle.zb_record.specs.declared.sending.Sending.{Sending}
use Rattle.zb_record.specs.declared.sending.Sending.TheVariants as sending
use Rattle.zb_record.specs.Partitions.{partition_known, home_known}
use Rattle.zb_record.specs.Answers.{answer_packet, is_answer}
use Rattle.zb_record.specs.Packets.{packet_alone, delivery_of}
use Rattle.zb_rules.specs.Own.{IsSupported}
use Rattle.zb_world.specs.Entries.{as_entry}
use Rattle.zb_world.specs.declared.entry.Entry.{Entry}
use Rattle.zb_desk.specs.Asking.{IsDelivered, IsDeliveryCut}
use Rattle.zb_desk.specs.Serial.{answers_sent, answers_in_hand, first_sent, unit_in_logs, next_unit}
use Rattle.zb_desk.proofs.UnitLaws.{AnyHas, AllHave, first_has, all_answers_have, first_sent_has, unit_has}
use Rattle.zb_partition.specs.Ledger.{Opening}
use Rattle.zb_engine.specs.Solo.{Start, many_in, logs_in, basis_in, CanBeDone, HasMade, HasEnded, IsPlaced, IsTurnedAway}
use Rattle.zb_engine.specs.declared.solo.Solo.{Solo}
use Rattle.zb_engine.proofs.NextLemmas.{AreMade, entry_next, command_is, next_none, next_more}

-- the test of an order
pub lt_is : (a b : ℕ) → a < b → nat_lt a b ≡ true
lt_is a b lt = grind (arith, nat_tests)

pub not_lt : (a b : ℕ) → b ≤ a → nat_lt a b ≡ false
not_lt a b ge = grind (arith, nat_tests)

-- an answer is run
answer_run : (command : Command) → is_answer command ≡ true → IsSupported command
answer_run (commands.CommandDistributionAcknowledge c) is = tt
answer_run (commands.ProcessMessageSubscriptionCreate key) is = tt
answer_run (commands.MessageSubscriptionCorrelate c) is = tt
answer_run (commands.MessageSubscriptionReject c) is = tt
answer_run (commands.ProcessMessageSubscriptionDelete key) is = tt
answer_run _ is = absurd (cc)

-- a partition that there is
pub partition_known_within : (n q : ℕ) → 1 ≤ n → partition_known n q ≤ n
partition_known_within n q some = grind (arith, nat_tests)

pub home_within : (key : List ℕ) (n : ℕ) → 1 ≤ n → home_of key n ≤ n
home_within key n some = omega arith

home_known_within : (n : ℕ) (key : List ℕ) → 1 ≤ n → home_known n key ≤ n
home_known_within n key some = by_test (nat_le 1 n)
  where
    by_test : (t : Bool) → (if t then home_of key n else 1) ≤ n
    by_test true = home_within key n some
    by_test false = some

-- what is sent again can be done
alone_can : (p n : ℕ) (s : Sending) → 1 ≤ n → AllHave (CanBeDone n) (begun_by (packet_alone p n s))
alone_can p n (sending.Definition d) some = tt
alone_can p n (sending.Opening s) some = ((home_known_within n s.correlation_key some, tt), tt)
alone_can p n (sending.Correlating c) some = ((partition_known_within n _ some, tt), tt)
alone_can p n (sending.Closing s) some = ((home_known_within n s.correlation_key some, tt), tt)

-- and so can the unit of work that comes next by logs
unit_can : (n : ℕ) (logs : List (List Batch)) (units entries : List Entry) (next : ℕ × Command) → length logs ≡ n → 1 ≤ n → unit_in_logs logs units entries ≡ Some next → CanBeDone n next
unit_can n logs units entries next many some is =
    unit_has (CanBeDone n) n (λ p d version m. (partition_known_within n d.partition some, tt)) (λ p s. alone_can p n s some) logs units entries many (λ k above below. (below, tt))
    (first_has (CanBeDone n) _ (answers_sent n units) (all_answers_have (CanBeDone n) n (λ key c answer. (partition_known_within n _ some, answer_run c answer)) units)) next is

-- how many answers were taken
abbrev pub taken : List Entry → ℕ
taken units = length (filter (λ entry. is_answer entry.batch.command) units)

-- there were so many to take
abbrev pub AreSent : ℕ → List Entry → Type 0
AreSent n units = taken units ≤ length (answers_sent n units)

-- what is in hand behind a unit, if these were in hand before
abbrev pub hand_behind : (n p : ℕ) → Batch → List Packet → List Packet
hand_behind n p batch hand = (if is_answer batch.command then drop 1 hand else hand) ++ begun_by (answer_packet p n batch)

none_left : {A : Type 0} (xs : List A) → slice_get (drop (length xs) xs) 0 ≡ None
none_left [] = refl
none_left (x ∷ xs) = none_left xs

drop_more : {A : Type 0} (k : ℕ) (xs : List A) → drop 1 (drop k xs) ≡ drop (suc k) xs
drop_more zero xs = refl
drop_more (suc k) [] = refl
drop_more (suc k) (x ∷ xs) = drop_more k xs

drop_front : {A : Type 0} (k : ℕ) (xs ys : List A) → k ≤ length xs → drop k (xs ++ ys) ≡ drop k xs ++ ys
drop_front zero xs ys few = refl
drop_front (suc k) [] ys few = absurd (let no : ⊥ = omega (arith, few) in no)
drop_front (suc k) (x ∷ xs) ys few = drop_front k xs ys (omega (arith, few))

-- what is sent again is no answer
abbrev NoAnswer : ℕ × Command → Type 0
NoAnswer next = is_answer next.1 ≡ false

alone_is_none : (p n : ℕ) (s : Sending) → AllHave NoAnswer (begun_by (packet_alone p n s))
alone_is_none p n (sending.Definition d) = tt
alone_is_none p n s = (refl, tt)

pub sent_is_no_answer : (n p : ℕ) (logs : List (List Batch)) (entries : List Entry) (packet : Packet) → first_sent n p logs entries ≡ Some packet → is_answer packet.command ≡ false
sent_is_no_answer n p logs entries packet is =
    first_sent_has NoAnswer n (λ q d version m. refl) (λ q s. alone_is_none q n s) p logs entries (delivery_of packet) (ap (option_map delivery_of) is)

-- an answer that is a unit of work was in hand

answer_left : (logs : List (List Batch)) (units entries : List Entry) (next : ℕ × Command) → AreSent (length logs) units → unit_in_logs logs units entries ≡ Some next → is_answer next.1 ≡ true
    → taken units < length (answers_sent (length logs) units)
answer_left logs units entries next sent is answer =
    elim (cases_eq (taken units) (length (answers_sent (length logs) units))) [
      | inl all ↦ absurd (let other = unit_has NoAnswer (length logs) (λ p d version m. refl) (λ p s. alone_is_none p (length logs) s) logs units entries refl (λ k above below. refl) (none_in_hand all) next is in let no : ⊥ = cc (sym answer ∙ other) in no)
      | inr other ↦ omega (arith, sent, other)
    ]
  where
    none_in_hand : taken units ≡ length (answers_sent (length logs) units) → AnyHas NoAnswer (option_map delivery_of (slice_get (answers_in_hand (length logs) units) 0))
    none_in_hand all other is_other =
        let none : slice_get (answers_in_hand (length logs) units) 0 ≡ None = ap (λ k. slice_get (drop k (answers_sent (length logs) units)) 0) all ∙ none_left (answers_sent (length logs) units) in
        let nothing : None ≡ Some other = sym (ap (option_map delivery_of) none) ∙ is_other in
        absurd (cc nothing)

-- what is in hand are answers
abbrev IsAnswer : ℕ × Command → Type 0
IsAnswer next = is_answer next.1 ≡ true

pub hand_is_answers : (n : ℕ) (units : List Entry) (packet : Packet) → slice_get (answers_in_hand n units) 0 ≡ Some packet → is_answer packet.command ≡ true
hand_is_answers n units packet is =
    first_has IsAnswer (taken units) (answers_sent n units) (all_answers_have IsAnswer n (λ key c answer. answer) units) (delivery_of packet) (ap (option_map delivery_of) is)

module _ (n p : ℕ) (batch : Batch) (units : List Entry) where
  abbrev answer : List Packet
  answer = begun_by (answer_packet p n batch)

  sent_more : answers_sent n (units ++ as_entry p batch ∷ []) ≡ answers_sent n units ++ answer
  sent_more = flat_map-append (λ (entry : Entry). begun_by (answer_packet entry.partition n entry.batch)) units (as_entry p batch ∷ []) ∙ ap (λ more. answers_sent n units ++ more) (append-nil answer)

  taken_more : (is : Bool) → is_answer batch.command ≡ is → taken (units ++ as_entry p batch ∷ []) ≡ (if is then taken units + 1 else taken units)
  taken_more true is = ap length (filter-append (λ (entry : Entry). is_answer entry.batch.command) units (as_entry p batch ∷ [])) ∙ rw is (length-append (filter (λ (entry : Entry). is_answer entry.batch.command) units) (as_entry p batch ∷ []))
  taken_more false is = ap length (filter-append (λ (entry : Entry). is_answer entry.batch.command) units (as_entry p batch ∷ [])) ∙ rw is (ap length (append-nil (filter (λ (entry : Entry). is_answer entry.batch.command) units)))

  -- the hand behind one more unit
  pub hand_more : AreSent n units → (is_answer batch.command ≡ true → taken units < length (answers_sent n units))
      → (hand_behind n p batch (answers_in_hand n units) ≡ answers_in_hand n (units ++ as_entry p batch ∷ [])) × AreSent n (units ++ as_entry p batch ∷ [])
  hand_more sent left = by_answer (is_answer batch.command) refl
    where
      by_answer : (is : Bool) → is_answer batch.command ≡ is
          → ((if is then drop 1 (answers_in_hand n units) else answers_in_hand n units) ++ answer ≡ answers_in_hand n (units ++ as_entry p batch ∷ [])) × AreSent n (units ++ as_entry p batch ∷ [])
      by_answer true is =
          let count = taken_more true is in
          let on : suc (taken units) ≡ taken units + 1 = omega arith in (
            sym (ap (λ k. drop k (answers_sent n (units ++ as_entry p batch ∷ []))) (count ∙ sym on) ∙ (ap (drop (suc (taken units))) sent_more
                ∙ (drop_front (suc (taken units)) (answers_sent n units) answer (omega (arith, left is)) ∙ ap (λ xs. xs ++ answer) (sym (drop_more (taken units) (answers_sent n units)))))),
            omega (arith, count, left is, ap length sent_more, length-append (answers_sent n units) answer),
          )
      by_answer false is =
          let count = taken_more false is in (
            sym (ap (λ k. drop k (answers_sent n (units ++ as_entry p batch ∷ []))) count ∙ (ap (drop (taken units)) sent_more ∙ drop_front (taken units) (answers_sent n units) answer sent)),
            omega (arith, count, sent, ap length sent_more, length-append (answers_sent n units) answer),
          )

-- the units of work that an engine does behind some entries
module _ {D : Type 0} (start : Start D) (made : List Entry) where
  many : length (logs_in start) ≡ many_in start
  many = length-map start.openings (λ (o : Opening D). o.batches)

  abbrev pub coming : List Entry → Option (ℕ × Command)
  coming units = next_unit (basis_in start) units (made ++ units)

  abbrev pub unit_behind : List Entry → Option (ℕ × Command)
  unit_behind units = unit_in_logs (logs_in start) units (made ++ units)

  -- what comes next by logs is handed on as it can be done
  pub unit_comes : (units : List Entry) (count : ℕ) (found that : Option (ℕ × Command)) → 1 ≤ count → count ≡ many_in start → found ≡ unit_behind units
      → (((one : ℕ × Command) → found ≡ Some one → CanBeDone count one) → that ≡ found) → that ≡ unit_behind units
  unit_comes units count found that some is_many is same = same (λ one comes. unit_can count (logs_in start) units (made ++ units) one (many ∙ sym is_many) some (sym is ∙ comes)) ∙ is

  coming_is : (units : List Entry) → length units < start.units → coming units ≡ unit_behind units
  coming_is units few = rw (lt_is (length units) start.units few) refl

-- an engine does units of work
module _ {D : Type 0} {disks : Ghosts D} (start : Start D) (made : List Entry) (reading : ℕ) where
  -- so many so far, with these answers in hand
  pub record IsWorking (done : ℕ) (hand : List Packet) (solo : Solo D disks) : Type 0 where
    pub are : AreMade start made (coming start made) reading done solo
    pub sent : AreSent (many_in start) are.more
    pub in_hand : hand ≡ answers_in_hand (many_in start) are.more

  pub working_none : (hand : List Packet) (solo : Solo D disks) → hand ≡ [] → HasMade start made solo → IsWorking 0 hand solo
  working_none hand solo none has = record { are = next_none start made (coming start made) reading solo has; sent = omega arith; in_hand = none }

  -- one more
  pub working_more : (done : ℕ) (hand hand_then : List Packet) (old new : Solo D disks) (w : IsWorking done hand old) (p : ℕ) (command : Command) (batch : Batch) → done < start.units
      → unit_behind start made w.are.more ≡ Some (p, command) → IsPlaced start (made ++ w.are.more) reading (p, command) batch new
      → hand_then ≡ (if is_answer command then drop 1 hand else hand) ++ begun_by (answer_packet p (many_in start) batch)
      → IsWorking (done + 1) hand_then new
  working_more done hand hand_then old new w p command batch few comes placed takes =
      let is = command_is (logs_in start) p command reading (made ++ w.are.more) batch placed.by in
      let within : length w.are.more < start.units = omega (arith, few, w.are.counted) in
      let sent : AreSent (length (logs_in start)) w.are.more = subst (λ (n : ℕ). AreSent n w.are.more) (sym (many start made)) w.sent in
      let left : is_answer batch.command ≡ true → taken w.are.more < length (answers_sent (many_in start) w.are.more) =
      λ answer. subst (λ (n : ℕ). taken w.are.more < length (answers_sent n w.are.more)) (many start made) (answer_left (logs_in start) w.are.more (made ++ w.are.more) (p, command) sent comes (ap is_answer is ∙ answer)) in
      let both = hand_more (many_in start) p batch w.are.more w.sent left in
      let behind : hand_then ≡ hand_behind (many_in start) p batch hand = takes ∙ ap (λ (c : Command). (if is_answer c then drop 1 hand else hand) ++ begun_by (answer_packet p (many_in start) batch)) is in
      record {
        are = next_more start made (coming start made) reading done old new w.are p command batch (coming_is start made w.are.more within ∙ comes) placed;
        sent = both.1;
        in_hand = behind ∙ (ap (hand_behind (many_in start) p batch) w.in_hand ∙ both.0);
      }

  -- and no more come
  delivered_by : (done : ℕ) (hand : List Packet) (solo : Solo D disks) (w : IsWorking done hand solo) → coming start made w.are.more ≡ None → IsDelivered (basis_in start) reading made (λ es. HasMade start es solo) done
  delivered_by done hand solo w none = record { units = w.are.more; done = record { made = w.are.each; all = none }; told = w.are.counted; holds = w.are.holds }

  pub delivered_all : (done : ℕ) (hand : List Packet) (solo : Solo D disks) (w : IsWorking done hand solo) → done < start.units → unit_behind start made w.are.more ≡ None
      → IsDelivered (basis_in start) reading made (λ es. HasMade start es solo) done
  delivered_all done hand solo w few none =
      let within : length w.are.more < start.units = omega (arith, few, w.are.counted) in
      delivered_by done hand solo w (coming_is start made w.are.more within ∙ none)

  pub delivered_full : (done : ℕ) (hand : List Packet) (solo : Solo D disks) (w : IsWorking done hand solo) → start.units ≤ done → IsDelivered (basis_in start) reading made (λ es. HasMade start es solo) done
  delivered_full done hand solo w full =
      let past : start.units ≤ length w.are.more = omega (arith, full, w.are.counted) in
      delivered_by done hand solo w (rw (not_lt (length w.are.more) start.units past) refl)

  -- or it was stopped
  pub delivery_cut : (done : ℕ) (hand : List Packet) (old new : Solo D disks) (w : IsWorking done hand old) (p : ℕ) (command : Command) (stop : Stop) → done < start.units
      → unit_behind start made w.are.more ≡ Some (p, command) → IsTurnedAway start (made ++ w.are.more) reading (p, command) stop new
      → IsDeliveryCut (basis_in start) reading made (λ es unlogged. HasEnded start es unlogged stop new)
  delivery_cut done hand old new w p command stop few comes away =
      let within : length w.are.more < start.units = omega (arith, few, w.are.counted) in
      record {
        units = w.are.more;
        made = w.are.each;
        unlogged = away.unlogged;
        next = λ entry is. entry_next (logs_in start) (coming start made w.are.more) reading (made ++ w.are.more) entry (p, command) (coming_is start made w.are.more within ∙ comes) (away.by entry is);
        holds = away.holds;
      }

  pub delivery_cut_resting : (done : ℕ) (hand : List Packet) (old new : Solo D disks) (w : IsWorking done hand old) → HasEnded start (made ++ w.are.more) None stops.Memory new
      → IsDeliveryCut (basis_in start) reading made (λ es unlogged. HasEnded start es unlogged stops.Memory new)
  delivery_cut_resting done hand old new w ended = record {
    units = w.are.more;
    made = w.are.each;
    unlogged = None;
    next = λ entry is. absurd (cc);
    holds = ended;
  }
