-- Laws of the serial run: a request is carried out by what it asks for, and by units of work behind that.
use Rattle.std.proofs.Common.{◌≡◌, ℕ, suc, List, [], ◌∷◌, ◌++◌, length, take, cond, Bool, true, false, not, if◌then◌else◌, Option, Some, None, option_map, refl, sym, ap, ◌∙◌, subst, append-nil, append_assoc}
use Rattle.std.specs.Option.{option_or}
use Rattle.std.specs.List.{list_any}
use Rattle.std.proofs.lemmas.List.Elements.{filter-append}
use Rattle.std.proofs.lemmas.List.Folds.{list_any-append}
use Rattle.zb_model.specs.declared.record.Batch.{Batch}
use Rattle.zb_model.specs.declared.record.Command.{Command}
use Rattle.zb_model.specs.declared.record.Command.TheVariants as commands
use Rattle.zb_views.specs.View.{events_of}
use Rattle.zb_views.specs.Standing.{begun_by}
use Rattle.zb_record.specs.declared.sending.Sending.{Sending}
use Rattle.zb_record.specs.declared.sending.Sending.TheVariants as sending
use Rattle.zb_record.specs.Answers.{is_answer}
use Rattle.zb_record.specs.Packets.{packet_alone}
use Rattle.zb_rules.specs.Due.{due_command}
use Rattle.zb_rules.proofs.DueLaws.{due_command_has}
use Rattle.zb_rules.specs.Step.{EachOn}
use Rattle.zb_rules.proofs.StepLaws.{each_on_front, each_on_all, each_on_joined}
use Rattle.zb_world.specs.declared.entry.Entry.{Entry}
use Rattle.zb_wire.specs.declared.request.Request.{Request}
use Rattle.zb_wire.specs.declared.request.Request.TheVariants as requests
use Rattle.zb_desk.proofs.UnitLaws.{AllHave, first_has, all_answers_have, unit_has}
use Rattle.zb_desk.specs.Serial.{Basis, log_behind, due_in_logs, once, next_asked, is_unit_command, is_unit, units_in, asked_in, answers_sent, unit_in_logs, next_unit, next_of, IsEntryBy, IsNextEntry, AreMadeFor, IsCarriedOut, IsNextUnit, AreUnits, AreAllUnits, IsNextAsked, AreAsked}

-- the command of some pair
some_pair : (P : Command → Type 0) (p q : ℕ) (a command : Command) → P a → ◌≡◌ {A = Option (ℕ × Command)} (Some (p, a)) (Some (q, command)) → P command
some_pair P p q a command has is = subst P (let seconds : ◌≡◌ {A = Option Command} (Some a) (Some command) = ap (option_map (λ (x : ℕ × Command). x.1)) is in let same : a ≡ command = cc seconds in same) has

abbrev IsNoUnit : Command → Type 0
IsNoUnit command = is_unit_command command ≡ false

once_no_unit : (p : ℕ) (a : Command) (done : List Entry) (q : ℕ) (command : Command) → IsNoUnit a → once p a done ≡ Some (q, command) → IsNoUnit command
once_no_unit p a [] q command nounit is = some_pair IsNoUnit p q a command nounit is
once_no_unit p a (entry ∷ done) q command nounit is = absurd (cc)

-- what is due in one log, or else in the later ones, is no unit of work
due_pair : (p q : ℕ) (found : Option Command) (later : Option (ℕ × Command)) (command : Command) → ((c : Command) → found ≡ Some c → IsNoUnit c) → (later ≡ Some (q, command) → IsNoUnit command)
    → option_or (option_map (λ (c : Command). (p, c)) found) later ≡ Some (q, command) → IsNoUnit command
due_pair p q None later command here behind is = behind is
due_pair p q (Some c) later command here behind is = some_pair IsNoUnit p q c command (here c refl) is

-- time makes no unit of work due
due_no_unit : (reading p : ℕ) (logs : List (List Batch)) (entries : List Entry) (q : ℕ) (command : Command) → due_in_logs reading p logs entries ≡ Some (q, command) → IsNoUnit command
due_no_unit reading p [] entries q command is = absurd (cc)
due_no_unit reading p (log ∷ logs) entries q command is =
    let events = events_of (log_behind p log entries) in
    due_pair p q (due_command reading events) (due_in_logs reading (suc p) logs entries) command
    (due_command_has reading events IsNoUnit (λ key. refl) (λ key. refl) (λ key. refl)) (due_no_unit reading (suc p) logs entries q command) is

tick_no_unit : (few : Bool) (due : Option (ℕ × Command)) (q : ℕ) (command : Command) → (due ≡ Some (q, command) → IsNoUnit command) → (if few then due else None) ≡ Some (q, command) → IsNoUnit command
tick_no_unit true due q command nounit is = nounit is
tick_no_unit false due q command nounit is = absurd (cc)

-- no request asks for a unit of work
pub asked_no_unit : (logs : List (List Batch)) (request : Request) (reading : ℕ) (earlier done : List Entry) (q : ℕ) (command : Command) → next_asked logs request reading earlier done ≡ Some (q, command) → IsNoUnit command
asked_no_unit logs requests.Tick reading earlier done q command is =
    tick_no_unit _ (due_in_logs reading 1 logs (earlier ++ done)) q command (due_no_unit reading 1 logs (earlier ++ done) q command) is
asked_no_unit logs (requests.Advance ms) reading earlier done q command is = absurd (cc)
asked_no_unit logs requests.Settle reading earlier done q command is = absurd (cc)
asked_no_unit logs request reading earlier done q command is = once_no_unit _ _ done q command refl is

-- a unit of work is one
abbrev IsUnitNext : ℕ × Command → Type 0
IsUnitNext next = is_unit_command next.1 ≡ true

answer_unit : (command : Command) → is_answer command ≡ true → is_unit_command command ≡ true
answer_unit (commands.CommandDistributionAcknowledge c) is = refl
answer_unit (commands.ProcessMessageSubscriptionCreate key) is = refl
answer_unit (commands.MessageSubscriptionCorrelate c) is = refl
answer_unit (commands.MessageSubscriptionReject c) is = refl
answer_unit (commands.ProcessMessageSubscriptionDelete key) is = refl
answer_unit command is = absurd (cc)

alone_unit : (p n : ℕ) (s : Sending) → AllHave IsUnitNext (begun_by (packet_alone p n s))
alone_unit p n (sending.Definition d) = tt
alone_unit p n s = (refl, tt)

logs_unit : (logs : List (List Batch)) (units entries : List Entry) (q : ℕ) (command : Command) → unit_in_logs logs units entries ≡ Some (q, command) → is_unit_command command ≡ true
logs_unit logs units entries q command is =
    let n = length logs in
    unit_has IsUnitNext n (λ p d version m. refl) (λ p s. alone_unit p n s) logs units entries refl (λ k above below. refl)
    (first_has IsUnitNext _ (answers_sent n units) (all_answers_have IsUnitNext n (λ key c. answer_unit c) units)) (q, command) is

few_unit : (few : Bool) (next : Option (ℕ × Command)) (q : ℕ) (command : Command) → (next ≡ Some (q, command) → is_unit_command command ≡ true) → (if few then next else None) ≡ Some (q, command) → is_unit_command command ≡ true
few_unit true next q command is_one is = is_one is
few_unit false next q command is_one is = absurd (cc)

-- the next unit of work is one
pub next_is_unit : (basis : Basis) (units entries : List Entry) (q : ℕ) (command : Command) → next_unit basis units entries ≡ Some (q, command) → is_unit_command command ≡ true
next_is_unit basis units entries q command is = few_unit _ (unit_in_logs basis.logs units entries) q command (logs_unit basis.logs units entries q command) is

-- all are units of work
abbrev AreOnlyUnits : List Entry → Type 0
AreOnlyUnits entries = (units_in entries ≡ entries) × (asked_in entries ≡ [])

-- and none is
abbrev AreNoUnits : List Entry → Type 0
AreNoUnits entries = (list_any is_unit entries ≡ false) × (units_in entries ≡ []) × (asked_in entries ≡ entries)

one_no_unit : (entry : Entry) → is_unit entry ≡ false → AreNoUnits (entry ∷ [])
one_no_unit entry nounit = (rw nounit refl, rw nounit refl, rw nounit refl)

more_no_units : (front : List Entry) (entry : Entry) → AreNoUnits front → is_unit entry ≡ false → AreNoUnits (front ++ entry ∷ [])
more_no_units front entry are nounit =
    let one = one_no_unit entry nounit in (
      list_any-append is_unit front (entry ∷ []) ∙ rw (are.0, one.0) refl,
      filter-append is_unit front (entry ∷ []) ∙ rw (are.1, one.1) refl,
      filter-append (λ (e : Entry). not (is_unit e)) front (entry ∷ []) ∙ rw (are.2, one.2) refl,
    )

more_only_units : (front : List Entry) (entry : Entry) → AreOnlyUnits front → is_unit entry ≡ true → AreOnlyUnits (front ++ entry ∷ [])
more_only_units front entry are is = (
  filter-append is_unit front (entry ∷ []) ∙ rw (are.0, is) refl,
  filter-append (λ (e : Entry). not (is_unit e)) front (entry ∷ []) ∙ rw (are.1, is) refl,
)

-- what a request asks for is no unit of work
pub asked_are_no_units : (logs : List (List Batch)) (request : Request) (reading : ℕ) (earlier entries : List Entry) → EachOn (IsNextAsked logs request reading earlier) [] entries → AreNoUnits entries
asked_are_no_units logs request reading earlier entries each =
    each_on_all (IsNextAsked logs request reading earlier) [] AreNoUnits
    (λ (front : List Entry) (entry : Entry) of_front are next. more_no_units front entry are (asked_no_unit logs request reading earlier front entry.partition entry.batch.command next.command))
    (refl, refl, refl) entries each

-- units of work are such
pub units_are : (basis : Basis) (reading : ℕ) (earlier units : List Entry) → AreUnits basis reading earlier units → AreOnlyUnits units
units_are basis reading earlier units each =
    each_on_all (IsNextUnit basis reading earlier) [] AreOnlyUnits
    (λ (front : List Entry) (entry : Entry) of_front are next. more_only_units front entry are (next_is_unit basis front (earlier ++ front) entry.partition entry.batch.command next.command))
    (refl, refl) units each

-- behind what a request asked for, and some units of work
module _ (basis : Basis) (request : Request) (reading : ℕ) (earlier own : List Entry) (are : AreNoUnits own) where
  -- it asks for no more behind a unit
  asks_no_more : (units : List Entry) → next_asked basis.logs request reading earlier own ≡ None → AreOnlyUnits units
      → (if list_any is_unit (own ++ units) then None else next_asked basis.logs request reading earlier (own ++ units)) ≡ None
  asks_no_more [] all only = rw (append-nil own, are.0) all
  asks_no_more (unit ∷ units) all only = by_unit (is_unit unit) refl only.1
    where
      by_unit : (t : Bool) → is_unit unit ≡ t → asked_in (unit ∷ units) ≡ [] → (if list_any is_unit (own ++ unit ∷ units) then None else next_asked basis.logs request reading earlier (own ++ unit ∷ units)) ≡ None
      by_unit true is none = rw (list_any-append is_unit own (unit ∷ units), are.0, is) refl
      by_unit false is none =
          let kept : cond (not (is_unit unit)) (unit ∷ asked_in units) (asked_in units) ≡ unit ∷ asked_in units = rw is refl in
          absurd (cc (sym kept ∙ none))

  -- the next unit comes then
  pub unit_next : (units : List Entry) → next_asked basis.logs request reading earlier own ≡ None → AreOnlyUnits units
      → next_of basis request reading earlier (own ++ units) ≡ next_unit basis units ((earlier ++ own) ++ units)
  unit_next units all only =
      let count : units_in (own ++ units) ≡ units = filter-append is_unit own units ∙ rw (are.1, only.0) refl in
      ap (λ (o : Option (ℕ × Command)). option_or o (next_unit basis (units_in (own ++ units)) (earlier ++ (own ++ units)))) (asks_no_more units all only)
      ∙ ap (λ (us : List Entry). next_unit basis us (earlier ++ (own ++ units))) count
      ∙ ap (λ (es : List Entry). next_unit basis units es) (sym (append_assoc earlier own units))

-- what a request asks for next is the next entry for it
pub next_of_asked : (basis : Basis) (request : Request) (reading : ℕ) (earlier done : List Entry) (next : ℕ × Command) → list_any is_unit done ≡ false → next_asked basis.logs request reading earlier done ≡ Some next
    → next_of basis request reading earlier done ≡ Some next
next_of_asked basis request reading earlier done next none is = rw (none, is) refl

-- entries that a request asked for were made for it
pub made_by_asking : (basis : Basis) (request : Request) (reading : ℕ) (earlier entries : List Entry) → EachOn (IsNextAsked basis.logs request reading earlier) [] entries → AreMadeFor basis request reading earlier entries
made_by_asking basis request reading earlier entries each k entry at =
    let next = each k entry at in
    let none = (asked_are_no_units basis.logs request reading earlier (take k entries) (each_on_front (IsNextAsked basis.logs request reading earlier) [] entries k each)).0 in
    record {
      command = next_of_asked basis request reading earlier (take k entries) (entry.partition, entry.batch.command) none next.command;
      moment = next.moment;
      begin = next.begin;
    }

-- and the one that it asks for next is the next entry for it
pub next_by_asking : (basis : Basis) (request : Request) (reading : ℕ) (earlier entries : List Entry) (entry : Entry) → EachOn (IsNextAsked basis.logs request reading earlier) [] entries
    → IsNextAsked basis.logs request reading earlier entries entry → IsNextEntry basis request reading earlier entries entry
next_by_asking basis request reading earlier entries entry each next = record {
  command = next_of_asked basis request reading earlier entries (entry.partition, entry.batch.command) (asked_are_no_units basis.logs request reading earlier entries each).0 next.command;
  moment = next.moment;
  begin = next.begin;
}

-- a unit of work that is next behind what a request asked for is the next entry for it
pub next_of_unit : (basis : Basis) (request : Request) (reading : ℕ) (earlier own units : List Entry) (entry : Entry) → AreAsked basis.logs request reading earlier own → AreUnits basis reading (earlier ++ own) units
    → IsNextUnit basis reading (earlier ++ own) units entry → IsNextEntry basis request reading earlier (own ++ units) entry
next_of_unit basis request reading earlier own units entry asked each next =
    let are = asked_are_no_units basis.logs request reading earlier own asked.made in
    let only = units_are basis reading (earlier ++ own) units each in
    subst (λ (es : List Entry). IsEntryBy basis.logs (next_of basis request reading earlier (own ++ units)) reading es entry) (append_assoc earlier own units)
    (subst (λ (o : Option (ℕ × Command)). IsEntryBy basis.logs o reading ((earlier ++ own) ++ units) entry) (sym (unit_next basis request reading earlier own are units asked.all only)) next)

-- they were made for it too
pub made_with_units : (basis : Basis) (request : Request) (reading : ℕ) (earlier own units : List Entry) → AreAsked basis.logs request reading earlier own → AreUnits basis reading (earlier ++ own) units
    → AreMadeFor basis request reading earlier (own ++ units)
made_with_units basis request reading earlier own units asked each =
    each_on_joined (IsNextEntry basis request reading earlier) [] own units (made_by_asking basis request reading earlier own asked.made)
    (λ k entry at. next_of_unit basis request reading earlier own (take k units) entry asked (each_on_front (IsNextUnit basis reading (earlier ++ own)) [] units k each) (each k entry at))

-- and all of them carry it out
pub carried_out : (basis : Basis) (request : Request) (reading : ℕ) (earlier own units : List Entry) → AreAsked basis.logs request reading earlier own → AreAllUnits basis reading (earlier ++ own) units
    → IsCarriedOut basis request reading earlier (own ++ units)
carried_out basis request reading earlier own units asked done = record {
  made = made_with_units basis request reading earlier own units asked done.made;
  all = unit_next basis request reading earlier own (asked_are_no_units basis.logs request reading earlier own asked.made) units asked.all (units_are basis reading (earlier ++ own) units done.made) ∙ done.all;
}

-- which of them are units, and which the request asked for
pub parted : (basis : Basis) (request : Request) (reading : ℕ) (earlier own units : List Entry) → AreAsked basis.logs request reading earlier own → AreUnits basis reading (earlier ++ own) units
    → (units_in (own ++ units) ≡ units) × (asked_in (own ++ units) ≡ own)
parted basis request reading earlier own units asked each =
    let are = asked_are_no_units basis.logs request reading earlier own asked.made in
    let only = units_are basis reading (earlier ++ own) units each in (
      filter-append is_unit own units ∙ rw (are.1, only.0) refl,
      filter-append (λ (e : Entry). not (is_unit e)) own units ∙ rw (are.2, only.1) (append-nil own),
    )
