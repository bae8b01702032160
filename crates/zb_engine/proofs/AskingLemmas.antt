-- What a request asks for, and the units of work behind it.
use Rattle.std.proofs.Common.{append_assoc, ◌≡◌, ◌<◌, ◌≤◌, ◌+◌, ◌-◌, ℕ, suc, List, [], ◌∷◌, ◌++◌, length, slice_get, IsTrue, Option, Some, None, option_map, refl, sym, ap, ◌∙◌, subst, arith}
use Rattle.std.specs.Option.{option_map_or}
use Rattle.std.specs.List.{AllByRecursion}
use Rattle.std.proofs.lemmas.Option.{slice_get_within}
use Rattle.std.proofs.lemmas.List.{length-map}
use Rattle.zb_disk.specs.declared.disk.Disk.{Ghosts}
use Rattle.zb_model.specs.declared.record.Batch.{Batch}
use Rattle.zb_model.specs.declared.record.Command.{Command}
use Rattle.zb_model.specs.declared.record.Event.{Event}
use Rattle.zb_model.specs.declared.record.Outcome.TheVariants as outcomes
use Rattle.zb_model.specs.declared.record.Rejection.{Rejection}
use Rattle.zb_model.specs.declared.stop.Stop.{Stop}
use Rattle.zb_views.specs.View.{events_of}
use Rattle.zb_rules.specs.Due.{due_command}
use Rattle.zb_rules.proofs.DueLaws.{due_command_unrefused, due_command_has, due_command_is_run}
use Rattle.zb_rules.specs.Step.{IsAcceptance, IsOutcomeBy, IsStep, EachOn}
use Rattle.zb_rules.proofs.StepLaws.{each_on_none, each_on_more}
use Rattle.zb_world.specs.Entries.{as_entry}
use Rattle.zb_world.specs.declared.entry.Entry.{Entry}
use Rattle.zb_record.specs.Partitions.{partition_of_key}
use Rattle.zb_wire.specs.Asked.{command_of, key_named, partition_asked}
use Rattle.zb_wire.specs.declared.request.Request.{Request}
use Rattle.zb_wire.specs.declared.request.Request.TheVariants as requests
use Rattle.zb_reply.specs.Reply.{answer_of}
use Rattle.zb_reply.specs.declared.reply.Reply.{Reply}
use Rattle.zb_reply.specs.declared.reply.Reply.TheVariants as replies
use Rattle.zb_desk.specs.Asking.{IsAsked, IsCut, IsDelivered, IsDeliveryCut}
use Rattle.zb_desk.specs.Replies.{is_by_time, IsTicked, IsReplyIf}
use Rattle.zb_desk.specs.Serial.{most_due, log_behind, due_in_logs, next_by, next_asked, asked_in, IsEntryBy, IsNextAsked, AreAsked}
use Rattle.zb_desk.proofs.SerialLaws.{made_by_asking, next_by_asking, made_with_units, carried_out, next_of_unit, parted}
use Rattle.zb_desk.proofs.UnitLaws.{AnyHas, either_has}
use Rattle.zb_partition.specs.Ledger.{Opening}
use Rattle.zb_engine.specs.Solo.{Start, many_in, logs_in, basis_in, CanBeDone, HasMade, HasEnded, IsPlaced, IsTurnedAway, IsDone, IsCutOff}
use Rattle.zb_engine.specs.declared.solo.Solo.{Solo}
use Rattle.zb_engine.proofs.DeliveryLemmas.{lt_is, not_lt, partition_known_within, home_within}
use Rattle.zb_engine.proofs.ListLemmas.{append_none}
use Rattle.zb_engine.proofs.MadeLemmas.{all_more}
use Rattle.zb_engine.proofs.NextLemmas.{AreMade, entry_next, command_is, next_none, next_more}

-- what is due in one of some logs
module _ (Q : ℕ × Command → Type 0) where
  due_one : (p : ℕ) (found : Option Command) → ((command : Command) → found ≡ Some command → Q (p, command)) → AnyHas Q (option_map (λ command. (p, command)) found)
  due_one p None each next is = absurd (cc)
  due_one p (Some command) each next is = let same : (p, command) ≡ next = cc in subst Q same (each command refl)

  none_due : AnyHas Q None
  none_due next is = absurd (cc)

  pub due_has : (reading p : ℕ) (logs : List (List Batch)) (entries : List Entry)
      → ((k : ℕ) (log : List Batch) (command : Command) → slice_get logs k ≡ Some log → due_command reading (events_of (log_behind (p + k) log entries)) ≡ Some command → Q (p + k, command)) → AnyHas Q (due_in_logs reading p logs entries)
  due_has reading p [] entries each = none_due
  due_has reading p (log ∷ logs) entries each =
      let here : p + 0 ≡ p = omega arith in
      either_has Q (option_map (λ command. (p, command)) (due_command reading (events_of (log_behind p log entries)))) (due_in_logs reading (suc p) logs entries)
      (due_one p (due_command reading (events_of (log_behind p log entries)))
      (subst (λ (q : ℕ). (command : Command) → due_command reading (events_of (log_behind q log entries)) ≡ Some command → Q (q, command)) here (λ command is. each 0 log command refl is)))
      (due_has reading (suc p) logs entries (λ k one command at is.
      let on : p + suc k ≡ suc p + k = omega arith in
      subst (λ (q : ℕ). due_command reading (events_of (log_behind q one entries)) ≡ Some command → Q (q, command)) on (each (suc k) one command at) is))

-- can be done
due_can : (n reading : ℕ) (logs : List (List Batch)) (entries : List Entry) (next : ℕ × Command) → length logs ≡ n → due_in_logs reading 1 logs entries ≡ Some next → CanBeDone n next
due_can n reading logs entries next many is =
    due_has (CanBeDone n) reading 1 logs entries (λ k log command at is. (omega (arith, slice_get_within logs k log at, many), due_command_is_run reading (events_of (log_behind (1 + k) log entries)) command is)) next is

-- the partition that a request asks is there
named_within : (n : ℕ) (named : Option ℕ) → 1 ≤ n → option_map_or (partition_of_key n) named 1 ≤ n
named_within n None some = some
named_within n (Some key) some = partition_known_within n _ some

pub asked_within : (n : ℕ) (request : Request) → 1 ≤ n → partition_asked n request ≤ n
asked_within n (requests.Create partition c) some = partition_known_within n partition some
asked_within n (requests.Activate partition a) some = partition_known_within n partition some
asked_within n (requests.Publish m) some = home_within m.correlation_key n some
asked_within n request some = named_within n (key_named request) some

-- a request that asks for a command asks its partition for it first
asks_first : (logs : List (List Batch)) (request : Request) (reading : ℕ) (earlier : List Entry) (command : Command) → command_of request ≡ Some command
    → next_asked logs request reading earlier [] ≡ Some (partition_asked (length logs) request, command)
asks_first logs request reading earlier command is = ap (λ (c : Option Command). next_by c logs request reading earlier []) is

-- and for no more
asks_once : (logs : List (List Batch)) (request : Request) (reading : ℕ) (earlier : List Entry) (command : Command) (entry : Entry) → command_of request ≡ Some command → next_asked logs request reading earlier (entry ∷ []) ≡ None
asks_once logs request reading earlier command entry is = ap (λ (c : Option Command). next_by c logs request reading earlier (entry ∷ [])) is

-- the entry of the command that a request asks for
module _ (logs : List (List Batch)) (made : List Entry) (request : Request) (reading : ℕ) (command : Command) (p : ℕ) (asks : command_of request ≡ Some command) (at : p ≡ partition_asked (length logs) request) where
  first : next_asked logs request reading made [] ≡ Some (p, command)
  first = asks_first logs request reading made command asks ∙ ap (λ q. Some (q, command)) (sym at)

  asked_by : (entry : Entry) → IsEntryBy logs (Some (p, command)) reading made entry → IsNextAsked logs request reading made [] entry
  asked_by entry by =
      entry_next logs (next_asked logs request reading made []) reading (made ++ []) entry (p, command) first
      (subst (λ (es : List Entry). IsEntryBy logs (Some (p, command)) reading es entry) (append_none made) by)

module _ {D : Type 0} {disks : Ghosts D} (start : Start D) (made : List Entry) (request : Request) (reading : ℕ) where
  -- it is cut off, once it asked for these entries, by the one that it asked for next
  pub cut_asking : (own : List Entry) (unlogged : Option Entry) (stop : Stop) (solo : Solo D disks) → EachOn (IsNextAsked (logs_in start) request reading made) [] own
      → ((entry : Entry) → unlogged ≡ Some entry → IsNextAsked (logs_in start) request reading made own entry) → HasEnded start (made ++ own) unlogged stop solo
      → IsCutOff start made request reading stop solo
  cut_asking own unlogged stop solo each next ended = record {
    own = own;
    made = made_by_asking (basis_in start) request reading made own each;
    unlogged = unlogged;
    next = λ entry is. next_by_asking (basis_in start) request reading made own entry each (next entry is);
    holds = ended;
  }

  -- the entry of its command
  module _ (command : Command) (p : ℕ) (asks : command_of request ≡ Some command) (at : p ≡ partition_asked (length (logs_in start)) request) where
    pub command_asked : (batch : Batch) (solo : Solo D disks) → IsPlaced start made reading (p, command) batch solo → EachOn (IsNextAsked (logs_in start) request reading made) [] (as_entry p batch ∷ [])
    command_asked batch solo placed =
        each_on_more (IsNextAsked (logs_in start) request reading made) [] [] (as_entry p batch) (each_on_none (IsNextAsked (logs_in start) request reading made) []) (asked_by (logs_in start) made request reading command p asks at (as_entry p batch) placed.by)

    -- it is all that the request asks for, and answers it
    pub command_done : (batch : Batch) (reply : Reply) (solo : Solo D disks) → length (logs_in start) ≡ many_in start → IsPlaced start made reading (p, command) batch solo → answer_of batch ≡ Some reply → IsDone start made request reading reply solo
    command_done batch reply solo many placed answered = record {
      own = as_entry p batch ∷ [];
      done = record { made = command_asked batch solo placed; all = asks_once (logs_in start) request reading made command (as_entry p batch) asks };
      told = subst (λ (c : Option Command). IsReplyIf c (many_in start) request reading (as_entry p batch ∷ []) reply) (sym asks) (record {
        entry = as_entry p batch;
        one = refl;
        is_its = sym (command_is (logs_in start) p command reading made batch placed.by);
        is_there = at ∙ ap (λ (n : ℕ). partition_asked n request) many;
        told = answered;
      });
      holds = placed.holds;
    }

    -- or stopped the engine
    pub command_cut : (stop : Stop) (solo : Solo D disks) → IsTurnedAway start made reading (p, command) stop solo → IsCutOff start made request reading stop solo
    command_cut stop solo away =
        cut_asking [] away.unlogged stop solo (each_on_none (IsNextAsked (logs_in start) request reading made) []) (λ entry is. asked_by (logs_in start) made request reading command p asks at entry (away.by entry is))
        (subst (λ (es : List Entry). HasEnded start es away.unlogged stop solo) (append_none made) away.holds)

  -- the units of work behind what it asked for were done
  pub answered_by : (own : List Entry) (asked : AreAsked (logs_in start) request reading made own) (reply : Reply) (units : ℕ) (solo : Solo D disks) → length (logs_in start) ≡ many_in start → IsReplyIf (command_of request) (many_in start) request reading own reply
      → IsDelivered (basis_in start) reading (made ++ own) (λ es. HasMade start es solo) units → IsAsked (basis_in start) request reading made (λ es. HasMade start es solo) (record { reply = reply; units = units })
  answered_by own asked reply units solo many told w =
      let parts = parted (basis_in start) request reading made own w.units asked w.done.made in
      record {
        entries = own ++ w.units;
        done = carried_out (basis_in start) request reading made own w.units asked w.done;
        told = subst (λ (n : ℕ). IsReplyIf (command_of request) n request reading (asked_in (own ++ w.units)) reply) (sym many)
            (subst (λ (es : List Entry). IsReplyIf (command_of request) (many_in start) request reading es reply) (sym parts.1) told);
        units = w.told ∙ ap length (sym parts.0);
        holds = subst (λ (es : List Entry). HasMade start es solo) (append_assoc made own w.units) w.holds;
      }

  -- or were cut off
  pub cut_in_units : (own : List Entry) (asked : AreAsked (logs_in start) request reading made own) (stop : Stop) (solo : Solo D disks)
      → IsDeliveryCut (basis_in start) reading (made ++ own) (λ es unlogged. HasEnded start es unlogged stop solo) → IsCut (basis_in start) request reading made (λ es unlogged. HasEnded start es unlogged stop solo)
  cut_in_units own asked stop solo w = record {
    entries = own ++ w.units;
    made = made_with_units (basis_in start) request reading made own w.units asked w.made;
    unlogged = w.unlogged;
    next = λ entry is. next_of_unit (basis_in start) request reading made own w.units entry asked w.made (w.next entry is);
    holds = subst (λ (es : List Entry). HasEnded start es w.unlogged stop solo) (append_assoc made own w.units) w.holds;
  }

  -- it was cut off itself
  pub cut_itself : (stop : Stop) (solo : Solo D disks) → IsCutOff start made request reading stop solo → IsCut (basis_in start) request reading made (λ es unlogged. HasEnded start es unlogged stop solo)
  cut_itself stop solo cut = record { entries = cut.own; made = cut.made; unlogged = cut.unlogged; next = cut.next; holds = cut.holds }

-- a request that asks for nothing
pub nothing_done : {D : Type 0} {disks : Ghosts D} (start : Start D) (made : List Entry) (request : Request) (reading : ℕ) (reply : Reply) (solo : Solo D disks) → next_asked (logs_in start) request reading made [] ≡ None
    → IsReplyIf (command_of request) (many_in start) request reading [] reply → HasMade start made solo → IsDone start made request reading reply solo
nothing_done start made request reading reply solo none told has = record {
  own = [];
  done = record { made = each_on_none (IsNextAsked (logs_in start) request reading made) []; all = none };
  told = told;
  holds = subst (λ (es : List Entry). HasMade start es solo) (append_none made) has;
}

-- a command that time made due has no reason against it, so its batch was accepted
module _ {D : Type 0} {disks : Ghosts D} (start : Start D) (made : List Entry) (reading p : ℕ) (command : Command) (batch : Batch) (solo : Solo D disks) where
  accepted_by : (before : List Event) (reason : Option Rejection) → reason ≡ None → IsOutcomeBy reason batch.outcome (IsAcceptance p (many_in start) batch.moment before batch.command batch.outcome)
      → (es : List Event) × (batch.outcome ≡ outcomes.Accepted es)
  accepted_by before None none by = (by.own ++ by.rest, by.accepted)
  accepted_by before (Some rejection) none by = absurd (cc)

  ticked_on : (log : List Batch) → due_command reading (events_of log) ≡ Some batch.command → reading ≤ batch.moment → IsStep p (many_in start) log batch → IsTicked (as_entry p batch)
  ticked_on log due later step =
      let accepted = accepted_by (events_of log) _ (due_command_unrefused reading (events_of log) batch.moment batch.command later due) step.outcome in
      record {
        by_time = due_command_has reading (events_of log) (λ (c : Command). IsTrue (is_by_time c)) (λ key. refl) (λ key. refl) (λ key. refl) batch.command due;
        made = accepted.0;
        accepted = accepted.1;
      }

  -- it is due in the log of its partition
  abbrev IsDueIn : ℕ × Command → Type 0
  IsDueIn next = (log : List Batch) → 1 ≤ next.0 → slice_get (logs_in start) (next.0 - 1) ≡ Some log → due_command reading (events_of (log_behind next.0 log made)) ≡ Some next.1

  due_here : (k : ℕ) (log : List Batch) (c : Command) → slice_get (logs_in start) k ≡ Some log → due_command reading (events_of (log_behind (1 + k) log made)) ≡ Some c → IsDueIn (1 + k, c)
  due_here k log c at is other some found =
      let place : 1 + k - 1 ≡ k = omega arith in
      let one : Some log ≡ Some other = sym at ∙ (ap (λ (i : ℕ). slice_get (logs_in start) i) (sym place) ∙ found) in
      let same : log ≡ other = cc in
      subst (λ (l : List Batch). due_command reading (events_of (log_behind (1 + k) l made)) ≡ Some c) same is

  pub due_ticked : due_in_logs reading 1 (logs_in start) made ≡ Some (p, command) → IsPlaced start made reading (p, command) batch solo → IsTicked (as_entry p batch)
  due_ticked due placed =
      let step = placed.step in
      let same : command ≡ batch.command = command_is (logs_in start) p command reading made batch placed.by in
      let moment = placed.by.moment in
      let later : reading ≤ batch.moment = omega (arith, moment.3) in
      let of_log : due_command reading (events_of (log_behind p step.0 made)) ≡ Some command = due_has IsDueIn reading 1 (logs_in start) made due_here (p, command) due step.0 step.1 step.2 in
      ticked_on (log_behind p step.0 made) (of_log ∙ ap (λ (c : Command). Some c) same) later step.3

-- a tick asks for what is due, until it made the most
module _ {D : Type 0} (start : Start D) (made : List Entry) (reading : ℕ) where
  abbrev pub ticking : List Entry → Option (ℕ × Command)
  ticking done = next_asked (logs_in start) requests.Tick reading made done

  abbrev pub due_behind : List Entry → Option (ℕ × Command)
  due_behind done = due_in_logs reading 1 (logs_in start) (made ++ done)

  pub ticking_is : (done : List Entry) → length done < most_due → ticking done ≡ due_behind done
  ticking_is done few = rw (lt_is (length done) most_due few) refl

  -- what is due by logs is handed on as it can be done
  pub due_comes : (done : List Entry) (count : ℕ) (found that : Option (ℕ × Command)) → count ≡ many_in start → found ≡ due_behind done
      → (((one : ℕ × Command) → found ≡ Some one → CanBeDone count one) → that ≡ found) → that ≡ due_behind done
  due_comes done count found that is_many is same =
      same (λ one comes. due_can count reading (logs_in start) (made ++ done) one (length-map start.openings (λ (o : Opening D). o.batches) ∙ sym is_many) (sym is ∙ comes)) ∙ is

-- and so does its engine
module _ {D : Type 0} {disks : Ghosts D} (start : Start D) (made : List Entry) (reading : ℕ) where
  -- so many were made so far, each of which time made due, and was accepted
  pub record AreTicked (done : ℕ) (solo : Solo D disks) : Type 0 where
    pub are : AreMade start made (ticking start made reading) reading done solo
    pub each : AllByRecursion IsTicked are.more

  pub ticked_none : (solo : Solo D disks) → HasMade start made solo → AreTicked 0 solo
  ticked_none solo has = record { are = next_none start made (ticking start made reading) reading solo has; each = tt }

  -- and one more
  pub ticked_more : (done : ℕ) (old new : Solo D disks) (w : AreTicked done old) (p : ℕ) (command : Command) (batch : Batch) → done < most_due → due_behind start made reading w.are.more ≡ Some (p, command)
      → IsPlaced start (made ++ w.are.more) reading (p, command) batch new → AreTicked (done + 1) new
  ticked_more done old new w p command batch few comes placed =
      let within : length w.are.more < most_due = omega (arith, few, w.are.counted) in
      record {
        are = next_more start made (ticking start made reading) reading done old new w.are p command batch (ticking_is start made reading w.are.more within ∙ comes) placed;
        each = all_more IsTicked w.are.more (as_entry p batch) w.each (due_ticked start (made ++ w.are.more) reading p command batch new comes placed);
      }

  ticked : (done : ℕ) (solo : Solo D disks) (w : AreTicked done solo) → ticking start made reading w.are.more ≡ None → IsDone start made requests.Tick reading (replies.Tick done) solo
  ticked done solo w none = record {
    own = w.are.more;
    done = record { made = w.are.each; all = none };
    told = (w.each, ap (λ (n : ℕ). replies.Tick n) w.are.counted);
    holds = w.are.holds;
  }

  pub tick_done : (done : ℕ) (solo : Solo D disks) (w : AreTicked done solo) → done < most_due → due_behind start made reading w.are.more ≡ None → IsDone start made requests.Tick reading (replies.Tick done) solo
  tick_done done solo w few none =
      let within : length w.are.more < most_due = omega (arith, few, w.are.counted) in
      ticked done solo w (ticking_is start made reading w.are.more within ∙ none)

  pub tick_full : (done : ℕ) (solo : Solo D disks) (w : AreTicked done solo) → most_due ≤ done → IsDone start made requests.Tick reading (replies.Tick done) solo
  tick_full done solo w full =
      let past : most_due ≤ length w.are.more = omega (arith, full, w.are.counted) in
      ticked done solo w (rw (not_lt (length w.are.more) most_due past) refl)

  -- or it was cut off
  pub tick_cut : (done : ℕ) (old new : Solo D disks) (w : AreTicked done old) (p : ℕ) (command : Command) (stop : Stop) → done < most_due → due_behind start made reading w.are.more ≡ Some (p, command)
      → IsTurnedAway start (made ++ w.are.more) reading (p, command) stop new → IsCutOff start made requests.Tick reading stop new
  tick_cut done old new w p command stop few comes away =
      let within : length w.are.more < most_due = omega (arith, few, w.are.counted) in
      cut_asking start made requests.Tick reading w.are.more away.unlogged stop new w.are.each
      (λ entry is. entry_next (logs_in start) (ticking start made reading w.are.more) reading (made ++ w.are.more) entry (p, command) (ticking_is start made reading w.are.more within ∙ comes) (away.by entry is)) away.holds
