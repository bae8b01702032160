-- What stands in the outbox of a partition was sent.
use Rattle.std.proofs.Common.{◌≡◌, ℕ, ◌-◌, ◌==◌, List, [], ◌∷◌, ◌++◌, map, length, slice_get, Bool, true, false, ◌||◌, is_some, IsTrue, All, Contains, Option, Some, None, option_map, refl, inl, inr, ap, sym, ◌∙◌, subst, append-nil, append_assoc, arith}
use Rattle.std.specs.Option.{option_map_or, option_or}
use Rattle.std.specs.List.{find, filter_map, list_any, range_with_len, AllByRecursion}
use Rattle.std.proofs.lemmas.Bool.{cases_eq}
use Rattle.std.proofs.lemmas.Bool.Decides.{nat_tests}
use Rattle.std.proofs.lemmas.List.{length-append}
use Rattle.std.proofs.lemmas.List.Elements.{All-nil, All-cons, All-append, All-weaker, All-contains, All-head, All-tail, Contains-append_left}
use Rattle.std.proofs.lemmas.List.Folds.{find-append}
use Rattle.std.proofs.lemmas.Grind.{flat_map-append}
use Rattle.zb_instance_records.specs.declared.deployment.ProcessDefinition.{ProcessDefinition}
use Rattle.zb_model.specs.declared.record.Batch.{Batch}
use Rattle.zb_model.specs.declared.record.Event.{Event}
use Rattle.zb_model.specs.declared.record.Event.TheVariants as events
use Rattle.zb_model.specs.declared.record.Packet.{Packet}
use Rattle.zb_views.specs.View.{events_in, events_of, next_key}
use Rattle.zb_views.proofs.ViewLaws.{events_of_more}
use Rattle.zb_views.specs.Standing.{left_by, begun_by}
use Rattle.zb_views.specs.Told.{last_told}
use Rattle.zb_views.proofs.StandingLaws.{standing_more, each_left}
use Rattle.zb_views.proofs.ToldLaws.{last_told_joined}
use Rattle.zb_views.specs.declared.distribution.Distribution.{Distribution}
use Rattle.zb_views.specs.Definitions.{definitions, greatest_version}
use Rattle.zb_views.specs.Distributions.{distribution_to, distribution_told}
use Rattle.zb_views.specs.Processes.{process_told, process_in, processes_told, processes}
use Rattle.zb_record.specs.declared.sending.Sending.{Sending}
use Rattle.zb_record.specs.declared.sending.Sending.TheVariants as sending
use Rattle.zb_record.specs.Sendings.{sending_told, sending_sort, sendings}
use Rattle.zb_record.specs.Answers.{answer_packet}
use Rattle.zb_record.specs.Packets.{packet_with, packet_of_definition, packet_for, kept_by, outbox_of, sent_by}
use Rattle.zb_record.proofs.KeptLaws.{among_kept}
use Rattle.zb_rules.specs.Applies.{all_apply}
use Rattle.zb_rules.proofs.AppliedLaws.{some_of}
use Rattle.zb_rules.specs.Deploy.{sent_to, version_behind}
use Rattle.zb_rules.specs.Kinds.{may_follow}
use Rattle.zb_rules.proofs.KindsLaws.{all_joined, all_weaker, EachOf}
use Rattle.zb_rules.proofs.ProcessLaws.{has_key, are_recorded}
use Rattle.zb_rules.proofs.SendingLaws.{sends, IsDeployment, SendsWhatItMakes, outcome_sends}
use Rattle.zb_rules.specs.Shown.{board_of}
use Rattle.zb_rules.proofs.SoundLaws.{board_is_there}
use Rattle.zb_rules.proofs.StepLaws.{each_on_all}
use Rattle.zb_world.specs.Entries.{part_of}
use Rattle.zb_world.specs.declared.entry.Entry.{Entry}
use Rattle.zb_world.specs.History.{IsSentAmong, IsEntryOf, IsHistory}
use Rattle.zb_world.proofs.EntryLaws.{part_of_joined, part_of_its, part_of_other}
use Rattle.zb_world.proofs.HistoryLaws.{history_more, parts_are_steps, sent_still}
use Rattle.zb_world.proofs.AppliedStepLaws.{steps_apply}

-- one of several of which something holds
at_place : {A : Type 0} (P : A → Type 0) (front : List A) (x : A) (more : List A) → AllByRecursion P (front ++ x ∷ more) → P x
at_place P [] x more all = all.0
at_place P (y ∷ front) x more all = at_place P front x more all.1

-- where events tell nothing, the first of them tell nothing
none_before : {A : Type 0} (tell : Event → Option A) (front more : List Event) → last_told tell (front ++ more) ≡ None → last_told tell front ≡ None
none_before tell front more none = by_told (last_told tell more) (sym (last_told_joined tell front more) ∙ none)
  where
    by_told : (later : Option _) → option_or later (last_told tell front) ≡ None → last_told tell front ≡ None
    by_told None is = is
    by_told (Some x) is = absurd (cc)

-- by some events there is the packet of something that is sent, and it is among those that they send
record IsSentHere (p n : ℕ) (made : List Event) (s : Sending) : Type 0 where
  packet : Packet
  is : packet_for p n made s ≡ Some packet
  sends : Contains (kept_by p n made) packet

-- an event that sends a definition begins its distribution
begins_distribution : (e : Event) (d : Distribution) → sending_told e ≡ Some (sending.Definition d) → distribution_told e ≡ Some d
begins_distribution (events.CommandDistributionDistributing e) d told =
    let same : distribution_to e.key e.partition ≡ d = cc in
    ap Some same
begins_distribution e d told = absurd (cc)

-- an event is of that definition: it begins no distribution of another one
abbrev OfIt : ℕ → Event → Type 0
OfIt key e = (d : Distribution) → distribution_told e ≡ Some d → d.definition ≡ key

-- events of what is forced make no process, and begin no distribution
follows_make_none : (key : ℕ) (es : List Event) → EachOf may_follow es → process_in key es ≡ None
follows_make_none key [] follows = refl
follows_make_none key (events.ProcessCreated e ∷ es) follows = let none = follows.0 in absurd (cc)
follows_make_none key (e ∷ es) follows = rw (follows_make_none key es follows.1) refl

follows_of_it : (key : ℕ) (e : Event) → IsTrue (may_follow e) → OfIt key e
follows_of_it key (events.CommandDistributionDistributing e) follows d is = absurd (cc)
follows_of_it key e follows d is = absurd (cc)

sent_make_none : (key definition : ℕ) (qs : List ℕ) → process_in key (map (sent_to definition) qs) ≡ None
sent_make_none key definition [] = refl
sent_make_none key definition (q ∷ qs) = rw (sent_make_none key definition qs) refl

sent_of_it : (definition : ℕ) (qs : List ℕ) → AllByRecursion (OfIt definition) (map (sent_to definition) qs)
sent_of_it definition [] = tt
sent_of_it definition (q ∷ qs) = (λ d is. sym (ap (λ (o : Option Distribution). option_map_or (λ x. x.definition) o 0) is), sent_of_it definition qs)

-- what a deployment leads to sends the definition that it makes, and no other
module _ (p n : ℕ) (es made : List Event) (d : IsDeployment p n es made) where
  abbrev key : ℕ
  key = next_key p es

  abbrev definition : ProcessDefinition
  definition = record { key = key; version = version_behind (greatest_version d.model.process (definitions es)); model = d.model }

  abbrev deployment : Event
  deployment = events.DeploymentCreated (record { key = next_key p (es ++ events.ProcessCreated definition ∷ []); definition = key })

  abbrev sent : List Event
  sent = map (sent_to key) (range_with_len 2 (n - 1))

  same_key : (key == key) ≡ true
  same_key = grind (arith, nat_tests)

  -- behind the first event none makes the definition, and each distribution is of it
  abbrev later : List Event
  later = deployment ∷ sent ++ d.rest

  none_later : process_in key later ≡ None
  none_later =
      let behind : process_in key (sent ++ d.rest) ≡ None = last_told_joined (process_told key) sent d.rest ∙ rw (follows_make_none key d.rest d.follows, sent_make_none key key (range_with_len 2 (n - 1))) refl in
      rw behind refl

  of_it : AllByRecursion (OfIt key) later
  of_it = (λ x is. absurd (cc), all_joined (OfIt key) sent d.rest (sent_of_it key (range_with_len 2 (n - 1))) (all_weaker _ _ (follows_of_it key) d.rest d.follows))

  makes : (front more : List Event) → later ≡ front ++ more → process_in key (events.ProcessCreated definition ∷ front) ≡ Some definition
  makes front more whole = rw (none_before (process_told key) front more (ap (process_in key) (sym whole) ∙ none_later), same_key) refl

  -- so each distribution sends it
  deployment_sends : (front : List Event) (e : Event) (more : List Event) (x : Distribution) → made ≡ front ++ e ∷ more → sending_told e ≡ Some (sending.Definition x) → IsSentHere p n made (sending.Definition x)
  deployment_sends [] e more x whole told =
      let lists : events.ProcessCreated definition ∷ later ≡ e ∷ more = sym d.is ∙ whole in
      let first : events.ProcessCreated definition ≡ e = cc in
      let none : sending_told e ≡ None = ap sending_told (sym first) in
      absurd (cc)
  deployment_sends (f ∷ front) e more x whole told =
      let lists : events.ProcessCreated definition ∷ later ≡ f ∷ (front ++ e ∷ more) = sym d.is ∙ whole in
      let first : events.ProcessCreated definition ≡ f = cc in
      let rest : later ≡ front ++ e ∷ more = cc in
      let packet = packet_with p n x definition.version d.model in
      let named : x.definition ≡ key = at_place (OfIt key) front e more (subst (AllByRecursion (OfIt key)) rest of_it) x (begins_distribution e x told) in
      let before : process_in x.definition (f ∷ front) ≡ Some definition = subst (λ (g : Event). process_in x.definition (g ∷ front) ≡ Some definition) first
      (subst (λ (k : ℕ). process_in k (events.ProcessCreated definition ∷ front) ≡ Some definition) (sym named) (makes front (e ∷ more) rest)) in
      let there : process_in x.definition made ≡ Some definition = subst (λ (k : ℕ). process_in k made ≡ Some definition) (sym named) (ap (process_in key) d.is ∙ makes later [] (sym (append-nil later))) in
      record {
        packet = packet;
        is = rw there refl;
        sends = subst (λ (l : List Event). Contains (kept_by p n l) packet) (sym whole) (among_kept p n (f ∷ front) e more packet (rw (told, before) refl));
      }

-- an event among those that send nothing begins no distribution
none_begun : (front : List Event) (e : Event) (more : List Event) (d : Distribution) → list_any sends (front ++ e ∷ more) ≡ false → distribution_told e ≡ Some d → ⊥
none_begun [] e more d none told = by_test (sends e) none (ap is_some told)
  where
    by_test : (s : Bool) → (s || list_any sends more) ≡ false → s ≡ true → ⊥
    by_test true none is = cc
    by_test false none is = cc
none_begun (f ∷ front) e more d none told = none_begun front e more d (by_test (sends f) none) told
  where
    by_test : (s : Bool) → (s || list_any sends (front ++ e ∷ more)) ≡ false → list_any sends (front ++ e ∷ more) ≡ false
    by_test true none = absurd (cc)
    by_test false none = none

-- an event that tells a packet whole sends it
sent_alone : (p n : ℕ) (made front : List Event) (e : Event) (more : List Event) (s : Sending) (packet : Packet) → made ≡ front ++ e ∷ more → sending_told e ≡ Some s → ((es : List Event) → packet_for p n es s ≡ Some packet) → IsSentHere p n made s
sent_alone p n made front e more s packet whole told is = record {
  packet = packet;
  is = is made;
  sends = subst (λ (l : List Event). Contains (kept_by p n l) packet) (sym whole) (among_kept p n front e more packet (rw told (is front)));
}

-- among what a command leads to each event that begins to send something sends its packet
sent_here : (p n : ℕ) (es made : List Event) → SendsWhatItMakes p n es made → (front : List Event) (e : Event) (more : List Event) (s : Sending) → made ≡ front ++ e ∷ more → sending_told e ≡ Some s → IsSentHere p n made s
sent_here p n es made does front e more (sending.Definition d) whole told = elim does [
  | inl none ↦ absurd (none_begun front e more d (subst (λ (l : List Event). list_any sends l ≡ false) whole none) (begins_distribution e d told))
  | inr deploys ↦ deployment_sends p n es made deploys front e more d whole told
]
sent_here p n es made does front e more s whole told = sent_alone p n made front e more s _ whole told (λ others. refl)

-- the packet of something that is sent stays where other events have each process that these have
packet_stays : (p n : ℕ) (es others : List Event) → ((key : ℕ) (c : ProcessDefinition) → process_in key es ≡ Some c → process_in key others ≡ Some c) → (s : Sending) (packet : Packet) → packet_for p n es s ≡ Some packet → packet_for p n others s ≡ Some packet
packet_stays p n es others have (sending.Definition d) packet is = by_process (process_in d.definition es) refl is
  where
    by_process : (found : Option ProcessDefinition) → process_in d.definition es ≡ found → option_map (λ made. packet_with p n d made.version made.model) found ≡ Some packet → packet_of_definition p n others d ≡ Some packet
    by_process None found none = absurd (cc)
    by_process (Some c) found some = rw (have d.definition c found) some
packet_stays p n es others have s packet is = is

-- the packet of something that is being sent is there, and was sent
record IsUnderWay (n q : ℕ) (h : List Entry) (s : Sending) : Type 0 where
  packet : Packet
  is : packet_for q n (events_of (part_of q h)) s ≡ Some packet
  sent : IsSentAmong n h (length h) packet

abbrev AreUnderWay : (n q : ℕ) → List Entry → Type 0
AreUnderWay n q h = All (IsUnderWay n q h) (sendings (events_of (part_of q h)))

-- with an entry more of another partition
module _ (n q : ℕ) (front : List Entry) (e : Entry) where
  still_under_way : events_of (part_of q (front ++ e ∷ [])) ≡ events_of (part_of q front) → AreUnderWay n q front → AreUnderWay n q (front ++ e ∷ [])
  still_under_way same are =
      let weaker : (s : Sending) → IsUnderWay n q front s → IsUnderWay n q (front ++ e ∷ []) s =
      λ s was. record {
        packet = was.packet;
        is = subst (λ (es : List Event). packet_for q n es s ≡ Some was.packet) (sym same) was.is;
        sent = sent_still n (length front) (length (front ++ e ∷ [])) front (e ∷ []) _ (omega (arith, length-append front (e ∷ []))) was.sent;
      } in
      subst (λ (es : List Event). All (IsUnderWay n q (front ++ e ∷ [])) (sendings es)) (sym same) (All-weaker (IsUnderWay n q front) (IsUnderWay n q (front ++ e ∷ [])) weaker (sendings (events_of (part_of q front))) are)

  -- and of this one
  module _ (its : e.partition ≡ q) (is : IsHistory n (front ++ e ∷ [])) (before : IsHistory n front) (entry : IsEntryOf n front e) where
    abbrev es : List Event
    es = events_of (part_of q front)

    abbrev made : List Event
    made = events_in e.batch.outcome

    whole : events_of (part_of q (front ++ e ∷ [])) ≡ es ++ made
    whole = ap events_of (part_of_joined q front (e ∷ []) ∙ ap (λ (l : List Batch). part_of q front ++ l) (part_of_its q e [] its)) ∙ events_of_more (part_of q front) e.batch

    apply : IsTrue (all_apply q [] (es ++ made))
    apply = subst (λ (l : List Event). IsTrue (all_apply q [] l)) whole (steps_apply q n (part_of q (front ++ e ∷ [])) (parts_are_steps n q (front ++ e ∷ []) is))

    apply_before : IsTrue (all_apply q [] es)
    apply_before = steps_apply q n (part_of q front) (parts_are_steps n q front before)

    -- a process that was made is the one behind more events
    still_made : (key : ℕ) (c : ProcessDefinition) → process_in key es ≡ Some c → process_in key (es ++ made) ≡ Some c
    still_made key c was =
        let b = some_of (board_of es) (board_is_there q es apply_before) in
        let after = some_of (board_of (es ++ made)) (board_is_there q (es ++ made) apply) in
        let r = are_recorded q es b.0 b.1 apply_before in
        let s = are_recorded q (es ++ made) after.0 after.1 apply in
        let found : find (has_key key) (processes es) ≡ Some c = sym (r.alone key) ∙ was in
        s.alone key ∙ (ap (find (has_key key)) (flat_map-append processes_told es made) ∙ (find-append (has_key key) (processes es) (processes made) ∙ rw found refl))

    sends_made : SendsWhatItMakes q n es made
    sends_made = subst (λ (r : ℕ). SendsWhatItMakes r n (events_of (part_of r front)) made) its
        (outcome_sends e.partition n e.batch.moment (events_of (part_of e.partition front)) e.batch.command e.batch.outcome entry.step.outcome)

    old_one : (s : Sending) → IsUnderWay n q front s → IsUnderWay n q (front ++ e ∷ []) s
    old_one s was = record {
      packet = was.packet;
      is = subst (λ (l : List Event). packet_for q n l s ≡ Some was.packet) (sym whole) (packet_stays q n es (es ++ made) still_made s was.packet was.is);
      sent = sent_still n (length front) (length (front ++ e ∷ [])) front (e ∷ []) _ (omega (arith, length-append front (e ∷ []))) was.sent;
    }

    new_one : (s : Sending) → IsSentHere q n made s → IsUnderWay n q (front ++ e ∷ []) s
    new_one s here =
        let of_batch : Contains (sent_by q n e.batch) here.packet = Contains-append_left (kept_by q n made) (begun_by (answer_packet q n e.batch)) here.packet here.sends in
        let behind : (key : ℕ) (c : ProcessDefinition) → process_in key made ≡ Some c → process_in key (es ++ made) ≡ Some c = λ key c is. last_told_joined (process_told key) es made ∙ rw is refl in
        record {
          packet = here.packet;
          is = subst (λ (l : List Event). packet_for q n l s ≡ Some here.packet) (sym whole) (packet_stays q n made (es ++ made) behind s here.packet here.is);
          sent = record {
            place = length front;
            sender = e;
            at = last_at front e;
            before = omega (arith, length-append front (e ∷ []));
            sends = subst (λ (r : ℕ). Contains (sent_by r n e.batch) here.packet) (sym its) of_batch;
          };
        }
      where
        last_at : (xs : List Entry) (x : Entry) → slice_get (xs ++ x ∷ []) (length xs) ≡ Some x
        last_at [] x = refl
        last_at (y ∷ xs) x = last_at xs x

    -- as its events are added one after the other
    abbrev After : Sending → Type 0
    After = IsUnderWay n q (front ++ e ∷ [])

    begun_after : (sofar : List Event) (x : Event) (more : List Event) (told : Option Sending) → made ≡ sofar ++ x ∷ more → sending_told x ≡ told → All After (begun_by told)
    begun_after sofar x more None split told = All-nil After
    begun_after sofar x more (Some s) split told = All-cons After s [] (new_one s (sent_here q n es made sends_made sofar x more s split told)) (All-nil After)

    each_after : (sofar more : List Event) → made ≡ sofar ++ more → All After (sendings (es ++ sofar)) → All After (sendings (es ++ made))
    each_after sofar [] split are = subst (λ (l : List Event). All After (sendings (es ++ l))) (sym (split ∙ append-nil sofar)) are
    each_after sofar (x ∷ more) split are =
        let over = es ++ sofar in
        let next : All After (sendings (over ++ x ∷ [])) = subst (All After) (sym (standing_more sending_sort over x))
        (All-append After (left_by sending_sort over x (sendings over)) (begun_by (sending_told x))
        (each_left sending_sort After over x (sendings over) (λ s among lasts. All-contains After (sendings over) s are among)) (begun_after sofar x more (sending_told x) split refl)) in
        each_after (sofar ++ x ∷ []) more (split ∙ sym (append_assoc sofar (x ∷ []) more)) (subst (λ (l : List Event). All After (sendings l)) (append_assoc es sofar (x ∷ [])) next)

    more_under_way : AreUnderWay n q front → AreUnderWay n q (front ++ e ∷ [])
    more_under_way are =
        let old = All-weaker (IsUnderWay n q front) After old_one (sendings es) are in
        subst (λ (l : List Event). All After (sendings l)) (sym whole) (each_after [] made refl (subst (λ (l : List Event). All After (sendings l)) (sym (append-nil es)) old))

-- so it is in a history
are_under_way : (n q : ℕ) (h : List Entry) → IsHistory n h → AreUnderWay n q h
are_under_way n q h is =
    each_on_all (IsEntryOf n) [] (AreUnderWay n q)
    (λ (front : List Entry) (e : Entry) before are entry. elim (cases_eq e.partition q) [
      | inl its ↦ more_under_way n q front e its (history_more n front e before entry) before entry are
      | inr other ↦ still_under_way n q front e (ap events_of (part_of_joined q front (e ∷ []) ∙ (ap (λ (l : List Batch). part_of q front ++ l) (part_of_other q e [] other) ∙ append-nil (part_of q front)))) are
    ])
    (All-nil (IsUnderWay n q [])) h is

-- and each packet in an outbox was sent
pub outbox_was_sent : (n q : ℕ) (h : List Entry) → IsHistory n h → AllByRecursion (IsSentAmong n h (length h)) (outbox_of q n (events_of (part_of q h)))
outbox_was_sent n q h is = each_sent (sendings (events_of (part_of q h))) (are_under_way n q h is)
  where
    each_sent : (ss : List Sending) → All (IsUnderWay n q h) ss → AllByRecursion (IsSentAmong n h (length h)) (filter_map (packet_for q n (events_of (part_of q h))) ss)
    each_sent [] are = tt
    each_sent (s ∷ ss) are =
        let u = All-head (IsUnderWay n q h) s ss are in
        rw u.is (u.sent, each_sent ss (All-tail (IsUnderWay n q h) s ss are))
