-- A history is, in what its entries do to messages, one of message steps; so each message is correlated with a process at most once.
use Rattle.std.proofs.Common.{◌≡◌, ℕ, zero, suc, ◌==◌, ◌&&◌, ◌||◌, List, [], ◌∷◌, ◌++◌, length, map, take, slice_get, Bool, true, false, if◌then◌else◌, IsTrue, Contains, Option, Some, None, option_map, refl, inl, inr, ap, sym, ◌∙◌, subst, append-nil, append_assoc, arith}
use Rattle.std.specs.List.{filter, flat_map, list_any}
use Rattle.std.specs.Option.{option_or}
use Rattle.std.specs.Str.{bytes_eq}
use Rattle.std.proofs.lemmas.List.{map-append}
use Rattle.std.proofs.lemmas.Bool.Decides.{nat_tests}
use Rattle.std.proofs.lemmas.Option.{slice_get-map}
use Rattle.std.proofs.lemmas.List.Elements.{Contains-append_left, Contains-append_right, Contains-append_cases}
use Rattle.zb_instance_records.specs.declared.deployment.ProcessDefinition.{ProcessDefinition}
use Rattle.zb_model.specs.declared.record.Command.{Command}
use Rattle.zb_model.specs.declared.record.Command.TheVariants as commands
use Rattle.zb_model.specs.declared.record.Event.{Event}
use Rattle.zb_model.specs.declared.record.Event.TheVariants as events
use Rattle.zb_model.specs.declared.record.Outcome.{Outcome}
use Rattle.zb_model.specs.declared.record.Outcome.TheVariants as outcomes
use Rattle.zb_model.specs.declared.record.Packet.{Packet}
use Rattle.zb_views.specs.View.{events_in, events_of}
use Rattle.zb_views.specs.Standing.{begun_by}
use Rattle.zb_views.specs.Definitions.{definitions}
use Rattle.zb_views.specs.Distributions.{distribution_to}
use Rattle.zb_views.specs.Processes.{process_told, process_in}
use Rattle.zb_record.specs.Answers.{was_correlated, no_subscription, being_deleted, answering_packet, answer_by, answer_packet}
use Rattle.zb_record.specs.Partitions.{partition_known}
use Rattle.zb_record.specs.Packets.{packet_with, kept_by, sent_by, is_by_packet}
use Rattle.zb_record.proofs.KeptLaws.{sent_behind, kept_more}
use Rattle.zb_once.proofs.ListLemmas.{nothing_in, the_one, here_in, later_in, first_or_later, flat_in}
use Rattle.zb_once.specs.Tellings.{Telling, home, seat}
use Rattle.zb_once.specs.Tellings.Refusal.{NoSubscription, WasCorrelated, BeingDeleted, AnyOther}
use Rattle.zb_once.specs.Tellings.Telling.{Defined}
use Rattle.zb_once.specs.Tellings.Asking.{Distribute, IsCreated, Correlate, WasKept, Reject, IsDeleted}
use Rattle.zb_once.specs.May.{replies_to}
use Rattle.zb_once.specs.History.{Deed, Letter, is_deed_at, tellings_at, all_tellings, letter_of_definition, letters_told, replies_by, reply_letter, letters_by, is_by_letter, IsNextDeed, IsMessageHistory}
use Rattle.zb_once.specs.Once.{AtMostOne, tells_opening, tells_definition, correlates_with}
use Rattle.zb_once.proofs.OnceLaws.{correlates_once}
use Rattle.zb_world.specs.Entries.{is_of, part_of, happenings}
use Rattle.zb_world.specs.declared.entry.Entry.{Entry}
use Rattle.zb_world.specs.History.{IsEntryOf, IsHistory}
use Rattle.zb_world.specs.Once.{opens_for, defines, correlates}
use Rattle.zb_world.specs.Tellings.{tells, asks, refusal_by, deed_of}
use Rattle.zb_world.proofs.HistoryLaws.{history_front, parts_are_steps}
use Rattle.zb_world.proofs.MessageStepLaws.{step_of_messages}

-- of mapped lists
any_mapped : {A B : Type 0} (f : A → B) (test : B → Bool) (same : A → Bool) → ((x : A) → test (f x) ≡ same x) → (xs : List A) → list_any test (map f xs) ≡ list_any same xs
any_mapped f test same are [] = refl
any_mapped f test same are (x ∷ xs) = rw (are x, any_mapped f test same are xs) refl

mapped_in : {A B : Type 0} (f : A → B) (xs : List A) (x : A) → Contains xs x → Contains (map f xs) (f x)
mapped_in f [] x is = absurd (nothing_in x is)
mapped_in f (y ∷ xs) x is = elim (first_or_later y x xs is) [
  | inl same ↦ subst (λ z. Contains (map f (y ∷ xs)) (f z)) (sym same) (here_in (f y) (map f xs))
  | inr rest ↦ later_in (f y) (f x) (map f xs) (mapped_in f xs x rest)
]

take_mapped : {A B : Type 0} (f : A → B) (k : ℕ) (xs : List A) → take k (map f xs) ≡ map f (take k xs)
take_mapped f zero xs = refl
take_mapped f (suc k) [] = refl
take_mapped f (suc k) (x ∷ xs) = ap (λ ys. f x ∷ ys) (take_mapped f k xs)

length_mapped : {A B : Type 0} (f : A → B) (xs : List A) → length (map f xs) ≡ length xs
length_mapped f [] = refl
length_mapped f (x ∷ xs) = ap (λ (k : ℕ). suc k) (length_mapped f xs)

mapped_at : {A B : Type 0} (f : A → B) (xs : List A) (k : ℕ) (y : B) → slice_get (map f xs) k ≡ Some y → (x : A) × (slice_get xs k ≡ Some x) × (f x ≡ y)
mapped_at {A = A} {B = B} f xs k y is = by_found (slice_get xs k) refl (sym (slice_get-map f xs k) ∙ is)
  where
    by_found : (found : Option A) → slice_get xs k ≡ found → option_map f found ≡ Some y → (x : A) × (slice_get xs k ≡ Some x) × (f x ≡ y)
    by_found None at says = absurd (cc)
    by_found (Some x) at says = (x, at, cc)

at_mapped : {A B : Type 0} (f : A → B) (xs : List A) (k : ℕ) (x : A) → slice_get xs k ≡ Some x → slice_get (map f xs) k ≡ Some (f x)
at_mapped f xs k x is = slice_get-map f xs k ∙ ap (option_map f) is

-- what the entries tell is what their events tell, of all partitions and of one
all_tellings_are : (h : List Entry) → all_tellings (map deed_of h) ≡ map tells (happenings h)
all_tellings_are [] = refl
all_tellings_are (e ∷ h) = ap (λ (told : List Telling). map tells (events_in e.batch.outcome) ++ told) (all_tellings_are h) ∙ sym (map-append tells (events_in e.batch.outcome) (happenings h))

tellings_are : (p : ℕ) (h : List Entry) → tellings_at (map deed_of h) p ≡ map tells (events_of (part_of p h))
tellings_are p [] = refl
tellings_are p (e ∷ h) = by_test (e.partition == p) (tellings_are p h)
  where
    by_test : (its : Bool) → tellings_at (map deed_of h) p ≡ map tells (events_of (part_of p h))
        → flat_map (λ (deed : Deed). deed.told) (if its then deed_of e ∷ filter (is_deed_at p) (map deed_of h) else filter (is_deed_at p) (map deed_of h))
        ≡ map tells (events_of (map (λ (entry : Entry). entry.batch) (if its then e ∷ filter (is_of p) h else filter (is_of p) h)))
    by_test true rest = ap (λ (told : List Telling). map tells (events_in e.batch.outcome) ++ told) rest ∙ sym (map-append tells (events_in e.batch.outcome) (events_of (part_of p h)))
    by_test false rest = rest

-- an event correlates a message where it tells so
opens_same : (subscription : ℕ) (process : List ℕ) (e : Event) → tells_opening subscription process (tells e) ≡ opens_for subscription process e
opens_same subscription process (events.ProcessMessageSubscriptionCreating e) = refl
opens_same subscription process _ = refl

defines_same : (key : ℕ) (process : List ℕ) (es : List Event) → list_any (tells_definition key process) (map tells es) ≡ list_any (defines key process) (definitions es)
defines_same key process [] = refl
defines_same key process (events.ProcessCreated e ∷ es) = ap (λ (b : Bool). ((e.key == key) && bytes_eq e.model.process process) || b) (defines_same key process es)
defines_same key process (_ ∷ es) = defines_same key process es

correlates_same : (all : List Event) (message : ℕ) (process : List ℕ) (e : Event) → correlates_with (map tells all) message process (tells e) ≡ correlates all message process e
correlates_same all message process (events.ProcessMessageSubscriptionCorrelated e) =
    ap (λ (b : Bool). (e.message == message) && b) (any_mapped tells (tells_opening e.subscription process) (opens_for e.subscription process) (opens_same e.subscription process) all)
correlates_same all message process (events.MessageStartEventSubscriptionCorrelated e) = ap (λ (b : Bool). (e.message == message) && b) (defines_same e.definition process all)
correlates_same all message process _ = refl

-- a packet as a letter
abbrev letter_of : Packet → Letter
letter_of packet = record { to = packet.to; asked = asks packet.command }

-- one of some events sent a packet that they send
record IsFromOne (p n : ℕ) (es : List Event) (packet : Packet) : Type 0 where
  front : List Event
  sender : Event
  more : List Event
  split : es ≡ front ++ sender ∷ more
  sends : sent_behind p n front sender ≡ Some packet

begun_is : {A : Type 0} (o : Option A) (x : A) → Contains (begun_by o) x → o ≡ Some x
begun_is None x is = absurd (nothing_in x is)
begun_is (Some y) x is = ap Some (sym (the_one y x is))

kept_from : (p n : ℕ) (packet : Packet) (before after : List Event) → (Contains (kept_by p n before) packet → IsFromOne p n (before ++ after) packet) → Contains (kept_by p n (before ++ after)) packet → IsFromOne p n (before ++ after) packet
kept_from p n packet before [] so_far is = so_far (subst (λ (es : List Event). Contains (kept_by p n es) packet) (append-nil before) is)
kept_from p n packet before (e ∷ after) so_far is =
    let regroup : (before ++ e ∷ []) ++ after ≡ before ++ e ∷ after = append_assoc before (e ∷ []) after in
    let one_more : Contains (kept_by p n (before ++ e ∷ [])) packet → IsFromOne p n (before ++ e ∷ after) packet = λ among.
    elim (Contains-append_cases (kept_by p n before) (begun_by (sent_behind p n before e)) packet (subst (λ (l : List Packet). Contains l packet) (kept_more p n before e) among)) [
      | inl old ↦ so_far old
      | inr new ↦ record { front = before; sender = e; more = after; split = refl; sends = begun_is (sent_behind p n before e) packet new }
    ] in
    subst (λ (es : List Event). IsFromOne p n es packet) regroup
    (kept_from p n packet (before ++ e ∷ []) after (λ among. subst (λ (es : List Event). IsFromOne p n es packet) (sym regroup) (one_more among)) (subst (λ (es : List Event). Contains (kept_by p n es) packet) (sym regroup) is))

-- a process that some events make is told by one of them
made_is_told : (key : ℕ) (es : List Event) (c : ProcessDefinition) → process_in key es ≡ Some c → Contains (map tells es) (Defined key c.model.process)
made_is_told key [] c is = absurd (cc)
made_is_told key (e ∷ es) c is = by_rest (process_in key es) (λ found. made_is_told key es c found) is
  where
    by_event : (e : Event) → process_told key e ≡ Some c → tells e ≡ Defined key c.model.process
    by_event (events.ProcessCreated d) is = by_key (d.key == key) refl is
      where
        by_key : (same : Bool) → (d.key == key) ≡ same → (if same then Some d else None) ≡ Some c → tells (events.ProcessCreated d) ≡ Defined key c.model.process
        by_key true same is = let one : d.key ≡ key = grind (arith) in let its : d ≡ c = cc in rw (its) (ap (λ (k : ℕ). Defined k c.model.process) (ap (λ (x : ProcessDefinition). x.key) (sym its) ∙ one))
        by_key false same is = absurd (cc)
    by_event _ is = absurd (cc)

    by_rest : (rest : Option ProcessDefinition) → (rest ≡ Some c → Contains (map tells es) (Defined key c.model.process)) → option_or rest (process_told key e) ≡ Some c → Contains (map tells (e ∷ es)) (Defined key c.model.process)
    by_rest None later is = subst (λ (t : Telling). Contains (map tells (e ∷ es)) t) (by_event e is) (here_in (tells e) (map tells es))
    by_rest (Some d) later is = later_in (tells e) (Defined key c.model.process) (map tells es) (later is)

-- the one letter where there is a packet
one_letter : (packet sent : Packet) (letter : Letter) → Some sent ≡ Some packet → letter_of sent ≡ letter → Contains (letter ∷ []) (letter_of packet)
one_letter packet sent letter is same =
    let one : sent ≡ packet = cc in
    subst (λ (x : Packet). Contains (letter ∷ []) (letter_of x)) one (subst (λ (l : Letter). Contains (letter ∷ []) l) (sym same) (here_in letter []))

module _ (n : ℕ) where
  -- what an event sends behind others is among the letters of what it tells
  told_sends : (p : ℕ) (told : List Telling) (front : List Event) (e : Event) (packet : Packet) → ((t : Telling) → Contains (map tells front) t → Contains told t) → sent_behind p n front e ≡ Some packet → Contains (letters_told n told (tells e)) (letter_of packet)
  unfolding home seat
  told_sends p told front (events.CommandDistributionDistributing c) packet among is = by_process (process_in c.key front) refl is
    where
      by_process : (found : Option ProcessDefinition) → process_in c.key front ≡ found → option_map (λ (made : ProcessDefinition). packet_with p n (distribution_to c.key c.partition) made.version made.model) found ≡ Some packet
          → Contains (letters_told n told (tells (events.CommandDistributionDistributing c))) (letter_of packet)
      by_process None found is = absurd (cc)
      by_process (Some made) found is =
          let to = partition_known n c.partition in
          let letter : Letter = record { to = to; asked = Distribute c.key made.model.process } in
          let same : (c.key == c.key) ≡ true = grind (arith, nat_tests) in
          let here : Contains (letter_of_definition c.key to (Defined c.key made.model.process)) (letter_of packet) = rw same (one_letter packet _ letter is refl) in
          flat_in (letter_of_definition c.key to) told (Defined c.key made.model.process) (letter_of packet) (among (Defined c.key made.model.process) (made_is_told c.key front made found)) here
  told_sends p told front (events.ProcessMessageSubscriptionCreating e) packet among is = one_letter packet _ _ is refl
  told_sends p told front (events.MessageSubscriptionCorrelating e) packet among is = one_letter packet _ _ is refl
  told_sends p told front (events.ProcessMessageSubscriptionDeleting e) packet among is = one_letter packet _ _ is refl
  told_sends p told front _ packet among is = absurd (cc)

  -- what answers a packet is the reply of what it asks
  answer_replies : (p : ℕ) (command : Command) (outcome : Outcome) (packet : Packet) → IsTrue (is_by_letter (asks packet.command)) → answer_by p n command outcome ≡ Some packet
      → Contains (map (reply_letter n) (replies_to (asks command) (refusal_by command outcome))) (letter_of packet)
  unfolding home
  answer_replies p (commands.DeploymentDistribute c) outcome packet by is =
      let same : answering_packet p n c.key (commands.CommandDistributionAcknowledge (record { key = c.key; partition = p })) ≡ packet = cc in
      let none : is_by_letter (asks (commands.CommandDistributionAcknowledge (record { key = c.key; partition = p }))) ≡ true = subst (λ (x : Packet). is_by_letter (asks x.command) ≡ true) (sym same) by in
      absurd (cc)
  answer_replies p (commands.MessageSubscriptionCreate c) outcome packet by is = one_letter packet _ (reply_letter n (IsCreated c.subscription)) is refl
  answer_replies p (commands.MessageSubscriptionDelete c) outcome packet by is = one_letter packet _ (reply_letter n (IsDeleted c.subscription)) is refl
  answer_replies p (commands.ProcessMessageSubscriptionCorrelate c) (outcomes.Accepted es) packet by is = one_letter packet _ (reply_letter n (WasKept c.subscription c.message)) is refl
  answer_replies p (commands.ProcessMessageSubscriptionCorrelate c) (outcomes.Rejected r) packet by is =
      by_tests (bytes_eq r.reason (was_correlated c.message)) (bytes_eq r.reason (no_subscription c.subscription)) (bytes_eq r.reason (being_deleted c.subscription)) is
    where
      taken : Command
      taken = commands.MessageSubscriptionCorrelate (record { subscription = c.subscription; message = c.message })

      turned : Command
      turned = commands.MessageSubscriptionReject (record { subscription = c.subscription; message = c.message })

      by_tests : (was none deleted : Bool) → option_map (answering_packet p n c.message) (if was then Some taken else if none || deleted then Some turned else None) ≡ Some packet
          → Contains (map (reply_letter n) (replies_to (Correlate c.subscription c.message) (Some (if was then WasCorrelated else if none then NoSubscription else if deleted then BeingDeleted else AnyOther)))) (letter_of packet)
      by_tests true none deleted is = one_letter packet (answering_packet p n c.message taken) (reply_letter n (WasKept c.subscription c.message)) is refl
      by_tests false true deleted is = one_letter packet (answering_packet p n c.message turned) (reply_letter n (Reject c.subscription c.message)) is refl
      by_tests false false true is = one_letter packet (answering_packet p n c.message turned) (reply_letter n (Reject c.subscription c.message)) is refl
      by_tests false false false is = absurd (cc)
  answer_replies p _ outcome packet by is = absurd (cc)

  -- a packet of an entry is a letter of what it does
  packet_posted : (entry : Entry) (packet : Packet) → IsTrue (is_by_letter (asks packet.command)) → Contains (sent_by entry.partition n entry.batch) packet → Contains (letters_by n (deed_of entry)) (letter_of packet)
  packet_posted entry packet by is =
      let made = events_in entry.batch.outcome in
      let answer = answer_packet entry.partition n entry.batch in
      let told = map tells made in
      let replies = map (reply_letter n) (replies_by (deed_of entry)) in
      elim (Contains-append_cases (kept_by entry.partition n made) (begun_by answer) packet is) [
        | inl kept ↦
            let f = kept_from entry.partition n packet [] made (λ none. absurd (nothing_in packet none)) kept in
            let among : (t : Telling) → Contains (map tells f.front) t → Contains (map tells made) t = λ t there.
            subst (λ (es : List Event). Contains (map tells es) t) (sym f.split) (subst (λ (told : List Telling). Contains told t) (sym (map-append tells f.front (f.sender ∷ f.more))) (Contains-append_left (map tells f.front) (map tells (f.sender ∷ f.more)) t there)) in
            let sender : Contains made f.sender = subst (λ (es : List Event). Contains es f.sender) (sym f.split) (Contains-append_right f.front (f.sender ∷ f.more) f.sender (here_in f.sender f.more)) in
            Contains-append_left (flat_map (letters_told n told) told) replies (letter_of packet)
            (flat_in (letters_told n told) told (tells f.sender) (letter_of packet) (mapped_in tells made f.sender sender) (told_sends entry.partition told f.front f.sender packet among f.sends))
        | inr answers ↦ Contains-append_right (flat_map (letters_told n told) told) replies (letter_of packet) (answer_replies entry.partition entry.batch.command entry.batch.outcome packet by (begun_is answer packet answers))
      ]

  -- a partition takes by packets alone what is asked by letters
  by_packet : (command : Command) → IsTrue (is_by_letter (asks command)) → IsTrue (is_by_packet command)
  by_packet (commands.DeploymentDistribute c) is = refl
  by_packet (commands.MessageSubscriptionCreate c) is = refl
  by_packet (commands.ProcessMessageSubscriptionCreate key) is = refl
  by_packet (commands.ProcessMessageSubscriptionCorrelate c) is = refl
  by_packet (commands.MessageSubscriptionCorrelate c) is = refl
  by_packet (commands.MessageSubscriptionReject c) is = refl
  by_packet (commands.MessageSubscriptionDelete c) is = refl
  by_packet (commands.ProcessMessageSubscriptionDelete key) is = refl
  by_packet _ is = absurd (cc)

  -- an entry that may be the next one is a deed that may be
  deed_is_next : (before : List Entry) (entry : Entry) → IsHistory n before → IsEntryOf n before entry → IsNextDeed n (map deed_of before) (deed_of entry)
  deed_is_next before entry history is = record {
    step = rw (tellings_are entry.partition before) (step_of_messages n entry.partition (part_of entry.partition before) entry.batch is.partition (parts_are_steps n entry.partition before history) is.step);
    begin = rw (length_mapped deed_of before) (is.begin);
    letter = λ by.
        let was = is.packet (by_packet entry.batch.command by) in
        let sent = was.sent in
        let by_letter : IsTrue (is_by_letter (asks was.packet.command)) = subst (λ (c : Command). IsTrue (is_by_letter (asks c))) (sym was.command) by in
        record {
          letter = letter_of was.packet;
          posted = record { place = sent.place; sender = deed_of sent.sender; at = at_mapped deed_of before sent.place sent.sender sent.at; before = sent.before; sends = packet_posted sent.sender was.packet by_letter sent.sends };
          to = was.to;
          asked = ap asks was.command;
        };
  }

  -- so a history is one of message steps
  pub history_of_messages : (h : List Entry) → IsHistory n h → IsMessageHistory n (map deed_of h)
  history_of_messages h is k deed at =
      let r = mapped_at deed_of h k deed at in
      rw (take_mapped deed_of k h) (subst (IsNextDeed n (map deed_of (take k h))) r.2 (deed_is_next (take k h) r.0 (history_front n h k is) (is k r.0 r.1)))

  -- and each message is correlated with a process at most once
  pub messages_once : (h : List Entry) → IsHistory n h → (message : ℕ) (process : List ℕ) → AtMostOne (correlates (happenings h) message process) (happenings h)
  messages_once h is message process i j x y here there passes passes_too =
      let once_told = correlates_once n (map deed_of h) (history_of_messages h is) message process i j (tells x) (tells y) in
      let all = all_tellings_are h in
      once_told (rw all (at_mapped tells (happenings h) i x here)) (rw all (at_mapped tells (happenings h) j y there))
      (rw all (rw (correlates_same (happenings h) message process x) passes)) (rw all (rw (correlates_same (happenings h) message process y) passes_too))
