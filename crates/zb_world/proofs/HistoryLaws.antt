-- Laws of histories and of their cuts.
use Rattle.std.proofs.Common.{◌≡◌, ℕ, zero, suc, ◌≤◌, List, [], ◌∷◌, ◌++◌, length, take, get_or, slice_get, All, IsTrue, Some, refl, inl, inr, ap, sym, subst, ◌∙◌, append-nil, arith}
use Rattle.std.proofs.lemmas.Bool.{cases_eq}
use Rattle.std.proofs.lemmas.Bool.Decides.{nat_tests}
use Rattle.std.proofs.lemmas.List.{map-append, length-append, take_all}
use Rattle.std.proofs.lemmas.List.Elements.{All-nil, All-get_or}
use Rattle.std.proofs.lemmas.Option.{slice_get_within, get_or_from_slice_get, slice_get-get_or}
use Rattle.zb_model.specs.declared.record.Batch.{Batch}
use Rattle.zb_rules.specs.Step.{IsStep, EachOn, AreStepsOn}
use Rattle.zb_rules.proofs.StepLaws.{are_steps_none, are_steps_more, each_on_none, each_on_more, each_on_front, each_on_all, each_on_joined, taken_at}
use Rattle.zb_once.specs.Once.{AtMostOne}
use Rattle.zb_world.specs.Entries.{IsPartitionOf, is_of, part_of, places_of, as_entry, entries_of}
use Rattle.zb_world.specs.declared.entry.Entry.{Entry}
use Rattle.zb_model.specs.declared.record.Packet.{Packet}
use Rattle.zb_world.specs.History.{IsSentAmong, WasSent, IsEntryOf, IsHistory, IsCutAt}
use Rattle.zb_world.proofs.EntryLaws.{part_of_joined, part_of_its, part_of_other, part_of_none, pinned}

-- a partition's part behind one more entry
steps_behind : (n p : ℕ) (front : List Entry) (e : Entry) → AreStepsOn p n [] (part_of p front) → IsStep e.partition n (part_of e.partition front) e.batch → AreStepsOn p n [] (part_of p (front ++ e ∷ []))
steps_behind n p front e steps step = rw (part_of_joined p front (e ∷ [])) (elim (cases_eq e.partition p) [
  | inl same ↦
      let its : IsStep p n (part_of p front) e.batch = subst (λ (q : ℕ). IsStep q n (part_of q front) e.batch) same step in
      rw (part_of_its p e [] same) (are_steps_more p n [] (part_of p front) e.batch steps its)
  | inr other ↦ rw (part_of_other p e [] other, append-nil (part_of p front)) steps
])

-- the part of a partition in a history is a log of its steps
pub parts_are_steps : (n p : ℕ) (h : List Entry) → IsHistory n h → AreStepsOn p n [] (part_of p h)
parts_are_steps n p h is =
    each_on_all (IsEntryOf n) [] (λ (h : List Entry). AreStepsOn p n [] (part_of p h))
    (λ (front : List Entry) (e : Entry) before steps entry. steps_behind n p front e steps entry.step)
    (are_steps_none p n []) h is

-- no entries are a history
pub history_none : (n : ℕ) → IsHistory n []
history_none n = each_on_none (IsEntryOf n) []

-- an entry that may be the next one goes on with a history
pub history_more : (n : ℕ) (h : List Entry) (entry : Entry) → IsHistory n h → IsEntryOf n h entry → IsHistory n (h ++ entry ∷ [])
history_more n h entry is next = each_on_more (IsEntryOf n) [] h entry is next

-- the first few entries of a history are one
pub history_front : (n : ℕ) (h : List Entry) (count : ℕ) → IsHistory n h → IsHistory n (take count h)
history_front n h count is = each_on_front (IsEntryOf n) [] h count is

-- entries that may come one after the other go on with a history
pub history_joined : (n : ℕ) (h more : List Entry) → IsHistory n h → EachOn (IsEntryOf n) h more → IsHistory n (h ++ more)
history_joined n h more is each = each_on_joined (IsEntryOf n) [] h more is each

-- what stands at a place still does with others behind
slice_get_front : {A : Type 0} (base others : List A) (k : ℕ) (x : A) → slice_get base k ≡ Some x → slice_get (base ++ others) k ≡ Some x
slice_get_front [] others k x at = absurd (cc)
slice_get_front (y ∷ base) others zero x at = at
slice_get_front (y ∷ base) others (suc k) x at = slice_get_front base others k x at

-- a packet that was sent was sent, whatever comes behind
pub sent_still : (n below higher : ℕ) (base others : List Entry) (packet : Packet) → below ≤ higher → IsSentAmong n base below packet → IsSentAmong n (base ++ others) higher packet
sent_still n below higher base others packet up s = record {
  place = s.place;
  sender = s.sender;
  at = slice_get_front base others s.place s.sender s.at;
  before = let before = s.before in omega arith;
  sends = s.sends;
}

sent_behind : (n : ℕ) (base others : List Entry) (e : Entry) → WasSent n base e → WasSent n (base ++ others) e
sent_behind n base others e was = record {
  packet = was.packet;
  sent = sent_still n e.batch.begin e.batch.begin base others was.packet (omega arith) was.sent;
  to = was.to;
  command = was.command;
}

-- behind the first few and others of which none is of its partition, an entry is one that it was behind the first few
entry_behind : (n : ℕ) (base others : List Entry) (e : Entry) → IsEntryOf n base e → part_of e.partition others ≡ [] → IsEntryOf n (base ++ others) e
entry_behind n base others e is none =
    let same : part_of e.partition (base ++ others) ≡ part_of e.partition base = part_of_joined e.partition base others ∙ (ap (λ (rest : List Batch). part_of e.partition base ++ rest) none ∙ append-nil (part_of e.partition base)) in
    record {
      partition = is.partition;
      step = subst (λ (log : List Batch). IsStep e.partition n log e.batch) (sym same) is.step;
      begin = let begin : e.batch.begin ≤ length base = is.begin in omega (arith, length-append base others);
      packet = λ by. sent_behind n base others e (is.packet by);
    }

-- of entries of which at most one is of a partition, none in front of that one is
module _ (p : ℕ) (more : List Entry) (once : AtMostOne (is_of p) more) (k : ℕ) (e : Entry) (here : slice_get more k ≡ Some e) (its : e.partition ≡ p) where
  not_in_front : (j : ℕ) (x : Entry) → slice_get (take k more) j ≡ Some x → x.partition ≡ p → ⊥
  not_in_front j x there its_too =
      let taken = taken_at k more j x there in
      let passes : IsTrue (is_of p e) = grind (arith, nat_tests) in
      let passes_too : IsTrue (is_of p x) = grind (arith, nat_tests) in
      let place : j ≡ k = once j k x e taken.2 here passes_too passes in
      omega (arith, taken.0, place)

  none_in_front : part_of p (take k more) ≡ []
  none_in_front = part_of_none p (take k more) not_in_front

-- what a cut adds goes on with its first few entries
added_go_on : (n : ℕ) (base more : List Entry) → ((p : ℕ) → AtMostOne (is_of p) more) → All (IsEntryOf n base) more → EachOn (IsEntryOf n) base more
added_go_on n base more once each k e here =
    let found : get_or more k e ≡ e = get_or_from_slice_get more k e e here in
    let next : IsEntryOf n base e = subst (IsEntryOf n base) found (All-get_or (IsEntryOf n base) more k e (slice_get_within more k e here) each) in
    entry_behind n base (take k more) e next (none_in_front e.partition more (once e.partition) k e here refl)

-- a cut of a history is one
pub cut_is_history : (n at : ℕ) (h cut : List Entry) → IsHistory n h → IsCutAt n at h cut → IsHistory n cut
cut_is_history n at h cut is c =
    subst (IsHistory n) (sym c.is) (history_joined n (take at h) c.more (history_front n h at is) (added_go_on n (take at h) c.more c.once c.each))

-- the first few entries are a cut
pub front_is_cut : (n at : ℕ) (h : List Entry) → at ≤ length h → IsCutAt n at h (take at h)
front_is_cut n at h within = record {
  more = [];
  within = within;
  is = sym (append-nil (take at h));
  once = λ (p i j : ℕ) (x y : Entry) (here : slice_get [] i ≡ Some x) there its its_too. absurd (cc here);
  each = All-nil (IsEntryOf n (take at h));
}

-- the whole is a cut
pub whole_is_cut : (n : ℕ) (h : List Entry) → IsCutAt n (length h) h h
whole_is_cut n h = subst (IsCutAt n (length h) h) (take_all (length h) h (omega arith)) (front_is_cut n (length h) h (omega arith))

-- each entry of a history is one of its partitions
pub history_within : (n : ℕ) (h : List Entry) → IsHistory n h → All (λ entry. IsPartitionOf n entry.partition) h
history_within n h is k d within = let entry = is k (get_or h k d) (slice_get-get_or h k d within) in entry.partition

-- so histories are pinned by each partition's part and its places
pub history_pinned : (n first : ℕ) (a b : List Entry) → IsHistory n a → IsHistory n b
    → ((p : ℕ) → IsPartitionOf n p → (part_of p a ≡ part_of p b) × (places_of p first a ≡ places_of p first b)) → a ≡ b
history_pinned n first a b is is_too same = pinned n first a b (history_within n a is) (history_within n b is_too) same

-- a history of one partition is the entries of its log
pub history_of_one : (h : List Entry) → IsHistory 1 h → h ≡ entries_of 1 (part_of 1 h)
history_of_one h is =
    each_on_all (IsEntryOf 1) [] (λ (h : List Entry). h ≡ entries_of 1 (part_of 1 h))
    (λ (front : List Entry) (e : Entry) before same entry.
    let its : e.partition ≡ 1 = omega (arith, entry.partition.0, entry.partition.1) in
    let part : part_of 1 (front ++ e ∷ []) ≡ part_of 1 front ++ e.batch ∷ [] = part_of_joined 1 front (e ∷ []) ∙ ap (λ (rest : List Batch). part_of 1 front ++ rest) (part_of_its 1 e [] its) in
    let whole : e ≡ as_entry 1 e.batch = ap (λ (q : ℕ). as_entry q e.batch) its in
    let split : entries_of 1 (part_of 1 front ++ e.batch ∷ []) ≡ entries_of 1 (part_of 1 front) ++ as_entry 1 e.batch ∷ [] = map-append (as_entry 1) (part_of 1 front) (e.batch ∷ []) in
    let first : front ++ e ∷ [] ≡ entries_of 1 (part_of 1 front) ++ e ∷ [] = ap (λ (l : List Entry). l ++ e ∷ []) same in
    let second : entries_of 1 (part_of 1 front) ++ e ∷ [] ≡ entries_of 1 (part_of 1 front) ++ as_entry 1 e.batch ∷ [] = ap (λ (x : Entry). entries_of 1 (part_of 1 front) ++ x ∷ []) whole in
    first ∙ (second ∙ (sym split ∙ ap (entries_of 1) (sym part))))
    refl h is
