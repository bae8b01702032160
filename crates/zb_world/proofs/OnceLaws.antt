-- What is to happen at most once in a history does: a message is correlated with a process, by what steps do to messages;
-- a job is over, and a timer ends, at most once at its partition, and at no other one.
use Rattle.std.proofs.Common.{◌≡◌, ℕ, ◌+◌, ◌/◌, ◌^◌, ◌≤◌, List, [], ◌∷◌, ◌++◌, count_by, Bool, cond, IsTrue, refl, inl, inr, sym, ap, ◌∙◌, subst, append-nil, arith}
use Rattle.std.proofs.lemmas.Bool.{cases_eq, cases_lt}
use Rattle.std.proofs.lemmas.Grind.{flat_map-append}
use Rattle.std.proofs.lemmas.List.Sums.{sum_by-append}
use Rattle.zb_model.specs.declared.record.Event.{Event}
use Rattle.zb_model.specs.declared.record.Batch.{Batch}
use Rattle.zb_views.specs.View.{events_in, events_of}
use Rattle.zb_views.specs.Timers.{ends_timer}
use Rattle.zb_views.proofs.ViewLaws.{events_of_more}
use Rattle.zb_rules.specs.Applies.{all_apply}
use Rattle.zb_rules.proofs.StepLaws.{each_on_all}
use Rattle.zb_rules.specs.JobEnds.{is_end_of}
use Rattle.zb_rules.proofs.JobEndsLaws.{ended_once, ended_home}
use Rattle.zb_rules.proofs.TimerEndsLaws.{timer_ended_once, timer_ended_home}
use Rattle.zb_world.specs.Entries.{part_of, happenings}
use Rattle.zb_world.specs.declared.entry.Entry.{Entry}
use Rattle.zb_world.specs.History.{IsEntryOf, IsHistory}
use Rattle.zb_world.specs.Once.{HappensOnce}
use Rattle.zb_world.proofs.EntryLaws.{part_of_joined, part_of_its, part_of_other}
use Rattle.zb_world.proofs.HistoryLaws.{history_more, parts_are_steps}
use Rattle.zb_world.proofs.GivenOnceLaws.{given_at_most_once}
use Rattle.zb_world.proofs.AppliedStepLaws.{steps_apply}
use Rattle.zb_world.proofs.TellingLaws.{messages_once}

-- things that end, by their keys, each at the partition of its key
module _ (ends : ℕ → Event → Bool) (home_of : (p : ℕ) (es : List Event) (key : ℕ) → IsTrue (all_apply p [] es) → 1 ≤ count_by (ends key) es → key / 2 ^ 51 ≡ p) where
  abbrev times : ℕ → List Event → ℕ
  times key es = count_by (ends key) es

  -- how often the thing with a key ends in some events and in those behind them
  times_joined : (key : ℕ) (a b : List Event) → times key (a ++ b) ≡ times key a + times key b
  times_joined key a b = sum_by-append (λ (e : Event). cond (ends key e) 1 0) a b

  -- in the events of an entry of another partition than its own it doesn't end
  none_elsewhere : (n key : ℕ) (front : List Entry) (e : Entry) → IsHistory n (front ++ e ∷ []) → (e.partition ≡ key / 2 ^ 51 → ⊥) → times key (events_in e.batch.outcome) ≡ 0
  none_elsewhere n key front e is other =
      let q = e.partition in
      let made = events_in e.batch.outcome in
      let log : part_of q (front ++ e ∷ []) ≡ part_of q front ++ e.batch ∷ [] = part_of_joined q front (e ∷ []) ∙ ap (λ (rest : List Batch). part_of q front ++ rest) (part_of_its q e [] refl) in
      let all : events_of (part_of q (front ++ e ∷ [])) ≡ events_of (part_of q front) ++ made = ap events_of log ∙ events_of_more (part_of q front) e.batch in
      let apply : IsTrue (all_apply q [] (events_of (part_of q front) ++ made)) = subst (λ (es : List Event). IsTrue (all_apply q [] es)) all (steps_apply q n (part_of q (front ++ e ∷ [])) (parts_are_steps n q (front ++ e ∷ []) is)) in
      let count = times_joined key (events_of (part_of q front)) made in
      elim (cases_lt 0 (times key made)) [
        | inl more ↦ absurd (other (sym (home_of q (events_of (part_of q front) ++ made) key apply (omega (arith, count, more)))))
        | inr none ↦ omega (arith, none)
      ]

  -- in a history it ends as often as at its partition
  times_at_home : (n key : ℕ) (h : List Entry) → IsHistory n h → times key (happenings h) ≡ times key (events_of (part_of (key / 2 ^ 51) h))
  times_at_home n key h is =
      let p = key / 2 ^ 51 in
      each_on_all (IsEntryOf n) [] (λ (h : List Entry). times key (happenings h) ≡ times key (events_of (part_of p h)))
      (λ (front : List Entry) (e : Entry) before same entry. one_more front e (history_more n front e before entry) same)
      refl h is
    where
      one_more : (front : List Entry) (e : Entry) → IsHistory n (front ++ e ∷ []) → times key (happenings front) ≡ times key (events_of (part_of (key / 2 ^ 51) front))
          → times key (happenings (front ++ e ∷ [])) ≡ times key (events_of (part_of (key / 2 ^ 51) (front ++ e ∷ [])))
      one_more front e is same =
          let p = key / 2 ^ 51 in
          let made = events_in e.batch.outcome in
          let all : happenings (front ++ e ∷ []) ≡ happenings front ++ made = flat_map-append (λ (entry : Entry). events_in entry.batch.outcome) front (e ∷ []) ∙ ap (λ (es : List Event). happenings front ++ es) (append-nil made) in
          let count : times key (happenings (front ++ e ∷ [])) ≡ times key (happenings front) + times key made = ap (times key) all ∙ times_joined key (happenings front) made in
          elim (cases_eq e.partition p) [
            | inl its ↦
                let log : part_of p (front ++ e ∷ []) ≡ part_of p front ++ e.batch ∷ [] = part_of_joined p front (e ∷ []) ∙ ap (λ (rest : List Batch). part_of p front ++ rest) (part_of_its p e [] its) in
                let home : events_of (part_of p (front ++ e ∷ [])) ≡ events_of (part_of p front) ++ made = ap events_of log ∙ events_of_more (part_of p front) e.batch in
                count ∙ (ap (λ (k : ℕ). k + times key made) same ∙ (sym (times_joined key (events_of (part_of p front)) made) ∙ ap (times key) (sym home)))
            | inr other ↦
                let log : part_of p (front ++ e ∷ []) ≡ part_of p front = part_of_joined p front (e ∷ []) ∙ (ap (λ (rest : List Batch). part_of p front ++ rest) (part_of_other p e [] other) ∙ append-nil (part_of p front)) in
                let none = none_elsewhere n key front e is other in
                count ∙ (omega (arith, none, same) ∙ ap (λ (l : List Batch). times key (events_of l)) (sym log))
          ]

-- a history has what happens at most once at most once
pub happens_once : (n : ℕ) (h : List Entry) → IsHistory n h → HappensOnce h
happens_once n h is = record {
  messages = messages_once n h is;
  catches = λ partition key s there. given_at_most_once partition n (part_of partition h) (parts_are_steps n partition h is) key s there;
  jobs = λ (job : ℕ).
      let p = job / 2 ^ 51 in
      let once = ended_once p (events_of (part_of p h)) job (steps_apply p n (part_of p h) (parts_are_steps n p h is)) in
      omega (arith, times_at_home is_end_of ended_home n job h is, once);
  timers = λ (timer : ℕ).
      let p = timer / 2 ^ 51 in
      let once = timer_ended_once p (events_of (part_of p h)) timer (steps_apply p n (part_of p h) (parts_are_steps n p h is)) in
      omega (arith, times_at_home ends_timer timer_ended_home n timer h is, once);
}
