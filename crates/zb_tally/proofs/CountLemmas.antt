-- Counting, one member more at a time.
use Rattle.std.proofs.Common.{◌≡◌, ◌≤◌, ◌<◌, ◌+◌, ◌-◌, ℕ, suc, List, [], ◌∷◌, ◌++◌, length, take, drop, slice_get, cond, count_by, Bool, true, false, not, Some, refl, sym, ap, ◌∙◌, subst, arith, length-append}
use Rattle.std.specs.List.{range_with_len, AllByRecursion}
use Rattle.std.proofs.lemmas.List.{take_more, drop-drop}
use Rattle.std.proofs.lemmas.List.Sums.{sum_by-append}
use Rattle.std.proofs.lemmas.Option.{slice_get_within, get_or_from_slice_get}
use Rattle.zb_disk.specs.declared.disk.Disk.{Ghosts}
use Rattle.zb_model.specs.declared.record.Batch.{Batch}
use Rattle.zb_views.specs.View.{events_in, events_of}
use Rattle.zb_views.proofs.ViewLaws.{events_of_more}
use Rattle.zb_store.specs.declared.volume.Volume.{Volume}
use Rattle.zb_partition.specs.Log.{StandsFor, AreBatches}
use Rattle.zb_engine.proofs.ListLemmas.{range_with_len_more}
use Rattle.zb_engine.proofs.MadeLemmas.{all_more}
use Rattle.zb_tally.specs.Counts.{is_accepted, tally_with, no_tally, both_tallies, tally_of_log, tally_from}
use Rattle.zb_tally.specs.Served.{AreLogsOf}
use Rattle.zb_tally.specs.declared.tally.Tally.{Tally}

-- one more at most
pub more_at_most : (so : Bool) (count more : ℕ) → more ≡ cond so (count + 1) count → more ≤ count + 1
more_at_most true count more is = omega (arith, is)
more_at_most false count more is = omega (arith, is)

-- of no numbers none
pub count_none : (f : ℕ → Bool) (a n : ℕ) → n ≡ a → 0 ≡ count_by f (range_with_len a (n - a))
count_none f a n is =
    let none : 0 ≡ n - a = omega (arith, is) in
    ap (λ m. count_by f (range_with_len a m)) none

one_is : (f : ℕ → Bool) (n : ℕ) (so : Bool) → so ≡ f n → count_by f (n ∷ []) ≡ cond so 1 0
one_is f n so is = rw (sym is) (by_test so)
  where
    by_test : (b : Bool) → 0 + cond b 1 0 ≡ cond b 1 0
    by_test true = refl
    by_test false = refl

-- one number more
pub count_more : (f : ℕ → Bool) (a n count more : ℕ) (so : Bool) → a ≤ n → count ≡ count_by f (range_with_len a (n - a)) → so ≡ f n → more ≡ cond so (count + 1) count → more ≡ count_by f (range_with_len a ((n + 1) - a))
count_more f a n count more so from counts is next =
    let m : (n + 1) - a ≡ suc (n - a) = omega (arith, from) in
    let here : a + (n - a) ≡ n = omega (arith, from) in
    let added : count_by f (range_with_len a ((n + 1) - a)) ≡ count_by f (range_with_len a (n - a)) + count_by f (n ∷ []) =
    ap (λ k. count_by f (range_with_len a k)) m ∙ (ap (count_by f) (range_with_len_more a (n - a) ∙ ap (λ k. range_with_len a (n - a) ++ k ∷ []) here)
    ∙ sum_by-append (λ x. cond (f x) 1 0) (range_with_len a (n - a)) (n ∷ [])) in
    by_test so (one_is f n so is) next added
  where
    by_test : (b : Bool) → count_by f (n ∷ []) ≡ cond b 1 0 → more ≡ cond b (count + 1) count
        → count_by f (range_with_len a ((n + 1) - a)) ≡ count_by f (range_with_len a (n - a)) + count_by f (n ∷ []) → more ≡ count_by f (range_with_len a ((n + 1) - a))
    by_test true one next added = omega (arith, counts, one, next, added)
    by_test false one next added = omega (arith, counts, one, next, added)

-- what was counted in the batches so far
pub record AreCounted (log : List Batch) (t : Tally) : Type 0 where
  pub batches : t.batches ≡ length log
  pub accepted : t.accepted ≡ count_by is_accepted log
  pub rejected : t.rejected ≡ count_by (λ batch. not (is_accepted batch)) log
  pub events : t.events ≡ length (events_of log)

pub counted_none : AreCounted [] no_tally
counted_none = record { batches = refl; accepted = refl; rejected = refl; events = refl }

pub front_more : (all : List Batch) (i : ℕ) (batch : Batch) → slice_get all i ≡ Some batch → take (i + 1) all ≡ take i all ++ batch ∷ []
front_more all i batch at =
    let within : i < length all = slice_get_within all i batch at in
    take_more all i batch within ∙ ap (λ x. take i all ++ x ∷ []) (get_or_from_slice_get all i batch batch at)

-- and in one batch more
pub counted_more : (log : List Batch) (batch : Batch) (old new : Tally) → new ≡ tally_with batch old → AreCounted log old → AreCounted (log ++ batch ∷ []) new
counted_more log batch old new is c = record {
  batches = omega (arith, ap (λ (t : Tally). t.batches) is, c.batches, length-append log (batch ∷ []));
  accepted = omega (arith, ap (λ (t : Tally). t.accepted) is, c.accepted, sum_by-append (λ (b : Batch). cond (is_accepted b) 1 0) log (batch ∷ []));
  rejected = omega (arith, ap (λ (t : Tally). t.rejected) is, c.rejected, sum_by-append (λ (b : Batch). cond (not (is_accepted b)) 1 0) log (batch ∷ []));
  events = omega (arith, ap (λ (t : Tally). t.events) is, c.events, ap length (events_of_more log batch), length-append (events_of log) (events_in batch.outcome));
}

-- a tally by its parts
pub tally_is : (p : ℕ) (log : List Batch) (before t : Tally) → AreCounted log before → t.batches ≡ before.batches → t.accepted ≡ before.accepted → t.rejected ≡ before.rejected → t.events ≡ before.events
    → t.cells ≡ (tally_of_log p log).cells → t.messages ≡ (tally_of_log p log).messages → t ≡ tally_of_log p log
tally_is p log before t c batches accepted rejected events cells messages = rw (← (batches ∙ c.batches), ← (accepted ∙ c.accepted), ← (rejected ∙ c.rejected), ← (events ∙ c.events), ← cells, ← messages) refl

-- what is counted in none, and in two and a third
same_tally : (x y : Tally) → x.batches ≡ y.batches → x.accepted ≡ y.accepted → x.rejected ≡ y.rejected → x.events ≡ y.events → x.cells ≡ y.cells → x.messages ≡ y.messages → x ≡ y
same_tally x y batches accepted rejected events cells messages = rw (batches, accepted, rejected, events, cells, messages) refl

pub joined_none : (t : Tally) → both_tallies no_tally t ≡ t
joined_none t = same_tally (both_tallies no_tally t) t (omega arith) (omega arith) (omega arith) (omega arith) (omega arith) (omega arith)

pub joined_again : (a b c : Tally) → both_tallies (both_tallies a b) c ≡ both_tallies a (both_tallies b c)
joined_again a b c = same_tally (both_tallies (both_tallies a b) c) (both_tallies a (both_tallies b c)) (omega arith) (omega arith) (omega arith) (omega arith) (omega arith) (omega arith)

pub joined_last : (t : Tally) → both_tallies t no_tally ≡ t
joined_last t = same_tally (both_tallies t no_tally) t (omega arith) (omega arith) (omega arith) (omega arith) (omega arith) (omega arith)

-- the log of the first volume that was left is counted too
pub counted_on : (i place : ℕ) (before one more total : Tally) (log : List Batch) (logs : List (List Batch)) → place ≡ i + 1 → one ≡ tally_of_log place log → more ≡ both_tallies before one
    → drop i logs ≡ log ∷ drop (i + 1) logs → both_tallies before (tally_from (1 + i) (drop i logs)) ≡ total → both_tallies more (tally_from (1 + (i + 1)) (drop (i + 1) logs)) ≡ total
counted_on i place before one more total log logs is counts next first was =
    let at : place ≡ 1 + i = omega (arith, is) in
    let on : 1 + (i + 1) ≡ suc (1 + i) = omega arith in
    let rest = tally_from (1 + (i + 1)) (drop (i + 1) logs) in
    ap (λ t. both_tallies t rest) (next ∙ ap (both_tallies before) (counts ∙ ap (λ p. tally_of_log p log) at))
    ∙ (joined_again before (tally_of_log (1 + i) log) rest
    ∙ (ap (λ n. both_tallies before (both_tallies (tally_of_log (1 + i) log) (tally_from n (drop (i + 1) logs)))) on
    ∙ (ap (λ ls. both_tallies before (tally_from (1 + i) ls)) (sym first) ∙ was)))

-- one was put behind the others
pub one_pushed : {A : Type 0} (old new : List A) (x : A) (n : ℕ) → new ≡ old ++ x ∷ [] → length old ≡ n → length new ≡ n + 1
one_pushed old new x n is many = ap length is ∙ omega (arith, many, length-append old (x ∷ []))

pub all_pushed : {A : Type 0} (P : A → Type 0) (old new : List A) (x : A) → new ≡ old ++ x ∷ [] → AllByRecursion P old → P x → AllByRecursion P new
all_pushed P old new x is all one = subst (AllByRecursion P) (sym is) (all_more P old x all one)

-- what follows the first of those that are left
tail_of : {A : Type 0} (i : ℕ) (xs : List A) (x : A) (ys : List A) → drop i xs ≡ x ∷ ys → drop (i + 1) xs ≡ ys
tail_of i xs x ys is = sym (drop-drop 1 i xs) ∙ ap (drop 1) is

-- the logs of volumes, of which the first one is taken away
module _ {D : Type 0} (disks : Ghosts D) where
  pub record IsFirstLog (volume : Volume D) (left : List (Volume D)) (index : ℕ) (logs : List (List Batch)) : Type 0 where
    pub log : List Batch
    pub stands : StandsFor (disks.view volume.log).contents log
    pub fits : AreBatches log
    pub rest : AreLogsOf disks left (drop (index + 1) logs)
    pub first : drop index logs ≡ log ∷ drop (index + 1) logs

  pub first_log : (volume : Volume D) (left : List (Volume D)) (index : ℕ) (logs : List (List Batch)) → AreLogsOf disks (volume ∷ left) (drop index logs) → IsFirstLog volume left index logs
  first_log volume left index logs all = by_list (drop index logs) refl all
    where
      by_list : (ls : List (List Batch)) → drop index logs ≡ ls → AreLogsOf disks (volume ∷ left) ls → IsFirstLog volume left index logs
      by_list [] is all = absurd all
      by_list (log ∷ ls) is all =
          let rest = tail_of index logs log ls is in
          record { log = log; stands = all.0.0; fits = all.0.1; rest = subst (AreLogsOf disks left) (sym rest) all.1; first = is ∙ ap (λ l. log ∷ l) (sym rest) }

  pub no_logs : (logs : List (List Batch)) → AreLogsOf disks [] logs → logs ≡ []
  no_logs [] all = refl
  no_logs (log ∷ logs) all = absurd all
