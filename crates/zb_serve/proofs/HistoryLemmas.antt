-- The entries of a run in the history of the engine.
use Rattle.std.proofs.Common.{◌≡◌, ◌⊎◌, ℕ, suc, ◌-◌, ◌==◌, List, [], ◌∷◌, ◌++◌, length, take, slice_get, true, false, All, Option, Some, None, refl, sym, ap, subst, ◌∙◌, arith, inl, inr, append-nil}
use Rattle.std.proofs.lemmas.Bool.{cases_eq}
use Rattle.std.proofs.lemmas.Bool.Decides.{nat_tests}
use Rattle.std.proofs.lemmas.List.{take_all}
use Rattle.std.proofs.lemmas.List.Elements.{All-nil, All-cons}
use Rattle.zb_model.specs.declared.record.Batch.{Batch}
use Rattle.zb_partition.specs.Log.{StandsFor}
use Rattle.zb_once.specs.Once.{AtMostOne}
use Rattle.zb_world.specs.Entries.{IsPartitionOf, is_of, part_of, parts_of}
use Rattle.zb_world.specs.declared.entry.Entry.{Entry}
use Rattle.zb_world.proofs.EntryLaws.{part_of_joined, part_of_its, part_of_other}
use Rattle.zb_world.specs.History.{IsEntryOf, IsHistory, IsCutAt}
use Rattle.zb_world.proofs.HistoryLaws.{whole_is_cut}
use Rattle.zb_world.proofs.OnceLaws.{happens_once}
use Rattle.zb_desk.specs.Serial.{log_behind}
use Rattle.zb_desk.proofs.SentLaws.{AreSerially, serial_goes_on}
use Rattle.zb_serve.specs.Ends.{Told, VolumeEnds}
use Rattle.zb_serve.specs.Log.{batch_if, batch_of, IsKept}
use Rattle.zb_serve.specs.History.{GoesOnWith, AreCut, AreImages}
use Rattle.zb_serve.specs.declared.run.Cause.{Cause}
use Rattle.zb_serve.proofs.ListLemmas.{some_same, one_at, member_at, place_within}
use Rattle.zb_serve.proofs.PartLemmas.{part_at, zip_parts}

-- the entries go on with every history of the logs
pub goes_on : (n : ℕ) (logs : List (List Batch)) (entries : List Entry) → AreSerially n logs entries → GoesOnWith n logs entries
goes_on n logs entries are = λ base is parts.
    let history : IsHistory n (base ++ entries) = serial_goes_on n logs entries are base is parts in
    (history, happens_once n (base ++ entries) history)

-- the batch of a partition that isn't in its log is that of the entry, which is of it
record IsOfEntry (number : ℕ) (unlogged : Option Entry) (batch : Batch) : Type 0 where
  pub entry : Entry
  pub is : unlogged ≡ Some entry
  pub its : entry.partition ≡ number
  pub same : entry.batch ≡ batch

batch_is : (number : ℕ) (unlogged : Option Entry) (batch : Batch) → batch_of number unlogged ≡ Some batch → IsOfEntry number unlogged batch
batch_is number None batch e = absurd (cc (e))
batch_is number (Some entry) batch e = elim (cases_eq entry.partition number) [
  | inl its ↦
      let test : (entry.partition == number) ≡ true = grind (arith, nat_tests) in
      let some : batch_if true entry.batch ≡ Some batch = rw test at e in
      record { entry = entry; is = refl; its = its; same = some_same entry.batch batch some }
  | inr other ↦
      let test : (entry.partition == number) ≡ false = grind (arith, nat_tests) in
      let none : batch_if false entry.batch ≡ Some batch = rw test at e in
      absurd (cc (none))
]

-- an image of the log at a place stands for it, or for it with the batch of the entry that isn't in it
abbrev pub IsKeptAt : Option Entry → ℕ → List Batch → List ℕ → Type 0
IsKeptAt unlogged k log image = StandsFor image log
    ⊎ ((entry : Entry) × (unlogged ≡ Some entry) × (entry.partition ≡ suc k) × StandsFor image (log ++ entry.batch ∷ []))

pub kept_at : (told : Told) (ends : VolumeEnds) (cause : Cause) (unlogged : Option Entry) (k : ℕ) (log : List Batch) (image : List ℕ) → IsKept told ends cause (batch_of (suc k) unlogged) log image → IsKeptAt unlogged k log image
kept_at told ends cause unlogged k log image (inl stands) = inl stands
kept_at told ends cause unlogged k log image (inr kept) =
    let of = batch_is (suc k) unlogged kept.0.0 kept.0.1 in
    inr (of.entry, of.is, of.its, subst (λ (batch : Batch). StandsFor image (log ++ batch ∷ [])) (sym of.same) kept.0.3)

-- one entry is at most one
only_one : (p : ℕ) (e : Entry) → AtMostOne (is_of p) (e ∷ [])
only_one p e i j x y at there its its_too =
    omega (arith, place_within (e ∷ []) i x at, place_within (e ∷ []) j y there)

-- a history and one entry that may be the next one are a cut of it at its end
one_more_is_cut : (n : ℕ) (h : List Entry) (e : Entry) → IsEntryOf n h e → IsCutAt n (length h) h (h ++ e ∷ [])
one_more_is_cut n h e entry =
    let front : take (length h) h ≡ h = take_all (length h) h (omega arith) in
    record {
      more = e ∷ [];
      within = omega arith;
      is = ap (λ (l : List Entry). l ++ e ∷ []) (sym front);
      once = λ (p : ℕ). only_one p e;
      each = subst (λ (l : List Entry). All (IsEntryOf n l) (e ∷ [])) (sym front) (All-cons (IsEntryOf n h) e [] entry (All-nil (IsEntryOf n h)));
    }

-- images that stand for all of a history, or for it and one more entry
module _ (n : ℕ) (h : List Entry) (kept : List (List ℕ)) (many : length kept ≡ n) where
  abbrev StandFor : List Entry → Type 0
  StandFor cut = (k : ℕ) (image : List ℕ) → slice_get kept k ≡ Some image → StandsFor image (part_of (suc k) cut)

  cut_of : (cut : List Entry) → IsCutAt n (length h) h cut → StandFor cut → AreCut n h kept
  cut_of cut is stand = record {
    cut = cut;
    is = is;
    stand = zip_parts StandsFor n kept cut many stand;
  }

-- what a crash leaves of all logs is a cut of every history of them
module _ (n : ℕ) (logs : List (List Batch)) (many : length logs ≡ n) (entries : List Entry) (unlogged : Option Entry) (images : ℕ → List ℕ → Type 0)
    (may : (k : ℕ) (log : List Batch) (image : List ℕ) → slice_get logs k ≡ Some log → images (suc k) image → IsKeptAt unlogged k (log_behind (suc k) log entries) image)
    (base : List Entry) (parts : parts_of n base ≡ logs) (next : (entry : Entry) → unlogged ≡ Some entry → IsEntryOf n (base ++ entries) entry)
    (kept : List (List ℕ)) (all : length kept ≡ n) (are : AreImages images kept) where
  abbrev whole : List Entry
  whole = base ++ entries

  part_here : (k : ℕ) (log : List Batch) → slice_get logs k ≡ Some log → part_of (suc k) whole ≡ log_behind (suc k) log entries
  part_here k log at = part_of_joined (suc k) base entries ∙ ap (λ (l : List Batch). l ++ part_of (suc k) entries) (part_at n base logs parts k log at)

  log_of_place : (k : ℕ) (image : List ℕ) → slice_get kept k ≡ Some image → (log : List Batch) × (slice_get logs k ≡ Some log)
  log_of_place k image at = member_at logs k (omega (arith, place_within kept k image at, all, many))

  -- each image stands for its part of the whole, or with the one entry more
  by_place : (k : ℕ) (image : List ℕ) → slice_get kept k ≡ Some image → IsKeptAt unlogged k (part_of (suc k) whole) image
  by_place k image at =
      let log = log_of_place k image at in
      subst (λ (l : List Batch). IsKeptAt unlogged k l image) (sym (part_here k log.0 log.1)) (may k log.0 image log.1 (are k image at))

  -- none has more
  none_more : unlogged ≡ None → AreCut n whole kept
  none_more none = cut_of n whole kept all whole (whole_is_cut n whole) (λ k image at. stands k (part_of (suc k) whole) image (by_place k image at))
    where
      stands : (k : ℕ) (log : List Batch) (image : List ℕ) → IsKeptAt unlogged k log image → StandsFor image log
      stands k log image (inl is) = is
      stands k log image (inr more) = absurd (let e : None ≡ Some more.0 = sym none ∙ more.1 in cc (e))

  -- or the one of the entry's partition may
  module _ (entry : Entry) (is : unlogged ≡ Some entry) (image : List ℕ) (at : slice_get kept (entry.partition - 1) ≡ Some image) where
    abbrev place : ℕ
    place = entry.partition - 1

    same_image : (k : ℕ) (other : List ℕ) → entry.partition ≡ suc k → slice_get kept k ≡ Some other → image ≡ other
    same_image k other same there =
        let here : k ≡ place = omega (arith, same) in
        one_at kept place image other at (subst (λ (j : ℕ). slice_get kept j ≡ Some other) here there)

    -- its image stands for the whole
    it_has_none : StandsFor image (part_of entry.partition whole) → AreCut n whole kept
    it_has_none stands = cut_of n whole kept all whole (whole_is_cut n whole) (λ k other there. by_kept k other there (by_place k other there))
      where
        by_kept : (k : ℕ) (other : List ℕ) → slice_get kept k ≡ Some other → IsKeptAt unlogged k (part_of (suc k) whole) other → StandsFor other (part_of (suc k) whole)
        by_kept k other there (inl is) = is
        by_kept k other there (inr more) =
            let one : entry ≡ more.0 = some_same entry more.0 (sym is ∙ more.1) in
            let same : entry.partition ≡ suc k = ap (λ (e : Entry). e.partition) one ∙ more.2 in
            subst (λ (i : List ℕ). StandsFor i (part_of (suc k) whole)) (same_image k other same there)
            (subst (λ (p : ℕ). StandsFor image (part_of p whole)) same stands)

    -- or for the whole and the entry
    it_has_more : StandsFor image (part_of entry.partition whole ++ entry.batch ∷ []) → AreCut n whole kept
    it_has_more stands = cut_of n whole kept all (whole ++ entry ∷ []) (one_more_is_cut n whole entry (next entry is)) (λ k other there. elim (cases_eq entry.partition (suc k)) [
      | inl same ↦
          let more : part_of (suc k) (whole ++ entry ∷ []) ≡ part_of (suc k) whole ++ entry.batch ∷ [] = part_of_joined (suc k) whole (entry ∷ []) ∙ ap (λ (l : List Batch). part_of (suc k) whole ++ l) (part_of_its (suc k) entry [] same) in
          subst (λ (l : List Batch). StandsFor other l) (sym more)
          (subst (λ (i : List ℕ). StandsFor i (part_of (suc k) whole ++ entry.batch ∷ [])) (same_image k other same there)
          (subst (λ (p : ℕ). StandsFor image (part_of p whole ++ entry.batch ∷ [])) same stands))
      | inr not ↦
          let none : part_of (suc k) (whole ++ entry ∷ []) ≡ part_of (suc k) whole = part_of_joined (suc k) whole (entry ∷ []) ∙ (ap (λ (l : List Batch). part_of (suc k) whole ++ l) (part_of_other (suc k) entry [] not) ∙ append-nil (part_of (suc k) whole)) in
          subst (λ (l : List Batch). StandsFor other l) (sym none) (by_kept k other not (by_place k other there))
    ])
      where
        by_kept : (k : ℕ) (other : List ℕ) → (entry.partition ≡ suc k → ⊥) → IsKeptAt unlogged k (part_of (suc k) whole) other → StandsFor other (part_of (suc k) whole)
        by_kept k other not (inl is) = is
        by_kept k other not (inr more) =
            let one : entry ≡ more.0 = some_same entry more.0 (sym is ∙ more.1) in
            absurd (not (ap (λ (e : Entry). e.partition) one ∙ more.2))

    it_has : IsPartitionOf n entry.partition → AreCut n whole kept
    it_has of = by_its (by_place place image at)
      where
        number : suc place ≡ entry.partition
        number = omega (arith, of.0)

        by_its : IsKeptAt unlogged place (part_of (suc place) whole) image → AreCut n whole kept
        by_its (inl stands) = it_has_none (subst (λ (p : ℕ). StandsFor image (part_of p whole)) number stands)
        by_its (inr more) =
            let one : more.0 ≡ entry = some_same more.0 entry (sym more.1 ∙ is) in
            it_has_more (subst (λ (p : ℕ). StandsFor image (part_of p whole ++ entry.batch ∷ [])) number
            (subst (λ (e : Entry). StandsFor image (part_of (suc place) whole ++ e.batch ∷ [])) one more.3))

  pub cut_at_end : AreCut n whole kept
  cut_at_end = by_unlogged unlogged refl
    where
      by_unlogged : (u : Option Entry) → unlogged ≡ u → AreCut n whole kept
      by_unlogged None is = none_more is
      by_unlogged (Some entry) is =
          let of : IsPartitionOf n entry.partition = (next entry is).partition in
          let there = member_at kept (entry.partition - 1) (omega (arith, of.0, of.1, all)) in
          it_has entry is there.0 there.1 of
