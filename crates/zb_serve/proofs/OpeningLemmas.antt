-- How the logs of a run are opened, and how its volumes are handed back where one can't be.
use Rattle.std.proofs.Common.{◌≡◌, ℕ, zero, suc, ◌+◌, ◌<◌, ◌≤◌, List, [], ◌∷◌, ◌++◌, length, map, drop, slice_get, get_or, IsTrue, Some, refl, sym, ap, ◌∙◌, subst, arith, inl, ⊎_elim, append_assoc, append-nil}
use Rattle.std.specs.List.{AllByRecursion, AllZip, list_all, remove}
use Rattle.std.proofs.lemmas.Bool.{and_from}
use Rattle.std.proofs.lemmas.List.{length-map}
use Rattle.zb_disk.specs.declared.disk.Disk.{Ghosts}
use Rattle.zb_model.specs.declared.record.Batch.{Batch}
use Rattle.zb_store.specs.Calls.{OnlyOpens, LeftByOpening}
use Rattle.zb_store.proofs.CallLaws.{leaves_none}
use Rattle.zb_store.specs.declared.volume.Volume.{Volume}
use Rattle.zb_partition.specs.Log.{IsBadAt}
use Rattle.zb_partition.proofs.LogLemmas.{none_bad}
use Rattle.zb_partition.specs.Partition.{disk_of, is_live}
use Rattle.zb_partition.specs.declared.partition.Partition.{Partition}
use Rattle.zb_partition.specs.Fault.{IsDiskCause}
use Rattle.zb_partition.specs.declared.fault.OpenFault.{OpenFault}
use Rattle.zb_partition.specs.declared.fault.OpenFault.TheVariants as faults
use Rattle.zb_desk.specs.Numbered.{EachFrom, OfNumber}
use Rattle.zb_partition.specs.Ground.{IsLogOn, IsFoundIn}
use Rattle.zb_partition.specs.Ledger.{Opening, account_of, on_log, slots_in, IsOpeningOf, HasAccount}
use Rattle.zb_partition.proofs.GroundLaws.{log_found}
use Rattle.zb_engine.specs.Solo.{Start, start_of, many_in, HasPart}
use Rattle.zb_serve.specs.Ends.{Told, VolumeEnds, volume_ends, volumes_ends, EachDisk, AnyDisk, HasRisen, IsSteady, IsUncalled, IsSafe}
use Rattle.zb_serve.specs.Served.{IsGood, AreOpenedTo, FailsToOpen, IsUntroubled, IsSpared}
use Rattle.zb_serve.specs.Slots.{AreSlotsLeft, AreAllSlotsLeft}
use Rattle.zb_serve.specs.Opening.{open_cause_of, TellsOf, IsHandedBack, IsFoundOver, IsOpenedOver, IsBegunOver}
use Rattle.zb_serve.specs.Running.{files_of}
use Rattle.zb_serve.specs.declared.run.Cause.TheVariants as causes
use Rattle.zb_serve.proofs.ListLemmas.{each_length, each_more, has_number}

-- the first member was taken out
pub first_removed : {A : Type 0} (old new : List A) (x : A) → 0 < length old → x ≡ get_or old 0 x → new ≡ remove old 0 → old ≡ x ∷ new
first_removed [] new x some is rest = absurd (omega (arith, some))
first_removed (y ∷ old) new x some is rest = ap (λ (z : _). z ∷ old) (sym is) ∙ ap (λ (l : List _). x ∷ l) (sym rest)

-- a partition that was opened over a volume: its log is what was found
pub opened_over : {D : Type 0} {disks : Ghosts D} (volume : Volume D) (n limit number : ℕ) (partition : Partition D disks) (opening : Opening D) → IsOpeningOf volume number n limit opening
    → IsFoundIn number disks.tells (disks.view volume.log).contents opening.found → ((log : List Batch) → IsLogOn opening.found log → HasAccount (account_of (on_log opening log) []) partition)
    → OnlyOpens disks volume.log (disk_of partition) → IsOpenedOver n limit number volume partition
opened_over {disks = disks} volume n limit number partition opening is found each opens = record {
  opening = on_log opening opening.found.tail;
  over = is.volume_is;
  most = is.limit_is;
  found = record { in_file = found; log_is = refl };
  fresh = ((is.place_is, is.partitions_are), each opening.found.tail (log_found number disks.tells (disks.view volume.log).contents opening.found found));
  opens = opens;
}

-- partitions that were opened go on
pub opened_live : {D : Type 0} {disks : Ghosts D} (n limit number : ℕ) (volumes : List (Volume D)) (partitions : List (Partition D disks)) → EachFrom (IsOpenedOver n limit) number volumes partitions
    → IsTrue (list_all is_live partitions)
opened_live n limit number [] [] each = refl
opened_live n limit number (volume ∷ volumes) (partition ∷ partitions) each = and_from (is_live partition) (list_all is_live partitions) each.0.fresh.1.is_open.live (opened_live n limit (suc number) volumes partitions each.1)
opened_live n limit number [] (partition ∷ partitions) each = absurd each
opened_live n limit number (volume ∷ volumes) [] each = absurd each

-- volumes of which the first ones were opened
pub record HasOpened {D : Type 0} {disks : Ghosts D} (n limit : ℕ) (volumes left : List (Volume D)) (partitions : List (Partition D disks)) : Type 0 where
  pub front : List (Volume D)
  pub split : volumes ≡ front ++ left
  pub each : EachFrom (IsOpenedOver n limit) 1 front partitions

module _ {D : Type 0} {disks : Ghosts D} (n limit : ℕ) (volumes : List (Volume D)) where
  pub none_opened : HasOpened {disks = disks} n limit volumes volumes []
  none_opened = record { front = []; split = refl; each = tt }

  -- one more
  pub opened_more : (partitions : List (Partition D disks)) (volume : Volume D) (left : List (Volume D)) (partition : Partition D disks) (number : ℕ) → HasOpened n limit volumes (volume ∷ left) partitions
      → number ≡ length partitions + 1 → IsOpenedOver n limit number volume partition → HasOpened n limit volumes left (partitions ++ partition ∷ [])
  opened_more partitions volume left partition number h is o =
      let many = each_length (IsOpenedOver n limit) 1 h.front partitions h.each in
      let here : number ≡ 1 + length h.front = omega (arith, is, many) in
      record {
        front = h.front ++ volume ∷ [];
        split = h.split ∙ sym (append_assoc h.front (volume ∷ []) left);
        each = each_more (IsOpenedOver n limit) 1 h.front partitions volume partition h.each (subst (λ (m : ℕ). IsOpenedOver n limit m volume partition) here o);
      }

  -- all
  pub all_opened : (partitions : List (Partition D disks)) (left : List (Volume D)) → left ≡ [] → HasOpened n limit volumes left partitions → EachFrom (IsOpenedOver n limit) 1 volumes partitions
  all_opened partitions left none h =
      let whole : volumes ≡ h.front = h.split ∙ (ap (λ (l : List (Volume D)). h.front ++ l) none ∙ append-nil h.front) in
      subst (λ (l : List (Volume D)). EachFrom (IsOpenedOver n limit) 1 l partitions) (sym whole) h.each

-- an engine began with as many logs as there are volumes
pub begun_count : {D : Type 0} (disks : Ghosts D) (limit units : ℕ) (volumes : List (Volume D)) (start : Start D) → IsBegunOver disks limit units volumes start → many_in start ≡ length volumes
begun_count disks limit units volumes start begun = sym (length-map start.openings (λ opening. opening.volume)) ∙ ap length begun.over

-- what was handed back
module _ {D : Type 0} (disks : Ghosts D) where
  same_back : (volume : Volume D) → IsHandedBack disks volume volume
  same_back volume = record {
    opens = record {
      later = omega arith;
      same = λ t long. refl;
      short = λ t few. few;
      crash = λ t image left. inl left;
      time = λ t. leaves_none (disks.view volume.log).moment (disks.since volume.log) (LeftByOpening (disks.view volume.log).contents (disks.images volume.log));
    };
    slots = refl;
  }

  pub all_same_back : (volumes : List (Volume D)) → AllZip (IsHandedBack disks) volumes volumes
  all_same_back [] = tt
  all_same_back (volume ∷ volumes) = (same_back volume, all_same_back volumes)

  untroubled_same : (told : Told) (volumes : List (Volume D)) → AllByRecursion (IsUntroubled told) (volumes_ends disks volumes volumes)
  untroubled_same told [] = tt
  untroubled_same told (volume ∷ volumes) = (λ t. (refl, refl, refl), untroubled_same told volumes)

  left_alone : (volumes : List (Volume D)) → AllByRecursion (EachDisk IsUncalled) (volumes_ends disks volumes volumes)
  left_alone [] = tt
  left_alone (volume ∷ volumes) = ((refl, refl, refl), left_alone volumes)

  -- with a log's disk that counted no fault, and slots that are left, none of a volume's disks counted one
  pub all_steady : (old new : Volume D) → IsSteady (volume_ends disks old new).log → AreSlotsLeft old new → EachDisk IsSteady (volume_ends disks old new)
  all_steady old new steady same = (steady, ap (λ (slots : D × D). (disks.view slots.0).faults) same, ap (λ (slots : D × D). (disks.view slots.1).faults) same)

  pub fails_untouched : (told : Told) (volumes : List (Volume D)) → FailsToOpen told (volumes_ends disks volumes volumes) causes.Memory
  fails_untouched told volumes = ((0, record { below = λ number some none. absurd (omega (arith, none)); above = left_alone volumes }), untroubled_same told volumes)

  -- of one that was opened
  closed_back : (n limit number : ℕ) (volume : Volume D) (partition : Partition D disks) → IsOpenedOver n limit number volume partition → IsHandedBack disks volume (files_of partition)
  closed_back n limit number volume partition o =
      record { opens = o.opens; slots = o.fresh.1.slots ∙ ap slots_in o.over }

  -- the logs of those that were opened are good
  module _ (told : Told) (tells : TellsOf disks told) (n limit : ℕ) where
    abbrev ends_opened : Volume D → Partition D disks → VolumeEnds
    ends_opened volume partition = volume_ends disks volume (files_of partition)

    steady_one : (number : ℕ) (volume : Volume D) (partition : Partition D disks) → IsOpenedOver n limit number volume partition → IsUntroubled told (ends_opened volume partition)
    steady_one number volume partition o = λ t.
        let counts : IsTrue disks.counts_failures = subst IsTrue tells.1 t in
        all_steady volume (files_of partition) (o.fresh.1.steady counts ∙ ap (λ (v : Volume D). (disks.view v.log).faults) o.over) (closed_back n limit number volume partition o).slots

    good_one : (number : ℕ) (volume : Volume D) (partition : Partition D disks) → IsOpenedOver n limit number volume partition → IsGood told number (ends_opened volume partition)
    good_one number volume partition o =
        record {
          untroubled = steady_one number volume partition o;
          readable = λ t frame bad. none_bad number (disks.view volume.log).contents o.opening.found.tail frame o.found.in_file.fits o.found.in_file.applied (o.found.in_file.stood (subst IsTrue tells.0 t)) bad;
        }

    good_from : (number : ℕ) (front : List (Volume D)) (partitions : List (Partition D disks)) → EachFrom (IsOpenedOver n limit) number front partitions → (olds news : List (Volume D)) → (i : ℕ) → i < length front
        → (e : VolumeEnds) × (slice_get (volumes_ends disks (front ++ olds) (map files_of partitions ++ news)) i ≡ Some e) × IsGood told (number + i) e
    good_from number [] [] each olds news i within = absurd (let no : ⊥ = omega (arith, within) in no)
    good_from number (volume ∷ front) (partition ∷ partitions) each olds news zero within =
        let here : number ≡ number + 0 = omega arith in
        (ends_opened volume partition, refl, subst (λ (p : ℕ). IsGood told p (ends_opened volume partition)) here (good_one number volume partition each.0))
    good_from number (volume ∷ front) (partition ∷ partitions) each olds news (suc i) within =
        let on : suc number + i ≡ number + suc i = omega arith in
        subst (λ (p : ℕ). (e : VolumeEnds) × (slice_get (volumes_ends disks (front ++ olds) (map files_of partitions ++ news)) i ≡ Some e) × IsGood told p e) on
        (good_from (suc number) front partitions each.1 olds news i (omega (arith, within)))
    good_from number [] (partition ∷ partitions) each olds news i within = absurd each
    good_from number (volume ∷ front) [] each olds news i within = absurd each

    good_below : (front : List (Volume D)) (partitions : List (Partition D disks)) → EachFrom (IsOpenedOver n limit) 1 front partitions → (olds news : List (Volume D)) (partition : ℕ) → partition ≡ suc (length front)
        → (number : ℕ) → 1 ≤ number → number < partition → OfNumber (volumes_ends disks (front ++ olds) (map files_of partitions ++ news)) number (IsGood told number)
    good_below front partitions each olds news partition is zero some below = absurd (let no : ⊥ = omega (arith, some) in no)
    good_below front partitions each olds news partition is (suc i) some below =
        let good = good_from 1 front partitions each olds news i (omega (arith, is, below)) in
        let here : 1 + i ≡ suc i = omega arith in
        has_number (volumes_ends disks (front ++ olds) (map files_of partitions ++ news)) i good.0 (IsGood told (suc i)) good.1 (subst (λ (p : ℕ). IsGood told p good.0) here good.2)

  -- of the one that was refused, and of those that are left
  module _ (n limit : ℕ) (refused back : Volume D) (handed : IsHandedBack disks refused back) (left : List (Volume D)) where
    back_from : (number : ℕ) (front : List (Volume D)) (partitions : List (Partition D disks)) → EachFrom (IsOpenedOver n limit) number front partitions
        → AllZip (IsHandedBack disks) (front ++ refused ∷ left) (map files_of partitions ++ back ∷ left)
    back_from number [] [] each = (handed, all_same_back left)
    back_from number (volume ∷ front) (partition ∷ partitions) each = (closed_back n limit number volume partition each.0, back_from (suc number) front partitions each.1)
    back_from number [] (partition ∷ partitions) each = absurd each
    back_from number (volume ∷ front) [] each = absurd each

    module _ (told : Told) (tells : TellsOf disks told) where
      abbrev ends : VolumeEnds
      ends = volume_ends disks refused back

      steady_from : (number : ℕ) (front : List (Volume D)) (partitions : List (Partition D disks)) → EachFrom (IsOpenedOver n limit) number front partitions
          → IsUntroubled told ends → AllByRecursion (IsUntroubled told) (volumes_ends disks (front ++ refused ∷ left) (map files_of partitions ++ back ∷ left))
      steady_from number [] [] each one = (one, untroubled_same told left)
      steady_from number (volume ∷ front) (partition ∷ partitions) each one = (steady_one told tells n limit number volume partition each.0, steady_from (suc number) front partitions each.1 one)
      steady_from number [] (partition ∷ partitions) each one = absurd each
      steady_from number (volume ∷ front) [] each one = absurd each

      refused_at : (number : ℕ) (front : List (Volume D)) (partitions : List (Partition D disks)) → EachFrom (IsOpenedOver n limit) number front partitions
          → slice_get (volumes_ends disks (front ++ refused ∷ left) (map files_of partitions ++ back ∷ left)) (length front) ≡ Some ends
      refused_at number [] [] each = refl
      refused_at number (volume ∷ front) (partition ∷ partitions) each = refused_at (suc number) front partitions each.1
      refused_at number [] (partition ∷ partitions) each = absurd each
      refused_at number (volume ∷ front) [] each = absurd each

      -- those that are left are as they were
      left_above : (number : ℕ) (front : List (Volume D)) (partitions : List (Partition D disks)) → EachFrom (IsOpenedOver n limit) number front partitions
          → AllByRecursion (EachDisk IsUncalled) (drop (suc (length front)) (volumes_ends disks (front ++ refused ∷ left) (map files_of partitions ++ back ∷ left)))
      left_above number [] [] each = left_alone left
      left_above number (volume ∷ front) (partition ∷ partitions) each = left_above (suc number) front partitions each.1
      left_above number [] (partition ∷ partitions) each = absurd each
      left_above number (volume ∷ front) [] each = absurd each

      module _ (front : List (Volume D)) (partitions : List (Partition D disks)) (each : EachFrom (IsOpenedOver n limit) 1 front partitions) where
        abbrev all_ends : List VolumeEnds
        all_ends = volumes_ends disks (front ++ refused ∷ left) (map files_of partitions ++ back ∷ left)

        opened_to : (number : ℕ) → number ≡ suc (length front) → AreOpenedTo told all_ends number
        opened_to number is = record {
          below = good_below told tells n limit front partitions each (refused ∷ left) (back ∷ left) number is;
          above = subst (λ (m : ℕ). AllByRecursion (EachDisk IsUncalled) (drop m all_ends)) (sym is) (left_above 1 front partitions each);
        }

        fails_at : (number : ℕ) → number ≡ suc (length front) → (fault : OpenFault)
            → (IsTrue told.disk → (frame : ℕ) → fault ≡ faults.BadLog frame → IsBadAt number ends.log.before.contents frame)
            → IsDiskCause disks.counts_failures ends.log.before.faults ends.log.after.faults fault
            → FailsToOpen told all_ends (open_cause_of number fault)
        fails_at number is faults.DiskFault bad rose = (
          refl,
          subst (λ (m : ℕ). OfNumber all_ends m (AnyDisk HasRisen)) (sym is) (has_number all_ends (length front) ends (AnyDisk HasRisen) (refused_at 1 front partitions each) (inl rose)),
          opened_to number is,
        )
        fails_at number is (faults.BadLog frame) bad rose = (
          subst (λ (m : ℕ). OfNumber all_ends m (λ ends. IsTrue told.disk → IsBadAt number ends.log.before.contents frame)) (sym is)
              (has_number all_ends (length front) ends (λ ends. IsTrue told.disk → IsBadAt number ends.log.before.contents frame) (refused_at 1 front partitions each) (λ t. bad t frame refl)),
          opened_to number is,
          steady_from 1 front partitions each (λ t. all_steady refused back (rose (subst IsTrue tells.1 t)) handed.slots),
        )
        fails_at number is faults.Memory bad rose = ((number, opened_to number is), steady_from 1 front partitions each (λ t. all_steady refused back (rose (subst IsTrue tells.1 t)) handed.slots))

  -- where the volume with a number was refused, behind those that were opened
  pub refused_back : (n limit : ℕ) (volumes left : List (Volume D)) (partitions : List (Partition D disks)) (refused back : Volume D) → HasOpened n limit volumes (refused ∷ left) partitions
      → IsHandedBack disks refused back → (all : List (Volume D)) → all ≡ map files_of partitions ++ back ∷ left → AllZip (IsHandedBack disks) volumes all
  refused_back n limit volumes left partitions refused back h handed all are =
      subst (λ (news : List (Volume D)). AllZip (IsHandedBack disks) volumes news) (sym are)
      (subst (λ (olds : List (Volume D)). AllZip (IsHandedBack disks) olds (map files_of partitions ++ back ∷ left)) (sym h.split)
      (back_from n limit refused back handed left 1 h.front partitions h.each))

  pub fails_refused : (n limit : ℕ) (volumes left : List (Volume D)) (partitions : List (Partition D disks)) (refused back : Volume D) (number : ℕ) (fault : OpenFault) → HasOpened n limit volumes (refused ∷ left) partitions
      → number ≡ length partitions + 1 → IsHandedBack disks refused back
      → (IsTrue disks.tells → (frame : ℕ) → fault ≡ faults.BadLog frame → IsBadAt number (disks.view refused.log).contents frame)
      → IsDiskCause disks.counts_failures (disks.view refused.log).faults (disks.view back.log).faults fault
      → (all : List (Volume D)) → all ≡ map files_of partitions ++ back ∷ left → (told : Told) → TellsOf disks told → FailsToOpen told (volumes_ends disks volumes all) (open_cause_of number fault)
  fails_refused n limit volumes left partitions refused back number fault h is handed bad cause all are told tells =
      let many = each_length (IsOpenedOver n limit) 1 h.front partitions h.each in
      let here : number ≡ suc (length h.front) = omega (arith, is, many) in
      subst (λ (news : List (Volume D)). FailsToOpen told (volumes_ends disks volumes news) (open_cause_of number fault)) (sym are)
      (subst (λ (olds : List (Volume D)). FailsToOpen told (volumes_ends disks olds (map files_of partitions ++ back ∷ left)) (open_cause_of number fault)) (sym h.split)
      (fails_at n limit refused back handed left told tells h.front partitions h.each number here fault (λ t. bad (subst IsTrue tells.0 t)) cause))

  -- where all were opened, and closed
  pub all_closed_back : (n limit number : ℕ) (volumes : List (Volume D)) (partitions : List (Partition D disks)) → EachFrom (IsOpenedOver n limit) number volumes partitions → AllZip (IsHandedBack disks) volumes (map files_of partitions)
  all_closed_back n limit number [] [] each = tt
  all_closed_back n limit number (volume ∷ volumes) (partition ∷ partitions) each = (closed_back n limit number volume partition each.0, all_closed_back n limit (suc number) volumes partitions each.1)
  all_closed_back n limit number [] (partition ∷ partitions) each = absurd each
  all_closed_back n limit number (volume ∷ volumes) [] each = absurd each

  steady_closed : (n limit number : ℕ) (volumes : List (Volume D)) (partitions : List (Partition D disks)) → EachFrom (IsOpenedOver n limit) number volumes partitions
      → (told : Told) → TellsOf disks told → AllByRecursion (IsUntroubled told) (volumes_ends disks volumes (map files_of partitions))
  steady_closed n limit number [] [] each told tells = tt
  steady_closed n limit number (volume ∷ volumes) (partition ∷ partitions) each told tells =
      (steady_one told tells n limit number volume partition each.0, steady_closed n limit (suc number) volumes partitions each.1 told tells)
  steady_closed n limit number [] (partition ∷ partitions) each told tells = absurd each
  steady_closed n limit number (volume ∷ volumes) [] each told tells = absurd each

  none_above : (olds news : List (Volume D)) → drop (suc (length olds)) (volumes_ends disks olds news) ≡ []
  none_above [] news = refl
  none_above (old ∷ olds) [] = refl
  none_above (old ∷ olds) (new ∷ news) = none_above olds news

  pub fails_closed : (n limit : ℕ) (volumes : List (Volume D)) (partitions : List (Partition D disks)) → EachFrom (IsOpenedOver n limit) 1 volumes partitions
      → (told : Told) → TellsOf disks told → FailsToOpen told (volumes_ends disks volumes (map files_of partitions)) causes.Memory
  fails_closed n limit volumes partitions each told tells = (
    (
      suc (length volumes),
      record {
        below = λ number some below.
            subst (λ (news : List (Volume D)). OfNumber (volumes_ends disks volumes news) number (IsGood told number)) (append-nil (map files_of partitions))
            (subst (λ (olds : List (Volume D)). OfNumber (volumes_ends disks olds (map files_of partitions ++ [])) number (IsGood told number)) (append-nil volumes)
            (good_below told tells n limit volumes partitions each [] [] (suc (length volumes)) refl number some below));
        above = subst (AllByRecursion (EachDisk IsUncalled)) (sym (none_above volumes (map files_of partitions))) tt;
      },
    ),
    steady_closed n limit 1 volumes partitions each told tells,
  )

  -- what is known of all of them as the engine begins
  record AreBegun (n limit number : ℕ) (volumes : List (Volume D)) (partitions : List (Partition D disks)) : Type 0 where
    pub openings : List (Opening D)
    pub over : map (λ opening. opening.volume) openings ≡ volumes
    pub found : EachFrom (IsFoundOver disks) number volumes openings
    pub most : AllByRecursion (λ opening. opening.limit ≡ limit) openings
    pub fresh : EachFrom (HasPart n []) number openings partitions

  are_begun : (n limit number : ℕ) (volumes : List (Volume D)) (partitions : List (Partition D disks)) → EachFrom (IsOpenedOver n limit) number volumes partitions → AreBegun n limit number volumes partitions
  are_begun n limit number [] [] each = record { openings = []; over = refl; found = tt; most = tt; fresh = tt }
  are_begun n limit number (volume ∷ volumes) (partition ∷ partitions) each =
      let o = each.0 in
      let rest = are_begun n limit (suc number) volumes partitions each.1 in
      record {
        openings = o.opening ∷ rest.openings;
        over = ap (λ (v : Volume D). v ∷ map (λ opening. opening.volume) rest.openings) o.over ∙ ap (λ (l : List (Volume D)). volume ∷ l) rest.over;
        found = (o.found, rest.found);
        most = (o.most, rest.most);
        fresh = (o.fresh, rest.fresh);
      }
  are_begun n limit number [] (partition ∷ partitions) each = absurd each
  are_begun n limit number (volume ∷ volumes) [] each = absurd each

  pub record IsBegun (limit units : ℕ) (volumes : List (Volume D)) (partitions : List (Partition D disks)) : Type 0 where
    pub start : Start D
    pub begun : IsBegunOver disks limit units volumes start
    pub bound : start.units ≡ units
    pub fresh : EachFrom (HasPart (length start.openings) []) 1 start.openings partitions

  pub is_begun : (limit units : ℕ) (volumes : List (Volume D)) (partitions : List (Partition D disks)) → EachFrom (IsOpenedOver (length volumes) limit) 1 volumes partitions → IsBegun limit units volumes partitions
  is_begun limit units volumes partitions each =
      let all = are_begun (length volumes) limit 1 volumes partitions each in
      let many : length volumes ≡ length all.openings = each_length (IsOpenedOver (length volumes) limit) 1 volumes partitions each ∙ sym (each_length (HasPart (length volumes) []) 1 all.openings partitions all.fresh) in
      record {
        start = start_of all.openings units;
        begun = record { over = all.over; found = all.found; most = all.most; bound = refl };
        bound = refl;
        fresh = subst (λ (n : ℕ). EachFrom (HasPart n []) 1 all.openings partitions) many all.fresh;
      }

-- what an opening may have left, at any moment since
module _ {D : Type 0} (disks : Ghosts D) where
  pub opened_ever : (old new : D) → OnlyOpens disks old new
      → ((c : List ℕ) → disks.since old (disks.view old).moment c → disks.images old c)
      → IsTrue disks.tells_images → (image : List ℕ) → disks.since new (disks.view old).moment image → LeftByOpening (disks.view old).contents (disks.images old) image
  opened_ever old new opens now t image was = ⊎_elim (λ earlier. inl (now image earlier)) (λ left. left) ((opens.time t).nothing_else (disks.view old).moment image (omega arith) was)

  -- volumes that were handed back were spared, and not put at risk
  pub all_spared : (told : Told) → told.disk ≡ disks.tells → (olds news : List (Volume D)) → AllZip (IsHandedBack disks) olds news → AllByRecursion (IsSpared told) (volumes_ends disks olds news)
  all_spared told tells [] [] all = tt
  all_spared told tells (old ∷ olds) (new ∷ news) all =
      (λ t. let so : IsTrue disks.tells = subst IsTrue tells t in (all.0.opens.same so, all.0.opens.short so), all_spared told tells olds news all.1)
  all_spared told tells [] (new ∷ news) all = absurd all
  all_spared told tells (old ∷ olds) [] all = absurd all

  pub all_safe : IsTrue disks.tells_images → ((disk : D) (c : List ℕ) → disks.since disk (disks.view disk).moment c → disks.images disk c) → (olds news : List (Volume D)) → AllZip (IsHandedBack disks) olds news → AllZip (IsSafe disks) olds news
  all_safe t now [] [] all = tt
  all_safe t now (old ∷ olds) (new ∷ news) all = (
    record {
      now = λ long image left. ⊎_elim (λ before. before) (λ few. let short = few.0 in absurd (omega (arith, short, long))) (all.0.opens.crash t image left);
      ever = λ image was. opened_ever old.log new.log all.0.opens (λ image left. now old.log image left) t image was;
    },
    all_safe t now olds news all.1,
  )
  all_safe t now [] (new ∷ news) all = absurd all
  all_safe t now (old ∷ olds) [] all = absurd all

  pub same_safe : ((disk : D) (c : List ℕ) → disks.since disk (disks.view disk).moment c → disks.images disk c) → (volumes : List (Volume D)) → AllZip (IsSafe disks) volumes volumes
  same_safe now [] = tt
  same_safe now (volume ∷ volumes) = (record { now = λ long image left. left; ever = λ image was. inl (now volume.log image was) }, same_safe now volumes)

  -- as many, with their slots
  pub all_many : (olds news : List (Volume D)) → AllZip (IsHandedBack disks) olds news → length news ≡ length olds
  all_many [] [] all = refl
  all_many (old ∷ olds) (new ∷ news) all = ap suc (all_many olds news all.1)
  all_many [] (new ∷ news) all = absurd all
  all_many (old ∷ olds) [] all = absurd all

  pub all_slots : (olds news : List (Volume D)) → AllZip (IsHandedBack disks) olds news → AreAllSlotsLeft olds news
  all_slots [] [] all = tt
  all_slots (old ∷ olds) (new ∷ news) all = (all.0.slots, all_slots olds news all.1)
  all_slots [] (new ∷ news) all = absurd all
  all_slots (old ∷ olds) [] all = absurd all

  pub same_slots : (volumes : List (Volume D)) → AreAllSlotsLeft volumes volumes
  same_slots [] = tt
  same_slots (volume ∷ volumes) = (refl, same_slots volumes)
