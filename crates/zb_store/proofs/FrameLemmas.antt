-- The frames of an open log.
use Rattle.std.proofs.Common.{◌≡◌, inl, inr, ℕ, ◌+◌, ◌<◌, ◌≤◌, List, [], ◌∷◌, ◌++◌, length, take, IsTrue, sym, ap, subst, arith}
use Rattle.std.proofs.lemmas.List.{take-append-le, length_push}
use Rattle.zb_disk.specs.Disk.{Only}
use Rattle.zb_disk.specs.declared.disk.Disk.{Ghosts}
use Rattle.zb_store.specs.Calls.{LeavesFiles}
use Rattle.zb_store.proofs.CallLaws.{CallsLeave, left_weaker, leaves_since}
use Rattle.zb_store.specs.Log.{framed, extent}
use Rattle.zb_store.proofs.LogLaws.{framed_length, extent_more}
use Rattle.zb_store.specs.Stands.{Leads, EndsAt, StandsWithOrWithout}
use Rattle.zb_store.specs.GateLog.{file_of_log, count_of, last_gate_of, HasFrames, HasClosedFrames, IsLogOf}
use Rattle.zb_store.proofs.GateLogLaws.{log_leaves}
use Rattle.zb_store.proofs.BodyLemmas.{leads_extent, leads_split}
use Rattle.zb_store.specs.declared.gate_log.GateLog.{GateLog}

-- in its file frames lead to its last gate, which is closed
pub ends_at : {D : Type 0} {disks : Ghosts D} (file : List ℕ) (log : GateLog D disks) (bodies : List (List ℕ)) → HasClosedFrames file log bodies → last_gate_of log < length file → EndsAt file bodies (last_gate_of log)
ends_at file log bodies has inside = record { leads = has.frames.leads; inside = inside; closed = has.closed }

-- A disk that tells its images tells its contents; a crash since this moment is one now.
module _ {D : Type 0} {disks : Ghosts D} (told : IsTrue disks.tells_images → IsTrue disks.tells) (log : GateLog D disks) (bodies : List (List ℕ)) (body : List ℕ) (has : IsLogOf bodies log)
    (alone : IsTrue disks.tells_images → (c : List ℕ) → disks.since log.disk (disks.view log.disk).moment c → disks.images log.disk c) where
  -- no call leaves it as it is
  pub leaves_still : LeavesFiles disks log.disk log.disk (StandsWithOrWithout bodies body)
  leaves_still = left_weaker disks log.disk log.disk _ _ (λ c stands. inl stands) (log_leaves told log bodies has alone)

  -- and calls that leave no more than these where its last gate is closed leave no more of it since they began
  pub leaves_written : (new : D) → (IsTrue disks.tells → last_gate_of log < length (file_of_log log))
      → (IsTrue disks.tells → EndsAt (file_of_log log) bodies (last_gate_of log) → StandsWithOrWithout bodies body (disks.view new).contents)
      → (IsTrue disks.tells_images → EndsAt (file_of_log log) bodies (last_gate_of log) → Only (file_of_log log) (disks.images log.disk)
      → ((c : List ℕ) → disks.images new c → StandsWithOrWithout bodies body c) × CallsLeave disks log.disk new (StandsWithOrWithout bodies body))
      → LeavesFiles disks log.disk new (StandsWithOrWithout bodies body)
  leaves_written new inside file calls = record {
    file = λ tells. file tells (ends tells);
    crash = λ tells. (left tells).0;
    since = λ tells c was. elim (leaves_since (disks.view log.disk).moment (disks.view new).moment (disks.since log.disk) (disks.since new) (StandsWithOrWithout bodies body) (left tells).1 c was) [
      | inl earlier ↦ leaves_still.since tells c earlier
      | inr late ↦ late
    ];
    time = λ tells. (left tells).1;
  }
    where
      ends : IsTrue disks.tells → EndsAt (file_of_log log) bodies (last_gate_of log)
      ends tells = ends_at (file_of_log log) log bodies (has.file tells) (inside tells)

      left : IsTrue disks.tells_images → ((c : List ℕ) → disks.images new c → StandsWithOrWithout bodies body c) × CallsLeave disks log.disk new (StandsWithOrWithout bodies body)
      left tells = calls tells (ends (told tells)) (has.durable tells)

-- the frames in front of a gate that is kept in mind lead to it in the file of a longer log, too
near_kept : (file was : List ℕ) (k near : ℕ) (bodies : List (List ℕ)) (body : List ℕ) (end : ℕ) → k ≤ length bodies → Leads was 0 (take k bodies) near → Leads file 0 (bodies ++ body ∷ []) end → Leads file 0 (take k (bodies ++ body ∷ [])) near
near_kept file was k near bodies body end few leads all =
    let front : take k (bodies ++ body ∷ []) ≡ take k bodies = take-append-le k bodies (body ∷ []) few in
    let split = leads_split file 0 k (bodies ++ body ∷ []) end all in
    let there : split.0 + 1 ≡ 0 + extent (take k (bodies ++ body ∷ [])) = leads_extent file 0 (take k (bodies ++ body ∷ [])) split.0 split.1 in
    let here : near + 1 ≡ 0 + extent (take k bodies) = leads_extent was 0 (take k bodies) near leads in
    let same : split.0 ≡ near = omega (arith, there, here, ap extent front) in
    subst (λ (n : ℕ). Leads file 0 (take k (bodies ++ body ∷ [])) n) same split.1

-- a log with one frame more
pub log_more : {D : Type 0} {disks : Ghosts D} (file was : List ℕ) (old new : GateLog D disks) (bodies : List (List ℕ)) (body : List ℕ) → HasFrames was old bodies → old.near_frame ≤ count_of old → new.near_frame ≡ old.near_frame → new.near_gate ≡ old.near_gate → count_of new ≡ count_of old + 1 → last_gate_of new ≡ last_gate_of old + length (framed body) → EndsAt file (bodies ++ body ∷ []) (last_gate_of new) → HasClosedFrames file new (bodies ++ body ∷ [])
log_more file was old new bodies body before few same_frame same_gate count last ends =
    let near = near_kept file was old.near_frame old.near_gate bodies body (last_gate_of new) (omega (arith, few, before.count)) before.near ends.leads in
    record {
      frames = record {
        count = omega (arith, count, before.count, length_push bodies body);
        leads = ends.leads;
        near = rw (same_frame, same_gate) near;
        length = omega (arith, last, framed_length body, before.length, extent_more bodies body);
      };
      closed = ends.closed;
    }
