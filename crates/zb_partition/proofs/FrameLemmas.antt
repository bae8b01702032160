-- Frames as they are found in a file.
use Rattle.std.proofs.Common.{◌≡◌, ◌∷◌, ◌++◌, ◌<◌, List, [], ℕ, length, IsTrue, sym, ap, ◌∙◌, subst, arith, inl}
use Rattle.std.proofs.lemmas.List.{map-append, length_push}
use Rattle.zb_disk.specs.declared.disk.Disk.{Ghosts}
use Rattle.zb_model.specs.declared.record.Batch.{Batch}
use Rattle.zb_model.specs.Record.{bytes_of}
use Rattle.zb_store.specs.Log.{extent}
use Rattle.zb_store.proofs.LogLaws.{extent_more}
use Rattle.zb_store.specs.Scan.{count_of_scan, gate_of_scan, body_found, HasFound, GoesTo, IsFound}
use Rattle.zb_store.specs.Stands.{Leads, IsFrame, next_gate}
use Rattle.zb_store.specs.declared.scan.Found.TheVariants as found
use Rattle.zb_store.specs.declared.scan.Scan.{Scan}
use Rattle.zb_partition.specs.Log.{bodies_of, IsBadBody, IsBadAt}
use Rattle.zb_partition.specs.Reading.{IsKnown, IsRead}
use Rattle.zb_partition.specs.declared.opening.Known.{Known}

-- the bodies of a batch more
pub bodies_of_more : (log : List Batch) (batch : Batch) → bodies_of (log ++ batch ∷ []) ≡ bodies_of log ++ bytes_of batch ∷ []
bodies_of_more log batch = map-append bytes_of log (batch ∷ [])

-- the last of some frames is that of the gate behind those before it
last_frame : (file : List ℕ) (at : ℕ) (bodies : List (List ℕ)) (body : List ℕ) (gate end : ℕ) → Leads file at bodies gate → Leads file at (bodies ++ body ∷ []) end → IsFrame file gate body
last_frame file at [] body gate end leads more = subst (λ (n : ℕ). IsFrame file n body) leads more.0
last_frame file at (b ∷ bodies) body gate end leads more = last_frame file (next_gate file at) bodies body gate end leads.1 more.1

-- one frame more is read
pub read_more : {D : Type 0} {disks : Ghosts D} (p : ℕ) (was now : List ℕ) (old new : Scan D disks) (log : List Batch) (before after : Known) (batch : Batch)
    → IsRead p was old log before → GoesTo old new found.Frame → ((bodies : List (List ℕ)) → IsTrue disks.tells → HasFound was old bodies → IsFound now new bodies found.Frame)
    → body_found new ≡ bytes_of batch → IsKnown p (log ++ batch ∷ []) after → IsRead p now new (log ++ batch ∷ []) after
read_more p was now old new log before after batch read goes finds spelled knows = record {
  knows = knows;
  count = omega (arith, goes.0, read.count, length_push log batch);
  extent = omega (arith, goes.1, read.extent, ap length spelled, ap extent (bodies_of_more log batch), extent_more (bodies_of log) (bytes_of batch));
  found = λ told.
      subst (λ (bodies : List (List ℕ)). HasFound now new bodies) (ap (λ (b : List ℕ). bodies_of log ++ b ∷ []) spelled ∙ sym (bodies_of_more log batch))
      (finds (bodies_of log) told (read.found told));
}

-- a file with a frame is longer than a byte
frame_long : (file : List ℕ) (gate : ℕ) (body : List ℕ) → IsFrame file gate body → 1 < length file
unfolding next_gate
frame_long file gate body frame = omega (arith, frame.fits)

module _ {D : Type 0} {disks : Ghosts D} (p : ℕ) (was now : List ℕ) (old new : Scan D disks) (log : List Batch) (known : Known) (told : IsTrue disks.tells) (same : now ≡ was) (read : IsRead p was old log known) where
  -- the frame behind those that were read is the first bad one, where its body is bad
  pub bad_frame : (frame : ℕ) → frame ≡ count_of_scan old → ((bodies : List (List ℕ)) → HasFound was old bodies → IsFound now new bodies found.Frame) → IsBadBody p log (body_found new) → IsBadAt p was frame
  bad_frame frame at finds bad =
      let leads = (read.found told).leads in
      let more : Leads was 0 (bodies_of log ++ body_found new ∷ []) (gate_of_scan new) =
      subst (λ (f : List ℕ). Leads f 0 (bodies_of log ++ body_found new ∷ []) (gate_of_scan new)) same (finds (bodies_of log) (read.found told)).leads in
      let here = last_frame was 0 (bodies_of log) (body_found new) (gate_of_scan old) (gate_of_scan new) leads more in
      record {
        log = log;
        count = sym read.count ∙ sym at;
        fits = read.knows.fits;
        applied = read.knows.applied;
        long = frame_long was (gate_of_scan old) (body_found new) here;
        gate = gate_of_scan old;
        leads = leads;
        bad = inl (body_found new, here, bad);
      }
