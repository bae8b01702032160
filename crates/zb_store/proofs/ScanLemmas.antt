-- A frame that was found.
use Rattle.std.proofs.Common.{◌≡◌, ℕ, ◌+◌, ◌≤◌, List, [], ◌∷◌, ◌++◌, sym, ◌∙◌, ap, subst, arith}
use Rattle.std.specs.Prelude.{slice_range}
use Rattle.std.proofs.lemmas.List.{length_push}
use Rattle.zb_disk.specs.declared.disk.Disk.{Ghosts}
use Rattle.zb_store.specs.declared.scan.Scan.{Scan}
use Rattle.zb_store.specs.declared.step.Step.{Step}
use Rattle.zb_store.specs.declared.step.Step.TheVariants.{Next}
use Rattle.zb_store.specs.Step.{IsAtGate}
use Rattle.zb_store.specs.Stands.{next_gate, IsFrame, Leads}
use Rattle.zb_store.proofs.LogLaws.{extent_more}
use Rattle.zb_store.specs.Window.{IsPieceOf}
use Rattle.zb_store.specs.Scan.{count_of_scan, gate_of_scan, body_found, HasFound}
use Rattle.zb_store.proofs.BodyLemmas.{leads_push, frame_size}
use Rattle.zb_store.proofs.PieceLemmas.{piece_part}

-- a scan has one frame more, whose body lies in its window
pub found_more : {D : Type 0} {disks : Ghosts D} (file : List ℕ) (old new : Scan D disks) (bodies : List (List ℕ)) (step : Step) (next : ℕ)
    → HasFound file old bodies → IsAtGate file (gate_of_scan old) step → step ≡ Next next
    → IsPieceOf file new.window → new.window.start + new.from ≡ gate_of_scan old + 9 → new.window.start + new.to ≡ next → next ≤ new.window.start + new.window.filled → gate_of_scan old + 9 ≤ next
    → gate_of_scan new ≡ next → count_of_scan new ≡ count_of_scan old + 1
    → HasFound file new (bodies ++ body_found new ∷ [])
found_more file old new bodies step next has stands is piece from to held behind gate count =
    let at = gate_of_scan old in
    let there = subst (λ (s : Step). IsAtGate file at s) is stands in
    let body = body_found new in
    let is_part : body ≡ slice_range file (at + 9) next =
    piece_part file new.window.bytes.items new.window.start new.window.filled new.from new.to (at + 9) next piece (omega arith) (omega arith) from to in
    let frame : IsFrame file at body = record {
      is_open = there.0;
      fits = omega (arith, there.1, there.2);
      body_is = is_part ∙ ap (λ (n : ℕ). slice_range file (at + 9) n) there.1;
    } in
    let end : next_gate file at ≡ gate_of_scan new = sym there.1 ∙ sym gate in
    record {
      count = omega (arith, count, has.count, length_push bodies body);
      leads = subst (λ (n : ℕ). Leads file 0 (bodies ++ body ∷ []) n) end (leads_push file 0 bodies at body has.leads frame);
      extent = omega (arith, end, frame_size file at body frame, has.extent, extent_more bodies body);
    }
