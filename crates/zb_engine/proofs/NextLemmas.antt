-- Entries that are made one after the other, each as the command that comes next.
use Rattle.std.proofs.Common.{◌≡◌, ◌+◌, ℕ, List, [], ◌∷◌, ◌++◌, length, Option, Some, option_map, refl, sym, ap, subst, arith, length-append, append_assoc}
use Rattle.zb_disk.specs.declared.disk.Disk.{Ghosts}
use Rattle.zb_model.specs.declared.record.Batch.{Batch}
use Rattle.zb_model.specs.declared.record.Command.{Command}
use Rattle.zb_rules.specs.Step.{EachOn}
use Rattle.zb_rules.proofs.StepLaws.{each_on_none, each_on_more}
use Rattle.zb_world.specs.Entries.{as_entry}
use Rattle.zb_world.specs.declared.entry.Entry.{Entry}
use Rattle.zb_desk.specs.Serial.{IsEntryBy}
use Rattle.zb_engine.specs.Solo.{Start, logs_in, HasMade, IsPlaced}
use Rattle.zb_engine.specs.declared.solo.Solo.{Solo}
use Rattle.zb_engine.proofs.ListLemmas.{append_none}

-- they came one after the other
abbrev pub AreNext : {D : Type 0} → Start D → (next : List Entry → Option (ℕ × Command)) → (reading : ℕ) → (earlier more : List Entry) → Type 0
AreNext start next reading earlier more = EachOn (λ done entry. IsEntryBy (logs_in start) (next done) reading (earlier ++ done) entry) [] more

-- so many were made so far
pub record AreMade {D : Type 0} {disks : Ghosts D} (start : Start D) (earlier : List Entry) (next : List Entry → Option (ℕ × Command)) (reading done : ℕ) (solo : Solo D disks) : Type 0 where
  pub more : List Entry
  pub counted : done ≡ length more
  pub each : AreNext start next reading earlier more
  pub holds : HasMade start (earlier ++ more) solo

-- the entry of a command that comes next
pub entry_next : (logs : List (List Batch)) (next : Option (ℕ × Command)) (reading : ℕ) (behind : List Entry) (entry : Entry) (asked : ℕ × Command) → next ≡ Some asked → IsEntryBy logs (Some asked) reading behind entry
    → IsEntryBy logs next reading behind entry
entry_next logs next reading behind entry asked is by = subst (λ (o : Option (ℕ × Command)). IsEntryBy logs o reading behind entry) (sym is) by

-- the command of a batch that was made of it
pub command_is : (logs : List (List Batch)) (p : ℕ) (command : Command) (reading : ℕ) (behind : List Entry) (batch : Batch) → IsEntryBy logs (Some (p, command)) reading behind (as_entry p batch) → command ≡ batch.command
command_is logs p command reading behind batch by =
    let seconds : ◌≡◌ {A = Option Command} (Some command) (Some batch.command) = ap (option_map (λ (x : ℕ × Command). x.1)) by.command in
    let same : command ≡ batch.command = cc seconds in
    same

module _ {D : Type 0} {disks : Ghosts D} (start : Start D) (earlier : List Entry) (next : List Entry → Option (ℕ × Command)) (reading : ℕ) where
  -- none so far
  abbrev pub next_none : (solo : Solo D disks) → HasMade start earlier solo → AreMade start earlier next reading 0 solo
  next_none solo has = record {
    more = [];
    counted = refl;
    each = each_on_none (λ made entry. IsEntryBy (logs_in start) (next made) reading (earlier ++ made) entry) [];
    holds = subst (λ (es : List Entry). HasMade start es solo) (append_none earlier) has;
  }

  -- and one more
  abbrev pub next_more : (done : ℕ) (old new : Solo D disks) (w : AreMade start earlier next reading done old) (p : ℕ) (command : Command) (batch : Batch) → next w.more ≡ Some (p, command)
      → IsPlaced start (earlier ++ w.more) reading (p, command) batch new → AreMade start earlier next reading (done + 1) new
  next_more done old new w p command batch comes placed = record {
    more = w.more ++ as_entry p batch ∷ [];
    counted = omega (arith, w.counted, length-append w.more (as_entry p batch ∷ []));
    each = each_on_more (λ made entry. IsEntryBy (logs_in start) (next made) reading (earlier ++ made) entry) [] w.more (as_entry p batch) w.each
        (entry_next (logs_in start) (next w.more) reading (earlier ++ w.more) (as_entry p batch) (p, command) comes placed.by);
    holds = subst (λ (es : List Entry). HasMade start es new) (append_assoc earlier w.more (as_entry p batch ∷ [])) placed.holds;
  }
