-- The units of work behind the last line of a run, as they are done.
use Rattle.std.specs.Prelude.{◌≡◌, ◌⊎◌, ℕ, List, Option, Result}
use Rattle.zb_disk.specs.declared.disk.Disk.{Ghosts}
use Rattle.zb_model.specs.declared.stop.Stop.{Stop}
use Rattle.zb_world.specs.declared.entry.Entry.{Entry}
use Rattle.zb_wire.specs.declared.request.Request.{Request}
use Rattle.zb_wire.specs.declared.request.LineFault.{LineFault}
use Rattle.zb_desk.specs.Serial.{Basis}
use Rattle.zb_desk.specs.Asking.{IsDelivered, IsDeliveryCut}
use Rattle.zb_session.specs.Hours.{Hours, IsReadingOf}
use Rattle.zb_session.specs.Session.{CutsOff, Facts, facts_of, LeavesDesk}
use Rattle.zb_session.specs.declared.session.End.{End}
use Rattle.zb_session.specs.declared.session.End.TheVariants as ends
use Rattle.zb_engine.specs.Solo.{Start, HasMade, HasEnded}
use Rattle.zb_engine.specs.declared.solo.Solo.{Solo}

-- what is known of an engine that began so
abbrev pub facts_in : {D : Type 0} {disks : Ghosts D} → Start D → Solo D disks → Facts
facts_in start solo = facts_of (λ made. HasMade start made solo)
    (λ made left stop. HasEnded start made left stop solo)

-- what lies before the last units of work of a run: its clock, what its lines were found to be, the
-- entries that were made for them, the one that isn't in its log, if there is one, and how the
-- session ended
pub record Behind : Type 0 where
  pub hours : Hours
  pub found : List (Result Request LineFault)
  pub entries : List Entry
  pub unlogged : Option Entry
  pub end : End

-- what lies before them, by its parts
abbrev pub behind_of : Hours → List (Result Request LineFault) → List Entry → Option Entry → End
    → Behind
behind_of hours found entries unlogged end =
    record { hours = hours; found = found; entries = entries; unlogged = unlogged; end = end }

-- all units of work were done: so many, and the session ended as it did
pub record AreWorkedOff (basis : Basis) (behind : Behind) (facts : Facts) (end : End)
    (count : ℕ) : Type 0 where
  pub reading : ℕ
  pub read : IsReadingOf behind.hours behind.found 0 reading
  pub delivered : IsDelivered basis reading behind.entries facts.has count
  pub same : end ≡ behind.end

-- they were cut off: the engine stopped, and none is told
pub record AreWorkCut (basis : Basis) (behind : Behind) (facts : Facts) (end : End)
    (count : ℕ) : Type 0 where
  pub reading : ℕ
  pub read : IsReadingOf behind.hours behind.found 0 reading
  pub stop : Stop
  pub cut : IsDeliveryCut basis reading behind.entries (λ made left. facts.stopped made left stop)
  pub told : (end ≡ ends.Stopped) × (count ≡ 0)

-- nothing was done, since a line was cut off
pub record IsWorkless (behind : Behind) (facts : Facts) (end : End) (count : ℕ) : Type 0 where
  pub cuts : CutsOff behind.end
  pub leaves : LeavesDesk facts behind.entries behind.unlogged behind.end
  pub same : (end ≡ behind.end) × (count ≡ 0)

-- what became of the last units of work of a run
abbrev pub IsWorkedOff : Basis → Behind → Facts → End × ℕ → Type 0
IsWorkedOff basis behind facts result = IsWorkless behind facts result.0 result.1
    ⊎ ((CutsOff behind.end → ⊥)
    × (AreWorkedOff basis behind facts result.0 result.1
    ⊎ AreWorkCut basis behind facts result.0 result.1))
