use Rattle.std.proofs.Common.{◌≡◌, drop, None}
use Rattle.zb_views.specs.Told.{last_told}
use Rattle.zb_views.specs.Processes.{process_told}
use Rattle.zb_world.proofs.packets.process_in.Given as goal

-- the events from here on tell of none
abbrev pub invariant-loop-place : goal.invariant-loop-place
invariant-loop-place l = last_told (process_told l.key) (drop l.place l.events) ≡ None
