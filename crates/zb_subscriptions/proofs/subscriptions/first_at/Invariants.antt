use Rattle.std.proofs.Common.{◌≡◌, drop}
use Rattle.std.specs.List.{find}
use Rattle.zb_subscriptions.specs.Opened.{passes_place}
use Rattle.zb_subscriptions.proofs.subscriptions.first_at.Given as goal

-- none at a place so far passes
abbrev pub invariant-loop-place : goal.invariant-loop-place
invariant-loop-place g l = find (passes_place (g.Q.Query.passes l.query) l.rows) (drop l.place-index l.places) ≡ find (passes_place (g.Q.Query.passes l.query) l.rows) l.places
