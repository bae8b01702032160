use Rattle.std.proofs.Common.{◌≡◌, take}
use Rattle.std.specs.List.{flat_map}
use Rattle.zb_subscriptions.specs.Opened.{key_at}
use Rattle.zb_subscriptions.proofs.subscriptions.keys_at.Given as goal

-- the keys of those at the places so far
abbrev pub invariant-loop-place : goal.invariant-loop-place
invariant-loop-place l = l.keys.items ≡ flat_map (key_at l.rows) (take l.place-index l.places)
