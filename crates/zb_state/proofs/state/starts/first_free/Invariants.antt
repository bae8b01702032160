use Rattle.std.proofs.Common.{◌≡◌, drop, not}
use Rattle.std.specs.List.{find, list_any}
use Rattle.zb_views.specs.Subscriptions.{is_lock}
use Rattle.zb_state.proofs.state.starts.first_free.Given as goal

-- no key so far is free
abbrev pub invariant-loop-key : goal.invariant-loop-key
invariant-loop-key l = find (λ k. not (list_any (is_lock k l.process) l.locks)) (drop l.key-index l.keys) ≡ find (λ k. not (list_any (is_lock k l.process) l.locks)) l.keys
