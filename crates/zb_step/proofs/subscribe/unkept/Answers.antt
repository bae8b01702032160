use Rattle.std.proofs.Common.{◌==◌, ℕ, List, Option, Some, None, if◌then◌else◌, sym, ap, ◌∙◌}
use Rattle.std.specs.List.{list_any}
use Rattle.std.specs.Option.{option_and_then}
use Rattle.zb_step.proofs.subscribe.unkept.Goals as goal

pub returns-in-Some : goal.returns-in-Some
returns-in-Some c =
    let m = c.in-Some.message in
    let unless : List ℕ → ℕ → Option ℕ = λ keys x. if list_any (λ key. key == x) keys then None else Some x in
    c.unless_kept.ensures ∙ (ap (λ (keys : List ℕ). unless keys m) c.as_slice.ensures ∙ sym (ap (option_and_then (unless c.args.command.now.keys)) c.in-Some.is))
