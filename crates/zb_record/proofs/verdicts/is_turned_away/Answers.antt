use Rattle.std.proofs.Common.{◌≡◌, ℕ, ◌++◌, List, false, codes, sym, ap, ◌∙◌, append-nil}
use Rattle.std.specs.Fmt.{decimal}
use Rattle.std.specs.Str.{bytes_eq}
use Rattle.zb_record.specs.Answers.{no_subscription}
use Rattle.zb_record.proofs.verdicts.is_turned_away.Goals as goal

pub returns-else-tells_of : goal.returns-else-tells_of
returns-else-tells_of c =
    let reason = c.args.rejection.now.reason in
    let key = c.args.sent.now.subscription in
    let none : bytes_eq reason (no_subscription key) ≡ false =
    ap (λ (l : List ℕ). bytes_eq reason (codes "no subscription " ++ l)) (sym (append-nil (decimal key))) ∙ (rw (sym c.as_str-reason.ensures) (sym c.tells_of.ensures) ∙ c.if-tells_of.false) in
    rw (none, sym c.as_str-reason.ensures) c.tells_of-else-tells_of.ensures
