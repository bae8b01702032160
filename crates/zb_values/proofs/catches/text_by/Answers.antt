use Rattle.std.proofs.Common.{refl}
use Rattle.std.specs.Option.{option_copied}
use Rattle.zb_base.specs.Results.{◌>>=◌}
use Rattle.zb_tokens.specs.Catches.{text_told, value_given}
use Rattle.zb_expr.proofs.RunLemmas.{told-too}
use Rattle.zb_values.proofs.catches.text_by.Goals as goal

pub returns-in-Err : goal.returns-in-Err
returns-in-Err g c =
    let value = value_given (g.E.Env.values c.args.env.now) (option_copied c.args.time) in
    told-too _ value (value >>= text_told) (λ e is. rw is refl) c.in-Err.ensures
