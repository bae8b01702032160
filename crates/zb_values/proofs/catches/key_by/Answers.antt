use Rattle.std.proofs.Common.{refl}
use Rattle.std.specs.Option.{option_copied}
use Rattle.zb_base.specs.Results.{◌>>=◌}
use Rattle.zb_tokens.specs.Catches.{key_told, value_given}
use Rattle.zb_expr.proofs.RunLemmas.{told-too}
use Rattle.zb_values.proofs.catches.key_by.Goals as goal

pub returns-in-Err : goal.returns-in-Err
returns-in-Err g c =
    let value = value_given (g.E.Env.values c.args.env.now) (option_copied c.args.key) in
    told-too _ value (value >>= key_told) (λ e is. rw is refl) c.in-Err.ensures
