use Rattle.std.proofs.Common.{refl}
use Rattle.zb_process.specs.Expr.{value_of}
use Rattle.zb_base.specs.Results.{◌>>=◌}
use Rattle.zb_tokens.specs.Choice.{truth_of}
use Rattle.zb_tokens.specs.Names.{value_seen}
use Rattle.zb_expr.proofs.RunLemmas.{told-too}
use Rattle.zb_values.proofs.conditions.truth_by.Goals as goal

pub returns-in-Err : goal.returns-in-Err
returns-in-Err c =
    let value = value_of (value_seen c.args.game.now c.args.cell) c.args.code.now in
    told-too _ value (value >>= truth_of) (λ e is. rw is refl) c.in-Err.ensures
