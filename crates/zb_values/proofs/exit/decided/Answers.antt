use Rattle.std.proofs.lemmas.Option.{slice_get_within}
use Rattle.zb_values.proofs.exit.decided.Goals as goal

pub truth_at-requires : goal.truth_at-requires
truth_at-requires c = slice_get_within c.args.model.now.flows c.args.number c.args.flow.now c.requires
