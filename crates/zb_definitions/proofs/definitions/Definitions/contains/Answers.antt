use Rattle.std.proofs.Common.{is_some, ap, ◌∙◌}
use Rattle.zb_definitions.proofs.KeepLemmas.{found_any}
use Rattle.zb_definitions.proofs.definitions.Definitions.contains.Goals as goal

pub returns : goal.returns
returns c = λ ds keeps. c.is_some.ensures ∙ (ap is_some (c.version_under.ensures.version ds keeps) ∙ found_any c.args.key ds)
