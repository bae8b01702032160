use Rattle.std.proofs.Common.{◌==◌, List, sym, ap, ◌∙◌}
use Rattle.std.specs.List.{list_any}
use Rattle.zb_views.specs.declared.distribution.Distribution.{Distribution}
use Rattle.zb_record.specs.Sendings.{distributions_sent}
use Rattle.zb_record.proofs.SendingLaws.{distributions_among}
use Rattle.zb_state.proofs.facts.Facts.is_distributed.Goals as goal

pub returns : goal.returns
returns c = λ es is. c.is_sent.ensures ∙ ap (λ (ds : List Distribution). list_any (λ (d : Distribution). d.definition == c.args.definition) ds) (sym (distributions_among es ∙ ap distributions_sent is.sendings))
