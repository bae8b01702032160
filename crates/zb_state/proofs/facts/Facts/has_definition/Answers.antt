use Rattle.std.proofs.Common.{◌==◌, ap, ◌∙◌}
use Rattle.std.specs.List.{list_any}
use Rattle.zb_views.specs.declared.definition.Definition.{Definition}
use Rattle.zb_rules.specs.Shown.{definitions_on}
use Rattle.zb_rules.proofs.ModelsLaws.{defined_there}
use Rattle.zb_state.proofs.facts.Facts.has_definition.Goals as goal

pub returns : goal.returns
returns c = λ es is.
    let s = c.args.self.now in
    c.contains.ensures (definitions_on s.game) c.definitions.ensures ∙ ap (list_any (λ (d : Definition). d.key == c.args.key)) (defined_there s.place es s.game is.applied is.game)
