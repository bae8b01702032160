use Rattle.std.proofs.Common.{◌∙◌}
use Rattle.std.specs.Str.{bytes_eq}
use Rattle.zb_process.specs.declared.model.Model.{Model}
use Rattle.zb_process.specs.declared.model.Node.{Node}
use Rattle.zb_graph.proofs.PlaceLemmas.{number_kept}
use Rattle.zb_graph.proofs.graph.Graph.number.Goals as goal

pub returns : goal.returns
returns c = number_kept (λ (n : Node). bytes_eq n.id c.args.id.now) (λ (m : Model). m.nodes) c.self.inside.model c.args.self.now c.at.result.now c.self.view_is (c.at.ensures ∙ c.self.invariant.places.nodes.by_id c.args.id.now) c.copied.result (c.copied.ensures ∙ c.first.ensures.value)
