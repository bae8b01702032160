use Rattle.std.proofs.Common.{◌∙◌}
use Rattle.std.specs.Str.{bytes_eq}
use Rattle.zb_process.specs.declared.model.Model.{Model}
use Rattle.zb_process.specs.declared.model.Flow.{Flow}
use Rattle.zb_graph.proofs.PlaceLemmas.{items_kept}
use Rattle.zb_graph.proofs.graph.Graph.flows_with.Goals as goal

pub returns : goal.returns
returns c = items_kept (λ (f : Flow). bytes_eq f.id c.args.id.now) (λ (m : Model). m.flows) c.self.inside.model c.args.self.now c.at.result.now c.self.view_is (c.at.ensures ∙ c.self.invariant.places.flows.by_id c.args.id.now)
