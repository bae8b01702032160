use Rattle.std.proofs.Common.{◌∙◌}
use Rattle.zb_process.specs.declared.model.Model.{Model}
use Rattle.zb_faults.specs.Elements.{is_boundary_of}
use Rattle.zb_graph.proofs.PlaceLemmas.{items_kept}
use Rattle.zb_graph.proofs.graph.Graph.bounds_of.Goals as goal

pub returns-clause-nodes : goal.returns-clause-nodes
returns-clause-nodes c = items_kept (is_boundary_of c.args.id.now) (λ (m : Model). m.nodes) c.self.inside.model c.args.self.now c.at.result.now c.self.view_is (c.at.ensures ∙ c.self.invariant.places.nodes.bounds c.args.id.now)
