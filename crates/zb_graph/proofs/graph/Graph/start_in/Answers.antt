use Rattle.std.proofs.Common.{◌∙◌, ◌&&◌}
use Rattle.zb_faults.specs.Elements.{is_start}
use Rattle.std.specs.Str.{bytes_eq}
use Rattle.zb_process.specs.declared.model.Model.{Model}
use Rattle.zb_process.specs.declared.model.Node.{Node}
use Rattle.zb_graph.proofs.PlaceLemmas.{item_kept}
use Rattle.zb_graph.proofs.graph.Graph.start_in.Goals as goal

pub returns : goal.returns
returns c = item_kept (λ (n : Node). is_start n.kind && bytes_eq n.parent c.args.scope.now) (λ (m : Model). m.nodes) c.self.inside.model c.args.self.now c.at.result.now c.self.view_is (c.at.ensures ∙ c.self.invariant.places.nodes.starts c.args.scope.now) c.as_slice.result.now _ c.as_slice.ensures c.first_of.ensures
