-- What the codes of a model are: contracts see the expressions that they were compiled from.
use Rattle.std.specs.Prelude.{ℕ, List, [], map, slice_get}
use Rattle.std.specs.Option.{option_map, option_map_or}
use Rattle.zb_process.specs.declared.model.Mapping.{Mapping}
use Rattle.zb_process.specs.declared.model.Model.{Model}
use Rattle.zb_process.specs.declared.model.Node.{Node}
use Rattle.zb_graph.specs.declared.codes.Codes.{Codes}
use Rattle.zb_graph.specs.declared.codes.NodeCodes.{NodeCodes}

-- the inputs of the node at a place (own)
abbrev pub inputs_at : Model → ℕ → List Mapping
inputs_at m n = option_map_or (λ node. node.inputs) (slice_get m.nodes n) []

-- the outputs of the node at a place (own)
abbrev pub outputs_at : Model → ℕ → List Mapping
outputs_at m n = option_map_or (λ node. node.outputs) (slice_get m.nodes n) []

-- the codes of what a node evaluates (own)
abbrev pub codes_of_node : Node → NodeCodes
codes_of_node n = record {
  expr = n.expr;
  collection = option_map (λ m. m.collection) n.multi;
  inputs = map (λ m. m.source) n.inputs;
  outputs = map (λ m. m.source) n.outputs;
}

-- the codes of a model's expressions (own)
abbrev pub codes_of : Model → Codes
codes_of m = record {
  conditions = map (λ f. f.condition) m.flows;
  nodes = map codes_of_node m.nodes;
}
