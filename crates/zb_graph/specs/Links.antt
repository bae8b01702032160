-- What the nodes of a model are connected with, by the places of the flows and the nodes in its lists (own).
use Rattle.std.specs.Prelude.{ℕ, List, [], slice_get}
use Rattle.std.specs.Option.{option_map_or}
use Rattle.std.specs.Str.{bytes_eq}
use Rattle.zb_process.specs.declared.model.Model.{Model}
use Rattle.zb_faults.specs.Elements.{is_boundary_of}
use Rattle.zb_graph.specs.Places.{places}

-- the id of the node at a place (own)
abbrev pub id_at : Model → ℕ → List ℕ
id_at m n = option_map_or (λ node. node.id) (slice_get m.nodes n) []

-- the flows out of the node with an id, in the order of the model (BPMN 2.0.2, 8.4.13)
abbrev pub outs_of : Model → List ℕ → List ℕ
outs_of m id = places (λ f. bytes_eq f.from id) m.flows

-- the flows into the node with an id, in the order of the model (BPMN 2.0.2, 8.4.13)
abbrev pub ins_of : Model → List ℕ → List ℕ
ins_of m id = places (λ f. bytes_eq f.to id) m.flows

-- the boundary events at the activity with an id, in the order of the model (BPMN 2.0.2, 10.5.6)
abbrev pub bounds_of : Model → List ℕ → List ℕ
bounds_of m id = places (is_boundary_of id) m.nodes
