-- When an index tells where the nodes and flows of a model stand (own).
use Rattle.std.specs.Prelude.{◌≡◌, ℕ, ◌&&◌, List}
use Rattle.std.specs.Str.{bytes_eq}
use Rattle.zb_process.specs.declared.model.Flow.{Flow}
use Rattle.zb_process.specs.declared.model.Model.{Model}
use Rattle.zb_process.specs.declared.model.Node.{Node}
use Rattle.zb_faults.specs.Elements.{is_boundary_of, is_start}
use Rattle.zb_graph.specs.declared.index.FlowPlaces.{FlowPlaces}
use Rattle.zb_graph.specs.declared.index.Index.{Index}
use Rattle.zb_graph.specs.declared.index.NodePlaces.{NodePlaces}
use Rattle.zb_graph.specs.Places.{places}
use Rattle.zb_graph.specs.PlacesAt.{places_at}

-- each id has its places among nodes: of its own, of the boundary events there, and of the start events in it (own)
pub record TellsNodes (nodes : List Node) (index : NodePlaces) : Type 0 where
  pub by_id : (id : List ℕ) → places_at index.by_id id ≡ places (λ n. bytes_eq n.id id) nodes
  pub bounds : (id : List ℕ) → places_at index.bounds id ≡ places (is_boundary_of id) nodes
  pub starts : (id : List ℕ) → places_at index.starts id ≡ places (λ n. is_start n.kind && bytes_eq n.parent id) nodes

-- each id has its places among flows: of its own, of those out of the node with it, and of those into that (own)
pub record TellsFlows (flows : List Flow) (index : FlowPlaces) : Type 0 where
  pub by_id : (id : List ℕ) → places_at index.by_id id ≡ places (λ f. bytes_eq f.id id) flows
  pub outs : (id : List ℕ) → places_at index.outs id ≡ places (λ f. bytes_eq f.from id) flows
  pub ins : (id : List ℕ) → places_at index.ins id ≡ places (λ f. bytes_eq f.to id) flows

-- each id has its places in the lists of the model (own)
pub record TellsPlaces (m : Model) (index : Index) : Type 0 where
  pub nodes : TellsNodes m.nodes index.nodes
  pub flows : TellsFlows m.flows index.flows
