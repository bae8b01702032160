-- When what a graph keeps beside its model is right (own).
use Rattle.std.specs.Prelude.{◌≡◌, ◌<◌, ◌^◌, length}
use Rattle.zb_process.specs.declared.model.Model.{Model}
use Rattle.zb_graph.specs.declared.codes.Codes.{Codes}
use Rattle.zb_graph.specs.declared.index.Index.{Index}
use Rattle.zb_graph.specs.Codes.{codes_of}
use Rattle.zb_graph.specs.TellsPlaces.{TellsPlaces}

-- each id has its places in the lists of the model, which fit into 32 bits, and the codes are those of the model's expressions (own)
pub record IsGraph (m : Model) (index : Index) (codes : Codes) : Type 0 where
  pub few_nodes : length m.nodes < 2 ^ 32
  pub few_flows : length m.flows < 2 ^ 32
  pub places : TellsPlaces m index
  pub coded : codes ≡ codes_of m
