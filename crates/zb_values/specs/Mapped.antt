-- The mappings of nodes, in the words of the player's own functions.
use Rattle.std.specs.Prelude.{ℕ, List, [], slice_get}
use Rattle.std.specs.Option.{option_map_or}
use Rattle.zb_process.specs.declared.model.Model.{Model}
use Rattle.zb_process.specs.declared.model.Node.{Node}
use Rattle.zb_process.specs.declared.model.Mapping.{Mapping}
use Rattle.zb_values.specs.declared.mappings.Side.{Side}
use Rattle.zb_values.specs.declared.mappings.Side.TheVariants as sides

-- the inputs of a node, or its outputs
abbrev pub mappings_on : Side → Node → List Mapping
mappings_on sides.Inputs n = n.inputs
mappings_on sides.Outputs n = n.outputs

-- those of the node at a place of a model
abbrev pub mappings_at : Side → Model → ℕ → List Mapping
mappings_at side m number = option_map_or (mappings_on side) (slice_get m.nodes number) []
