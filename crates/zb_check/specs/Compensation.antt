-- What is known of a node of compensation.
use Rattle.std.specs.Prelude.{Bool, false, ◌&&◌, ◌||◌, not}
use Rattle.std.specs.Option.{option_map_or}
use Rattle.zb_process.specs.declared.model.Model.{Model}
use Rattle.zb_process.specs.declared.model.Node.{Node}
use Rattle.zb_faults.specs.Elements.{node_with, is_compensation_boundary}
use Rattle.zb_faults.specs.Faults.{is_handler_in, has_flows, is_forgotten}

-- a node is compensated badly, where it is known whether its handler and its activity are those of an event in front of it
abbrev pub is_bad_by : Model → Node → Bool → Bool → Bool
is_bad_by m n named compensated = (is_compensation_boundary n.kind && (not (option_map_or (is_handler_in m n.parent) (node_with m n.name) false) || has_flows m n || named || compensated)) || is_forgotten m n
