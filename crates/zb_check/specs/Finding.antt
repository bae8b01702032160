-- What the tests of flows and of nodes find.
use Rattle.std.specs.Prelude.{◌==◌, Bool, false, ◌&&◌, ◌||◌, not, is_none}
use Rattle.std.specs.Option.{option_eq, option_map_or}
use Rattle.std.specs.Str.{bytes_eq}
use Rattle.zb_process.specs.declared.model.Model.{Model}
use Rattle.zb_process.specs.declared.model.Node.{Node}
use Rattle.zb_process.specs.declared.model.Flow.{Flow}
use Rattle.zb_faults.specs.Elements.{node_with, is_at, incoming, is_end_kind, is_boundary}
use Rattle.zb_faults.specs.Faults.{parent_at, takes_no_flow, has_bad_condition, has_bad_default, is_attached, starts_badly}
use Rattle.zb_check.specs.declared.finding.FlowTest.{FlowTest}
use Rattle.zb_check.specs.declared.finding.FlowTest.TheVariants as flows
use Rattle.zb_check.specs.declared.finding.NodeTest.{NodeTest}
use Rattle.zb_check.specs.declared.finding.NodeTest.TheVariants as nodes

-- a test finds a flow
abbrev pub is_found_flow : FlowTest → Model → Flow → Bool
is_found_flow flows.Dangles m f = is_none (node_with m f.from) || is_none (node_with m f.to)
is_found_flow flows.Crosses m f = not (option_eq bytes_eq (parent_at m f.from) (parent_at m f.to))
is_found_flow flows.LeadsAstray m f = is_at m f.to takes_no_flow || is_at m f.from is_end_kind
is_found_flow flows.IsMisplaced m f = option_map_or (has_bad_condition m f) (node_with m f.from) false

-- a test finds a node
abbrev pub is_found_node : NodeTest → Model → Node → Bool
is_found_node nodes.LacksIncoming m n = not (takes_no_flow n.kind || n.handler) && (incoming m n.id == 0)
is_found_node nodes.IsDetached m n = is_boundary n.kind && not (is_attached m n)
is_found_node nodes.HasBadDefault m n = has_bad_default m n
is_found_node nodes.StartsBadly m n = starts_badly m n
