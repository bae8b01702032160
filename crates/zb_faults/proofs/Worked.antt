-- What two models with nodes that aren't run yet are told, worked out by hand.
use Rattle.std.proofs.Common.{◌≡◌, List, [], ◌∷◌, false, Some, None, refl}
use Rattle.std.specs.Prelude.{ℕ, codes}
use Rattle.zb_process.specs.declared.model.Model.{Model}
use Rattle.zb_process.specs.declared.model.Node.{Node}
use Rattle.zb_process.specs.declared.model.Flow.{Flow}
use Rattle.zb_process.specs.declared.model.NodeKind.{NodeKind}
use Rattle.zb_process.specs.declared.model.NodeKind.TheVariants as kinds
use Rattle.zb_faults.specs.Faults.{first_fault, name_of}
use Rattle.zb_faults.specs.declared.fault.Fault.TheVariants as faults

-- a node of this kind at the boundary of another one, and nothing else of it
abbrev node : List ℕ → NodeKind → List ℕ → Node
node id kind attached = record {
  id = id;
  kind = kind;
  parent = [];
  attached = attached;
  cancel = false;
  otherwise = [];
  name = [];
  expr = None;
  retries = 0;
  handler = false;
  multi = None;
  inputs = [];
  outputs = [];
}

abbrev flow : Flow
flow = record { id = codes "f"; from = codes "s"; to = codes "e"; condition = None }

-- the process p: a node s of this kind, the flow f, a node e of that kind, and more nodes
abbrev straight : NodeKind → NodeKind → List Node → Model
straight first last more = record {
  process = codes "p";
  tag = [];
  nodes = node (codes "s") first [] ∷ node (codes "e") last [] ∷ more;
  flows = flow ∷ [];
}

-- a message may start a process
takes_a_message_start : first_fault (straight kinds.MessageStartEvent kinds.EndEvent []) ≡ None
unfolding first_fault
takes_a_message_start = refl

-- a boundary event for a compensation without a handler is named
names_a_handler_that_is_none : first_fault (straight kinds.StartEvent kinds.ServiceTask (node (codes "b") kinds.CompensationBoundaryEvent (codes "e") ∷ [])) ≡ Some (faults.Compensation, codes "b")
unfolding first_fault
names_a_handler_that_is_none = refl

its_name : name_of faults.Compensation ≡ codes "COMPENSATION"
its_name = refl
