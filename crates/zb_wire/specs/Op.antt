-- What a line asks for by its op: the fields of the op are judged, and then they are the request.
use Rattle.std.specs.Prelude.{ℕ, List, Bool, Option, Some, None, Result, Ok, Err}
use Rattle.serde_json.specs.Data.{Data, Members}
use Rattle.zb_wire.specs.Fields.{FieldRule, fault_in}
use Rattle.zb_wire.specs.declared.given.Given.{Given}
use Rattle.zb_wire.specs.declared.request.Request.{Request}
use Rattle.zb_wire.specs.declared.request.LineFault.{LineFault}

-- an op: its name, whether it is one only where the clock is moved by hand, its fields beside op, in order, and the
-- request that a value with such fields is
pub record Op : Type 0 where
  pub name : List ℕ
  pub by_hand : Bool
  pub fields : List FieldRule
  pub request : Given → Data → Request

-- a request, unless there is a fault
abbrev pub unless_faulty : Option LineFault → Request → Result Request LineFault
unless_faulty None request = Ok request
unless_faulty (Some fault) request = Err fault

-- the request of this op that a value is
abbrev pub request_with : Given → Op → Members → Data → Result Request LineFault
request_with given op members d = unless_faulty (fault_in given op.fields members d) (op.request given d)
