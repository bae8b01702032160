-- Which request a line is, or what is wrong with it: the first fault, in the order in which they stand here.
-- What each op asks for stands in Ops. What no standard says is marked as this project's own.
use Rattle.std.specs.Prelude.{◌≡◌, ℕ, List, length, codes, nat_le, if◌then◌else◌, Option, Some, None, option_and_then, Result, Ok, Err}
use Rattle.std.specs.Str.{is_utf8}
use Rattle.serde_json.specs.Data.{Data, Members}
use Rattle.serde_json.specs.Read.{read}
use Rattle.serde_json.specs.Find.{get, as_str, as_object}
use Rattle.zb_wire.specs.Op.{request_with}
use Rattle.zb_wire.specs.Ops.{op_named}
use Rattle.zb_wire.specs.declared.given.Given.{Given}
use Rattle.zb_wire.specs.declared.request.Request.{Request}
use Rattle.zb_wire.specs.declared.request.LineFault.{LineFault}
use Rattle.zb_wire.specs.declared.request.LineFault.TheVariants as faults
use Rattle.zb_base.specs.Results.{◌>>=◌}

-- a line has at most so many bytes (own)
unfoldable pub longest_line : ℕ
longest_line = 262144

-- what is there, or this fault
abbrev pub or_fault : {A : Type 0} → LineFault → Option A → Result A LineFault
or_fault fault None = Err fault
or_fault fault (Some a) = Ok a

-- TOO_LONG (own): the line has more bytes than the longest
unfoldable pub short_line : List ℕ → Result (List ℕ) LineFault
short_line line = if nat_le (length line) longest_line then Ok line else Err faults.TooLong

-- NOT_JSON (RFC 8259, sections 2 and 8.1): the text isn't in UTF-8, or it is no JSON value
abbrev pub value_in : List ℕ → Result Data LineFault
value_in text = or_fault faults.NotJson (if is_utf8 text then read text else None)

-- NOT_OBJECT (RFC 8259, section 4): the value is no object
abbrev pub members_in : Data → Result Members LineFault
members_in value = or_fault faults.NotObject (as_object value)

-- NO_OP (own): the value has no field op with a text
abbrev pub op_in : Data → Result (List ℕ) LineFault
op_in value = or_fault faults.NoOp (option_and_then as_str (get (codes "op") value))

-- UNKNOWN_OP (own): no op is called so; then FIELD and RANGE, by the fields of the op
abbrev pub request_for : Given → List ℕ → Members → Data → Result Request LineFault
request_for given name members value = do
  op ← or_fault faults.UnknownOp (op_named given name)
  request_with given op members value

-- the request that a value is
abbrev pub request_in : Given → Data → Result Request LineFault
request_in given value = do
  members ← members_in value
  name ← op_in value
  request_for given name members value

-- the request that a line is, or its fault
unfoldable pub request_of : Given → List ℕ → Result Request LineFault
request_of given line = do
  text ← short_line line
  value ← value_in text
  request_in given value

-- this fault was found, unless memory ran out
abbrev pub Tells : LineFault → Result Request LineFault → Type 0
Tells faults.Memory found = Unit {0}
Tells fault found = found ≡ Err fault

-- this was found, unless memory ran out
abbrev pub GivesRequest : Result Request LineFault → Result Request LineFault → Type 0
GivesRequest (Ok request) found = found ≡ Ok request
GivesRequest (Err fault) found = Tells fault found
