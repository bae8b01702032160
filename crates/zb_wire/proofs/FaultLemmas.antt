-- What a fault tells of a line.
use Rattle.std.proofs.Common.{◌≡◌, Result, Err}
use Rattle.zb_wire.specs.Request.{Tells}
use Rattle.zb_wire.specs.declared.request.LineFault.{LineFault}
use Rattle.zb_wire.specs.declared.request.LineFault.TheVariants as faults
use Rattle.zb_wire.specs.declared.request.Request.{Request}

-- the fault that a line has is one that may be told
pub tells_same : (fault : LineFault) (found : Result Request LineFault) → found ≡ Err fault → Tells fault found
tells_same faults.Memory found is = tt
tells_same fault found is = is
