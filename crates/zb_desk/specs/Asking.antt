-- What asking for a request leads to, and what doing units of work does.
use Rattle.std.specs.Prelude.{◌≡◌, ℕ, List, ◌++◌, length, Option, Some}
use Rattle.zb_world.specs.declared.entry.Entry.{Entry}
use Rattle.zb_wire.specs.declared.request.Request.{Request}
use Rattle.zb_desk.specs.declared.answered.Answered.{Answered}
use Rattle.zb_desk.specs.Serial.{Basis, units_in, IsNextEntry, AreMadeFor, IsCarriedOut, IsNextUnit, AreUnits, AreAllUnits}
use Rattle.zb_desk.specs.Replies.{IsReply}

-- behind earlier entries a request was carried out at a reading: its entries are there too, and this is what it is answered, with
-- the units of work that were done behind it
pub record IsAsked (basis : Basis) (request : Request) (reading : ℕ) (earlier : List Entry) (has : List Entry → Type 0) (answered : Answered) : Type 0 where
  pub entries : List Entry
  pub done : IsCarriedOut basis request reading earlier entries
  pub told : IsReply (length basis.logs) request reading entries answered.reply
  pub units : answered.units ≡ length (units_in entries)
  pub holds : has (earlier ++ entries)

-- behind earlier entries a request was cut off once it had made these, and the one that isn't in its log, if there is one
pub record IsCut (basis : Basis) (request : Request) (reading : ℕ) (earlier : List Entry) (stopped : List Entry → Option Entry → Type 0) : Type 0 where
  pub entries : List Entry
  pub made : AreMadeFor basis request reading earlier entries
  pub unlogged : Option Entry
  pub next : (entry : Entry) → unlogged ≡ Some entry → IsNextEntry basis request reading earlier entries entry
  pub holds : stopped (earlier ++ entries) unlogged

-- behind earlier entries so many units of work were done at a reading, and no more come
pub record IsDelivered (basis : Basis) (reading : ℕ) (earlier : List Entry) (has : List Entry → Type 0) (count : ℕ) : Type 0 where
  pub units : List Entry
  pub done : AreAllUnits basis reading earlier units
  pub told : count ≡ length units
  pub holds : has (earlier ++ units)

-- behind earlier entries the doing of units was cut off, once these were done, with the one that isn't in its log, if
-- there is one
pub record IsDeliveryCut (basis : Basis) (reading : ℕ) (earlier : List Entry) (stopped : List Entry → Option Entry → Type 0) : Type 0 where
  pub units : List Entry
  pub made : AreUnits basis reading earlier units
  pub unlogged : Option Entry
  pub next : (entry : Entry) → unlogged ≡ Some entry → IsNextUnit basis reading earlier units entry
  pub holds : stopped (earlier ++ units) unlogged
