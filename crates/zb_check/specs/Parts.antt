-- What is known of the parts of a model.
use Rattle.std.specs.Prelude.{◌≡◌, ℕ, List, map}
use Rattle.std.specs.Option.{option_copied}
use denote.Ref.{Bor}
use Rattle.zb_process.specs.declared.model.Model.{Model}
use Rattle.zb_process.specs.declared.model.Node.{Node}
use Rattle.zb_process.specs.declared.model.Flow.{Flow}
use Rattle.zb_faults.specs.Elements.{ids_of, node_with, flow_with}
use Rattle.zb_check.specs.declared.notes.Notes.{Notes}
use Rattle.zb_check.specs.declared.counts.Counts.{Counts}
use Rattle.zb_check.specs.Notes.{noted}
use Rattle.zb_check.specs.Counts.{Counted}

-- the ids are listed, nodes and flows are noted under theirs, and each id is counted
pub record HasParts (m : Model) (ids : List (Bor (List ℕ))) (nodes : Notes (Bor Node)) (flows : Notes (Bor Flow)) (counts : Counts) : Type 0 where
  pub listed : map (λ id. id.now) ids ≡ ids_of m
  pub node : (id : List ℕ) → option_copied (noted nodes id) ≡ node_with m id
  pub flow : (id : List ℕ) → option_copied (noted flows id) ≡ flow_with m id
  pub counted : Counted m counts
