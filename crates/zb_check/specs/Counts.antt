-- What is known of the counts of a model.
use Rattle.std.specs.Prelude.{◌≡◌, ℕ, List, count_by, ◌&&◌}
use Rattle.std.specs.Str.{bytes_eq}
use Rattle.zb_process.specs.declared.model.Model.{Model}
use Rattle.zb_faults.specs.Elements.{incoming, outgoing, is_start, is_message_start, is_boundary, is_compensation_boundary}
use Rattle.zb_faults.specs.Faults.{starts_in}
use Rattle.zb_check.specs.declared.counts.Counts.{Counts}
use Rattle.zb_check.specs.Notes.{count_in}

-- each id is counted as often as the model names it
pub record Counted (m : Model) (c : Counts) : Type 0 where
  pub arriving : (id : List ℕ) → count_in c.incoming id ≡ incoming m id
  pub leaving : (id : List ℕ) → count_in c.outgoing id ≡ outgoing m id
  pub starting : (id : List ℕ) → count_in c.starts id ≡ starts_in m is_start id
  pub triggered : (id : List ℕ) → count_in c.message_starts id ≡ starts_in m is_message_start id
  pub bounding : (id : List ℕ) → count_in c.boundaries id ≡ count_by (λ n. is_boundary n.kind && bytes_eq n.attached id) m.nodes
  pub undoing : (id : List ℕ) → count_in c.handlers id ≡ count_by (λ n. is_compensation_boundary n.kind && bytes_eq n.name id) m.nodes
