-- The instances that messages have started, as they are listed.
use Rattle.std.specs.Prelude.{ℕ, List, Option, Some, None}
use Rattle.zb_lists.specs.Listed.{row_found, AreListed}
use Rattle.zb_lists.specs.declared.lists.Lists.{Lists}
use Rattle.zb_table.specs.Rows.{Ascend}
use Rattle.zb_views.specs.declared.started.Started.{Started}

-- the texts under which an instance is listed: its process and its correlation key (own)
abbrev pub label_of_start : Started → Option (List ℕ × List ℕ)
label_of_start s = Some (s.process, s.correlation_key)

-- the keys of instances ascend; each is listed under its texts and waits for no moment, and nothing else is listed (own)
pub record AreStartsListed (ss : List Started) (lists : Lists) : Type 0 where
  pub ascend : Ascend (λ s. s.instance) 0 ss
  pub listed : AreListed (λ s. None) label_of_start (row_found (λ s. s.instance) ss) lists
