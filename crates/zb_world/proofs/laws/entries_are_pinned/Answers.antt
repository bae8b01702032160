use Rattle.zb_world.proofs.EntryLaws.{pinned}
use Rattle.zb_world.proofs.HistoryLaws.{history_pinned}
use Rattle.zb_world.proofs.laws.entries_are_pinned.Goals as goal

pub returns-clause-entries : goal.returns-clause-entries
returns-clause-entries c = pinned

pub returns-clause-histories : goal.returns-clause-histories
returns-clause-histories c = history_pinned
