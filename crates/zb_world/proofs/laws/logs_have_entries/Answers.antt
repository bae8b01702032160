use Rattle.zb_world.proofs.EntryLaws.{part_of_entries, places_of_entries}
use Rattle.zb_world.proofs.HistoryLaws.{history_of_one}
use Rattle.zb_world.proofs.laws.logs_have_entries.Goals as goal

pub returns-clause-alone : goal.returns-clause-alone
returns-clause-alone c = history_of_one

pub returns-clause-part : goal.returns-clause-part
returns-clause-part c = part_of_entries

pub returns-clause-places : goal.returns-clause-places
returns-clause-places c = places_of_entries
