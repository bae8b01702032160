-- What a run is made of.
use Rattle.std.specs.Prelude.{List}
use Rattle.zb_world.specs.declared.entry.Entry.{Entry}
use Rattle.zb_session.specs.Session.{SessionRun}
use Rattle.zb_serve.specs.Log.{OpenedLog}

-- what a run is made of: what it found of each log, each session's part, the entries of a line that
-- was not answered, and the units of work behind the last line
pub record RunParts : Type 0 where
  pub opened : List OpenedLog
  pub runs : List SessionRun
  pub rest : List Entry
  pub closing : List Entry
