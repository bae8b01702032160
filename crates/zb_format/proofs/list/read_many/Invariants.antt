use Rattle.std.proofs.Common.{◌≡◌, ◌-◌}
use Rattle.zb_format.specs.Reading.{many_at}
use Rattle.zb_format.proofs.ListLemmas.{with_front}
use Rattle.zb_format.proofs.list.read_many.Given as goal

-- the items so far and those that are left are all of them
abbrev pub invariant-loop : goal.invariant-loop
invariant-loop g l =
    with_front l.items (many_at g.T.Format.layout.reading (l.count - l.counter) l.cursor) ≡ many_at g.T.Format.layout.reading l.count l.fn.cursor
