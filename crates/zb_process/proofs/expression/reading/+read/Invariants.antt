use Rattle.std.proofs.Common.{◌≡◌, ◌+◌, ◌-◌, ◌*◌, ◌≤◌}
use Rattle.zb_process.specs.Tree.{nesting_over, trees_of}
use Rattle.zb_process.specs.Expression.{tree_at}
use Rattle.zb_format.specs.Reading.{many_at}
use Rattle.zb_format.proofs.ListLemmas.{with_front}
use Rattle.zb_process.proofs.expression.reading.+read.Given as goal

abbrev pub decreases-read_tree : goal.decreases-read_tree
decreases-read_tree a = 5 * a.levels

abbrev pub decreases-read_node : goal.decreases-read_node
decreases-read_node a = 5 * a.levels + 4

abbrev pub decreases-read_boxed : goal.decreases-read_boxed
decreases-read_boxed a = 5 * a.levels + 1

abbrev pub decreases-read_binary : goal.decreases-read_binary
decreases-read_binary a = 5 * a.levels + 2

abbrev pub decreases-read_members : goal.decreases-read_members
decreases-read_members a = 5 * a.levels + 3

abbrev pub decreases-read_many : goal.decreases-read_many
decreases-read_many a = 5 * a.levels + 2

-- the members so far and those that are left are all of them
abbrev pub invariant-read_many-loop : goal.invariant-read_many-loop
invariant-read_many-loop l = record {
  read : with_front l.members.items (many_at (tree_at l.levels) (l.count - l.counter) l.cursor) ≡ many_at (tree_at l.levels) l.count l.fn.cursor;
  below : nesting_over (trees_of l.members.items) ≤ l.levels;
}
