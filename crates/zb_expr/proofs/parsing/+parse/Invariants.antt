use Rattle.std.proofs.Common.{◌≡◌, ◌+◌, ◌-◌, ◌*◌}
use Rattle.zb_expr.specs.Reading.{IsWithin, AreWithin, part_at, chain_at, more_members_at}
use Rattle.zb_expr.proofs.parsing.+parse.Given as goal

abbrev pub decreases-read_part : goal.decreases-read_part
decreases-read_part a = 6 * a.levels

abbrev pub decreases-read_within : goal.decreases-read_within
decreases-read_within a = 6 * a.room + 5

abbrev pub decreases-read_first : goal.decreases-read_first
decreases-read_first a = 6 * a.room + 4

abbrev pub decreases-read_group : goal.decreases-read_group
decreases-read_group a = 6 * a.room + 2

abbrev pub decreases-read_negation : goal.decreases-read_negation
decreases-read_negation a = 6 * a.room + 2

abbrev pub decreases-read_minus : goal.decreases-read_minus
decreases-read_minus a = 6 * a.room + 2

abbrev pub decreases-read_closed : goal.decreases-read_closed
decreases-read_closed a = 6 * a.room + 1

abbrev pub decreases-read_list : goal.decreases-read_list
decreases-read_list a = 6 * a.room + 3

abbrev pub decreases-read_all_members : goal.decreases-read_all_members
decreases-read_all_members a = 6 * a.room + 2

abbrev pub decreases-read_members : goal.decreases-read_members
decreases-read_members a = 6 * a.room + 1

abbrev pub decreases-read_chain : goal.decreases-read_chain
decreases-read_chain a = 6 * a.room + 1

-- what follows the members so far is what follows the first
abbrev pub invariant-read_members-loop : goal.invariant-read_members-loop
invariant-read_members-loop l = record {
  read : more_members_at (part_at l.room) (l.most - l.counter) l.listed l.tokens ≡ more_members_at (part_at l.room) l.most l.fn.first l.fn.tokens;
  within : AreWithin (l.room + 1) l.listed;
}

-- what follows the part so far is what follows the first
abbrev pub invariant-read_chain-loop : goal.invariant-read_chain-loop
invariant-read_chain-loop l = record {
  read : chain_at (part_at l.room) l.room (l.room - l.counter) l.least l.left l.tokens ≡ chain_at (part_at l.room) l.room l.room l.least l.fn.first l.fn.tokens;
  within : IsWithin (l.room + 1) l.left;
}
