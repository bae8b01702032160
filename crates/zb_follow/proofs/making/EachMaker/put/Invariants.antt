use Rattle.std.proofs.Common.{◌≡◌, ◌≤◌, length, take}
use Rattle.zb_rules.specs.Making.{each_made}
use Rattle.zb_state.specs.State.{partition_of, HasPut}
use Rattle.zb_follow.proofs.making.EachMaker.put.Given as goal

-- what is made of the things so far was put
abbrev pub invariant-loop-thing : goal.invariant-loop-thing
invariant-loop-thing g l =
    HasPut (each_made (λ x. g.F.FindEach.finds l.fn.self.finder.now x (partition_of l.fn.state) l.moment) (take l.thing-index l.fn.self.things.now)) l.fn.state l.state l.fn.out l.out
    × (partition_of l.state ≡ partition_of l.fn.state) × (length l.fn.out ≤ length l.out)
