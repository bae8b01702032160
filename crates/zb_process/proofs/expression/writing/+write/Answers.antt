use Rattle.std.proofs.Common.{◌∷◌}
use Rattle.std.proofs.lemmas.Result.{on_ok_weaker}
use Rattle.zb_format.proofs.Adding.{adds_then, adds_byte, keeps_then, written_next}
use Rattle.zb_format.specs.Encoded.{Adds}
use Rattle.zb_process.specs.Expression.{operator, tree, IsTree}
use Rattle.zb_process.proofs.PieceLemmas.{written_none}
use Rattle.zb_process.proofs.expression.writing.+write.Goals as goal

pub write_binary-returns-clause-added : goal.write_binary-returns-clause-added
write_binary-returns-clause-added t c =
    let first : Adds c.args.encoder.now (operator c.args.operator ∷ tree c.args.left.now) c.write_unary.new.encoder = rw (← c.byte_of.ensures) c.in_ok-write_unary.ensures.added in
    on_ok_weaker c.write_tree.result (adds_then _ _ _ _ _ first) c.write_tree.ensures.added

pub write_members-loop-member-init : goal.write_members-loop-member-init
write_members-loop-member-init t c =
    written_none _ _ _ (adds_byte _ 4 _ _ _ c.in_ok-add.ensures.added c.in_ok-write_count.ensures.added) (keeps_then _ _ _ c.in_ok-add.ensures.kept c.in_ok-write_count.ensures.kept)

pub write_members-loop-member-preserved : goal.write_members-loop-member-preserved
write_members-loop-member-preserved t c =
    written_next tree IsTree _ _ c.args.members.now c.loop-member.member-index c.loop-member.encoder c.member-item.result _ c.loop-member-test.true c.member-item.is
    c.loop-member.invariant c.in_ok-write_tree.ensures.added c.in_ok-write_tree.ensures.kept c.in_ok-write_tree.ensures.some (λ less. (c.in_ok-write_tree.ensures.fits less).0)
