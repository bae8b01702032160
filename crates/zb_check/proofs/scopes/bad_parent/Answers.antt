use Rattle.std.proofs.Common.{[], ◌&&◌, ◌||◌, not, is_some, bytes_eq, sym, ap, ◌∙◌}
use Rattle.std.specs.Option.{option_map}
use Rattle.zb_process.specs.declared.model.Node.{Node}
use Rattle.zb_faults.specs.Elements.{is_subprocess}
use Rattle.zb_faults.specs.Faults.{lacks_parent, has_subprocess}
use Rattle.zb_check.specs.Notes.{noted}
use Rattle.zb_check.proofs.BehindLemmas.{found_here, found_later, one_more}
use Rattle.zb_check.proofs.scopes.bad_parent.Goals as goal

pub returns-then-lacks_parent : goal.returns-then-lacks_parent
returns-then-lacks_parent c =
    let nodes = c.args.nodes.now in
    let i = c.loop-node.node-index in
    let n = c.node-item.result in
    let tested = c.lacks_parent.ensures ∙ ap (λ t. not (bytes_eq n.parent [] || t)) (c.loop-node.invariant.0 n.parent) in
    ap (option_map (λ (x : Node). x.id)) (sym (found_here lacks_parent nodes i n c.lacks_parent.result c.loop-node-test.true c.node-item.is tested c.if-lacks_parent.true) ∙ c.loop-node.invariant.1)

pub loop-node-preserved : goal.loop-node-preserved
loop-node-preserved c =
    let nodes = c.args.nodes.now in
    let i = c.loop-node.node-index in
    let n = c.node-item.result in
    let tested = c.lacks_parent.ensures ∙ ap (λ t. not (bytes_eq n.parent [] || t)) (c.loop-node.invariant.0 n.parent) in
    let more = one_more lacks_parent nodes i n c.lacks_parent.result c.loop-node-test.true c.node-item.is tested in (
      λ q. c.in_ok-note_where.ensures q
          ∙ (ap (λ t. (t && bytes_eq n.id q) || is_some (noted c.loop-node.subprocesses q)) c.is_subprocess.ensures
          ∙ (ap (λ t. (is_subprocess n.kind && bytes_eq n.id q) || t) (c.loop-node.invariant.0 q) ∙ sym (ap (λ b. has_subprocess b q) more))),
      sym (found_later lacks_parent nodes i n c.lacks_parent.result c.loop-node-test.true c.node-item.is tested c.if-lacks_parent.false) ∙ c.loop-node.invariant.1,
    )
