use Rattle.std.proofs.Common.{◌&&◌, ◌||◌, not, bytes_eq, sym, ap, ◌∙◌}
use Rattle.std.specs.Option.{option_map}
use Rattle.zb_process.specs.declared.model.Node.{Node}
use Rattle.zb_faults.specs.Elements.{is_error_boundary}
use Rattle.zb_faults.specs.Faults.{catches_badly, catches_error}
use Rattle.zb_check.proofs.BehindLemmas.{found_here, found_later, one_more}
use Rattle.zb_check.proofs.boundaries.bad_error.Goals as goal

pub returns-then-catches_badly : goal.returns-then-catches_badly
returns-then-catches_badly c =
    let nodes = c.args.nodes.now in
    let i = c.loop-node.node-index in
    let n = c.node-item.result in
    let tested = c.catches_badly.ensures ∙ ap (λ t. is_error_boundary n.kind && (not n.cancel || t)) (c.loop-node.invariant.0 n.attached n.name) in
    ap (option_map (λ (x : Node). x.id)) (sym (found_here catches_badly nodes i n c.catches_badly.result c.loop-node-test.true c.node-item.is tested c.if-catches_badly.true) ∙ c.loop-node.invariant.1)

pub loop-node-preserved : goal.loop-node-preserved
loop-node-preserved c =
    let nodes = c.args.nodes.now in
    let i = c.loop-node.node-index in
    let n = c.node-item.result in
    let tested = c.catches_badly.ensures ∙ ap (λ t. is_error_boundary n.kind && (not n.cancel || t)) (c.loop-node.invariant.0 n.attached n.name) in
    let more = one_more catches_badly nodes i n c.catches_badly.result c.loop-node-test.true c.node-item.is tested in (
      λ p q. c.in_ok-note_error.ensures p q
          ∙ (ap (λ t. (is_error_boundary n.kind && (bytes_eq n.attached p && bytes_eq n.name q)) || t) (c.loop-node.invariant.0 p q) ∙ sym (ap (λ b. catches_error b p q) more)),
      sym (found_later catches_badly nodes i n c.catches_badly.result c.loop-node-test.true c.node-item.is tested c.if-catches_badly.false) ∙ c.loop-node.invariant.1,
    )
