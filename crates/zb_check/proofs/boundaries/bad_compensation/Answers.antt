use Rattle.std.proofs.Common.{[], ◌&&◌, ◌||◌, take, reverse, is_some, bytes_eq, sym, ap, ◌∙◌}
use Rattle.std.specs.Option.{option_map}
use Rattle.zb_process.specs.declared.model.Node.{Node}
use Rattle.zb_faults.specs.Elements.{is_compensation_boundary}
use Rattle.zb_faults.specs.Faults.{find_behind, is_compensated_badly, names_handler, compensates}
use Rattle.zb_check.specs.Notes.{noted}
use Rattle.zb_check.specs.Compensation.{is_bad_by}
use Rattle.zb_check.proofs.BehindLemmas.{found_here, found_later, one_more}
use Rattle.zb_check.proofs.boundaries.bad_compensation.Goals as goal

pub returns-then-is_compensated_badly : goal.returns-then-is_compensated_badly
returns-then-is_compensated_badly c =
    let m = c.args.parts.now in
    let nodes = c.nodes-nodes.result.now in
    let i = c.loop-node.node-index in
    let n = c.node-item.result in
    let before = reverse (take i nodes) in
    let tested =
    c.is_compensated_badly.ensures
    ∙ (ap (λ t. is_bad_by m n t (is_some (noted c.loop-node.activities n.attached))) (c.loop-node.invariant.0 n.name) ∙ ap (λ t. is_bad_by m n (names_handler before n.name) t) (c.loop-node.invariant.1 n.attached)) in
    ap (option_map (λ (x : Node). x.id))
    (sym (found_here (is_compensated_badly m) nodes i n c.is_compensated_badly.result c.loop-node-test.true c.node-item.is tested c.if-is_compensated_badly.true)
    ∙ (c.loop-node.invariant.2 ∙ ap (find_behind (is_compensated_badly m) []) c.nodes-nodes.ensures))

pub loop-node-preserved : goal.loop-node-preserved
loop-node-preserved c =
    let m = c.args.parts.now in
    let nodes = c.nodes-nodes.result.now in
    let i = c.loop-node.node-index in
    let n = c.node-item.result in
    let before = reverse (take i nodes) in
    let tested =
    c.is_compensated_badly.ensures
    ∙ (ap (λ t. is_bad_by m n t (is_some (noted c.loop-node.activities n.attached))) (c.loop-node.invariant.0 n.name) ∙ ap (λ t. is_bad_by m n (names_handler before n.name) t) (c.loop-node.invariant.1 n.attached)) in
    let more = one_more (is_compensated_badly m) nodes i n c.is_compensated_badly.result c.loop-node-test.true c.node-item.is tested in (
      λ q. c.in_ok-note_compensation.ensures.handlers q ∙ (ap (λ t. (is_compensation_boundary n.kind && bytes_eq n.name q) || t) (c.loop-node.invariant.0 q) ∙ sym (ap (λ b. names_handler b q) more)),
      λ q. c.in_ok-note_compensation.ensures.activities q ∙ (ap (λ t. (is_compensation_boundary n.kind && bytes_eq n.attached q) || t) (c.loop-node.invariant.1 q) ∙ sym (ap (λ b. compensates b q) more)),
      sym (found_later (is_compensated_badly m) nodes i n c.is_compensated_badly.result c.loop-node-test.true c.node-item.is tested c.if-is_compensated_badly.false) ∙ c.loop-node.invariant.2,
    )
