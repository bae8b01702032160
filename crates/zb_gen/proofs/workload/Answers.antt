use Rattle.std.proofs.Common.{◌≡◌, ◌++◌, append_assoc, ap, sym, ◌∙◌}
use Rattle.std.proofs.lemmas.List.{append-nil}
use Rattle.zb_gen.specs.Workload.{deploy_request, next_state, request_behind, requests_drawn, state_behind}
use Rattle.zb_gen.proofs.WorkloadLaws.{one_state, one_request, no_state, no_request}
use Rattle.zb_gen.proofs.workload.Goals as goal

-- nothing is drawn
pub loop-init : goal.loop-init
loop-init c = record {
  state = sym (no_state c.args.number);
  text = c.in_ok-text.ensures ∙ sym (append-nil deploy_request) ∙ ap (λ requests. deploy_request ++ requests) (sym (no_request c.args.number));
}

-- one request more is drawn
pub loop-preserved : goal.loop-preserved
loop-preserved c =
    let number = c.args.number in
    let so_far = requests_drawn number c.loop.counter in
    let next = request_behind (state_behind number c.loop.counter) in
    record {
      state = c.next_state-state.ensures ∙ ap next_state (c.next_state.ensures ∙ ap next_state c.loop.invariant.state) ∙ sym (one_state number c.loop.counter);
      text = c.in_ok-put_request.ensures ∙ ap (λ text. text ++ request_behind c.loop.state) c.loop.invariant.text
          ∙ ap (λ state. (deploy_request ++ so_far) ++ request_behind state) c.loop.invariant.state
          ∙ append_assoc deploy_request so_far next ∙ ap (λ requests. deploy_request ++ requests) (sym (one_request number c.loop.counter));
    }
