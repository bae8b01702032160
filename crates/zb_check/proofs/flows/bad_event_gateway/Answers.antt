use Rattle.std.proofs.Common.{◌&&◌, not, nat_lt, bytes_eq, ap, ◌∙◌}
use Rattle.std.specs.List.{list_any}
use Rattle.zb_process.specs.declared.model.Flow.{Flow}
use Rattle.zb_faults.specs.Faults.{is_alternative}
use Rattle.zb_check.proofs.LookLemmas.{some_counted}
use Rattle.zb_check.proofs.flows.bad_event_gateway.Goals as goal

pub first_lacking-requires : goal.first_lacking-requires
first_lacking-requires c = λ id.
    let m = c.args.parts.now in
    ap (nat_lt 0) (c.in_ok-stray_flows.ensures id)
    ∙ (some_counted (λ (f : Flow). not (is_alternative m f) && bytes_eq f.from id) c.flows.result.now ∙ ap (list_any (λ (f : Flow). not (is_alternative m f) && bytes_eq f.from id)) c.flows.ensures)
