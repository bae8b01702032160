use Rattle.std.proofs.Common.{◌≡◌, ◌++◌, string_bytes}
use Rattle.zb_gen.specs.Workload.{deploy_request, requests_drawn, state_behind}
use Rattle.zb_gen.proofs.workload.Given as goal

-- so many requests are drawn
abbrev pub invariant-loop : goal.invariant-loop
invariant-loop l = record {
  state : l.state ≡ state_behind l.number l.counter;
  text : string_bytes l.text ≡ deploy_request ++ requests_drawn l.number l.counter;
}
