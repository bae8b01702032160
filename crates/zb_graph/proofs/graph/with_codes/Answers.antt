use Rattle.zb_graph.proofs.graph.with_codes.Goals as goal

pub invariant_of-result : goal.invariant_of-result
invariant_of-result c = record {
  few_nodes = c.requires.nodes;
  few_flows = c.requires.flows;
  places = c.in-Ok.ensures;
  coded = c.requires.codes;
}
