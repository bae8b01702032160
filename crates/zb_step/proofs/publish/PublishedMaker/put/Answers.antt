use Rattle.std.proofs.Common.{◌≡◌, List, [], ◌∷◌}
use Rattle.std.specs.Option.{option_map_or}
use Rattle.std.proofs.lemmas.Result.{on_ok_weaker}
use Rattle.zb_model.specs.declared.record.Event.{Event}
use Rattle.zb_model.specs.declared.record.Event.TheVariants as events
use Rattle.zb_rules.specs.Making.{Making, just, and_then}
use Rattle.zb_rules.specs.Publish.{published}
use Rattle.zb_state.specs.State.{partition_of, IsStateOf}
use Rattle.zb_follow.proofs.MakerLemmas.{same_cant, same_put}
use Rattle.zb_step.proofs.PublishLemmas.{made_of_correlating, made_of_starting, published_by}
use Rattle.zb_step.proofs.publish.PublishedMaker.put.Goals as goal

module _ (c : goal.After-put) where
  abbrev made : Making
  made = and_then (just (events.MessagePublished c.in_ok-message.message)) (and_then (made_of_correlating c.in-Ok-correlating.correlating) (and_then (made_of_starting (partition_of c.args.state.now) c.in-Ok.starting) (λ before. option_map_or (λ (e : Event). e ∷ []) c.expiry.result [])))

  is_published : (es : List Event) → IsStateOf es c.args.state.now → made es ≡ published (partition_of c.args.state.now) c.args.moment c.args.self.0.now es
  is_published es is =
      published_by (partition_of c.args.state.now) c.args.moment es c.args.self.0.now c.next_key-key.result c.in_ok-message.message c.in-Ok-correlating.correlating c.in-Ok.starting c.expiry.result
      (c.next_key-key.ensures es is) c.in_ok-message.ensures (c.in-Ok-correlating.ensures es is) (c.in-Ok.ensures es is) c.expiry.ensures

pub returns-clause-ok : goal.returns-clause-ok
returns-clause-ok c =
    on_ok_weaker c.put.result
    (same_put (made c) (published (partition_of c.args.state.now) c.args.moment c.args.self.0.now) c.args.state.now c.put.new.state c.args.out.now c.put.new.out (is_published c))
    c.put.ensures.ok

pub returns-clause-misfit : goal.returns-clause-misfit
returns-clause-misfit c = λ misfit. same_cant (made c) (published (partition_of c.args.state.now) c.args.moment c.args.self.0.now) c.args.state.now (is_published c) (c.put.ensures.misfit misfit)
