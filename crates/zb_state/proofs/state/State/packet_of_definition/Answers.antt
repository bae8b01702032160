use Rattle.std.proofs.Common.{◌≡◌, List, None, Some, rules, sym, subst, ◌∙◌}
use Rattle.zb_model.specs.declared.record.Event.{Event}
use Rattle.zb_record.specs.Packets.{packet_of_definition}
use Rattle.zb_state.specs.declared.facts.Facts.{Facts}
use Rattle.zb_state.specs.State.{partition_of, IsStateOf}
use Rattle.zb_state.proofs.StateLemmas.{keeps_told}
use Rattle.zb_state.proofs.PacketLemmas.{none_without_version, none_without_model, packet_is}
use Rattle.zb_state.proofs.state.State.packet_of_definition.Goals as goal

pub returns-in_default : goal.returns-in_default
returns-in_default c =
    let s = c.self.inside.facts in
    subst (λ (f : Facts). (es : List Event) → IsStateOf es f → None ≡ packet_of_definition (partition_of f) c.args.partitions es c.args.distribution) c.self.view_is
    (λ es is. sym (none_without_version (partition_of s) c.args.partitions es s.game is.game is.applied c.args.distribution (sym (c.version_under.ensures.version _ (keeps_told es s c.definitions.result.now is c.definitions.ensures)) ∙ c.in_default.is)))

pub returns-in_default-model : goal.returns-in_default-model
returns-in_default-model c =
    let s = c.self.inside.facts in
    subst (λ (f : Facts). (es : List Event) → IsStateOf es f → None ≡ packet_of_definition (partition_of f) c.args.partitions es c.args.distribution) c.self.view_is
    (λ es is. sym (none_without_model (partition_of s) c.args.partitions es s.game is.game is.applied c.args.distribution (search rules)))

pub returns-in-Ok : goal.returns-in-Ok
returns-in-Ok c =
    let s = c.self.inside.facts in
    subst (λ (f : Facts). (es : List Event) → IsStateOf es f → Some c.in-Ok.packet ≡ packet_of_definition (partition_of f) c.args.partitions es c.args.distribution) c.self.view_is
    (λ es is.
    let told = packet_is (partition_of s) c.args.partitions es s.game is.game is.applied c.args.distribution c.in-Some.version c.model-2.result.now (sym (c.version_under.ensures.version _ (keeps_told es s c.definitions.result.now is c.definitions.ensures)) ∙ c.in-Some.is) (search rules) in
    search rules)
