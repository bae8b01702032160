use Rattle.std.proofs.Common.{List, [], Option, ℕ, sym, ap, ◌∙◌}
use Rattle.std.specs.Option.{option_map_or}
use Rattle.std.specs.Str.{bytes_eq}
use Rattle.zb_exchange_records.specs.declared.message.MessagePublished.{MessagePublished}
use Rattle.zb_state.proofs.StarterLemmas.{start_key, empty_is}
use Rattle.zb_state.proofs.facts.Facts.starts_with.Goals as goal

-- the correlation key of a message, if there is one
abbrev key_of : Option MessagePublished → List ℕ
key_of o = option_map_or (λ (m : MessagePublished). m.correlation_key) o []

pub returns-in-Some : goal.returns-in-Some
returns-in-Some c = λ es is.
    c.eq.ensures ∙ ap (bytes_eq c.args.correlation_key.now) (c.as_str.ensures ∙ (ap key_of c.in-Some.ensures ∙ sym (start_key es c.args.self.now is)))

pub returns-in-None : goal.returns-in-None
returns-in-None c = λ es is.
    c.is_empty.ensures ∙ (empty_is c.args.correlation_key.now ∙ ap (bytes_eq c.args.correlation_key.now) (ap key_of c.in-None.ensures ∙ sym (start_key es c.args.self.now is)))
