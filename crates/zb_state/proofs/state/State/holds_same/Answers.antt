use Rattle.std.proofs.Common.{◌≡◌, ◌==◌, ℕ, List, false, map, filter, bytes_eq, sym, ap, subst, ◌∙◌}
use Rattle.std.specs.List.{find, list_any}
use Rattle.std.specs.Option.{option_map_or}
use Rattle.zb_exchange_records.specs.declared.message.MessagePublished.{MessagePublished}
use Rattle.zb_views.specs.Messages.{buffered}
use Rattle.zb_rules.specs.Publish.{is_same}
use Rattle.zb_state.specs.declared.facts.Facts.{Facts}
use Rattle.zb_tables.specs.Messages.{is_addressed}
use Rattle.zb_state.specs.State.{IsStateOf}
use Rattle.zb_state.proofs.LentLemmas.{same_there}
use Rattle.zb_state.proofs.state.State.holds_same.Goals as goal

pub returns : goal.returns
returns c = λ es its.
    let is = subst (λ (f : Facts). IsStateOf es f) (sym c.self.view_is) its in
    let ms = c.self.inside.facts.messages in
    let command = c.args.command.now in
    let keys : List ℕ = c.messages_of-keys.result.now in
    let of : (name correlation_key : List ℕ) → List MessagePublished → List ℕ = λ name correlation_key all. map (λ (m : MessagePublished). m.key) (filter (is_addressed name correlation_key) all) in
    let has : List ℕ → List ℕ → _ = λ id ks. list_any (λ k. option_map_or (λ (m : MessagePublished). bytes_eq m.id id) (find (λ m. m.key == k) ms) false) ks in
    let are : keys ≡ of command.name command.correlation_key ms = c.messages_of-keys.ensures es its
    ∙ (ap (λ (name : List ℕ). of name c.as_str-2.result.now (buffered es)) c.as_str.ensures ∙ (ap (λ (key : List ℕ). of command.name key (buffered es)) c.as_str-2.ensures ∙ ap (of command.name command.correlation_key) is.messages)) in
    c.has_id.ensures ∙ (ap (λ (id : List ℕ). has id keys) c.as_str-3.ensures ∙ (ap (has command.id) are ∙ (same_there command ms c.self.invariant.ascend ∙ ap (list_any (is_same command)) (sym is.messages))))
