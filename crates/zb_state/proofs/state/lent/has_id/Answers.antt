use Rattle.std.proofs.Common.{◌≡◌, ◌==◌, ◌||◌, ◌+◌, ◌∙◌, ℕ, Bool, true, false, drop, sym, ap, arith}
use Rattle.std.specs.List.{find, list_any}
use Rattle.std.specs.Option.{option_map_or}
use Rattle.std.specs.Str.{bytes_eq}
use Rattle.zb_exchange_records.specs.declared.message.MessagePublished.{MessagePublished}
use Rattle.zb_state.proofs.JobLemmas.{any_from}
use Rattle.zb_state.proofs.state.lent.has_id.Goals as goal

pub returns-then-has_id : goal.returns-then-has_id
returns-then-has_id c =
    let keys = c.args.keys.now in
    let at = c.loop-key in
    let has : ℕ → Bool = λ k. option_map_or (λ (m : MessagePublished). bytes_eq m.id c.args.id.now) (find (λ m. m.key == k) c.args.messages.now) false in
    let here : has c.key-item.result ≡ true = sym c.has_id.ensures ∙ c.if-has_id.true in
    sym (sym at.invariant ∙ (any_from has keys at.key-index c.key-item.result (omega arith) c.key-item.is ∙ ap (λ (t : Bool). t || list_any has (drop (at.key-index + 1) keys)) here))

pub loop-key-preserved : goal.loop-key-preserved
loop-key-preserved c =
    let keys = c.args.keys.now in
    let at = c.loop-key in
    let has : ℕ → Bool = λ k. option_map_or (λ (m : MessagePublished). bytes_eq m.id c.args.id.now) (find (λ m. m.key == k) c.args.messages.now) false in
    let here : has c.key-item.result ≡ false = sym c.has_id.ensures ∙ c.if-has_id.false in
    sym (any_from has keys at.key-index c.key-item.result (omega arith) c.key-item.is ∙ ap (λ (t : Bool). t || list_any has (drop (at.key-index + 1) keys)) here) ∙ at.invariant
