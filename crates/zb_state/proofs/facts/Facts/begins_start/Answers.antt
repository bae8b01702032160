use Rattle.std.proofs.Common.{ℕ, List, sym, ap, ◌∙◌}
use Rattle.zb_process.specs.declared.model.Model.{Model}
use Rattle.zb_tokens.specs.Board.{Board, model_under}
use Rattle.zb_rules.specs.Starts.{may_start}
use Rattle.zb_state.proofs.StarterLemmas.{start_known, start_of_none}
use Rattle.zb_state.proofs.facts.Facts.begins_start.Goals as goal

pub returns-in-Some-model : goal.returns-in-Some-model
returns-in-Some-model c = λ es is.
    let message = c.in-Some.message.now in
    let graph = c.in-Some-model.graph.now in
    let model = c.in-Some-model.ensures ∙ ap (λ (b : Board). model_under b c.args.start.now.definition) c.board.ensures in
    c.may_start.ensures es is
    ∙ (ap (λ (process : List ℕ). may_start message process es) c.as_str.ensures
    ∙ (ap (λ (m : Model). may_start message m.process es) c.model-in-Some-model.ensures ∙ sym (start_known es c.args.self.now is c.args.start.now message graph c.in-Some.ensures.message model)))

pub returns-in-None : goal.returns-in-None
returns-in-None c = λ es is.
    sym (start_of_none es c.args.self.now is c.args.start.now c.in-Some.message.now c.in-Some.ensures.message (c.in-None.ensures ∙ ap (λ (b : Board). model_under b c.args.start.now.definition) c.board.ensures))
