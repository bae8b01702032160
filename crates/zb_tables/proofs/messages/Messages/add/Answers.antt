use Rattle.std.proofs.Common.{List, [], ◌∷◌, ◌++◌, ap, ◌∙◌}
use Rattle.std.proofs.lemmas.Result.{on_ok_weaker}
use Rattle.zb_exchange_records.specs.declared.message.MessagePublished.{MessagePublished}
use Rattle.zb_table.proofs.Growing.{with_last}
use Rattle.zb_pairs.proofs.FoundLemmas.{none_below}
use Rattle.zb_tables.proofs.MessageLemmas.{ascend_with}
use Rattle.zb_tables.proofs.messages.Messages.add.Goals as goal

pub add-requires : goal.add-requires
add-requires c = none_below (λ (m : MessagePublished). m.key) c.args.message.key c.self.inside.rows (rw c.self.view_is c.requires)

pub returns-clause-ok : goal.returns-clause-ok
returns-clause-ok c =
    on_ok_weaker c.add.result
    (λ is. is ∙ (with_last (λ (m : MessagePublished). m.key) c.args.message c.self.inside.rows (rw c.self.view_is c.requires) ∙ ap (λ (ms : List MessagePublished). ms ++ c.args.message ∷ []) c.self.view_is))
    c.add.ensures.ok

pub invariant_of-self : goal.invariant_of-self
invariant_of-self c = ascend_with c.self.inside.rows c.add.new.self c.args.message c.add.result c.self.invariant (rw c.self.view_is c.requires) c.add.ensures.ok c.add.ensures.err
