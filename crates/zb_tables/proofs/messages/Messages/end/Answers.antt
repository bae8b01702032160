use Rattle.std.proofs.Common.{◌==◌, List, not, sym, subst}
use Rattle.zb_exchange_records.specs.declared.message.MessagePublished.{MessagePublished}
use Rattle.zb_table.specs.Rows.{Ascend}
use Rattle.zb_pairs.proofs.FoundLemmas.{ascend_kept, filter_all}
use Rattle.zb_tables.proofs.messages.Messages.end.Goals as goal

pub returns-in_default : goal.returns-in_default
returns-in_default c = rw c.in_default.is (sym (filter_all c.args.self.now))

pub invariant_of-self : goal.invariant_of-self
invariant_of-self c =
    subst (λ (ms : List MessagePublished). Ascend (λ m. m.key) 0 ms) (sym c.take.ensures.left)
    (ascend_kept (λ (m : MessagePublished). m.key) (λ (m : MessagePublished). not (m.key == c.in-Some.key)) 0 c.self.inside.rows c.self.invariant)
