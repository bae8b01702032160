use Rattle.std.proofs.Common.{ℕ, List, Some, false, is_some, bytes_eq, ◌||◌, ap, ◌∙◌, sym}
use Rattle.std.specs.Option.{option_map_or}
use Rattle.std.specs.BTreeMap as tree
use Rattle.std.specs.Map.{update}
use Rattle.std.specs.Ordering.{nat_cmp}
use Rattle.std.specs.Cmp.Lexicographic.{slice_cmp}
use Rattle.std.proofs.lemmas.Map.Text.{btree_map_updates_str}
use Rattle.zb_check.specs.declared.notes.Notes.{Notes}
use Rattle.zb_check.specs.Notes.{noted}
use Rattle.zb_check.specs.Pairs.{notes_at}
use Rattle.zb_check.proofs.LookLemmas.{some_put}
use Rattle.zb_check.proofs.PairLemmas.{noted_under}
use Rattle.zb_check.proofs.pairs.Pairs.begin.Goals as goal

pub returns : goal.returns
returns c = λ p q.
    let has = λ (n : Notes Unit) (s : List ℕ). is_some (noted n s) in
    let old = notes_at c.args.self.now in
    let new = λ (first : List ℕ). tree.get_by (λ k. slice_cmp nat_cmp first k.now) c.insert.new.self in
    let updates = btree_map_updates_str c.as_str.result.now c.args.self.now.seconds c.insert.new.self (Some c.put.new.self) c.in_ok-insert.ensures.updates p ∙ ap (λ n. update bytes_eq old n (Some c.put.new.self) p) c.as_str.ensures in
    let added =
    ap is_some (c.in_ok-put.ensures q)
    ∙ (some_put (bytes_eq c.args.second.now q) _ (noted c.empty-seconds.result q)
    ∙ (ap (λ o. bytes_eq c.args.second.now q || is_some o) (c.empty-seconds.ensures q) ∙ sym (ap (λ o. bytes_eq c.args.second.now q || option_map_or (λ n. has n q) o false) c.requires))) in
    noted_under has old new c.args.first.now c.args.second.now p q c.put.new.self updates added
