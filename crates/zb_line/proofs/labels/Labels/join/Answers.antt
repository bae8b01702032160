use Rattle.std.proofs.Common.{◌≡◌, ℕ, List, [], Some, if◌then◌else◌, ap, ◌∙◌, bytes_eq, arith}
use Rattle.std.specs.HashMap.{get_by_text}
use Rattle.std.specs.Option.{option_map_or}
use Rattle.std.specs.BTreeSet.{insert_key}
use Rattle.std.specs.Ordering.{nat_cmp}
use Rattle.std.proofs.lemmas.Map.Text.{text_keys}
use Rattle.std.proofs.lemmas.Result.{on_ok_weaker}
use Rattle.zb_line.specs.Labels.{keys_by_first, keys_labelled}
use Rattle.zb_line.proofs.LevelLemmas.{level_read, under_both}
use Rattle.zb_line.proofs.labels.Labels.join.Goals as goal

pub returns : goal.returns
returns c =
    let old = c.args.self.now.seconds in
    let firsts = c.join.new.self in
    let text = c.args.second.now in
    let change = λ (a keys : List ℕ). if bytes_eq c.args.first.now a then insert_key nat_cmp keys c.args.key else keys in
    on_ok_weaker c.join.result (λ (joined : (a : List ℕ) → keys_by_first firsts a ≡ change a (keys_by_first c.or_insert-firsts.result.now a)) a b.
    let before : keys_by_first c.or_insert-firsts.result.now a ≡ option_map_or (λ f. keys_by_first f a) (get_by_text old text) [] = grind (arith, text_keys, c.or_insert-firsts.ensures.value, c.empty.ensures a) in
    rw (← under_both (bytes_eq c.args.first.now a) (bytes_eq text b) (insert_key nat_cmp (keys_labelled c.args.self.now a b) c.args.key) (keys_labelled c.args.self.now a b))
    (level_read (λ f. keys_by_first f a) text old (change a) (Some firsts) b _ (joined a ∙ ap (change a) before) (grind (arith, text_keys)))) c.join.ensures
