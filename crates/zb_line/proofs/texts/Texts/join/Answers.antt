use Rattle.std.proofs.Common.{ℕ, List, [], Option, Some, ◌≡◌, ap, ◌∙◌, rules}
use Rattle.std.specs.Option.{option_map_or}
use Rattle.std.specs.BTreeSet.{insert_key}
use Rattle.std.specs.Ordering.{nat_cmp}
use Rattle.std.proofs.lemmas.Map.Text.{hash_map_updates_text}
use Rattle.std.proofs.lemmas.Result.{on_ok_weaker}
use Rattle.zb_line.proofs.LevelLemmas.{level_changed}
use Rattle.zb_line.proofs.texts.Texts.join.Goals as goal

pub returns-in-Some : goal.returns-in-Some
returns-in-Some c =
    let change = λ (keys : List ℕ). insert_key nat_cmp keys c.args.key in
    let new = c.add.new.self in
    let lent = c.get_mut.follows.lender new in
    let writes = hash_map_updates_text c.args.name.now c.args.self.now.texts lent (Some new) ((c.get_mut.follows.holds new).3 (search rules)) in
    let before = ap (λ (found : Option (List ℕ)). change (option_map_or (λ line. line) found [])) c.in-Some.ensures.value in
    on_ok_weaker c.add.result (λ (added : new ≡ change c.in-Some.keys.now). level_changed (λ line. line) c.args.name.now c.args.self.now.texts change lent (Some new) writes (added ∙ before)) c.add.ensures.ok
