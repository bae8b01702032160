use Rattle.std.proofs.Common.{Some, cond, ap, ◌∙◌}
use Rattle.std.specs.Str.{bytes_eq}
use Rattle.std.proofs.lemmas.Map.Text.{btree_map_updates_str}
use Rattle.zb_check.specs.Notes.{noted}
use Rattle.zb_check.proofs.notes.Notes.put.Goals as goal

pub returns : goal.returns
unfolding noted
returns g c = λ q.
    btree_map_updates_str c.as_str.result.now c.args.self.now.values c.insert.new.self _ c.in_ok-insert.ensures.updates q
    ∙ ap (λ k. cond (bytes_eq k q) (Some c.args.value) (noted c.args.self.now q)) c.as_str.ensures
