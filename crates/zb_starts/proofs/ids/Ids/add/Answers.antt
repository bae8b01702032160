use Rattle.std.proofs.Common.{ℕ, List, map, string_bytes, ap, ◌∙◌}
use Rattle.std.specs.BTreeSet.{insert_key}
use Rattle.zb_base.specs.Vars.{order_of}
use Rattle.zb_starts.proofs.TextLemmas.{bytes_inserted}
use Rattle.zb_starts.proofs.ids.Ids.add.Goals as goal

pub returns : goal.returns
returns c =
    ap (map string_bytes) c.in_ok-insert.ensures.keys
    ∙ (bytes_inserted c.self.inside.ids.keys c.in_ok-from_str.field-0
    ∙ (ap (insert_key order_of (map string_bytes c.self.inside.ids.keys)) c.in_ok-from_str.ensures.ok
    ∙ ap (λ (l : List (List ℕ)). insert_key order_of l c.args.id.now) c.self.view_is))
