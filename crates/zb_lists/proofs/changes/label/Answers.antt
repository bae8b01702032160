use Rattle.std.proofs.Common.{ℕ, ◌==◌, ◌&&◌, List, Option, true, if◌then◌else◌, ap, ◌∙◌}
use Rattle.std.proofs.lemmas.Result.{on_ok_weaker}
use Rattle.zb_line.specs.Labels.{keys_labelled}
use Rattle.zb_lists.specs.Listed.{has_key, is_label, is_labelled}
use Rattle.zb_lists.proofs.MemberLemmas.{label_joined}
use Rattle.zb_lists.proofs.changes.label.Goals as goal

pub returns-in-Some : goal.returns-in-Some
returns-in-Some g c =
    let old = c.args.labels.now in
    on_ok_weaker c.join.result (λ is. λ a b k. ap (has_key k) (is a b) ∙ (label_joined a b k c.in-Some.first.now c.in-Some.second.now (keys_labelled old a b) c.args.key
    ∙ ap (λ (l : Option (List ℕ × List ℕ)). if is_label a b l && (c.args.key == k) then true else is_labelled old a b k) c.in-Some.ensures)) c.join.ensures

pub returns-in-None : goal.returns-in-None
returns-in-None g c = λ a b k. ap (λ (l : Option (List ℕ × List ℕ)). if is_label a b l && (c.args.key == k) then true else is_labelled c.args.labels.now a b k) c.in-None.ensures
