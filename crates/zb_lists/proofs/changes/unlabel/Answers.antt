use Rattle.std.proofs.Common.{ℕ, ◌==◌, ◌&&◌, List, Option, false, if◌then◌else◌, ap, ◌∙◌}
use Rattle.zb_lists.specs.Listed.{has_key, is_label, is_labelled}
use Rattle.zb_lists.proofs.MemberLemmas.{label_left}
use Rattle.zb_lists.proofs.changes.unlabel.Goals as goal

pub returns-in-Some : goal.returns-in-Some
returns-in-Some g c = λ a b k.
    let old = c.args.labels.now in
    ap (has_key k) (c.leave.ensures.left a b) ∙ (label_left a b k c.in-Some.first.now c.in-Some.second.now old c.args.key c.leave.ensures.order
    ∙ ap (λ (l : Option (List ℕ × List ℕ)). if is_label a b l && (c.args.key == k) then false else is_labelled old a b k) c.in-Some.ensures)

pub returns-in_default : goal.returns-in_default
returns-in_default g c = λ a b k. ap (λ (l : Option (List ℕ × List ℕ)). if is_label a b l && (c.args.key == k) then false else is_labelled c.args.labels.now a b k) c.in_default.ensures
