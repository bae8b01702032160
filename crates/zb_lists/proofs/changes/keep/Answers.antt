use Rattle.std.proofs.Common.{ℕ, ◌==◌, ◌&&◌, List, Option, true, if◌then◌else◌, sym, ap, ◌∙◌}
use Rattle.std.proofs.lemmas.Result.{on_ok_weaker}
use Rattle.zb_pairs.specs.Pairs.{is_number}
use Rattle.zb_lists.specs.Moments.{is_among}
use Rattle.zb_lists.proofs.MemberLemmas.{pair_inserted}
use Rattle.zb_lists.proofs.changes.keep.Goals as goal

pub returns-in-Some : goal.returns-in-Some
returns-in-Some c =
    let pairs = c.args.moments.now in
    on_ok_weaker c.add.result (λ is. λ n k. ap (λ (ps : List (ℕ × ℕ)). is_among ps n k) is ∙ (pair_inserted pairs c.in-Some.moment c.args.key n k
    ∙ ap (λ (m : Option ℕ). if is_number n m && (c.args.key == k) then true else is_among pairs n k) (sym c.in-Some.is))) c.add.ensures.ok
