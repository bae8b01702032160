use Rattle.std.proofs.Common.{ℕ, List, ◌||◌, map, is_some, bytes_eq, sym, ap, ◌∙◌, Bor}
use Rattle.zb_faults.specs.Faults.{has_id}
use Rattle.zb_check.specs.Notes.{noted}
use Rattle.zb_check.proofs.LookLemmas.{some_put}
use Rattle.zb_check.proofs.BehindLemmas.{found_here, found_later, one_more, read_mapped, within_mapped}
use Rattle.zb_check.proofs.naming.first_used.Goals as goal

pub returns-then-is_some : goal.returns-then-is_some
returns-then-is_some c =
    let now = λ (id : Bor (List ℕ)). id.now in
    let ids = map now c.args.ids.now in
    let i = c.loop-id.id-index in
    let id = c.id-item.result.now in
    let within = within_mapped now c.args.ids.now i c.loop-id-test.true in
    let is = read_mapped now c.args.ids.now i c.id-item.result c.loop-id-test.true c.id-item.is in
    let tested = c.is_some.ensures ∙ (ap is_some c.get.ensures ∙ c.loop-id.invariant.0 id) in
    sym (found_here has_id ids i id c.is_some.result within is tested c.if-is_some.true) ∙ c.loop-id.invariant.1

pub loop-id-preserved : goal.loop-id-preserved
loop-id-preserved c =
    let now = λ (id : Bor (List ℕ)). id.now in
    let ids = map now c.args.ids.now in
    let i = c.loop-id.id-index in
    let id = c.id-item.result.now in
    let within = within_mapped now c.args.ids.now i c.loop-id-test.true in
    let is = read_mapped now c.args.ids.now i c.id-item.result c.loop-id-test.true c.id-item.is in
    let tested = c.is_some.ensures ∙ (ap is_some c.get.ensures ∙ c.loop-id.invariant.0 id) in (
      λ q. ap is_some (c.in_ok-put.ensures q)
          ∙ (some_put (bytes_eq id q) _ (noted c.loop-id.used q)
          ∙ (ap (λ t. bytes_eq id q || t) (c.loop-id.invariant.0 q)
          ∙ sym (ap (λ b. has_id b q) (one_more has_id ids i id c.is_some.result within is tested)))),
      sym (found_later has_id ids i id c.is_some.result within is tested c.if-is_some.false) ∙ c.loop-id.invariant.1,
    )
