use Rattle.std.proofs.Common.{◌≡◌, ◌-◌, ◌∙◌, ℕ, None, ap, sym, suc, subst, drop, arith}
use Rattle.std.specs.Option.{option_copied}
use Rattle.zb_views.specs.Told.{last_told}
use Rattle.zb_views.specs.Processes.{process_told}
use Rattle.zb_world.proofs.ToldLemmas.{told_last}
use Rattle.zb_world.proofs.packets.process_in.Goals as goal

pub returns-in-Some : goal.returns-in-Some
returns-in-Some c =
    let at = c.loop-place in
    let tell = process_told c.args.key in
    let here : suc (at.place - 1) ≡ at.place = omega arith in
    let none : last_told tell (drop (suc (at.place - 1)) c.args.events.now) ≡ None = subst (λ (k : ℕ). last_told tell (drop k c.args.events.now) ≡ None) (sym here) at.invariant in
    sym (told_last tell c.args.events.now (at.place - 1) c.index-events-place.result c.in-Some.made.now (omega arith) c.index-events-place.is none (sym c.process_told.ensures ∙ ap option_copied c.in-Some.is))
