-- Whether units of work are done behind a session that ended so.
use Rattle.std.proofs.Common.{◌≡◌, List, Bool, IsTrue, IsFalse, Option, None, refl, sym, ◌∙◌}
use Rattle.std.proofs.lemmas.Bool.{false≢true}
use Rattle.zb_world.specs.declared.entry.Entry.{Entry}
use Rattle.zb_session.specs.Session.{CutsOff, Facts, LeavesDesk}
use Rattle.zb_session.specs.declared.session.End.{End}
use Rattle.zb_session.specs.declared.session.End.TheVariants as endings
use Rattle.zb_serve.specs.Running.{is_cut}

cut_off : (end : End) → IsTrue (is_cut end) → CutsOff end
cut_off endings.Memory is = tt
cut_off endings.Stopped is = tt
cut_off endings.Done is = absurd (false≢true is)
cut_off endings.SourceFault is = absurd (false≢true is)
cut_off endings.SinkFault is = absurd (false≢true is)
cut_off endings.InputFull is = absurd (false≢true is)

pub not_cut : (end : End) → IsFalse (is_cut end) → CutsOff end → ⊥
not_cut endings.Memory uncut cuts = absurd (false≢true (sym uncut))
not_cut endings.Stopped uncut cuts = absurd (false≢true (sym uncut))
not_cut endings.Done uncut cuts = cuts
not_cut endings.SourceFault uncut cuts = cuts
not_cut endings.SinkFault uncut cuts = cuts
not_cut endings.InputFull uncut cuts = cuts

pub uncut_is : (end : End) → (CutsOff end → ⊥) → IsFalse (is_cut end)
uncut_is endings.Memory uncut = absurd (uncut tt)
uncut_is endings.Stopped uncut = absurd (uncut tt)
uncut_is endings.Done uncut = refl
uncut_is endings.SourceFault uncut = refl
uncut_is endings.SinkFault uncut = refl
uncut_is endings.InputFull uncut = refl

pub cuts_where : (end : End) (test : Bool) → test ≡ is_cut end → IsTrue test → CutsOff end
cuts_where end test is t = cut_off end (sym is ∙ t)

pub uncut_where : (end : End) (test : Bool) → test ≡ is_cut end → IsFalse test → CutsOff end → ⊥
uncut_where end test is uncut = not_cut end (sym is ∙ uncut)

-- a session that wasn't cut off left all entries in the logs
whole_left : (facts : Facts) (entries : List Entry) (unlogged : Option Entry) (end : End) → (CutsOff end → ⊥) → LeavesDesk facts entries unlogged end → facts.has entries × (unlogged ≡ None)
whole_left facts entries unlogged endings.Memory uncut left = absurd (uncut tt)
whole_left facts entries unlogged endings.Stopped uncut left = absurd (uncut tt)
whole_left facts entries unlogged endings.Done uncut left = left
whole_left facts entries unlogged endings.SourceFault uncut left = left
whole_left facts entries unlogged endings.SinkFault uncut left = left
whole_left facts entries unlogged endings.InputFull uncut left = left

pub left_has : (facts : Facts) (entries : List Entry) (unlogged : Option Entry) (end : End) (test : Bool) → test ≡ is_cut end → IsFalse test → LeavesDesk facts entries unlogged end → facts.has entries × (unlogged ≡ None)
left_has facts entries unlogged end test is uncut left = whole_left facts entries unlogged end (uncut_where end test is uncut) left
