use Rattle.std.proofs.Common.{◌≡◌, ◌++◌, ◌∷◌, [], ℕ, List, sym, ◌∙◌, ap, subst, arith}
use Rattle.zb_store.specs.Step.{LiesBehind}
use Rattle.zb_store.specs.Window.{IsPieceOf, HoldsFrame}
use Rattle.zb_store.specs.declared.step.Step.{Step}
use Rattle.zb_store.specs.Scan.{HasFound, body_found}
use Rattle.zb_store.proofs.ScanLemmas.{found_more}
use Rattle.zb_store.proofs.scan.Scan.advance.Goals as goal

pub returns-in-Next-clause-found : goal.returns-in-Next-clause-found
returns-in-Next-clause-found g c = λ told bodies has.
    let view = g.D.Disk.view in
    let old = c.args.self.now in
    let new = c.go_on.new.self in
    let file = (view old.disk).contents in
    let same : (view c.step.new.disk).contents ≡ file = c.step.ensures.reads.same told in
    let disk : (view new.disk).contents ≡ file = ap (λ d. (view d).contents) c.go_on.ensures.disk ∙ same in
    let piece = subst (λ w. IsPieceOf file w) (sym c.go_on.ensures.window) (subst (λ (f : List ℕ). IsPieceOf f c.step.new.self) same (c.step.ensures.piece told)) in
    let window = c.go_on.ensures.window in
    let place = ap (λ w. w.start) window in
    let held = subst (λ (s : Step). HoldsFrame old.gate c.step.new.self s) c.in-Next.is c.in_ok-step.ensures.holds in
    let behind = subst (λ (s : Step). LiesBehind old.gate old.window.end s) c.in-Next.is c.in_ok-step.ensures.behind in
    let more = found_more file old new bodies c.in_ok-step.field-0 c.in-Next.next has (c.in_ok-step.ensures.step told) c.in-Next.is piece (omega (arith, place, c.go_on.ensures.from)) (omega (arith, place, c.go_on.ensures.to)) (omega (arith, place, ap (λ w. w.filled) window, held.1)) behind.0 c.go_on.ensures.gate c.go_on.ensures.count in
    subst (λ (f : List ℕ). HasFound f new (bodies ++ body_found new ∷ [])) (sym disk) more
