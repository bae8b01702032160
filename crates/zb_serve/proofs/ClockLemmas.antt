-- The clocks as a run begins.
use Rattle.std.proofs.Common.{◌≡◌, ℕ, [], Bool, IsTrue, is_some, Option, Some, refl, sym, ap, ◌∙◌, subst, arith}
use Rattle.zb_words.specs.declared.plan.ClockKind.{ClockKind}
use Rattle.zb_words.specs.declared.plan.ClockKind.TheVariants as kinds
use Rattle.zb_session.specs.Serving.{clocks_of, dial_of, AreAt}
use Rattle.zb_serve.specs.Setting.{hours_of}
use Rattle.zb_serve.specs.Running.{is_by_hand}

-- nothing was read yet
first_kind : (kind : ClockKind) (tells : Bool) (upcoming : ℕ → ℕ) → AreAt (hours_of kind tells upcoming) [] (clocks_of (dial_of (is_by_hand kind)) tells upcoming)
first_kind kinds.Manual tells upcoming = refl
first_kind kinds.Real tells upcoming = (refl, refl, λ k. ap upcoming (omega arith))

pub at_first : (kind : ClockKind) (tells : Bool) (upcoming : ℕ → ℕ) (dial : Option ℕ) (by_hand : Bool) → dial ≡ dial_of by_hand → by_hand ≡ is_by_hand kind → AreAt (hours_of kind tells upcoming) [] (clocks_of dial tells upcoming)
at_first kind tells upcoming dial by_hand is as_told = subst (λ (d : Option ℕ). AreAt (hours_of kind tells upcoming) [] (clocks_of d tells upcoming)) (sym (is ∙ ap dial_of as_told)) (first_kind kind tells upcoming)

-- a run that goes by the clock that is moved by hand has one
pub by_hand_is : (kind : ClockKind) (dial : Option ℕ) (by_hand : Bool) → dial ≡ dial_of by_hand → by_hand ≡ is_by_hand kind → kind ≡ kinds.Manual → IsTrue (is_some dial)
by_hand_is kind dial by_hand is as_told manual =
    let stands : dial ≡ Some 0 = is ∙ ap dial_of (as_told ∙ ap is_by_hand manual) in
    rw stands refl
