-- The clocks behind one line more.
use Rattle.std.proofs.Common.{◌≡◌, ◌≤◌, ◌+◌, min, ℕ, List, [], ◌∷◌, ◌++◌, Bool, cond, IsTrue, Option, Some, None, Result, Ok, Err, is_some, is_ok, sym, ap, ◌∙◌, subst, arith}
use Rattle.std.proofs.lemmas.List.Sums.{sum_by_push}
use Rattle.zb_base.specs.Moment.{last_moment}
use Rattle.zb_wire.specs.declared.request.Request.{Request}
use Rattle.zb_wire.specs.declared.request.LineFault.{LineFault}
use Rattle.zb_wire.specs.Request.{request_of}
use Rattle.zb_session.specs.Hours.{Hours, manual, real, is_manual, given_of, moved_by, clock_after, requests_in, IsReadingOf}
use Rattle.zb_session.specs.Serving.{Clocks, clocks_of, AreAt}

-- there is a clock that is moved by hand where the run goes by it
pub kind_at : (hours : Hours) (found : List (Result Request LineFault)) (clocks : Clocks) → AreAt hours found clocks → is_some clocks.dial ≡ is_manual hours
kind_at manual found clocks at = ap is_some at
kind_at (real tells upcoming) found clocks at = ap is_some at.0

-- what a line was found to be
pub found_at : (hours : Hours) (found : List (Result Request LineFault)) (clocks : Clocks) (partitions told number : ℕ) (by_hand : Bool) (line shown : List ℕ) (is_found : Result Request LineFault) → AreAt hours found clocks
    → told ≡ partitions → by_hand ≡ is_some clocks.dial → request_of (given_of hours partitions number) shown ≡ request_of (given_of hours partitions number) line
    → request_of (record { number = number; partitions = told; manual = by_hand }) shown ≡ is_found → request_of (given_of hours partitions number) line ≡ is_found
found_at hours found clocks partitions told number by_hand line shown is_found at many is same was =
    sym same
    ∙ ap (λ (p : ℕ). request_of (record { number = number; partitions = p; manual = is_manual hours }) shown) (sym many)
    ∙ ap (λ (b : Bool). request_of (record { number = number; partitions = told; manual = b }) shown) (sym (is ∙ kind_at hours found clocks at)) ∙ was

-- a line moves the clock on
pub moved : (found : List (Result Request LineFault)) (last : Result Request LineFault) → clock_after (found ++ last ∷ []) ≡ min (clock_after found + moved_by last) last_moment
moved found last = omega (arith, sum_by_push moved_by found last)

-- a line is one more request, or none
requests_more : (found : List (Result Request LineFault)) (last : Result Request LineFault) → requests_in (found ++ last ∷ []) ≡ requests_in found + cond (is_ok last) 1 0
requests_more found last = sum_by_push (λ (line : Result Request LineFault). cond (is_ok line) 1 0) found last

-- nothing but an advance moves it
pub unmoved : (dial : Option ℕ) (by : ℕ) → by ≡ 0 → (now : ℕ) → dial ≡ Some now → now ≤ last_moment → dial ≡ Some (min (now + by) last_moment)
unmoved dial by none now is within =
    let same : now ≡ min (now + by) last_moment = omega (arith) in
    is ∙ ap Some same

module _ (hours : Hours) (found : List (Result Request LineFault)) (dial : Option ℕ) (tells : Bool) (upcoming : ℕ → ℕ) (at : AreAt hours found (clocks_of dial tells upcoming)) where
  -- what is read where the clocks stand so, once the one that is moved by hand has moved on, is the reading for what moves it on
  pub reading_at : (by : ℕ) (dial' : Option ℕ) (reading : ℕ) → ((now : ℕ) → dial ≡ Some now → now ≤ last_moment → dial' ≡ Some (min (now + by) last_moment)) → (dial ≡ None → dial' ≡ None)
      → ((now : ℕ) → dial' ≡ Some now → reading ≡ now) → (dial' ≡ None → reading ≤ last_moment) → (dial' ≡ None → IsTrue tells → reading ≡ min (upcoming 0) last_moment) → IsReadingOf hours found by reading
  reading_at by dial' reading some none shown within told = by_kind hours at
    where
      by_kind : (kind : Hours) → AreAt kind found (clocks_of dial tells upcoming) → IsReadingOf kind found by reading
      by_kind manual stands = shown (min (clock_after found + by) last_moment) (some (clock_after found) stands (omega arith))
      by_kind (real tells' from) stands = (
        within (none stands.0),
        λ t. told (none stands.0) (subst IsTrue stands.1 t) ∙ ap (λ (n : ℕ). min n last_moment) (stands.2 0 ∙ ap from (omega arith)),
      )

  -- the clocks behind a request, which moved the one that is moved by hand as far, or read the real one
  pub at_request : (request : Request) (dial' : Option ℕ) (upcoming' : ℕ → ℕ) → ((now : ℕ) → dial ≡ Some now → now ≤ last_moment → dial' ≡ Some (min (now + moved_by (Ok request)) last_moment)) → (dial ≡ None → dial' ≡ None)
      → (dial' ≡ None → (k : ℕ) → upcoming' k ≡ upcoming (k + 1)) → AreAt hours (found ++ Ok request ∷ []) (clocks_of dial' tells upcoming')
  at_request request dial' upcoming' some none onward = by_kind hours at
    where
      by_kind : (kind : Hours) → AreAt kind found (clocks_of dial tells upcoming) → AreAt kind (found ++ Ok request ∷ []) (clocks_of dial' tells upcoming')
      by_kind manual stands = some (clock_after found) stands (omega arith) ∙ ap Some (sym (moved found (Ok request)))
      by_kind (real tells' from) stands = (
        none stands.0,
        stands.1,
        λ k. onward (none stands.0) k ∙ (stands.2 (k + 1) ∙ ap from (omega (arith, requests_more found (Ok request)))),
      )

  -- a line that is no request leaves the clocks as they are
  pub at_fault : (fault : LineFault) → AreAt hours (found ++ Err fault ∷ []) (clocks_of dial tells upcoming)
  at_fault fault = by_kind hours at
    where
      by_kind : (kind : Hours) → AreAt kind found (clocks_of dial tells upcoming) → AreAt kind (found ++ Err fault ∷ []) (clocks_of dial tells upcoming)
      by_kind manual stands = stands ∙ ap Some (let same : clock_after found ≡ clock_after (found ++ Err fault ∷ []) = omega (arith, moved found (Err fault)) in same)
      by_kind (real tells' from) stands = (stands.0, stands.1, λ k. stands.2 k ∙ ap from (omega (arith, requests_more found (Err fault))))
