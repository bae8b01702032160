-- Laws of what was found of a log: so far its reading begins at the start, so one log goes on from there.
use Rattle.std.proofs.Common.{◌≡◌, ℕ, List, [], ◌∷◌, ◌++◌, length, Bool, refl, sym, ap, ◌∙◌, subst, arith}
use Rattle.std.proofs.lemmas.List.Sums.{sum_by-cons}
use Rattle.zb_model.specs.declared.record.Batch.{Batch}
use Rattle.zb_store.specs.Log.{extent}
use Rattle.zb_partition.specs.Log.{bodies_of, frame_size, length_behind}
use Rattle.zb_partition.specs.Ground.{Found, IsGroundAfter, IsLogOn, IsFoundIn}

-- no batch lies before the start
none_before : (before : List Batch) → length before ≡ 0 → before ≡ []
none_before [] none = refl
none_before (batch ∷ before) none = absurd (omega (arith, none))

module _ (p : ℕ) (tells : Bool) (file : List ℕ) (found : Found) (is : IsFoundIn p tells file found) where
  -- the batches that were found are a log that goes on
  pub log_found : IsLogOn found found.tail
  log_found = ([], refl, subst (λ ground. IsGroundAfter [] ground) (sym is.ground) refl)

  -- and there is no other
  pub only_log : (log : List Batch) → IsLogOn found log → log ≡ found.tail
  only_log log on = on.1 ∙ ap (λ (front : List Batch). front ++ found.tail) (none_before on.0 (on.2 ∙ ap (λ ground. ground.frames) is.ground))

-- how long a log is, by its frames
pub extent_is : (log : List Batch) → extent (bodies_of log) ≡ length_behind 1 log
extent_is [] = refl
extent_is (batch ∷ log) = omega (arith, extent_is log, sum_by-cons frame_size batch log)
