-- What was taken from a source.
use Rattle.std.specs.Prelude.{◌≡◌, ◌+◌, List, ℕ, ◌++◌, length, Bool, IsTrue}
use Rattle.zb_outside.specs.Stream.{SourceView}

-- between these two views the source gave these bytes
pub record TakesBytes (tells : Bool) (old new : SourceView) (bytes : List ℕ) : Type 0 where
  pub given : new.given ≡ old.given + length bytes
  pub left : IsTrue tells → old.left ≡ bytes ++ new.left
