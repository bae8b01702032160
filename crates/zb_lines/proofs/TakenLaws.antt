-- Laws of what Taken.antt defines: what was taken from a source.
use Rattle.std.specs.Prelude.{List, [], ℕ, ◌++◌, Bool}
use Rattle.std.proofs.Common.{arith, ◌∙◌, ap, refl}
use Rattle.std.proofs.lemmas.List.{length-append, append_assoc}
use Rattle.zb_outside.specs.Stream.{SourceView}
use Rattle.zb_lines.specs.Taken.{TakesBytes}

-- what a source gave in two turns it gave one after another
pub takes_on : (tells : Bool) (old mid new : SourceView) (first second : List ℕ) → TakesBytes tells old mid first → TakesBytes tells mid new second → TakesBytes tells old new (first ++ second)
takes_on tells old mid new first second a b = record {
  given = omega (arith, length-append first second);
  left = λ t. a.left t ∙ rw (append_assoc first second new.left) (ap (λ bytes. first ++ bytes) (b.left t));
}

-- a source that wasn't asked gave nothing
pub takes_nothing : (tells : Bool) (view : SourceView) → TakesBytes tells view view []
takes_nothing tells view = record { given = omega arith; left = λ t. refl }
