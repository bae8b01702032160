-- Laws of what Kinds.antt defines: layouts of values of several kinds. Such a layout holds its law, so these stand beside the definitions.
use Rattle.std.proofs.Common.{◌≡◌, ℕ, Some, List, ◌∷◌, ◌++◌, ◌∙◌, refl}
use Rattle.zb_format.specs.Layout.{Layout}
use Rattle.zb_format.specs.Reading.{made_at, tagged_at}
use Rattle.zb_format.specs.Kinds.{Kinds}

-- a value of the kind with this byte is read back
pub again : {A B : Type 0} (kinds : Kinds B) (n : ℕ) (make : A → B) (parts : Layout A) (a : A) (rest : List ℕ) → ((bytes : List ℕ) → kinds.behind n bytes ≡ made_at make parts.reading bytes) → parts.fits a → tagged_at kinds.behind ((n ∷ parts.spelling a) ++ rest) ≡ Some (make a, rest)
again kinds n make parts a rest found fits = found (parts.spelling a ++ rest) ∙ rw (parts.law.again a rest fits) refl
