-- Layouts of values of several kinds: a byte for the kind, and then the parts of that kind.
use Rattle.std.proofs.Common.{◌≡◌, ℕ, Some, List, ◌∷◌, ◌++◌}
use Rattle.zb_format.specs.FormatLaws.{IsTagged, no_arm_tagged, arm_tagged, tagged_format}
use Rattle.zb_format.specs.Layout.{Layout}
use Rattle.zb_format.specs.Reading.{Reader, tagged_at, arm, no_arm}

-- kinds of values, each by its byte: how what stands behind the byte is read; what says that a spelling is of these kinds, and the law of one that is
pub record Kinds (B : Type 0) : Type 1 where
  pub behind : ℕ → Reader B
  pub AreOf : (B → List ℕ) → (B → Type 0) → Type 0
  pub law : (spelling : B → List ℕ) (fits : B → Type 0) → AreOf spelling fits → IsTagged spelling fits behind

-- no kind
abbrev pub no_kind : {B : Type 0} → Kinds B
no_kind = record { behind = no_arm; AreOf = λ spelling fits. Unit {0}; law = λ spelling fits are. no_arm_tagged }

-- behind this byte, what is made of these parts; behind any other, what the others say
abbrev pub one_kind : {A B : Type 0} → ℕ → (A → B) → Layout A → Kinds B → Kinds B
one_kind n make parts others = record {
  behind = arm n make parts.reading others.behind;
  AreOf = λ spelling fits. ((a : _) → spelling (make a) ≡ n ∷ parts.spelling a) × (((a : _) → parts.fits a → fits (make a)) × others.AreOf spelling fits);
  law = λ spelling fits are. arm_tagged n make parts.law are.0 are.1.0 (others.law spelling fits are.1.1);
}

-- a value as it is told: its spelling, and what has one
pub record ToldValue : Type 1 where
  pub spelled : List ℕ
  pub fit : Type 0

-- a value of the kind with this byte, of these parts
abbrev pub told_of_kind : {A : Type 0} → ℕ → Layout A → A → ToldValue
told_of_kind n parts a = record { spelled = n ∷ parts.spelling a; fit = parts.fits a }

-- each value is read back by these kinds
abbrev pub AreReadBack : {B : Type 0} → Kinds B → (B → ToldValue) → Type 0
AreReadBack {B = B} kinds tell = (x : B) (rest : List ℕ) → (tell x).fit → tagged_at kinds.behind ((tell x).spelled ++ rest) ≡ Some (x, rest)

-- the layout of values of these kinds, each as it is told
abbrev pub of_kinds : {B : Type 0} (kinds : Kinds B) (tell : B → ToldValue) → kinds.AreOf (λ x. (tell x).spelled) (λ x. (tell x).fit) → AreReadBack kinds tell → Layout B
of_kinds kinds tell are back = record {
  spelling = λ x. (tell x).spelled;
  fits = λ x. (tell x).fit;
  reading = tagged_at kinds.behind;
  law = tagged_format (kinds.law (λ x. (tell x).spelled) (λ x. (tell x).fit) are) back;
}
