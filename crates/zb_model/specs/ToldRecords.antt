-- Commands and events as they are told in their tables.
use Rattle.std.proofs.Common.{ℕ}
use Rattle.zb_format.specs.Kinds.{ToldValue, told_of_kind}
use Rattle.zb_format.specs.Layout.{Layout}

-- a command or an event as it is told: its spelling, and of what that is: the number of its kind, what makes one of that kind, and the fields that it is made of, in their layout
pub record ToldRecord (B : Type 0) : Type 1 where
  pub value : ToldValue
  pub Fields : Type 0
  pub number : ℕ
  pub make : Fields → B
  pub layout : Layout Fields
  pub fields : Fields

-- one of the kind with this number, made of these fields
abbrev pub record_told : {A B : Type 0} → ℕ → (A → B) → Layout A → A → ToldRecord B
record_told {A = A} number make layout fields = record { value = told_of_kind number layout fields; Fields = A; number = number; make = make; layout = layout; fields = fields }
