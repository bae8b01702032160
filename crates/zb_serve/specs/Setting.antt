-- What a run goes by.
use Rattle.std.specs.Prelude.{ℕ, Bool}
use Rattle.zb_words.specs.declared.plan.ClockKind.{ClockKind}
use Rattle.zb_words.specs.declared.plan.ClockKind.TheVariants as kinds
use Rattle.zb_words.specs.declared.plan.ServePlan.{ServePlan}
use Rattle.zb_session.specs.Hours.{Hours, manual, real}

-- what a run goes by: its clock, how many bytes a log may have, and how many units of work are done
-- behind a request
pub record RunSetting : Type 0 where
  pub hours : Hours
  pub limit : ℕ
  pub units : ℕ

-- the clock of a run, by its kind and by what it is to read
abbrev pub hours_of : ClockKind → Bool → (ℕ → ℕ) → Hours
hours_of kinds.Manual tells upcoming = manual
hours_of kinds.Real tells upcoming = real tells upcoming

-- what a run goes by under a plan, with a real clock at hand that may tell what it is to read
abbrev pub setting_of : ServePlan → Bool → (ℕ → ℕ) → RunSetting
setting_of plan tells upcoming =
    record { hours = hours_of plan.clock tells upcoming; limit = plan.limit; units = plan.units }
