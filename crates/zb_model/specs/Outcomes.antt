-- The kinds of outcomes of a command.
use Rattle.zb_format.specs.Kinds.{Kinds, ToldValue, no_kind, one_kind, told_of_kind}
use Rattle.zb_format.specs.Layout.{counted}
use Rattle.zb_model.specs.Layouts.{rejection, event}
use Rattle.zb_model.specs.declared.record.Outcome.{Outcome}
use Rattle.zb_model.specs.declared.record.Outcome.TheVariants as outcomes

-- what becomes of a command: its rejection, or its events
abbrev pub outcome_kinds : Kinds Outcome
outcome_kinds = one_kind 0 outcomes.Rejected rejection (one_kind 1 outcomes.Accepted (counted event) no_kind)

-- each outcome as it is told
abbrev pub outcome_told : Outcome → ToldValue
outcome_told (outcomes.Rejected r) = told_of_kind 0 rejection r
outcome_told (outcomes.Accepted es) = told_of_kind 1 (counted event) es
