-- A partition says that it has a definition (own; the records as in Zeebe).
use Rattle.std.specs.Prelude.{ℕ, List, [], ◌∷◌, ◌++◌, codes, if◌then◌else◌, Option, Some, None}
use Rattle.std.specs.Fmt.{decimal}
use Rattle.zb_instance_records.specs.declared.deployment.CommandDistribution.{CommandDistribution}
use Rattle.zb_model.specs.declared.record.Event.{Event}
use Rattle.zb_model.specs.declared.record.Event.TheVariants as events
use Rattle.zb_model.specs.declared.record.Rejection.{Rejection}
use Rattle.zb_model.specs.declared.record.RejectionKind.TheVariants as kinds
use Rattle.zb_views.specs.Distributions.{is_distributed_to, is_distributed}
use Rattle.zb_rules.specs.Making.{Making, just, and_then}

-- what is told where the definition isn't on its way to the partition
abbrev pub no_distribution : (definition partition : ℕ) → List ℕ
no_distribution definition partition = codes "no distribution " ++ (decimal definition ++ (codes " to " ++ decimal partition))

-- why it isn't taken down: the definition isn't on its way there
abbrev pub reason_to_acknowledge : List Event → CommandDistribution → Option Rejection
reason_to_acknowledge before c = if is_distributed_to c.key c.partition before then None
    else Some (record { kind = kinds.NotFound; reason = no_distribution c.key c.partition })

-- the distribution of a definition ends where no partition is left
abbrev pub finished_if_last : ℕ → Making
finished_if_last definition before = if is_distributed definition before then [] else events.CommandDistributionFinished definition ∷ []

-- it is taken down that the partition has the definition, and where that was the last one the distribution ends
abbrev pub acknowledged : CommandDistribution → Making
acknowledged c = and_then (just (events.CommandDistributionAcknowledged c)) (finished_if_last c.key)
