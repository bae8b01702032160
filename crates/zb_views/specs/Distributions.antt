-- Distributions: queries over the events of a log.
use Rattle.std.specs.Prelude.{ℕ, ◌==◌, List, Bool, false, ◌&&◌, Option, Some, None}
use Rattle.std.specs.List.{list_any}
use Rattle.zb_model.specs.declared.record.Event.{Event}
use Rattle.zb_model.specs.declared.record.Event.TheVariants as events
use Rattle.zb_views.specs.Standing.{Sort, standing}
use Rattle.zb_views.specs.declared.distribution.Distribution.{Distribution}

-- the distribution of this definition to this partition
abbrev pub distribution_to : (definition partition : ℕ) → Distribution
distribution_to definition partition = record { definition = definition; partition = partition }

-- two distributions are one: of the same definition, to the same partition
abbrev pub is_that : ℕ → ℕ → Distribution → Bool
is_that definition partition d = (d.definition == definition) && (d.partition == partition)

-- the distribution that an event begins (Zeebe, the records)
abbrev pub distribution_told : Event → Option Distribution
distribution_told (events.CommandDistributionDistributing e) = Some (distribution_to e.key e.partition)
distribution_told _ = None

-- an event ends a distribution: the partition has acknowledged it (Zeebe, the records)
abbrev pub ends_distribution : Distribution → Event → Bool
ends_distribution d (events.CommandDistributionAcknowledged e) = is_that e.key e.partition d
ends_distribution d _ = false

-- distributions are begun and ended, and stay as they were (Zeebe, the records)
abbrev pub distribution_sort : Sort Distribution
distribution_sort = record {
  told = λ before e. distribution_told e;
  ends = λ before e d. ends_distribution d e;
  says = λ before e d. d;
}

-- the distributions that are under way: those that no event after has ended, in the order in which they began (Zeebe)
abbrev pub distributions : List Event → List Distribution
distributions es = standing distribution_sort es

-- this definition is on its way to this partition
abbrev pub is_distributed_to : (definition partition : ℕ) → List Event → Bool
is_distributed_to definition partition es = list_any (is_that definition partition) (distributions es)

-- this definition is on its way to some partition
abbrev pub is_distributed : ℕ → List Event → Bool
is_distributed definition es = list_any (λ d. d.definition == definition) (distributions es)
