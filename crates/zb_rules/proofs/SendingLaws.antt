-- A command sends a definition only where it makes it: what a deployment leads to is the definition, which sets out, and then what may follow.
use Rattle.std.proofs.Common.{◌≡◌, ◌⊎◌, ℕ, List, ◌++◌, Bool, true, false, IsTrue, is_some, refl, inl, inr, ap, sym, ◌∙◌, subst}
use Rattle.std.specs.List.{list_any}
use Rattle.zb_process.specs.declared.model.Model.{Model}
use Rattle.zb_model.specs.declared.record.Command.{Command}
use Rattle.zb_model.specs.declared.record.Command.TheVariants as commands
use Rattle.zb_model.specs.declared.record.Event.{Event}
use Rattle.zb_model.specs.declared.record.Event.TheVariants as events
use Rattle.zb_model.specs.declared.record.Outcome.{Outcome}
use Rattle.zb_views.specs.View.{events_in}
use Rattle.zb_views.specs.Distributions.{distribution_told}
use Rattle.zb_rules.specs.Deploy.{deployed}
use Rattle.zb_rules.specs.Kinds.{may_follow}
use Rattle.zb_rules.specs.Step.{IsAcceptance, IsOutcomeOf}
use Rattle.zb_rules.proofs.KindsLaws.{EachOf, step_kind, rest_follows, command_told}

-- an event by which a definition sets out for a partition
abbrev pub sends : Event → Bool
sends e = is_some (distribution_told e)

-- what a deployment at partition p of n leads to behind these events
pub record IsDeployment (p n : ℕ) (es made : List Event) : Type 0 where
  pub model : Model
  pub rest : List Event
  pub is : made ≡ deployed p n model es ++ rest
  pub follows : EachOf may_follow rest

-- none of these events sends a definition, or a deployment led to them
abbrev pub SendsWhatItMakes : (p n : ℕ) → List Event → List Event → Type 0
SendsWhatItMakes p n es made = (list_any sends made ≡ false) ⊎ IsDeployment p n es made

-- a command in whose step a definition sets out is a deployment
sender_of : (e : Event) (command : Command) → IsTrue (step_kind command e) → IsTrue (sends e) → (m : Model) × (command ≡ commands.DeploymentCreate m)
sender_of (events.CommandDistributionDistributing e) (commands.DeploymentCreate m) is sent = (m, refl)
sender_of (events.CommandDistributionDistributing e) command is sent = absurd (cc)
sender_of e command is sent = absurd (cc)

module _ (p n moment : ℕ) (es : List Event) where
  deployment_leads : (m : Model) (outcome : Outcome) → IsAcceptance p n moment es (commands.DeploymentCreate m) outcome → IsDeployment p n es (events_in outcome)
  deployment_leads m outcome a =
      let own : deployed p n m es ≡ a.own = (let is = a.are_own in cc) in
      record { model = m; rest = a.rest; is = ap events_in a.accepted ∙ ap (λ (l : List Event). l ++ a.rest) (sym own); follows = rest_follows p n moment es (commands.DeploymentCreate m) outcome a }

  -- what a command leads to sends no definition but one that it makes
  pub outcome_sends : (command : Command) (outcome : Outcome) → IsOutcomeOf p n moment es command outcome → SendsWhatItMakes p n es (events_in outcome)
  outcome_sends command outcome is = by_test (list_any sends (events_in outcome)) refl
    where
      by_test : (t : Bool) → list_any sends (events_in outcome) ≡ t → SendsWhatItMakes p n es (events_in outcome)
      by_test false none = inl none
      by_test true sent =
          let told = command_told p n moment es sends (λ c. (m : Model) × (c ≡ commands.DeploymentCreate m)) sender_of command outcome is sent in
          inr (deployment_leads told.0.0 outcome (subst (λ (c : Command). IsAcceptance p n moment es c outcome) told.0.1 told.2))
