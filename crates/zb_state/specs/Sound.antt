-- What is known of the model that an event deploys.
use Rattle.std.specs.Prelude.{IsTrue}
use Rattle.zb_faults.specs.Faults.{is_well_formed}
use Rattle.zb_model.specs.declared.record.Event.{Event}
use Rattle.zb_model.specs.declared.record.Event.TheVariants as events

-- the model that an event deploys, if it deploys one, has no fault (own)
abbrev pub HasSoundModel : Event → Type 0
HasSoundModel (events.ProcessCreated e) = IsTrue (is_well_formed e.model)
HasSoundModel _ = Unit {0}
