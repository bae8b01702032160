-- An incident is resolved (Zeebe, incidents).
use Rattle.std.specs.Prelude.{ℕ, ◌==◌, Bool, is_some, Option, option_map}
use Rattle.zb_tokens.specs.Edits.{removed}
use Rattle.zb_tokens.specs.Board.{Board}
use Rattle.zb_tokens.specs.Incidents.{incident_at}

-- when: it stands (Zeebe, incidents)
abbrev pub fits_repair : Board → ℕ → Bool
fits_repair b key = is_some (incident_at b key)

-- effect: it is gone (Zeebe, incidents)
abbrev pub play_repair : Board → ℕ → Option Board
play_repair b key = option_map (λ incidents. record b { incidents = incidents }) (removed (λ i. i.key == key) b.incidents)
