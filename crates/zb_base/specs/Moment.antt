use Rattle.std.specs.Prelude.{ℕ}

-- the last moment, in milliseconds since 1970
abbrev pub last_moment : ℕ
last_moment = 250000000000000
