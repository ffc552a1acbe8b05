-- The words of a copy's header: its data master where it has none, and its flags.
use Rattle.std.specs.Prelude.{ℕ}

-- the data master of a copy that its data master gave away
abbrev pub nobody : ℕ
nobody = 4294967295

-- flags: those of a plain copy
abbrev pub plain : ℕ
plain = 0

-- flags: copies for reading are out
abbrev pub delegated : ℕ
delegated = 1

-- flags: this is a copy for reading
abbrev pub for_reading : ℕ
for_reading = 2

-- flags: copies for reading are out and are being called in
abbrev pub being_revoked : ℕ
being_revoked = 5
