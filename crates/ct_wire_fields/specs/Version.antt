-- The versions of the layout.
use Rattle.std.specs.Prelude.{ℕ, ◌==◌, Bool, true, false, Option, None, Some, if◌then◌else◌}
use Rattle.ct_wire_fields.specs.declared.version.Version.{Version}
use Rattle.ct_wire_fields.specs.declared.version.Version.TheVariants.{One, Two, Three}

-- the version that is written
abbrev pub newest : Version
newest = Three

-- the number that stands for a version in a frame
abbrev pub version_number : Version → ℕ
version_number One = 1
version_number Two = 2
version_number Three = 3

abbrev pub version_of : ℕ → Option Version
version_of n = if n == 1 then Some One else (if n == 2 then Some Two else (if n == 3 then Some Three else None))

-- from the second version on a row names its data master
abbrev pub names_masters : Version → Bool
names_masters One = false
names_masters Two = true
names_masters Three = true

-- from the third version on an address names its family, and may be an IPv6 address
abbrev pub names_families : Version → Bool
names_families One = false
names_families Two = false
names_families Three = true
