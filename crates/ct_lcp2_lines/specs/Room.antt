-- How much may still come before a line is refused.
use Rattle.std.specs.Prelude.{◌≤◌, ℕ, ◌+◌, ◌-◌, ◌*◌, is_none, if◌then◌else◌, length, Option, None, Some}
use Rattle.ct_lcp2_lines.specs.Placing.{Given}
use Rattle.ct_lcp2_lines.specs.Text.{able_of}
use Rattle.ct_lcp2_lines.specs.declared.placer.Placer.{Placer}

-- as many lines as may still come: one that says how many nodes there are, one for each node of sixteen that is not disabled,
-- and one for each address of 256 that is not named
unfoldable pub lines_left : Given → ℕ
lines_left g = (if is_none g.nodes then 1 else 0) + length (able_of 16 g.disabled) + (256 - length g.at)

-- there are at most sixteen nodes
abbrev pub AreFew : Option ℕ → Type 0
AreFew None = Unit {0}
AreFew (Some nodes) = nodes ≤ 16

-- the line is no longer than one may be, and no more lines were read than may come
pub record Fits (p : Placer) : Type 0 where
  pub line : length p.line ≤ 65535
  pub few : AreFew p.placing.nodes
  pub count : p.count + lines_left p.placing ≤ 273

-- it falls with each byte that is read
abbrev pub room : Placer → ℕ
room p = lines_left p.placing * 65536 + (65535 - length p.line)
