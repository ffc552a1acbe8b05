use Rattle.std.proofs.Common.{◌≡◌, ◌++◌, drop}
use Rattle.std.specs.List.{flat_map}
use Rattle.ct_traverse_parts.specs.Text.{traverse_text}
use Rattle.ct_play.proofs.walking.traverse_texts.Given as goal

-- the text so far, and those of the lines that are left
abbrev pub invariant-loop-line : goal.invariant-loop-line
invariant-loop-line l = l.text.items ++ flat_map traverse_text (drop l.line-index l.lines) ≡ flat_map traverse_text l.lines
