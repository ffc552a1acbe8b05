-- Why a line is refused, as text.
use Rattle.std.specs.Prelude.{ℕ, List, ◌++◌, codes}
use Rattle.std.specs.Fmt.{decimal}
use Rattle.ct_lines.specs.declared.line.LineKind.{LineKind}
use Rattle.ct_lines.specs.declared.line.LineKind.TheVariants as kind
use Rattle.ct_play_text.specs.declared.what.What.{What}
use Rattle.ct_play_text.specs.declared.what.What.TheVariants as what

abbrev pub kind_text : LineKind → List ℕ
kind_text kind.Long = codes "long"
kind_text kind.Unended = codes "unended"
kind_text kind.Words = codes "words"
kind_text kind.Order = codes "order"
kind_text kind.Repeat = codes "repeat"
kind_text kind.Limit = codes "limit"

-- why a line of the input is refused
abbrev pub what_text : What → List ℕ
what_text (what.Line kind) = kind_text kind
what_text (what.NoSuchNode n) = codes "no-such-node " ++ decimal n
what_text (what.NodeDown n) = codes "node-down " ++ decimal n
what_text (what.NodeUp n) = codes "node-up " ++ decimal n
what_text what.NoSuchDb = codes "no-such-db"
what_text what.WrongKind = codes "wrong-kind"
what_text (what.NotServing n) = codes "not-serving " ++ decimal n
what_text (what.NotLeader n) = codes "not-leader " ++ decimal n
what_text (what.NoSuchFrame k) = codes "no-such-frame " ++ decimal k
what_text (what.NoSuchTframe k) = codes "no-such-tframe " ++ decimal k
what_text (what.NotMember n) = codes "not-member " ++ decimal n
what_text (what.LockHeld n) = codes "lock-held " ++ decimal n
what_text what.NotHolder = codes "not-holder"
what_text what.Exhausted = codes "exhausted"
