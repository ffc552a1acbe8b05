-- The text of a line that a traverse prints, and of a traverse that waits at the end.
use Rattle.std.specs.Prelude.{ℕ, List, ◌++◌, codes}
use Rattle.std.specs.Fmt.{decimal}
use Rattle.ct_values.specs.declared.config.Config.{Config}
use Rattle.ct_rules_node.specs.Node.{name_of}
use Rattle.ct_traverse_parts.specs.declared.line.Pass.{Pass}
use Rattle.ct_traverse_parts.specs.declared.line.Pass.TheVariants.{Copies, Entries}
use Rattle.ct_traverse_parts.specs.declared.line.TLine.{TLine}
use Rattle.ct_traverse_parts.specs.declared.line.TLine.TheVariants as line
use Rattle.ct_traverse_parts.specs.declared.line.TPending.{TPending}
use Rattle.ct_text.specs.Dumps.{pairs_text}

abbrev pub pass_text : Pass → List ℕ
pass_text Copies = codes " copies"
pass_text Entries = codes " entries"

-- a message of a traverse, and for which pass it is; the word says whether it asks or answers
unfoldable pub sent_text : ℕ → ℕ → ℕ → ℕ → List ℕ → ℕ → Pass → List ℕ
sent_text number sender receiver generation word traverse pass =
    codes "tframe " ++ decimal number ++ codes " " ++ decimal sender ++ codes " " ++ decimal receiver ++ codes " " ++ decimal generation ++ word ++ decimal traverse ++ pass_text pass

-- a line of a traverse with its line feed; the answer has one for each pair, and one that counts them
unfoldable pub traverse_text : TLine → List ℕ
traverse_text (line.Asked number sender receiver generation traverse pass) = sent_text number sender receiver generation (codes " ask ") traverse pass ++ codes "\n"
traverse_text (line.Rows number sender receiver generation traverse pass count) = sent_text number sender receiver generation (codes " rows ") traverse pass ++ codes " " ++ decimal count ++ codes "\n"
traverse_text (line.TLost number) = codes "tlost " ++ decimal number ++ codes "\n"
traverse_text (line.Ended traverse) = codes "traverse " ++ decimal traverse ++ codes " ended\n"
traverse_text (line.Shown pairs) = pairs_text pairs

-- a traverse that waits to be answered, by its number
unfoldable pub waits_text : ℕ → List ℕ
waits_text traverse = codes "pending-traverse " ++ decimal traverse

-- and whole, with its node, its database and its line feed
unfoldable pub pending_traverse_text : Config → TPending → List ℕ
pending_traverse_text c x = waits_text x.traverse ++ codes " " ++ decimal x.node ++ codes " " ++ name_of c x.db ++ codes "\n"
