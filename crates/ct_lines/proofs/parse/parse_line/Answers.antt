use Rattle.ct_lines.proofs.Whole.{found_line, no_line}
use Rattle.ct_lines.proofs.parse.parse_line.Goals as goal

pub returns-clause-found : goal.returns-clause-found
returns-clause-found c = found_line c.args.line.now c.read_whole.result c.read_whole.ensures

pub returns-clause-words : goal.returns-clause-words
returns-clause-words c = no_line c.args.line.now c.read_whole.result c.read_whole.ensures
