use Rattle.ct_picture.proofs.Runs.{parts_read}
use Rattle.ct_picture.proofs.reading.read_parts.Goals as goal

pub returns : goal.returns
returns c = parts_read (λ w. w.now) c.args.parts.now c.saturating_sub-n.result c.word_at.result.now c.read_lines.result c.saturating_sub-n.ensures c.word_at.ensures c.read_lines.ensures
