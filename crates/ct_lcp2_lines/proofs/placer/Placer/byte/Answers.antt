use Rattle.std.proofs.Common.{List, ℕ, ap, arith, rules}
use Rattle.ct_lcp2_lines.specs.declared.placer.Placer.{Placer}
use Rattle.ct_lcp2_lines.proofs.Feeding.{byte_kept, long_ends}
use Rattle.ct_lcp2_lines.proofs.placer.Placer.byte.Goals as goal

pub returns-then-len-ge65535-clause-feeds : goal.returns-then-len-ge65535-clause-feeds
returns-then-len-ge65535-clause-feeds c = long_ends c.args.self.now c.args.x (search rules) (omega arith)

pub returns-clause-feeds : goal.returns-clause-feeds
returns-clause-feeds c =
    let p = c.args.self.now in
    let q : List ℕ → Placer = λ l. record { placing = p.placing; line = l; count = p.count } in
    byte_kept p (q c.push.new.self) c.args.x (search rules) (ap q c.in_default.ensures.ok)
