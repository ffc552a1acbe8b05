use Rattle.std.proofs.Common.{List, ℕ, ap, arith}
use Rattle.ct_main.specs.declared.player.Player.{Player}
use Rattle.ct_main.proofs.Feeding.{bytes_kept, long_ends}
use Rattle.ct_main.proofs.player.Player.keep.Goals as goal

pub returns-then-bytes-len-clause-feeds : goal.returns-then-bytes-len-clause-feeds
returns-then-bytes-len-clause-feeds c = λ rs held. long_ends rs c.args.self.now c.args.bytes.now held c.requires.none (omega arith)

pub returns-clause-feeds : goal.returns-clause-feeds
returns-clause-feeds c = λ rs held.
    let p = c.args.self.now in
    let q : List ℕ → Player = λ l. record { session = p.session; line = l; count = p.count } in
    bytes_kept rs p (q c.extend_from_slice.new.self) c.args.bytes.now held c.requires.none (ap q c.in_ok-extend_from_slice.ensures.ok)
