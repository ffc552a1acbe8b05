-- The message of a number.
use Rattle.std.proofs.Common.{◌≡◌, ℕ, zero, suc, List, refl, sym, ap, ◌∙◌, arith}
use Rattle.ct_rules_cluster.specs.Cluster.{Cluster, Sent, sent_at}
use Rattle.ct_mail.specs.Mail.{numbered}

pub numbered_so : (k : ℕ) (w : Cluster) → numbered k w.sent ≡ sent_at k w
unfolding numbered sent_at
numbered_so zero w = refl
numbered_so (suc k) w = grind arith

pub sent_numbered : (k : ℕ) (w : Cluster) (xs : List Sent) → w.sent ≡ xs → numbered k xs ≡ sent_at k w
sent_numbered k w xs e = ap (numbered k) (sym e) ∙ numbered_so k w
