-- Two journals of few entries.
use Rattle.std.proofs.Common.{◌+◌, ◌^◌, ◌<◌, ◌≤◌, [], ◌∷◌, length, append-nil, length-append, arith}
use Rattle.ct_journal.specs.Order.{all_entries, count_sent}
use Rattle.ct_journal.specs.declared.journal.Journal.{Journal}
use Rattle.ct_law_journal_schedule.proofs.Fronts.{sent_both}

pub both_few : (a b : Journal) → length a.entries + count_sent a.entries ≤ 9 → length b.entries + count_sent b.entries ≤ 9 → length (all_entries (a ∷ b ∷ [])) + count_sent (all_entries (a ∷ b ∷ [])) < 2 ^ 61
unfolding all_entries
both_few a b few also = rw append-nil (let l = length-append a.entries b.entries in let s = sent_both a.entries b.entries in omega arith)
