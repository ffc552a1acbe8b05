use Rattle.std.proofs.Common.{◌≡◌, ◌<◌, ◌≤◌, ℕ, length, map}
use Rattle.ct_journal.specs.Order.{entries_of}
use Rattle.ct_journal_order.specs.Demands.{AreWaited, demands_at}
use Rattle.ct_journal_order.specs.Letters.{letters_at, letters_of}
use Rattle.ct_journal_order.proofs.demands.all_demands.Given as goal

abbrev pub invariant-loop-node : goal.invariant-loop-node
invariant-loop-node l = record {
  size : length l.receivers.items ≡ length l.journals;
  rest : (n : ℕ) → l.node ≤ n → n < length l.journals → letters_at n l.receivers.items ≡ map (letters_of n) l.journals;
  count : length l.all.items ≡ l.node;
  each : (n : ℕ) → n < l.node → AreWaited n (entries_of l.journals n) (map (letters_of n) l.journals) (demands_at l.all.items n);
}
