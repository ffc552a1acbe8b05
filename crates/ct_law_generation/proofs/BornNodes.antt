-- Where a generation began with rows: members alone run, other nodes keep nothing, and what was sent.
use Rattle.std.proofs.Common.{◌≡◌, ℕ, zero, suc, ◌≤◌, true, false, List, [], ◌∷◌, Some, None, refl}
use Rattle.std.specs.Prelude.{slice_get}
use Rattle.std.specs.List.{AllByRecursion}
use Rattle.ct_values.specs.declared.config.Config.{Config}
use Rattle.ct_rules.specs.State.{nothing_kept}
use Rattle.ct_rules_node.specs.Admission.{record_in}
use Rattle.ct_rules_node.specs.Node.{state_at, is_among}
use Rattle.ct_rules_cluster.specs.Cluster.{Cluster, Sent, is_up, node_at, sent_at}
use Rattle.ct_promise.specs.Born.{Rows, IsBornWith}
use Rattle.ct_law_generation.proofs.BornWorlds.{by_test, state_none}

-- who runs is a member
pub born_up : (config : Config) (g : ℕ) (members : List ℕ) (row : Rows) (w : Cluster) → IsBornWith config g members row w → (n : ℕ) → is_up n w ≡ true → is_among n members ≡ true
born_up config g members row w h n up = by_test (is_among n members) (λ t. t) (λ f. absurd (let down = h.down n f in cc))

-- who is no member keeps nothing of any record
pub born_left : (config : Config) (g : ℕ) (members : List ℕ) (row : Rows) (w : Cluster) → IsBornWith config g members row w → (n : ℕ) → is_among n members ≡ false → (db : ℕ) (key : List ℕ) → state_at db key (node_at n w) ≡ nothing_kept
born_left config g members row w h n f db key = state_none db key (node_at n w) ((h.left n f).records db)

-- what holds of the message of each number holds of all
each_sent : (P : Sent → Type 0) (ss : List Sent) → ((k : ℕ) (s : Sent) → slice_get ss k ≡ Some s → P s) → AllByRecursion P ss
each_sent P [] h = tt
each_sent P (s ∷ ss) h = (h zero s refl, each_sent P ss (λ k. h (suc k)))

-- no message is of a newer generation, and none of this one speaks of a record
pub born_sent : (config : Config) (g : ℕ) (members : List ℕ) (row : Rows) (w : Cluster) → IsBornWith config g members row w →
    AllByRecursion (λ (s : Sent). (s.frame.generation ≤ g) × (s.frame.generation ≡ g → record_in s.frame.msg ≡ None)) w.sent
unfolding sent_at
born_sent config g members row w h = each_sent (λ (s : Sent). (s.frame.generation ≤ g) × (s.frame.generation ≡ g → record_in s.frame.msg ≡ None)) w.sent (λ k s e. (h.newest (suc k) s e, h.silent (suc k) s e))
