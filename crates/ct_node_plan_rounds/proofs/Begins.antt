-- The begin of a round.
use Rattle.std.proofs.Common.{◌≡◌, ◌≢◌, ◌∙◌, ℕ, ◌^◌, ◌<◌, ◌≤◌, Bool, true, false, cond, ◌||◌, List, [], ◌∷◌, ap, arith}
use Rattle.std.proofs.lemmas.Bool.Decides.{nat_tests}
use Rattle.std.specs.Prelude.{nat_lt, nat_le}
use Rattle.ct_frame.specs.declared.frame.Msg.TheVariants as msg
use Rattle.ct_rules_node.specs.Node.{Freezes, is_among}
use Rattle.ct_rules_node.specs.Rounds.{begin_round}
use Rattle.ct_rules_node.specs.Turn.{Turn, makes, posts_all, with_lead}
use Rattle.ct_node_plan.proofs.Beside.{posts_spent}

pub some_members : (me : ℕ) (members : List ℕ) → is_among me members ≡ true → members ≢ []
unfolding is_among
some_members me [] e = λ h. cc
some_members me (m ∷ ms) e = λ h. cc

below : (p g : ℕ) → p < g → nat_lt p g ≡ true
below p g l = grind (arith, nat_tests)

not_below : (p g : ℕ) → g ≤ p → nat_lt p g ≡ false
not_below p g l = grind (arith, nat_tests)

unspent : (g : ℕ) (b : Bool) → g < 2 ^ 62 → b ≡ false → (b || nat_le (2 ^ 62) g) ≡ b
unspent g b m s = grind (arith, nat_tests)

reached : (g : ℕ) (b : Bool) → 2 ^ 62 ≤ g → (b || nat_le (2 ^ 62) g) ≡ true
reached g b m = grind (arith, nat_tests)

-- a ticket that is not above the promise begins nothing
pub round_dropped : (me g : ℕ) (members : List ℕ) (t : Turn) → g ≤ t.node.promise → begin_round me g members t ≡ t
unfolding begin_round
round_dropped me g members t l = ap (λ (b : Bool). cond b (posts_all g me members (msg.Freeze members) (with_lead (Freezes g members members) (makes g t))) t) (not_below t.node.promise g l)

-- one that is above it begins a round
pub round_begins : (me g : ℕ) (members : List ℕ) (t : Turn) → t.node.promise < g → g < 2 ^ 62 → t.spent ≡ false →
    begin_round me g members t ≡ posts_all g me members (msg.Freeze members) (with_lead (Freezes g members members) t)
unfolding begin_round makes with_lead
round_begins me g members t l m s =
    ap (λ (b : Bool). cond b (posts_all g me members (msg.Freeze members) (with_lead (Freezes g members members) (makes g t))) t) (below t.node.promise g l)
    ∙ ap (λ (b : Bool). posts_all g me members (msg.Freeze members) (with_lead (Freezes g members members) (record t { spent = b }))) (unspent g t.spent m s)

-- unless its number reaches 2^62
pub round_spent : (me g : ℕ) (members : List ℕ) (t : Turn) → t.node.promise < g → 2 ^ 62 ≤ g → (begin_round me g members t).spent ≡ true
unfolding begin_round makes with_lead
round_spent me g members t l m =
    ap (λ (b : Bool). (cond b (posts_all g me members (msg.Freeze members) (with_lead (Freezes g members members) (makes g t))) t).spent) (below t.node.promise g l)
    ∙ posts_spent g me members (msg.Freeze members) (with_lead (Freezes g members members) (makes g t))
    ∙ reached g t.spent m
