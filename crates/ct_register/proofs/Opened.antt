-- The cluster stands for the registers at the opening.
use Rattle.std.proofs.Common.{arith, ◌≡◌, ℕ, zero, suc, nat_lt, Bool, true, false, if◌then◌else◌, List, [], ◌∷◌, refl, sym, subst, ap, ◌∙◌}
use Rattle.std.specs.Prelude.{slice_get, replicate, is_some}
use Rattle.std.specs.List.{list_any}
use Rattle.ct_values.specs.Address.{same_address}
use Rattle.ct_values.specs.declared.address.Address.{Address}
use Rattle.ct_values.specs.declared.config.Config.{Config}
use Rattle.ct_frame.specs.declared.header.RecCopy.{RecCopy}
use Rattle.ct_persist.specs.Updates
use Rattle.ct_store.specs.Map.{look}
use Rattle.ct_rules_cluster.specs.Handed.{nothing_kept, RecState, Node}
use Rattle.ct_rules_cluster.specs.Handed as node
use Rattle.ct_rules_cluster.specs.Cluster as cluster
use Rattle.ct_register.specs.Stands.{HasCopy, HoldsAddress, OpeningRecordsStand, OpeningStands}
use Rattle.ct_register.proofs.Small.{nought, none_not_some}

-- one of many that are alike, or what stands for one that is not there
pub one_of_all : (P : Node → Type 0) (x : Node) → P cluster.absent → P x → (k n : ℕ) → P (cluster.or_absent (slice_get (replicate k x) n))
unfolding cluster.or_absent
one_of_all P x none all zero n = none
one_of_all P x none all (suc k) zero = all
one_of_all P x none all (suc k) (suc n) = one_of_all P x none all k n

pub untouched_one : {X : Type 0} (xs : List X) (db : ℕ) → node.or_untouched (slice_get (node.untouched_all xs) db) ≡ node.untouched
unfolding node.untouched_all node.or_untouched
untouched_one [] db = refl
untouched_one (x ∷ xs) zero = refl
untouched_one (x ∷ xs) (suc db) = untouched_one xs db

-- nothing is kept of any database at any node
pub opened_db : (c : Config) (n db : ℕ) → node.db_at db (cluster.node_at n (cluster.opening c)) ≡ node.untouched
unfolding node.db_at node.opening node.or_untouched cluster.node_at cluster.opening cluster.absent
opened_db c n db = one_of_all (λ (x : Node). node.db_at db x ≡ node.untouched) (node.opening c (cluster.everyone c)) refl (untouched_one c.dbs db) c.nodes n

pub opened_state : (c : Config) (n db : ℕ) (key : List ℕ) → node.state_at db key (cluster.node_at n (cluster.opening c)) ≡ nothing_kept
unfolding node.state_at node.untouched node.or_nothing
opened_state c n db key = ap (λ (d : node.Database). node.or_nothing (look key d.records)) (opened_db c n db)

pub opened_held : (c : Config) (n : ℕ) → (cluster.node_at n (cluster.opening c)).held ≡ []
unfolding node.opening cluster.node_at cluster.opening cluster.absent
opened_held c n = one_of_all (λ (x : Node). x.held ≡ []) (node.opening c (cluster.everyone c)) refl refl c.nodes n

pub no_copy : (c : Config) (n db : ℕ) (key : List ℕ) (copy : RecCopy) → HasCopy (cluster.opening c) n db key copy → ⊥
no_copy c n db key copy has = none_not_some (sym (ap (λ (s : RecState). s.copy) (opened_state c n db key)) ∙ has)

false_not_true : false ≡ true → ⊥
false_not_true e = absurd (cc)

no_lock : (c : Config) (n db : ℕ) (key : List ℕ) → is_some (node.state_at db key (cluster.node_at n (cluster.opening c))).locked ≡ true → ⊥
no_lock c n db key has = false_not_true (subst (λ (s : RecState). is_some s.locked ≡ true) (opened_state c n db key) has)

no_address : (c : Config) (n : ℕ) (a : Address) → HoldsAddress (cluster.opening c) n a → ⊥
no_address c n a has = false_not_true (subst (λ held. list_any (same_address a) held ≡ true) (opened_held c n) has)

below_zero : (n : ℕ) → nat_lt n 0 ≡ true → ⊥
below_zero n = grind arith

zero_below : (k : ℕ) → nat_lt 0 (suc k) ≡ true
zero_below k = grind arith

suc_below : (n k : ℕ) → nat_lt (suc n) (suc k) ≡ true → nat_lt n k ≡ true
suc_below n k = grind arith

below_suc : (n k : ℕ) → nat_lt n k ≡ true → nat_lt (suc n) (suc k) ≡ true
below_suc n k = grind arith

-- of so many that are alike, one whose number is below
pub one_below : (x : Node) (k n : ℕ) → nat_lt n k ≡ true → cluster.or_absent (slice_get (replicate k x) n) ≡ x
unfolding cluster.or_absent
one_below x zero n lt = absurd (below_zero n lt)
one_below x (suc k) zero lt = refl
one_below x (suc k) (suc n) lt = one_below x k n (suc_below n k lt)

pub up_below : (k n : ℕ) → cluster.is_true (slice_get (replicate k true) n) ≡ true → nat_lt n k ≡ true
unfolding cluster.is_true
up_below zero n up = absurd (cc)
up_below (suc k) zero up = zero_below k
up_below (suc k) (suc n) up = below_suc n k (up_below k n up)

pub opened_below : (c : Config) (n : ℕ) → nat_lt n c.nodes ≡ true → cluster.node_at n (cluster.opening c) ≡ node.opening c (cluster.everyone c)
unfolding cluster.node_at cluster.opening
opened_below c n lt = one_below (node.opening c (cluster.everyone c)) c.nodes n lt

pub opened_up : (c : Config) (n : ℕ) → cluster.is_up n (cluster.opening c) ≡ true → nat_lt n c.nodes ≡ true
unfolding cluster.is_up cluster.opening
opened_up c n up = up_below c.nodes n up

one_if : (b : Bool) → b ≡ true → ◌≡◌ {A = ℕ} (if b then 1 else 0) 1
one_if true e = refl
one_if false e = absurd (cc)

in_line_one : (c : Config) (n : ℕ) → nat_lt n c.nodes ≡ true → (cluster.node_at n (cluster.opening c)).generation ≡ (if nat_lt n c.nodes then 1 else 0)
unfolding node.opening
in_line_one c n lt = ap (λ (x : Node). x.generation) (opened_below c n lt) ∙ sym (one_if (nat_lt n c.nodes) lt)

of_base_one : (c : Config) (n : ℕ) → nat_lt n c.nodes ≡ true → (cluster.node_at n (cluster.opening c)).pbase ≡ (if nat_lt n c.nodes then 1 else 0)
unfolding node.opening
of_base_one c n lt = ap (λ (x : Node). x.pbase) (opened_below c n lt) ∙ sym (one_if (nat_lt n c.nodes) lt)

pub opening_records_stand : OpeningRecordsStand
opening_records_stand c = record {
  locks = λ n db key up. ((λ has. absurd (no_lock c n db key has)), λ owns. absurd (none_not_some owns.1));
  masters = λ n db key copy has is. absurd (no_copy c n db key copy has);
  one_master = λ n m db key copy other up line has is has' is'. absurd (no_copy c n db key copy has);
  readers = λ n db key copy has is. absurd (no_copy c n db key copy has);
}

no_commit : (c : Config) (n db : ℕ) → is_some (node.db_at db (cluster.node_at n (cluster.opening c))).commit ≡ true → ⊥
unfolding node.untouched
no_commit c n db has = false_not_true (subst (λ (d : node.Database). is_some d.commit ≡ true) (opened_db c n db) has)

pub opening_stands : OpeningStands
unfolding Updates.contents node.untouched
opening_stands c = record {
  records = opening_records_stand c;
  generations = λ n up. in_line_one c n (opened_up c n up);
  bases = λ n lt. of_base_one c n lt;
  commits = λ n db. ((λ waits. absurd (no_commit c n db waits)), λ begun. absurd (none_not_some begun.2));
  holds = λ n a up. ((λ has. absurd (no_address c n a has)), λ held. absurd (false_not_true held));
  assigned = λ n a up has. absurd (no_address c n a has);
  databases = λ n db there kind. (0, (let e = opened_db c n db in record { number = ap (λ (d : node.Database). d.store.seq) e; pairs = ap (λ (d : node.Database). d.store.pairs) e; acked = nought 0; seen = nought 0; within = nought 0 }));
  addresses = λ n m a up up' some line has has'. absurd (no_address c n a has);
}
