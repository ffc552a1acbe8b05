-- At the opening what holds of the cluster in its first generation holds.
use Rattle.std.proofs.Common.{◌≡◌, ℕ, zero, suc, Bool, true, List, [], length, refl, sym, ap, arith, subst, ◌≢◌, ◌+◌, ◌<◌, ◌≤◌, ◌||◌, false, ⊎_elim}
use Rattle.std.specs.Prelude.{nat_lt, slice_get, replicate, nat_eq}
use Rattle.std.specs.List.{list_all}
use Rattle.std.proofs.lemmas.Bool.{cases_eq, eq-eqb, eqb-true, ltb-true, lt-ltb, and_from, or_right}
use Rattle.ct_values.specs.declared.config.Config.{Config}
use Rattle.ct_call.specs.Rules.{Rules}
use Rattle.ct_store.specs.Map.{look}
use Rattle.ct_rules.specs.State.{nothing_kept}
use Rattle.ct_law_rules.proofs.Events.{in_form_at_start}
use Rattle.ct_rules_node.specs.Node as node
use Rattle.ct_rules_node.specs.Node.{Node, Database, is_among}
use Rattle.ct_law_rules_node.proofs.Starting.{starts_in_order}
use Rattle.ct_law_rules_node.specs.NodeLaws.{AllAscend}
use Rattle.ct_rules_cluster.specs.Cluster as cluster
use Rattle.ct_rules_cluster.specs.Cluster.{everyone, node_at, or_absent, numbers}
use Rattle.ct_law_record.specs.World as law
use Rattle.ct_law_record.specs.World.{View}
use Rattle.ct_law_record.proofs.Law.{opening_leads}
use Rattle.ct_register.proofs.Opened.{one_of_all, one_below, up_below, untouched_one}
use Rattle.ct_register.specs.Register.{newborn}
use Rattle.ct_law_generation.specs.Shown.{Era, scene, view, mails, project}
use Rattle.ct_law_generation.proofs.Pending.{Callers, CommitFits, DatabaseKnown, NodeKnown, none_known}
use Rattle.ct_law_generation.proofs.Forming.{Is_formed}
use Rattle.ct_law_generation.proofs.Staying.{NodeStays, Of_records}
use Rattle.ct_law_generation.proofs.Clusters.{ClusterStays}
use Rattle.ct_law_generation.proofs.Following.{asks_by_law, IsEra}
use Rattle.ct_frame.specs.Fields.{is_node, ascends, ascends_after}
use Rattle.ct_promise.specs.Born.{has_pushed}
use Rattle.ct_law_wishes.proofs.Wishing.{Wishful}

-- ---- its members

in_numbers : (i k n : ℕ) → i ≤ n → n < i + k → is_among n (numbers i k) ≡ true
unfolding is_among numbers
in_numbers i zero n l u = absurd (omega arith)
in_numbers i (suc k) n l u = ⊎_elim
    (λ (is : n ≡ i). ap (λ (b : Bool). b || is_among n (numbers (i + 1) k)) (eq-eqb n i is))
    (λ (ne : n ≢ i). or_right (nat_eq n i) (is_among n (numbers (i + 1) k)) (in_numbers (i + 1) k n (omega arith) (omega arith)))
    (cases_eq n i)

pub is_member : (c : Config) (n : ℕ) → nat_lt n c.nodes ≡ true → is_among n (everyone c) ≡ true
unfolding everyone
is_member c n t = in_numbers 0 c.nodes n (omega arith) (let l = ltb-true n c.nodes t in omega arith)

below_numbers : (i k n : ℕ) → is_among n (numbers i k) ≡ true → n < i + k
unfolding is_among numbers
below_numbers i zero n e = absurd (cc)
below_numbers i (suc k) n e = either (nat_eq n i) refl (λ u. below_numbers (i + 1) k n u)
  where
    either : (b : Bool) → nat_eq n i ≡ b → (is_among n (numbers (i + 1) k) ≡ true → n < (i + 1) + k) → n < i + suc k
    either true t more = (let is = eqb-true n i t in omega arith)
    either false f more = (let l = more (subst (λ (b : Bool). (b || is_among n (numbers (i + 1) k)) ≡ true) f e) in omega arith)

pub below_everyone : (c : Config) (n : ℕ) → is_among n (everyone c) ≡ true → nat_lt n c.nodes ≡ true
unfolding everyone
below_everyone c n e = lt-ltb n c.nodes (let l = below_numbers 0 c.nodes n e in omega arith)

after_numbers : (x i k : ℕ) → x < i → ascends_after nat_lt x (numbers i k) ≡ true
unfolding numbers
after_numbers x i zero l = refl
after_numbers x i (suc k) l = and_from (nat_lt x i) _ (lt-ltb x i l) (after_numbers i (i + 1) k (omega arith))

numbers_ascend : (i k : ℕ) → ascends nat_lt (numbers i k) ≡ true
unfolding numbers
numbers_ascend i zero = refl
numbers_ascend i (suc k) = after_numbers i (i + 1) k (omega arith)

-- the first generation
abbrev pub first_era : Config → Era
first_era c = record { number = 1; members = everyone c; thawed = true; alone = true; start = λ db key. law.opening }

pub first_is_era : (c : Config) → list_all is_node (everyone c) ≡ true → IsEra c (first_era c)
unfolding everyone
first_is_era c real = record { real = real; ascend = numbers_ascend 0 c.nodes; positive = omega arith; asks = λ rules db key. asks_by_law (scene c (first_era c) rules db key) law.opening (newborn []) (λ es. opening_leads (scene c (first_era c) rules db key) es real) }

pub many : {X : Type 0} (k : ℕ) (x : X) → length (replicate k x) ≡ k
many zero x = refl
many (suc k) x = ap suc (many k x)

-- what a node has of a record of which nothing is kept
abbrev nothing : View
nothing = record { state = nothing_kept; next = 1; floor = 0 }

opened_view : (c : Config) (db : ℕ) (key : List ℕ) → view db key (node.opening c (everyone c)) ≡ nothing
unfolding node.opening node.state_at node.db_at node.or_nothing node.untouched
opened_view c db key = ap (λ (d : Database). record { state = node.or_nothing (look key d.records); next = 1; floor = d.floor }) (untouched_one c.dbs db)

absent_view : (db : ℕ) (key : List ℕ) → view db key cluster.absent ≡ nothing
unfolding cluster.absent node.state_at node.db_at node.or_nothing node.or_untouched node.untouched
absent_view db key = refl

-- the world of every record is at its opening
pub opened_world : (c : Config) (db : ℕ) (key : List ℕ) → law.opening ≡ project 1 db key (cluster.opening c)
unfolding cluster.opening node_at mails
opened_world c db key =
    let each : (n : ℕ) → nothing ≡ view db key (or_absent (slice_get (replicate c.nodes (node.opening c (everyone c))) n))
    = λ n. sym (one_of_all (λ (x : Node). view db key x ≡ nothing) (node.opening c (everyone c)) (absent_view db key) (opened_view c db key) c.nodes n) in
    λ i. record { nodes = λ n. each n i; joined = λ _. true; mail = [] }

opened_form : (c : Config) (rules : Rules) (n db : ℕ) (key : List ℕ) → Is_formed (scene c (first_era c) rules db key) n nothing
opened_form c rules n db key = record {
  form = in_form_at_start (law.place (scene c (first_era c) rules db key) n nothing) 1 (record { from_one = omega arith; next_limit = omega arith; floor_limit = omega arith });
  tracks = record { tracked_held = λ e. absurd (cc); vacuum_untracked = λ e. refl };
  waits = refl;
}

pub absent_known : (who : Callers) (calls n : ℕ) → NodeKnown who calls n cluster.absent
unfolding cluster.absent node.db_at node.or_untouched node.untouched CommitFits AllAscend
absent_known who calls n = record { order = tt; dbs = λ db. record { records = λ key. none_known who calls n db key; commit = tt } }

opened_known : (c : Config) (who : Callers) (calls n db : ℕ) → DatabaseKnown who calls n db (node.db_at db (node.opening c (everyone c)))
unfolding node.opening node.db_at node.untouched CommitFits
opened_known c who calls n db = subst (λ (d : Database). DatabaseKnown who calls n db d) (sym (untouched_one c.dbs db)) (record { records = λ key. none_known who calls n db key; commit = tt })

opened_node : (c : Config) (rules : Rules) (who : Callers) (calls n : ℕ) → NodeStays c (first_era c) rules who calls n (node.opening c (everyone c))
unfolding node.opening node.is_present_in node.is_present has_pushed Wishful
opened_node c rules who calls n = record {
  present = refl;
  knows = refl;
  promise = refl;
  lead = λ _. refl;
  size = (starts_in_order c (everyone c)).0;
  known = record { order = (starts_in_order c (everyone c)).1; dbs = λ db. opened_known c who calls n db };
  waits = λ db key. subst (λ (v : View). Wishful (Of_records c db key) v.state.wish) (sym (opened_view c db key)) tt;
  serves = λ _. refl;
  formed = λ db key. subst (λ (v : View). Is_formed (scene c (first_era c) rules db key) n v) (sym (opened_view c db key)) (opened_form c rules n db key);
}

pub opened_stays : (c : Config) (rules : Rules) (who : Callers) → ClusterStays c (first_era c) rules who (cluster.opening c)
unfolding cluster.opening node_at cluster.is_up
opened_stays c rules who = record {
  size = many c.nodes (node.opening c (everyone c));
  there = λ n among. below_everyone c n among;
  up = λ n e. is_member c n (up_below c.nodes n e);
  nodes = λ n among. (let t = below_everyone c n among in subst (λ (x : Node). NodeStays c (first_era c) rules who 0 n x) (sym (one_below (node.opening c (everyone c)) c.nodes n t)) (opened_node c rules who 0 n));
  left = λ n out db key. one_of_all (λ (x : Node). node.state_at db key x ≡ nothing_kept) (node.opening c (everyone c)) (ap (λ (v : View). v.state) (absent_view db key)) (ap (λ (v : View). v.state) (opened_view c db key)) c.nodes n;
  left_known = λ n out. one_of_all (λ (x : Node). NodeKnown who 0 n x) (node.opening c (everyone c)) (absent_known who 0 n) (opened_node c rules who 0 n).known c.nodes n;
  sent = tt;
}
