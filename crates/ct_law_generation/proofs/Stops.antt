-- A stop ends all calls of its node, and no other.
use Rattle.std.proofs.Common.{◌≡◌, ◌≢◌, ℕ, ◌<◌, Bool, true, false, ◌||◌, List, [], ◌∷◌, ◌++◌, length, map, Some, None, refl, sym, ◌∙◌, ap, subst, ⊎_elim}
use Rattle.std.specs.Prelude.{slice_set, nat_eq, Ok}
use Rattle.std.specs.List.{AllByRecursion, list_any}
use Rattle.std.proofs.lemmas.Bool.{cases_eq, eqb-true, eq-eqb}
use Rattle.std.proofs.lemmas.List.{length-set, append-nil}
use Rattle.ct_values.specs.declared.client.ClientOp.{ClientOp}
use Rattle.ct_values.specs.declared.config.Config.{Config}
use Rattle.ct_store.specs.Map.{look}
use Rattle.ct_rules_node.specs.Node.{Node, Database, state_at, db_at, or_nothing, untouched, restarted_db, restarted}
use Rattle.ct_law_rules_node.proofs.Numbered.{numbered_all, numbered_any}
use Rattle.ct_law_rules_node.proofs.Starting.{restarts_in_order}
use Rattle.ct_law_rules_node.proofs.Rounds.{restarts_each}
use Rattle.ct_call.specs.Rules.{Rules}
use Rattle.ct_rules_cluster.specs.Cluster.{Cluster, is_up, node_at, pending_in, pending_at}
use Rattle.ct_rules_cluster.specs.Faults.{fault_of}
use Rattle.ct_rules_cluster.specs.Steps.{Stepped, with_node, done, stop, gone, steps, without_holder}
use Rattle.ct_rules_cluster.specs.declared.step.Line.TheVariants as line
use Rattle.ct_rules_cluster.specs.declared.step.PendingCall.{PendingCall}
use Rattle.ct_rules_cluster.specs.declared.step.Step.{Step}
use Rattle.ct_rules_cluster.specs.declared.step.Step.TheVariants as step
use Rattle.ct_law_wishes.proofs.Wishing.{Wishful}
use Rattle.ct_law_generation.proofs.Pending.{is_call}
use Rattle.ct_law_generation.proofs.Putting.{own_node, other_node}
use Rattle.ct_law_generation.proofs.Faulting.{runs}
use Rattle.ct_law_generation.proofs.Opened.{Opened, without, without_all, is_one, was_open, is_later, stays_open}
use Rattle.ct_law_generation.proofs.Accounts.{Wished, Committed, Stands}
use Rattle.ct_law_generation.proofs.CallsOpen.{node_of, closes, AllAnswered, opened_by, Calls, Calls_after, others_stand, start_calls, step_calls}
use Rattle.ct_law_generation.proofs.Waiting.{Fits, stands_fit, stands_any}

calls_in : List PendingCall → List ℕ
calls_in xs = map (λ (x : PendingCall). x.call) xs

closes_gone : (xs : List PendingCall) (who : Opened) → closes (gone xs) who ≡ without_all (calls_in xs) who
unfolding closes gone without_all calls_in
closes_gone [] who = refl
closes_gone (x ∷ xs) who = closes_gone xs (without x.call who)

gone_answered : (xs : List PendingCall) (who : Opened) → AllAnswered (gone xs) who
unfolding AllAnswered gone
gone_answered [] who = tt
gone_answered (x ∷ xs) who = gone_answered xs (without x.call who)

nat_eq_swap : (a b : ℕ) → nat_eq a b ≡ true → nat_eq b a ≡ true
nat_eq_swap a b e = eq-eqb b a (sym (eqb-true a b e))

any_case : (a b d f : Bool) → (a ≡ true → d ≡ true) → (b ≡ true → f ≡ true) → (a || b) ≡ true → (d || f) ≡ true
any_case true b d f g h e = rw (g refl) refl
any_case false b true f g h e = refl
any_case false b false f g h e = h e

any_one : (k : ℕ) (xs : List PendingCall) → list_any (is_call k) xs ≡ true → is_one k (calls_in xs) ≡ true
unfolding is_call calls_in
any_one k [] e = absurd (cc)
any_one k (x ∷ xs) e = any_case (nat_eq x.call k) (list_any (is_call k) xs) (nat_eq k x.call) (is_one k (calls_in xs)) (nat_eq_swap x.call k) (any_one k xs) e

-- none of these is open after them
none_left : (xs : List ℕ) (who : Opened) (k : ℕ) (v : ℕ × ClientOp) → is_one k xs ≡ true → without_all xs who k ≢ Some v
none_left xs who k v is e = absurd (let t = is_later xs [] who k v (subst (λ (l : List ℕ). is_one k l ≡ true) (sym (append-nil xs)) is) e in cc)

both_false : (a b : Bool) → a ≢ true → b ≡ false → (a || b) ≡ false
both_false true b f g = absurd (f refl)
both_false false b f g = g

-- other nodes' calls stay
stay_case : (n m : ℕ) (xs : List PendingCall) (who : Opened) (k : ℕ) (o : ClientOp) → m ≢ n → AllByRecursion (Fits n who) xs → who k ≡ Some (m, o) → is_one k (calls_in xs) ≡ false
unfolding Fits calls_in node_of
stay_case n m [] who k o ne h e = refl
stay_case n m (x ∷ xs) who k o ne h e = both_false (nat_eq k x.call) (is_one k (calls_in xs)) (λ t. ne (ap node_of (sym e ∙ ap who (eqb-true k x.call t) ∙ h.0.0) ∙ h.0.1)) (stay_case n m xs who k o ne h.1 e)

other_stays : (n m : ℕ) (xs : List PendingCall) (who : Opened) (k : ℕ) (o : ClientOp) → m ≢ n → AllByRecursion (Fits n who) xs → who k ≡ Some (m, o) → without_all (calls_in xs) who k ≡ Some (m, o)
other_stays n m xs who k o ne h e = stays_open (calls_in xs) who k (stay_case n m xs who k o ne h e) ∙ e

-- ---- the node

none_wish : (c : Config) (x : Node) (db : ℕ) (key : List ℕ) → (state_at db key (restarted c x)).wish ≡ None
unfolding state_at restarted_db untouched or_nothing
none_wish c x db key = ap (λ (d : Database). (or_nothing (look key d.records)).wish) (restarts_each c x db)

none_commit : (c : Config) (x : Node) (db : ℕ) → (db_at db (restarted c x)).commit ≡ None
unfolding restarted_db untouched
none_commit c x db = ap (λ (d : Database). d.commit) (restarts_each c x db)

no_wish : (n : ℕ) (who : Opened) (db : ℕ) (key : List ℕ) → Wishful (Wished n who db key) None
unfolding Wishful
no_wish n who db key = tt

no_commit : (n : ℕ) (who : Opened) (db : ℕ) → Committed n who db None
unfolding Committed
no_commit n who db = tt

restarted_stands : (c : Config) (n : ℕ) (who : Opened) (x : Node) → ((k : ℕ) (o : ClientOp) → who k ≢ Some (n, o)) → Stands n who (restarted c x)
restarted_stands c n who x none = record {
  order = (restarts_in_order c x).1;
  wishes = λ db key. subst (λ w. Wishful (Wished n who db key) w) (sym (none_wish c x db key)) (no_wish n who db key);
  commits = λ db. subst (λ y. Committed n who db y) (sym (none_commit c x db)) (no_commit n who db);
  waits = λ k o e. absurd (none k o e);
}

-- ---- the cluster

fit_at : (n : ℕ) (w : Cluster) (who : Opened) → Stands n who (node_at n w) → AllByRecursion (Fits n who) (pending_at n w)
unfolding pending_at
fit_at n w who s = numbered_all (λ x. x.call) (Fits n who) (pending_in n 0 (node_at n w).dbs) (stands_fit n who (node_at n w) s)

one_at : (n : ℕ) (w : Cluster) (who : Opened) (k : ℕ) (o : ClientOp) → Stands n who (node_at n w) → who k ≡ Some (n, o) → is_one k (calls_in (pending_at n w)) ≡ true
unfolding pending_at
one_at n w who k o s e = any_one k (pending_at n w) (numbered_any (λ x. x.call) (is_call k) (pending_in n 0 (node_at n w).dbs) ∙ stands_any n who (node_at n w) k o s e)

abbrev after_stop : Config → ℕ → Cluster → Cluster
after_stop c n w = record (with_node n (restarted c (node_at n w)) w) { running = slice_set w.running n false; holder = without_holder n w.holder }

stopped_calls : (c : Config) (n : ℕ) (w : Cluster) (who : Opened) → Calls c w who → is_up n w ≡ true → Calls c (after_stop c n w) (without_all (calls_in (pending_at n w)) who)
unfolding with_node node_at is_up
stopped_calls c n w who h up =
    let y = restarted c (node_at n w) in
    let now = without_all (calls_in (pending_at n w)) who in
    let l = h.there n up in
    let inside : n < length w.nodes = subst (λ (k : ℕ). n < k) (sym h.size) l in
    record {
      size = length-set w.nodes n y ∙ h.size;
      there = λ m is. (start_calls c n false w who l h).there m is;
      sized = λ m k. ⊎_elim
          (λ (is : m ≡ n). subst (λ (j : ℕ). length (node_at j (with_node n y w)).dbs ≡ length c.dbs) (sym is) (ap (λ (x : Node). length x.dbs) (own_node n y w inside) ∙ (restarts_in_order c (node_at n w)).0 ∙ h.sized n l))
          (λ (ne : m ≢ n). ap (λ (x : Node). length x.dbs) (other_node n m y w ne) ∙ h.sized m k)
          (cases_eq m n);
      nodes = λ m. ⊎_elim
          (λ (is : m ≡ n). subst (λ (j : ℕ). Stands j now (node_at j (with_node n y w))) (sym is) (subst (λ (x : Node). Stands n now x) (sym (own_node n y w inside))
          (restarted_stands c n now (node_at n w) (λ k o e. none_left (calls_in (pending_at n w)) who k (n, o) (one_at n w who k o (h.nodes n) (was_open (calls_in (pending_at n w)) who k (n, o) e)) e))))
          (λ (ne : m ≢ n). subst (λ (x : Node). Stands m now x) (sym (other_node n m y w ne))
          (others_stand n m who now (node_at m w) (λ k o e. other_stays n m (pending_at n w) who k o ne (fit_at n w who (h.nodes n)) e) (λ k o e. was_open (calls_in (pending_at n w)) who k (m, o) e) (h.nodes m)))
          (cases_eq m n);
      given = λ k v e. h.given k v (was_open (calls_in (pending_at n w)) who k v e);
    }

stop_calls : (c : Config) (n : ℕ) (w : Cluster) (x : Stepped) (who : Opened) → Calls c w who → is_up n w ≡ true → stop c n w ≡ Ok x → Calls_after c who x
unfolding stop done closes AllAnswered
stop_calls c n w x who h up ok =
    let ps = pending_at n w in
    let v : Cluster = record (with_node n (restarted c (node_at n w)) w) { running = slice_set w.running n false; holder = without_holder n w.holder } in
    let same : record { cluster = v; lines = line.Stopped n ∷ gone ps } ≡ x = cc in
    subst (λ (y : Stepped). Calls_after c who y) same (record {
      calls = subst (λ (f : Opened). Calls c v f) (sym (closes_gone ps who)) (stopped_calls c n w who h up);
      answered = gone_answered ps who;
    })

stop_up : (c : Config) (w : Cluster) (n : ℕ) → fault_of c w (step.Stop n) ≡ None → is_up n w ≡ true
unfolding fault_of
stop_up c w n e = runs w n _ _ e

-- Every step: the calls that wait are exactly the open ones after it, and each answer was to an open call.
pub every_step : (c : Config) (rules : Rules) (w : Cluster) (s : Step) (x : Stepped) (who : Opened) → Calls c w who → fault_of c w s ≡ None → steps c rules w s ≡ Ok x → Calls_after c (opened_by w s who) x
every_step c rules w s x who h e ok = step_calls c rules w s x who (λ n is stopped. stop_calls c n w x who h (stops_up n is) stopped) h e ok
  where
    stops_up : (n : ℕ) → s ≡ step.Stop n → is_up n w ≡ true
    stops_up n is = stop_up c w n (subst (λ (q : Step). fault_of c w q ≡ None) is e)
