-- The calls that wait in a cluster are exactly the open ones of its run: so it is through every step.
use Rattle.std.proofs.Common.{◌≡◌, ◌≢◌, ℕ, zero, suc, ◌+◌, ◌<◌, ◌≤◌, Bool, true, false, cond, List, [], ◌∷◌, ◌++◌, length, set, Option, Some, None, refl, sym, ap, ◌∙◌, subst, arith, ⊎_elim}
use Rattle.std.specs.Prelude.{nat_eq, nat_lt, slice_get, Ok}
use Rattle.std.proofs.lemmas.Bool.{cases_eq, ne_eqb, ltb-true, cases_Bool}
use Rattle.std.proofs.lemmas.List.{length-set}
use Rattle.ct_values.specs.declared.client.ClientOp.{ClientOp}
use Rattle.ct_values.specs.declared.config.Config.{Config}
use Rattle.ct_frame.specs.declared.event.Event.{Event}
use Rattle.ct_frame.specs.declared.event.Event.TheVariants as event
use Rattle.ct_frame.specs.declared.event.Out.{Out}
use Rattle.ct_frame.specs.declared.event.Out.TheVariants as out
use Rattle.ct_call.specs.Rules.{Rules}
use Rattle.ct_rules_node.specs.Node.{Node, state_at, db_at}
use Rattle.ct_rules_node.specs.Turn.{Turn, begins}
use Rattle.ct_rules_node.specs.Steps.{happens}
use Rattle.ct_law_rules_node.proofs.Refusals.{first_none, required}
use Rattle.ct_law_rules_node.specs.NodeLaws.{NodeAscends}
use Rattle.ct_law_rules_node.proofs.Growing.{happens_in_order}
use Rattle.ct_rules_cluster.specs.Cluster.{Cluster, Sent, Fate, Delivered, Dropped, is_up, node_at, sent_at, able_from, is_true}
use Rattle.ct_rules_cluster.specs.Faults.{fault_of, no_such_node}
use Rattle.ct_rules_node.specs.Refusals.{first_of}
use Rattle.ct_rules_cluster.specs.Steps.{Stepped, with_node, put, fed, done, with_fate, deliver, drop, repeat, stop, recover, steps, lines_of}
use Rattle.ct_rules_cluster.specs.declared.step.Line.{Line}
use Rattle.ct_rules_cluster.specs.declared.step.Line.TheVariants as line
use Rattle.ct_rules_cluster.specs.declared.step.Step.{Step}
use Rattle.ct_rules_cluster.specs.declared.step.Step.TheVariants as step
use Rattle.ct_rules_cluster.specs.declared.step.StepFault.{StepFault}
use Rattle.ct_law_generation.proofs.Putting.{own_node, other_node}
use Rattle.ct_law_generation.proofs.Fed.{fed_is}
use Rattle.ct_law_generation.proofs.Faulting.{runs}
use Rattle.ct_law_generation.proofs.Opened.{Opened, without, without_all, answered_by, AllOpen, was_open, stays_case}
use Rattle.ct_law_generation.proofs.Accounts.{Stands, Account, wish_like, commit_like, with_call, own_call, other_call, none_other}
use Rattle.ct_law_generation.proofs.BirthEvents.{open_at, IsNew, happens_kept}

-- ---- what lines leave of the open calls

unfoldable pub closes : List Line → Opened → Opened
closes [] who = who
closes (line.Answered call a ∷ xs) who = closes xs (without call who)
closes (line.Gone call ∷ xs) who = closes xs (without call who)
closes (line.Sent k f ∷ xs) who = closes xs who
closes (line.Noted n x ∷ xs) who = closes xs who
closes (line.Ticket t n ∷ xs) who = closes xs who
closes (line.Yielded n ∷ xs) who = closes xs who
closes (line.Stopped n ∷ xs) who = closes xs who
closes (line.Started n ∷ xs) who = closes xs who
closes (line.Lost k ∷ xs) who = closes xs who

-- each answer is to a call that is open then
unfoldable pub AllAnswered : List Line → Opened → Type 0
AllAnswered [] who = Unit {0}
AllAnswered (line.Answered call a ∷ xs) who = ((v : ℕ × ClientOp) × who call ≡ Some v) × AllAnswered xs (without call who)
AllAnswered (line.Gone call ∷ xs) who = AllAnswered xs (without call who)
AllAnswered (line.Sent k f ∷ xs) who = AllAnswered xs who
AllAnswered (line.Noted n x ∷ xs) who = AllAnswered xs who
AllAnswered (line.Ticket t n ∷ xs) who = AllAnswered xs who
AllAnswered (line.Yielded n ∷ xs) who = AllAnswered xs who
AllAnswered (line.Stopped n ∷ xs) who = AllAnswered xs who
AllAnswered (line.Started n ∷ xs) who = AllAnswered xs who
AllAnswered (line.Lost k ∷ xs) who = AllAnswered xs who

-- a client's own call is open before the lines of its step
unfoldable pub opened_by : Cluster → Step → Opened → Opened
opened_by w (step.Client n o) who = with_call (w.calls + 1) (n, o) who
opened_by w s who = who

closes_of : (n k : ℕ) (xs : List Out) (who : Opened) → closes (lines_of n k xs) who ≡ without_all (answered_by xs) who
unfolding closes lines_of without_all answered_by
closes_of n k [] who = refl
closes_of n k (out.Send f ∷ xs) who = closes_of n (k + 1) xs who
closes_of n k (out.Answer call a ∷ xs) who = closes_of n k xs (without call who)
closes_of n k (out.Note x ∷ xs) who = closes_of n k xs who

answered_of : (n m k : ℕ) (xs : List Out) (who : Opened) → AllOpen n who (answered_by xs) → AllAnswered (lines_of m k xs) who
unfolding AllAnswered AllOpen lines_of answered_by
answered_of n m k [] who h = tt
answered_of n m k (out.Send f ∷ xs) who h = answered_of n m (k + 1) xs who h
answered_of n m k (out.Answer call a ∷ xs) who h = (((n, h.0.0), h.0.1), answered_of n m k xs (without call who) h.1)
answered_of n m k (out.Note x ∷ xs) who h = answered_of n m k xs who h

-- ---- the cluster

pub record Calls (c : Config) (w : Cluster) (who : Opened) : Type 0 where
  pub size : length w.nodes ≡ c.nodes
  pub there : (n : ℕ) → is_up n w ≡ true → n < c.nodes
  pub sized : (n : ℕ) → n < c.nodes → length (node_at n w).dbs ≡ length c.dbs
  pub nodes : (n : ℕ) → Stands n who (node_at n w)
  -- no number was given that is not counted
  pub given : (k : ℕ) (v : ℕ × ClientOp) → who k ≡ Some v → k ≤ w.calls

-- what a step leaves, and that it answers open calls
pub record Calls_after (c : Config) (who : Opened) (x : Stepped) : Type 0 where
  pub calls : Calls c x.cluster (closes x.lines who)
  pub answered : AllAnswered x.lines who

unfoldable pub node_of : Option (ℕ × ClientOp) → ℕ
node_of None = 0
node_of (Some v) = v.0

-- the calls of other nodes stay as they are
pub other_open : (n m : ℕ) (xs : List ℕ) (who : Opened) (k : ℕ) (o : ClientOp) → m ≢ n → AllOpen n who xs → who k ≡ Some (m, o) → without_all xs who k ≡ Some (m, o)
unfolding AllOpen without_all without node_of
other_open n m [] who k o ne h e = e
other_open n m (x ∷ xs) who k o ne h e = other_open n m xs (without x who) k o ne h.1
    (stays_case (nat_eq k x) (who k) (ne_eqb k x (λ (is : k ≡ x). ne (ap (λ (z : Option (ℕ × ClientOp)). node_of z) (sym e ∙ ap who is ∙ h.0.1)))) ∙ e)

pub others_stand : (n m : ℕ) (old now : Opened) (x : Node) → ((k : ℕ) (o : ClientOp) → old k ≡ Some (m, o) → now k ≡ Some (m, o)) → ((k : ℕ) (o : ClientOp) → now k ≡ Some (m, o) → old k ≡ Some (m, o)) → Stands m old x → Stands m now x
others_stand n m old now x on back s = record {
  order = s.order;
  wishes = λ db key. wish_like m old now db key (state_at db key x).wish (λ call o is e wants of_db of_key. on call o e) (s.wishes db key);
  commits = λ db. commit_like m old now db (db_at db x).commit (λ y is e. on y.call _ e) (s.commits db);
  waits = λ k o e. s.waits k o (back k o e);
}

-- ---- a step of a node

-- the event opens at most a call of its node
opened_other : (n m : ℕ) (e : Event) (c : Config) (who : Opened) (t : Turn) (k : ℕ) (o : ClientOp) → m ≢ n → open_at n e who k ≡ Some (m, o) → who k ≡ Some (m, o)
unfolding open_at node_of
opened_other n m (event.Client call asked) c who t k o ne e = ⊎_elim
    (λ (is : k ≡ call). absurd (ne (ap node_of (sym e ∙ ap (with_call call (n, asked) who) is ∙ own_call call (n, asked) who))))
    (λ (other : k ≢ call). sym (other_call call k (n, asked) who other) ∙ e)
    (cases_eq k call)
opened_other n m (event.Arrive f) c who t k o ne e = e
opened_other n m event.Retry c who t k o ne e = e
opened_other n m (event.Vacuum db) c who t k o ne e = e
opened_other n m (event.BeginRound ticket members) c who t k o ne e = e
opened_other n m (event.BeginTakeover able) c who t k o ne e = e

other_opened : (n m : ℕ) (e : Event) (c : Config) (who : Opened) (t : Turn) (k : ℕ) (o : ClientOp) → IsNew c e who t → who k ≡ Some (m, o) → open_at n e who k ≡ Some (m, o)
unfolding open_at IsNew
other_opened n m (event.Client call asked) c who t k o new e = other_call call k (n, asked) who (none_other who call k (m, o) new.0 e) ∙ e
other_opened n m (event.Arrive f) c who t k o new e = e
other_opened n m event.Retry c who t k o new e = e
other_opened n m (event.Vacuum db) c who t k o new e = e
other_opened n m (event.BeginRound ticket members) c who t k o new e = e
other_opened n m (event.BeginTakeover able) c who t k o new e = e

-- each number that is open is counted
unfoldable IsGiven : ℕ → Opened → Type 0
IsGiven calls who = (k : ℕ) (v : ℕ × ClientOp) → who k ≡ Some v → k ≤ calls

same_up : (m n : ℕ) (x : Node) (v : Cluster) → is_up m (with_node n x v) ≡ true → is_up m v ≡ true
unfolding with_node is_up
same_up m n x v e = e

size_kept : (c : Config) (rules : Rules) (n : ℕ) (x : Node) (e : Event) → NodeAscends x → length (happens c rules n (begins x) e).node.dbs ≡ length x.dbs
size_kept c rules n x e order = (happens_in_order c rules n (begins x) e).dbs

-- What the event makes of its node, and the lines of that: the calls of the cluster are exactly the open ones again.
put_calls : (c : Config) (rules : Rules) (n : ℕ) (e : Event) (own : List Line) (v : Cluster) (who : Opened) → Calls c v who → is_up n v ≡ true → IsNew c e who (begins (node_at n v)) → IsGiven v.calls (open_at n e who) →
    ((xs : List Line) (f : Opened) → closes (own ++ xs) f ≡ closes xs f) → ((xs : List Line) (f : Opened) → AllAnswered xs f → AllAnswered (own ++ xs) f) →
    Calls_after c (open_at n e who) (put n (happens c rules n (begins (node_at n v)) e) own v)
unfolding put IsGiven with_node node_at is_up
put_calls c rules n e own v who h up new given quiet tells =
    let u = happens c rules n (begins (node_at n v)) e in
    let now = open_at n e who in
    let kept : Account now n u = happens_kept who c rules n (node_at n v) e new (h.nodes n) in
    let inside : n < length v.nodes = subst (λ (l : ℕ). n < l) (sym h.size) (h.there n up) in
    let left : closes (own ++ lines_of n (length v.sent + 1) u.outs) now ≡ without_all (answered_by u.outs) now = quiet _ now ∙ closes_of n (length v.sent + 1) u.outs now in
    record {
      calls = subst (λ (f : Opened). Calls c (put n u own v).cluster f) (sym left) (record {
        size = length-set v.nodes n u.node ∙ h.size;
        there = λ m is. h.there m (same_up m n u.node v is);
        sized = λ m l. ⊎_elim
            (λ (is : m ≡ n). subst (λ (j : ℕ). length (node_at j (with_node n u.node v)).dbs ≡ length c.dbs) (sym is) (ap (λ (x : Node). length x.dbs) (own_node n u.node v inside) ∙ size_kept c rules n (node_at n v) e (h.nodes n).order ∙ h.sized n (h.there n up)))
            (λ (ne : m ≢ n). ap (λ (x : Node). length x.dbs) (other_node n m u.node v ne) ∙ h.sized m l)
            (cases_eq m n);
        nodes = λ m. ⊎_elim
            (λ (is : m ≡ n). subst (λ (j : ℕ). Stands j (without_all (answered_by u.outs) now) (node_at j (with_node n u.node v))) (sym is)
            (subst (λ (x : Node). Stands n (without_all (answered_by u.outs) now) x) (sym (own_node n u.node v inside)) kept.stands))
            (λ (ne : m ≢ n). subst (λ (x : Node). Stands m (without_all (answered_by u.outs) now) x) (sym (other_node n m u.node v ne))
            (others_stand n m who (without_all (answered_by u.outs) now) (node_at m v)
            (λ k o is. other_open n m (answered_by u.outs) now k o ne kept.asked (other_opened n m e c who (begins (node_at n v)) k o new is))
            (λ k o is. opened_other n m e c who (begins (node_at n v)) k o ne (was_open (answered_by u.outs) now k (m, o) is))
            (h.nodes m)))
            (cases_eq m n);
        given = λ k x is. given k x (was_open (answered_by u.outs) now k x is);
      });
      answered = tells _ now (answered_of n n (length v.sent + 1) u.outs now kept.asked);
    }

fed_calls : (c : Config) (rules : Rules) (n : ℕ) (e : Event) (own : List Line) (v : Cluster) (x : Stepped) (who : Opened) → Calls c v who → is_up n v ≡ true → IsNew c e who (begins (node_at n v)) → IsGiven v.calls (open_at n e who) →
    ((xs : List Line) (f : Opened) → closes (own ++ xs) f ≡ closes xs f) → ((xs : List Line) (f : Opened) → AllAnswered xs f → AllAnswered (own ++ xs) f) →
    fed c rules n e own v ≡ Ok x → Calls_after c (open_at n e who) x
fed_calls c rules n e own v x who h up new given quiet tells ok = subst (λ (y : Stepped). Calls_after c (open_at n e who) y) (sym (fed_is c rules n e own v x ok).1) (put_calls c rules n e own v who h up new given quiet tells)

-- no event: the nodes are as they were
done_calls : (c : Config) (lines : List Line) (w v : Cluster) (x : Stepped) (who : Opened) → Calls c v who → ((f : Opened) → closes lines f ≡ f) → AllAnswered lines who → done lines v ≡ Ok x → Calls_after c who x
unfolding done
done_calls c lines w v x who h quiet all ok = (let same : record { cluster = v; lines = lines } ≡ x = cc in
    subst (λ (y : Stepped). Calls_after c who y) same (record { calls = subst (λ (f : Opened). Calls c v f) (sym (quiet who)) h; answered = all }))

-- ---- every step but a stop

fate_calls : (c : Config) (k : ℕ) (m : Sent) (f : Fate) (w : Cluster) (who : Opened) → Calls c w who → Calls c (with_fate k m f w) who
unfolding with_fate node_at is_up
fate_calls c zero m f w who h = h
fate_calls c (suc k) m f w who h = record { size = h.size; there = h.there; sized = h.sized; nodes = h.nodes; given = h.given }

fate_up : (n k : ℕ) (m : Sent) (f : Fate) (w : Cluster) → is_up n w ≡ true → is_up n (with_fate k m f w) ≡ true
unfolding with_fate is_up
fate_up n zero m f w e = e
fate_up n (suc k) m f w e = e

arrive_calls : (c : Config) (rules : Rules) (n : ℕ) (e : Event) (v : Cluster) (x : Stepped) (who : Opened) → Calls c v who → is_up n v ≡ true → open_at n e who ≡ who → IsNew c e who (begins (node_at n v)) → fed c rules n e [] v ≡ Ok x → Calls_after c who x
unfolding IsGiven
arrive_calls c rules n e v x who h up same new ok = subst (λ (f : Opened). Calls_after c f x) same (fed_calls c rules n e [] v x who h up new (subst (λ (f : Opened). IsGiven v.calls f) (sym same) h.given) (λ xs f. refl) (λ xs f a. a) ok)

deliver_calls : (c : Config) (rules : Rules) (k : ℕ) (w : Cluster) (m : Option Sent) (x : Stepped) (who : Opened) → Calls c w who → deliver c rules k w m ≡ Ok x → Calls_after c who x
unfolding deliver closes AllAnswered open_at IsNew
deliver_calls c rules k w None x who h ok = done_calls c [] w w x who h (λ f. refl) tt ok
deliver_calls c rules k w (Some m) x who h ok = ⊎_elim
    (λ (t : is_up m.frame.receiver w ≡ true). arrive_calls c rules m.frame.receiver (event.Arrive m.frame) (with_fate k m Delivered w) x who (fate_calls c k m Delivered w who h) (fate_up m.frame.receiver k m Delivered w t) refl tt
    (subst (λ (b : Bool). cond b (fed c rules m.frame.receiver (event.Arrive m.frame) [] (with_fate k m Delivered w)) (done (line.Lost k ∷ []) (with_fate k m Dropped w)) ≡ Ok x) t ok))
    (λ (f : is_up m.frame.receiver w ≡ false). done_calls c (line.Lost k ∷ []) w (with_fate k m Dropped w) x who (fate_calls c k m Dropped w who h) (λ g. refl) tt
    (subst (λ (b : Bool). cond b (fed c rules m.frame.receiver (event.Arrive m.frame) [] (with_fate k m Delivered w)) (done (line.Lost k ∷ []) (with_fate k m Dropped w)) ≡ Ok x) f ok))
    (cases_Bool (is_up m.frame.receiver w))

repeat_calls : (c : Config) (rules : Rules) (k : ℕ) (w : Cluster) (m : Option Sent) (x : Stepped) (who : Opened) → Calls c w who → repeat c rules k w m ≡ Ok x → Calls_after c who x
unfolding repeat closes AllAnswered open_at IsNew
repeat_calls c rules k w None x who h ok = done_calls c [] w w x who h (λ f. refl) tt ok
repeat_calls c rules k w (Some m) x who h ok = ⊎_elim
    (λ (t : is_up m.frame.receiver w ≡ true). arrive_calls c rules m.frame.receiver (event.Arrive m.frame) w x who h t refl tt
    (subst (λ (b : Bool). cond b (fed c rules m.frame.receiver (event.Arrive m.frame) [] w) (done (line.Lost k ∷ []) w) ≡ Ok x) t ok))
    (λ (f : is_up m.frame.receiver w ≡ false). done_calls c (line.Lost k ∷ []) w w x who h (λ g. refl) tt
    (subst (λ (b : Bool). cond b (fed c rules m.frame.receiver (event.Arrive m.frame) [] w) (done (line.Lost k ∷ []) w) ≡ Ok x) f ok))
    (cases_Bool (is_up m.frame.receiver w))

drop_calls : (c : Config) (k : ℕ) (w : Cluster) (m : Option Sent) (x : Stepped) (who : Opened) → Calls c w who → drop k w m ≡ Ok x → Calls_after c who x
unfolding drop closes AllAnswered
drop_calls c k w None x who h ok = done_calls c [] w w x who h (λ f. refl) tt ok
drop_calls c k w (Some m) x who h ok = done_calls c [] w _ x who (fate_calls c k m Dropped w who h) (λ f. refl) tt ok

-- the next number was never given
pub fresh_call : (c : Config) (w : Cluster) (who : Opened) → Calls c w who → who (w.calls + 1) ≡ None
fresh_call c w who h = cases (who (w.calls + 1)) refl
  where
    cases : (v : Option (ℕ × ClientOp)) → who (w.calls + 1) ≡ v → who (w.calls + 1) ≡ None
    cases None e = e
    cases (Some v) e = absurd (let l = h.given (w.calls + 1) v e in omega arith)

more_given : (calls n : ℕ) (o : ClientOp) (who : Opened) → ((k : ℕ) (v : ℕ × ClientOp) → who k ≡ Some v → k ≤ calls) → (k : ℕ) (v : ℕ × ClientOp) → with_call (calls + 1) (n, o) who k ≡ Some v → k ≤ calls + 1
more_given calls n o who given k v e = ⊎_elim
    (λ (is : k ≡ calls + 1). omega arith)
    (λ (ne : k ≢ calls + 1). (let l = given k v (sym (other_call (calls + 1) k (n, o) who ne) ∙ e) in omega arith))
    (cases_eq k (calls + 1))

client_calls : (c : Config) (rules : Rules) (n : ℕ) (o : ClientOp) (w : Cluster) (x : Stepped) (who : Opened) → Calls c w who → is_up n w ≡ true → fed c rules n (event.Client (w.calls + 1) o) [] (record w { calls = w.calls + 1 }) ≡ Ok x → Calls_after c (with_call (w.calls + 1) (n, o) who) x
unfolding node_at is_up IsNew open_at IsGiven
client_calls c rules n o w x who h up ok = fed_calls c rules n (event.Client (w.calls + 1) o) [] (record w { calls = w.calls + 1 }) x who
    (record { size = h.size; there = h.there; sized = h.sized; nodes = h.nodes; given = λ k v e. (let l = h.given k v e in omega arith) }) up
    (fresh_call c w who h, h.sized n (h.there n up)) (more_given w.calls n o who h.given) (λ xs f. refl) (λ xs f a. a) ok

up_set : (bs : List Bool) (n m : ℕ) (b : Bool) → m ≢ n → slice_get (set bs n b) m ≡ slice_get bs m
up_set [] n m b ne = refl
up_set (x ∷ xs) zero zero b ne = absurd (ne refl)
up_set (x ∷ xs) zero (suc m) b ne = refl
up_set (x ∷ xs) (suc n) zero b ne = refl
up_set (x ∷ xs) (suc n) (suc m) b ne = up_set xs n m b (λ is. ne (ap suc is))

pub start_calls : (c : Config) (n : ℕ) (b : Bool) (w : Cluster) (who : Opened) → n < c.nodes → Calls c w who → Calls c (record w { running = set w.running n b }) who
unfolding node_at is_up
start_calls c n b w who l h = record {
  size = h.size;
  there = λ m is. ⊎_elim (λ (same : m ≡ n). subst (λ (j : ℕ). j < c.nodes) (sym same) l) (λ (ne : m ≢ n). h.there m (sym (ap is_true (up_set w.running n m b ne)) ∙ is)) (cases_eq m n);
  sized = h.sized;
  nodes = h.nodes;
  given = h.given;
}

-- the recovery lock, tickets and who is able are no matter of calls
recover_calls : (c : Config) (rules : Rules) (n : ℕ) (members : List ℕ) (w : Cluster) (x : Stepped) (who : Opened) → Calls c w who → is_up n w ≡ true → recover c rules n members w ≡ Ok x → Calls_after c who x
unfolding recover node_at is_up IsNew open_at closes AllAnswered IsGiven
recover_calls c rules n members w x who h up ok = fed_calls c rules n (event.BeginRound (w.ticket + 1) members) (line.Ticket (w.ticket + 1) n ∷ []) (record w { holder = Some n; ticket = w.ticket + 1 }) x who
    (record { size = h.size; there = h.there; sized = h.sized; nodes = h.nodes; given = h.given }) up tt h.given (λ xs f. refl) (λ xs f a. a) ok

beside_calls : (c : Config) (w : Cluster) (holder : Option ℕ) (able : List Bool) (who : Opened) → Calls c w who → Calls c (record w { holder = holder; able = able }) who
unfolding node_at is_up
beside_calls c w holder able who h = record { size = h.size; there = h.there; sized = h.sized; nodes = h.nodes; given = h.given }

is_node : (c : Config) (w : Cluster) (n : ℕ) (rest : List (Option StepFault)) → first_of (no_such_node c n ∷ rest) ≡ None → n < c.nodes
unfolding no_such_node
is_node c w n rest e = ltb-true n c.nodes (required (nat_lt n c.nodes) _ (first_none _ _ e).0)

-- Every step but a stop: the calls that wait are exactly the open ones after it, and each answer was to an open call.
pub step_calls : (c : Config) (rules : Rules) (w : Cluster) (s : Step) (x : Stepped) (who : Opened) → ((n : ℕ) → s ≡ step.Stop n → stop c n w ≡ Ok x → Calls_after c who x) → Calls c w who → fault_of c w s ≡ None → steps c rules w s ≡ Ok x → Calls_after c (opened_by w s who) x
unfolding steps fault_of opened_by closes AllAnswered IsNew open_at
step_calls c rules w (step.Client n o) x who stops h e ok = client_calls c rules n o w x who h (runs w n _ _ e) ok
step_calls c rules w (step.Deliver k) x who stops h e ok = deliver_calls c rules k w (sent_at k w) x who h ok
step_calls c rules w (step.Drop k) x who stops h e ok = drop_calls c k w (sent_at k w) x who h ok
step_calls c rules w (step.Repeat k) x who stops h e ok = repeat_calls c rules k w (sent_at k w) x who h ok
step_calls c rules w (step.Retry n) x who stops h e ok = arrive_calls c rules n event.Retry w x who h (runs w n _ _ e) refl tt ok
step_calls c rules w (step.Vacuum n db) x who stops h e ok = arrive_calls c rules n (event.Vacuum db) w x who h (runs w n _ _ e) refl tt ok
step_calls c rules w (step.Recover n members) x who stops h e ok = recover_calls c rules n members w x who h (runs w n _ _ e) ok
step_calls c rules w (step.Yield n) x who stops h e ok = done_calls c (line.Yielded n ∷ []) w _ x who (beside_calls c w None w.able who h) (λ f. refl) tt ok
step_calls c rules w (step.Stop n) x who stops h e ok = stops n refl ok
step_calls c rules w (step.Start n) x who stops h e ok = done_calls c (line.Started n ∷ []) w _ x who (start_calls c n true w who (is_node c w n _ e) h) (λ f. refl) tt ok
step_calls c rules w (step.Takeover n) x who stops h e ok = arrive_calls c rules n (event.BeginTakeover (able_from 0 w.able)) w x who h (runs w n _ _ e) refl tt ok
step_calls c rules w (step.Able n able) x who stops h e ok = done_calls c [] w _ x who (beside_calls c w w.holder _ who h) (λ f. refl) tt ok
