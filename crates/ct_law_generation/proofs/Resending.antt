-- Retry of records: each has its Call sent again, and then its Revokes, once.
use Rattle.std.proofs.Common.{◌≡◌, ◌≢◌, ℕ, zero, suc, ◌+◌, ◌<◌, ◌≤◌, Bool, true, false, cond, ◌&&◌, List, [], ◌∷◌, ◌++◌, append-nil, length, Option, Some, None, refl, sym, ap, ◌∙◌, arith, subst, append_assoc}
use Rattle.std.specs.Prelude.{slice_get, ◌||◌}
use Rattle.std.specs.Ordering.{is_eq}
use Rattle.std.specs.List.{filter}
use Rattle.std.proofs.lemmas.List.Elements.{filter-append}
use Rattle.std.specs.List.Sorted.{IsStrictlySortedBy}
use Rattle.ct_values.specs.Key.{key_cmp}
use Rattle.ct_values.specs.declared.config.Config.{Config}
use Rattle.ct_store.specs.Map.{Pairs, Ascends, look}
use Rattle.ct_store.proofs.Maps.{one_key, equal}
use Rattle.ct_rules.specs.Moves.{call_again, revoke_again}
use Rattle.ct_rules.specs.Parts.{Moving}
use Rattle.ct_rules.specs.declared.event.Place.{Place}
use Rattle.ct_rules.specs.declared.state.RecState.{RecState}
use Rattle.ct_rules.specs.declared.state.Wish.{Wish}
use Rattle.ct_rules_node.specs.Node.{Node, Database, untouched, or_untouched, is_among}
use Rattle.ct_rules_node.specs.Turn.{Turn}
use Rattle.ct_rules_node.specs.Rounds.{Called, called_of, calls_of, calls_in, pending_calls}
use Rattle.ct_rules_node.specs.Retries.{call_all, revoke_all, revoke_in}
use Rattle.ct_law_rules_node.specs.NodeLaws.{AllAscend, is_called_at}
use Rattle.ct_law_rules_node.proofs.Keys.{below_unseen}
use Rattle.ct_law_rules_node.proofs.Installed.{same_number}
use Rattle.ct_law_rules_node.proofs.Tables.{another_db}
use Rattle.ct_law_record.specs.World.{Mail}
use Rattle.ct_law_generation.proofs.Retried.{at_all, times, AllInside}
use Rattle.std.specs.Prelude.{nat_eq}
use Rattle.ct_values.specs.declared.client.ClientOp.{ClientOp}
use Rattle.ct_call.specs.Rules.{Rules}
use Rattle.ct_rules.specs.Moves.{move}
use Rattle.ct_rules.specs.declared.event.Act.{Act}
use Rattle.ct_rules.specs.declared.event.MoveEvent.TheVariants as event
use Rattle.ct_rules_node.specs.Node.{or_nothing, state_at, db_at}
use Rattle.ct_law_rules_node.proofs.Waiting.{calls_each}
use Rattle.ct_law_rules_node.proofs.Numbered.{numbered_all}
use Rattle.ct_rules_cluster.specs.Steps.{frames_of}
use Rattle.ct_rules_cluster.specs.declared.step.PendingCall.{PendingCall}
use Rattle.ct_law_record.specs.Labels as law
use Rattle.ct_law_record.specs.World.{View, World, Resends, place, starts, sent, told, answers, call_of, waiting_call, Stepped, put, happens}
use Rattle.ct_law_generation.specs.Shown.{Era, scene, view, mails, told_by_all, heard, labels_of, amid, Comes_by}
use Rattle.ct_law_generation.proofs.Pending.{Callers}
use Rattle.ct_law_generation.proofs.Amid.{if_same, here, self, put_world}
use Rattle.ct_law_generation.proofs.Staying.{NodeStays}
use Rattle.ct_law_generation.proofs.Following.{Goes_on}
use Rattle.ct_law_generation.proofs.Retried.{more, calls_sent, revokes_sent, resend_is, sent_more, calls_untold, revokes_untold, calls_at, revokes_at, Retries_at, Passes, passes_more, calls_just, revokes_just, all_passes, all_mail}

-- ---- as lists of records

-- the records that are kept in a database, by key
unfoldable pub places_of : ℕ → Pairs RecState → List Called
places_of db [] = []
places_of db (e ∷ m) = record { call = 0; db = db; key = e.0 } ∷ places_of db m

-- the records that are kept, by database and key; i is the number of the first of these databases
unfoldable pub places_in : ℕ → List Database → List Called
places_in i [] = []
places_in i (d ∷ ds) = places_of i d.records ++ places_in (i + 1) ds

at_all_more : (c : Config) (n : ℕ) (part : Place → Moving → Moving) (xs ys : List Called) (t : Turn) → at_all c n part (xs ++ ys) t ≡ at_all c n part ys (at_all c n part xs t)
unfolding at_all
at_all_more c n part [] ys t = refl
at_all_more c n part (x ∷ xs) ys t = at_all_more c n part xs ys _

pub call_all_is : (c : Config) (n : ℕ) (xs : List Called) (t : Turn) → call_all c n xs t ≡ at_all c n call_again xs t
unfolding call_all at_all
call_all_is c n [] t = refl
call_all_is c n (x ∷ xs) t = call_all_is c n xs _

revoke_all_is : (c : Config) (n db : ℕ) (m : Pairs RecState) (t : Turn) → revoke_all c n db m t ≡ at_all c n revoke_again (places_of db m) t
unfolding revoke_all at_all places_of
revoke_all_is c n db [] t = refl
revoke_all_is c n db (e ∷ m) t = revoke_all_is c n db m _

pub revoke_in_is : (c : Config) (n i : ℕ) (ds : List Database) (t : Turn) → revoke_in c n i ds t ≡ at_all c n revoke_again (places_in i ds) t
unfolding revoke_in places_in at_all
revoke_in_is c n i [] t = refl
revoke_in_is c n i (d ∷ ds) t = revoke_in_is c n (i + 1) ds _ ∙ ap (at_all c n revoke_again (places_in (i + 1) ds)) (revoke_all_is c n i d.records t) ∙ sym (at_all_more c n revoke_again (places_of i d.records) (places_in (i + 1) ds) t)

-- ---- each record once

abbrev At : ℕ → List ℕ → List Called → List Called
At db key xs = filter (is_called_at db key) xs

-- what is kept is met once, and else nothing is
unfoldable pub Meets : Option RecState → List Called → Type 0
Meets None xs = xs ≡ []
Meets (Some s) xs = (m : List Mail) → times xs m ≡ m

places_case : (x : Called) (s : RecState) (before : Option RecState) (rest : List Called) (t : Bool) → (t ≡ true → rest ≡ []) → Meets before rest → Meets (cond t (Some s) before) (cond t (x ∷ rest) rest)
unfolding Meets times
places_case x s before rest true none ih = λ m. ap (λ (l : List Called). m ++ times l m) (none refl) ∙ append-nil m
places_case x s before rest false none ih = ih

meets_none : (o : Option RecState) (xs : List Called) → o ≡ None → Meets o xs → xs ≡ []
unfolding Meets
meets_none None xs e h = h
meets_none (Some s) xs e h = absurd (cc)

other_places : (db i : ℕ) (key : List ℕ) (m : Pairs RecState) → db ≢ i → At db key (places_of i m) ≡ []
unfolding places_of is_called_at
other_places db i key [] n = refl
other_places db i key (e ∷ m) n = ap (λ (b : Bool). cond (b && is_eq (key_cmp key e.0)) (record { call = 0; db = i; key = e.0 } ∷ At db key (places_of i m)) (At db key (places_of i m))) (another_db db i n) ∙ other_places db i key m n

places_seen : (db : ℕ) (key : List ℕ) (m : Pairs RecState) → Ascends m → Meets (look key m) (At db key (places_of db m))
unfolding places_of is_called_at IsStrictlySortedBy Meets
places_seen db key [] h = refl
places_seen db key (e ∷ m) h =
    let x : Called = record { call = 0; db = db; key = e.0 } in
    let rest = At db key (places_of db m) in
    let ih = places_seen db key m h.1 in
    let none : is_eq (key_cmp key e.0) ≡ true → rest ≡ [] = λ t. meets_none (look key m) rest (subst (λ (k : List ℕ). look k m ≡ None) (sym (one_key key e.0 (equal _ t))) (below_unseen e.0 m h.0)) ih in
    subst (λ (b : Bool). Meets (look key (e ∷ m)) (cond (b && is_eq (key_cmp key e.0)) (x ∷ rest) rest)) (sym (same_number db)) (places_case x e.1 (look key m) rest (is_eq (key_cmp key e.0)) none ih)

none_before : (j i : ℕ) (key : List ℕ) (dbs : List Database) → j < i → At j key (places_in i dbs) ≡ []
unfolding places_in
none_before j i key [] l = refl
none_before j i key (d ∷ ds) l =
    filter-append (is_called_at j key) (places_of i d.records) (places_in (i + 1) ds)
    ∙ (λ q. other_places j i key d.records (λ (e : j ≡ i). omega arith) q ++ none_before j (i + 1) key ds (omega arith) q)

pub all_meets : (i k j : ℕ) (key : List ℕ) (dbs : List Database) → j ≡ i + k → AllAscend dbs → Meets (look key (or_untouched (slice_get dbs k)).records) (At j key (places_in i dbs))
unfolding places_in AllAscend or_untouched untouched Meets
all_meets i k j key [] e h = refl
all_meets i zero j key (d ∷ ds) e h =
    subst (λ (l : List Called). Meets (look key d.records) l)
    (sym (filter-append (is_called_at j key) (places_of i d.records) (places_in (i + 1) ds) ∙ ap (λ (l : List Called). At j key (places_of i d.records) ++ l) (none_before j (i + 1) key ds (omega arith)) ∙ append-nil (At j key (places_of i d.records))))
    (subst (λ (q : ℕ). Meets (look key d.records) (At j key (places_of q d.records))) (omega arith) (places_seen j key d.records h.0))
all_meets i (suc k) j key (d ∷ ds) e h =
    subst (λ (l : List Called). Meets (look key (or_untouched (slice_get ds k)).records) l)
    (sym (filter-append (is_called_at j key) (places_of i d.records) (places_in (i + 1) ds) ∙ ap (λ (l : List Called). l ++ At j key (places_in (i + 1) ds)) (other_places j i key d.records (λ (q : j ≡ i). omega arith))))
    (all_meets (i + 1) k j key ds (omega arith) h.1)

-- ---- all of them are of databases that are there

both_inside : (c : Config) (xs ys : List Called) → AllInside c xs → AllInside c ys → AllInside c (xs ++ ys)
both_inside c [] ys h k = k
both_inside c (x ∷ xs) ys h k = (h.0, both_inside c xs ys h.1 k)

places_inside : (c : Config) (db : ℕ) (m : Pairs RecState) → db < length c.dbs → AllInside c (places_of db m)
unfolding places_of
places_inside c db [] l = tt
places_inside c db (e ∷ m) l = (l, places_inside c db m l)

pub all_inside : (c : Config) (i : ℕ) (ds : List Database) → i + length ds ≤ length c.dbs → AllInside c (places_in i ds)
unfolding places_in
all_inside c i [] l = tt
all_inside c i (d ∷ ds) l = both_inside c (places_of i d.records) (places_in (i + 1) ds) (places_inside c i d.records (omega arith)) (all_inside c (i + 1) ds (omega arith))

called_inside : (c : Config) (db : ℕ) (key : List ℕ) (w : Option Wish) → db < length c.dbs → AllInside c (called_of db key w)
unfolding called_of
called_inside c db key None l = tt
called_inside c db key (Some w) l = (l, tt)

calls_inside : (c : Config) (db : ℕ) (m : Pairs RecState) → db < length c.dbs → AllInside c (calls_of db m)
unfolding calls_of
calls_inside c db [] l = tt
calls_inside c db (e ∷ m) l = both_inside c (called_of db e.0 e.1.wish) (calls_of db m) (called_inside c db e.0 e.1.wish l) (calls_inside c db m l)

in_inside : (c : Config) (i : ℕ) (ds : List Database) → i + length ds ≤ length c.dbs → AllInside c (calls_in i ds)
unfolding calls_in
in_inside c i [] l = tt
in_inside c i (d ∷ ds) l = both_inside c (calls_of i d.records) (calls_in (i + 1) ds) (calls_inside c i d.records (omega arith)) (in_inside c (i + 1) ds (omega arith))

pub pending_inside : (c : Config) (x : Node) → length x.dbs ≡ length c.dbs → AllInside c (pending_calls x)
unfolding pending_calls
pending_inside c x e = numbered_all (λ x. x.call) (λ x. x.db < length c.dbs) (calls_in 0 x.dbs) (in_inside c 0 x.dbs (omega arith))

-- ---- from the node to the world of each record

told_more : (n : ℕ) (asks : ℕ → Option ClientOp) (xs ys : List Act) → told n asks xs ≡ [] → told n asks ys ≡ [] → told n asks (xs ++ ys) ≡ []
unfolding told
told_more n asks [] ys e f = f
told_more n asks (x ∷ xs) ys e f = first (answers n (asks (call_of x)) x) (told n asks xs) (told n asks (xs ++ ys)) e (λ r. told_more n asks xs ys r f)
  where
    first : (a b d : List law.Label) → a ++ b ≡ [] → (b ≡ [] → d ≡ []) → a ++ d ≡ []
    first [] b d e g = g e
    first (x ∷ xs) b d e g = absurd (cc)

wish_times : (n db : ℕ) (key : List ℕ) (at : Place) (w : Option Wish) → times (called_of db key w) (sent n (calls_sent at w)) ≡ sent n (calls_sent at w)
unfolding times called_of calls_sent sent
wish_times n db key at None = refl
wish_times n db key at (Some w) = append-nil (sent n (calls_sent at (Some w)))

revoke_times : (n : ℕ) (at : Place) (o : Option RecState) (xs : List Called) → Meets o xs → times xs (sent n (revokes_sent at (or_nothing o).tracking.revoking)) ≡ sent n (revokes_sent at (or_nothing o).tracking.revoking)
unfolding Meets times or_nothing revokes_sent sent
revoke_times n at None xs h = ap (λ (l : List Called). times l []) h
revoke_times n at (Some s) xs h = h (sent n (revokes_sent at s.tracking.revoking))

-- Calls, then Revokes
abbrev pub resends_of : Config → ℕ → Turn → Turn
resends_of c n t = revoke_in c n 0 t.node.dbs (call_all c n (pending_calls t.node) t)

calls_passes : (c : Config) (era : Era) (rules : Rules) (who : Callers) (calls n : ℕ) (pend : List PendingCall) (t : Turn) → Retries_at c n → NodeStays c era rules who calls n t.node → Passes c era rules who calls n pend t (call_all c n (pending_calls t.node) t)
calls_passes c era rules who calls n pend t r h = subst (λ (u : Turn). Passes c era rules who calls n pend t u) (sym (call_all_is c n (pending_calls t.node) t))
    (all_passes c era rules who calls n pend call_again (calls_at c era rules n) (pending_calls t.node) t (λ db key t h l. calls_just c era rules who calls n db key t r h l) (pending_inside c t.node h.size) h)

pub resends_passes : (c : Config) (era : Era) (rules : Rules) (who : Callers) (calls n : ℕ) (pend : List PendingCall) (t : Turn) → Retries_at c n → NodeStays c era rules who calls n t.node → Passes c era rules who calls n pend t (resends_of c n t)
resends_passes c era rules who calls n pend t r h =
    let u = call_all c n (pending_calls t.node) t in
    let a = calls_passes c era rules who calls n pend t r h in
    passes_more c era rules who calls n pend t u (resends_of c n t) a (subst (λ (v : Turn). Passes c era rules who calls n pend u v) (sym (revoke_in_is c n 0 t.node.dbs u))
    (all_passes c era rules who calls n pend revoke_again (revokes_at c era rules n) (places_in 0 t.node.dbs) u (λ db key t h l. revokes_just c era rules who calls n db key t r h l) (all_inside c 0 t.node.dbs (let s = h.size in omega arith)) a.stays))

pub resends_mail : (c : Config) (era : Era) (rules : Rules) (who : Callers) (calls n db : ℕ) (key : List ℕ) (t : Turn) → Retries_at c n → NodeStays c era rules who calls n t.node →
    mails era.number db key (frames_of (resends_of c n t).outs) ≡ (mails era.number db key (frames_of t.outs) ++ sent n (calls_at c era rules n db key (view db key t.node))) ++ sent n (revokes_at c era rules n db key (view db key t.node))
unfolding state_at db_at
resends_mail c era rules who calls n db key t r h =
    let v = view db key t.node in
    let u = call_all c n (pending_calls t.node) t in
    let a = calls_passes c era rules who calls n [] t r h in
    let first = ap (λ (x : Turn). mails era.number db key (frames_of x.outs)) (call_all_is c n (pending_calls t.node) t)
    ∙ all_mail c era rules who calls n call_again (calls_at c era rules n) (pending_calls t.node) t (λ db key t h l. calls_just c era rules who calls n db key t r h l) (pending_inside c t.node h.size) h db key
    ∙ ap (λ (l : List Called). mails era.number db key (frames_of t.outs) ++ times l (sent n (calls_at c era rules n db key v))) (calls_each t.node h.known.order db key)
    ∙ ap (λ (m : List Mail). mails era.number db key (frames_of t.outs) ++ m) (wish_times n db key (place (scene c era rules db key) n v) v.state.wish) in
    ap (λ (x : Turn). mails era.number db key (frames_of x.outs)) (revoke_in_is c n 0 t.node.dbs u)
    ∙ all_mail c era rules who calls n revoke_again (revokes_at c era rules n) (places_in 0 t.node.dbs) u (λ db key t h l. revokes_just c era rules who calls n db key t r h l) (all_inside c 0 t.node.dbs (let s = h.size in omega arith)) a.stays db key
    ∙ ap (λ (x : View). mails era.number db key (frames_of u.outs) ++ times (At db key (places_in 0 t.node.dbs)) (sent n (revokes_at c era rules n db key x))) (a.same db key)
    ∙ ap (λ (m : List Mail). mails era.number db key (frames_of u.outs) ++ m) (revoke_times n (place (scene c era rules db key) n v) _ _ (all_meets 0 db db key t.node.dbs (omega arith) h.known.order))
    ∙ ap (λ (m : List Mail). m ++ sent n (revokes_at c era rules n db key v)) first

-- what the world's Resend leaves
abbrev resent : Config → Era → Rules → ℕ → ℕ → List ℕ → View → Moving
resent c era rules n db key v = more (revokes_at c era rules n db key v) (more (calls_at c era rules n db key v) (starts v))

resends_happen : (c : Config) (era : Era) (rules : Rules) (n db : ℕ) (key : List ℕ) (w : World) (t : Turn) →
    happens (scene c era rules db key) (amid era.number db key n w t) (Resends n) ≡ put (scene c era rules db key) (amid era.number db key n w t) n (waiting_call (state_at db key t.node).wish) (resent c era rules n db key (view db key t.node))
resends_happen c era rules n db key w t =
    let s = scene c era rules db key in
    ap (λ (v : View). put s (amid era.number db key n w t) n (waiting_call v.state.wish) (move (place s n v) rules event.Resend (starts v))) (self era.number db key n w t)
    ∙ ap (λ (o : Moving). put s (amid era.number db key n w t) n (waiting_call (state_at db key t.node).wish) o) (resend_is (place s n (view db key t.node)) (starts (view db key t.node)))

pub resends_follow : (c : Config) (era : Era) (rules : Rules) (who : Callers) (calls n : ℕ) (pend : List PendingCall) (db : ℕ) (key : List ℕ) (w : World) (t : Turn) → is_among n era.members ≡ true → Retries_at c n → NodeStays c era rules who calls n t.node →
    Comes_by era.number (scene c era rules db key) n w pend t (resends_of c n t) (Resends n ∷ [])
unfolding heard
resends_follow c era rules who calls n pend db key w t member r h =
    let s = scene c era rules db key in
    let v = view db key t.node in
    let u = resends_of c n t in
    let o = resent c era rules n db key v in
    let asks = waiting_call (state_at db key t.node).wish in
    let k = resends_passes c era rules who calls n pend t r h in
    let all = resends_happen c era rules n db key w t ∙ put_world s (amid era.number db key n w t) n asks o member (here w n) refl in
    let nodes : (j : ℕ) → cond (nat_eq j n) v (cond (nat_eq j n) v (w.nodes j)) ≡ cond (nat_eq j n) (view db key u.node) (w.nodes j)
    = λ j. if_same (nat_eq j n) v v (w.nodes j) ∙ ap (λ (x : View). cond (nat_eq j n) x (w.nodes j)) (sym (k.same db key)) in
    let calls' = calls_at c era rules n db key v in
    let revokes' = revokes_at c era rules n db key v in
    let mail : (w.mail ++ mails era.number db key (frames_of t.outs)) ++ sent n (calls' ++ revokes') ≡ w.mail ++ mails era.number db key (frames_of u.outs)
    = append_assoc w.mail (mails era.number db key (frames_of t.outs)) _ ∙ ap (λ (m : List Mail). w.mail ++ m)
    (ap (λ (m : List Mail). mails era.number db key (frames_of t.outs) ++ m) (sent_more n calls' revokes') ∙ sym (append_assoc (mails era.number db key (frames_of t.outs)) (sent n calls') (sent n revokes')) ∙ sym (resends_mail c era rules who calls n db key t r h)) in
    let untold : told n asks (calls' ++ revokes') ≡ [] = told_more n asks calls' revokes' (calls_untold n asks _ _) (revokes_untold n asks _ _) in
    record {
      world = ap (λ (x : Stepped). x.world) all ∙ (λ i. record { nodes = λ j. nodes j i; joined = λ j. w.joined j || nat_eq j n; mail = mail i });
      labels = k.untold db key ∙ sym (append-nil (told_by_all db key (labels_of n pend t.outs)))
          ∙ ap (λ (l : List law.Label). told_by_all db key (labels_of n pend t.outs) ++ heard (l ++ [])) (sym untold ∙ ap (λ (x : Stepped). x.labels) (sym all));
    }

-- so the node goes on, after Calls and Revokes
pub resends_go : (c : Config) (era : Era) (rules : Rules) (who : Callers) (calls n : ℕ) (pend : List PendingCall) (ws : ℕ → List ℕ → World) (t : Turn) → is_among n era.members ≡ true → Retries_at c n → NodeStays c era rules who calls n t.node →
    Goes_on c era rules who calls n pend ws t (resends_of c n t)
resends_go c era rules who calls n pend ws t member r h =
    let k = resends_passes c era rules who calls n pend t r h in (k.stays, (λ db key. (Resends n ∷ [], resends_follow c era rules who calls n pend db key (ws db key) t member r h)), k.plain)
