-- What is sent again of records and commits.
use Rattle.std.proofs.Common.{◌≡◌, ◌∙◌, ℕ, zero, suc, ◌+◌, ◌<◌, ◌≤◌, Bool, true, false, cond, not, ◌||◌, List, [], ◌∷◌, ◌++◌, map, append-nil, append_assoc, drop, length, Option, None, Some, refl, sym, ap, subst, add-one, arith}
use Rattle.std.specs.Prelude.{◌==◌, slice_get}
use Rattle.std.specs.List.{AllByRecursion}
use Rattle.ct_node_database.specs.Noted.{is_worth}
use Rattle.ct_tracking.specs.Tracked.{Revocation}
use Rattle.ct_frame.specs.declared.event.Out.{Out}
use Rattle.ct_frame.specs.declared.frame.Msg.{Msg}
use Rattle.ct_frame.specs.declared.frame.Msg.TheVariants as msg
use Rattle.ct_values.specs.declared.config.Config.{Config}
use Rattle.ct_law_form.specs.Form.{IsWorth, LeavesAll}
use Rattle.ct_law_form.proofs.Still.{nothing_moves}
use Rattle.ct_node_plan.proofs.Keys.{each_seen}
use Rattle.ct_node_plan.specs.Posts.{does_all, sent}
use Rattle.ct_node_plan.proofs.Sending.{does_both, does_nothing, posts_all_does}
use Rattle.ct_node_plan_runs.specs.Again.{AllWorth, all_called, all_revoked, all_updated, called_again, revoked_again, revoked_in, updated_again}
use Rattle.ct_rules.specs.Moves.{call_again, call_again_of, revoke_again, revoke_again_of}
use Rattle.ct_rules.specs.Parts.{Moving, performs, send, send_all}
use Rattle.ct_rules.specs.State.{is_blank, kind_of}
use Rattle.ct_rules.specs.declared.event.Act.{Act}
use Rattle.ct_rules.specs.declared.event.Act.TheVariants as act
use Rattle.ct_rules.specs.declared.event.Place.{Place}
use Rattle.ct_rules.specs.declared.state.RecState.{RecState}
use Rattle.ct_rules.specs.declared.state.Wish.{Wish}
use Rattle.ct_law_rules_node.specs.NodeLaws.{NodeAscends}
use Rattle.ct_rules_node.specs.Node.{Node, Committing, Database, db_at, or_nothing, or_untouched, state_at, untouched}
use Rattle.ct_rules_node.specs.Records.{acted, at_record, out_of, place_of, put_back, view}
use Rattle.ct_rules_node.specs.Retries as rule
use Rattle.ct_rules_node.specs.Retries.{call_all, revoke_all, revoke_in, update_in}
use Rattle.ct_rules_node.specs.Rounds.{Called, called_of, calls_in, calls_of, pending_calls}
use Rattle.ct_rules_node.specs.Turn.{Turn}
use Rattle.ct_law_rules_node.proofs.AtRecord.{at_ascends}
use Rattle.ct_law_rules_node.proofs.Numbered.{numbered_all}
use Rattle.ct_store.specs.Map.{Pairs, look}
use Rattle.ct_law_rules_node.proofs.Tables.{all_of_both}

-- ---- a part that only sends

or_false : (b : Bool) → (b || false) ≡ b
or_false true = refl
or_false false = refl

worth_of : (x : Option RecState) → is_worth x ≡ true → IsWorth x
unfolding is_worth IsWorth
worth_of None e = tt
worth_of (Some s) e = by (is_blank s) e
  where
    by : (b : Bool) → not b ≡ true → b ≡ false
    by true e = absurd (cc)
    by false e = refl

sends_at : (c : Config) (me db : ℕ) (key : List ℕ) (part : Place → Moving → Moving) (t : Turn) (xs : List Act) → NodeAscends t.node → db < length t.node.dbs → is_worth (look key (db_at db t.node).records) ≡ true →
    part (place_of c me db key t.node) (view db key t.node) ≡ record (view db key t.node) { acts = xs } → at_record c me db key part t ≡ does_all (map (out_of t.node.generation me db key) xs) t
unfolding at_record acted put_back view LeavesAll
sends_at c me db key part t xs a l w e =
    let same : put_back db key (view db key t.node) t.node ≡ t.node = nothing_moves c me db key (λ at o. o) t a l (worth_of _ w) (refl, refl, refl) in
    ap (λ (o : Moving). acted me db key o t) e ∙ (λ i. record { node = same i; outs = t.outs ++ map (out_of t.node.generation me db key) xs; spent = or_false t.spent i })

-- ---- Calls

abbrev acts_called : Place → Option Wish → List Act
acts_called at None = []
acts_called at (Some w) = cond (w.request == 0) [] (act.Send at.lmaster (msg.Call at.db at.key w.request (kind_of at.readonly w.op)) ∷ [])

call_acts : (at : Place) (o : Moving) (w : Option Wish) → call_again_of at o w ≡ record o { acts = o.acts ++ acts_called at w }
unfolding call_again_of send performs
call_acts at o None = (λ i. record o { acts = sym (append-nil o.acts) i })
call_acts at o (Some w) = by (w.request == 0)
  where
    by : (b : Bool) → cond b o (send at.lmaster (msg.Call at.db at.key w.request (kind_of at.readonly w.op)) o) ≡ record o { acts = o.acts ++ cond b [] (act.Send at.lmaster (msg.Call at.db at.key w.request (kind_of at.readonly w.op)) ∷ []) }
    by true = (λ i. record o { acts = sym (append-nil o.acts) i })
    by false = refl

call_outs : (g : ℕ) (at : Place) (w : Option Wish) → map (out_of g at.me at.db at.key) (acts_called at w) ≡ called_again g at w
unfolding out_of called_again
call_outs g at None = refl
call_outs g at (Some w) = by (w.request == 0)
  where
    call : Act
    call = act.Send at.lmaster (msg.Call at.db at.key w.request (kind_of at.readonly w.op))

    by : (b : Bool) → map (out_of g at.me at.db at.key) (cond b [] (call ∷ [])) ≡ cond b [] (sent g at.me (msg.Call at.db at.key w.request (kind_of at.readonly w.op)) at.lmaster ∷ [])
    by true = refl
    by false = refl

abbrev Worth : Node → Type 0
Worth n = (db : ℕ) (key : List ℕ) → is_worth (look key (db_at db n).records) ≡ true

call_does : (c : Config) (me db : ℕ) (key : List ℕ) (t : Turn) → NodeAscends t.node → Worth t.node → db < length t.node.dbs →
    at_record c me db key call_again t ≡ does_all (called_again t.node.generation (place_of c me db key t.node) (state_at db key t.node).wish) t
unfolding call_again view place_of
call_does c me db key t a w l =
    let at = place_of c me db key t.node in
    sends_at c me db key call_again t (acts_called at (state_at db key t.node).wish) a l (w db key) (call_acts at (view db key t.node) (state_at db key t.node).wish)
    ∙ ap (λ (xs : List Out). does_all xs t) (call_outs t.node.generation at (state_at db key t.node).wish)

pub calls_do : (c : Config) (me : ℕ) (xs : List Called) (t : Turn) → NodeAscends t.node → Worth t.node → AllByRecursion (λ (x : Called). x.db < length t.node.dbs) xs → call_all c me xs t ≡ does_all (all_called c me t.node xs) t
unfolding call_all all_called
calls_do c me [] t a w h = does_nothing t
calls_do c me (x ∷ xs) t a w h =
    let first = called_again t.node.generation (place_of c me x.db x.key t.node) (state_at x.db x.key t.node).wish in
    ap (call_all c me xs) (call_does c me x.db x.key t a w h.0) ∙ calls_do c me xs (does_all first t) a w h.1 ∙ does_both first (all_called c me t.node xs) t

-- ---- Revokes

abbrev acts_to : List ℕ → Msg → List Act
acts_to ns m = map (λ n. act.Send n m) ns

send_acts : (ns : List ℕ) (m : Msg) (o : Moving) → send_all ns m o ≡ record o { acts = o.acts ++ acts_to ns m }
unfolding send_all send performs
send_acts [] m o = (λ i. record o { acts = sym (append-nil o.acts) i })
send_acts (n ∷ ns) m o = send_acts ns m (send n m o) ∙ (λ i. record o { acts = append_assoc o.acts (act.Send n m ∷ []) (acts_to ns m) i })

abbrev acts_revoked : Place → Option Revocation → List Act
acts_revoked at None = []
acts_revoked at (Some r) = acts_to r.missing (msg.Revoke at.db at.key r.rsn)

revoke_acts : (at : Place) (o : Moving) (r : Option Revocation) → revoke_again_of at o r ≡ record o { acts = o.acts ++ acts_revoked at r }
unfolding revoke_again_of
revoke_acts at o None = (λ i. record o { acts = sym (append-nil o.acts) i })
revoke_acts at o (Some r) = send_acts r.missing (msg.Revoke at.db at.key r.rsn) o

outs_to : (g me db : ℕ) (key : List ℕ) (ns : List ℕ) (m : Msg) → map (out_of g me db key) (acts_to ns m) ≡ map (sent g me m) ns
unfolding out_of
outs_to g me db key [] m = refl
outs_to g me db key (n ∷ ns) m = ap (λ (xs : List Out). sent g me m n ∷ xs) (outs_to g me db key ns m)

revoke_outs : (g : ℕ) (at : Place) (r : Option Revocation) → map (out_of g at.me at.db at.key) (acts_revoked at r) ≡ revoked_again g at.me at.db at.key r
unfolding revoked_again
revoke_outs g at None = refl
revoke_outs g at (Some r) = outs_to g at.me at.db at.key r.missing (msg.Revoke at.db at.key r.rsn)

revoke_does : (c : Config) (me db : ℕ) (key : List ℕ) (s : RecState) (t : Turn) → NodeAscends t.node → Worth t.node → db < length t.node.dbs → look key (db_at db t.node).records ≡ Some s →
    at_record c me db key revoke_again t ≡ does_all (revoked_again t.node.generation me db key s.tracking.revoking) t
unfolding revoke_again view place_of state_at or_nothing
revoke_does c me db key s t a w l e =
    let at = place_of c me db key t.node in
    let r = (state_at db key t.node).tracking.revoking in
    let same : r ≡ s.tracking.revoking = ap (λ (x : Option RecState). (or_nothing x).tracking.revoking) e in
    sends_at c me db key revoke_again t (acts_revoked at r) a l (w db key) (revoke_acts at (view db key t.node) r)
    ∙ ap (λ (xs : List Out). does_all xs t) (revoke_outs t.node.generation at r ∙ ap (revoked_again t.node.generation me db key) same)

revokes_do : (c : Config) (me db : ℕ) (m : Pairs RecState) (t : Turn) → NodeAscends t.node → Worth t.node → db < length t.node.dbs → AllByRecursion (λ e. look e.0 (db_at db t.node).records ≡ Some e.1) m →
    revoke_all c me db m t ≡ does_all (revoked_in t.node.generation me db m) t
unfolding revoke_all revoked_in
revokes_do c me db [] t a w l h = does_nothing t
revokes_do c me db (e ∷ m) t a w l h =
    let first = revoked_again t.node.generation me db e.0 e.1.tracking.revoking in
    ap (revoke_all c me db m) (revoke_does c me db e.0 e.1 t a w l h.0) ∙ revokes_do c me db m (does_all first t) a w l h.1 ∙ does_both first (revoked_in t.node.generation me db m) t

-- ---- database by database

-- the first of those that are left
pub record IsNext (dbs : List Database) (i : ℕ) (d : Database) (ds : List Database) : Type 0 where
  pub here : or_untouched (slice_get dbs i) ≡ d
  pub there : i < length dbs
  pub rest : drop (suc i) dbs ≡ ds

next_db : (dbs : List Database) (i : ℕ) (d : Database) (ds : List Database) → drop i dbs ≡ d ∷ ds → IsNext dbs i d ds
unfolding or_untouched
next_db [] zero d ds e = absurd (cc)
next_db [] (suc i) d ds e = absurd (cc)
next_db (x ∷ xs) zero d ds e = record { here = (let h : x ≡ d = cc in h); there = omega arith; rest = (let h : xs ≡ ds = cc in h) }
next_db (x ∷ xs) (suc i) d ds e = (let n = next_db xs i d ds e in record { here = n.here; there = (let l = n.there in omega arith); rest = n.rest })

pub all_revokes_do : (c : Config) (me i : ℕ) (ds : List Database) (t : Turn) → NodeAscends t.node → Worth t.node → drop i t.node.dbs ≡ ds → revoke_in c me i ds t ≡ does_all (all_revoked t.node.generation me i ds) t
unfolding revoke_in all_revoked db_at
all_revokes_do c me i [] t a w e = does_nothing t
all_revokes_do c me i (d ∷ ds) t a w e =
    let n = next_db t.node.dbs i d ds e in
    let first = revoked_in t.node.generation me i d.records in
    let up = at_ascends t.node.dbs i a in
    let seen = subst (λ (x : Database). AllByRecursion (λ e. look e.0 (db_at i t.node).records ≡ Some e.1) x.records) n.here (each_seen (db_at i t.node).records up) in
    ap (revoke_in c me (i + 1) ds) (revokes_do c me i d.records t a w n.there seen)
    ∙ all_revokes_do c me (i + 1) ds (does_all first t) a w (ap (λ (j : ℕ). drop j t.node.dbs) (let h : i + 1 ≡ suc i = omega arith in h) ∙ n.rest)
    ∙ does_both first (all_revoked t.node.generation me (i + 1) ds) t

-- ---- updates of commits

update_does : (me db : ℕ) (t : Turn) (x : Option Committing) → rule.update_again me db t x ≡ does_all (updated_again t.node.generation me db x) t
unfolding rule.update_again updated_again
update_does me db t None = does_nothing t
update_does me db t (Some x) = posts_all_does t.node.generation me x.pending.missing (msg.PUpdate db x.pending.seq x.writes) t

pub updates_do : (me i : ℕ) (ds : List Database) (t : Turn) → update_in me i ds t ≡ does_all (all_updated t.node.generation me i ds) t
unfolding update_in all_updated
updates_do me i [] t = does_nothing t
updates_do me i (d ∷ ds) t =
    let first = updated_again t.node.generation me i d.commit in
    ap (update_in me (i + 1) ds) (update_does me i t d.commit) ∙ updates_do me (i + 1) ds (does_all first t) ∙ does_both first (all_updated t.node.generation me (i + 1) ds) t
