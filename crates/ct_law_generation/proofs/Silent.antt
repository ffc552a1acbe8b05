-- All that a Retry tells is aside: it sends messages of records, of commits, and of what the node leads.
use Rattle.std.proofs.Common.{◌≡◌, ℕ, ◌+◌, true, List, [], ◌∷◌, ◌++◌, map, Option, Some, None, refl, sym, ap, ◌∙◌, arith, subst, append-nil}
use Rattle.std.specs.List.{AllByRecursion}
use Rattle.std.proofs.lemmas.Bool.{cond_both}
use Rattle.ct_values.specs.declared.config.Config.{Config}
use Rattle.ct_frame.specs.declared.event.Out.{Out}
use Rattle.ct_frame.specs.declared.event.Out.TheVariants as out
use Rattle.ct_frame.specs.declared.frame.Msg.TheVariants as msg
use Rattle.ct_frame.specs.declared.frame.Assigned.{Assigned}
use Rattle.ct_frame.specs.declared.frame.Msg.{Msg}
use Rattle.ct_call.specs.Rules.{Rules}
use Rattle.ct_rules.specs.Moves.{call_again, revoke_again}
use Rattle.ct_rules.specs.Parts.{Moving}
use Rattle.ct_rules.specs.declared.event.Act.{Act}
use Rattle.ct_rules.specs.declared.event.Act.TheVariants as act
use Rattle.ct_rules.specs.declared.event.Place.{Place}
use Rattle.ct_rules_node.specs.Node.{Database, Committing, Nothing, Lead, Freezes, Pulls, Installs, Completed, Takeover, Run, NoRun, Releasing, Taking, is_present_in}
use Rattle.ct_rules_node.specs.Turn.{Turn, begins, does, posts, posts_all}
use Rattle.ct_rules_node.specs.Records.{out_of, at_record, place_of}
use Rattle.ct_rules_node.specs.Rounds.{Called, pending_calls, push_of}
use Rattle.ct_rules_node.specs.Retries.{revoke_in, update_again, update_in, retry, retry_run, retry_lead}
use Rattle.ct_rules_node.specs.Takeovers.{send_releases, share, assigned_in}
use Rattle.ct_rules_cluster.specs.Cluster.{Cluster, is_up, node_at, pending}
use Rattle.ct_rules_cluster.specs.Labels.{Label}
use Rattle.ct_rules_cluster.specs.Traces.{sent_label}
use Rattle.ct_rules_cluster.specs.declared.step.PendingCall.{PendingCall}
use Rattle.ct_law_record.specs.World.{View, told, answers, call_of}
use Rattle.ct_law_generation.specs.Shown.{Era, labels_of}
use Rattle.ct_law_generation.proofs.Speaking.{About, Told}
use Rattle.ct_law_generation.proofs.Hearing.{labels_more}
use Rattle.ct_law_generation.proofs.Pending.{Callers}
use Rattle.ct_law_generation.proofs.Staying.{NodeStays, phase_of}
use Rattle.ct_law_generation.proofs.Lining.{record_quiet, Is_fit, sent_fits}
use Rattle.ct_law_generation.proofs.Retried.{nothing_asked, Just_sends, outs_are, just_passes, calls_at, revokes_at, Retries_at, calls_just, revokes_just, at_all, Sends_each, AllInside, all_passes}
use Rattle.ct_law_generation.proofs.Resending.{places_in, call_all_is, revoke_in_is, all_inside, pending_inside, resends_of}
use Rattle.ct_law_generation.proofs.Retrying.{retry_is}
use Rattle.ct_law_generation.proofs.Assembled.{Starts, Run_goes, Tells}
use Rattle.ct_law_generation.proofs.Following.{node_of}
use Rattle.ct_register.specs.Lines.{Lines}
use Rattle.ct_lcp2.proofs.Choices.{all_append}

-- ---- a step at a record that only sends

-- what speaks of a record and tells no world of it anything tells nothing at all
sends_silent : (at : Place) (g n : ℕ) (pend : List PendingCall) (xs : List Act) → Told at xs → told n nothing_asked xs ≡ [] → labels_of n pend (map (out_of g n at.db at.key) xs) ≡ []
unfolding Told About told answers call_of labels_of out_of
sends_silent at g n pend [] t e = refl
sends_silent at g n pend (act.Send receiver m ∷ xs) t e = ap (λ (l : List Label). l ++ labels_of n pend (map (out_of g n at.db at.key) xs)) (record_quiet n g m (at.db, at.key) t.0) ∙ sends_silent at g n pend xs t.1 e
sends_silent at g n pend (act.Answer call a ∷ xs) t e = absurd (cc)
sends_silent at g n pend (act.Finished floor ∷ xs) t e = absurd (cc)

-- nothing is told
abbrev Silent : ℕ → List PendingCall → Turn → Type 0
Silent n pend u = labels_of n pend u.outs ≡ []

silent_more : (n : ℕ) (pend : List PendingCall) (xs ys : List Out) → labels_of n pend xs ≡ [] → labels_of n pend ys ≡ [] → labels_of n pend (xs ++ ys) ≡ []
silent_more n pend xs ys e f = labels_more n pend xs ys ∙ ap (λ (l : List Label). l ++ labels_of n pend ys) e ∙ f

just_silent : (c : Config) (n db : ℕ) (key : List ℕ) (part : Place → Moving → Moving) (t : Turn) (xs : List Act) (pend : List PendingCall) → Just_sends c n db key part t xs → Silent n pend t → Silent n pend (at_record c n db key part t)
unfolding place_of
just_silent c n db key part t xs pend k e =
    ap (λ (l : List Out). labels_of n pend l) (outs_are c n db key part t xs k)
    ∙ silent_more n pend t.outs (map (out_of t.node.generation n db key) xs) e (sends_silent (place_of c n db key t.node) t.node.generation n pend xs k.about k.untold)

all_silent : (c : Config) (era : Era) (rules : Rules) (who : Callers) (calls n : ℕ) (pend : List PendingCall) (part : Place → Moving → Moving) (what : ℕ → List ℕ → View → List Act) (xs : List Called) (t : Turn) → Sends_each c era rules who calls n part what → AllInside c xs → NodeStays c era rules who calls n t.node →
    Silent n pend t → Silent n pend (at_all c n part xs t)
unfolding at_all
all_silent c era rules who calls n pend part what [] t s l h e = e
all_silent c era rules who calls n pend part what (x ∷ xs) t s l h e =
    let k = s x.db x.key t h l.0 in
    all_silent c era rules who calls n pend part what xs (at_record c n x.db x.key part t) s l.1 (just_passes c era rules who calls n x.db x.key part t _ pend h k).stays (just_silent c n x.db x.key part t _ pend k e)

pub resends_silent : (c : Config) (era : Era) (rules : Rules) (who : Callers) (calls n : ℕ) (pend : List PendingCall) (t : Turn) → Retries_at c n → NodeStays c era rules who calls n t.node → Silent n pend t → Silent n pend (resends_of c n t)
resends_silent c era rules who calls n pend t r h e =
    let u = at_all c n call_again (pending_calls t.node) t in
    let calls_sends : Sends_each c era rules who calls n call_again (calls_at c era rules n) = λ db key t h l. calls_just c era rules who calls n db key t r h l in
    let revokes_sends : Sends_each c era rules who calls n revoke_again (revokes_at c era rules n) = λ db key t h l. revokes_just c era rules who calls n db key t r h l in
    let stays = (all_passes c era rules who calls n pend call_again (calls_at c era rules n) (pending_calls t.node) t calls_sends (pending_inside c t.node h.size) h).stays in
    subst (λ (v : Turn). Silent n pend v) (sym (ap (λ (x : Turn). revoke_in c n 0 t.node.dbs x) (call_all_is c n (pending_calls t.node) t) ∙ revoke_in_is c n 0 t.node.dbs u))
    (all_silent c era rules who calls n pend revoke_again (revokes_at c era rules n) (places_in 0 t.node.dbs) u revokes_sends (all_inside c 0 t.node.dbs (let s = h.size in omega arith)) stays
    (all_silent c era rules who calls n pend call_again (calls_at c era rules n) (pending_calls t.node) t calls_sends (pending_inside c t.node h.size) h e))

-- ---- what is posted

-- all that is told fits
abbrev pub Fits : Config → ℕ → Lines → ℕ → List PendingCall → Turn → Type 0
Fits c line reg n pend u = AllByRecursion (Is_fit c line reg) (labels_of n pend u.outs)

pub post_fits : (c : Config) (line : ℕ) (reg : Lines) (n : ℕ) (pend : List PendingCall) (g k : ℕ) (m : Msg) (t : Turn) → Fits c line reg n pend t → Fits c line reg n pend (posts g n k m t)
unfolding posts does labels_of
post_fits c line reg n pend g k m t e =
    let x : List Out = out.Send (record { generation = g; sender = n; receiver = k; msg = m }) ∷ [] in
    subst (λ (l : List Label). AllByRecursion (Is_fit c line reg) l) (sym (labels_more n pend t.outs x ∙ ap (λ (l : List Label). labels_of n pend t.outs ++ l) (append-nil (sent_label n g m))))
    (all_append (Is_fit c line reg) (labels_of n pend t.outs) (sent_label n g m) e (sent_fits c line reg n g m))

pub posts_fit : (c : Config) (line : ℕ) (reg : Lines) (n : ℕ) (pend : List PendingCall) (g : ℕ) (ks : List ℕ) (m : Msg) (t : Turn) → Fits c line reg n pend t → Fits c line reg n pend (posts_all g n ks m t)
unfolding posts_all
posts_fit c line reg n pend g [] m t e = e
posts_fit c line reg n pend g (k ∷ ks) m t e = posts_fit c line reg n pend g ks m (posts g n k m t) (post_fits c line reg n pend g k m t e)

-- ---- commits

again_fits : (c : Config) (line : ℕ) (reg : Lines) (n : ℕ) (pend : List PendingCall) (db : ℕ) (t : Turn) (x : Option Committing) → Fits c line reg n pend t → Fits c line reg n pend (update_again n db t x)
unfolding update_again
again_fits c line reg n pend db t None e = e
again_fits c line reg n pend db t (Some x) e = posts_fit c line reg n pend t.node.generation x.pending.missing (msg.PUpdate db x.pending.seq x.writes) t e

updates_fit : (c : Config) (line : ℕ) (reg : Lines) (n : ℕ) (pend : List PendingCall) (i : ℕ) (ds : List Database) (t : Turn) → Fits c line reg n pend t → Fits c line reg n pend (update_in n i ds t)
unfolding update_in
updates_fit c line reg n pend i [] t e = e
updates_fit c line reg n pend i (d ∷ ds) t e = updates_fit c line reg n pend (i + 1) ds (update_again n i t d.commit) (again_fits c line reg n pend i t d.commit e)

-- ---- what the node leads

pub releases_fit : (c : Config) (line : ℕ) (reg : Lines) (n : ℕ) (pend : List PendingCall) (g number : ℕ) (placement : List Assigned) (ks : List ℕ) (t : Turn) → Fits c line reg n pend t → Fits c line reg n pend (send_releases n g number placement ks t)
unfolding send_releases
releases_fit c line reg n pend g number placement [] t e = e
releases_fit c line reg n pend g number placement (k ∷ ks) t e =
    releases_fit c line reg n pend g number placement ks (posts g n k (msg.Release number (share k placement)) t) (post_fits c line reg n pend g k (msg.Release number (share k placement)) t e)

run_fits : (c : Config) (line : ℕ) (reg : Lines) (n : ℕ) (pend : List PendingCall) (g : ℕ) (members : List ℕ) (x : Takeover) (t : Turn) (run : Run) → Fits c line reg n pend t → Fits c line reg n pend (retry_run n g members x t run)
unfolding retry_run
run_fits c line reg n pend g members x t NoRun e = e
run_fits c line reg n pend g members x t (Releasing placement missing) e = releases_fit c line reg n pend g x.number placement missing t e
run_fits c line reg n pend g members x t (Taking placement) e = posts_fit c line reg n pend g members (msg.Take x.number (assigned_in placement)) t e

lead_fits : (c : Config) (line : ℕ) (reg : Lines) (n : ℕ) (pend : List PendingCall) (t : Turn) (lead : Lead) → Fits c line reg n pend t → Fits c line reg n pend (retry_lead n t lead)
unfolding retry_lead
lead_fits c line reg n pend t Nothing e = e
lead_fits c line reg n pend t (Freezes g members missing) e = posts_fit c line reg n pend g missing (msg.Freeze members) t e
lead_fits c line reg n pend t (Pulls g members missing x) e = posts_fit c line reg n pend g missing msg.Pull t e
lead_fits c line reg n pend t (Installs g members missing b) e = posts_fit c line reg n pend g missing (push_of b) t e
lead_fits c line reg n pend t (Completed g members x) e =
    let u = posts_all g n members msg.Thaw t in
    let f = posts_fit c line reg n pend g members msg.Thaw t e in
    cond_both (is_present_in g t.node) (retry_run n g members x u x.run) u (λ (v : Turn). Fits c line reg n pend v) (λ _. run_fits c line reg n pend g members x u x.run f) (λ _. f)

-- so all that a Retry tells fits
pub retry_fits : (c : Config) (era : Era) (rules : Rules) (reg : Lines) (w : Cluster) (ls : List Label) (n : ℕ) → Starts c era rules reg → Run_goes c era rules reg ls w → is_up n w ≡ true → Tells c era reg n (pending w) (retry c n (begins (node_at n w)))
unfolding labels_of
retry_fits c era rules reg w ls n is h up =
    let t = begins (node_at n w) in
    let inside = h.goes.0.up n up in
    let stays = h.goes.0.nodes n inside in
    let r : Retries_at c n = record { real = node_of n era.members is.era_is.real inside; small = is.small } in
    let u = resends_of c n t in
    let v = update_in n 0 t.node.dbs u in
    let quiet = resends_silent c era rules h.who w.calls n (pending w) t r stays refl in
    subst (λ (x : Turn). Fits c era.number reg n (pending w) x) (sym (retry_is c n t (phase_of era.number t.node stays.present)))
    (lead_fits c era.number reg n (pending w) v v.node.lead (updates_fit c era.number reg n (pending w) 0 t.node.dbs u (subst (AllByRecursion (Is_fit c era.number reg)) (sym quiet) tt)))
