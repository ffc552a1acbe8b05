-- What a message of a record tells, and what a vacuum tells, is of records of the line.
use Rattle.std.proofs.Common.{◌≡◌, ℕ, ◌<◌, true, false, List, [], ◌∷◌, length, Some, sym, ap, ◌∙◌, subst, ⊎_elim}
use Rattle.std.specs.Prelude.{slice_get, ◌&&◌}
use Rattle.std.proofs.lemmas.Bool.{cond_both, and_parts, cases_Bool}
use Rattle.ct_values.specs.Words.{others}
use Rattle.ct_values.specs.declared.config.Config.{Config}
use Rattle.ct_call.specs.Rules.{Rules}
use Rattle.ct_store.specs.Map.{Pairs}
use Rattle.ct_rules.specs.declared.event.MoveEvent.TheVariants as event
use Rattle.ct_rules.specs.declared.state.RecState.{RecState}
use Rattle.ct_rules_node.specs.Node.{db_at, state_at, has_records, kind_at, is_serving}
use Rattle.ct_rules_node.specs.Turn.{Turn, begins}
use Rattle.ct_rules_node.specs.Records.{at_record}
use Rattle.ct_rules_node.specs.Admission.{record_in, is_current}
use Rattle.ct_rules_node.specs.Steps.{arrives, vacuum_all, vacuums}
use Rattle.ct_rules_cluster.specs.Cluster.{Cluster, Sent, is_up, node_at, pending}
use Rattle.ct_rules_cluster.specs.Labels.{Label}
use Rattle.ct_rules_cluster.specs.declared.step.PendingCall.{PendingCall}
use Rattle.ct_law_record.specs.World.{World, Vacuums, waiting_call}
use Rattle.ct_law_generation.specs.Shown.{Era, Finds, scene, project, amid, labels_of}
use Rattle.ct_law_generation.proofs.Pending.{Callers}
use Rattle.ct_law_generation.proofs.Staying.{NodeStays, AllWishes}
use Rattle.ct_law_generation.proofs.Events.{arrives_at, arrives_not}
use Rattle.ct_law_generation.proofs.Following.{Asks, Goes_on, follows, finds_waiting, asks_here}
use Rattle.ct_law_generation.proofs.Delivering.{IsShown, projected, project_shown, shown_begins, has_place, current_here, delivery_comes}
use Rattle.ct_law_generation.proofs.Clusters.{all_known}
use Rattle.ct_law_generation.proofs.Vacuumed.{Found, vacuumed, vacuum_comes, finds_waited, waited_on, whole_before, asks_amid, goes_more}
use Rattle.ct_law_generation.proofs.Assembled.{Starts, Starts_at, starts_at, Run_goes, Tells}
use Rattle.ct_law_generation.proofs.Kept.{event_kept}
use Rattle.ct_law_generation.proofs.Plain.{plain_at}
use Rattle.ct_register.specs.Lines.{Lines}
use Rattle.ct_law_generation.proofs.Coming.{goes_nowhere}

-- ---- a message of a record

-- what its receiver tells, which follows it or drops it
pub message_kept : (c : Config) (era : Era) (rules : Rules) (reg : Lines) (w : Cluster) (ls : List Label) (k : ℕ) (m : Sent) (r : ℕ × List ℕ) → Starts c era rules reg → Run_goes c era rules reg ls w → slice_get w.sent k ≡ Some m → is_up m.frame.receiver w ≡ true → record_in m.frame.msg ≡ Some r →
    (arrives c rules m.frame.receiver m.frame (begins (node_at m.frame.receiver w)) m.frame.msg).spent ≡ false →
    Tells c era reg m.frame.receiver (pending w) (arrives c rules m.frame.receiver m.frame (begins (node_at m.frame.receiver w)) m.frame.msg)
unfolding labels_of
message_kept c era rules reg w ls k m r is h at up record_is spent =
    let n = m.frame.receiver in
    let t = begins (node_at n w) in
    let stays = h.goes.0.nodes n (h.goes.0.up n up) in ⊎_elim
    (λ (ok : (is_current m.frame (node_at n w) && has_records (kind_at c r.0)) ≡ true). (let turn = arrives_at c rules n m.frame t r.0 r.1 record_is ok in
    let parts = and_parts (is_current m.frame (node_at n w)) (has_records (kind_at c r.0)) ok in
    let kind = parts.1 in
    let comes = delivery_comes c era rules h.who w k m r.0 r.1 (projected era.number w) (project_shown era.number n w) is.small stays (all_known c era rules h.who w h.goes.0) at record_is (plain_at era.number w.sent k m at h.goes.0.sent) (current_here c era rules h.who w.calls n m.frame (node_at n w) stays parts.0) kind (asks_here c era rules w ls h.goes.1 is.era_is h.goes.2 r.0 r.1) (sym (ap (λ (u : Turn). u.spent) turn) ∙ spent) in
    subst (λ (u : Turn). Tells c era reg n (pending w) u) (sym turn)
    (event_kept c era rules reg h.who w.calls n r.0 r.1 (event.Arrive m.frame.sender m.frame.msg) t (pending w) (waiting_call (state_at r.0 r.1 (node_at n w)).wish) (project era.number r.0 r.1 w) comes.0 (starts_at c era rules reg n is (h.goes.0.up n up)) kind stays comes.1 tt)))
    (λ (out : (is_current m.frame (node_at n w) && has_records (kind_at c r.0)) ≡ false). subst (λ (u : Turn). Tells c era reg n (pending w) u) (sym (arrives_not c rules n m.frame t r.0 r.1 record_is out)) tt)
    (cases_Bool (is_current m.frame (node_at n w) && has_records (kind_at c r.0)))

-- ---- a vacuum

-- at every record of the database: from a turn t0 on, from which the step came to t
pub all_kept : (c : Config) (era : Era) (rules : Rules) (reg : Lines) (who : Callers) (calls n db : ℕ) (m : Pairs RecState) (pend : List PendingCall) (ws : ℕ → List ℕ → World) (t0 t : Turn) → Starts_at c era rules reg n → has_records (kind_at c db) ≡ true →
    ((key : List ℕ) → Asks (scene c era rules db key) (amid era.number db key n (ws db key) t0)) → AllWishes (Found n pend) t.node → Goes_on c era rules who calls n pend ws t0 t → Tells c era reg n pend t → (vacuum_all c n db m t).spent ≡ false → Tells c era reg n pend (vacuum_all c n db m t)
unfolding vacuum_all
all_kept c era rules reg who calls n db [] pend ws t0 t is kind asks all g before spent = before
all_kept c era rules reg who calls n db (x ∷ m) pend ws t0 t is kind asks all g before spent =
    let place = has_place c db kind in
    let there : db < length t.node.dbs = subst (λ (l : ℕ). db < l) (sym g.0.size) place in
    let u = at_record c n db x.0 (vacuumed n t) t in
    let e = event.Vacuum (others n t.node.members) in
    let waits = waiting_call (state_at db x.0 t.node).wish in
    let comes = vacuum_comes c era rules who calls n db x.0 pend (ws db x.0) t is.era_is (is.small db place) g.0 there all (asks_amid era.number (scene c era rules db x.0) n (ws db x.0) pend t0 t (asks x.0) (g.1 db x.0)) (whole_before c n db m u spent) in
    let step = follows c era rules who calls n db x.0 e t pend waits ws (Vacuums n) is.era_is is.member g.0 comes in
    all_kept c era rules reg who calls n db m pend ws t0 u is kind asks (waited_on c era rules who calls n db x.0 pend t g.0 there all) (goes_more c era rules who calls n pend ws t0 t u g step)
    (event_kept c era rules reg who calls n db x.0 e t pend waits (ws db x.0) (Vacuums n) is kind g.0 comes before) spent

-- in worlds that show the node
pub vacuums_tell : (c : Config) (era : Era) (rules : Rules) (reg : Lines) (who : Callers) (w : Cluster) (n db : ℕ) (ws : ℕ → List ℕ → World) → IsShown era.number n w ws → Starts_at c era rules reg n → NodeStays c era rules who w.calls n (node_at n w) →
    ((db : ℕ) (key : List ℕ) → Finds db key n (pending w) (waiting_call (state_at db key (node_at n w)).wish)) → ((key : List ℕ) → Asks (scene c era rules db key) (ws db key)) → has_records (kind_at c db) ≡ true → (vacuums c n db (begins (node_at n w))).spent ≡ false →
    Tells c era reg n (pending w) (vacuums c n db (begins (node_at n w)))
unfolding vacuums labels_of
vacuums_tell c era rules reg who w n db ws shown is stays finds asks kind spent =
    let t = begins (node_at n w) in
    cond_both (is_serving t.node.phase) (vacuum_all c n db (db_at db t.node).records t) t (λ (u : Turn). u.spent ≡ false → Tells c era reg n (pending w) u)
    (λ _ whole. all_kept c era rules reg who w.calls n db (db_at db t.node).records (pending w) ws t t is kind (λ key. subst (λ (v : World). Asks (scene c era rules db key) v) (shown_begins era.number db key n w ws shown) (asks key))
    (λ db key. finds_waited db key n (pending w) (state_at db key t.node).wish (finds db key)) (goes_nowhere c era rules who w.calls n (pending w) ws t stays) tt whole)
    (λ _ whole. tt) spent

-- what a vacuum tells of a database that has records
pub vacuum_kept : (c : Config) (era : Era) (rules : Rules) (reg : Lines) (w : Cluster) (ls : List Label) (n db : ℕ) → Starts c era rules reg → Run_goes c era rules reg ls w → is_up n w ≡ true → has_records (kind_at c db) ≡ true → (vacuums c n db (begins (node_at n w))).spent ≡ false →
    Tells c era reg n (pending w) (vacuums c n db (begins (node_at n w)))
vacuum_kept c era rules reg w ls n db is h up kind spent =
    let inside = h.goes.0.up n up in
    vacuums_tell c era rules reg h.who w n db (projected era.number w) (project_shown era.number n w) (starts_at c era rules reg n is inside) (h.goes.0.nodes n inside)
    (λ db key. finds_waiting h.who w.calls n db key w (all_known c era rules h.who w h.goes.0)) (λ key. asks_here c era rules w ls h.goes.1 is.era_is h.goes.2 db key) kind spent
