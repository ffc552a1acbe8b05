-- What a node's turn tells of one record: one label at most adds a version, and where it removed a record it installed nothing.
use Rattle.std.proofs.Common.{◌≡◌, ◌≢◌, ℕ, true, false, List, [], ◌∷◌, map, Option, None, Some, refl, sym, ap, ◌∙◌, subst, inl, inr, ⊎_elim}
use Rattle.std.specs.Prelude.{◌⊎◌, ◌≤◌, ◌&&◌, ◌||◌, nat_eq, bytes_eq}
use Rattle.std.specs.List.{list_any}
use Rattle.std.proofs.lemmas.Bool.{cases_eq, cond_both, eqb-true, and_parts}
use Rattle.std.proofs.lemmas.List.Folds.{list_any-append}
use Rattle.std.proofs.lemmas.Slice.Eq.{bytes_eq-Decides}
use Rattle.ct_values.specs.Words.{others}
use Rattle.ct_values.specs.Client.{db_of, key_of, wants_record}
use Rattle.ct_values.specs.declared.client.ClientOp.{ClientOp}
use Rattle.ct_values.specs.declared.client.ClientOp.TheVariants as op
use Rattle.ct_values.specs.declared.client.Why.{Why}
use Rattle.ct_values.specs.declared.config.Config.{Config}
use Rattle.ct_frame.specs.declared.event.Event.{Event}
use Rattle.ct_frame.specs.declared.event.Event.TheVariants as event
use Rattle.ct_frame.specs.declared.frame.Frame.{Frame}
use Rattle.ct_frame.specs.declared.frame.Msg.{Msg}
use Rattle.ct_frame.specs.declared.frame.Msg.TheVariants as msg
use Rattle.ct_call.specs.Rules.{Rules}
use Rattle.ct_store.specs.Map.{Pairs}
use Rattle.ct_rules.specs.Parts.{Moving, keeps, performs, reply}
use Rattle.ct_rules.specs.Moves.{arrive, vacuum, store}
use Rattle.ct_rules.specs.declared.event.Act.{Act}
use Rattle.ct_rules.specs.declared.event.Act.TheVariants as act
use Rattle.ct_rules.specs.declared.event.Place.{Place}
use Rattle.ct_rules.specs.declared.state.RecState.{RecState}
use Rattle.ct_rules_node.specs.Node.{Node, is_serving, has_records, kind_at, db_at, state_at}
use Rattle.ct_rules_node.specs.Turn.{Turn, begins, does, makes, answers}
use Rattle.ct_rules_node.specs.Records.{out_of, place_of, view, acted, at_record}
use Rattle.ct_rules_node.specs.Clients.{is_commit, call_pending, refusal, serves, serves_or, client}
use Rattle.ct_rules_node.specs.Steps.{on_record_of, if_persistent, if_sound, if_taken_over, arrives, vacuum_all, vacuums, happens}
use Rattle.ct_rules_node.specs.Admission.{record_in, is_current}
use Rattle.ct_law_rules_node.proofs.Refusals.{first_none}
use Rattle.ct_rules_cluster.specs.Labels.{Label}
use Rattle.ct_rules_cluster.specs.Steps.{lines_of}
use Rattle.ct_rules_cluster.specs.Traces.{OpenCall, line_labels}
use Rattle.ct_rules_cluster.specs.declared.step.Step.{Step}
use Rattle.ct_law_generation.proofs.Opened.{Opened, answered_by, AllOpen}
use Rattle.ct_law_generation.proofs.Accounts.{wish_call, Stands, with_call, own_call, other_call, same_asked, place_wish}
use Rattle.ct_law_generation.proofs.BirthClients.{none_pending}
use Rattle.ct_law_generation.proofs.BirthEvents.{open_at, IsNew, happens_kept}
use Rattle.ct_law_generation.proofs.Removing.{removed_by}
use Rattle.ct_law_generation.proofs.Unremoved.{Silent, either, on_pupdate_silent, on_pack_silent, begin_round_silent, on_freeze_silent, on_freezeack_silent, on_pull_silent, on_pullreply_silent, on_push_silent, on_pushack_silent, begin_takeover_silent, on_release_silent, on_releaseack_silent, on_take_silent}
use Rattle.ct_law_generation.proofs.Removed.{client_silent, on_thaw_silent, retry_silent, starts_silent}
use Rattle.ct_law_readings.proofs.Versions.{gives_value, is_about, clears, moves, is_installation, additions}
use Rattle.ct_law_readings.proofs.Telling.{changes, OneChanges, InLog, tells_once, tells_one, tells_kept, installs, tells_unmoved}

-- ---- where a record was removed, nothing was installed

-- the turn has not removed this record, or has installed nothing
abbrev pub Settles : ℕ → List ℕ → Turn → Type 0
Settles db key u = (removed_by db key u.outs ≡ false) ⊎ (list_any installs u.outs ≡ false)

-- the rule of a record installs nothing
acts_install : (g me db : ℕ) (key : List ℕ) (xs : List Act) → list_any installs (map (out_of g me db key) xs) ≡ false
unfolding out_of installs is_installation
acts_install g me db key [] = refl
acts_install g me db key (act.Send receiver m ∷ xs) = acts_install g me db key xs
acts_install g me db key (act.Answer call a ∷ xs) = acts_install g me db key xs
acts_install g me db key (act.Finished floor ∷ xs) = acts_install g me db key xs

record_installs : (c : Config) (n db : ℕ) (key : List ℕ) (part : Place → Moving → Moving) (t : Turn) → list_any installs t.outs ≡ false → list_any installs (at_record c n db key part t).outs ≡ false
unfolding at_record acted
record_installs c n db key part t e =
    list_any-append installs t.outs _ ∙ (λ i. e i || acts_install t.node.generation n db key (part (place_of c n db key t.node) (view db key t.node)).acts i)

vacuum_all_installs : (c : Config) (n db : ℕ) (m : Pairs RecState) (t : Turn) → list_any installs t.outs ≡ false → list_any installs (vacuum_all c n db m t).outs ≡ false
unfolding vacuum_all
vacuum_all_installs c n db [] t e = e
vacuum_all_installs c n db (x ∷ m) t e = vacuum_all_installs c n db m _ (record_installs c n db x.0 (λ at o. vacuum at (others n t.node.members) o) t e)

vacuums_installs : (c : Config) (n db : ℕ) (t : Turn) → list_any installs t.outs ≡ false → list_any installs (vacuums c n db t).outs ≡ false
unfolding vacuums
vacuums_installs c n db t e =
    cond_both (is_serving t.node.phase) (vacuum_all c n db (db_at db t.node).records t) t (λ (u : Turn). list_any installs u.outs ≡ false) (λ _. vacuum_all_installs c n db (db_at db t.node).records t e) (λ _. e)

on_record_installs : (c : Config) (rules : Rules) (n : ℕ) (f : Frame) (t : Turn) (r : Option (ℕ × List ℕ)) → list_any installs t.outs ≡ false → list_any installs (on_record_of c rules n f t r).outs ≡ false
unfolding on_record_of
on_record_installs c rules n f t None e = e
on_record_installs c rules n f t (Some r) e =
    let part : Place → Moving → Moving = λ at o. arrive at rules f.sender f.msg o in
    cond_both (is_current f t.node && has_records (kind_at c r.0)) (at_record c n r.0 r.1 part t) t (λ (u : Turn). list_any installs u.outs ≡ false) (λ _. record_installs c n r.0 r.1 part t e) (λ _. e)

silent_settles : {d : ℕ} {k : List ℕ} {u : Turn} → Silent d k u → Settles d k u
silent_settles s = inl s.none

arrives_settles : (c : Config) (rules : Rules) (n : ℕ) (f : Frame) (t : Turn) (m : Msg) (d : ℕ) (k : List ℕ) → Silent d k t → list_any installs t.outs ≡ false → Settles d k (arrives c rules n f t m)
unfolding arrives if_persistent if_sound if_taken_over
arrives_settles c rules n f t (msg.PUpdate db seq writes) d k s e = silent_settles (either _ (on_pupdate_silent n f.sender db seq writes s) s)
arrives_settles c rules n f t (msg.PAck db seq) d k s e = silent_settles (either _ (on_pack_silent f.sender db seq s) s)
arrives_settles c rules n f t (msg.Freeze members) d k s e = silent_settles (either _ (on_freeze_silent c n f.sender f.generation s) s)
arrives_settles c rules n f t msg.FreezeAck d k s e = silent_settles (either _ (on_freezeack_silent n f.sender f.generation t t.node.lead s) s)
arrives_settles c rules n f t msg.Pull d k s e = silent_settles (either _ (on_pull_silent c n f.sender f.generation s) s)
arrives_settles c rules n f t (msg.PullReply vbase pbase table ptables addresses) d k s e = silent_settles (either _ (on_pullreply_silent n f.generation _ t t.node.lead s) s)
arrives_settles c rules n f t (msg.Push members table ptables assigned) d k s e = silent_settles (either _ (on_push_silent c n f.sender f.generation members table ptables assigned s) s)
arrives_settles c rules n f t msg.PushAck d k s e = silent_settles (either _ (on_pushack_silent c n f.sender f.generation t t.node.lead s) s)
arrives_settles c rules n f t msg.Thaw d k s e = silent_settles (either _ (on_thaw_silent c rules n f.generation t t.node.phase s) s)
arrives_settles c rules n f t (msg.Release number keep) d k s e = silent_settles (either _ (on_release_silent n f.sender number keep s) s)
arrives_settles c rules n f t (msg.ReleaseAck number) d k s e = silent_settles (either _ (on_releaseack_silent n f.sender f.generation number t t.node.lead s) s)
arrives_settles c rules n f t (msg.Take number assigned) d k s e = silent_settles (either _ (on_take_silent c n number assigned s) s)
arrives_settles c rules n f t m d k s e = inr (on_record_installs c rules n f t (record_in m) e)

pub happens_settles : (c : Config) (rules : Rules) (n : ℕ) (x : Node) (e : Event) (d : ℕ) (k : List ℕ) → Settles d k (happens c rules n (begins x) e)
unfolding happens
happens_settles c rules n x (event.Client call asked) d k = silent_settles (client_silent c rules n call asked (begins x) (starts_silent d k (begins x) refl))
happens_settles c rules n x (event.Arrive f) d k = arrives_settles c rules n f (begins x) f.msg d k (starts_silent d k (begins x) refl) refl
happens_settles c rules n x event.Retry d k = silent_settles (retry_silent c n (begins x) (starts_silent d k (begins x) refl))
happens_settles c rules n x (event.Vacuum db) d k = inr (vacuums_installs c n db (begins x) refl)
happens_settles c rules n x (event.BeginRound ticket members) d k = silent_settles (begin_round_silent n ticket members (starts_silent d k (begins x) refl))
happens_settles c rules n x (event.BeginTakeover able) d k = silent_settles (begin_takeover_silent n able (begins x) x.lead (starts_silent d k (begins x) refl))

-- ---- of a record one call waits

gives_no_commit : (o : ClientOp) → gives_value o ≡ true → is_commit o ≡ false
unfolding gives_value is_commit
gives_no_commit (op.Commit db writes) e = absurd (cc)
gives_no_commit _ e = refl

-- what holds of the record that the operation speaks of holds of this one
about_this : (P : ℕ → List ℕ → Type 0) (db : ℕ) (key : List ℕ) (o : ClientOp) → is_about db key o ≡ true → P (db_of o) (key_of o) → P db key
unfolding is_about
about_this P db key o e h =
    let p = and_parts (nat_eq (db_of o) db) (bytes_eq (key_of o) key) e in
    subst (λ (d : ℕ). P d key) (eqb-true (db_of o) db p.0) (subst (λ (k : List ℕ). P (db_of o) k) ((bytes_eq-Decides (key_of o) key).0 p.1) h)

waits_there : (n : ℕ) (who : Opened) (x : Node) (db : ℕ) (key : List ℕ) (k : ℕ) (o : ClientOp) → Stands n who x → who k ≡ Some (n, o) → changes db key o ≡ true → wish_call (state_at db key x).wish ≡ Some k
waits_there n who x db key k o h e c =
    let p = and_parts (gives_value o) (is_about db key o) c in
    about_this (λ d q. wish_call (state_at d q x).wish ≡ Some k) db key o p.1 (sym (place_wish o x (gives_no_commit o p.0)) ∙ h.waits k o e)

same_call : (j k : ℕ) (x : Option ℕ) → x ≡ Some j → x ≡ Some k → j ≡ k
same_call j k x e f = (let s : Some j ≡ Some k = sym e ∙ f in cc)

stands_once : (n : ℕ) (who : Opened) (x : Node) (db : ℕ) (key : List ℕ) → Stands n who x → OneChanges n db key who
stands_once n who x db key h j k o p e f c d = same_call j k (wish_call (state_at db key x).wish) (waits_there n who x db key j o h e c) (waits_there n who x db key k p h f d)

-- so it is where a client's call comes that gives no value, or for whose record none waits
own_waits : (n : ℕ) (who : Opened) (x : Node) (db : ℕ) (key : List ℕ) (call k : ℕ) (o a p : ClientOp) → (gives_value o ≡ true → (state_at (db_of o) (key_of o) x).wish ≡ None) → Stands n who x →
    with_call call (n, o) who call ≡ Some (n, a) → k ≢ call → with_call call (n, o) who k ≡ Some (n, p) → changes db key a ≡ true → changes db key p ≡ true → ⊥
unfolding wish_call
own_waits n who x db key call k o a p none h e ne f c d =
    let same : a ≡ o = same_asked e (own_call call (n, o) who) in
    let mine = and_parts (gives_value o) (is_about db key o) (subst (λ (q : ClientOp). changes db key q ≡ true) same c) in
    let nothing : wish_call (state_at db key x).wish ≡ None = about_this (λ d q. wish_call (state_at d q x).wish ≡ None) db key o mine.1 (ap wish_call (none mine.0)) in
    let other : wish_call (state_at db key x).wish ≡ Some k = waits_there n who x db key k p h (sym (other_call call k (n, o) who ne) ∙ f) d in
    absurd (let s : None ≡ Some k = sym nothing ∙ other in cc)

own_once : (n : ℕ) (who : Opened) (x : Node) (db : ℕ) (key : List ℕ) (call : ℕ) (o : ClientOp) → (gives_value o ≡ true → (state_at (db_of o) (key_of o) x).wish ≡ None) → Stands n who x → OneChanges n db key (with_call call (n, o) who)
own_once n who x db key call o none h j k a b e f c d = ⊎_elim
    (λ (first : j ≡ call). ⊎_elim
    (λ (second : k ≡ call). first ∙ sym second)
    (λ (ne : k ≢ call). absurd (own_waits n who x db key call k o a b none h (subst (λ (i : ℕ). with_call call (n, o) who i ≡ Some (n, a)) first e) ne f c d))
    (cases_eq k call))
    (λ (ne : j ≢ call). ⊎_elim
    (λ (second : k ≡ call). absurd (own_waits n who x db key call j o b a none h (subst (λ (i : ℕ). with_call call (n, o) who i ≡ Some (n, b)) second f) ne e d c))
    (λ (apart : k ≢ call). stands_once n who x db key h j k a b (sym (other_call call j (n, o) who ne) ∙ e) (sym (other_call call k (n, o) who apart) ∙ f) c d)
    (cases_eq k call))
    (cases_eq j call)

-- ---- a client's call

not_pending : (c : Config) (rules : Rules) (x : Node) (o : ClientOp) → refusal c rules x o ≡ None → call_pending x o ≡ None
unfolding refusal
not_pending c rules x o e = (first_none _ _ (first_none _ _ (first_none _ _ (first_none _ _ e).1).1).1).0

-- what a served call leaves of the record's labels
abbrev Once : Step → ℕ → List ℕ → ℕ → ℕ → List OpenCall → Turn → Type 0
Once s db key n i log u = additions db key (line_labels s log (lines_of n i u.outs)) ≤ 1

served_once : (s : Step) (db : ℕ) (key : List ℕ) (c : Config) (rules : Rules) (n i call : ℕ) (x : Node) (who : Opened) (log : List OpenCall) (o : ClientOp) → refusal c rules x o ≡ None → Stands n who x → InLog (with_call call (n, o) who) log →
    AllOpen n (with_call call (n, o) who) (answered_by (serves c rules n call (makes call (begins x)) o).outs) → Once s db key n i log (serves c rules n call (makes call (begins x)) o)
unfolding serves at_record acted store reply performs keeps view out_of makes call_pending wants_record gives_value
served_once s db key c rules n i call x who log (op.Store d k v) e h like all = tells_one s db key n i call _ log
served_once s db key c rules n i call x who log (op.Write d k v) e h like all =
    tells_once s db key n i _ (with_call call (n, op.Write d k v) who) log like all (own_once n who x db key call (op.Write d k v) (λ _. none_pending (state_at d k x).wish (not_pending c rules x (op.Write d k v) e)) h)
served_once s db key c rules n i call x who log (op.Apply d k f arg) e h like all =
    tells_once s db key n i _ (with_call call (n, op.Apply d k f arg) who) log like all (own_once n who x db key call (op.Apply d k f arg) (λ _. none_pending (state_at d k x).wish (not_pending c rules x (op.Apply d k f arg) e)) h)
served_once s db key c rules n i call x who log (op.Lock d k) e h like all = tells_once s db key n i _ (with_call call (n, op.Lock d k) who) log like all (own_once n who x db key call (op.Lock d k) (λ t. absurd (cc)) h)
served_once s db key c rules n i call x who log (op.Read d k) e h like all = tells_once s db key n i _ (with_call call (n, op.Read d k) who) log like all (own_once n who x db key call (op.Read d k) (λ t. absurd (cc)) h)
served_once s db key c rules n i call x who log (op.Unlock d k) e h like all = tells_once s db key n i _ (with_call call (n, op.Unlock d k) who) log like all (own_once n who x db key call (op.Unlock d k) (λ t. absurd (cc)) h)
served_once s db key c rules n i call x who log (op.Commit d writes) e h like all =
    tells_once s db key n i _ (with_call call (n, op.Commit d writes) who) log like all (own_once n who x db key call (op.Commit d writes) (λ t. absurd (cc)) h)

client_once : (s : Step) (db : ℕ) (key : List ℕ) (c : Config) (rules : Rules) (n i call : ℕ) (x : Node) (who : Opened) (log : List OpenCall) (o : ClientOp) (w : Option Why) → refusal c rules x o ≡ w → Stands n who x → InLog (with_call call (n, o) who) log →
    AllOpen n (with_call call (n, o) who) (answered_by (serves_or c rules n call o (makes call (begins x)) w).outs) → Once s db key n i log (serves_or c rules n call o (makes call (begins x)) w)
unfolding serves_or answers does makes
client_once s db key c rules n i call x who log o None e h like all = served_once s db key c rules n i call x who log o e h like all
client_once s db key c rules n i call x who log o (Some w) e h like all = tells_one s db key n i call _ log

-- ---- every event

pub happens_once : (s : Step) (db : ℕ) (key : List ℕ) (c : Config) (rules : Rules) (n i : ℕ) (x : Node) (who : Opened) (log : List OpenCall) (e : Event) → Stands n who x → InLog (open_at n e who) log →
    AllOpen n (open_at n e who) (answered_by (happens c rules n (begins x) e).outs) → Once s db key n i log (happens c rules n (begins x) e)
unfolding happens open_at client makes
happens_once s db key c rules n i x who log (event.Client call o) h like all = client_once s db key c rules n i call x who log o (refusal c rules x o) refl h like all
happens_once s db key c rules n i x who log (event.Arrive f) h like all = tells_once s db key n i _ who log like all (stands_once n who x db key h)
happens_once s db key c rules n i x who log event.Retry h like all = tells_once s db key n i _ who log like all (stands_once n who x db key h)
happens_once s db key c rules n i x who log (event.Vacuum d) h like all = tells_once s db key n i _ who log like all (stands_once n who x db key h)
happens_once s db key c rules n i x who log (event.BeginRound ticket members) h like all = tells_once s db key n i _ who log like all (stands_once n who x db key h)
happens_once s db key c rules n i x who log (event.BeginTakeover able) h like all = tells_once s db key n i _ who log like all (stands_once n who x db key h)

-- ---- both

-- Of these labels one at most adds a version to the record; and none says that it was removed, or none changes the line of a node.
pub record Tells (db : ℕ) (key : List ℕ) (labels : List Label) : Type 0 where
  pub once : additions db key labels ≤ 1
  pub steady : (list_any (clears db key) labels ≡ false) ⊎ (list_any moves labels ≡ false)

pub turn_tells : (s : Step) (db : ℕ) (key : List ℕ) (c : Config) (rules : Rules) (n i : ℕ) (x : Node) (who : Opened) (log : List OpenCall) (e : Event) → Stands n who x → IsNew c e who (begins x) → InLog (open_at n e who) log →
    Tells db key (line_labels s log (lines_of n i (happens c rules n (begins x) e).outs))
turn_tells s db key c rules n i x who log e h new like = record {
  once = happens_once s db key c rules n i x who log e h like (happens_kept who c rules n x e new h).asked;
  steady = ⊎_elim
      (λ (none : removed_by db key (happens c rules n (begins x) e).outs ≡ false). inl (tells_kept s db key n i (happens c rules n (begins x) e).outs log none))
      (λ (none : list_any installs (happens c rules n (begins x) e).outs ≡ false). inr (tells_unmoved s n i (happens c rules n (begins x) e).outs log none))
      (happens_settles c rules n x e db key);
}
