-- Retry: what was not answered is sent again. A part that only sends leaves what a node has of every record.
use Rattle.std.proofs.Common.{◌≡◌, ◌≢◌, ℕ, ◌<◌, length, arith, subst, ⊎_elim, Bool, true, false, cond, List, [], ◌∷◌, ◌++◌, map, Option, Some, None, refl, sym, ap, ◌∙◌, append_assoc}
use Rattle.std.specs.Prelude.{nat_eq, ◌&&◌}
use Rattle.ct_values.specs.Key.{key_cmp}
use Rattle.ct_frame.specs.declared.frame.Msg.{Msg}
use Rattle.ct_frame.specs.declared.frame.Msg.TheVariants as msg
use Rattle.ct_values.specs.declared.client.ClientOp.{ClientOp}
use Rattle.ct_rules.specs.State.{kind_of}
use Rattle.ct_rules.specs.Parts.{Moving, performs, send, send_all}
use Rattle.ct_rules.specs.Moves.{call_again_of, call_again, revoke_again_of, revoke_again}
use Rattle.ct_rules.specs.declared.event.Act.{Act}
use Rattle.ct_rules.specs.declared.event.Act.TheVariants as act
use Rattle.ct_rules.specs.declared.event.Place.{Place}
use Rattle.ct_rules.specs.declared.state.Wish.{Wish}
use Rattle.ct_tracking.specs.Tracked.{Revocation}
use Rattle.ct_law_record.specs.World.{Mail, sent, sends, told, answers, call_of}
use Rattle.ct_law_record.specs.Labels as law
use Rattle.std.specs.List.{AllByRecursion}
use Rattle.std.proofs.lemmas.Bool.{cases_eq, and_parts, cases_Bool}
use Rattle.ct_values.specs.declared.config.Config.{Config}
use Rattle.ct_call.specs.Rules.{Rules}
use Rattle.ct_law_rules.specs.Laws.{Grows, IsFront}
use Rattle.ct_rules_node.specs.Node.{Database, db_at, state_at}
use Rattle.ct_rules_node.specs.Turn.{Turn}
use Rattle.ct_rules_node.specs.Records as node
use Rattle.ct_rules_node.specs.Records.{out_of, put_back, acted, at_record, place_of}
use Rattle.ct_law_rules_node.specs.NodeLaws.{NodeAscends, left_by}
use Rattle.ct_law_rules_node.proofs.AtRecord.{moves_at}
use Rattle.ct_rules_cluster.specs.Cluster.{Sent}
use Rattle.ct_rules_cluster.specs.Steps.{frames_of}
use Rattle.ct_rules_cluster.specs.declared.step.PendingCall.{PendingCall}
use Rattle.ct_law_record.specs.World.{view_of}
use Rattle.ct_law_generation.specs.Shown.{Era, scene, view, is_it, mails, told_by_all, heard, AllAsked, labels_of, Finds}
use Rattle.ct_law_generation.proofs.Weave.{it_is}
use Rattle.ct_law_generation.proofs.Speaking.{Told}
use Rattle.ct_law_wishes.proofs.Wishing.{Wishful}
use Rattle.ct_law_generation.proofs.Pending.{Callers, Known, KnownAt}
use Rattle.ct_law_generation.proofs.Forming.{Is_formed, Is_sound_mail, formed_blank}
use Rattle.ct_law_generation.proofs.Plain.{AllPlain, plain_more, plain_sends}
use Rattle.ct_law_generation.proofs.Hearing.{frames_more, mails_more, mails_same, mails_other, labels_more, told_by_more}
use Rattle.ct_law_generation.proofs.Telling.{hear_same, hear_other}
use Rattle.ct_law_generation.proofs.Staying.{NodeStays, of_era, Sure, stays_at, Of_records}
use Rattle.ct_law_generation.proofs.Amid.{seen_same, other_state, floor_own}
use Rattle.std.specs.List.{filter}
use Rattle.std.specs.Ordering.{is_eq, nat_cmp}
use Rattle.std.specs.FinMap.{nat_cmp-IsAntisymmetric}
use Rattle.ct_frame.specs.Fields.{is_db, is_node}
use Rattle.ct_store.proofs.Maps.{one_key, equal}
use Rattle.ct_rules.specs.declared.event.MoveEvent.TheVariants as event
use Rattle.ct_rules_node.specs.Rounds.{Called}
use Rattle.ct_law_rules_node.specs.NodeLaws.{is_called_at}
use Rattle.ct_law_rules_node.proofs.Installed.{same_number, own_key}
use Rattle.ct_law_record.specs.World.{View, place, starts}
use Rattle.ct_law_generation.proofs.Speaking.{call_again_told, revoke_again_told}
use Rattle.ct_law_generation.proofs.Forming.{sound_moves}
use Rattle.ct_law_generation.proofs.Amid.{place_is}

no_more : {X : Type 0} (xs : List X) → xs ++ [] ≡ xs
no_more [] = refl
no_more (x ∷ xs) = ap (λ (l : List _). x ∷ l) (no_more xs)

-- this is sent after all else, and nothing else changes
abbrev pub more : List Act → Moving → Moving
more xs o = record o { acts = o.acts ++ xs }

-- ---- what is sent again

unfoldable pub all_sent : List ℕ → Msg → List Act
all_sent [] m = []
all_sent (n ∷ ns) m = act.Send n m ∷ all_sent ns m

send_all_is : (ns : List ℕ) (m : Msg) (o : Moving) → send_all ns m o ≡ more (all_sent ns m) o
unfolding send_all send performs all_sent
send_all_is [] m o = ap (λ (l : List Act). record o { acts = l }) (sym (no_more o.acts))
send_all_is (n ∷ ns) m o = send_all_is ns m (send n m o) ∙ ap (λ (l : List Act). record o { acts = l }) (append_assoc o.acts (act.Send n m ∷ []) (all_sent ns m))

-- the Call of a wish that has a request
unfoldable pub calls_sent : Place → Option Wish → List Act
calls_sent at None = []
calls_sent at (Some w) = cond (nat_eq w.request 0) [] (act.Send at.lmaster (msg.Call at.db at.key w.request (kind_of at.readonly w.op)) ∷ [])

-- the Revokes of a revocation
unfoldable pub revokes_sent : Place → Option Revocation → List Act
revokes_sent at None = []
revokes_sent at (Some r) = all_sent r.missing (msg.Revoke at.db at.key r.rsn)

call_of_is : (at : Place) (o : Moving) (w : Option Wish) → call_again_of at o w ≡ more (calls_sent at w) o
unfolding call_again_of calls_sent send performs
call_of_is at o None = ap (λ (l : List Act). record o { acts = l }) (sym (no_more o.acts))
call_of_is at o (Some w) = elim (nat_eq w.request 0) as (λ b. cond b o (send at.lmaster (msg.Call at.db at.key w.request (kind_of at.readonly w.op)) o) ≡ more (cond b [] (act.Send at.lmaster (msg.Call at.db at.key w.request (kind_of at.readonly w.op)) ∷ [])) o) [
  | true ↦ ap (λ (l : List Act). record o { acts = l }) (sym (no_more o.acts))
  | false ↦ refl
]

pub call_again_is : (at : Place) (o : Moving) → call_again at o ≡ more (calls_sent at o.state.wish) o
unfolding call_again
call_again_is at o = call_of_is at o o.state.wish

revoke_of_is : (at : Place) (o : Moving) (r : Option Revocation) → revoke_again_of at o r ≡ more (revokes_sent at r) o
unfolding revoke_again_of revokes_sent
revoke_of_is at o None = ap (λ (l : List Act). record o { acts = l }) (sym (no_more o.acts))
revoke_of_is at o (Some r) = send_all_is r.missing (msg.Revoke at.db at.key r.rsn) o

pub revoke_again_is : (at : Place) (o : Moving) → revoke_again at o ≡ more (revokes_sent at o.state.tracking.revoking) o
unfolding revoke_again
revoke_again_is at o = revoke_of_is at o o.state.tracking.revoking

-- Resend: the Call and then the Revokes
pub resend_is : (at : Place) (o : Moving) → revoke_again at (call_again at o) ≡ more (revokes_sent at o.state.tracking.revoking) (more (calls_sent at o.state.wish) o)
resend_is at o = ap (revoke_again at) (call_again_is at o) ∙ revoke_again_is at (more (calls_sent at o.state.wish) o)

-- ---- as mail

pub sent_more : (n : ℕ) (xs ys : List Act) → sent n (xs ++ ys) ≡ sent n xs ++ sent n ys
unfolding sent
sent_more n [] ys = refl
sent_more n (x ∷ xs) ys = ap (λ (l : List Mail). sends n x ++ l) (sent_more n xs ys) ∙ sym (append_assoc (sends n x) (sent n xs) (sent n ys))

-- nobody asks anything
abbrev pub nothing_asked : ℕ → Option ClientOp
nothing_asked k = None

all_sent_untold : (n : ℕ) (asks : ℕ → Option ClientOp) (ns : List ℕ) (m : Msg) → told n asks (all_sent ns m) ≡ []
unfolding all_sent told answers call_of
all_sent_untold n asks [] m = refl
all_sent_untold n asks (k ∷ ns) m = one (asks 0) k (told n asks (all_sent ns m)) (all_sent_untold n asks ns m)
  where
    one : (o : Option ClientOp) (k : ℕ) (rest : List law.Label) → rest ≡ [] → answers n o (act.Send k m) ++ rest ≡ []
    one None k rest e = e
    one (Some x) k rest e = e

pub revokes_untold : (n : ℕ) (asks : ℕ → Option ClientOp) (at : Place) (r : Option Revocation) → told n asks (revokes_sent at r) ≡ []
unfolding revokes_sent told
revokes_untold n asks at None = refl
revokes_untold n asks at (Some r) = all_sent_untold n asks r.missing _

send_untold : (n : ℕ) (asked : Option ClientOp) (k : ℕ) (m : Msg) → answers n asked (act.Send k m) ≡ []
unfolding answers
send_untold n None k m = refl
send_untold n (Some x) k m = refl

pub calls_untold : (n : ℕ) (asks : ℕ → Option ClientOp) (at : Place) (w : Option Wish) → told n asks (calls_sent at w) ≡ []
unfolding calls_sent told call_of
calls_untold n asks at None = refl
calls_untold n asks at (Some w) = elim (nat_eq w.request 0) as (λ b. told n asks (cond b [] (act.Send at.lmaster (msg.Call at.db at.key w.request (kind_of at.readonly w.op)) ∷ [])) ≡ []) [
  | true ↦ refl
  | false ↦ ap (λ (l : List law.Label). l ++ []) (send_untold n (asks 0) at.lmaster _)
]

-- ---- a step at one record that only sends

-- the part sends just this at the record, which tells nothing
pub record Just_sends (c : Config) (n db : ℕ) (key : List ℕ) (part : Place → Moving → Moving) (t : Turn) (xs : List Act) : Type 0 where
  pub there : db < length t.node.dbs
  pub is : left_by c n db key part t ≡ more xs (node.view db key t.node)
  pub about : Told (place_of c n db key t.node) xs
  pub untold : told n nothing_asked xs ≡ []
  pub sound : AllByRecursion Is_sound_mail (sent n xs)

-- from turn to turn each record is seen the same, nothing is told, and plain messages are sent
pub record Passes (c : Config) (era : Era) (rules : Rules) (who : Callers) (calls n : ℕ) (pend : List PendingCall) (t u : Turn) : Type 0 where
  pub stays : NodeStays c era rules who calls n u.node
  pub same : (db : ℕ) (key : List ℕ) → view db key u.node ≡ view db key t.node
  pub untold : (db : ℕ) (key : List ℕ) → told_by_all db key (labels_of n pend u.outs) ≡ told_by_all db key (labels_of n pend t.outs)
  pub plain : AllPlain era.number (frames_of t.outs) → AllPlain era.number (frames_of u.outs)

grows_more : (xs : List Act) (o : Moving) → Grows o (more xs o)
unfolding IsFront
grows_more xs o = record { next = omega arith; floor = omega arith; spent = λ e. e; acts = (xs, refl) }

just_sure : (c : Config) (era : Era) (rules : Rules) (who : Callers) (calls n db : ℕ) (key : List ℕ) (part : Place → Moving → Moving) (t : Turn) (xs : List Act) → NodeStays c era rules who calls n t.node → Just_sends c n db key part t xs → Sure c era rules who calls n db key part t
unfolding node.view KnownAt state_at
just_sure c era rules who calls n db key part t xs h k = record {
  has = k.there;
  grows = subst (λ (o : Moving). Grows (node.view db key t.node) o) (sym k.is) (grows_more xs (node.view db key t.node));
  formed = subst (λ (o : Moving). Is_formed (scene c era rules db key) n (view_of o)) (sym k.is) (h.formed db key);
  known = subst (λ (o : Moving). Wishful (Known who calls n db key) o.state.wish) (sym k.is) ((h.known.dbs db).records key);
  waits = subst (λ (o : Moving). Wishful (Of_records c db key) o.state.wish) (sym k.is) (h.waits db key);
}

just_next : (c : Config) (n db : ℕ) (key : List ℕ) (part : Place → Moving → Moving) (t : Turn) (xs : List Act) → Just_sends c n db key part t xs → (at_record c n db key part t).node.next ≡ t.node.next
unfolding at_record acted put_back node.view
just_next c n db key part t xs k = ap (λ (o : Moving). o.next) k.is

just_floor : (c : Config) (n db0 db : ℕ) (key0 : List ℕ) (part : Place → Moving → Moving) (t : Turn) (xs : List Act) → NodeAscends t.node → Just_sends c n db0 key0 part t xs → (db_at db (at_record c n db0 key0 part t).node).floor ≡ (db_at db t.node).floor
unfolding node.view
just_floor c n db0 db key0 part t xs h k = ⊎_elim
    (λ (is : db ≡ db0). subst (λ (d : ℕ). (db_at d (at_record c n db0 key0 part t).node).floor ≡ (db_at d t.node).floor) (sym is) (floor_own c n db0 key0 part t k.there ∙ ap (λ (o : Moving). o.floor) k.is))
    (λ (ne : db ≢ db0). ap (λ (d : Database). d.floor) ((moves_at c n db0 key0 part t h).other_dbs db ne))
    (cases_eq db db0)

just_own : (c : Config) (era : Era) (rules : Rules) (who : Callers) (calls n db : ℕ) (key : List ℕ) (part : Place → Moving → Moving) (t : Turn) (xs : List Act) → NodeStays c era rules who calls n t.node → Just_sends c n db key part t xs → view db key (at_record c n db key part t).node ≡ view db key t.node
unfolding node.view
just_own c era rules who calls n db key part t xs h k =
    seen_same c n db key part t (more xs (node.view db key t.node)) k.is h.known.order k.there (formed_blank (scene c era rules db key) n (view db key t.node) (h.formed db key))

just_same : (c : Config) (era : Era) (rules : Rules) (who : Callers) (calls n db0 db : ℕ) (key0 key : List ℕ) (part : Place → Moving → Moving) (t : Turn) (xs : List Act) → NodeStays c era rules who calls n t.node → Just_sends c n db0 key0 part t xs →
    view db key (at_record c n db0 key0 part t).node ≡ view db key t.node
just_same c era rules who calls n db0 db key0 key part t xs h k = ⊎_elim
    (λ (is : is_it db key db0 key0 ≡ true). (let p = it_is db db0 key key0 is in
    subst (λ (q : List ℕ). view db q (at_record c n db0 key0 part t).node ≡ view db q t.node) p.1
    (subst (λ (d : ℕ). view d key0 (at_record c n db0 key0 part t).node ≡ view d key0 t.node) p.0 (just_own c era rules who calls n db0 key0 part t xs h k))))
    (λ (unlike : is_it db key db0 key0 ≡ false).
    let state = other_state c n db0 db key0 key part t h.known.order unlike in
    let next = just_next c n db0 key0 part t xs k in
    let floor = just_floor c n db0 db key0 part t xs h.known.order k in
    λ i. record { state = state i; next = next i; floor = floor i })
    (cases_Bool (is_it db key db0 key0))

-- nobody asks, so whatever is answered is found
finds_none : (db : ℕ) (key : List ℕ) (n : ℕ) (pend : List PendingCall) → Finds db key n pend nothing_asked
finds_none db key n pend = record { found = λ call asked e a. absurd (cc); about = λ call asked e. absurd (cc) }

pub outs_are : (c : Config) (n db : ℕ) (key : List ℕ) (part : Place → Moving → Moving) (t : Turn) (xs : List Act) → Just_sends c n db key part t xs → (at_record c n db key part t).outs ≡ t.outs ++ map (out_of t.node.generation n db key) xs
unfolding at_record acted node.view
outs_are c n db key part t xs k = ap (λ (o : Moving). t.outs ++ map (out_of t.node.generation n db key) o.acts) k.is

just_untold : (c : Config) (n db0 db : ℕ) (key0 key : List ℕ) (part : Place → Moving → Moving) (t : Turn) (xs : List Act) (pend : List PendingCall) → Just_sends c n db0 key0 part t xs →
    told_by_all db key (labels_of n pend (map (out_of t.node.generation n db0 key0) xs)) ≡ []
unfolding heard AllAsked
just_untold c n db0 db key0 key part t xs pend k =
    let asked : AllAsked (told n nothing_asked xs) = subst AllAsked (sym k.untold) tt in ⊎_elim
    (λ (is : is_it db key db0 key0 ≡ true). (let p = it_is db db0 key key0 is in
    subst (λ (q : List ℕ). told_by_all db q (labels_of n pend (map (out_of t.node.generation n db0 key0) xs)) ≡ []) p.1
    (subst (λ (d : ℕ). told_by_all d key0 (labels_of n pend (map (out_of t.node.generation n db0 key0) xs)) ≡ []) p.0
    (hear_same db0 key0 t.node.generation n pend nothing_asked xs (finds_none db0 key0 n pend) asked ∙ ap heard k.untold))))
    (λ (unlike : is_it db key db0 key0 ≡ false). hear_other db db0 key key0 t.node.generation n pend nothing_asked xs unlike (finds_none db0 key0 n pend) asked)
    (cases_Bool (is_it db key db0 key0))

pub just_passes : (c : Config) (era : Era) (rules : Rules) (who : Callers) (calls n db : ℕ) (key : List ℕ) (part : Place → Moving → Moving) (t : Turn) (xs : List Act) (pend : List PendingCall) → NodeStays c era rules who calls n t.node → Just_sends c n db key part t xs →
    Passes c era rules who calls n pend t (at_record c n db key part t)
unfolding place_of
just_passes c era rules who calls n db0 key0 part t xs pend h k = record {
  stays = stays_at c era rules who calls n db0 key0 part t h (just_sure c era rules who calls n db0 key0 part t xs h k);
  same = λ db key. just_same c era rules who calls n db0 db key0 key part t xs h k;
  untold = λ db key. (ap (λ (l : List _). told_by_all db key (labels_of n pend l)) (outs_are c n db0 key0 part t xs k)
      ∙ ap (λ (l : List _). told_by_all db key l) (labels_more n pend t.outs (map (out_of t.node.generation n db0 key0) xs))
      ∙ told_by_more db key (labels_of n pend t.outs) (labels_of n pend (map (out_of t.node.generation n db0 key0) xs))
      ∙ ap (λ (l : List law.Label). told_by_all db key (labels_of n pend t.outs) ++ l) (just_untold c n db0 db key0 key part t xs pend k)
      ∙ no_more (told_by_all db key (labels_of n pend t.outs)));
  plain = λ before. subst (λ (l : List _). AllPlain era.number (frames_of l)) (sym (outs_are c n db0 key0 part t xs k))
      (subst (λ (l : List Sent). AllPlain era.number l) (sym (frames_more t.outs (map (out_of t.node.generation n db0 key0) xs)))
      (plain_more era.number (frames_of t.outs) _ before (plain_sends era.number (place_of c n db0 key0 t.node) t.node.generation n xs (let e = of_era c era rules who calls n t.node h in omega arith) k.about k.sound)));
}

-- its mail is the record's own
mail_with : (c : Config) (era : Era) (n db0 db : ℕ) (key0 key : List ℕ) (part : Place → Moving → Moving) (t : Turn) (xs : List Act) → Just_sends c n db0 key0 part t xs →
    mails era.number db key (frames_of (at_record c n db0 key0 part t).outs) ≡ mails era.number db key (frames_of t.outs) ++ mails era.number db key (frames_of (map (out_of t.node.generation n db0 key0) xs))
mail_with c era n db0 db key0 key part t xs k =
    ap (λ (l : List _). mails era.number db key (frames_of l)) (outs_are c n db0 key0 part t xs k)
    ∙ ap (λ (l : List Sent). mails era.number db key l) (frames_more t.outs (map (out_of t.node.generation n db0 key0) xs))
    ∙ mails_more era.number db key (frames_of t.outs) _

pub own_mail : (c : Config) (era : Era) (n db : ℕ) (key : List ℕ) (part : Place → Moving → Moving) (t : Turn) (xs : List Act) → t.node.generation ≡ era.number → Just_sends c n db key part t xs →
    mails era.number db key (frames_of (at_record c n db key part t).outs) ≡ mails era.number db key (frames_of t.outs) ++ sent n xs
unfolding place_of
own_mail c era n db key part t xs now k = mail_with c era n db db key key part t xs k ∙ ap (λ (l : List Mail). mails era.number db key (frames_of t.outs) ++ l)
    (subst (λ (g : ℕ). mails g db key (frames_of (map (out_of t.node.generation n db key) xs)) ≡ sent n xs) now (mails_same (place_of c n db key t.node) t.node.generation n xs k.about))

pub other_mail : (c : Config) (era : Era) (n db0 db : ℕ) (key0 key : List ℕ) (part : Place → Moving → Moving) (t : Turn) (xs : List Act) → Just_sends c n db0 key0 part t xs → is_it db key db0 key0 ≡ false →
    mails era.number db key (frames_of (at_record c n db0 key0 part t).outs) ≡ mails era.number db key (frames_of t.outs)
unfolding place_of
other_mail c era n db0 db key0 key part t xs k unlike = mail_with c era n db0 db key0 key part t xs k ∙ ap (λ (l : List Mail). mails era.number db key (frames_of t.outs) ++ l) (mails_other era.number (place_of c n db0 key0 t.node) db key t.node.generation n xs unlike k.about) ∙ no_more _

-- ---- the Call and the Revokes of one record

-- the Call of a record, and its Revokes, as its world has them
abbrev pub calls_at : Config → Era → Rules → ℕ → ℕ → List ℕ → View → List Act
calls_at c era rules n db key v = calls_sent (place (scene c era rules db key) n v) v.state.wish

abbrev pub revokes_at : Config → Era → Rules → ℕ → ℕ → List ℕ → View → List Act
revokes_at c era rules n db key v = revokes_sent (place (scene c era rules db key) n v) v.state.tracking.revoking

parts_all : (P : Mail → Type 0) (xs ys : List Mail) → AllByRecursion P (xs ++ ys) → AllByRecursion P xs × AllByRecursion P ys
parts_all P [] ys h = (tt, h)
parts_all P (x ∷ xs) ys h = (let p = parts_all P xs ys h.1 in ((h.0, p.0), p.1))

both_sound : (c : Config) (era : Era) (rules : Rules) (n db : ℕ) (key : List ℕ) (v : View) → is_db db ≡ true → is_node n ≡ true → Is_formed (scene c era rules db key) n v →
    AllByRecursion Is_sound_mail (sent n (calls_at c era rules n db key v)) × AllByRecursion Is_sound_mail (sent n (revokes_at c era rules n db key v))
both_sound c era rules n db key v has node h =
    let is = resend_is (place (scene c era rules db key) n v) (starts v) in
    parts_all Is_sound_mail (sent n (calls_at c era rules n db key v)) (sent n (revokes_at c era rules n db key v))
    (subst (λ (l : List Mail). AllByRecursion Is_sound_mail l) (sent_more n (calls_at c era rules n db key v) (revokes_at c era rules n db key v))
    (subst (λ (o : Moving). AllByRecursion Is_sound_mail (sent n o.acts)) is (sound_moves (scene c era rules db key) n v event.Resend has node h tt refl (ap (λ (o : Moving). o.spent) is))))

-- what is known of the node
pub record Retries_at (c : Config) (n : ℕ) : Type 0 where
  pub real : is_node n ≡ true
  pub small : (db : ℕ) → db < length c.dbs → is_db db ≡ true

pub calls_just : (c : Config) (era : Era) (rules : Rules) (who : Callers) (calls n db : ℕ) (key : List ℕ) (t : Turn) → Retries_at c n → NodeStays c era rules who calls n t.node → db < length c.dbs → Just_sends c n db key call_again t (calls_at c era rules n db key (view db key t.node))
unfolding node.view Told
calls_just c era rules who calls n db key t r h l =
    let at = place_is c era rules n db key t.node h.knows in
    let is : call_again (place_of c n db key t.node) (node.view db key t.node) ≡ more (calls_at c era rules n db key (view db key t.node)) (node.view db key t.node) =
    ap (λ (p : Place). call_again p (node.view db key t.node)) at ∙ call_again_is (place (scene c era rules db key) n (view db key t.node)) (node.view db key t.node) in record {
      there = subst (λ (k : ℕ). db < k) (sym h.size) l;
      is = is;
      about = subst (λ (o : Moving). Told (place_of c n db key t.node) o.acts) is (call_again_told (place_of c n db key t.node) (node.view db key t.node) tt);
      untold = calls_untold n nothing_asked _ _;
      sound = (both_sound c era rules n db key (view db key t.node) (r.small db l) r.real (h.formed db key)).0;
    }

pub revokes_just : (c : Config) (era : Era) (rules : Rules) (who : Callers) (calls n db : ℕ) (key : List ℕ) (t : Turn) → Retries_at c n → NodeStays c era rules who calls n t.node → db < length c.dbs → Just_sends c n db key revoke_again t (revokes_at c era rules n db key (view db key t.node))
unfolding node.view Told
revokes_just c era rules who calls n db key t r h l =
    let at = place_is c era rules n db key t.node h.knows in
    let is : revoke_again (place_of c n db key t.node) (node.view db key t.node) ≡ more (revokes_at c era rules n db key (view db key t.node)) (node.view db key t.node) =
    ap (λ (p : Place). revoke_again p (node.view db key t.node)) at ∙ revoke_again_is (place (scene c era rules db key) n (view db key t.node)) (node.view db key t.node) in record {
      there = subst (λ (k : ℕ). db < k) (sym h.size) l;
      is = is;
      about = subst (λ (o : Moving). Told (place_of c n db key t.node) o.acts) is (revoke_again_told (place_of c n db key t.node) (node.view db key t.node) tt);
      untold = revokes_untold n nothing_asked _ _;
      sound = (both_sound c era rules n db key (view db key t.node) (r.small db l) r.real (h.formed db key)).1;
    }

-- ---- one record after the other

pub passes_none : (c : Config) (era : Era) (rules : Rules) (who : Callers) (calls n : ℕ) (pend : List PendingCall) (t : Turn) → NodeStays c era rules who calls n t.node → Passes c era rules who calls n pend t t
passes_none c era rules who calls n pend t h = record { stays = h; same = λ db key. refl; untold = λ db key. refl; plain = λ b. b }

pub passes_more : (c : Config) (era : Era) (rules : Rules) (who : Callers) (calls n : ℕ) (pend : List PendingCall) (t u v : Turn) → Passes c era rules who calls n pend t u → Passes c era rules who calls n pend u v → Passes c era rules who calls n pend t v
passes_more c era rules who calls n pend t u v a b = record {
  stays = b.stays;
  same = λ db key. b.same db key ∙ a.same db key;
  untold = λ db key. b.untold db key ∙ a.untold db key;
  plain = λ before. b.plain (a.plain before);
}

-- a part at these records, in order
unfoldable pub at_all : Config → ℕ → (Place → Moving → Moving) → List Called → Turn → Turn
at_all c n part [] t = t
at_all c n part (x ∷ xs) t = at_all c n part xs (at_record c n x.db x.key part t)

-- as often as there are of these
unfoldable pub times : List Called → List Mail → List Mail
times [] m = []
times (x ∷ xs) m = m ++ times xs m

-- the part only sends this, at every record of the node
abbrev pub Sends_each : Config → Era → Rules → Callers → ℕ → ℕ → (Place → Moving → Moving) → (ℕ → List ℕ → View → List Act) → Type 0
Sends_each c era rules who calls n part what = (db : ℕ) (key : List ℕ) (t : Turn) → NodeStays c era rules who calls n t.node → db < length c.dbs → Just_sends c n db key part t (what db key (view db key t.node))

abbrev pub AllInside : Config → List Called → Type 0
AllInside c xs = AllByRecursion (λ x. x.db < length c.dbs) xs

pub all_passes : (c : Config) (era : Era) (rules : Rules) (who : Callers) (calls n : ℕ) (pend : List PendingCall) (part : Place → Moving → Moving) (what : ℕ → List ℕ → View → List Act) (xs : List Called) (t : Turn) → Sends_each c era rules who calls n part what →
    AllInside c xs → NodeStays c era rules who calls n t.node → Passes c era rules who calls n pend t (at_all c n part xs t)
unfolding at_all
all_passes c era rules who calls n pend part what [] t s l h = passes_none c era rules who calls n pend t h
all_passes c era rules who calls n pend part what (x ∷ xs) t s l h =
    let one = just_passes c era rules who calls n x.db x.key part t _ pend h (s x.db x.key t h l.0) in
    passes_more c era rules who calls n pend t (at_record c n x.db x.key part t) _ one (all_passes c era rules who calls n pend part what xs (at_record c n x.db x.key part t) s l.1 one.stays)

called_is : (db : ℕ) (key : List ℕ) (x : Called) → is_called_at db key x ≡ true → (x.db ≡ db) × (x.key ≡ key)
unfolding is_called_at
called_is db key x e = (let p = and_parts _ _ e in (sym (nat_cmp-IsAntisymmetric db x.db (equal _ p.0)), sym (one_key key x.key (equal _ p.1))))

called_not : (db : ℕ) (key : List ℕ) (x : Called) → is_called_at db key x ≡ false → is_it db key x.db x.key ≡ false
unfolding is_called_at
called_not db key x e = ⊎_elim
    (λ (t : is_it db key x.db x.key ≡ true). (let p = it_is db x.db key x.key t in
    let own : (is_eq (nat_cmp db x.db) && is_eq (key_cmp key x.key)) ≡ true = subst (λ (d : ℕ). (is_eq (nat_cmp db d) && is_eq (key_cmp key x.key)) ≡ true) (sym p.0) (subst (λ (k : List ℕ). (is_eq (nat_cmp db db) && is_eq (key_cmp key k)) ≡ true) (sym p.1) (λ i. same_number db i && own_key key i)) in absurd (cc)))
    (λ (f : is_it db key x.db x.key ≡ false). f)
    (cases_Bool (is_it db key x.db x.key))

pub all_mail : (c : Config) (era : Era) (rules : Rules) (who : Callers) (calls n : ℕ) (part : Place → Moving → Moving) (what : ℕ → List ℕ → View → List Act) (xs : List Called) (t : Turn) → Sends_each c era rules who calls n part what →
    AllInside c xs → NodeStays c era rules who calls n t.node → (db : ℕ) (key : List ℕ) →
    mails era.number db key (frames_of (at_all c n part xs t).outs) ≡ mails era.number db key (frames_of t.outs) ++ times (filter (is_called_at db key) xs) (sent n (what db key (view db key t.node)))
unfolding at_all times
all_mail c era rules who calls n part what [] t s l h db key = sym (no_more _)
all_mail c era rules who calls n part what (x ∷ xs) t s l h db key =
    let u = at_record c n x.db x.key part t in
    let k = s x.db x.key t h l.0 in
    let one = just_passes c era rules who calls n x.db x.key part t _ [] h k in
    let more' : List Mail = times (filter (is_called_at db key) xs) (sent n (what db key (view db key t.node))) in
    all_mail c era rules who calls n part what xs u s l.1 one.stays db key
    ∙ ap (λ (v : View). mails era.number db key (frames_of u.outs) ++ times (filter (is_called_at db key) xs) (sent n (what db key v))) (one.same db key)
    ∙ decide (is_called_at db key x) refl
  where
    decide : (b : Bool) → is_called_at db key x ≡ b →
        mails era.number db key (frames_of (at_record c n x.db x.key part t).outs) ++ times (filter (is_called_at db key) xs) (sent n (what db key (view db key t.node)))
        ≡ mails era.number db key (frames_of t.outs) ++ times (cond b (x ∷ filter (is_called_at db key) xs) (filter (is_called_at db key) xs)) (sent n (what db key (view db key t.node)))
    decide true e = (let p = called_is db key x e in
        ap (λ (m : List Mail). m ++ times (filter (is_called_at db key) xs) (sent n (what db key (view db key t.node))))
        (subst (λ (q : List ℕ). mails era.number db q (frames_of (at_record c n x.db x.key part t).outs) ≡ mails era.number db q (frames_of t.outs) ++ sent n (what db q (view db q t.node))) p.1
        (subst (λ (d : ℕ). mails era.number d x.key (frames_of (at_record c n x.db x.key part t).outs) ≡ mails era.number d x.key (frames_of t.outs) ++ sent n (what d x.key (view d x.key t.node))) p.0
        (own_mail c era n x.db x.key part t _ (of_era c era rules who calls n t.node h) (s x.db x.key t h l.0))))
        ∙ append_assoc (mails era.number db key (frames_of t.outs)) _ _)
    decide false e = ap (λ (m : List Mail). m ++ times (filter (is_called_at db key) xs) (sent n (what db key (view db key t.node)))) (other_mail c era n x.db db x.key key part t _ (s x.db x.key t h l.0) (called_not db key x e))
