-- Thaw: every call that waits at a node wants its record anew, one after the other, and the world of every record follows.
use Rattle.std.proofs.Common.{◌≡◌, ℕ, ◌<◌, true, false, cond, List, [], ◌∷◌, ◌++◌, length, Option, Some, None, refl, sym, ap, ◌∙◌, append-nil, arith, subst}
use Rattle.std.specs.Prelude.{nat_eq, is_none, ◌||◌}
use Rattle.std.specs.List.{AllByRecursion}
use Rattle.std.proofs.lemmas.Bool.{eq-eqb, or_parts}
use Rattle.ct_values.specs.declared.client.ClientOp.{ClientOp}
use Rattle.ct_values.specs.declared.config.Config.{Config}
use Rattle.ct_frame.specs.Fields.{is_db, is_node}
use Rattle.ct_frame.specs.declared.event.Note.TheVariants as note
use Rattle.ct_frame.specs.declared.event.Out.{Out}
use Rattle.ct_frame.specs.declared.event.Out.TheVariants as out
use Rattle.ct_call.specs.Rules.{Rules}
use Rattle.ct_law_rules.specs.Form.{wishes_record, wished_as, MayCome}
use Rattle.ct_rules.specs.Parts.{Moving, keeps}
use Rattle.ct_rules.specs.declared.event.MoveEvent.TheVariants as event
use Rattle.ct_rules.specs.declared.event.Place.{Place}
use Rattle.ct_rules.specs.declared.state.Wish.{Wish}
use Rattle.ct_rules_node.specs.Node.{Node, Serving, db_at, state_at, is_present_in, is_present, is_among}
use Rattle.ct_rules_node.specs.Turn.{Turn, does, notes, with_phase}
use Rattle.ct_rules_node.specs.Records as node
use Rattle.ct_rules_node.specs.Records.{acted, at_record, place_of}
use Rattle.ct_rules_node.specs.Rounds.{Called, pending_calls, want_again_of, want_again, want_all, thaws}
use Rattle.ct_law_rules_node.specs.NodeLaws.{NodeAscends, left_by}
use Rattle.ct_law_rules_node.proofs.Growing.{want_again_grows}
use Rattle.ct_rules_cluster.specs.Cluster.{Sent}
use Rattle.ct_rules_cluster.specs.Labels.{Label}
use Rattle.ct_rules_cluster.specs.Steps.{frames_of}
use Rattle.ct_rules_cluster.specs.declared.step.PendingCall.{PendingCall}
use Rattle.ct_law_record.specs.World.{Scene, View, World, Thaws, happens, place, starts, view_of, sent, waiting_call, Stepped}
use Rattle.ct_law_record.specs.World as law
use Rattle.ct_law_generation.specs.Shown.{Era, scene, view, mails, told_by, told_by_all, heard, AllAsked, labels_of, Finds, amid}
use Rattle.ct_law_generation.proofs.Speaking.{Told, want_told}
use Rattle.ct_law_generation.proofs.Plain.{AllPlain}
use Rattle.ct_law_generation.proofs.Hearing.{frames_more, labels_more, told_by_more}
use Rattle.ct_law_wishes.proofs.Wishing.{Wishful, want_wish}
use Rattle.ct_law_generation.proofs.Pending.{Callers, Known, KnownAt}
use Rattle.ct_law_generation.proofs.Forming.{Is_formed, Is_sound_mail, formed_moves, formed_blank, sound_moves}
use Rattle.ct_law_generation.proofs.Amid.{here, self, put_world, place_is, Fair}
use Rattle.ct_law_generation.proofs.Staying.{NodeStays, Sure, stays_at, AllWishes, Of_records, of_era, wishes_at}
use Rattle.ct_law_generation.proofs.Events.{each_follows}
use Rattle.ct_law_generation.proofs.Following.{IsEra, Asks, all_plain, node_of, Goes_on, asked_now}
use Rattle.ct_law_generation.proofs.Delivering.{whole_part}
use Rattle.ct_law_generation.proofs.Retried.{AllInside}
use Rattle.ct_law_generation.proofs.Resending.{pending_inside}
use Rattle.ct_law_generation.proofs.Vacuumed.{Found, goes_more, asks_amid, Waited, waited_finds, finds_waited}

-- ---- the rule of one record

-- the view without its wish
abbrev pub unwished : View → View
unwished v = record v { state = record v.state { wish = None } }

-- it stays in form
wish_cleared : (s : Scene) (n : ℕ) (v : View) → Is_formed s n v → Is_formed s n (unwished v)
unfolding wishes_record wished_as
wish_cleared s n v h = record {
  form = record {
    shape = record {
      sent_on = h.form.shape.sent_on;
      queue_entry = h.form.shape.queue_entry;
      lock_held = h.form.shape.lock_held;
      revocation_held = h.form.shape.revocation_held;
      lock_quiet = h.form.shape.lock_quiet;
      revocation_tracked = h.form.shape.revocation_tracked;
      lock_unwished = λ _. refl;
      vacuum_home = h.form.shape.vacuum_home;
      vacuum_queue = h.form.shape.vacuum_queue;
      vacuum_unlocked = h.form.shape.vacuum_unlocked;
      vacuum_unwished = λ _. refl;
      vacuum_quiet = h.form.shape.vacuum_quiet;
      wish_wants = refl;
      queue_asked = h.form.shape.queue_asked;
      waiting_recalled = h.form.shape.waiting_recalled;
    };
    numbers = record {
      copy_limit = h.form.numbers.copy_limit;
      least_limit = h.form.numbers.least_limit;
      request_limit = h.form.numbers.request_limit;
      revocation_limit = h.form.numbers.revocation_limit;
      vacuum_limit = h.form.numbers.vacuum_limit;
      wish_limit = omega arith;
    };
    counters = h.form.counters;
  };
  tracks = h.tracks;
  waits = h.waits;
}

unlocked_where : (a : Option ℕ) (w : Option Wish) (x : Wish) → w ≡ Some x → (is_none a ≡ false → is_none w ≡ true) → a ≡ None
unlocked_where None w x e f = refl
unlocked_where (Some l) None x e f = absurd (cc)
unlocked_where (Some l) (Some w) x e f = absurd (let k = f refl in cc)

-- the call of the wish may come to it
wish_comes : (s : Scene) (n : ℕ) (v : View) (w : Wish) → v.state.wish ≡ Some w → Is_formed s n v → MayCome (unwished v).state (event.Want w.call w.op)
unfolding wishes_record
wish_comes s n v w e h = (subst (λ (x : Option Wish). wishes_record x ≡ true) e h.form.shape.wish_wants, refl, λ not_read. unlocked_where v.state.locked v.state.wish w e h.form.shape.lock_unwished)

again_formed_of : (s : Scene) (n : ℕ) (v : View) (w : Option Wish) → v.state.wish ≡ w → is_db s.db ≡ true → Is_formed s n v → (want_again_of (place s n v) s.rules (starts v) w).spent ≡ false →
    Is_formed s n (view_of (want_again_of (place s n v) s.rules (starts v) w))
unfolding want_again_of keeps
again_formed_of s n v None e db h u = h
again_formed_of s n v (Some w) e db h u = formed_moves s n (unwished v) (event.Want w.call w.op) db (wish_cleared s n v h) (wish_comes s n v w e h) refl u

again_formed : (s : Scene) (n : ℕ) (v : View) → is_db s.db ≡ true → Is_formed s n v → (want_again s.rules (place s n v) (starts v)).spent ≡ false → Is_formed s n (view_of (want_again s.rules (place s n v) (starts v)))
unfolding want_again
again_formed s n v db h u = again_formed_of s n v v.state.wish refl db h u

again_sound_of : (s : Scene) (n : ℕ) (v : View) (w : Option Wish) → v.state.wish ≡ w → is_db s.db ≡ true → is_node n ≡ true → Is_formed s n v → (want_again_of (place s n v) s.rules (starts v) w).spent ≡ false →
    AllByRecursion Is_sound_mail (sent n (want_again_of (place s n v) s.rules (starts v) w).acts)
unfolding want_again_of keeps sent
again_sound_of s n v None e db real h u = tt
again_sound_of s n v (Some w) e db real h u = sound_moves s n (unwished v) (event.Want w.call w.op) db real (wish_cleared s n v h) (wish_comes s n v w e h) refl u

-- what is sent keeps the rules of its fields
again_sound : (s : Scene) (n : ℕ) (v : View) → is_db s.db ≡ true → is_node n ≡ true → Is_formed s n v → (want_again s.rules (place s n v) (starts v)).spent ≡ false → AllByRecursion Is_sound_mail (sent n (want_again s.rules (place s n v) (starts v)).acts)
unfolding want_again
again_sound s n v db real h u = again_sound_of s n v v.state.wish refl db real h u

again_told_of : (at : Place) (rules : Rules) (o : Moving) (w : Option Wish) → Told at o.acts → Told at (want_again_of at rules o w).acts
unfolding want_again_of keeps
again_told_of at rules o None h = h
again_told_of at rules o (Some w) h = want_told at rules w.call w.op (keeps (record o.state { wish = None }) o) h

-- and it speaks of the record
pub again_told : (at : Place) (rules : Rules) (o : Moving) → Told at o.acts → Told at (want_again rules at o).acts
unfolding want_again
again_told at rules o h = again_told_of at rules o o.state.wish h

again_wish_of : (P : ℕ → ClientOp → Type 0) (at : Place) (rules : Rules) (o : Moving) (w : Option Wish) → o.state.wish ≡ w → Wishful P w → Wishful P (want_again_of at rules o w).state.wish
unfolding want_again_of keeps Wishful
again_wish_of P at rules o None e h = subst (λ (x : Option Wish). Wishful P x) (sym e) tt
again_wish_of P at rules o (Some w) e h = want_wish P at rules w.call w.op (keeps (record o.state { wish = None }) o) h tt

-- the call that waits then is the one that waited
pub again_wish : (P : ℕ → ClientOp → Type 0) (at : Place) (rules : Rules) (o : Moving) → Wishful P o.state.wish → Wishful P (want_again rules at o).state.wish
unfolding want_again
again_wish P at rules o h = again_wish_of P at rules o o.state.wish refl h

-- ---- the step at one record

again_left : (c : Config) (era : Era) (rules : Rules) (n db : ℕ) (key : List ℕ) (t : Turn) → t.node.members ≡ era.members →
    left_by c n db key (want_again rules) t ≡ want_again rules (place (scene c era rules db key) n (view db key t.node)) (starts (view db key t.node))
unfolding node.view
again_left c era rules n db key t h = ap (λ (p : Place). want_again rules p (starts (view db key t.node))) (place_is c era rules n db key t.node h)

pub thaws_happen : (c : Config) (era : Era) (rules : Rules) (n db : ℕ) (key : List ℕ) (t : Turn) (w : World) → t.node.members ≡ era.members →
    happens (scene c era rules db key) (amid era.number db key n w t) (Thaws n) ≡ law.put (scene c era rules db key) (amid era.number db key n w t) n (waiting_call (state_at db key t.node).wish) (left_by c n db key (want_again rules) t)
thaws_happen c era rules n db key t w h =
    ap (λ (v : View). law.put (scene c era rules db key) (amid era.number db key n w t) n (waiting_call v.state.wish) (want_again rules (place (scene c era rules db key) n v) (starts v))) (self era.number db key n w t)
    ∙ ap (λ (o : Moving). law.put (scene c era rules db key) (amid era.number db key n w t) n (waiting_call (state_at db key t.node).wish) o) (sym (again_left c era rules n db key t h))

-- what is known when the calls begin to want their records anew
pub record Thaws_from (c : Config) (era : Era) (rules : Rules) (n : ℕ) (ws : ℕ → List ℕ → World) (t : Turn) : Type 0 where
  pub real : IsEra c era
  pub member : is_among n era.members ≡ true
  pub small : (db : ℕ) → db < length c.dbs → is_db db ≡ true
  pub reached : (db : ℕ) (key : List ℕ) → Asks (scene c era rules db key) (amid era.number db key n (ws db key) t)

-- what is asked of the step at a record
pub record Thaws_at (c : Config) (era : Era) (rules : Rules) (n db : ℕ) (key : List ℕ) (pend : List PendingCall) (w : World) (t : Turn) : Type 0 where
  pub has : is_db db ≡ true
  pub there : db < length t.node.dbs
  pub whole : (left_by c n db key (want_again rules) t).spent ≡ false
  pub waited : Wishful (Waited db key n pend) (state_at db key t.node).wish
  pub reached : Asks (scene c era rules db key) (amid era.number db key n w t)

again_stays : (c : Config) (era : Era) (rules : Rules) (who : Callers) (calls n db : ℕ) (key : List ℕ) (pend : List PendingCall) (w : World) (t : Turn) → NodeStays c era rules who calls n t.node → Thaws_at c era rules n db key pend w t →
    Is_formed (scene c era rules db key) n (view_of (left_by c n db key (want_again rules) t))
again_stays c era rules who calls n db key pend w t h k =
    let is = again_left c era rules n db key t h.knows in
    subst (λ (o : Moving). Is_formed (scene c era rules db key) n (view_of o)) (sym is)
    (again_formed (scene c era rules db key) n (view db key t.node) k.has (h.formed db key) (ap (λ (o : Moving). o.spent) (sym is) ∙ k.whole))

again_sure : (c : Config) (era : Era) (rules : Rules) (who : Callers) (calls n db : ℕ) (key : List ℕ) (pend : List PendingCall) (w : World) (t : Turn) → NodeStays c era rules who calls n t.node → Thaws_at c era rules n db key pend w t → Sure c era rules who calls n db key (want_again rules) t
unfolding KnownAt state_at node.view
again_sure c era rules who calls n db key pend w t h k = record {
  has = k.there;
  grows = want_again_grows rules (place_of c n db key t.node) (node.view db key t.node);
  formed = again_stays c era rules who calls n db key pend w t h k;
  known = again_wish (Known who calls n db key) (place_of c n db key t.node) rules (node.view db key t.node) ((h.known.dbs db).records key);
  waits = again_wish (Of_records c db key) (place_of c n db key t.node) rules (node.view db key t.node) (h.waits db key);
}

pub again_fair : (c : Config) (era : Era) (rules : Rules) (who : Callers) (calls n db : ℕ) (key : List ℕ) (pend : List PendingCall) (w : World) (t : Turn) → IsEra c era → is_among n era.members ≡ true → NodeStays c era rules who calls n t.node → Thaws_at c era rules n db key pend w t →
    Fair c era n db key (want_again rules) t pend (waiting_call (state_at db key t.node).wish)
unfolding Told node.view
again_fair c era rules who calls n db key pend w t real member h k =
    let o = left_by c n db key (want_again rules) t in
    let asks = waiting_call (state_at db key t.node).wish in record {
      generation = of_era c era rules who calls n t.node h;
      members = h.knows;
      member = member;
      order = h.known.order;
      has = k.there;
      whole = k.whole;
      blank = formed_blank (scene c era rules db key) n (view_of o) (again_stays c era rules who calls n db key pend w t h k);
      grows = want_again_grows rules (place_of c n db key t.node) (node.view db key t.node);
      sends = again_told (place_of c n db key t.node) rules (node.view db key t.node) tt;
      finds = waited_finds db key n pend (state_at db key t.node).wish k.waited;
      asked = subst (λ (x : Stepped). AllAsked x.labels) (thaws_happen c era rules n db key t w h.knows ∙ put_world (scene c era rules db key) (amid era.number db key n w t) n asks o member (here w n) k.whole) (asked_now (scene c era rules db key) (amid era.number db key n w t) (Thaws n) k.reached);
    }

sends_again : (c : Config) (era : Era) (rules : Rules) (who : Callers) (calls n db : ℕ) (key : List ℕ) (pend : List PendingCall) (w : World) (t : Turn) → is_node n ≡ true → NodeStays c era rules who calls n t.node → Thaws_at c era rules n db key pend w t →
    AllByRecursion Is_sound_mail (sent n (left_by c n db key (want_again rules) t).acts)
sends_again c era rules who calls n db key pend w t node h k =
    let is = again_left c era rules n db key t h.knows in
    subst (λ (o : Moving). AllByRecursion Is_sound_mail (sent n o.acts)) (sym is)
    (again_sound (scene c era rules db key) n (view db key t.node) k.has node (h.formed db key) (ap (λ (o : Moving). o.spent) (sym is) ∙ k.whole))

-- the call that waits at a record wants it anew, if one does: the node stays as it was, and the world of every record follows
pub again_goes : (c : Config) (era : Era) (rules : Rules) (who : Callers) (calls n db : ℕ) (key : List ℕ) (pend : List PendingCall) (ws : ℕ → List ℕ → World) (t : Turn) → IsEra c era → is_among n era.members ≡ true → NodeStays c era rules who calls n t.node →
    Thaws_at c era rules n db key pend (ws db key) t → Goes_on c era rules who calls n pend ws t (at_record c n db key (want_again rules) t)
again_goes c era rules who calls n db key pend ws t real member h k =
    let f = again_fair c era rules who calls n db key pend (ws db key) t real member h k in (
      stays_at c era rules who calls n db key (want_again rules) t h (again_sure c era rules who calls n db key pend (ws db key) t h k),
      each_follows c era rules n db key (want_again rules) t pend (waiting_call (state_at db key t.node).wish) ws (Thaws n) f (thaws_happen c era rules n db key t (ws db key) h.knows),
      λ before. all_plain c era n db key (want_again rules) t f.generation f.sends (sends_again c era rules who calls n db key pend (ws db key) t (node_of n era.members real.real member) h k) before,
    )

-- ---- one call after the other

-- what every call that waits has stays so where one wants its record anew
pub again_wishes : (P : ℕ → List ℕ → ℕ → ClientOp → Type 0) (c : Config) (rules : Rules) (n db : ℕ) (key : List ℕ) (t : Turn) → NodeAscends t.node → db < length t.node.dbs → AllWishes P t.node → AllWishes P (at_record c n db key (want_again rules) t).node
unfolding node.view
again_wishes P c rules n db key t order there all = wishes_at P c n db key (want_again rules) t order there all (again_wish (P db key) (place_of c n db key t.node) rules (node.view db key t.node) (all db key))

-- a step that was whole at its end was so before
pub wants_before : (c : Config) (rules : Rules) (n : ℕ) (xs : List Called) (t : Turn) → (want_all c rules n xs t).spent ≡ false → t.spent ≡ false
unfolding want_all at_record acted
wants_before c rules n [] t e = e
wants_before c rules n (x ∷ xs) t e = (or_parts t.spent (left_by c n x.db x.key (want_again rules) t).spent (wants_before c rules n xs (at_record c n x.db x.key (want_again rules) t) e)).0

-- one of them, in a step from a turn t0 on, from which it came to t
pub thaws_at : (c : Config) (era : Era) (rules : Rules) (who : Callers) (calls n : ℕ) (x : Called) (pend : List PendingCall) (ws : ℕ → List ℕ → World) (t0 t : Turn) → Thaws_from c era rules n ws t0 → x.db < length c.dbs → AllWishes (Found n pend) t.node →
    Goes_on c era rules who calls n pend ws t0 t → (at_record c n x.db x.key (want_again rules) t).spent ≡ false → Thaws_at c era rules n x.db x.key pend (ws x.db x.key) t
thaws_at c era rules who calls n x pend ws t0 t from inside all g spent = record {
  has = from.small x.db inside;
  there = subst (λ (l : ℕ). x.db < l) (sym g.0.size) inside;
  whole = whole_part c n x.db x.key (want_again rules) t spent;
  waited = all x.db x.key;
  reached = asks_amid era.number (scene c era rules x.db x.key) n (ws x.db x.key) pend t0 t (from.reached x.db x.key) (g.1 x.db x.key);
}

-- all of them
pub wants_go : (c : Config) (era : Era) (rules : Rules) (who : Callers) (calls n : ℕ) (xs : List Called) (pend : List PendingCall) (ws : ℕ → List ℕ → World) (t0 t : Turn) → Thaws_from c era rules n ws t0 → AllInside c xs → AllWishes (Found n pend) t.node →
    Goes_on c era rules who calls n pend ws t0 t → (want_all c rules n xs t).spent ≡ false → Goes_on c era rules who calls n pend ws t0 (want_all c rules n xs t)
unfolding want_all
wants_go c era rules who calls n [] pend ws t0 t from inside all g spent = g
wants_go c era rules who calls n (x ∷ xs) pend ws t0 t from inside all g spent =
    let u = at_record c n x.db x.key (want_again rules) t in
    let k = thaws_at c era rules who calls n x pend ws t0 t from inside.0 all g (wants_before c rules n xs u spent) in
    wants_go c era rules who calls n xs pend ws t0 u from inside.1 (again_wishes (Found n pend) c rules n x.db x.key t g.0.known.order k.there all)
    (goes_more c era rules who calls n pend ws t0 t u g (again_goes c era rules who calls n x.db x.key pend ws t from.real from.member g.0 k)) spent

-- ---- the node serves, and notes it

-- the turn once the node serves again and has noted it
abbrev pub thawing : ℕ → Turn → Turn
thawing g t = notes (note.Thawed g) (with_phase Serving t)

-- a member that serves stays as it was
pub served_stays : (c : Config) (era : Era) (rules : Rules) (who : Callers) (calls n : ℕ) (x : Node) → NodeStays c era rules who calls n x → NodeStays c era rules who calls n (record x { phase = Serving })
unfolding state_at db_at is_present_in is_present
served_stays c era rules who calls n x h = record {
  present = eq-eqb x.generation era.number (of_era c era rules who calls n x h);
  knows = h.knows;
  promise = h.promise;
  lead = h.lead;
  size = h.size;
  known = record { order = h.known.order; dbs = h.known.dbs };
  waits = h.waits;
  serves = λ _. refl;
  formed = h.formed;
}

-- no record sees it
pub thawing_goes : (c : Config) (era : Era) (rules : Rules) (who : Callers) (calls n g : ℕ) (pend : List PendingCall) (ws : ℕ → List ℕ → World) (t : Turn) → NodeStays c era rules who calls n t.node → Goes_on c era rules who calls n pend ws t (thawing g t)
unfolding notes does with_phase state_at db_at frames_of mails labels_of told_by_all told_by heard
thawing_goes c era rules who calls n g pend ws t h =
    let x : List Out = out.Note (note.Thawed g) ∷ [] in
    let sent' : frames_of (t.outs ++ x) ≡ frames_of t.outs = frames_more t.outs x ∙ append-nil (frames_of t.outs) in (
      served_stays c era rules who calls n t.node h,
      (λ db key. (
        [],
        record {
          world = (λ i. record { nodes = λ k. cond (nat_eq k n) (view db key t.node) ((ws db key).nodes k); joined = λ k. (ws db key).joined k || nat_eq k n; mail = (ws db key).mail ++ mails era.number db key (sym sent' i) });
          labels = ap (λ (l : List Label). told_by_all db key l) (labels_more n pend t.outs x) ∙ told_by_more db key (labels_of n pend t.outs) (labels_of n pend x);
        },
      )),
      λ before. subst (λ (l : List Sent). AllPlain era.number l) (sym sent') before,
    )

-- a Thaw, as a whole: the node stays as it was, and the world of every record follows
pub thaws_go : (c : Config) (era : Era) (rules : Rules) (who : Callers) (calls n g : ℕ) (pend : List PendingCall) (ws : ℕ → List ℕ → World) (t : Turn) → Thaws_from c era rules n ws t → NodeStays c era rules who calls n t.node →
    ((db : ℕ) (key : List ℕ) → Finds db key n pend (waiting_call (state_at db key t.node).wish)) → (thaws c rules n g t).spent ≡ false → Goes_on c era rules who calls n pend ws t (thaws c rules n g t)
unfolding thaws notes does with_phase state_at db_at
thaws_go c era rules who calls n g pend ws t from h finds spent =
    wants_go c era rules who calls n (pending_calls t.node) pend ws t (thawing g t) from (pending_inside c t.node h.size) (λ db key. finds_waited db key n pend (state_at db key t.node).wish (finds db key))
    (thawing_goes c era rules who calls n g pend ws t h) spent
