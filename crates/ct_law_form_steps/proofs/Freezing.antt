-- A Freeze leaves a node in form: at rest, and frozen where no record is locked.
use Rattle.std.proofs.Common.{◌≡◌, ℕ, ◌+◌, ◌<◌, ◌≤◌, Bool, true, false, cond, List, [], ◌∷◌, length, Option, Some, None, refl, sym, ◌∙◌, ap, subst, arith}
use Rattle.std.proofs.lemmas.Bool.{cond_both}
use Rattle.std.proofs.lemmas.List.{length-map}
use Rattle.std.specs.Prelude.{nat_lt}
use Rattle.ct_values.specs.declared.config.Config.{Config}
use Rattle.ct_frame.specs.Fields.{is_from_one}
use Rattle.ct_frame.specs.declared.event.Note.TheVariants as note
use Rattle.ct_frame.specs.declared.frame.Msg.TheVariants as msg
use Rattle.ct_store.specs.Map.{Ascends, look}
use Rattle.ct_law_rules_node.specs.Named.{NamesOnly, holders_of, vacuumed_by}
use Rattle.ct_law_rules.specs.Form.{least_of, revoked_rsn, sent_for, vacuumed_rsn}
use Rattle.ct_rules.specs.State.{is_quiet}
use Rattle.ct_rules.specs.declared.event.Place.{Place}
use Rattle.ct_rules.specs.declared.state.RecState.{RecState}
use Rattle.ct_rules_node.specs.Databases.{with_commit}
use Rattle.ct_law_rules_node.specs.NodeLaws.{NodeAscends, changed_at}
use Rattle.ct_rules_node.specs.Node.{Node, Committing, Database, Lead, Nothing, Freezes, Pulls, Installs, Completed, Freezing, db_at, is_frozen_in, name_of, or_nothing, state_at, with_db}
use Rattle.ct_rules_node.specs.Records.{place_of, put_back, with_state}
use Rattle.ct_rules_node.specs.Rounds.{ends_commit, ends_commits, ends_lock, freezes, frozen_db, frozen_state, lead_from, on_freeze}
use Rattle.ct_rules_node.specs.Turn.{Turn, answers, does, notes, with_node}
use Rattle.ct_law_rules_node.proofs.AtRecord.{at_ascends, blank_is_nothing}
use Rattle.ct_law_rules_node.proofs.Keys.{changed_seen}
use Rattle.ct_law_rules_node.proofs.Rounds.{freezes_each}
use Rattle.ct_law_rules_node.proofs.BesideRecords.{frozen_order}
use Rattle.ct_law_form.specs.Form.{IsFormed}
use Rattle.ct_law_form.specs.Whole.{StoreInForm, LeadInForm, CommitInForm, NodeInForm, PhaseInForm, TurnInForm, is_node_of}
use Rattle.ct_law_form.proofs.Formed.{formed_same}
use Rattle.ct_law_form.proofs.Putting.{put_in_form, rests_of}
use Rattle.ct_law_form.proofs.Turns.{answers_in_form, notes_in_form, posts_in_form}
use Rattle.ct_law_form.proofs.Clients.{frozen_in_form, unlocked_formed, unlocked_rests}
use Rattle.ct_law_form.proofs.Commits.{with_commit_in_form}

-- ---- what is left of a record

pub frozen_formed : (at : Place) (next : ℕ) (s : RecState) → IsFormed at next s → IsFormed at next (frozen_state s)
unfolding frozen_state sent_for least_of revoked_rsn vacuumed_rsn is_quiet
frozen_formed at next s h =
    let f = h.form.shape in let n = h.form.numbers in
    record {
      form = record {
        shape = record {
          sent_on = λ e. absurd (e refl);
          queue_entry = λ e. absurd (cc);
          lock_held = f.lock_held;
          revocation_held = λ e. absurd (cc);
          lock_quiet = λ e. refl;
          revocation_tracked = λ e. absurd (cc);
          lock_unwished = f.lock_unwished;
          vacuum_home = λ e. absurd (cc);
          vacuum_queue = λ e. absurd (cc);
          vacuum_unlocked = λ e. absurd (cc);
          vacuum_unwished = λ e. absurd (cc);
          vacuum_quiet = λ e. absurd (cc);
          wish_wants = f.wish_wants;
          queue_asked = refl;
          waiting_recalled = refl;
        };
        numbers = record { copy_limit = n.copy_limit; least_limit = omega arith; request_limit = omega arith; revocation_limit = omega arith; vacuum_limit = omega arith; wish_limit = n.wish_limit };
        counters = h.form.counters;
      };
      tracks = record { tracked_held = λ e. absurd (cc); vacuum_untracked = λ e. refl };
      waits = refl;
    }

frozen_named : (is : ℕ → Bool) (s : RecState) → NamesOnly is (frozen_state s)
unfolding frozen_state holders_of vacuumed_by
frozen_named is s = record { holder_is = refl; queue_are = refl; waiting_are = refl; tracked_are = refl; missing_are = refl; vacuumed_are = refl }

-- what is kept of a key after a Freeze
frozen_or : (x : Option RecState) → or_nothing (changed_at frozen_state x) ≡ frozen_state (or_nothing x)
unfolding or_nothing changed_at frozen_state
frozen_or None = refl
frozen_or (Some s) = blank_is_nothing (frozen_state s) refl

-- ---- the node

-- a part of a step leaves all records at rest
frozen_at : (g h db : ℕ) (key : List ℕ) (t : Turn) → NodeAscends t.node → state_at db key (freezes g h t).node ≡ frozen_state (state_at db key t.node)
unfolding state_at frozen_db db_at
frozen_at g h db key t asc =
    ap (λ (d : Database). or_nothing (look key d.records)) (freezes_each g h db t)
    ∙ ap or_nothing (changed_seen frozen_state (db_at db t.node).records (ascends_at db t.node asc) key)
    ∙ frozen_or (look key (db_at db t.node).records)
  where
    ascends_at : (db : ℕ) (n : Node) → NodeAscends n → Ascends (db_at db n).records
    ascends_at db n asc = at_ascends n.dbs db asc

if_leads : (c : Config) (me : ℕ) (b : Bool) (l : Lead) → LeadInForm c me l → LeadInForm c me (cond b Nothing l)
unfolding LeadInForm
if_leads c me true l h = tt
if_leads c me false l h = h

leads_on : (c : Config) (me g : ℕ) (l : Lead) → LeadInForm c me l → LeadInForm c me (lead_from g l)
unfolding lead_from
leads_on c me g Nothing h = h
leads_on c me g (Freezes j members missing) h = if_leads c me (nat_lt j g) (Freezes j members missing) h
leads_on c me g (Pulls j members missing x) h = if_leads c me (nat_lt j g) (Pulls j members missing x) h
leads_on c me g (Installs j members missing b) h = if_leads c me (nat_lt j g) (Installs j members missing b) h
leads_on c me g (Completed j members x) h = if_leads c me (nat_lt j g) (Completed j members x) h

at_rest : (s x : RecState) → x ≡ frozen_state s → frozen_state x ≡ x
unfolding frozen_state
at_rest s x e = subst (λ (y : RecState). frozen_state y ≡ y) (sym e) refl

pub freezes_in_form : (c : Config) (me g h : ℕ) (t : Turn) → is_from_one g ≡ true → is_node_of c h ≡ true → TurnInForm c me t → TurnInForm c me (freezes g h t)
unfolding freezes with_node PhaseInForm frozen_db place_of
freezes_in_form c me g h t one from f =
    let u = (freezes g h t).node in
    let state : (db : ℕ) (key : List ℕ) → state_at db key u ≡ frozen_state (state_at db key t.node) = λ db key. frozen_at g h db key t f.node.order in
    let base : (db : ℕ) → db_at db u ≡ frozen_db (db_at db t.node) = λ db. freezes_each g h db t in
    record {
      node = record {
        limits = f.node.limits;
        own = f.node.own;
        dbs = length-map t.node.dbs frozen_db ∙ f.node.dbs;
        order = frozen_order t.node.dbs f.node.order;
        formed = λ db key. formed_same (place_of c me db key t.node) t.node.next _ _ _ _ (ap (λ (d : Database). d.floor) (base db)) (state db key) (frozen_formed (place_of c me db key t.node) t.node.next (state_at db key t.node) (f.node.formed db key));
        named = λ db key. subst (λ (s : RecState). NamesOnly (is_node_of c) s) (sym (state db key)) (frozen_named (is_node_of c) (state_at db key t.node));
        stores = λ db. subst (λ (d : Database). StoreInForm d.store) (sym (base db)) (f.node.stores db);
        commits = λ db. subst (λ (d : Database). CommitInForm c d.commit) (sym (base db)) (f.node.commits db);
        generation_limit = f.node.generation_limit;
        members_ascend = f.node.members_ascend;
        members_are = f.node.members_are;
        pbase_limit = f.node.pbase_limit;
        phase = (one, from, λ db key. at_rest (state_at db key t.node) (state_at db key u) (state db key));
        held = f.node.held;
        lead = leads_on c me g t.node.lead f.node.lead;
      };
      outs = f.outs;
    }

-- ---- the commits that wait end, and their locks

-- amid a Freeze: in form, and freezing for this round
record Freezing_on (c : Config) (me g h : ℕ) (t : Turn) : Type 0 where
  turn : TurnInForm c me t
  phase : t.node.phase ≡ Freezing g h

-- the lock of a record ends
unlocked_in_form : (c : Config) (me db : ℕ) (key : List ℕ) (n : Node) → db < length n.dbs → NodeInForm c me n → NodeInForm c me (with_state db key (record (state_at db key n) { locked = None }) n)
unfolding with_state put_back with_db place_of
unlocked_in_form c me db key n l h =
    let s = state_at db key n in
    put_in_form c me db key (record { state = record s { locked = None }; next = n.next; floor = (db_at db n).floor; acts = []; spent = false }) n h l
    (unlocked_formed (place_of c me db key n) n.next s (h.formed db key)) (h.named db key) (unlocked_rests n.phase s (rests_of c n n.phase h.phase db key))

lock_ends : (c : Config) (me g h : ℕ) (name : List ℕ) (t : Turn) → 0 < length c.dbs → Freezing_on c me g h t → Freezing_on c me g h (ends_lock name t)
unfolding ends_lock with_node notes does with_state with_db
lock_ends c me g h name t l f =
    let e = f.turn.node.dbs in
    record {
      turn = notes_in_form c me (note.Ended 0 name) (with_node (with_state 0 name (record (state_at 0 name t.node) { locked = None }) t.node) t) (record { node = unlocked_in_form c me 0 name t.node (omega arith) f.turn.node; outs = f.turn.outs });
      phase = f.phase;
    }

committed : (c : Config) (me g h db : ℕ) (t : Turn) → Freezing_on c me g h t → Freezing_on c me g h (with_commit db None t)
unfolding with_commit with_node with_db CommitInForm
committed c me g h db t f = record { turn = with_commit_in_form c me db None t tt f.turn; phase = f.phase }

commit_ends : (c : Config) (me g h db : ℕ) (name : List ℕ) (t : Turn) (x : Option Committing) → 0 < length c.dbs → Freezing_on c me g h t → Freezing_on c me g h (ends_commit db name t x)
unfolding ends_commit answers does
commit_ends c me g h db name t None l f = f
commit_ends c me g h db name t (Some x) l f =
    lock_ends c me g h name _ l (committed c me g h db _ (record { turn = answers_in_form c me x.call _ t f.turn; phase = f.phase }))

commits_end : (c : Config) (me g h i : ℕ) (ds : List Database) (t : Turn) → length ds ≤ length c.dbs → Freezing_on c me g h t → Freezing_on c me g h (ends_commits c i ds t)
unfolding ends_commits
commits_end c me g h i [] t l f = f
commits_end c me g h i (d ∷ ds) t l f = commits_end c me g h (i + 1) ds _ (omega arith) (commit_ends c me g h i (name_of c i) t d.commit (omega arith) f)

-- ---- Freeze

frozen_phase : (g h : ℕ) (t : Turn) → (freezes g h t).node.phase ≡ Freezing g h
unfolding freezes with_node
frozen_phase g h t = refl

pub freeze_in_form : (c : Config) (me h g : ℕ) (t : Turn) → is_from_one g ≡ true → is_node_of c h ≡ true → TurnInForm c me t → TurnInForm c me (on_freeze c me h g t)
unfolding on_freeze
freeze_in_form c me h g t one from f =
    let e = f.node.dbs in
    let k = commits_end c me g h 0 t.node.dbs (freezes g h t) (omega arith) (record { turn = freezes_in_form c me g h t one from f; phase = frozen_phase g h t }) in
    cond_both (nat_lt t.node.promise g) _ _ (TurnInForm c me) (λ _. frozen_in_form c me g h _ k.turn k.phase)
    (λ _. cond_both (is_frozen_in g t.node.phase) _ _ (TurnInForm c me) (λ _. posts_in_form c me g h msg.FreezeAck t one from refl f) (λ _. f))
