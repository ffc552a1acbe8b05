-- What a Freeze makes of a node, and what the node does.
use Rattle.std.proofs.Common.{◌≡◌, ℕ, suc, ◌+◌, ◌<◌, Bool, true, false, cond, List, [], ◌∷◌, ◌++◌, length, map, Option, None, Some, append-nil, inl, inr, refl, sym, ap, ◌∙◌, subst}
use Rattle.std.specs.Prelude.{◌⊎◌, nat_lt, is_some, slice_get}
use Rattle.ct_tracking.specs.Tracked.{untracked}
use Rattle.ct_values.specs.declared.config.Config.{Config}
use Rattle.ct_frame.specs.declared.event.Event.TheVariants as event
use Rattle.ct_frame.specs.declared.event.Out.{Out}
use Rattle.ct_frame.specs.declared.event.Out.TheVariants as out
use Rattle.ct_frame.specs.declared.frame.Frame.{Frame}
use Rattle.ct_frame.specs.declared.frame.Msg.{Msg}
use Rattle.ct_frame.specs.declared.frame.Msg.TheVariants as msg
use Rattle.ct_call.specs.Rules.{Rules}
use Rattle.ct_rules.specs.declared.state.RecState.{RecState}
use Rattle.ct_rules_node.specs.Node.{Node, Phase, Freezing, Frozen, Database, Committing, or_untouched, db_at, state_at, name_of}
use Rattle.ct_rules_node.specs.Turn.{Turn, does, with_node, with_phase, posts, begins}
use Rattle.ct_rules_node.specs.Clients.{is_locked, any_locked, frozen_if_unlocked}
use Rattle.ct_rules_node.specs.Rounds.{frozen_state, frozen_db, changed, lead_from, freezes, ends_commit, ends_commits, on_freeze}
use Rattle.ct_rules_node.specs.Admission.{is_sound}
use Rattle.ct_rules_node.specs.Steps.{if_sound, arrives, happens}
use Rattle.ct_law_rules_node.specs.NodeLaws.{NodeAscends}
use Rattle.ct_law_rules_node.proofs.Rounds.{freezes_each, sees_locks}
use Rattle.ct_law_rules_node.proofs.BesideRecords.{frozen_order}
use Rattle.ct_law_run.proofs.Resting.{freezes_state}
use Rattle.ct_law_run.proofs.Ends.{Ends, Untracked, is_ended, is_gone, ends_outs, unlock, ends_all, none_left}
use Rattle.ct_law_generation.proofs.Events.{guarded}

-- what a Freeze of generation g from node h makes of a node
pub record Froze (c : Config) (g h : ℕ) (x y : Node) : Type 0 where
  pub size : length y.dbs ≡ length x.dbs
  pub order : NodeAscends y
  pub generation : y.generation ≡ x.generation
  pub members : y.members ≡ x.members
  pub pbase : y.pbase ≡ x.pbase
  pub next : y.next ≡ x.next
  pub promise : y.promise ≡ g
  pub lead : y.lead ≡ lead_from g x.lead
  pub phase : (y.phase ≡ Freezing g h) ⊎ ((y.phase ≡ Frozen g) × ((db : ℕ) (key : List ℕ) → (state_at db key y).locked ≡ None))
  pub state : (db : ℕ) (key : List ℕ) → state_at db key y ≡ cond (is_ended c 0 x.dbs db key) (unlock (frozen_state (state_at db key x))) (frozen_state (state_at db key x))
  pub floor : (db : ℕ) → (db_at db y).floor ≡ (db_at db x).floor
  pub commit : (db : ℕ) → (db_at db y).commit ≡ None
  pub empty : ((db : ℕ) → (db_at db x).records ≡ []) → ((db : ℕ) → (db_at db x).commit ≡ None) → (db : ℕ) → (db_at db y).records ≡ []

abbrev pub ack : ℕ → ℕ → ℕ → Out
ack n g h = out.Send (record { generation = g; sender = n; receiver = h; msg = msg.FreezeAck })

-- the whole turn
pub record Freeze_turn (c : Config) (n g h : ℕ) (x : Node) (u : Turn) : Type 0 where
  pub node : Froze c g h x u.node
  pub more : List Out
  pub outs : u.outs ≡ ends_outs c 0 x.dbs ++ more
  pub acks : (more ≡ []) ⊎ (more ≡ ack n g h ∷ [])

-- ---- the node that freezes

as_many : (dbs : List Database) → length (map frozen_db dbs) ≡ length dbs
as_many [] = refl
as_many (d ∷ ds) = ap suc (as_many ds)

frozen_untracked : (s : RecState) → (frozen_state s).tracking ≡ untracked
unfolding frozen_state
frozen_untracked s = refl

nothing_ends : (c : Config) (i : ℕ) (ds : List Database) (t : Turn) → ((k : ℕ) → (or_untouched (slice_get ds k)).commit ≡ None) → ends_commits c i ds t ≡ t
unfolding ends_commits ends_commit or_untouched
nothing_ends c i [] t h = refl
nothing_ends c i (d ∷ ds) t h = ap (λ (o : Option Committing). ends_commits c (i + 1) ds (ends_commit i (name_of c i) t o)) (h 0) ∙ nothing_ends c (i + 1) ds t (λ k. h (suc k))

module _ (c : Config) (n g h : ℕ) (x : Node) (order : NodeAscends x) (some : 0 < length x.dbs) where
  abbrev t1 : Turn
  t1 = freezes g h (begins x)

  abbrev t2 : Turn
  t2 = ends_commits c 0 x.dbs t1

  order1 : NodeAscends t1.node
  unfolding freezes with_node
  order1 = frozen_order x.dbs order

  size1 : length t1.node.dbs ≡ length x.dbs
  unfolding freezes with_node
  size1 = as_many x.dbs

  state1 : (db : ℕ) (key : List ℕ) → state_at db key t1.node ≡ frozen_state (state_at db key x)
  state1 db key = freezes_state g h db key (begins x) order

  bare1 : Untracked t1.node
  bare1 db key = ap (λ (s : RecState). s.tracking) (state1 db key) ∙ frozen_untracked (state_at db key x)

  ends : Ends t1 t2 (is_ended c 0 x.dbs) (is_gone 0 x.dbs) (ends_outs c 0 x.dbs)
  ends = ends_all c 0 x.dbs t1 order1 (subst (λ (l : ℕ). 0 < l) (sym size1) some) bare1

  rest1 : t2.node ≡ record t1.node { dbs = t2.node.dbs }
  rest1 = ends.node

  floor2 : (db : ℕ) → (db_at db t2.node).floor ≡ (db_at db x).floor
  unfolding frozen_db
  floor2 db = ends.floor db ∙ ap (λ (d : Database). d.floor) (freezes_each g h db (begins x))

  commit2 : (db : ℕ) → (db_at db t2.node).commit ≡ None
  unfolding frozen_db
  commit2 db = ends.commit db ∙ ap (λ (d : Database). cond (is_gone 0 x.dbs db) None d.commit) (freezes_each g h db (begins x)) ∙ none_left x db

  state2 : (db : ℕ) (key : List ℕ) → state_at db key t2.node ≡ cond (is_ended c 0 x.dbs db key) (unlock (frozen_state (state_at db key x))) (frozen_state (state_at db key x))
  state2 db key = ends.state db key ∙ ap (λ (s : RecState). cond (is_ended c 0 x.dbs db key) (unlock s) s) (state1 db key)

  empty2 : ((db : ℕ) → (db_at db x).records ≡ []) → ((db : ℕ) → (db_at db x).commit ≡ None) → (db : ℕ) → (db_at db t2.node).records ≡ []
  unfolding db_at frozen_db changed
  empty2 none calm db = ap (λ (t : Turn). (db_at db t.node).records) (nothing_ends c 0 x.dbs t1 calm) ∙ ap (λ (d : Database). d.records) (freezes_each g h db (begins x)) ∙ ap (λ m. changed frozen_state m) (none db)

  -- a node like it, but for the phase
  like : (p : Phase) → (p ≡ Freezing g h) ⊎ ((p ≡ Frozen g) × ((db : ℕ) (key : List ℕ) → (state_at db key t2.node).locked ≡ None)) → Froze c g h x (record t2.node { phase = p })
  unfolding freezes with_node state_at db_at
  like p is = record {
    size = ends.size ∙ size1;
    order = ends.order;
    generation = ap (λ (y : Node). y.generation) rest1;
    members = ap (λ (y : Node). y.members) rest1;
    pbase = ap (λ (y : Node). y.pbase) rest1;
    next = ap (λ (y : Node). y.next) rest1;
    promise = ap (λ (y : Node). y.promise) rest1;
    lead = ap (λ (y : Node). y.lead) rest1;
    phase = is;
    state = state2;
    floor = floor2;
    commit = commit2;
    empty = empty2;
  }

  phase2 : t2.node.phase ≡ Freezing g h
  unfolding freezes with_node
  phase2 = ap (λ (y : Node). y.phase) rest1

  outs2 : t2.outs ≡ ends_outs c 0 x.dbs
  unfolding freezes with_node
  outs2 = ends.outs

  no_lock : (o : Option ℕ) → is_some o ≡ false → o ≡ None
  no_lock None e = refl
  no_lock (Some m) e = absurd (cc)

  unlocked2 : any_locked t2.node.dbs ≡ false → (db : ℕ) (key : List ℕ) → (state_at db key t2.node).locked ≡ None
  unfolding is_locked
  unlocked2 e db key = no_lock (state_at db key t2.node).locked ((sees_locks t2.node ends.order).all e db key)

  pick : (b : Bool) → any_locked t2.node.dbs ≡ b → Freeze_turn c n g h x (cond b t2 (posts g n h msg.FreezeAck (with_phase (Frozen g) t2)))
  unfolding posts does with_phase
  pick true e = record { node = subst (λ (p : Phase). Froze c g h x (record t2.node { phase = p })) (sym phase2) (like (Freezing g h) (inl refl)); more = []; outs = outs2 ∙ sym (append-nil (ends_outs c 0 x.dbs)); acks = inl refl }
  pick false e = record { node = like (Frozen g) (inr (refl, unlocked2 e)); more = ack n g h ∷ []; outs = ap (λ (l : List Out). l ++ ack n g h ∷ []) outs2; acks = inr refl }

  pub freezes_turn : Freeze_turn c n g h x (frozen_if_unlocked n g h t2)
  unfolding frozen_if_unlocked
  freezes_turn = pick (any_locked t2.node.dbs) refl

-- the arrival of a sound Freeze above the promise
pub freeze_is : (c : Config) (rules : Rules) (n : ℕ) (x : Node) (f : Frame) (members : List ℕ) → NodeAscends x → 0 < length x.dbs → f.msg ≡ msg.Freeze members → is_sound c f ≡ true → nat_lt x.promise f.generation ≡ true →
    Freeze_turn c n f.generation f.sender x (happens c rules n (begins x) (event.Arrive f))
unfolding happens arrives if_sound on_freeze
freeze_is c rules n x f members order some is sound newer = subst (λ (u : Turn). Freeze_turn c n f.generation f.sender x u)
    (sym (ap (λ (m : Msg). arrives c rules n f (begins x) m) is ∙ guarded (is_sound c f) _ _ sound ∙ guarded (nat_lt x.promise f.generation) _ _ newer))
    (freezes_turn c n f.generation f.sender x order some)
