-- Each part of a step that looks at no record leaves it in form.
use Rattle.std.proofs.Common.{◌≡◌, ℕ, ◌<◌, ◌^◌, Bool, true, false, List, [], ◌∷◌, length, set, Option, refl, sym, ◌∙◌, ap, subst, arith}
use Rattle.std.proofs.lemmas.Bool.{and_from, and_parts, cond_both, eq-eqb, ltb-false, ltb-true, or_parts}
use Rattle.std.proofs.lemmas.List.{length-set}
use Rattle.std.specs.Prelude.{nat_le, nat_lt, slice_get}
use Rattle.std.specs.List.{list_all}
use Rattle.ct_values.specs.declared.address.Address.{Address}
use Rattle.ct_values.specs.declared.client.Answer.{Answer}
use Rattle.ct_values.specs.declared.config.Config.{Config}
use Rattle.ct_frame.specs.Fields.{are_addresses, is_from_one, is_message}
use Rattle.ct_frame.specs.declared.event.Note.{Note}
use Rattle.ct_frame.specs.declared.event.Out.{Out}
use Rattle.ct_frame.specs.declared.event.Out.TheVariants as out
use Rattle.ct_frame.specs.declared.frame.Assigned.{Assigned}
use Rattle.ct_frame.specs.declared.frame.Msg.{Msg}
use Rattle.ct_persist.specs.Persisted.{Persisted}
use Rattle.ct_store.specs.Map.{Ascends, look}
use Rattle.ct_law_rules_node.specs.Named.{NamesOnly}
use Rattle.ct_rules.specs.declared.state.RecState.{RecState}
use Rattle.ct_law_rules_node.specs.NodeLaws.{AllAscend}
use Rattle.ct_rules_node.specs.Node.{Node, Committing, Database, Lead, Phase, db_at, or_nothing, or_untouched, state_at, with_db}
use Rattle.ct_rules_node.specs.Records.{place_of}
use Rattle.ct_rules_node.specs.Turn.{Turn, answers, does, makes, notes, posts, posts_all, with_lead, with_node, with_phase}
use Rattle.ct_law_rules_node.proofs.AtRecord.{all_set, at_ascends, at_other, at_set, set_past}
use Rattle.ct_law_form.specs.Whole.{HasLimits, StoreInForm, LeadInForm, CommitInForm, NodeInForm, PhaseInForm, TurnInForm, is_node_of, is_sound_out}
use Rattle.ct_law_form.proofs.Formed.{by_db, formed_same}
use Rattle.ct_law_form.proofs.Putting.{RestInForm, configured_node, rests_of, says_of, sound_more}

-- ---- what is done

pub does_in_form : (c : Config) (me : ℕ) (x : Out) (t : Turn) → is_sound_out c me x ≡ true → TurnInForm c me t → TurnInForm c me (does x t)
unfolding does
does_in_form c me x t e h = record { node = h.node; outs = sound_more c me t.outs (x ∷ []) h.outs (and_from _ _ e refl) }

pub answers_in_form : (c : Config) (me call : ℕ) (a : Answer) (t : Turn) → TurnInForm c me t → TurnInForm c me (answers call a t)
unfolding answers is_sound_out
answers_in_form c me call a t h = does_in_form c me _ t refl h

pub notes_in_form : (c : Config) (me : ℕ) (n : Note) (t : Turn) → TurnInForm c me t → TurnInForm c me (notes n t)
unfolding notes is_sound_out
notes_in_form c me n t h = does_in_form c me _ t refl h

sound_frame : (c : Config) (me g n : ℕ) (m : Msg) → HasLimits c → is_node_of c me ≡ true → is_from_one g ≡ true → is_node_of c n ≡ true → is_message me m ≡ true → is_sound_out c me (out.Send (record { generation = g; sender = me; receiver = n; msg = m })) ≡ true
unfolding is_sound_out
sound_frame c me g n m l own one goes form =
    and_from _ _ (and_from _ _ (and_from _ _ (and_from _ _ (and_from _ _ one (configured_node c n l goes)) (configured_node c me l own)) form) (eq-eqb me me refl)) goes

pub posts_in_form : (c : Config) (me g n : ℕ) (m : Msg) (t : Turn) → is_from_one g ≡ true → is_node_of c n ≡ true → is_message me m ≡ true → TurnInForm c me t → TurnInForm c me (posts g me n m t)
unfolding posts
posts_in_form c me g n m t one goes form h = does_in_form c me _ t (sound_frame c me g n m h.node.limits h.node.own one goes form) h

pub posts_all_in_form : (c : Config) (me g : ℕ) (ns : List ℕ) (m : Msg) (t : Turn) → is_from_one g ≡ true → list_all (is_node_of c) ns ≡ true → is_message me m ≡ true → TurnInForm c me t → TurnInForm c me (posts_all g me ns m t)
unfolding posts_all
posts_all_in_form c me g [] m t one goes form h = h
posts_all_in_form c me g (n ∷ ns) m t one goes form h =
    let p = and_parts (is_node_of c n) (list_all (is_node_of c) ns) goes in
    posts_all_in_form c me g ns m (posts g me n m t) one p.1 form (posts_in_form c me g n m t one p.0 form h)

-- ---- numbers

pub makes_in_form : (c : Config) (me n : ℕ) (t : Turn) → TurnInForm c me t → TurnInForm c me (makes n t)
unfolding makes
makes_in_form c me n t h = record { node = h.node; outs = h.outs }

below_limit : (n : ℕ) → nat_le (2 ^ 62) n ≡ false → n < 2 ^ 62
below_limit n e = grind arith

-- a number that was made in a step that is not refused
pub made : (n : ℕ) (t : Turn) → (makes n t).spent ≡ false → (t.spent ≡ false) × (n < 2 ^ 62)
unfolding makes
made n t e = (let p = or_parts t.spent (nat_le (2 ^ 62) n) e in (p.0, below_limit n p.1))

-- ---- the node, with what is beside its records

-- with another phase and lead, promise, known placement, addresses, and last run
pub beside_in_form : (c : Config) (me : ℕ) (n : Node) (promise : ℕ) (phase : Phase) (placement : List Assigned) (held : List Address) (last_run : ℕ) (lead : Lead) → NodeInForm c me n → PhaseInForm c n phase → are_addresses held ≡ true → LeadInForm c me lead →
    NodeInForm c me (record n { promise = promise; phase = phase; placement = placement; held = held; last_run = last_run; lead = lead })
unfolding state_at db_at place_of
beside_in_form c me n promise phase placement held last_run lead h says ascend leads = record {
  limits = h.limits;
  own = h.own;
  dbs = h.dbs;
  order = h.order;
  formed = h.formed;
  named = h.named;
  stores = h.stores;
  commits = h.commits;
  generation_limit = h.generation_limit;
  members_ascend = h.members_ascend;
  members_are = h.members_are;
  pbase_limit = h.pbase_limit;
  phase = says_of c n (record n { promise = promise; phase = phase; placement = placement; held = held; last_run = last_run; lead = lead }) phase refl says (rests_of c n phase says);
  held = ascend;
  lead = leads;
}

pub with_lead_in_form : (c : Config) (me : ℕ) (l : Lead) (t : Turn) → LeadInForm c me l → TurnInForm c me t → TurnInForm c me (with_lead l t)
unfolding with_lead
with_lead_in_form c me l t leads h = record { node = beside_in_form c me t.node t.node.promise t.node.phase t.node.placement t.node.held t.node.last_run l h.node h.node.phase h.node.held leads; outs = h.outs }

pub with_phase_in_form : (c : Config) (me : ℕ) (p : Phase) (t : Turn) → PhaseInForm c t.node p → TurnInForm c me t → TurnInForm c me (with_phase p t)
unfolding with_phase
with_phase_in_form c me p t says h = record { node = beside_in_form c me t.node t.node.promise p t.node.placement t.node.held t.node.last_run t.node.lead h.node says h.node.held h.node.lead; outs = h.outs }

-- with other addresses held, another run followed, and another placement known
pub holding_in_form : (c : Config) (me : ℕ) (placement : List Assigned) (held : List Address) (last_run : ℕ) (t : Turn) → are_addresses held ≡ true → TurnInForm c me t → TurnInForm c me (with_node (record t.node { placement = placement; held = held; last_run = last_run }) t)
unfolding with_node
holding_in_form c me placement held last_run t ascend h = record { node = beside_in_form c me t.node t.node.promise t.node.phase placement held last_run t.node.lead h.node h.node.phase ascend h.node.lead; outs = h.outs }

-- ---- one database, with what is beside its records

-- what holds of the new one and of all others holds of each
based_each : (P : Database → Type 0) (dbs : List Database) (db : ℕ) (d : Database) → P d → ((i : ℕ) → P (or_untouched (slice_get dbs i))) → (i : ℕ) → P (or_untouched (slice_get (set dbs db d) i))
based_each P dbs db d here all i = cond_both (nat_lt db (length dbs)) true false (λ (_ : Bool). P (or_untouched (slice_get (set dbs db d) i)))
    (λ t. by_db (λ (i : ℕ). P (or_untouched (slice_get (set dbs db d) i))) db i (subst P (sym (at_set dbs db d (ltb-true _ _ t))) here) (λ m. subst P (sym (at_other dbs db i d m)) (all i)))
    (λ f. subst (λ (ds : List Database). P (or_untouched (slice_get ds i))) (sym (set_past dbs db d (ltb-false _ _ f))) (all i))

-- the records and the floor of each are as they were
record SameRecords (d e : Database) : Type 0 where
  records : d.records ≡ e.records
  floor : d.floor ≡ e.floor

same_records : (dbs : List Database) (db i : ℕ) (d : Database) → SameRecords d (or_untouched (slice_get dbs db)) → SameRecords (or_untouched (slice_get (set dbs db d) i)) (or_untouched (slice_get dbs i))
same_records dbs db i d same = cond_both (nat_lt db (length dbs)) true false (λ (_ : Bool). SameRecords (or_untouched (slice_get (set dbs db d) i)) (or_untouched (slice_get dbs i)))
    (λ t. by_db (λ (i : ℕ). SameRecords (or_untouched (slice_get (set dbs db d) i)) (or_untouched (slice_get dbs i))) db i
    (subst (λ (x : Database). SameRecords x (or_untouched (slice_get dbs db))) (sym (at_set dbs db d (ltb-true _ _ t))) same)
    (λ m. subst (λ (x : Database). SameRecords x (or_untouched (slice_get dbs i))) (sym (at_other dbs db i d m)) (record { records = refl; floor = refl })))
    (λ f. subst (λ (ds : List Database). SameRecords (or_untouched (slice_get ds i)) (or_untouched (slice_get dbs i))) (sym (set_past dbs db d (ltb-false _ _ f))) (record { records = refl; floor = refl }))

pub with_base_in_form : (c : Config) (me db : ℕ) (store : Persisted) (commit : Option Committing) (t : Turn) → StoreInForm store → CommitInForm c commit → TurnInForm c me t →
    TurnInForm c me (with_node (with_db db (record (db_at db t.node) { store = store; commit = commit }) t.node) t)
unfolding with_node with_db state_at db_at place_of AllAscend
with_base_in_form c me db store commit t stored committed h =
    let n = t.node in
    let d = record (or_untouched (slice_get n.dbs db)) { store = store; commit = commit } in
    let u : Node = record n { dbs = set n.dbs db d } in
    let same : (i : ℕ) → SameRecords (or_untouched (slice_get (set n.dbs db d) i)) (or_untouched (slice_get n.dbs i)) = λ i. same_records n.dbs db i d (record { records = refl; floor = refl }) in
    let state : (i : ℕ) (key : List ℕ) → state_at i key u ≡ state_at i key n = λ i key. ap (λ (m : List (List ℕ × RecState)). or_nothing (look key m)) (same i).records in
    let rests : (p : Phase) → PhaseInForm c n p → PhaseInForm c u p = λ p says. says_of c n u p refl says (λ i key. subst (λ (s : RecState). RestInForm p s) (sym (state i key)) (rests_of c n p says i key)) in
    record {
      node = record {
        limits = h.node.limits;
        own = h.node.own;
        dbs = length-set n.dbs db d ∙ h.node.dbs;
        order = all_set (λ x. Ascends x.records) n.dbs db d (at_ascends n.dbs db h.node.order) h.node.order;
        formed = λ i key. formed_same (place_of c me i key n) n.next _ _ _ _ (same i).floor (state i key) (h.node.formed i key);
        named = λ i key. subst (λ (s : RecState). NamesOnly (is_node_of c) s) (sym (state i key)) (h.node.named i key);
        stores = based_each (λ (x : Database). StoreInForm x.store) n.dbs db d stored h.node.stores;
        commits = based_each (λ (x : Database). CommitInForm c x.commit) n.dbs db d committed h.node.commits;
        generation_limit = h.node.generation_limit;
        members_ascend = h.node.members_ascend;
        members_are = h.node.members_are;
        pbase_limit = h.node.pbase_limit;
        phase = rests n.phase h.node.phase;
        held = h.node.held;
        lead = h.node.lead;
      };
      outs = h.outs;
    }
