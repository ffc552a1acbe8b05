-- A step at one record leaves a node in form, and what it does is sound.
use Rattle.std.proofs.Common.{◌≡◌, ℕ, zero, suc, ◌<◌, ◌≤◌, ◌^◌, Bool, true, false, List, [], ◌∷◌, ◌++◌, length, map, Option, None, refl, sym, ◌∙◌, subst, arith}
use Rattle.std.proofs.lemmas.Bool.{and_from, and_parts, eq-eqb}
use Rattle.std.proofs.lemmas.List.Folds.{list_all-append}
use Rattle.std.specs.Prelude.{slice_get}
use Rattle.std.specs.List.{list_all}
use Rattle.ct_values.specs.declared.config.Config.{Config}
use Rattle.ct_frame.specs.Fields.{is_db, is_from_one, is_node}
use Rattle.ct_frame.specs.declared.event.Out.{Out}
use Rattle.ct_call.specs.Rules.{Rules}
use Rattle.ct_persist.specs.Persisted.{Persisted}
use Rattle.ct_law_rules_node.specs.Named.{NamesOnly, comes_among, goes_among}
use Rattle.ct_law_rules_node.proofs.Events.{names_kept}
use Rattle.ct_law_rules.specs.Form.{MayCome}
use Rattle.ct_law_rules.specs.Sent.{is_from_node, is_well_formed}
use Rattle.ct_law_rules.proofs.SentEvents.{what_is_sent}
use Rattle.ct_rules.specs.Moves.{begins, move}
use Rattle.ct_rules.specs.Parts.{Moving}
use Rattle.ct_rules.specs.declared.event.Act.{Act}
use Rattle.ct_rules.specs.declared.event.Act.TheVariants as act
use Rattle.ct_rules.specs.declared.event.MoveEvent.{MoveEvent}
use Rattle.ct_rules.specs.declared.event.MoveEvent.TheVariants as event
use Rattle.ct_rules.specs.declared.state.RecState.{RecState}
use Rattle.ct_rules_node.specs.Admission.{named_in}
use Rattle.ct_rules_node.specs.Node.{Node, Phase, Idle, Serving, Installed, Freezing, Frozen, Committing, db_at, is_present, master_of, or_zero, state_at}
use Rattle.ct_rules_node.specs.Records.{acted, out_of, place_of, put_back}
use Rattle.ct_rules_node.specs.Rounds.{frozen_state}
use Rattle.ct_rules_node.specs.Turn.{Turn}
use Rattle.ct_law_form.specs.Form.{IsFormed}
use Rattle.ct_law_form.specs.Whole.{HasLimits, StoreInForm, CommitInForm, PhaseInForm, NodeInForm, TurnInForm, is_node_of, is_sound_out}
use Rattle.ct_law_form.proofs.Formed.{left_formed, put_ascends, put_beside, put_each, put_formed, put_length, whole}

-- ---- nodes of the configuration

pub configured_node : (c : Config) (n : ℕ) → HasLimits c → is_node_of c n ≡ true → is_node n ≡ true
unfolding is_node_of
configured_node c n h e = (let l = h.nodes in grind arith)

-- the first of a list, or 0
got_all : (p : ℕ → Bool) (ns : List ℕ) (i : ℕ) → p 0 ≡ true → list_all p ns ≡ true → p (or_zero (slice_get ns i)) ≡ true
unfolding or_zero
got_all p [] i o all = o
got_all p (n ∷ ns) zero o all = (and_parts (p n) (list_all p ns) all).0
got_all p (n ∷ ns) (suc i) o all = got_all p ns i o (and_parts (p n) (list_all p ns) all).1

zero_configured : (c : Config) (n : ℕ) → is_node_of c n ≡ true → is_node_of c 0 ≡ true
unfolding is_node_of
zero_configured c n e = grind arith

-- so is each location master
pub master_configured : (c : Config) (me : ℕ) (members key : List ℕ) → is_node_of c me ≡ true → list_all (is_node_of c) members ≡ true → is_node_of c (master_of members key) ≡ true
unfolding master_of
master_configured c me members key own all = got_all (is_node_of c) members _ (zero_configured c me own) all

-- what comes from such nodes comes from nodes
comes_from_node : (c : Config) (e : MoveEvent) → HasLimits c → comes_among (is_node_of c) e ≡ true → is_from_node e ≡ true
unfolding comes_among
comes_from_node c (event.Arrive sender m) l h = configured_node c sender l (and_parts (is_node_of c sender) (list_all (is_node_of c) (named_in m)) h).0
comes_from_node c (event.Want call asked) l h = refl
comes_from_node c (event.Store call v) l h = refl
comes_from_node c (event.Unlock call) l h = refl
comes_from_node c (event.Vacuum others) l h = refl
comes_from_node c event.Resend l h = refl

-- a database of the node has a number below 16
pub small_db : (c : Config) (me db : ℕ) (n : Node) → NodeInForm c me n → db < length n.dbs → is_db db ≡ true
small_db c me db n h l = (let a = h.dbs in let b = h.limits.dbs in lt_is db (omega arith))
  where
    lt_is : (d : ℕ) → d < 16 → is_db d ≡ true
    lt_is d l = grind arith

-- ---- the phase

-- what a phase says of each record
unfoldable pub RestInForm : Phase → RecState → Type 0
RestInForm (Freezing g leader) s = frozen_state s ≡ s
RestInForm (Frozen g) s = (frozen_state s ≡ s) × (s.locked ≡ None)
RestInForm _ s = Unit {0}

pub rests_of : (c : Config) (n : Node) (p : Phase) → PhaseInForm c n p → (db : ℕ) (key : List ℕ) → RestInForm p (state_at db key n)
unfolding PhaseInForm RestInForm
rests_of c n (Freezing g leader) h db key = h.2 db key
rests_of c n (Frozen g) h db key = (h.0 db key, h.1 db key)
rests_of c n Idle h db key = tt
rests_of c n Serving h db key = tt
rests_of c n Installed h db key = tt

pub says_of : (c : Config) (n u : Node) (p : Phase) → u.generation ≡ n.generation → PhaseInForm c n p → ((db : ℕ) (key : List ℕ) → RestInForm p (state_at db key u)) → PhaseInForm c u p
unfolding PhaseInForm RestInForm
says_of c n u (Freezing g leader) e h r = (h.0, h.1, r)
says_of c n u (Frozen g) e h r = (λ db key. (r db key).0, λ db key. (r db key).1)
says_of c n u Idle e h r = tt
says_of c n u Serving e h r = subst (λ (x : ℕ). 1 ≤ x) (sym e) h
says_of c n u Installed e h r = subst (λ (x : ℕ). 1 ≤ x) (sym e) h

pub present_rests : (p : Phase) (s : RecState) → is_present p ≡ true → RestInForm p s
unfolding is_present RestInForm
present_rests (Freezing g leader) s e = absurd (cc)
present_rests (Frozen g) s e = absurd (cc)
present_rests Idle s e = absurd (cc)
present_rests Serving s e = tt
present_rests Installed s e = tt

pub from_one_is : (g : ℕ) → 1 ≤ g → g < 2 ^ 62 → is_from_one g ≡ true
from_one_is g l u = grind arith

present_says : (c : Config) (n : Node) (p : Phase) → is_present p ≡ true → PhaseInForm c n p → 1 ≤ n.generation
unfolding PhaseInForm is_present
present_says c n Serving e h = h
present_says c n Installed e h = h
present_says c n Idle e h = absurd (cc)
present_says c n (Freezing g leader) e h = absurd (cc)
present_says c n (Frozen g) e h = absurd (cc)

-- the generation of a node that is present is from 1
pub present_generation : (c : Config) (me : ℕ) (n : Node) → NodeInForm c me n → is_present n.phase ≡ true → is_from_one n.generation ≡ true
present_generation c me n h e = from_one_is n.generation (present_says c n n.phase e h.phase) h.generation_limit

-- ---- the node

pub put_in_form : (c : Config) (me db : ℕ) (key : List ℕ) (o : Moving) (n : Node) → NodeInForm c me n → db < length n.dbs → IsFormed (record (place_of c me db key n) { floor = o.floor }) o.next o.state → NamesOnly (is_node_of c) o.state → RestInForm n.phase o.state →
    NodeInForm c me (put_back db key o n)
unfolding put_back
put_in_form c me db key o n h l f names rests = record {
  limits = h.limits;
  own = h.own;
  dbs = put_length db key o n ∙ h.dbs;
  order = put_ascends c me db key o n h.order;
  formed = put_formed c me db key o n h.order l h.formed f;
  named = put_each (λ (s : RecState). NamesOnly (is_node_of c) s) c me db key o n h.order l f names h.named;
  stores = put_beside (λ (p : Persisted) (x : Option Committing). StoreInForm p) db key o n l h.stores;
  commits = put_beside (λ (p : Persisted) (x : Option Committing). CommitInForm c x) db key o n l h.commits;
  generation_limit = h.generation_limit;
  members_ascend = h.members_ascend;
  members_are = h.members_are;
  pbase_limit = h.pbase_limit;
  phase = says_of c n (put_back db key o n) n.phase refl h.phase (put_each (λ (s : RecState). RestInForm n.phase s) c me db key o n h.order l f rests (rests_of c n n.phase h.phase));
  held = h.held;
  lead = h.lead;
}

-- ---- what is done

pub sound_more : (c : Config) (me : ℕ) (xs ys : List Out) → list_all (is_sound_out c me) xs ≡ true → list_all (is_sound_out c me) ys ≡ true → list_all (is_sound_out c me) (xs ++ ys) ≡ true
sound_more c me xs ys h k = list_all-append (is_sound_out c me) xs ys ∙ and_from _ _ h k

sound_act : (c : Config) (me g db : ℕ) (key : List ℕ) (a : Act) → HasLimits c → is_node_of c me ≡ true → is_from_one g ≡ true → is_well_formed me a ≡ true → goes_among (is_node_of c) a ≡ true → is_sound_out c me (out_of g me db key a) ≡ true
unfolding is_sound_out out_of is_well_formed goes_among
sound_act c me g db key (act.Send receiver m) l own one form goes =
    and_from _ _ (and_from _ _ (and_from _ _ (and_from _ _ (and_from _ _ one (configured_node c receiver l goes)) (configured_node c me l own)) form) (eq-eqb me me refl)) goes
sound_act c me g db key (act.Answer call a) l own one form goes = refl
sound_act c me g db key (act.Finished floor) l own one form goes = refl

pub sound_acts : (c : Config) (me g db : ℕ) (key : List ℕ) (as' : List Act) → HasLimits c → is_node_of c me ≡ true → is_from_one g ≡ true → list_all (is_well_formed me) as' ≡ true → list_all (goes_among (is_node_of c)) as' ≡ true →
    list_all (is_sound_out c me) (map (out_of g me db key) as') ≡ true
sound_acts c me g db key [] l own one form goes = refl
sound_acts c me g db key (a ∷ as') l own one form goes =
    let p = and_parts (is_well_formed me a) (list_all (is_well_formed me) as') form in
    let q = and_parts (goes_among (is_node_of c) a) (list_all (goes_among (is_node_of c)) as') goes in
    and_from _ _ (sound_act c me g db key a l own one p.0 q.0) (sound_acts c me g db key as' l own one p.1 q.1)

-- ---- the turn

pub acted_in_form : (c : Config) (me db : ℕ) (key : List ℕ) (o : Moving) (t : Turn) → TurnInForm c me t → db < length t.node.dbs → IsFormed (record (place_of c me db key t.node) { floor = o.floor }) o.next o.state → NamesOnly (is_node_of c) o.state → RestInForm t.node.phase o.state →
    list_all (is_sound_out c me) (map (out_of t.node.generation me db key) o.acts) ≡ true → TurnInForm c me (acted me db key o t)
unfolding acted
acted_in_form c me db key o t h l f names rests sound = record { node = put_in_form c me db key o t.node h.node l f names rests; outs = sound_more c me t.outs _ h.outs sound }

-- An event at a record, from a state in form, at a node that is present
pub moved_in_form : (c : Config) (rules : Rules) (me db : ℕ) (key : List ℕ) (e : MoveEvent) (s : RecState) (t : Turn) → TurnInForm c me t → db < length t.node.dbs → is_present t.node.phase ≡ true →
    IsFormed (place_of c me db key t.node) t.node.next s → NamesOnly (is_node_of c) s → MayCome s e → comes_among (is_node_of c) e ≡ true →
    (move (place_of c me db key t.node) rules e (begins s t.node.next (db_at db t.node).floor)).spent ≡ false →
    TurnInForm c me (acted me db key (move (place_of c me db key t.node) rules e (begins s t.node.next (db_at db t.node).floor)) t)
unfolding place_of
moved_in_form c rules me db key e s t h l present f names may comes unspent =
    let at = place_of c me db key t.node in
    let o = move at rules e (begins s t.node.next (db_at db t.node).floor) in
    let isdb = small_db c me db t.node h.node l in
    let from = comes_from_node c e h.node.limits comes in
    let sent = what_is_sent at rules e s t.node.next o isdb f.form f.waits may from (whole o unspent) in
    let kept = names_kept (is_node_of c) at rules e s t.node.next (db_at db t.node).floor (master_configured c me t.node.members key h.node.own h.node.members_are) comes names in
    acted_in_form c me db key o t h l (left_formed at rules e s t.node.next o isdb f may from refl unspent) kept.0 (present_rests t.node.phase o.state present)
    (sound_acts c me t.node.generation db key o.acts h.node.limits h.node.own (present_generation c me t.node h.node present) sent.0 kept.1)
