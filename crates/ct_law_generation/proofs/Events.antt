-- What happens at one record of a node is an event of that record's world.
use Rattle.std.proofs.Common.{◌≡◌, ℕ, Bool, true, false, cond, List, [], ◌∷◌, Option, Some, refl, sym, ap, ◌∙◌, subst, ⊎_elim}
use Rattle.std.specs.Prelude.{is_some, ◌&&◌, slice_get}
use Rattle.std.proofs.lemmas.Bool.{cases_Bool}
use Rattle.ct_values.specs.declared.client.ClientOp.{ClientOp}
use Rattle.ct_values.specs.declared.client.ClientOp.TheVariants as op
use Rattle.ct_values.specs.declared.config.Config.{Config}
use Rattle.ct_frame.specs.declared.frame.Frame.{Frame}
use Rattle.ct_frame.specs.declared.frame.Msg.{Msg}
use Rattle.ct_frame.specs.declared.frame.Msg.TheVariants as msg
use Rattle.ct_call.specs.Rules.{Rules}
use Rattle.ct_rules.specs.Moves.{arrive, move, store, unlock}
use Rattle.ct_rules.specs.Parts.{Moving, want}
use Rattle.ct_rules.specs.declared.event.MoveEvent.{MoveEvent}
use Rattle.ct_rules.specs.declared.event.MoveEvent.TheVariants as event
use Rattle.ct_rules.specs.declared.event.Place.{Place}
use Rattle.ct_rules_node.specs.Node.{state_at, has_records, kind_at}
use Rattle.ct_rules_node.specs.Turn.{Turn}
use Rattle.ct_rules_node.specs.Records as node
use Rattle.ct_rules_node.specs.Records.{at_record}
use Rattle.ct_rules_node.specs.Admission.{record_in, is_current}
use Rattle.ct_rules_node.specs.Steps.{arrives, on_record_of}
use Rattle.ct_law_rules_node.specs.NodeLaws.{left_by}
use Rattle.ct_rules_cluster.specs.declared.step.PendingCall.{PendingCall}
use Rattle.ct_law_record.specs.World.{View, Mail, World, Event, Wants, Stores, Unlocks, Comes, place, starts, may_want, own_call, waiting_call, put, comes, happens}
use Rattle.ct_law_generation.specs.Shown.{Era, scene, view, is_it, amid, Follows}
use Rattle.ct_law_generation.proofs.Weave.{it_is}
use Rattle.ct_law_generation.proofs.Amid.{self, place_is, Fair, own_step, other_step}

-- the rule of the record, at the node's place in the world and at the node
moved_at : (c : Config) (era : Era) (rules : Rules) (n db : ℕ) (key : List ℕ) (e : MoveEvent) (t : Turn) (w : World) (asks : View → ℕ → Option ClientOp) → t.node.members ≡ era.members →
    put (scene c era rules db key) (amid era.number db key n w t) n (asks ((amid era.number db key n w t).nodes n)) (move (place (scene c era rules db key) n ((amid era.number db key n w t).nodes n)) rules e (starts ((amid era.number db key n w t).nodes n)))
    ≡ put (scene c era rules db key) (amid era.number db key n w t) n (asks (view db key t.node)) (left_by c n db key (λ at o. move at rules e o) t)
unfolding node.view
moved_at c era rules n db key e t w asks h =
    ap (λ (v : View). put (scene c era rules db key) (amid era.number db key n w t) n (asks v) (move (place (scene c era rules db key) n v) rules e (starts v))) (self era.number db key n w t)
    ∙ ap (λ (p : Place). put (scene c era rules db key) (amid era.number db key n w t) n (asks (view db key t.node)) (move p rules e (starts (view db key t.node)))) (sym (place_is c era rules n db key t.node h))

-- what a guard that holds lets through
pub guarded : {X : Type 0} (b : Bool) (x y : X) → b ≡ true → cond b x y ≡ x
guarded true x y e = refl
guarded false x y e = absurd (cc)

shut : {X : Type 0} (b : Bool) (x y : X) → b ≡ false → cond b x y ≡ y
shut true x y e = absurd (cc)
shut false x y e = refl

-- ---- every event at the record

pub wants_happen : (c : Config) (era : Era) (rules : Rules) (n db call : ℕ) (key : List ℕ) (asked : ClientOp) (t : Turn) (w : World) → t.node.members ≡ era.members → may_want (state_at db key t.node) asked ≡ true →
    happens (scene c era rules db key) (amid era.number db key n w t) (Wants n call asked) ≡ put (scene c era rules db key) (amid era.number db key n w t) n (own_call call asked) (left_by c n db key (λ at o. want at rules call asked o) t)
wants_happen c era rules n db call key asked t w h m =
    guarded (may_want ((amid era.number db key n w t).nodes n).state asked) _ _ (ap (λ (v : View). may_want v.state asked) (self era.number db key n w t) ∙ m)
    ∙ moved_at c era rules n db key (event.Want call asked) t w (λ _. own_call call asked) h

pub stores_happen : (c : Config) (era : Era) (rules : Rules) (n db call : ℕ) (key v : List ℕ) (t : Turn) (w : World) → t.node.members ≡ era.members → is_some (state_at db key t.node).locked ≡ true →
    happens (scene c era rules db key) (amid era.number db key n w t) (Stores n call v) ≡ put (scene c era rules db key) (amid era.number db key n w t) n (own_call call (op.Store db key v)) (left_by c n db key (λ at o. store call v o) t)
stores_happen c era rules n db call key v t w h m =
    guarded (is_some ((amid era.number db key n w t).nodes n).state.locked) _ _ (ap (λ (x : View). is_some x.state.locked) (self era.number db key n w t) ∙ m)
    ∙ moved_at c era rules n db key (event.Store call v) t w (λ _. own_call call (op.Store db key v)) h

pub unlocks_happen : (c : Config) (era : Era) (rules : Rules) (n db call : ℕ) (key : List ℕ) (t : Turn) (w : World) → t.node.members ≡ era.members → is_some (state_at db key t.node).locked ≡ true →
    happens (scene c era rules db key) (amid era.number db key n w t) (Unlocks n call) ≡ put (scene c era rules db key) (amid era.number db key n w t) n (own_call call (op.Unlock db key)) (left_by c n db key (λ at o. unlock at call o) t)
unlocks_happen c era rules n db call key t w h m =
    guarded (is_some ((amid era.number db key n w t).nodes n).state.locked) _ _ (ap (λ (x : View). is_some x.state.locked) (self era.number db key n w t) ∙ m)
    ∙ moved_at c era rules n db key (event.Unlock call) t w (λ _. own_call call (op.Unlock db key)) h

pub comes_happen : (c : Config) (era : Era) (rules : Rules) (n db which sender : ℕ) (key : List ℕ) (m : Msg) (t : Turn) (w : World) → t.node.members ≡ era.members →
    slice_get (amid era.number db key n w t).mail which ≡ Some (record { sender = sender; receiver = n; msg = m }) →
    happens (scene c era rules db key) (amid era.number db key n w t) (Comes which) ≡ put (scene c era rules db key) (amid era.number db key n w t) n (waiting_call (state_at db key t.node).wish) (left_by c n db key (λ at o. arrive at rules sender m o) t)
comes_happen c era rules n db which sender key m t w h e =
    ap (λ (x : Option Mail). comes (scene c era rules db key) (amid era.number db key n w t) x) e
    ∙ moved_at c era rules n db key (event.Arrive sender m) t w (λ v. waiting_call v.state.wish) h

-- ---- from the step of the node to each record

-- what is told of the step at one record holds of each: of its own by this event, and of all others as the numbers rise
pub each_follows : (c : Config) (era : Era) (rules : Rules) (n db0 : ℕ) (key0 : List ℕ) (part : Place → Moving → Moving) (t : Turn) (calls : List PendingCall) (asks : ℕ → Option ClientOp) (ws : ℕ → List ℕ → World) (e : Event) →
    Fair c era n db0 key0 part t calls asks →
    happens (scene c era rules db0 key0) (amid era.number db0 key0 n (ws db0 key0) t) e ≡ put (scene c era rules db0 key0) (amid era.number db0 key0 n (ws db0 key0) t) n asks (left_by c n db0 key0 part t) →
    (db : ℕ) (key : List ℕ) → Follows era.number (scene c era rules db key) n (ws db key) calls t (at_record c n db0 key0 part t)
each_follows c era rules n db0 key0 part t calls asks ws e f h db key = ⊎_elim
    (λ (is : is_it db key db0 key0 ≡ true). (let p = it_is db db0 key key0 is in
    subst (λ (k : List ℕ). Follows era.number (scene c era rules db k) n (ws db k) calls t (at_record c n db0 key0 part t)) p.1
    (subst (λ (d : ℕ). Follows era.number (scene c era rules d key0) n (ws d key0) calls t (at_record c n db0 key0 part t)) p.0
    (e ∷ [], own_step c era rules n db0 key0 part t calls asks (ws db0 key0) e f h))))
    (λ (unlike : is_it db key db0 key0 ≡ false). (_, other_step c era rules n db0 db key0 key part t calls asks (ws db key) f unlike))
    (cases_Bool (is_it db key db0 key0))

-- ---- a message of a record

on_record_is : (c : Config) (rules : Rules) (n : ℕ) (f : Frame) (t : Turn) (r : Option (ℕ × List ℕ)) (db : ℕ) (key : List ℕ) → r ≡ Some (db, key) → (is_current f t.node && has_records (kind_at c db)) ≡ true →
    on_record_of c rules n f t r ≡ at_record c n db key (λ at o. arrive at rules f.sender f.msg o) t
unfolding on_record_of
on_record_is c rules n f t r db key e ok = ap (on_record_of c rules n f t) e ∙ guarded (is_current f t.node && has_records (kind_at c db)) _ _ ok

on_record_not : (c : Config) (rules : Rules) (n : ℕ) (f : Frame) (t : Turn) (r : Option (ℕ × List ℕ)) (db : ℕ) (key : List ℕ) → r ≡ Some (db, key) → (is_current f t.node && has_records (kind_at c db)) ≡ false →
    on_record_of c rules n f t r ≡ t
unfolding on_record_of
on_record_not c rules n f t r db key e ok = ap (on_record_of c rules n f t) e ∙ shut (is_current f t.node && has_records (kind_at c db)) _ _ ok

-- a message of a record is looked at as one
of_record : (c : Config) (rules : Rules) (n : ℕ) (f : Frame) (t : Turn) (m : Msg) (db : ℕ) (key : List ℕ) → record_in m ≡ Some (db, key) → arrives c rules n f t m ≡ on_record_of c rules n f t (record_in m)
unfolding arrives record_in
of_record c rules n f t (msg.PUpdate d seq writes) db key e = absurd (cc)
of_record c rules n f t (msg.PAck d seq) db key e = absurd (cc)
of_record c rules n f t (msg.Freeze members) db key e = absurd (cc)
of_record c rules n f t msg.FreezeAck db key e = absurd (cc)
of_record c rules n f t msg.Pull db key e = absurd (cc)
of_record c rules n f t (msg.PullReply vbase pbase table ptables addresses) db key e = absurd (cc)
of_record c rules n f t (msg.Push members table ptables assigned) db key e = absurd (cc)
of_record c rules n f t msg.PushAck db key e = absurd (cc)
of_record c rules n f t msg.Thaw db key e = absurd (cc)
of_record c rules n f t (msg.Release number keep) db key e = absurd (cc)
of_record c rules n f t (msg.ReleaseAck number) db key e = absurd (cc)
of_record c rules n f t (msg.Take number assigned) db key e = absurd (cc)
of_record c rules n f t m db key e = refl

-- a message of a record that is followed is a step at that record
pub arrives_at : (c : Config) (rules : Rules) (n : ℕ) (f : Frame) (t : Turn) (db : ℕ) (key : List ℕ) → record_in f.msg ≡ Some (db, key) → (is_current f t.node && has_records (kind_at c db)) ≡ true →
    arrives c rules n f t f.msg ≡ at_record c n db key (λ at o. arrive at rules f.sender f.msg o) t
arrives_at c rules n f t db key r ok = of_record c rules n f t f.msg db key r ∙ on_record_is c rules n f t (record_in f.msg) db key r ok

-- and one that is dropped changes nothing
pub arrives_not : (c : Config) (rules : Rules) (n : ℕ) (f : Frame) (t : Turn) (db : ℕ) (key : List ℕ) → record_in f.msg ≡ Some (db, key) → (is_current f t.node && has_records (kind_at c db)) ≡ false → arrives c rules n f t f.msg ≡ t
arrives_not c rules n f t db key r ok = of_record c rules n f t f.msg db key r ∙ on_record_not c rules n f t (record_in f.msg) db key r ok
