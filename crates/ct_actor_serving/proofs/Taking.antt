-- What a node takes.
use Rattle.std.proofs.Common.{◌≡◌, ◌∙◌, ℕ, zero, suc, ◌+◌, ◌<◌, ◌≤◌, ◌^◌, Bool, true, ◌&&◌, List, [], ◌∷◌, ◌++◌, length, Option, None, Some, Result, Ok, Err, arith, inr, refl, sym, ap, subst}
use Rattle.std.proofs.lemmas.Bool.{and_parts, eqb-true}
use Rattle.std.proofs.lemmas.List.{append-nil}
use Rattle.std.proofs.lemmas.Option.{slice_get_within}
use Rattle.std.specs.Prelude.{◌==◌, nat_eq, slice_get}
use Rattle.std.specs.List.{list_all}
use Rattle.ct_actor.specs.Acting.{ActsOn, IsActing, MayAsk}
use Rattle.ct_call.specs.Rules.{Rules}
use Rattle.ct_script.specs.Cues.{begun, cue_after, first_cue, greatest_call, item_unless, next_item}
use Rattle.ct_script.specs.declared.cue.Cue.{Cue}
use Rattle.ct_frame.specs.Fields.{well_formed}
use Rattle.ct_frame.specs.declared.event.Event.{Event}
use Rattle.ct_frame.specs.declared.event.Event.TheVariants as event
use Rattle.ct_frame.specs.declared.event.Out.{Out}
use Rattle.ct_frame.specs.declared.event.Out.TheVariants as out
use Rattle.ct_frame.specs.declared.frame.Frame.{Frame}
use Rattle.ct_script.specs.declared.plan.PlanItem.{PlanItem}
use Rattle.ct_script.specs.declared.plan.PlanItem.TheVariants.{Call, Round}
use Rattle.ct_journal.specs.declared.journal.JournalEntry.{JournalEntry}
use Rattle.ct_law_journal_growing.proofs.Following.{follows_calls, follows_first}
use Rattle.ct_law_journal_growing.specs.Following.{Follows, TakesNext}
use Rattle.ct_values.specs.declared.client.ClientOp.{ClientOp}
use Rattle.ct_values.specs.declared.config.Config.{Config}
use Rattle.ct_actor.specs.Journalled.{IsFed, IsRunBy, Journalled}
use Rattle.ct_law_form.specs.Whole.{is_node_of, is_sound_out}
use Rattle.ct_script.specs.Sound.{may_be_told}
use Rattle.ct_wire_link.specs.Reading.{is_ours, is_sound}
use Rattle.ct_rules_node.specs.Coming.{is_allowed_op}
use Rattle.ct_rules_node.specs.Steps.{stepped}
use Rattle.ct_rules_node.specs.Turn.{Turn}
use Rattle.ct_wire_link.specs.Sending.{is_sendable}
use Rattle.ct_actor_serving.specs.Serving.{Acts, Counts, GoesOn, HasCause, fault_of}
use Rattle.ct_actor_serving.specs.declared.fault.AtLimit.{AtLimit}
use Rattle.ct_actor_serving.specs.declared.fault.AtLimit.TheVariants as limit
use Rattle.ct_actor_serving.specs.declared.fault.ServeFault.{ServeFault}
use Rattle.ct_node_state.specs.declared.turn.CoreFault.{CoreFault}
use Rattle.ct_node_state.specs.declared.turn.CoreFault.TheVariants.{Exhausted, NoMemory}

-- what a node does keeps the rules of its fields
pub sendable : (c : Config) (me : ℕ) (outs : List Out) → list_all (is_sound_out c me) outs ≡ true → list_all is_sendable outs ≡ true
unfolding is_sound_out
sendable c me [] h = refl
sendable c me (out.Send f ∷ os) h =
    let parts = and_parts (is_sound_out c me (out.Send f)) (list_all (is_sound_out c me) os) h in
    let own = and_parts (well_formed f && nat_eq f.sender me) (is_node_of c f.receiver) parts.0 in
    let formed = and_parts (well_formed f) (nat_eq f.sender me) own.0 in
    let rest = sendable c me os parts.1 in
    (λ i. formed.0 i && rest i)
sendable c me (out.Answer call a ∷ os) h = sendable c me os h
sendable c me (out.Note x ∷ os) h = sendable c me os h

-- ---- the next item

unwaiting : (w : Option ℕ) (k : ℕ) (script : List PlanItem) (i : PlanItem) → item_unless w k script ≡ Some i → slice_get script k ≡ Some i
unfolding item_unless
unwaiting None k script i h = h
unwaiting (Some call) k script i h = absurd (cc)

pub next_at : (script : List PlanItem) (c : Cue) (i : PlanItem) → next_item script c ≡ Some i → slice_get script c.taken ≡ Some i
unfolding next_item
next_at script c i h = unwaiting c.waits c.taken script i h

all_at : (q : PlanItem → Bool) (xs : List PlanItem) (k : ℕ) (x : PlanItem) → list_all q xs ≡ true → slice_get xs k ≡ Some x → q x ≡ true
all_at q [] k x h e = absurd (cc)
all_at q (y ∷ ys) zero x h e = subst (λ (o : Option PlanItem). or_true o ≡ true) e (and_parts (q y) (list_all q ys) h).0
  where
    or_true : Option PlanItem → Bool
    or_true None = true
    or_true (Some z) = q z
all_at q (y ∷ ys) (suc k) x h e = all_at q ys k x (and_parts (q y) (list_all q ys) h).1 e

-- an item that may be taken next may be told
pub next_told : (cf : Config) (me : ℕ) (script : List PlanItem) (c : Cue) (i : PlanItem) → list_all (may_be_told cf me) script ≡ true → next_item script c ≡ Some i → may_be_told cf me i ≡ true
next_told cf me script c i all h = all_at (may_be_told cf me) script c.taken i all (next_at script c i h)

pub next_within : (script : List PlanItem) (c : Cue) (i : PlanItem) → next_item script c ≡ Some i → c.taken < length script
next_within script c i h = slice_get_within script c.taken i (next_at script c i h)

-- where all items are taken, there is none
beyond : (xs : List PlanItem) (k : ℕ) → length xs ≤ k → slice_get xs k ≡ None
beyond [] k h = refl
beyond (x ∷ xs) zero h = absurd (omega arith)
beyond (x ∷ xs) (suc k) h = beyond xs k (omega arith)

none_at : (w : Option ℕ) (k : ℕ) (script : List PlanItem) → length script ≤ k → item_unless w k script ≡ None
unfolding item_unless
none_at None k script h = beyond script k h
none_at (Some call) k script h = refl

pub none_left : (script : List PlanItem) (c : Cue) → length script ≤ c.taken → next_item script c ≡ None
unfolding next_item
none_left script c h = none_at c.waits c.taken script h

-- whoever acts by a script may take its next call
pub acts_may_ask : (rules : Rules) (script : List PlanItem) (x : Journalled) (c : Cue) → Acts rules script x c → c.taken + 1 < 2 ^ 64 → MayAsk rules x c
acts_may_ask rules script x c acts fits = record {
  run = acts.1.run;
  calls = subst (λ (xs : List JournalEntry). greatest_call xs ≤ c.calls) (sym acts.1.all) (follows_calls script acts.0 acts.1.since c acts.1.follows);
  fits = fits;
}

-- ---- one event

core_same : (r : Result (Unit {0}) CoreFault) (e : Event) (rule : Option Turn) (x y : Journalled) → IsFed r e rule x y → (y.core.pnn ≡ x.core.pnn) × (y.core.config ≡ x.core.config)
core_same (Ok u) e rule x y fed = (ap (λ (z : Journalled). z.core.pnn) fed.2, ap (λ (z : Journalled). z.core.config) fed.2)
core_same (Err Exhausted) e rule x y fed = (ap (λ (z : Journalled). z.core.pnn) fed.1, ap (λ (z : Journalled). z.core.config) fed.1)
core_same (Err NoMemory) e rule x y fed = (ap (λ (z : Journalled). z.core.pnn) fed, ap (λ (z : Journalled). z.core.config) fed)

goes_fed : (rules : Rules) (script : List PlanItem) (r : Result (Unit {0}) CoreFault) (e : Event) (x y : Journalled) (c d : Cue) →
    IsFed r e (stepped x.core.config rules x.core.pnn e x.core.node) x y → ActsOn rules e x c y d → TakesNext script c e → GoesOn rules script x c y d
goes_fed rules script r e x y c d fed acts may = record {
  acting = λ before acting. acts script before acting may;
  pnn = (core_same r e (stepped x.core.config rules x.core.pnn e x.core.node) x y fed).0;
  config = (core_same r e (stepped x.core.config rules x.core.pnn e x.core.node) x y fed).1;
}

pub arrival_goes : (rules : Rules) (script : List PlanItem) (r : Result (Unit {0}) CoreFault) (f : Frame) (x y : Journalled) (c d : Cue) →
    IsFed r (event.Arrive f) (stepped x.core.config rules x.core.pnn (event.Arrive f) x.core.node) x y → ActsOn rules (event.Arrive f) x c y d → GoesOn rules script x c y d
unfolding TakesNext
arrival_goes rules script r f x y c d fed acts = goes_fed rules script r (event.Arrive f) x y c d fed acts tt

pub call_goes : (rules : Rules) (script : List PlanItem) (r : Result (Unit {0}) CoreFault) (o p : ClientOp) (i : PlanItem) (x y : Journalled) (c d : Cue) →
    o ≡ p → i ≡ Call p → next_item script c ≡ Some i → IsFed r (event.Client (c.calls + 1) o) (stepped x.core.config rules x.core.pnn (event.Client (c.calls + 1) o) x.core.node) x y
    → ActsOn rules (event.Client (c.calls + 1) o) x c y d → GoesOn rules script x c y d
unfolding TakesNext
call_goes rules script r o p i x y c d same is next fed acts =
    goes_fed rules script r (event.Client (c.calls + 1) o) x y c d fed acts
    (refl, next ∙ ap (λ (q : PlanItem). Some q) is ∙ ap (λ (q : ClientOp). Some (Call q)) (sym same))

pub round_goes : (rules : Rules) (script : List PlanItem) (r : Result (Unit {0}) CoreFault) (ticket : ℕ) (ms ns : List ℕ) (i : PlanItem) (x y : Journalled) (c d : Cue) →
    ms ≡ ns → i ≡ Round ns → next_item script c ≡ Some i → IsFed r (event.BeginRound ticket ms) (stepped x.core.config rules x.core.pnn (event.BeginRound ticket ms) x.core.node) x y
    → ActsOn rules (event.BeginRound ticket ms) x c y d → GoesOn rules script x c y d
unfolding TakesNext
round_goes rules script r ticket ms ns i x y c d same is next fed acts =
    goes_fed rules script r (event.BeginRound ticket ms) x y c d fed acts
    (next ∙ ap (λ (q : PlanItem). Some q) is ∙ ap (λ (q : List ℕ). Some (Round q)) (sym same))

pub call_taken : (call : ℕ) (o : ClientOp) (outs : List Out) (c d : Cue) → d ≡ cue_after (record { event = event.Client call o; outs = outs }) c → d.taken ≡ c.taken + 1
unfolding cue_after begun
call_taken call o outs c d h = ap (λ (e : Cue). e.taken) h

pub round_taken : (ticket : ℕ) (ms : List ℕ) (outs : List Out) (c d : Cue) → d ≡ cue_after (record { event = event.BeginRound ticket ms; outs = outs }) c → d.taken ≡ c.taken + 1
unfolding cue_after begun
round_taken ticket ms outs c d h = ap (λ (e : Cue). e.taken) h

-- it is no ticket
abbrev pub IsStep : AtLimit → Type 0
IsStep limit.Ticket = ⊥
IsStep limit.Call = Unit {0}
IsStep (limit.Round ticket) = Unit {0}
IsStep (limit.Message sender) = Unit {0}

cause_refused : (at : AtLimit) (f : CoreFault) (a b : Counts) → IsStep at → HasCause (fault_of at f) a b
unfolding HasCause
cause_refused limit.Ticket f a b h = absurd h
cause_refused limit.Call Exhausted a b h = tt
cause_refused limit.Call NoMemory a b h = tt
cause_refused (limit.Round ticket) Exhausted a b h = tt
cause_refused (limit.Round ticket) NoMemory a b h = tt
cause_refused (limit.Message sender) Exhausted a b h = tt
cause_refused (limit.Message sender) NoMemory a b h = tt

-- a step that is refused needs no count
pub cause_of : (at : AtLimit) (g : ServeFault) (f : CoreFault) (a b : Counts) → g ≡ fault_of at f → IsStep at → HasCause g a b
cause_of at g f a b is step = subst (λ (h : ServeFault). HasCause h a b) (sym is) (cause_refused at f a b step)

-- ---- what an item asks

pub call_allowed : (cf : Config) (me : ℕ) (o p : ClientOp) (i : PlanItem) → o ≡ p → i ≡ Call p → may_be_told cf me i ≡ true → is_allowed_op o ≡ true
unfolding may_be_told
call_allowed cf me o p i same is told =
    let allowed : is_allowed_op p ≡ true = subst (λ (q : PlanItem). may_be_told cf me q ≡ true) is told in
    ap is_allowed_op same ∙ allowed

pub round_told : (cf : Config) (me : ℕ) (ms ns : List ℕ) (i : PlanItem) → ms ≡ ns → i ≡ Round ns → may_be_told cf me i ≡ true → may_be_told cf me (Round ms) ≡ true
round_told cf me ms ns i same is told = ap (λ (q : List ℕ). may_be_told cf me (Round q)) same ∙ subst (λ (q : PlanItem). may_be_told cf me q ≡ true) is told

-- it is asked of all items also later
pub told_then : (rules : Rules) (script : List PlanItem) (x y : Journalled) (c d : Cue) → GoesOn rules script x c y d → list_all (may_be_told x.core.config x.core.pnn) script ≡ true → list_all (may_be_told y.core.config y.core.pnn) script ≡ true
told_then rules script x y c d g told =
    ap (λ (k : Config). list_all (may_be_told k y.core.pnn) script) g.config ∙ ap (λ (n : ℕ). list_all (may_be_told x.core.config n) script) g.pnn ∙ told

-- ---- the start and the end

-- before anything is taken
pub acts_first : (rules : Rules) (script : List PlanItem) (x : Journalled) (c : Cue) → IsRunBy rules x → c ≡ first_cue x.entries → IsActing rules script x.entries x c
acts_first rules script x c run is = record {
  run = run;
  since = [];
  all = sym (append-nil x.entries);
  follows = subst (λ (d : Cue). Follows script x.entries [] d) (sym is) (follows_first script x.entries);
}

-- a frame that is sound is for this node
pub sound_receiver : (me sender : ℕ) (f : Frame) → is_sound me sender f ≡ true → f.receiver ≡ me
sound_receiver me sender f h =
    let own = (and_parts (well_formed f) (is_ours me sender f) h).1 in
    eqb-true f.receiver me (and_parts (f.receiver == me) (f.sender == sender) own).0

-- the frames behind the first
pub all_rest : (q : Frame → Bool) (all rest : List Frame) (f : Frame) → all ≡ f ∷ rest → list_all q all ≡ true → list_all q rest ≡ true
all_rest q all rest f is h = (and_parts (q f) (list_all q rest) (subst (λ (fs : List Frame). list_all q fs ≡ true) is h)).1
