-- A node of a plan takes an event.
use Rattle.std.proofs.Common.{◌≡◌, ◌∙◌, ℕ, zero, suc, ◌+◌, ◌<◌, ◌^◌, Bool, true, ◌&&◌, List, [], ◌∷◌, ◌++◌, Option, Some, refl, sym, ap, subst, arith}
use Rattle.std.proofs.lemmas.Bool.{and_parts, eqb-true}
use Rattle.std.proofs.lemmas.Option.{slice_get_within}
use Rattle.std.specs.Prelude.{Result, Ok, Err, OnOk, nat_eq, nat_lt, slice_get}
use Rattle.std.specs.List.{list_all}
use Rattle.ct_actor.specs.Acting.{ActsOn, MayAsk}
use Rattle.ct_actor.proofs.Stepping as acting
use Rattle.ct_call.specs.Rules.{Rules}
use Rattle.ct_script.specs.Cues.{next_item}
use Rattle.ct_script.specs.declared.cue.Cue.{Cue}
use Rattle.ct_frame.specs.Fields.{ascends, well_formed}
use Rattle.ct_frame.specs.declared.event.Event.{Event}
use Rattle.ct_frame.specs.declared.event.Event.TheVariants as event
use Rattle.ct_frame.specs.declared.event.Out.{Out}
use Rattle.ct_frame.specs.declared.frame.Frame.{Frame}
use Rattle.ct_script.specs.declared.plan.Plan.{Plan}
use Rattle.ct_script.specs.declared.plan.PlanItem.{PlanItem}
use Rattle.ct_script.specs.declared.plan.PlanItem.TheVariants.{Call, Round}
use Rattle.ct_journal.specs.declared.journal.JournalEntry.{JournalEntry}
use Rattle.ct_law_journal_growing.specs.Following.{TakesNext}
use Rattle.ct_values.specs.declared.client.ClientOp.{ClientOp}
use Rattle.ct_values.specs.declared.config.Config.{Config}
use Rattle.ct_actor.specs.Journalled.{IsFed, Journalled, last_outs}
use Rattle.ct_actor.proofs.Running.{put_last}
use Rattle.ct_law_form.specs.Whole.{is_sound_out}
use Rattle.ct_script.specs.Sound.{IsSound, may_be_told, script_of}
use Rattle.ct_rules_node.specs.Coming.{is_allowed_op}
use Rattle.ct_rules_node.specs.Node.{is_among}
use Rattle.ct_rules_node.specs.Turn.{Turn}
use Rattle.ct_node_state.specs.declared.turn.CoreFault.{CoreFault}
use Rattle.ct_actor.specs.Queues.{is_for}
use Rattle.ct_law_journal_growing.proofs.Following.{next_got}
use Rattle.ct_actor.specs.Seats.{IsItem, IsSeatOf, TakesEvent, TakesItem}
use Rattle.ct_actor.specs.declared.seat.Seat.{Seat}

-- ---- one event

takes_by : (rules : Rules) (p : Plan) (n : ℕ) (e : Event) (rule : Option Turn) (u : Unit {0}) (old new : Seat) → IsSeatOf rules p n old → TakesNext (script_of p n) old.cue e → IsFed (Ok u) e rule old.node new.node →
    ActsOn rules e old.node old.cue new.node new.cue → list_all (is_sound_out old.node.core.config old.node.core.pnn) (last_outs new.node.entries) ≡ true → TakesEvent rules p n e old new
takes_by rules p n e rule u old new seat next fed acts sound =
    let put : new.node.entries ≡ old.node.entries ++ record { event = e; outs = fed.0 } ∷ [] = ap (λ (x : Journalled). x.entries) fed.2 in
    let own : last_outs new.node.entries ≡ fed.0 = ap (λ (xs : List JournalEntry). last_outs xs) put ∙ put_last old.node.entries (record { event = e; outs = fed.0 }) in
    record {
      seat = record { config = ap (λ (x : Journalled). x.core.config) fed.2 ∙ seat.config; own = ap (λ (x : Journalled). x.core.pnn) fed.2 ∙ seat.own; acting = acts (script_of p n) [] seat.acting next };
      outs = fed.0;
      put = put;
      sound =
          subst (λ (c : Config). list_all (is_sound_out c n) fed.0 ≡ true) seat.config
          (subst (λ (k : ℕ). list_all (is_sound_out old.node.core.config k) fed.0 ≡ true) seat.own
          (subst (λ (os : List Out). list_all (is_sound_out old.node.core.config old.node.core.pnn) os ≡ true) own sound));
    }

-- whatever is answered
takes_any : (rules : Rules) (p : Plan) (n : ℕ) (e : Event) (rule : Option Turn) (r : Result (Unit {0}) CoreFault) (old new : Seat) → IsSeatOf rules p n old → TakesNext (script_of p n) old.cue e → IsFed r e rule old.node new.node →
    ActsOn rules e old.node old.cue new.node new.cue → OnOk r (list_all (is_sound_out old.node.core.config old.node.core.pnn) (last_outs new.node.entries) ≡ true) → OnOk r (TakesEvent rules p n e old new)
takes_any rules p n e rule (Ok u) old new seat next fed acts sound = takes_by rules p n e rule u old new seat next fed acts sound
takes_any rules p n e rule (Err f) old new seat next fed acts sound = tt

pub takes_message : (rules : Rules) (p : Plan) (n : ℕ) (f : Frame) (rule : Option Turn) (r : Result (Unit {0}) CoreFault) (old new : Seat) → IsSeatOf rules p n old → IsFed r (event.Arrive f) rule old.node new.node →
    ActsOn rules (event.Arrive f) old.node old.cue new.node new.cue → OnOk r (list_all (is_sound_out old.node.core.config old.node.core.pnn) (last_outs new.node.entries) ≡ true) → OnOk r (TakesEvent rules p n (event.Arrive f) old new)
unfolding TakesNext
takes_message rules p n f rule r old new seat fed acts sound = takes_any rules p n (event.Arrive f) rule r old new seat tt fed acts sound

pub takes_call : (rules : Rules) (p : Plan) (n : ℕ) (o : ClientOp) (rule : Option Turn) (r : Result (Unit {0}) CoreFault) (old new : Seat) → IsSeatOf rules p n old → next_item (script_of p n) old.cue ≡ Some (Call o) →
    IsFed r (event.Client (old.cue.calls + 1) o) rule old.node new.node → ActsOn rules (event.Client (old.cue.calls + 1) o) old.node old.cue new.node new.cue →
    OnOk r (list_all (is_sound_out old.node.core.config old.node.core.pnn) (last_outs new.node.entries) ≡ true) → OnOk r (TakesEvent rules p n (event.Client (old.cue.calls + 1) o) old new)
unfolding TakesNext
takes_call rules p n o rule r old new seat next fed acts sound = takes_any rules p n (event.Client (old.cue.calls + 1) o) rule r old new seat (refl, next) fed acts sound

pub takes_round : (rules : Rules) (p : Plan) (n t : ℕ) (members : List ℕ) (rule : Option Turn) (r : Result (Unit {0}) CoreFault) (old new : Seat) → IsSeatOf rules p n old → next_item (script_of p n) old.cue ≡ Some (Round members) →
    IsFed r (event.BeginRound t members) rule old.node new.node → ActsOn rules (event.BeginRound t members) old.node old.cue new.node new.cue →
    OnOk r (list_all (is_sound_out old.node.core.config old.node.core.pnn) (last_outs new.node.entries) ≡ true) → OnOk r (TakesEvent rules p n (event.BeginRound t members) old new)
unfolding TakesNext
takes_round rules p n t members rule r old new seat next fed acts sound = takes_any rules p n (event.BeginRound t members) rule r old new seat next fed acts sound

-- ---- what is asked of a message

pub is_formed : (n : ℕ) (f : Frame) → is_for n f ≡ true → well_formed f ≡ true
unfolding is_for
is_formed n f h = (and_parts (well_formed f) (nat_eq f.receiver n) h).0

pub is_received : (rules : Rules) (p : Plan) (n : ℕ) (f : Frame) (s : Seat) → IsSeatOf rules p n s → is_for n f ≡ true → f.receiver ≡ s.node.core.pnn
unfolding is_for
is_received rules p n f s seat h = eqb-true f.receiver n (and_parts (well_formed f) (nat_eq f.receiver n) h).1 ∙ sym seat.own

-- ---- what is asked of an item

all_at : (q : PlanItem → Bool) (xs : List PlanItem) (k : ℕ) (x : PlanItem) → list_all q xs ≡ true → slice_get xs k ≡ Some x → q x ≡ true
all_at q [] k x h e = absurd (cc)
all_at q (y ∷ ys) zero x h e = let a = (and_parts (q y) (list_all q ys) h).0 in cc
all_at q (y ∷ ys) (suc k) x h e = all_at q ys k x (and_parts (q y) (list_all q ys) h).1 e

-- an item of a sound plan may be told to its node
told : (p : Plan) (n : ℕ) (cue : Cue) (i : PlanItem) → IsSound p → next_item (script_of p n) cue ≡ Some i → may_be_told p.config n i ≡ true
told p n cue i sound next = all_at (may_be_told p.config n) (script_of p n) cue.taken i (sound.told n) (next_got (script_of p n) cue i next)

pub has_room : (p : Plan) (n : ℕ) (cue : Cue) (i : PlanItem) → IsSound p → next_item (script_of p n) cue ≡ Some i → cue.taken + 1 < 2 ^ 64
has_room p n cue i sound next = let l = slice_get_within (script_of p n) cue.taken i (next_got (script_of p n) cue i next) in let s = sound.short n in omega arith

pub is_allowed : (p : Plan) (n : ℕ) (cue : Cue) (o : ClientOp) → IsSound p → next_item (script_of p n) cue ≡ Some (Call o) → is_allowed_op o ≡ true
unfolding may_be_told
is_allowed p n cue o sound next = told p n cue (Call o) sound next

pub may_ask : (rules : Rules) (p : Plan) (n : ℕ) (s : Seat) (i : PlanItem) → IsSeatOf rules p n s → IsSound p → next_item (script_of p n) s.cue ≡ Some i → MayAsk rules s.node s.cue
may_ask rules p n s i seat sound next = acting.may_ask rules (script_of p n) [] s.node s.cue seat.acting (has_room p n s.cue i sound next)

pub is_told : (rules : Rules) (p : Plan) (n : ℕ) (s : Seat) (i : PlanItem) → IsSeatOf rules p n s → IsSound p → next_item (script_of p n) s.cue ≡ Some i → may_be_told s.node.core.config s.node.core.pnn i ≡ true
is_told rules p n s i seat sound next =
    subst (λ (c : Config). may_be_told c s.node.core.pnn i ≡ true) (sym seat.config) (subst (λ (k : ℕ). may_be_told p.config k i ≡ true) (sym seat.own) (told p n s.cue i sound next))

member : (p : Plan) (n : ℕ) (cue : Cue) (members : List ℕ) → IsSound p → next_item (script_of p n) cue ≡ Some (Round members) → is_among n members ≡ true
unfolding may_be_told
member p n cue members sound next =
    let t = told p n cue (Round members) sound next in
    (and_parts (ascends nat_lt members && list_all (λ m. nat_lt m p.config.nodes) members) (is_among n members) t).1

-- ---- the next item

pub item_call : (rules : Rules) (p : Plan) (n last : ℕ) (o : ClientOp) (old new : Seat) → TakesEvent rules p n (event.Client (old.cue.calls + 1) o) old new → TakesItem rules p n last true old new
unfolding IsItem
item_call rules p n last o old new takes = (event.Client (old.cue.calls + 1) o, tt, takes)

pub item_round : (rules : Rules) (p : Plan) (n last : ℕ) (members : List ℕ) (old new : Seat) → IsSound p → next_item (script_of p n) old.cue ≡ Some (Round members) → TakesEvent rules p n (event.BeginRound (last + 1) members) old new →
    TakesItem rules p n last true old new
unfolding IsItem
item_round rules p n last members old new sound next takes = (event.BeginRound (last + 1) members, (refl, member p n old.cue members sound next), takes)
