-- A node that acts still follows its script.
use Rattle.std.proofs.Common.{◌≡◌, ◌∙◌, ℕ, ◌+◌, ◌-◌, ◌<◌, ◌≤◌, ◌^◌, true, ◌&&◌, List, [], ◌∷◌, ◌++◌, length, Option, Some, append_assoc, refl, sym, ap, subst, arith}
use Rattle.std.specs.Prelude.{Result, Ok, Err, OnErr, OnOk, slice_get}
use Rattle.std.proofs.lemmas.Bool.{eq-eqb}
use Rattle.ct_actor.specs.Acting.{ActsOn, FitsWith, IsActing, MayAsk, cue_with, last_entry}
use Rattle.ct_call.specs.Rules.{Rules}
use Rattle.ct_script.specs.Cues.{begun, cue_after, greatest_call}
use Rattle.ct_script.specs.declared.cue.Cue.{Cue}
use Rattle.ct_frame.specs.Fields.{well_formed}
use Rattle.ct_frame.specs.declared.event.Event.{Event}
use Rattle.ct_frame.specs.declared.event.Event.TheVariants as event
use Rattle.ct_frame.specs.declared.event.Out.{Out}
use Rattle.ct_frame.specs.declared.frame.Frame.{Frame}
use Rattle.ct_script.specs.declared.plan.PlanItem.{PlanItem}
use Rattle.ct_script.specs.declared.plan.PlanItem.TheVariants.{Round}
use Rattle.ct_journal.specs.declared.journal.JournalEntry.{JournalEntry}
use Rattle.ct_law_journal_growing.specs.Following.{Follows}
use Rattle.ct_law_journal_growing.proofs.Calls.{calls_may_come, calls_run_out}
use Rattle.ct_law_journal_growing.proofs.Following.{follows_calls, follows_on}
use Rattle.ct_values.specs.declared.client.ClientOp.{ClientOp}
use Rattle.ct_values.specs.declared.config.Config.{Config}
use Rattle.ct_actor.specs.Journalled.{IsFed, IsRunBy, Journalled, last_outs, with_entry}
use Rattle.ct_actor.proofs.Running.{put_last, got_put, one_less}
use Rattle.ct_script.specs.Sound.{may_be_told}
use Rattle.ct_rules_node.specs.Coming.{is_allowed_op, may_come}
use Rattle.ct_rules_node.specs.Node.{Node}
use Rattle.ct_rules_node.specs.Steps.{stepped}
use Rattle.ct_rules_node.specs.Turn.{Turn}
use Rattle.ct_node_state.specs.declared.turn.CoreFault.{CoreFault}
use Rattle.ct_node_state.specs.declared.turn.CoreFault.TheVariants.{Exhausted, NoMemory}

-- ---- the last entry

pub last_put : (xs : List JournalEntry) (x : JournalEntry) → slice_get (xs ++ x ∷ []) (length (xs ++ x ∷ []) - 1) ≡ Some x
last_put xs x = ap (λ (i : ℕ). slice_get (xs ++ x ∷ []) i) (one_less xs x) ∙ got_put xs x

-- the entry that was put
pub last_fed : (e : Event) (rule : Option Turn) (old new : Journalled) (outs : List Out) → new ≡ with_entry new.core.node e outs old → last_entry new ≡ Some (record { event = e; outs = last_outs new.entries })
last_fed e rule old new outs is =
    let entries : new.entries ≡ old.entries ++ record { event = e; outs = outs } ∷ [] = ap (λ (x : Journalled). x.entries) is in
    let own : last_outs new.entries ≡ outs = ap (λ (xs : List JournalEntry). last_outs xs) entries ∙ put_last old.entries (record { event = e; outs = outs }) in
    ap (λ (xs : List JournalEntry). slice_get xs (length xs - 1)) entries ∙ last_put old.entries (record { event = e; outs = outs })
    ∙ ap (λ (os : List Out). Some (record { event = e; outs = os })) (sym own)

pub fits_last : (u : Unit {0}) (e : Event) (rule : Option Turn) (old new : Journalled) (cue : Cue) → IsFed (Ok u) e rule old new → (begun e cue).taken < 2 ^ 64 → FitsWith (last_entry new) cue
fits_last u e rule old new cue fed fits = subst (λ (o : Option JournalEntry). FitsWith o cue) (sym (last_fed e rule old new fed.0 fed.2)) fits

pub follows_last : (u : Unit {0}) (e : Event) (rule : Option Turn) (old new : Journalled) (cue next : Cue) → IsFed (Ok u) e rule old new → next ≡ cue_with (last_entry new) cue → next ≡ cue_after (record { event = e; outs = last_outs new.entries }) cue
follows_last u e rule old new cue next fed is = is ∙ ap (λ (o : Option JournalEntry). cue_with o cue) (last_fed e rule old new fed.0 fed.2)

-- ---- what may come

pub arrives : (c : Config) (me : ℕ) (n : Node) (f : Frame) → well_formed f ≡ true → f.receiver ≡ me → may_come c me n (event.Arrive f) ≡ true
unfolding may_come
arrives c me n f formed to = (λ i. formed i && eq-eqb f.receiver me to i)

pub asks : (rules : Rules) (x : Journalled) (cue : Cue) (o : ClientOp) → is_allowed_op o ≡ true → MayAsk rules x cue → may_come x.core.config x.core.pnn x.core.node (event.Client (cue.calls + 1) o) ≡ true
unfolding may_come IsRunBy
asks rules x cue o allowed may =
    (λ i. allowed i && calls_may_come x.core.config rules x.core.pnn x.entries x.core.node (cue.calls + 1) may.run (let l = may.calls in omega arith) i)

pub leads : (c : Config) (me : ℕ) (n : Node) (ticket : ℕ) (members : List ℕ) → may_be_told c me (Round members) ≡ true → may_come c me n (event.BeginRound ticket members) ≡ true
unfolding may_come may_be_told
leads c me n ticket members told = told

-- ---- how many items are taken

pub arrival_fits : (f : Frame) (cue : Cue) → cue.taken < 2 ^ 64 → (begun (event.Arrive f) cue).taken < 2 ^ 64
unfolding begun
arrival_fits f cue l = l

pub call_fits : (call : ℕ) (o : ClientOp) (cue : Cue) → cue.taken + 1 < 2 ^ 64 → (begun (event.Client call o) cue).taken < 2 ^ 64
unfolding begun
call_fits call o cue l = l

pub round_fits : (ticket : ℕ) (members : List ℕ) (cue : Cue) → cue.taken + 1 < 2 ^ 64 → (begun (event.BeginRound ticket members) cue).taken < 2 ^ 64
unfolding begun
round_fits ticket members cue l = l

-- ---- still acting

same_acting : (rules : Rules) (e : Event) (old new : Journalled) (cue next : Cue) → new ≡ old → next ≡ cue → ActsOn rules e old cue new next
same_acting rules e old new cue next is same script before acting may =
    subst (λ (x : Journalled). IsActing rules script before x next) (sym is) (subst (λ (c : Cue). IsActing rules script before old c) (sym same) acting)

one_more : (rules : Rules) (e : Event) (outs : List Out) (old new : Journalled) (cue next : Cue) → (IsRunBy rules old → IsRunBy rules new) → new.entries ≡ old.entries ++ record { event = e; outs = outs } ∷ [] →
    next ≡ cue_after (record { event = e; outs = outs }) cue → ActsOn rules e old cue new next
one_more rules e outs old new cue next run put is script before acting may = record {
  run = run acting.run;
  since = acting.since ++ record { event = e; outs = outs } ∷ [];
  all = put ∙ ap (λ (xs : List JournalEntry). xs ++ record { event = e; outs = outs } ∷ []) acting.all ∙ append_assoc before acting.since (record { event = e; outs = outs } ∷ []);
  follows = subst (λ (c : Cue). Follows script before (acting.since ++ record { event = e; outs = outs } ∷ []) c) (sym is) (follows_on script before acting.since cue (record { event = e; outs = outs }) acting.follows may);
}

pub acts_on : (rules : Rules) (result : Result (Unit {0}) CoreFault) (e : Event) (rule : Option Turn) (old new : Journalled) (cue next : Cue) → IsFed result e rule old new → (IsRunBy rules old → IsRunBy rules new) →
    OnOk result (next ≡ cue_after (record { event = e; outs = last_outs new.entries }) cue) → OnErr result (next ≡ cue) → ActsOn rules e old cue new next
acts_on rules (Ok u) e rule old new cue next fed run ok err =
    let entries : new.entries ≡ old.entries ++ record { event = e; outs = fed.0 } ∷ [] = ap (λ (x : Journalled). x.entries) fed.2 in
    let own : last_outs new.entries ≡ fed.0 = ap (λ (xs : List JournalEntry). last_outs xs) entries ∙ put_last old.entries (record { event = e; outs = fed.0 }) in
    one_more rules e fed.0 old new cue next run entries (ok ∙ ap (λ (os : List Out). cue_after (record { event = e; outs = os }) cue) own)
acts_on rules (Err Exhausted) e rule old new cue next fed run ok err = same_acting rules e old new cue next fed.1 err
acts_on rules (Err NoMemory) e rule old new cue next fed run ok err = same_acting rules e old new cue next fed err

-- whoever follows a script may take its next call
pub may_ask : (rules : Rules) (script : List PlanItem) (before : List JournalEntry) (x : Journalled) (cue : Cue) → IsActing rules script before x cue → cue.taken + 1 < 2 ^ 64 → MayAsk rules x cue
may_ask rules script before x cue acting fits = record {
  run = acting.run;
  calls = subst (λ (xs : List JournalEntry). greatest_call xs ≤ cue.calls) (sym acting.all) (follows_calls script before acting.since cue acting.follows);
  fits = fits;
}

-- ---- a call whose number does not fit

pub too_many : (c : Config) (rules : Rules) (me : ℕ) (o : ClientOp) (cue : Cue) (old : Journalled) → cue.calls ≡ 2 ^ 64 - 1 → IsFed (Err Exhausted) (event.Client (cue.calls + 1) o) (stepped c rules me (event.Client (cue.calls + 1) o) old.core.node) old old
too_many c rules me o cue old is = (calls_run_out c rules me (cue.calls + 1) o old.core.node (omega arith), refl)
