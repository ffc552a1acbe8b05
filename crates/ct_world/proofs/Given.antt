-- What the parts are given is what the rules of the cluster give.
use Rattle.std.proofs.Common.{◌≡◌, ◌∙◌, ℕ, zero, suc, ◌+◌, ◌<◌, ◌≤◌, Bool, true, List, [], ◌∷◌, ◌++◌, length, get_or, append-nil, Option, Some, None, Result, Ok, Err, Fits, w64, refl, sym, ap, subst, append_assoc, arith}
use Rattle.std.specs.Borrow.{Bor}
use Rattle.std.specs.Prelude.{◌^◌, IsErrAnd, MatchOption, drop, slice_get}
use Rattle.ct_values.specs.declared.config.Config.{Config}
use Rattle.ct_frame.specs.declared.event.Event.{Event}
use Rattle.ct_frame.specs.declared.event.Event.TheVariants as event
use Rattle.ct_frame.specs.declared.frame.Frame.{Frame}
use Rattle.ct_call.specs.Rules.{Rules}
use Rattle.ct_rules_cluster.specs.Cluster.{Cluster, Sent, is_delivered, is_true, is_up, is_waiting, pending_from, sent_at, World}
use Rattle.ct_rules_cluster.specs.Steps.{Stepped, fed}
use Rattle.ct_rules_cluster.specs.declared.step.Line.{Line}
use Rattle.ct_rules_cluster.specs.declared.step.PendingCall.{PendingCall}
use Rattle.ct_rules_cluster.specs.declared.step.Step.{Step}
use Rattle.ct_rules_cluster.specs.declared.step.StepFault.{StepFault}
use Rattle.ct_rules_cluster.specs.declared.step.StepFault.TheVariants as fault
use Rattle.ct_core.specs.Core.{Core}
use Rattle.ct_mail.specs.Mail.{numbered}
use Rattle.ct_world.proofs.Numbers.{numbered_so}
use Rattle.ct_world.specs.Feeding.{Takes}
use Rattle.ct_world.specs.World.{Applies, states_of}
use Rattle.ct_world.specs.declared.parts.Parts.{Parts}

-- the same event, and the same lines
pub fed_as : {X : Type 0} (lines : X → List Line) (r : Result X StepFault) (c : Config) (rules : Rules) (n : ℕ) (e f : Event) (own other : List Line) (w : Cluster) (v u : World) → own ≡ other → e ≡ f → Applies lines r (fed c rules n e own w) v u → Applies lines r (fed c rules n f other w) v u
fed_as lines r c rules n e f own other w v u h k a =
    subst (λ (o : List Line). Applies lines r (fed c rules n f o w) v u) h (subst (λ (x : Event). Applies lines r (fed c rules n x own w) v u) k a)

-- the same rule
pub rule_as : {X : Type 0} (lines : X → List Line) (r : Result X StepFault) (rule other : Result Stepped StepFault) (v u : World) → other ≡ rule → Applies lines r rule v u → Applies lines r other v u
rule_as lines r rule other v u h a = subst (λ (x : Result Stepped StepFault). Applies lines r x v u) (sym h) a

-- the message of a number, where it was sent
pub at_frame : (k : ℕ) (w : Cluster) (o : Option (Bor Frame)) (f : Bor Frame) → MatchOption o (numbered k w.sent ≡ None) (λ g. (s : Sent) × (numbered k w.sent ≡ Some s) × (s.frame ≡ g.now)) → o ≡ Some f → (s : Sent) × (sent_at k w ≡ Some s) × (s.frame ≡ f.now)
at_frame k w None f m e = absurd (cc)
at_frame k w (Some g) f m e = (let same : g ≡ f = cc in subst (λ (h : Bor Frame). (s : Sent) × (sent_at k w ≡ Some s) × (s.frame ≡ h.now)) same (m.0, sym (numbered_so k w) ∙ m.1, m.2))

pub no_frame : (k : ℕ) (w : Cluster) (o : Option (Bor Frame)) → MatchOption o (numbered k w.sent ≡ None) (λ g. (s : Sent) × (numbered k w.sent ≡ Some s) × (s.frame ≡ g.now)) → ((f : Bor Frame) → o ≡ Some f → ⊥) → sent_at k w ≡ None
no_frame k w None m h = sym (numbered_so k w) ∙ m
no_frame k w (Some g) m h = absurd (h g refl)

pub not_both : (o : Option Sent) (s : Sent) → o ≡ None → o ≡ Some s → ⊥
not_both o s e f = cc

-- what comes of it is what comes of the message that has the number
same_sent : (s t : Sent) → Some s ≡ Some t → s ≡ t
same_sent s t e = cc

pub arrived_as : {X : Type 0} (lines : X → List Line) (r : Result X StepFault) (c : Config) (rules : Rules) (w : Cluster) (v u : World) (o : Option Sent) (s t : Sent) (f : Frame) → o ≡ Some s → s.frame ≡ f → o ≡ Some t → Applies lines r (fed c rules f.receiver (event.Arrive f) [] w) v u → Applies lines r (fed c rules t.frame.receiver (event.Arrive t.frame) [] w) v u
arrived_as lines r c rules w v u o s t f at same there h =
    subst (λ (g : Frame). Applies lines r (fed c rules g.receiver (event.Arrive g) [] w) v u) (sym same ∙ ap (λ (x : Sent). x.frame) (same_sent s t (sym at ∙ there))) h

-- one that waits, or was delivered, is there
pub none_waits : (so : Option Sent) → so ≡ None → is_waiting so ≡ true → ⊥
unfolding is_waiting
none_waits None e w = cc
none_waits (Some s) e w = cc

pub none_delivered : (so : Option Sent) → so ≡ None → is_delivered so ≡ true → ⊥
unfolding is_delivered
none_delivered None e w = cc
none_delivered (Some s) e w = cc

-- a mark of a node
pub up_as : (bs running : List Bool) (n : ℕ) (b : Bool) (w : Cluster) → bs ≡ running → w.running ≡ running → b ≡ is_true (slice_get bs n) → is_up n w ≡ b
unfolding is_up
up_as bs running n b w e f h = ap (λ (xs : List Bool). is_true (slice_get xs n)) (f ∙ sym e) ∙ sym h

-- one more stays in a word
pub one_fits : (n : ℕ) → n < 2 ^ 62 → Fits w64 (n + 1)
one_fits n l = omega (arith, l)

-- the calls of the nodes so far, those of one, and those of the others
pub calls_more : (before after : List PendingCall) (mine rest all last : List PendingCall) → after ≡ before ++ mine → last ≡ mine ++ rest → before ++ last ≡ all → after ++ rest ≡ all
calls_more before after mine rest all last a b c =
    ap (λ (xs : List PendingCall). xs ++ rest) a ∙ append_assoc before mine rest ∙ ap (λ (xs : List PendingCall). before ++ xs) (sym b) ∙ c

-- an item of a list stands at its place
pub got_item : {X : Type 0} (xs : List X) (i : ℕ) (x : X) → i < length xs → x ≡ get_or xs i x → slice_get xs i ≡ Some x
got_item [] i x l e = absurd (omega (arith, l))
got_item (y ∷ ys) zero x l e = ap Some (sym e)
got_item (y ∷ ys) (suc i) x l e = got_item ys i x (omega (arith, l)) e

none_left : {X : Type 0} (xs : List X) (i : ℕ) → length xs ≤ i → drop i xs ≡ []
none_left [] zero l = refl
none_left [] (suc i) l = refl
none_left (x ∷ xs) zero l = absurd (omega (arith, l))
none_left (x ∷ xs) (suc i) l = none_left xs i (omega (arith, l))

-- the calls of all nodes
pub calls_done : (xs : List Core) (i : ℕ) (calls all : List PendingCall) → length xs ≤ i → calls ++ pending_from i (states_of (drop i xs)) ≡ all → calls ≡ all
unfolding pending_from
calls_done xs i calls all l e = sym (append-nil calls) ∙ ap (λ (ys : List Core). calls ++ pending_from i (states_of ys)) (sym (none_left xs i l)) ∙ e

-- a refusal that is handed on
pub handed_on : {T : Type 0} (lines : T → List Line) (r : Result T StepFault) (f : StepFault) (rule : Result Stepped StepFault) (v u : World) → IsErrAnd r (λ e. e ≡ f) → Applies lines (Err f) rule v u → Applies lines r rule v u
handed_on lines (Ok x) f rule v u h a = absurd h
handed_on lines (Err e) f rule v u h a = subst (λ (g : StepFault). Applies lines (Err g) rule v u) (sym h) a

-- want of memory that is handed on
pub no_memory : {T : Type 0} (lines : T → List Line) (r : Result T StepFault) (rule : Result Stepped StepFault) (v : World) → IsErrAnd r (λ e. e ≡ fault.NoMemory) → Applies lines r rule v v
no_memory lines (Ok x) rule v h = absurd h
no_memory lines (Err e) rule v h = subst (λ (g : StepFault). Applies lines (Err g) rule v v) (sym h) refl

-- the same step
pub taken_as : {T : Type 0} (lines : T → List Line) (r : Result T StepFault) (rules : Rules) (s t : Step) (old new : Parts) → s ≡ t → Takes lines r rules s old new → Takes lines r rules t old new
taken_as lines r rules s t old new e h = subst (λ (x : Step). Takes lines r rules x old new) e h
