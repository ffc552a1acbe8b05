-- In every step of a cluster the commits that wait stay under their locks, and the calls that wait stay known.
use Rattle.std.proofs.Common.{◌≡◌, ℕ, zero, suc, ◌+◌, false, [], Option, Some, None, refl}
use Rattle.std.specs.Prelude.{slice_get, replicate, Ok}
use Rattle.ct_values.specs.declared.client.ClientOp.{ClientOp}
use Rattle.ct_values.specs.declared.config.Config.{Config}
use Rattle.ct_frame.specs.declared.event.Event.{Event}
use Rattle.ct_frame.specs.declared.event.Event.TheVariants as event
use Rattle.ct_call.specs.Rules.{Rules}
use Rattle.ct_rules_node.specs.Node.{Node, untouched, or_untouched}
use Rattle.ct_rules_node.specs.Turn.{begins}
use Rattle.ct_rules_node.specs.Steps.{happens}
use Rattle.ct_rules_cluster.specs.Cluster as cluster
use Rattle.ct_rules_cluster.specs.Cluster.{Cluster, node_at, or_absent, absent, everyone}
use Rattle.ct_rules_cluster.specs.Faults.{fault_of}
use Rattle.ct_rules_cluster.specs.Steps.{Stepped, fed, steps, steps_or, applied}
use Rattle.ct_rules_cluster.specs.declared.step.Step.{Step}
use Rattle.ct_rules_cluster.specs.declared.step.Step.TheVariants as step
use Rattle.ct_rules_cluster.specs.declared.step.StepFault.{StepFault}
use Rattle.ct_law_plain.proofs.Locked.{waits_in, CommitLocked, NoneWaits, locked_none}
use Rattle.ct_law_plain.proofs.Whole.{happens_locked, opening_locked, restarted_locked}
use Rattle.ct_law_generation.proofs.Pending.{Callers}
use Rattle.ct_law_acts.proofs.Waiting.{EachCall}
use Rattle.ct_law_acts.proofs.Whole.{IsNewCall, happens_calls, opening_calls, stopped_calls}
use Rattle.ct_law_acts.proofs.Known.{Waits, Commits, NodeCalls}
use Rattle.ct_law_acts.proofs.Calling.{called, more_calls, new_known}
use Rattle.ct_law_acts.proofs.CallerSteps.{AllNodes, is_call, is_client, fed_all, step_keeps}

-- a client's call that is taken comes to its node
called_or : (c : Config) (rules : Rules) (w : Cluster) (n : ℕ) (asked : ClientOp) (f : Option StepFault) (r : Stepped) → steps_or c rules w (step.Client n asked) f ≡ Ok r →
    fed c rules n (event.Client (w.calls + 1) asked) [] (record w { calls = w.calls + 1 }) ≡ Ok r
unfolding steps_or steps
called_or c rules w n asked (Some f) r is = absurd (cc)
called_or c rules w n asked None r is = is

pub call_taken : (c : Config) (rules : Rules) (w : Cluster) (n : ℕ) (asked : ClientOp) (r : Stepped) → applied c rules w (step.Client n asked) ≡ Ok r → fed c rules n (event.Client (w.calls + 1) asked) [] (record w { calls = w.calls + 1 }) ≡ Ok r
unfolding applied
call_taken c rules w n asked r is = called_or c rules w n asked (fault_of c w (step.Client n asked)) r is

-- ---- commits under their locks

abbrev pub AllLocked : Config → Cluster → Type 0
AllLocked c w = AllNodes (λ _ x. CommitLocked c x) w

other_locked : (c : Config) (rules : Rules) (w : Cluster) (s : Step) (r : Stepped) → is_client s ≡ false → AllLocked c w → applied c rules w s ≡ Ok r → AllLocked c r.cluster
other_locked c rules w s r other all is = step_keeps (λ _ x. CommitLocked c x) c rules (λ n x e _ k. happens_locked c rules n (begins x) e k) (λ n x. restarted_locked c x) w s r other all is

pub step_locked : (c : Config) (rules : Rules) (w : Cluster) (s : Step) (r : Stepped) → AllLocked c w → applied c rules w s ≡ Ok r → AllLocked c r.cluster
unfolding is_client node_at
step_locked c rules w (step.Client n asked) r all is =
    fed_all (λ _ x. CommitLocked c x) c rules n (event.Client (w.calls + 1) asked) [] (record w { calls = w.calls + 1 }) r (happens_locked c rules n (begins (node_at n w)) (event.Client (w.calls + 1) asked) (all n)) all (call_taken c rules w n asked r is)
step_locked c rules w s r all is = other_locked c rules w s r refl all is

-- ---- calls that are known

abbrev pub AllKnown : Config → Callers → ℕ → Cluster → Type 0
AllKnown c who calls w = AllNodes (λ n x. NodeCalls c who calls n x) w

-- a client's call is known after its step, and so are those before it
pub call_known : (c : Config) (rules : Rules) (who : Callers) (w : Cluster) (n : ℕ) (asked : ClientOp) (r : Stepped) → AllKnown c who w.calls w → applied c rules w (step.Client n asked) ≡ Ok r →
    AllKnown c (called (w.calls + 1) (n, asked) who) (w.calls + 1) r.cluster
unfolding node_at IsNewCall
call_known c rules who w n asked r all is =
    let before : AllKnown c (called (w.calls + 1) (n, asked) who) (w.calls + 1) w = (λ m. more_calls c who w.calls m (n, asked) (node_at m w) (all m)) in
    fed_all (λ m x. NodeCalls c (called (w.calls + 1) (n, asked) who) (w.calls + 1) m x) c rules n (event.Client (w.calls + 1) asked) [] (record w { calls = w.calls + 1 }) r
    (happens_calls (Waits c (called (w.calls + 1) (n, asked) who) (w.calls + 1) n) (Commits (called (w.calls + 1) (n, asked) who) (w.calls + 1) n) c rules n (begins (node_at n w)) (event.Client (w.calls + 1) asked)
    (new_known c rules who w.calls n asked (node_at n w)) (before n))
    before (call_taken c rules w n asked r is)

no_call : (c : Config) (rules : Rules) (who : Callers) (calls n : ℕ) (x : Node) (e : Event) → is_call e ≡ false → IsNewCall (Waits c who calls n) (Commits who calls n) c rules x e
unfolding is_call IsNewCall
no_call c rules who calls n x (event.Client call asked) e = absurd (cc)
no_call c rules who calls n x _ e = tt

kept : (c : Config) (rules : Rules) (who : Callers) (calls n : ℕ) (x : Node) (e : Event) → is_call e ≡ false → NodeCalls c who calls n x → NodeCalls c who calls n (happens c rules n (begins x) e).node
kept c rules who calls n x e other h = happens_calls (Waits c who calls n) (Commits who calls n) c rules n (begins x) e (no_call c rules who calls n x e other) h

-- every other step keeps those that are known
pub step_known : (c : Config) (rules : Rules) (who : Callers) (calls : ℕ) (w : Cluster) (s : Step) (r : Stepped) → is_client s ≡ false → AllKnown c who calls w → applied c rules w s ≡ Ok r → AllKnown c who calls r.cluster
step_known c rules who calls w s r other all is = step_keeps (λ n x. NodeCalls c who calls n x) c rules (kept c rules who calls) (λ n x. stopped_calls (Waits c who calls n) (Commits who calls n) c x) w s r other all is

-- ---- at the beginning

replicated : (K : ℕ → Node → Type 0) (count : ℕ) (x : Node) → ((n : ℕ) → K n x) → ((n : ℕ) → K n absent) → (n : ℕ) → K n (or_absent (slice_get (replicate count x) n))
unfolding or_absent
replicated K zero x a b n = b n
replicated K (suc k) x a b zero = a zero
replicated K (suc k) x a b (suc n) = replicated (λ j. K (suc j)) k x (λ j. a (suc j)) (λ j. b (suc j)) n

nothing_waits : NoneWaits []
unfolding waits_in or_untouched untouched
nothing_waits k w = absurd (cc)

absent_locked : (c : Config) → CommitLocked c absent
unfolding absent
absent_locked c = locked_none c _ [] nothing_waits

pub opening_locked_all : (c : Config) → AllLocked c (cluster.opening c)
unfolding cluster.opening node_at
opening_locked_all c = replicated (λ _ x. CommitLocked c x) c.nodes _ (λ n. opening_locked c (everyone c)) (λ n. absent_locked c)

absent_known : (c : Config) (who : Callers) (calls n : ℕ) → NodeCalls c who calls n absent
unfolding absent EachCall
absent_known c who calls n = tt

pub opening_known : (c : Config) (who : Callers) (calls : ℕ) → AllKnown c who calls (cluster.opening c)
unfolding cluster.opening node_at
opening_known c who calls = replicated (λ n x. NodeCalls c who calls n x) c.nodes _ (λ n. opening_calls (Waits c who calls n) (Commits who calls n) c (everyone c)) (λ n. absent_known c who calls n)
