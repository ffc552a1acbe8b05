-- What the leader of a round sends again.
use Rattle.std.proofs.Common.{◌≡◌, ◌∙◌, ℕ, Bool, true, false, cond, List, [], ◌∷◌, ◌++◌, map, append-nil, Option, None, Some, refl, sym, ap}
use Rattle.ct_frame.specs.declared.event.Out.{Out}
use Rattle.ct_frame.specs.declared.frame.Msg.TheVariants as msg
use Rattle.ct_lead.specs.Runs.{led_generation}
use Rattle.ct_node_plan.specs.Posts.{does_all, release_to, sent}
use Rattle.ct_node_plan.proofs.Sending.{does_both, does_nothing, posts_all_does, releases_does}
use Rattle.ct_node_plan_runs.specs.Lead.{question_again, run_again}
use Rattle.ct_rules_node.specs.Node.{Lead, Nothing, Freezes, Pulls, Installs, Completed, Takeover, Run, NoRun, Releasing, Taking, is_present_in}
use Rattle.ct_rules_node.specs.Retries.{retry_lead, retry_run}
use Rattle.ct_rules_node.specs.Rounds.{push_of}
use Rattle.ct_rules_node.specs.Takeovers.{assigned_in}
use Rattle.ct_rules_node.specs.Turn.{Turn}

no_run : (b : Bool) (xs : List Out) → xs ≡ xs ++ cond b [] []
no_run true xs = sym (append-nil xs)
no_run false xs = sym (append-nil xs)

run_does : (me g : ℕ) (members : List ℕ) (x : Takeover) (run : Run) (t : Turn) → retry_run me g members (record x { run = run }) t run ≡ does_all (run_again me (Completed g members (record x { run = run }))) t
unfolding retry_run
run_does me g members x NoRun t = does_nothing t
run_does me g members x (Releasing placement missing) t = releases_does g me x.number placement missing t
run_does me g members x (Taking placement) t = posts_all_does g me members (msg.Take x.number (assigned_in placement)) t

-- first of the round, and then of its run
pub lead_does : (me : ℕ) (t : Turn) (l : Lead) → retry_lead me t l ≡ does_all (question_again me l ++ cond (is_present_in (led_generation l) t.node) (run_again me l) []) t
unfolding retry_lead
lead_does me t Nothing = does_nothing t ∙ ap (λ (xs : List Out). does_all xs t) (no_run (is_present_in 0 t.node) [])
lead_does me t (Freezes g members missing) =
    posts_all_does g me missing (msg.Freeze members) t ∙ ap (λ (xs : List Out). does_all xs t) (no_run (is_present_in g t.node) (map (sent g me (msg.Freeze members)) missing))
lead_does me t (Pulls g members missing x) =
    posts_all_does g me missing msg.Pull t ∙ ap (λ (xs : List Out). does_all xs t) (no_run (is_present_in g t.node) (map (sent g me msg.Pull) missing))
lead_does me t (Installs g members missing b) =
    posts_all_does g me missing (push_of b) t ∙ ap (λ (xs : List Out). does_all xs t) (no_run (is_present_in g t.node) (map (sent g me (push_of b)) missing))
lead_does me t (Completed g members x) =
    ap (λ (u : Turn). cond (is_present_in g t.node) (retry_run me g members x u x.run) u) (posts_all_does g me members msg.Thaw t) ∙ by (is_present_in g t.node)
  where
    thaws : List Out
    thaws = map (sent g me msg.Thaw) members

    by : (b : Bool) → cond b (retry_run me g members x (does_all thaws t) x.run) (does_all thaws t) ≡ does_all (thaws ++ cond b (run_again me (Completed g members x)) []) t
    by true = run_does me g members x x.run (does_all thaws t) ∙ does_both thaws (run_again me (Completed g members x)) t
    by false = ap (λ (xs : List Out). does_all xs t) (sym (append-nil thaws))
