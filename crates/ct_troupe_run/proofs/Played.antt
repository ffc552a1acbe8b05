-- What a cluster that plays the plan of a seed writes.
use Rattle.std.proofs.Common.{◌≡◌, ℕ, Bool, List, ◌++◌, Option, refl, ap, ap₂, subst, ◌∙◌, inl, inr, arith}
use Rattle.ct_call.specs.Rules.{Rules}
use Rattle.ct_script.specs.declared.plan.Plan.{Plan}
use Rattle.ct_journal.specs.declared.journal.Journal.{Journal}
use Rattle.ct_schedule_text.specs.Schedule.{summary_text}
use Rattle.ct_script.specs.Sound.{IsSound, script_of}
use Rattle.ct_troupe_run.specs.Running.{HasRunCause, IsScheduleText, Runs, Writes, plan_of, summary_of}
use Rattle.ct_troupe_run.specs.Text.{IsRunText}
use Rattle.ct_troupe_run.specs.declared.running.End.{End}
use Rattle.ct_troupe_run.specs.declared.running.End.TheVariants as end
use Rattle.ct_troupe_run.specs.declared.running.Wanted.{Wanted}

-- a plan is as sound where its nodes talk over sockets, or do not
pub sound_over : (p : Plan) (net : Bool) → IsSound p → IsSound (record p { net = net })
unfolding script_of
sound_over p net s = record { config = s.config; scripts = s.scripts; short = s.short; told = s.told; one_leader = s.one_leader }

-- the text of the run, and then what is counted, is the text of a schedule
schedule_by : (rules : Rules) (x : Wanted) (js : List Journal) (lines text : List ℕ) (sent : ℕ) → IsRunText rules (plan_of x) js lines sent → text ≡ lines ++ summary_text (plan_of x).config.nodes (summary_of x js) sent
    → IsScheduleText rules x js text
schedule_by rules x js lines text sent r is = record {
  played = r.played;
  steps = r.steps;
  schedule = r.schedule;
  promised = r.promised;
  told = is ∙ ap₂ (λ (l : List ℕ) (k : ℕ). l ++ summary_text (plan_of x).config.nodes (summary_of x js) k) r.told r.sent;
}

pub schedule_told : (rules : Rules) (x : Wanted) (p : Plan) (js : List Journal) (lines text : List ℕ) (sent : ℕ) → p ≡ plan_of x → IsRunText rules p js lines sent → text ≡ lines ++ summary_text p.config.nodes (summary_of x js) sent
    → IsScheduleText rules x js text
schedule_told rules x p js lines text sent e r is =
    schedule_by rules x js lines text sent (subst (λ (q : Plan). IsRunText rules q js lines sent) e r) (is ∙ ap (λ (q : Plan). lines ++ summary_text q.config.nodes (summary_of x js) sent) e)

-- ---- ends

pub unwritten : (rules : Rules) (x : Wanted) (js : List Journal) (now : Option (List ℕ)) → Runs rules x end.NoMemory js now now
unwritten rules x js now = inl refl

written_of : (rules : Rules) (x : Wanted) (e : End) (js : List Journal) (text : List ℕ) (before now : Option (List ℕ)) → IsScheduleText rules x js text → Writes e text before now → Runs rules x e js before now
written_of rules x end.Done js text before now t w = (text, t, w)
written_of rules x end.LinkFault js text before now t w = absurd w
written_of rules x end.WriteFault js text before now t w = (text, t, w)
written_of rules x end.NoMemory js text before now t w = inr (text, t, w)

-- a text was written, or a front of it
pub written : (rules : Rules) (x : Wanted) (e : End) (lent js : List Journal) (text : List ℕ) (before now : Option (List ℕ)) → lent ≡ js → IsScheduleText rules x lent text → Writes e text before now → Runs rules x e js before now
written rules x e lent js text before now same t w = written_of rules x e js text before now (subst (λ (l : List Journal). IsScheduleText rules x l text) same t) w

pub no_run_cause : (played written : ℕ) → HasRunCause end.NoMemory played played written written
no_run_cause played written = record { link_later = omega arith; write_later = omega arith; link = λ e. absurd (cc); write = λ e. absurd (cc) }
