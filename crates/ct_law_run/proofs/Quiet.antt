-- All holds after a step in which no node and no line does anything.
use Rattle.std.proofs.Common.{◌≡◌, ℕ, Bool, true, false, List, [], ◌∷◌, ◌++◌, length, Option, Some, None, ⊎_elim, refl, sym, ap, ◌∙◌, subst, arith}
use Rattle.std.specs.Prelude.{map, nat_lt}
use Rattle.std.specs.List.{AllByRecursion}
use Rattle.std.proofs.lemmas.Bool.{cases_Bool}
use Rattle.ct_values.specs.declared.config.Config.{Config}
use Rattle.ct_frame.specs.declared.frame.Frame.{Frame}
use Rattle.ct_call.specs.Rules.{Rules}
use Rattle.ct_merge.proofs.Among.{In}
use Rattle.ct_rules_node.specs.Node.{Node}
use Rattle.ct_rules_node.specs.Admission.{record_in}
use Rattle.ct_rules_cluster.specs.Cluster.{Cluster, Sent, is_up, node_at}
use Rattle.ct_rules_cluster.specs.Faults.{fault_of, is_allowed}
use Rattle.ct_rules_cluster.specs.Steps.{steps, steps_or, applied}
use Rattle.ct_law_generation.specs.Waiting.{Outcome, unchanged, came_of, outcome}
use Rattle.ct_rules_cluster.specs.declared.step.Step.{Step}
use Rattle.ct_rules_cluster.specs.declared.step.StepFault.{StepFault}
use Rattle.ct_register.specs.Lines.{Lines}
use Rattle.ct_register.specs.Legal.{AcceptsLabels}
use Rattle.ct_register.specs.Marks.{MarksStep}
use Rattle.ct_promise.specs.Generation.{record_labels}
use Rattle.ct_promise.specs.Marked.{is_removed}
use Rattle.ct_law_record.specs.World.{Mail}
use Rattle.ct_law_record.proofs.MarkLists.{marks_stay}
use Rattle.ct_law_record.proofs.MarkedRun.{marks_of}
use Rattle.ct_law_generation.specs.Shown.{mail_of, mails}
use Rattle.ct_law_generation.proofs.Pending.{NodeKnown}
use Rattle.ct_law_run.proofs.Ages.{LinesLive}
use Rattle.ct_law_run.proofs.Lives.{ReplySays, MailSays, NodeLives, Lives}
use Rattle.ct_law_run.proofs.Later.{Later, Away, keeps_view}
use Rattle.ct_law_run.proofs.Framing.{mail_later}
use Rattle.ct_law_run.proofs.Apart.{none_fresh, each_then, reply_away, node_away}
use Rattle.ct_law_run.proofs.Begetting.{same_lives}
use Rattle.ct_law_run.proofs.Faces.{After}

-- ---- what was sent, without what became of it

abbrev pub frames : List Sent → List Frame
frames ss = map (λ (s : Sent). s.frame) ss

to_frames : (P : Frame → Type 0) (ss : List Sent) → AllByRecursion (λ (s : Sent). P s.frame) ss → AllByRecursion P (frames ss)
to_frames P [] h = tt
to_frames P (s ∷ ss) h = (h.0, to_frames P ss h.1)

from_frames : (P : Frame → Type 0) (ss : List Sent) → AllByRecursion P (frames ss) → AllByRecursion (λ (s : Sent). P s.frame) ss
from_frames P [] h = tt
from_frames P (s ∷ ss) h = (h.0, from_frames P ss h.1)

-- what holds of all messages holds of them whatever became of them
pub same_frames : (P : Frame → Type 0) (ss ts : List Sent) → frames ts ≡ frames ss → AllByRecursion (λ (s : Sent). P s.frame) ss → AllByRecursion (λ (s : Sent). P s.frame) ts
same_frames P ss ts e h = from_frames P ts (subst (λ (fs : List Frame). AllByRecursion P fs) (sym e) (to_frames P ss h))

mails_in : ℕ → ℕ → List ℕ → List Frame → List Mail
mails_in g db key [] = []
mails_in g db key (f ∷ fs) = mail_of g db key f (record_in f.msg) ++ mails_in g db key fs

by_frames : (g db : ℕ) (key : List ℕ) (ss : List Sent) → mails g db key ss ≡ mails_in g db key (frames ss)
unfolding mails mails_in
by_frames g db key [] = refl
by_frames g db key (s ∷ ss) = ap (λ (ms : List Mail). mail_of g db key s.frame (record_in s.frame.msg) ++ ms) (by_frames g db key ss)

pub same_mails : (g db : ℕ) (key : List ℕ) (ss ts : List Sent) → frames ts ≡ frames ss → mails g db key ts ≡ mails g db key ss
same_mails g db key ss ts e = by_frames g db key ts ∙ ap (mails_in g db key) e ∙ sym (by_frames g db key ss)

-- ---- marks

-- ---- the cluster

-- nodes, messages and calls are the same
pub record Quiet (w v : Cluster) : Type 0 where
  pub nodes : v.nodes ≡ w.nodes
  pub frames : frames v.sent ≡ frames w.sent
  pub calls : v.calls ≡ w.calls

module _ (c : Config) (rules : Rules) (w v : Cluster) (r : Lines) (h : Lives c rules w r) (o : Option ℕ) (quiet : Quiet w v) where
  abbrev s : Lines
  s = record r { holder = o }

  later : Later r h.ages s h.ages
  later = record { last = omega arith; leader = λ g n e. e; named = λ g n e. refl; born = λ g e. e; members = λ g e. refl; tables = λ g e. refl; installed = λ g n e. e; had = λ g n l le e. e; phad = λ g n l le e. e }

  away : (k : ℕ) → Away r h.ages s h.ages k
  away k = record { line = refl; pline = refl; views = λ g db key e. refl }

  pub same_node : (n : ℕ) → node_at n v ≡ node_at n w
  unfolding node_at
  same_node n = ap (λ ns. node_at n (record w { nodes = ns })) quiet.nodes

  pub quiet_lines : LinesLive c rules v s h.ages
  quiet_lines = record {
    first = h.lines.first;
    none = h.lines.none;
    line = λ g e. same_lives c rules w v r s h.ages h.ages g (record { members = refl; installed = refl; records = refl; worlds = refl; ghosts = refl; tables = refl; mail = λ db key. same_mails g db key w.sent v.sent quiet.frames }) (h.lines.line g e);
    silent = λ g db key e. same_mails g db key w.sent v.sent quiet.frames ∙ h.lines.silent g db key e;
    uninstalled = h.lines.uninstalled;
    unowned = h.lines.unowned;
  }

  pub quiet_node : (n : ℕ) → NodeLives c rules h.who w r h.ages n (node_at n w) → NodeLives c rules h.who v s h.ages n (node_at n v)
  quiet_node n l = (let x = node_at n w in
      subst (λ y. NodeLives c rules h.who v s h.ages n y) (sym (same_node n))
      (node_away c rules h.who h.who w v r h.ages s h.ages n x later (away n) (none_fresh c rules r s h.ages n x (λ g. refl))
      (subst (λ (calls : ℕ). NodeKnown h.who calls n x) (sym quiet.calls) l.known)
      (λ f was. subst (λ (fs : List Frame). In f fs) (sym quiet.frames) was)
      (λ some. (l.named some).0)
      (same_frames (λ (f : Frame). ReplySays s h.ages n x f f.msg) w.sent v.sent quiet.frames
      (each_then (λ q. ReplySays r h.ages n x q.frame q.frame.msg) (λ q. ReplySays s h.ages n x q.frame q.frame.msg) (λ q p. reply_away c rules h.who h.who w v r h.ages s h.ages n x later (away n) q.frame q.frame.msg p) w.sent l.replies))
      l))

  pub quiet_mail : AllByRecursion (λ (q : Sent). MailSays c s h.ages q.frame) v.sent
  quiet_mail = same_frames (λ (f : Frame). MailSays c s h.ages f) w.sent v.sent quiet.frames (each_then (λ q. MailSays c r h.ages q.frame) (λ q. MailSays c s h.ages q.frame) (λ q m. mail_later c r h.ages s h.ages q.frame later m) w.sent h.mail)

  -- it lives on
  unfoldable pub quiet_lives : v.ticket ≡ w.ticket → v.holder ≡ o → ((n : ℕ) → is_up n v ≡ true → nat_lt n c.nodes ≡ true) → Lives c rules v s
  quiet_lives ticket holder there = record {
    who = h.who;
    ages = h.ages;
    formed = record { owners = h.formed.owners; order = h.formed.order; databases = h.formed.databases };
    last = h.last ∙ sym ticket;
    holder = sym holder;
    size = ap (λ (ns : List Node). length ns) quiet.nodes ∙ h.size;
    up = there;
    lines = quiet_lines;
    nodes = λ n lt. quiet_node n (h.nodes n lt);
    outside = h.outside;
    mail = quiet_mail;
    bare = h.bare;
  }

module _ (c : Config) (rules : Rules) (w : Cluster) (r : Lines) (h : Lives c rules w r) (run : Outcome) (o : Option ℕ) (quiet : Quiet w run.cluster) where
  -- all holds after it
  pub quiet_after : run.cluster.ticket ≡ w.ticket → run.cluster.holder ≡ o → ((n : ℕ) → is_up n run.cluster ≡ true → nat_lt n c.nodes ≡ true) → AcceptsLabels c rules r (record_labels c run.trace) (record r { holder = o }) →
      ((g db : ℕ) (key : List ℕ) → is_removed r g db key run.trace ≡ false) → After c rules r h.ages run
  unfolding quiet_lives
  quiet_after ticket holder there told kept = record {
    lines = record r { holder = o };
    accepts = told;
    lives = quiet_lives c rules w run.cluster r h o quiet ticket holder there;
    marks = λ g e db key. subst (λ (b : Bool). MarksStep b (marks_of (h.ages.ghosts g db key)) (marks_of (h.ages.ghosts g db key))) (sym (kept g db key)) (marks_stay _);
    rest = λ k g db key born why. keeps_view _ _ refl;
  }

-- so it is where nothing happened
pub idle_after : (c : Config) (rules : Rules) (w : Cluster) (r : Lines) (h : Lives c rules w r) → After c rules r h.ages (unchanged w)
unfolding unchanged
idle_after c rules w r h = quiet_after c rules w r h (unchanged w) r.holder (record { nodes = refl; frames = refl; calls = refl }) refl (sym h.holder) h.up refl (λ g db key. refl)

-- and where a step is refused, so that only one that is taken is looked at
pub after_taken : (c : Config) (rules : Rules) (w : Cluster) (r : Lines) (h : Lives c rules w r) (s : Step) → (is_allowed s ≡ true → fault_of c w s ≡ None → After c rules r h.ages (came_of w s (steps c rules w s))) →
    After c rules r h.ages (outcome c rules w s)
unfolding outcome applied steps_or came_of
after_taken c rules w r h s goes = ⊎_elim (λ (t : is_allowed s ≡ true). rw t (either (fault_of c w s) refl t)) (λ (f : is_allowed s ≡ false). rw f (idle_after c rules w r h)) (cases_Bool (is_allowed s))
  where
    either : (f : Option StepFault) → fault_of c w s ≡ f → is_allowed s ≡ true → After c rules r h.ages (came_of w s (steps_or c rules w s (fault_of c w s)))
    either (Some f) e t = subst (λ (x : Option StepFault). After c rules r h.ages (came_of w s (steps_or c rules w s x))) (sym e) (idle_after c rules w r h)
    either None e t = subst (λ (x : Option StepFault). After c rules r h.ages (came_of w s (steps_or c rules w s x))) (sym e) (goes t e)
