-- What a node does beside the records of a generation that it has installed: no record is touched, and nothing is told of one.
use Rattle.std.proofs.Common.{◌≡◌, ℕ, ◌≤◌, Bool, true, false, List, [], ◌∷◌, ◌++◌, append_assoc, append-nil, refl, sym, ap, ◌∙◌, arith, Option, None, cond, subst}
use Rattle.std.specs.Prelude.{slice_get}
use Rattle.std.specs.List.{AllByRecursion}
use Rattle.ct_values.specs.declared.address.Address.{Address}
use Rattle.ct_frame.specs.declared.event.Note.TheVariants as note
use Rattle.ct_frame.specs.declared.event.Out.{Out}
use Rattle.ct_frame.specs.declared.event.Out.TheVariants as out
use Rattle.ct_frame.specs.declared.frame.Assigned.{Assigned}
use Rattle.ct_frame.specs.declared.frame.Msg.{Msg}
use Rattle.ct_frame.specs.declared.frame.Msg.TheVariants as msg
use Rattle.ct_lcp2.proofs.Choices.{all_append}
use Rattle.ct_rules_node.specs.Node.{Node, Lead, is_present_in, state_at, db_at, or_nothing, or_untouched}
use Rattle.ct_rules_node.specs.Turn.{Turn, does, with_node, with_lead, makes, notes, posts, posts_all}
use Rattle.ct_rules_node.specs.Admission.{record_in}
use Rattle.ct_rules_node.specs.Rounds.{releases}
use Rattle.ct_rules_node.specs.Takeovers.{held_with, takes, share, send_releases}
use Rattle.ct_promise.specs.Born.{has_pushed}
use Rattle.ct_promise.specs.Generation.{is_note_of_records, speaks_of_records, record_labels}
use Rattle.ct_rules_cluster.specs.Labels.{Label, Noted}
use Rattle.ct_rules_cluster.specs.Steps.{frames_of}
use Rattle.ct_rules_cluster.specs.Traces.{sent_label}
use Rattle.ct_law_generation.specs.Waiting.{answered}
use Rattle.ct_rules_cluster.specs.declared.step.PendingCall.{PendingCall}
use Rattle.ct_law_record.specs.World.{Mail}
use Rattle.ct_frame.specs.declared.frame.Frame.{Frame}
use Rattle.ct_law_generation.specs.Shown.{view, mail_of, mails, labels_of}
use Rattle.ct_values.specs.declared.config.Config.{Config}
use Rattle.ct_store.specs.Map.{look}

-- ---- what is beside the records

-- a message of node me that speaks of no record, in generation g or an older one; or a note of an address
unfoldable pub Is_beside : ℕ → ℕ → Out → Type 0
Is_beside g me (out.Send f) = (record_in f.msg ≡ None) × (f.sender ≡ me) × (f.generation ≤ g)
Is_beside g me (out.Answer call a) = ⊥
Is_beside g me (out.Note x) = is_note_of_records x ≡ false

-- all of these are
abbrev pub AllBeside : ℕ → ℕ → List Out → Type 0
AllBeside g me xs = AllByRecursion (Is_beside g me) xs

-- From one middle of a step of node me to another no record of generation g is touched, nor the node's place in it. A lead
-- whose push was sent stays one.
pub record Beside (g me : ℕ) (t u : Turn) : Type 0 where
  pub dbs : u.node.dbs ≡ t.node.dbs
  pub next : u.node.next ≡ t.node.next
  pub generation : u.node.generation ≡ t.node.generation
  pub members : u.node.members ≡ t.node.members
  pub leader : u.node.leader ≡ t.node.leader
  pub phase : u.node.phase ≡ t.node.phase
  pub promise : u.node.promise ≡ t.node.promise
  pub pbase : u.node.pbase ≡ t.node.pbase
  pub lead : has_pushed g t.node.lead ≡ true → has_pushed g u.node.lead ≡ true
  pub outs : (more : List Out) × (u.outs ≡ t.outs ++ more) × AllBeside g me more

-- The node is present in generation g, which is the last one whose freeze it followed, and leads no round whose push is still to
-- come.
pub record Settled (g : ℕ) (n : Node) : Type 0 where
  pub present : is_present_in g n ≡ true
  pub promise : n.promise ≡ g
  pub lead : has_pushed g n.lead ≡ true

-- nothing happens
pub beside_none : (g me : ℕ) (t : Turn) → Beside g me t t
beside_none g me t = record { dbs = refl; next = refl; generation = refl; members = refl; leader = refl; phase = refl; promise = refl; pbase = refl; lead = λ h. h; outs = ([], sym (append-nil t.outs), tt) }

-- one after the other
pub beside_then : (g me : ℕ) (t u v : Turn) → Beside g me t u → Beside g me u v → Beside g me t v
beside_then g me t u v a b = record {
  dbs = b.dbs ∙ a.dbs;
  next = b.next ∙ a.next;
  generation = b.generation ∙ a.generation;
  members = b.members ∙ a.members;
  leader = b.leader ∙ a.leader;
  phase = b.phase ∙ a.phase;
  promise = b.promise ∙ a.promise;
  pbase = b.pbase ∙ a.pbase;
  lead = λ h. b.lead (a.lead h);
  outs = (
    a.outs.0 ++ b.outs.0,
    b.outs.1 ∙ ap (λ (l : List Out). l ++ b.outs.0) a.outs.1 ∙ append_assoc t.outs a.outs.0 b.outs.0,
    all_append (Is_beside g me) a.outs.0 b.outs.0 a.outs.2 b.outs.2,
  );
}

-- ---- the parts of a step

-- one thing more that the node does
pub beside_does : (g me : ℕ) (x : Out) (t : Turn) → Is_beside g me x → Beside g me t (does x t)
unfolding does
beside_does g me x t h = record { dbs = refl; next = refl; generation = refl; members = refl; leader = refl; phase = refl; promise = refl; pbase = refl; lead = λ k. k; outs = (x ∷ [], refl, (h, tt)) }

-- a number is made
pub beside_makes : (g me number : ℕ) (t : Turn) → Beside g me t (makes number t)
unfolding makes
beside_makes g me number t = record { dbs = refl; next = refl; generation = refl; members = refl; leader = refl; phase = refl; promise = refl; pbase = refl; lead = λ h. h; outs = ([], sym (append-nil t.outs), tt) }

-- the node leads this from now on
pub beside_leads : (g me : ℕ) (l : Lead) (t : Turn) → has_pushed g l ≡ true → Beside g me t (with_lead l t)
unfolding with_lead
beside_leads g me l t h = record { dbs = refl; next = refl; generation = refl; members = refl; leader = refl; phase = refl; promise = refl; pbase = refl; lead = λ _. h; outs = ([], sym (append-nil t.outs), tt) }

-- the node knows this of addresses from now on
pub beside_places : (g me : ℕ) (placement : List Assigned) (held : List Address) (run : ℕ) (t : Turn) → Beside g me t (with_node (record t.node { placement = placement; held = held; last_run = run }) t)
unfolding with_node
beside_places g me placement held run t = record { dbs = refl; next = refl; generation = refl; members = refl; leader = refl; phase = refl; promise = refl; pbase = refl; lead = λ h. h; outs = ([], sym (append-nil t.outs), tt) }

-- a message that speaks of no record is sent
pub beside_posts : (g me h receiver : ℕ) (m : Msg) (t : Turn) → h ≤ g → record_in m ≡ None → Beside g me t (posts h me receiver m t)
unfolding posts Is_beside
beside_posts g me h receiver m t l e = beside_does g me (out.Send (record { generation = h; sender = me; receiver = receiver; msg = m })) t (e, refl, l)

-- and so it is to several nodes
pub beside_posts_all : (g me h : ℕ) (ns : List ℕ) (m : Msg) (t : Turn) → h ≤ g → record_in m ≡ None → Beside g me t (posts_all h me ns m t)
unfolding posts_all
beside_posts_all g me h [] m t l e = beside_none g me t
beside_posts_all g me h (n ∷ ns) m t l e =
    beside_then g me t (posts h me n m t) (posts_all h me ns m (posts h me n m t)) (beside_posts g me h n m t l e) (beside_posts_all g me h ns m (posts h me n m t) l e)

-- addresses are released
pub beside_releases : (g me : ℕ) (addresses : List Address) (t : Turn) → Beside g me t (releases addresses t)
unfolding releases notes Is_beside is_note_of_records
beside_releases g me [] t = beside_none g me t
beside_releases g me (a ∷ rest) t = let u = notes (note.Released a) t in
    beside_then g me t u (releases rest u) (beside_does g me (out.Note (note.Released a)) t refl) (beside_releases g me rest u)

-- addresses are taken
pub beside_takes : (g me : ℕ) (addresses : List Address) (t : Turn) → Beside g me t (takes addresses t)
unfolding takes notes Is_beside is_note_of_records
beside_takes g me [] t = beside_none g me t
beside_takes g me (a ∷ rest) t =
    let held = with_node (record t.node { held = held_with a t.node.held }) t in
    let u = notes (note.Took a) held in
    beside_then g me t u (takes rest u)
    (beside_then g me t held u (beside_places g me t.node.placement (held_with a t.node.held) t.node.last_run t) (beside_does g me (out.Note (note.Took a)) held refl))
    (beside_takes g me rest u)

-- the releases of a run are sent
pub beside_send_releases : (g me number : ℕ) (placement : List Assigned) (ns : List ℕ) (t : Turn) → Beside g me t (send_releases me g number placement ns t)
unfolding send_releases record_in
beside_send_releases g me number placement [] t = beside_none g me t
beside_send_releases g me number placement (n ∷ ns) t = let u = posts g me n (msg.Release number (share n placement)) t in
    beside_then g me t u (send_releases me g number placement ns u) (beside_posts g me g n (msg.Release number (share n placement)) t (omega arith) refl) (beside_send_releases g me number placement ns u)

-- ---- what is seen, sent and told of records

-- no record sees it
pub beside_views : (g me db : ℕ) (key : List ℕ) (t u : Turn) → Beside g me t u → view db key u.node ≡ view db key t.node
unfolding state_at db_at
beside_views g me db key t u b = λ i. record { state = or_nothing (look key (or_untouched (slice_get (b.dbs i) db)).records); next = b.next i; floor = (or_untouched (slice_get (b.dbs i) db)).floor }

-- what is sent is no mail of a record
pub beside_unmailed : (g me h db : ℕ) (key : List ℕ) (more : List Out) → AllBeside g me more → mails h db key (frames_of more) ≡ []
unfolding Is_beside mails mail_of frames_of
beside_unmailed g me h db key [] b = refl
beside_unmailed g me h db key (out.Send f ∷ xs) b = ap (λ (r : Option (ℕ × List ℕ)). mail_of h db key f r ++ mails h db key (frames_of xs)) b.0.0 ∙ beside_unmailed g me h db key xs b.1
beside_unmailed g me h db key (out.Answer call a ∷ xs) b = absurd b.0
beside_unmailed g me h db key (out.Note x ∷ xs) b = beside_unmailed g me h db key xs b.1

-- a push or a take that is sent tells nothing of records
sent_untold : (c : Config) (n g : ℕ) (m : Msg) (rest : List Label) → record_labels c (sent_label n g m ++ rest) ≡ record_labels c rest
unfolding sent_label speaks_of_records
sent_untold c n g (msg.Push members table ptables assigned) rest = refl
sent_untold c n g (msg.Take number assigned) rest = refl
sent_untold c n g _ rest = refl

-- what is told is not of records
pub beside_untold : (c : Config) (g me n : ℕ) (pend : List PendingCall) (more : List Out) → AllBeside g me more → record_labels c (labels_of n pend more) ≡ []
unfolding Is_beside labels_of speaks_of_records
beside_untold c g me n pend [] b = refl
beside_untold c g me n pend (out.Send f ∷ xs) b = sent_untold c f.sender f.generation f.msg (labels_of n pend xs) ∙ beside_untold c g me n pend xs b.1
beside_untold c g me n pend (out.Answer call a ∷ xs) b = absurd b.0
beside_untold c g me n pend (out.Note x ∷ xs) b = ap (λ (s : Bool). cond s (Noted n x ∷ record_labels c (labels_of n pend xs)) (record_labels c (labels_of n pend xs))) b.0 ∙ beside_untold c g me n pend xs b.1

-- ---- so it is of the whole step

-- what each message keeps that speaks of no record and is of no newer generation, all messages keep
pub beside_keeps : (P : Frame → Type 0) (g me : ℕ) (t u : Turn) → Beside g me t u → ((f : Frame) → record_in f.msg ≡ None → f.sender ≡ me → f.generation ≤ g → P f) →
    AllByRecursion (λ s. P s.frame) (frames_of t.outs) → AllByRecursion (λ s. P s.frame) (frames_of u.outs)
unfolding Is_beside frames_of
beside_keeps P g me t u b p h = subst (λ (l : List Out). AllByRecursion (λ s. P s.frame) (frames_of l)) (sym b.outs.1) (after t.outs h)
  where
    new : (xs : List Out) → AllBeside g me xs → AllByRecursion (λ s. P s.frame) (frames_of xs)
    new [] k = tt
    new (out.Send f ∷ xs) k = (p f k.0.0 k.0.1 k.0.2, new xs k.1)
    new (out.Answer call a ∷ xs) k = absurd k.0
    new (out.Note x ∷ xs) k = new xs k.1

    after : (xs : List Out) → AllByRecursion (λ s. P s.frame) (frames_of xs) → AllByRecursion (λ s. P s.frame) (frames_of (xs ++ b.outs.0))
    after [] k = new b.outs.0 b.outs.2
    after (out.Send f ∷ xs) k = (k.0, after xs k.1)
    after (out.Answer call a ∷ xs) k = after xs k
    after (out.Note x ∷ xs) k = after xs k

mails_after : (g me h db : ℕ) (key : List ℕ) (xs more : List Out) → AllBeside g me more → mails h db key (frames_of (xs ++ more)) ≡ mails h db key (frames_of xs)
unfolding mails frames_of
mails_after g me h db key [] more b = beside_unmailed g me h db key more b
mails_after g me h db key (out.Send f ∷ xs) more b = ap (λ (l : List Mail). mail_of h db key f (record_in f.msg) ++ l) (mails_after g me h db key xs more b)
mails_after g me h db key (out.Answer call a ∷ xs) more b = mails_after g me h db key xs more b
mails_after g me h db key (out.Note x ∷ xs) more b = mails_after g me h db key xs more b

-- a record gets no mail
pub beside_mail : (g me h db : ℕ) (key : List ℕ) (t u : Turn) → Beside g me t u → mails h db key (frames_of u.outs) ≡ mails h db key (frames_of t.outs)
beside_mail g me h db key t u b = ap (λ (l : List Out). mails h db key (frames_of l)) b.outs.1 ∙ mails_after g me h db key t.outs b.outs.0 b.outs.2

-- lists of which the same labels are of records, after the same labels
same_after : (c : Config) (first xs ys : List Label) → record_labels c xs ≡ record_labels c ys → record_labels c (first ++ xs) ≡ record_labels c (first ++ ys)
same_after c [] xs ys e = e
same_after c (x ∷ first) xs ys e = ap (λ (l : List Label). cond (speaks_of_records c x) (x ∷ l) l) (same_after c first xs ys e)

labels_after : (c : Config) (g me n : ℕ) (pend : List PendingCall) (xs more : List Out) → AllBeside g me more → record_labels c (labels_of n pend (xs ++ more)) ≡ record_labels c (labels_of n pend xs)
unfolding labels_of
labels_after c g me n pend [] more b = beside_untold c g me n pend more b
labels_after c g me n pend (out.Send f ∷ xs) more b = same_after c (sent_label f.sender f.generation f.msg) (labels_of n pend (xs ++ more)) (labels_of n pend xs) (labels_after c g me n pend xs more b)
labels_after c g me n pend (out.Answer call a ∷ xs) more b = same_after c (answered call a pend) (labels_of n pend (xs ++ more)) (labels_of n pend xs) (labels_after c g me n pend xs more b)
labels_after c g me n pend (out.Note x ∷ xs) more b = same_after c (Noted n x ∷ []) (labels_of n pend (xs ++ more)) (labels_of n pend xs) (labels_after c g me n pend xs more b)

-- nothing more is told of records
pub beside_labels : (c : Config) (g me n : ℕ) (pend : List PendingCall) (t u : Turn) → Beside g me t u → record_labels c (labels_of n pend u.outs) ≡ record_labels c (labels_of n pend t.outs)
beside_labels c g me n pend t u b = ap (λ (l : List Out). record_labels c (labels_of n pend l)) b.outs.1 ∙ labels_after c g me n pend t.outs b.outs.0 b.outs.2
