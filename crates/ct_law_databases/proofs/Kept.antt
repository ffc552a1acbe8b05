-- What a step keeps: the facts hold after it, what it tells needs no more than that, and what it sends stands for its database.
use Rattle.std.proofs.Common.{◌≡◌, ◌≢◌, ℕ, Bool, true, false, cond, List, [], ◌∷◌, ◌++◌, length, map, Some, append-nil, append_assoc, refl, sym, ap, ◌∙◌, subst, inl, inr, ⊎_elim}
use Rattle.std.specs.Prelude.{◌⊎◌}
use Rattle.std.specs.List.{AllByRecursion}
use Rattle.ct_lcp2.proofs.Choices.{all_append}
use Rattle.ct_values.specs.declared.config.Config.{Config}
use Rattle.ct_frame.specs.declared.event.Out.{Out}
use Rattle.ct_frame.specs.declared.event.Out.TheVariants as out
use Rattle.ct_frame.specs.declared.frame.Frame.{Frame}
use Rattle.ct_merge.proofs.Among.{In}
use Rattle.ct_rules_node.specs.Node.{Node, is_present, is_persistent, kind_at, db_at}
use Rattle.ct_rules_node.specs.Turn.{Turn}
use Rattle.ct_rules_cluster.specs.Cluster.{Sent}
use Rattle.ct_rules_cluster.specs.Labels.{Label}
use Rattle.ct_rules_cluster.specs.Steps.{frames_of}
use Rattle.ct_rules_cluster.specs.declared.step.PendingCall.{PendingCall}
use Rattle.ct_register.specs.Database.{Database}
use Rattle.ct_register.specs.Lines.{Lines}
use Rattle.ct_register.specs.Words.{at}
use Rattle.ct_law_generation.specs.Shown.{labels_of}
use Rattle.ct_law_generation.proofs.Pending.{Callers, Fits}
use Rattle.ct_law_registers.proofs.Parts.{Choice, goes_on, DatabasesNeed, AllNeed}
use Rattle.ct_law_registers.proofs.Facts.{Has, Gone, Owners, Bases, bases, owners, WaitsIn, Settles, Stands, LeadStands, MailStands, Holds, Heir}
use Rattle.ct_law_registers.proofs.Stores.{Grow, grow_same}
use Rattle.ct_law_databases.proofs.Changes.{SameStores, by_node, same_holds}
use Rattle.ct_law_databases.proofs.Law.{LocksEnd}
use Rattle.ct_law_databases.proofs.Quiet.{IsQuiet, IsQuietNote, IsQuietAnswer, all_quiet, answer_quiet, note_quiet, sent_quiet}

-- a step made no new commit of the database; or made one of the node that owned its lock, and that has it; or all have all
abbrev pub Commits : Bases → Has → Owners → ℕ → ℕ → ℕ → Type 0
Commits after more owner before g db =
    (length (after.databases g db).commits ≡ before) ⊎ ((n : ℕ) × (owner g db ≡ Some n) × (more g n db ≡ length (after.databases g db).commits)) ⊎ ((n : ℕ) → more g n db ≡ length (after.databases g db).commits)

-- From these nodes and registers a step leads to those, tells these labels and sends these messages. Has and more are what nodes
-- have before it and after it.
pub record Kept (config : Config) (x : Choice) (nodes then : ℕ → Node) (r : Lines) (has more : Has) (ls : List Label) (fs : List Frame) : Type 0 where
  pub needs : AllNeed (DatabasesNeed config x) config x r ls
  pub holds : Holds config then (bases (goes_on config x ls r)) more
  pub grow : Grow (bases r) (bases (goes_on config x ls r)) has more
  pub sent : MailStands config (bases (goes_on config x ls r)) more fs
  -- only who is present has more of a database, in its line
  pub still : (g n db : ℕ) → (is_present (nodes n).phase ≡ true → r.pline n ≢ g) → more g n db ≡ has g n db
  -- each database settles still, and new commits are those of the owner
  pub settling : (later : Gone) → LocksEnd config (bases r) (owners config r) later ls → (g db : ℕ) → is_persistent (kind_at config db) ≡ true → Settles config nodes (bases r) later g db → Settles config then (bases (goes_on config x ls r)) later g db
  pub commits : (g db : ℕ) → is_persistent (kind_at config db) ≡ true → Commits (bases (goes_on config x ls r)) more (owners config r) (length (r.databases g db).commits) g db
  -- what a line has of older ones then, some line had before, or it is what a member of the older one has that is present there no more
  pub heirs : (l g db k : ℕ) → is_persistent (kind_at config db) ≡ true → ((bases (goes_on config x ls r)).databases l db).from g ≡ Some k → ((i : ℕ) × ((r.databases i db).from g ≡ Some k)) ⊎ Heir nodes (bases r) has g db k

-- ---- messages

abbrev pub frame_list : List Out → List Frame
frame_list xs = map (λ (s : Sent). s.frame) (frames_of xs)

-- a message that node me sends stands for its database
unfoldable pub OutStands : Config → Bases → Has → Out → Type 0
OutStands config b has (out.Send f) = Stands config b has f.generation f.sender f.msg
OutStands config b has _ = Unit {0}

pub frames_stand : (config : Config) (b : Bases) (has : Has) (xs : List Out) → AllByRecursion (OutStands config b has) xs → MailStands config b has (frame_list xs)
unfolding OutStands frames_of
frames_stand config b has [] h f is = absurd is
frames_stand config b has (out.Send g ∷ xs) h f is = ⊎_elim
    (λ (e : g ≡ f). subst (λ (k : Frame). Stands config b has k.generation k.sender k.msg) e h.0)
    (λ (k : In f (frame_list xs)). frames_stand config b has xs h.1 f k) is
frames_stand config b has (out.Answer call a ∷ xs) h f is = frames_stand config b has xs h.1 f is
frames_stand config b has (out.Note x ∷ xs) h f is = frames_stand config b has xs h.1 f is

-- ---- calm: persistent databases stay as they are

-- what is done in a calm step: messages that stand, answers to calls on records or refusals, and quiet notes
unfoldable pub IsCalm : Config → Callers → Bases → Has → Out → Type 0
IsCalm config who b has (out.Send f) = Stands config b has f.generation f.sender f.msg
IsCalm config who b has (out.Answer call a) = IsQuietAnswer config who b call a
IsCalm config who b has (out.Note noted) = IsQuietNote noted

pub record Calm (config : Config) (who : Callers) (b : Bases) (has : Has) (me : ℕ) (t u : Turn) : Type 0 where
  pub same : SameStores t.node u.node
  pub lead : LeadStands config b has me t.node.lead → LeadStands config b has me u.node.lead
  pub outs : (more : List Out) × (u.outs ≡ t.outs ++ more) × AllByRecursion (IsCalm config who b has) more

pub calm_same : {config : Config} {who : Callers} {b : Bases} {has : Has} {me : ℕ} {t : Turn} → Calm config who b has me t t
calm_same {config} {who} {b} {has} {me} {t} = record { same = record { stores = λ db. refl; commits = λ db. refl }; lead = λ h. h; outs = ([], sym (append-nil t.outs), tt) }

pub calm_after : {config : Config} {who : Callers} {b : Bases} {has : Has} {me : ℕ} {t u v : Turn} → Calm config who b has me t u → Calm config who b has me u v → Calm config who b has me t v
calm_after {config} {who} {b} {has} {me} {t} {u} {v} a z = record {
  same = record { stores = λ db. z.same.stores db ∙ a.same.stores db; commits = λ db. z.same.commits db ∙ a.same.commits db };
  lead = λ h. z.lead (a.lead h);
  outs = (
    a.outs.0 ++ z.outs.0,
    z.outs.1 ∙ ap (λ (l : List Out). l ++ z.outs.0) a.outs.1 ∙ append_assoc t.outs a.outs.0 z.outs.0,
    all_append (IsCalm config who b has) a.outs.0 z.outs.0 a.outs.2 z.outs.2,
  );
}

pub either_calm : {config : Config} {who : Callers} {b : Bases} {has : Has} {me : ℕ} {t u v : Turn} (c : Bool) → Calm config who b has me t u → Calm config who b has me t v → Calm config who b has me t (cond c u v)
either_calm true h k = h
either_calm false h k = k

pub calm_labels : (config : Config) (who : Callers) (b : Bases) (has : Has) (n : ℕ) (calls : List PendingCall) (xs : List Out) → AllByRecursion (Fits who) calls → AllByRecursion (IsCalm config who b has) xs → AllByRecursion (IsQuiet config b) (labels_of n calls xs)
unfolding IsCalm labels_of
calm_labels config who b has n calls [] fits h = tt
calm_labels config who b has n calls (out.Send f ∷ xs) fits h = all_append (IsQuiet config b) _ (labels_of n calls xs) (sent_quiet config b f.sender f.generation f.msg) (calm_labels config who b has n calls xs fits h.1)
calm_labels config who b has n calls (out.Answer call a ∷ xs) fits h = all_append (IsQuiet config b) _ (labels_of n calls xs) (answer_quiet config who b call a calls fits h.0) (calm_labels config who b has n calls xs fits h.1)
calm_labels config who b has n calls (out.Note noted ∷ xs) fits h = (note_quiet config b n noted h.0, calm_labels config who b has n calls xs fits h.1)

pub calm_stands : (config : Config) (who : Callers) (b : Bases) (has : Has) (xs : List Out) → AllByRecursion (IsCalm config who b has) xs → AllByRecursion (OutStands config b has) xs
unfolding IsCalm OutStands
calm_stands config who b has [] h = tt
calm_stands config who b has (out.Send f ∷ xs) h = (h.0, calm_stands config who b has xs h.1)
calm_stands config who b has (out.Answer call a ∷ xs) h = (tt, calm_stands config who b has xs h.1)
calm_stands config who b has (out.Note noted ∷ xs) h = (tt, calm_stands config who b has xs h.1)

-- where the commits of the node wait still, so they do in its line
pub waits_same : (nodes : ℕ → Node) (line : ℕ → ℕ) (n : ℕ) (y : Node) (g db : ℕ) → (db_at db y).commit ≡ (db_at db (nodes n)).commit → WaitsIn nodes line g db → WaitsIn (at n y nodes) line g db
waits_same nodes line n y g db same w = (w.0, w.1, w.2, by_node (λ (k : ℕ) (z : Node). (db_at db (nodes k)).commit ≡ Some w.2 → (db_at db z).commit ≡ Some w.2) nodes n y (λ e. same ∙ e) (λ k ne e. e) w.0 w.3)

-- the same databases settle
pub settles_same : (config : Config) (nodes then : ℕ → Node) (b c : Bases) (later : Gone) (g db : ℕ) → c.databases g db ≡ b.databases g db → (WaitsIn nodes b.line g db → WaitsIn then c.line g db) → Settles config nodes b later g db → Settles config then c later g db
settles_same config nodes then b c later g db same waits = λ h. ⊎_elim
    (λ (e : (b.databases g db).acked ≡ length (b.databases g db).commits). inl (subst (λ (d : Database). d.acked ≡ length d.commits) (sym same) e))
    (λ (k : WaitsIn nodes b.line g db ⊎ (later g _ ≡ true)). inr (⊎_elim (λ (w : WaitsIn nodes b.line g db). inl (waits w)) (λ (e : later g _ ≡ true). inr e) k)) h

-- a step of node n that is calm, with some quiet labels before those of what it does
pub calm_kept : (config : Config) (who : Callers) (x : Choice) (nodes : ℕ → Node) (r : Lines) (has : Has) (n : ℕ) (t u : Turn) (own : List Label) (calls : List PendingCall) → Holds config nodes (bases r) has → t.node ≡ nodes n → t.outs ≡ [] →
    AllByRecursion (IsQuiet config (bases r)) own → AllByRecursion (Fits who) calls → Calm config who (bases r) has n t u → Kept config x nodes (at n u.node nodes) r has has (own ++ labels_of n calls u.outs) (frame_list u.outs)
calm_kept config who x nodes r has n t u own calls h node empty first fits calm =
    let outs : u.outs ≡ calm.outs.0 = calm.outs.1 ∙ ap (λ (l : List Out). l ++ calm.outs.0) empty in
    let all : AllByRecursion (IsCalm config who (bases r) has) u.outs = subst (AllByRecursion (IsCalm config who (bases r) has)) (sym outs) calm.outs.2 in
    let ls = own ++ labels_of n calls u.outs in
    let quiet = all_quiet config (bases r) x ls r refl (all_append (IsQuiet config (bases r)) own (labels_of n calls u.outs) first (calm_labels config who (bases r) has n calls u.outs fits all)) in
    let stays : bases r ≡ bases (goes_on config x ls r) = sym quiet.1 in
    let same : SameStores (nodes n) u.node = subst (λ (y : Node). SameStores y u.node) node calm.same in
    record {
      needs = quiet.0;
      holds = subst (λ (b : Bases). Holds config (at n u.node nodes) b has) stays (same_holds config nodes (bases r) has n u.node same (calm.lead (subst (λ (y : Node). LeadStands config (bases r) has n y.lead) (sym node) (h.leads n))) h);
      grow = subst (λ (b : Bases). Grow (bases r) b has has) stays (grow_same (bases r) has);
      sent = subst (λ (b : Bases). MailStands config b has (frame_list u.outs)) stays (frames_stand config (bases r) has u.outs (calm_stands config who (bases r) has u.outs all));
      still = λ g m db away. refl;
      settling = λ later ends g db kind. subst (λ (b : Bases). Settles config nodes (bases r) later g db → Settles config (at n u.node nodes) b later g db) stays
          (settles_same config nodes (at n u.node nodes) (bases r) (bases r) later g db refl (waits_same nodes r.line n u.node g db (same.commits db)));
      commits = λ g db kind. inl (ap (λ (b : Bases). length (b.databases g db).commits) (sym stays));
      heirs = λ l g db k kind e. inl (l, ap (λ (b : Bases). (b.databases l db).from g) stays ∙ e);
    }
