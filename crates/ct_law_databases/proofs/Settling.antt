-- After a step that is kept: databases settle, the owner of a lock has all commits, and old messages stand for what they did.
use Rattle.std.proofs.Common.{◌≡◌, ◌≢◌, ℕ, ◌≤◌, true, false, List, ◌++◌, length, Option, None, Some, refl, sym, ap, ◌∙◌, subst, arith, inl, inr, ⊎_elim}
use Rattle.std.specs.Prelude.{◌⊎◌, is_some}
use Rattle.std.proofs.lemmas.Bool.{cases_Bool}
use Rattle.ct_values.specs.declared.config.Config.{Config}
use Rattle.ct_frame.specs.declared.frame.Frame.{Frame}
use Rattle.ct_frame.specs.declared.frame.Msg.{Msg}
use Rattle.ct_frame.specs.declared.frame.Msg.TheVariants as msg
use Rattle.ct_merge.proofs.Among.{In, in_either}
use Rattle.ct_rules_node.specs.Node.{Node, is_among, is_persistent, is_present, kind_at, name_of}
use Rattle.ct_rules_node.specs.Clients.{is_committing}
use Rattle.ct_rules_cluster.specs.Labels.{Label}
use Rattle.ct_register.specs.Lines.{Lines}
use Rattle.ct_law_plain.proofs.Locked.{CommitLocked, commit_locked}
use Rattle.ct_law_registers.proofs.Parts.{Choice, goes_on}
use Rattle.ct_law_registers.proofs.Facts.{Has, Gone, Owners, Bases, bases, owners, WaitsIn, Settles, MailStands, Holds, Heir, Settled}
use Rattle.ct_law_registers.proofs.Stores.{IsStill, stands_later}
use Rattle.ct_law_databases.proofs.Law.{ReplySays, RoundsHold, LockLaw, LockStep, LocksEnd}
use Rattle.ct_law_databases.proofs.Kept.{Kept}

-- all commits that wait are under their locks
abbrev pub AllLocked : Config → (ℕ → Node) → Type 0
AllLocked config nodes = (n : ℕ) → CommitLocked config (nodes n)

-- where a commit waits, its node owns the lock
pub waiting_owns : (config : Config) (nodes : ℕ → Node) (b : Bases) (gone : Gone) (owner : Owners) → AllLocked config nodes → LockLaw config nodes b gone owner → (g db : ℕ) → is_persistent (kind_at config db) ≡ true → (w : WaitsIn nodes b.line g db) → owner g db ≡ Some w.0
unfolding is_committing
waiting_owns config nodes b gone owner locked law g db kind w =
    let l = commit_locked config (nodes w.0) db (locked w.0) (ap is_some w.3) in
    subst (λ (k : ℕ). owner k db ≡ Some w.0) w.1 (law.locks w.0 db kind l.2)

module _ (config : Config) (x : Choice) (nodes then : ℕ → Node) (r : Lines) (has more : Has) (ls : List Label) (fs : List Frame) (gone later : Gone) (k : Kept config x nodes then r has more ls fs) where
  abbrev s : Lines
  s = goes_on config x ls r

  module _ (h : Holds config nodes (bases r) has) (old : Settled config nodes (bases r) has gone (owners config r)) (locked : AllLocked config nodes) (law : LockLaw config nodes (bases r) gone (owners config r)) (new : LockLaw config then (bases s) later (owners config s))
      (step : LockStep gone later (owners config r) (owners config s)) (ends : LocksEnd config (bases r) (owners config r) later ls)
      (before : List Frame) (rounds : RoundsHold config nodes before (bases r)) (promise : (n : ℕ) → (nodes n).promise ≤ (then n).promise) where
    settles_on : (g db : ℕ) → is_persistent (kind_at config db) ≡ true → Settles config nodes (bases r) later g db
    settles_on g db kind = ⊎_elim
        (λ (e : (r.databases g db).acked ≡ length (r.databases g db).commits). inl e)
        (λ (o : WaitsIn nodes r.line g db ⊎ (gone g (name_of config db) ≡ true)). inr (⊎_elim
        (λ (w : WaitsIn nodes r.line g db). inl w)
        (λ (e : gone g (name_of config db) ≡ true). inr (step.stays g (name_of config db) e)) o))
        (old.settles g db kind)

    -- where nobody owned the lock, a member has all that it is to have once it owns it
    new_owner : (g db m : ℕ) → is_persistent (kind_at config db) ≡ true → length (s.databases g db).commits ≡ length (r.databases g db).commits → owners config r g db ≡ None → owners config s g db ≡ Some m → more g m db ≡ length (s.databases g db).commits
    new_owner g db m kind same free own = ⊎_elim
        (λ (e : (r.databases g db).acked ≡ length (r.databases g db).commits). ⊎_elim
        (λ (born : r.born g ≡ true).
        let a = (k.grow.databases g db born).acked in
        let c = k.holds.counted g db in
        let d = c.acked m (new.owns g db m own).1 in
        let w = c.within m in
        omega arith)
        (λ (unborn : r.born g ≡ false).
        let none : length (r.databases g db).commits ≡ 0 = ap length (h.unborn g db unborn) in
        let w = (k.holds.counted g db).within m in
        omega arith) (cases_Bool (r.born g)))
        (λ (o : WaitsIn nodes r.line g db ⊎ (gone g (name_of config db) ≡ true)). ⊎_elim
        (λ (w : WaitsIn nodes r.line g db). absurd (let e : None ≡ Some w.0 = sym free ∙ waiting_owns config nodes (bases r) gone (owners config r) locked law g db kind w in cc))
        (λ (e : gone g (name_of config db) ≡ true). absurd (let f : None ≡ Some m = sym (new.ended g db (step.stays g (name_of config db) e)) ∙ own in cc)) o)
        (old.settles g db kind)

    same_owner : (g db m : ℕ) → is_persistent (kind_at config db) ≡ true → length (s.databases g db).commits ≡ length (r.databases g db).commits → (o : Option ℕ) → owners config r g db ≡ o → owners config s g db ≡ Some m → more g m db ≡ length (s.databases g db).commits
    same_owner g db m kind same None is own = new_owner g db m kind same is own
    same_owner g db m kind same (Some j) is own =
        let e : m ≡ j = step.once g db j m is own in
        let f : has g m db ≡ length (r.databases g db).commits = old.owner_has g db m kind (is ∙ ap (λ (i : ℕ). Some i) (sym e)) in
        let up = k.grow.rises g m db in
        let w = (k.holds.counted g db).within m in
        omega arith

    owner_after : (g db m : ℕ) → is_persistent (kind_at config db) ≡ true → owners config s g db ≡ Some m → more g m db ≡ length (s.databases g db).commits
    owner_after g db m kind own = ⊎_elim
        (λ (same : length (s.databases g db).commits ≡ length (r.databases g db).commits). same_owner g db m kind same (owners config r g db) refl own)
        (λ (o : ((n : ℕ) × (owners config r g db ≡ Some n) × (more g n db ≡ length (s.databases g db).commits)) ⊎ ((n : ℕ) → more g n db ≡ length (s.databases g db).commits)). ⊎_elim
        (λ (c : (n : ℕ) × (owners config r g db ≡ Some n) × (more g n db ≡ length (s.databases g db).commits)). subst (λ (i : ℕ). more g i db ≡ length (s.databases g db).commits) (sym (step.once g db c.0 m c.1 own)) c.2)
        (λ (all : (n : ℕ) → more g n db ≡ length (s.databases g db).commits). all m) o)
        (k.commits g db kind)

    -- who promised a later generation is not present in a line that it was in, and gets no commit of it
    heir_stays : (g db j : ℕ) → Heir nodes (bases r) has g db j → Heir then (bases s) more g db j
    heir_stays g db j x = record {
      node = x.node;
      born = k.grow.born g x.born;
      member = subst (λ (ms : List ℕ). is_among x.node ms ≡ true) (sym (k.grow.members g x.born)) x.member;
      later = (let l = x.later in let p = promise x.node in omega arith);
      number = (let e = x.number in let q = (k.grow.databases g db x.born).seq in let same = k.still g x.node db away in omega arith);
    }
      where
        away : is_present (nodes x.node).phase ≡ true → r.pline x.node ≢ g
        away present line = absurd (let t = rounds.there x.node present in let same = rounds.stays x.node t.line in let p = t.promise in let l = x.later in omega arith)

    pub settled_after : Settled config then (bases s) more later (owners config s)
    settled_after = record { settles = λ g db kind. k.settling later ends g db kind (settles_on g db kind); owner_has = λ g db m kind own. owner_after g db m kind own; heirs = heirs_after }
      where
        heirs_after : (l g db j : ℕ) → is_persistent (kind_at config db) ≡ true → (s.databases l db).from g ≡ Some j → Heir then (bases s) more g db j
        heirs_after l g db j kind e = ⊎_elim
            (λ (o : (i : ℕ) × ((r.databases i db).from g ≡ Some j)). heir_stays g db j (old.heirs o.0 g db j kind o.1))
            (λ (x : Heir nodes (bases r) has g db j). heir_stays g db j x) (k.heirs l g db j kind e)

  still_told : (g m : ℕ) (f : Msg) → ReplySays nodes (bases r) g m f → IsStill has more m f
  unfolding ReplySays IsStill
  still_told g m (msg.PullReply vbase q table ptables addresses) h = λ db. k.still q m db h.left
  still_told g m _ h = tt

  -- what was sent before, and in the step
  pub mail_after : (before : List Frame) → Holds config nodes (bases r) has → RoundsHold config nodes before (bases r) → MailStands config (bases r) has before → MailStands config (bases s) more (before ++ fs)
  mail_after before h rounds old f is = ⊎_elim
      (λ (i : In f before). stands_later config (bases r) (bases s) has more f.generation f.sender f.msg k.grow (λ g db n. (h.counted g db).within n) (still_told f.generation f.sender f.msg (rounds.replies f i)) (old f i))
      (λ (i : In f fs). k.sent f i)
      (in_either before fs f is)
