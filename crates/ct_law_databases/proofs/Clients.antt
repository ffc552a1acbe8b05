-- A client's call comes to a node.
use Rattle.std.proofs.Common.{◌≡◌, ℕ, ◌+◌, Bool, true, false, cond, List, [], ◌∷◌, ◌++◌, length, Option, None, Some, refl, sym, ap, ◌∙◌, subst, arith, ⊎_elim}
use Rattle.std.specs.Prelude.{◌⊎◌, is_some}
use Rattle.std.specs.List.{AllByRecursion}
use Rattle.std.proofs.lemmas.Bool.{eq-eqb}
use Rattle.ct_values.specs.Words.{others}
use Rattle.ct_values.specs.Client.{db_of, key_of, is_read, wants_record}
use Rattle.ct_values.specs.declared.client.Answer.{Answer}
use Rattle.ct_values.specs.declared.client.Answer.TheVariants as answer
use Rattle.ct_values.specs.declared.client.ClientOp.{ClientOp}
use Rattle.ct_values.specs.declared.client.ClientOp.TheVariants as op
use Rattle.ct_values.specs.declared.client.Pair.{Pair}
use Rattle.ct_values.specs.declared.client.Why.{Why}
use Rattle.ct_values.specs.declared.client.Why.TheVariants as why
use Rattle.ct_values.specs.declared.config.Config.{Config}
use Rattle.ct_values.specs.declared.config.DbKind.TheVariants.{Persistent}
use Rattle.ct_frame.specs.declared.event.Out.{Out}
use Rattle.ct_frame.specs.declared.frame.Frame.{Frame}
use Rattle.ct_frame.specs.declared.frame.Msg.TheVariants as msg
use Rattle.ct_call.specs.Rules.{Rules}
use Rattle.ct_persist.specs.Commits.{commit_begun}
use Rattle.ct_persist.specs.Persisted.{fits}
use Rattle.ct_rules.specs.Parts.{want}
use Rattle.ct_rules_node.specs.Records.{at_record}
use Rattle.ct_law_rules_node.proofs.Refusals.{first_none, required}
use Rattle.ct_rules_node.specs.Node.{Node, is_serving, is_present, is_among, is_persistent, has_records, kind_at, name_of, db_at}
use Rattle.ct_rules_node.specs.Turn.{Turn, begins, does, makes, answers, posts, posts_all, with_node}
use Rattle.ct_rules_node.specs.Refusals.{refused_if, first_of}
use Rattle.ct_rules_node.specs.Databases.{updates, with_commit, awaits_others, commits_at, commit, read_pair}
use Rattle.ct_rules_node.specs.Clients.{is_commit, is_committing, is_locked, is_under_lock, may_finish, no_such_db, call_pending, wrong_kind, not_serving, commit_pending, not_locked, full, refusal, reads, serves, serves_or, client}
use Rattle.ct_rules_cluster.specs.Labels.{Label, Answered, Begun}
use Rattle.ct_rules_cluster.specs.Steps.{lines_of}
use Rattle.ct_rules_cluster.specs.Traces.{is_refusal, is_refused, begun_by}
use Rattle.ct_rules_cluster.specs.declared.step.Line.{Line}
use Rattle.ct_rules_cluster.specs.declared.step.Line.TheVariants as line
use Rattle.ct_rules_cluster.specs.declared.step.PendingCall.{PendingCall}
use Rattle.ct_register.specs.Lines.{Lines}
use Rattle.ct_register.specs.Words.{at}
use Rattle.ct_law_generation.proofs.Configured.{refusals_silent}
use Rattle.ct_law_generation.specs.Shown.{labels_of}
use Rattle.ct_law_generation.specs.Waiting.{answered}
use Rattle.ct_law_generation.proofs.Pending.{Callers, Fits, Known}
use Rattle.ct_law_plain.proofs.Locked.{waits_in, serves_present, commit_serves}
use Rattle.ct_law_plain.proofs.Whole.{no_name}
use Rattle.ct_law_acts.proofs.Known.{Waits, Commits, NodeCalls}
use Rattle.ct_law_acts.proofs.Whole.{IsNew}
use Rattle.ct_law_registers.proofs.Facts.{Has, Gone, bases, owners, WaitsIn}
use Rattle.ct_law_databases.proofs.Kept.{Calm, frame_list, calm_after}
use Rattle.ct_law_databases.proofs.Outs.{posted_outs}
use Rattle.ct_law_databases.proofs.Settling.{waiting_owns}
use Rattle.ct_law_databases.proofs.Quiet.{LeavesLock, RefusedSo, answered_or_not}
use Rattle.ct_law_databases.proofs.Commit.{Begins, commit_holds}
use Rattle.ct_law_databases.proofs.Update.{IsIn}
use Rattle.ct_law_databases.proofs.One.{with_has}
use Rattle.ct_law_databases.proofs.Read.{read_pair_holds}
use Rattle.ct_law_databases.proofs.Parts.{Answerable, waits_answerable, all_answerable, makes_calm, refuse_calm}
use Rattle.ct_law_databases.proofs.Records.{serves_calm}
use Rattle.ct_law_databases.proofs.Before.{Before, Goes, calm_goes, is_in}

-- ---- what a call has that is not refused

-- the refusals that matter to databases do not hold
record Free (config : Config) (x : Node) (asked : ClientOp) : Type 0 where
  kind : wrong_kind config asked ≡ None
  serving : not_serving x asked ≡ None
  pending : commit_pending config x asked ≡ None
  under : not_locked config x asked ≡ None
  room : full config x asked ≡ None

free : (config : Config) (rules : Rules) (x : Node) (asked : ClientOp) → refusal config rules x asked ≡ None → Free config x asked
unfolding refusal
free config rules x asked e =
    let db = first_none _ _ e in let kind = first_none _ _ db.1 in let serving = first_none _ _ kind.1 in let wish = first_none _ _ serving.1 in
    let pending = first_none _ _ wish.1 in let lock = first_none _ _ pending.1 in let under = first_none _ _ lock.1 in let known = first_none _ _ under.1 in let room = first_none _ _ known.1 in
    record { kind = kind.0; serving = serving.0; pending = pending.0; under = under.0; room = room.0 }

commit_kind : (config : Config) (db : ℕ) (ws : List Pair) → wrong_kind config (op.Commit db ws) ≡ None → is_persistent (kind_at config db) ≡ true
unfolding wrong_kind refused_if is_commit
commit_kind config db ws e = grind (arith, e)

commit_serving : (x : Node) (db : ℕ) (ws : List Pair) → not_serving x (op.Commit db ws) ≡ None → is_serving x.phase ≡ true
unfolding not_serving may_finish is_under_lock is_read refused_if
commit_serving x db ws e = grind (arith, e)

commit_locks : (config : Config) (x : Node) (db : ℕ) (ws : List Pair) → not_locked config x (op.Commit db ws) ≡ None → is_locked 0 (name_of config db) x ≡ true
unfolding not_locked is_under_lock is_commit refused_if
commit_locks config x db ws e = grind (arith, e)

none_pending : (config : Config) (x : Node) (db : ℕ) (ws : List Pair) → commit_pending config x (op.Commit db ws) ≡ None → is_committing db x ≡ false
unfolding commit_pending is_commit refused_if
none_pending config x db ws e = grind (arith, e)

has_fit : (config : Config) (x : Node) (db : ℕ) (ws : List Pair) → full config x (op.Commit db ws) ≡ None → fits ws (db_at db x).store.pairs ≡ true
unfolding full
has_fit config x db ws e = required (fits ws (db_at db x).store.pairs) _ e

read_serving : (x : Node) (db : ℕ) (key : List ℕ) → is_locked db key x ≡ false → not_serving x (op.Read db key) ≡ None → is_serving x.phase ≡ true
unfolding not_serving may_finish is_under_lock is_read refused_if
read_serving x db key unlocked e = grind (arith, e, unlocked)

-- a commit is refused for the one that waits
first_pending : (config : Config) (rules : Rules) (x : Node) (db : ℕ) (ws : List Pair) → kind_at config db ≡ Some Persistent → is_committing db x ≡ true → is_serving x.phase ≡ true → refusal config rules x (op.Commit db ws) ≡ Some why.CommitPending
unfolding refusal first_of no_such_db wrong_kind not_serving call_pending commit_pending refused_if is_commit is_persistent wants_record
first_pending config rules x db ws kind waits serving = rw kind (rw serving (rw waits refl))

refused_pending : (config : Config) (rules : Rules) (x : Node) (db : ℕ) (ws : List Pair) (w : Why) → kind_at config db ≡ Some Persistent → is_committing db x ≡ true → is_serving x.phase ≡ true → refusal config rules x (op.Commit db ws) ≡ Some w → w ≡ why.CommitPending
refused_pending config rules x db ws w kind waits serving e = (let f : Some why.CommitPending ≡ Some w = sym (first_pending config rules x db ws kind waits serving) ∙ e in cc)

-- ---- what a call tells before its lines

begun_refused : (n call : ℕ) (asked : ClientOp) (w : Why) → begun_by n call asked (line.Answered call (answer.Refused w) ∷ []) ≡ []
unfolding begun_by is_refused is_refusal
begun_refused n call (op.Commit db ws) w = ap (λ (b : Bool). cond b [] (Begun n db ws ∷ [])) (eq-eqb call call refl)
begun_refused n call (op.Read db key) w = refl
begun_refused n call (op.Lock db key) w = refl
begun_refused n call (op.Write db key v) w = refl
begun_refused n call (op.Apply db key f arg) w = refl
begun_refused n call (op.Store db key v) w = refl
begun_refused n call (op.Unlock db key) w = refl

begun_other : (n call : ℕ) (asked : ClientOp) (lines : List Line) → is_commit asked ≡ false → begun_by n call asked lines ≡ []
unfolding begun_by is_commit
begun_other n call (op.Commit db ws) lines e = absurd (cc)
begun_other n call asked lines e = refl

-- the first of what a commit does is no refusal
commit_first : (n call db seq k : ℕ) (ws : List Pair) (ns : List ℕ) (x : Node) (sp : Bool) → is_refused call (lines_of n k (awaits_others n call db seq ws ns (record { node = x; outs = []; spent = sp })).outs) ≡ false
unfolding awaits_others answers does with_commit with_node lines_of is_refused is_refusal posts_all posts
commit_first n call db seq k ws [] x sp = refl
commit_first n call db seq k ws (m ∷ ms) x sp =
    let t : Turn = with_commit db (Some (record { call = call; writes = ws; pending = commit_begun seq (m ∷ ms) })) (record { node = x; outs = []; spent = sp }) in
    let rest = posted_outs (λ (o : Out). Unit {0}) x.generation n ms (msg.PUpdate db seq ws) (posts x.generation n m (msg.PUpdate db seq ws) t) (λ i. tt) in
    ap (λ (l : List Out). is_refused call (lines_of n k l)) rest.1

-- ---- the call

module _ (config : Config) (rules : Rules) (who : Callers) (calls : ℕ) (nodes : ℕ → Node) (fs : List Frame) (r : Lines) (has : Has) (gone : Gone) (n call k : ℕ) (pend : List PendingCall) (b : Before config nodes fs r has gone)
    (known : NodeCalls config who calls n (nodes n)) (fit : AllByRecursion (Fits who) pend) where
  abbrev t : Turn
  t = makes call (begins (nodes n))

  abbrev Goes_to : ClientOp → Turn → Type 0
  Goes_to asked u = Goes config nodes (at n u.node nodes) r has (begun_by n call asked (lines_of n k u.outs) ++ labels_of n pend u.outs) (frame_list u.outs)

  -- where nothing is told before its lines, and the step is calm
  calm_call : (asked : ClientOp) (u : Turn) → begun_by n call asked (lines_of n k u.outs) ≡ [] → Calm config who (bases r) has n (begins (nodes n)) u → Goes_to asked u
  calm_call asked u none calm = subst (λ (l : List Label). Goes config nodes (at n u.node nodes) r has (l ++ labels_of n pend u.outs) (frame_list u.outs)) (sym none)
      (calm_goes config who nodes r has n (begins (nodes n)) u [] pend b.holds refl refl tt fit calm)

  -- while a commit waits, another is refused for it
  refused_so : (asked : ClientOp) (w : Why) → refusal config rules (nodes n) asked ≡ Some w → RefusedSo config (bases r) n asked w
  unfolding RefusedSo is_committing
  refused_so (op.Commit db ws) w e = λ line kind begun. (let waits = b.holds.committing n db line begun in refused_pending config rules (nodes n) db ws w kind waits (commit_serves config (nodes n) db (b.locked n) waits) e)
  refused_so asked w e = tt

  -- the call that comes is this node's, and asks for this
  own_call : (asked : ClientOp) → ((a : Answer) → answered call a pend ≡ Answered n asked a ∷ []) → ((who call).0 ≡ n) × ((who call).1 ≡ asked)
  own_call asked mine = ⊎_elim
      (λ (e : answered call answer.Stored pend ≡ []). absurd (let f : [] ≡ Answered n asked answer.Stored ∷ [] = sym e ∙ mine answer.Stored in cc))
      (λ (e : answered call answer.Stored pend ≡ Answered (who call).0 (who call).1 answer.Stored ∷ []).
      (let f : Answered (who call).0 (who call).1 answer.Stored ∷ [] ≡ Answered n asked answer.Stored ∷ [] = sym e ∙ mine answer.Stored in (cc, cc)))
      (answered_or_not who call answer.Stored pend fit)

  refused_goes : (asked : ClientOp) (w : Why) → refusal config rules (nodes n) asked ≡ Some w → ((a : Answer) → answered call a pend ≡ Answered n asked a ∷ []) → Goes_to asked (answers call (answer.Refused w) t)
  unfolding answers does makes lines_of
  refused_goes asked w e mine =
      let own = own_call asked mine in
      let so : RefusedSo config (bases r) (who call).0 (who call).1 w = subst (λ (m : ℕ). RefusedSo config (bases r) m (who call).1 w) (sym own.0) (subst (λ (o : ClientOp). RefusedSo config (bases r) n o w) (sym own.1) (refused_so asked w e)) in
      calm_call asked (answers call (answer.Refused w) t) (begun_refused n call asked w)
      (calm_after (makes_calm config who (bases r) has n call (begins (nodes n))) (refuse_calm config who (bases r) has n call w t (refusals_silent config rules (nodes n) asked w e) so))

  -- ---- a commit

  module _ (db : ℕ) (ws : List Pair) (e : refusal config rules (nodes n) (op.Commit db ws) ≡ None) where
    f : Free config (nodes n) (op.Commit db ws)
    f = free config rules (nodes n) (op.Commit db ws) e

    kind : is_persistent (kind_at config db) ≡ true
    kind = commit_kind config db ws f.kind

    present : is_present (nodes n).phase ≡ true
    present = serves_present (nodes n).phase (commit_serving (nodes n) db ws f.serving)

    i : IsIn config nodes r n db
    i = is_in config nodes fs r b.rounds n db present kind

    owns : owners config r (r.line n) db ≡ Some n
    owns = b.locks.locks n db kind (commit_locks config (nodes n) db ws f.under)

    acked : (r.databases (r.line n) db).acked ≡ length (r.databases (r.line n) db).commits
    unfolding is_committing
    acked = ⊎_elim
        (λ (a : (r.databases (r.line n) db).acked ≡ length (r.databases (r.line n) db).commits). a)
        (λ (o : WaitsIn nodes r.line (r.line n) db ⊎ (gone (r.line n) (name_of config db) ≡ true)). ⊎_elim
        (λ (w : WaitsIn nodes r.line (r.line n) db). absurd (
        let other : Some w.0 ≡ Some n = sym (waiting_owns config nodes (bases r) gone (owners config r) b.locked b.locks (r.line n) db kind w) ∙ owns in
        let same : w.0 ≡ n = cc in
        let waits : is_some (db_at db (nodes n)).commit ≡ true = ap (λ (j : ℕ). is_some (db_at db (nodes j)).commit) (sym same) ∙ ap is_some w.3 in
        let none = none_pending config (nodes n) db ws f.pending in
        cc))
        (λ (g : gone (r.line n) (name_of config db) ≡ true). absurd (let none : None ≡ Some n = sym (b.locks.ended (r.line n) db g) ∙ owns in cc)) o)
        (b.settled.settles (r.line n) db kind)

    begins_so : Begins config nodes r has n db ws
    begins_so = record { kind = kind; present = present; there = i.there; installed = i.installed; born = i.born; owns = owns; acked = acked; whole = b.settled.owner_has (r.line n) db n kind owns; fit = has_fit config (nodes n) db ws f.room; heirs = λ l k is. b.settled.heirs l (r.line n) db k kind is }

    begun_is : begun_by n call (op.Commit db ws) (lines_of n k (commit n call db ws t).outs) ≡ Begun n db ws ∷ []
    unfolding begun_by commit commits_at updates makes with_node
    begun_is = ap (λ (c : Bool). cond c [] (Begun n db ws ∷ [])) (commit_first n call db _ k ws (others n (nodes n).members) _ _)

    commit_goes : ((a : Answer) → answered call a pend ≡ Answered n (op.Commit db ws) a ∷ []) → Goes_to (op.Commit db ws) (commit n call db ws t)
    unfolding makes
    commit_goes mine = subst (λ (l : List Label). Goes config nodes (at n (commit n call db ws t).node nodes) r has (l ++ labels_of n pend (commit n call db ws t).outs) (frame_list (commit n call db ws t).outs)) (sym begun_is)
        (record { kept = λ j. 0; seen = 0; more = with_has (r.line n) n db (length (r.databases (r.line n) db).commits + 1) has; goes = λ counts. commit_holds config _ nodes r has n db call ws _ pend b.holds begins_so mine })

  -- ---- a read of a pair

  read_goes : (db : ℕ) (key : List ℕ) → refusal config rules (nodes n) (op.Read db key) ≡ None → is_persistent (kind_at config db) ≡ true → ((a : Answer) → answered call a pend ≡ Answered n (op.Read db key) a ∷ []) → Goes_to (op.Read db key) (read_pair call db key t)
  unfolding makes begun_by
  read_goes db key e kind mine =
      let f = free config rules (nodes n) (op.Read db key) e in
      let present = serves_present (nodes n).phase (read_serving (nodes n) db key (b.locks.unlocked n db key kind) f.serving) in
      let i : IsIn config nodes r n db = is_in config nodes fs r b.rounds n db present kind in
      let member : is_among n (r.members (r.line n)) ≡ true = subst (λ (g : ℕ). is_among n (r.members g) ≡ true) (sym i.installed) (b.rounds.named n (λ z. i.there.line (i.installed ∙ z))) in
      record { kept = λ j. 0; seen = has (r.line n) n db; more = has; goes = λ counts. read_pair_holds config _ nodes r has n db call key _ pend b.holds i member refl mine }

  -- ---- every call

  other_goes : (asked : ClientOp) → is_commit asked ≡ false → (is_read asked ≡ true → is_persistent (kind_at config (db_of asked)) ≡ false) → Answerable config who (bases r) calls n (db_of asked) (key_of asked) call asked → Goes_to asked (serves config rules n call t asked)
  unfolding makes
  other_goes asked plain pair own = calm_call asked (serves config rules n call t asked) (begun_other n call asked _ plain)
      (calm_after (makes_calm config who (bases r) has n call (begins (nodes n))) (serves_calm config rules who calls (bases r) has n call asked t plain pair own (all_answerable config who (bases r) calls n (nodes n) known) tt))

  -- an unlock that is not refused is known, too
  abbrev KnownUnlock : ClientOp → Type 0
  KnownUnlock asked = (db : ℕ) (key : List ℕ) → asked ≡ op.Unlock db key → refusal config rules (nodes n) (op.Unlock db key) ≡ None → Known who calls n db key call (op.Unlock db key) × (has_records (kind_at config db) ≡ true)

  -- and one that is not refused gives up no lock under which a commit waits
  unlock_answerable : (db : ℕ) (key : List ℕ) → Known who calls n db key call (op.Unlock db key) × (has_records (kind_at config db) ≡ true) → refusal config rules (nodes n) (op.Unlock db key) ≡ None → Answerable config who (bases r) calls n db key call (op.Unlock db key)
  unfolding Answerable LeavesLock is_commit waits_in db_at
  unlock_answerable db key k e = (k.0, k.1, refl, λ line i zero same is. no_name config rules (nodes n) db key e zero i (b.holds.committing n i line is) (sym same))

  free_goes : (asked : ClientOp) → refusal config rules (nodes n) asked ≡ None → KnownUnlock asked → IsNew (Waits config who calls n) (Commits who calls n) config rules (nodes n) call asked → ((a : Answer) → answered call a pend ≡ Answered n asked a ∷ []) → Goes_to asked (serves config rules n call t asked)
  unfolding IsNew serves reads is_commit is_read
  free_goes (op.Commit db ws) e unlocks own mine = commit_goes db ws e mine
  free_goes (op.Read db key) e unlocks own mine = by (is_persistent (kind_at config db)) refl (λ is. other_goes (op.Read db key) refl (λ r. is) (waits_answerable config who (bases r) calls n db key call (op.Read db key) (own e is)))
    where
      other : Turn
      other = at_record config n db key (λ at o. want at rules call (op.Read db key) o) t

      by : (c : Bool) → is_persistent (kind_at config db) ≡ c → (is_persistent (kind_at config db) ≡ false → Goes_to (op.Read db key) (cond (is_persistent (kind_at config db)) (read_pair call db key t) other)) → Goes_to (op.Read db key) (cond (is_persistent (kind_at config db)) (read_pair call db key t) other)
      by true is rest = subst (λ (c : Bool). Goes_to (op.Read db key) (cond c (read_pair call db key t) other)) (sym is) (read_goes db key e is mine)
      by false is rest = rest is
  free_goes (op.Lock db key) e unlocks own mine = other_goes (op.Lock db key) refl (λ r. absurd (cc)) (waits_answerable config who (bases r) calls n db key call (op.Lock db key) (own e))
  free_goes (op.Write db key v) e unlocks own mine = other_goes (op.Write db key v) refl (λ r. absurd (cc)) (waits_answerable config who (bases r) calls n db key call (op.Write db key v) (own e))
  free_goes (op.Apply db key f arg) e unlocks own mine = other_goes (op.Apply db key f arg) refl (λ r. absurd (cc)) (waits_answerable config who (bases r) calls n db key call (op.Apply db key f arg) (own e))
  free_goes (op.Store db key v) e unlocks own mine = other_goes (op.Store db key v) refl (λ r. absurd (cc)) (waits_answerable config who (bases r) calls n db key call (op.Store db key v) (own e))
  free_goes (op.Unlock db key) e unlocks own mine = other_goes (op.Unlock db key) refl (λ r. absurd (cc)) (unlock_answerable db key (unlocks db key refl e) e)

  pub client_goes : (asked : ClientOp) → KnownUnlock asked → IsNew (Waits config who calls n) (Commits who calls n) config rules (nodes n) call asked → ((a : Answer) → answered call a pend ≡ Answered n asked a ∷ []) → Goes_to asked (client config rules n call asked (begins (nodes n)))
  unfolding client serves_or
  client_goes asked unlocks own mine = by (refusal config rules (nodes n) asked) refl
    where
      by : (w : Option Why) → refusal config rules (nodes n) asked ≡ w → Goes_to asked (serves_or config rules n call asked t w)
      by (Some w) e = refused_goes asked w e mine
      by None e = free_goes asked e unlocks own mine
