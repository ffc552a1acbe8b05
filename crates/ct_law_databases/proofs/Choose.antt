-- What a round keeps of each persistent database: of those of the parent the one with the most commits.
use Rattle.std.proofs.Common.{◌≡◌, ℕ, ◌+◌, ◌<◌, ◌≤◌, Bool, true, false, cond, List, [], ◌∷◌, ◌++◌, length, Option, Some, refl, sym, ap, ◌∙◌, subst, arith, inl, inr, ⊎_elim}
use Rattle.std.specs.Prelude.{◌⊎◌}
use Rattle.std.specs.List.{find, list_all}
use Rattle.std.specs.Option.{option_map}
use Rattle.std.proofs.lemmas.Bool.{and_from, cases_Bool, eq-eqb}
use Rattle.ct_values.specs.Words.{others}
use Rattle.ct_values.specs.declared.config.Config.{Config}
use Rattle.ct_frame.specs.Fields.{ascends, ptable_before}
use Rattle.ct_frame.specs.declared.frame.Frame.{Frame}
use Rattle.ct_frame.specs.declared.frame.PTable.{PTable}
use Rattle.ct_frame.specs.declared.round.Pull.{Pull}
use Rattle.ct_merge.proofs.Among.{In, in_left, in_right, in_either}
use Rattle.ct_merge.specs.Gathered.{Gathered, nothing, gathered, gathered_all, finished}
use Rattle.ct_merge.specs.Held.{ptable_rank}
use Rattle.ct_merge.specs.Placing.{best}
use Rattle.ct_merge.specs.Rule.{pparent, ptable_at, ptables_at, is_ptable_at}
use Rattle.ct_merge.specs.declared.held.HeldPTable.{HeldPTable}
use Rattle.ct_persist.specs.Persisted.{Persisted}
use Rattle.ct_rules_node.specs.Node.{Node, is_among, is_persistent, kind_at}
use Rattle.ct_rules_node.specs.Rounds.{store_from}
use Rattle.ct_register.specs.Database.{Database, contents_after}
use Rattle.ct_register.specs.Lines.{Lines}
use Rattle.ct_law_registers.proofs.Parts.{CanKeep}
use Rattle.ct_law_registers.proofs.Births.{store_found, listed_back}
use Rattle.ct_law_registers.proofs.Facts.{Has, bases, IsTold, table_after, Stands, MailStands, Holds, Heir}
use Rattle.ct_law_registers.proofs.Merges.{IsKept, tables_merged, some_greatest, best_kept, some_best}
use Rattle.ct_law_registers.proofs.Pulls.{cmp_flips}
use Rattle.ct_law_databases.proofs.Law.{Replied, ReplySays, Gathers, reply_of}
use Rattle.ct_law_databases.proofs.Lists.{only_one}

-- ---- one reply more

gathered_last : (pulls : List Pull) (pull : Pull) (x : Gathered) → gathered_all (pulls ++ pull ∷ []) x ≡ gathered pull (gathered_all pulls x)
gathered_last [] pull x = refl
gathered_last (p ∷ pulls) pull x = gathered_last pulls pull (gathered p x)

find_in : {X : Type 0} (at : X → Bool) (xs : List X) (y : X) → find at xs ≡ Some y → In y xs
find_in at [] y e = absurd (cc)
find_in at (x ∷ xs) y e = by (at x) e (find_in at xs y)
  where
    by : (b : Bool) → cond b (Some x) (find at xs) ≡ Some y → (find at xs ≡ Some y → In y xs) → In y (x ∷ xs)
    by true f rest = inl (let s : x ≡ y = cc in s)
    by false f rest = inr (rest f)

all_ordered : (ps : List Pull) → ((p : Pull) → In p ps → ascends ptable_before p.ptables ≡ true) → list_all (λ p. ascends ptable_before p.ptables) ps ≡ true
all_ordered [] h = refl
all_ordered (p ∷ ps) h = and_from (ascends ptable_before p.ptables) _ (h p (inl refl)) (all_ordered ps (λ q i. h q (inr i)))

-- how many commits of a database are kept: as many as the node has whose table is the best
unfoldable pub kept_in : Bool → Option HeldPTable → (ℕ → ℕ) → ℕ
kept_in true (Some h) has = has h.node
kept_in _ _ has = 0

-- ---- the last reply of a round

module _ (config : Config) (nodes : ℕ → Node) (fs : List Frame) (r : Lines) (has : Has) (n g : ℕ) (members missing : List ℕ) (y : Gathered) (p : Pull) (h : Holds config nodes (bases r) has) (mail : MailStands config (bases r) has fs)
    (replies : (f : Frame) → In f fs → ReplySays nodes (bases r) f.generation f.sender f.msg) (gathers : Gathers fs n g members missing y) (came : In (reply_of n g p) fs) (last : others p.node missing ≡ []) where
  -- all replies
  abbrev pub ps : List Pull
  ps = gathers.pulls ++ p ∷ []

  abbrev pub q : ℕ
  q = pparent ps

  pub all_gathered : gathered p y ≡ gathered_all ps nothing
  all_gathered = ap (gathered p) gathers.same ∙ sym (gathered_last gathers.pulls p nothing)

  sent : (z : Pull) → In z ps → In (reply_of n g z) fs
  sent z i = ⊎_elim (λ (k : In z gathers.pulls). gathers.sent z k) (λ (k : In z (p ∷ [])). by k) (in_either gathers.pulls (p ∷ []) z i)
    where
      by : In z (p ∷ []) → In (reply_of n g z) fs
      by (inl e) = subst (λ (w : Pull). In (reply_of n g w) fs) e came
      by (inr k) = absurd k

  p_in : In p ps
  p_in = in_right gathers.pulls (p ∷ []) p (inl refl)

  replied : (z : Pull) → In z ps → Replied nodes (bases r) g z.node z.pbase
  unfolding ReplySays
  replied z i = replies (reply_of n g z) (sent z i)

  stands : (z : Pull) → In z ps → (r.born z.pbase ≡ true) × (ascends ptable_before z.ptables ≡ true) × ((db : ℕ) → is_persistent (kind_at config db) ≡ true → IsTold (table_after db (has z.pbase z.node db) (r.databases z.pbase db)) z.ptables)
  unfolding Stands
  stands z i = mail (reply_of n g z) (sent z i)

  member_pull : (m : ℕ) → is_among m members ≡ true → (z : Pull) × In z ps × (z.node ≡ m)
  member_pull m among = ⊎_elim
      (λ (k : is_among m missing ≡ true). (p, p_in, sym (only_one m p.node missing last k)))
      (λ (k : (z : Pull) × In z gathers.pulls × (z.node ≡ m)). (k.0, in_left gathers.pulls (p ∷ []) k.0 k.1, k.2))
      (gathers.met m among)

  greatest_one : (z : Pull) × In z ps × (z.pbase ≡ q)
  greatest_one = some_greatest ps p p_in

  below : q < g
  below = (let o = (replied greatest_one.0 greatest_one.1).older in let e = greatest_one.2 in omega arith)

  pub parent_born : r.born q ≡ true
  parent_born = ap r.born (sym greatest_one.2) ∙ (stands greatest_one.0 greatest_one.1).0

  pub kept : ℕ → ℕ
  kept db = kept_in (is_persistent (kind_at config db)) (best ptable_rank (ptables_at db ps)) (λ m. has q m db)

  -- a member whose persistent line is the parent told of it
  told_parent : (m : ℕ) → is_among m members ≡ true → r.pline m ≡ q → (z : Pull) × In z ps × (z.node ≡ m) × (z.pbase ≡ q)
  told_parent m among line =
      let z = member_pull m among in
      let e : r.pline z.0.node ≡ q = ap r.pline z.2 ∙ line in
      (z.0, z.1, z.2, sym ((replied z.0 z.1).still (let b = below in omega arith)) ∙ e)

  module _ (db : ℕ) (kind : is_persistent (kind_at config db) ≡ true) where
    abbrev d : Database
    d = r.databases q db

    abbrev table : ℕ → PTable
    table m = table_after db (has q m db) d

    table_here : (m : ℕ) → is_ptable_at db (table m) ≡ true
    table_here m = cmp_flips db db ∙ eq-eqb db db refl

    one_table : (z : Pull) → In z ps → z.pbase ≡ q → In (table z.node) z.ptables × ((t : PTable) → In t z.ptables → is_ptable_at db t ≡ true → t ≡ table z.node)
    one_table z i e =
        let t = subst (λ (k : ℕ). IsTold (table_after db (has k z.node db) (r.databases k db)) z.ptables) e ((stands z i).2 db kind) in
        (find_in (is_ptable_at db) z.ptables (table z.node) t.found, t.only)

    the_best : (b : HeldPTable) × (best ptable_rank (ptables_at db ps) ≡ Some b)
    the_best = some_best ps db table one_table table_here p p_in

    is_best : IsKept ps db table one_table table_here the_best.0
    is_best = best_kept ps db table one_table table_here the_best.0 the_best.1

    kept_is : kept db ≡ has q the_best.0.node db
    unfolding kept kept_in
    kept_is = rw kind (rw the_best.1 refl)

    best_member : is_among the_best.0.node (r.members q) ≡ true
    best_member =
        let b = is_best.held in
        subst (λ (k : ℕ). is_among the_best.0.node (r.members k) ≡ true) b.base (subst (λ (m : ℕ). is_among m (r.members b.pull.pbase) ≡ true) b.node (replied b.pull b.among).member)

    pub kept_within : kept db ≤ length d.commits
    kept_within = (let e = kept_is in let w = (h.counted q db).within the_best.0.node in omega arith)

    kept_acked : d.acked ≤ kept db
    kept_acked = (let e = kept_is in let w = (h.counted q db).acked the_best.0.node best_member in omega arith)

    kept_seen : (m : ℕ) → is_among m members ≡ true → r.pline m ≡ q → d.seen m ≤ kept db
    kept_seen m among line =
        let z = told_parent m among line in
        let most = is_best.most z.0 z.1 z.3 in
        let same : has q z.0.node db ≡ has q m db = ap (λ (k : ℕ). has q k db) z.2 in
        let s = (h.counted q db).seen m in
        let e = kept_is in
        omega arith

    -- it is what a member had that told it in a later generation
    pub heir : Heir nodes (bases r) has q db (d.seq + kept db)
    heir =
        let b = is_best.held in
        let promised = subst (λ (m : ℕ). g ≤ (nodes m).promise) b.node (replied b.pull b.among).promised in
        let older = below in
        record { node = the_best.0.node; born = parent_born; member = best_member; later = omega arith; number = ap (λ (j : ℕ). d.seq + j) kept_is }

    -- whoever installs what is pushed has the base of the new line
    pub pushed_store : (tables : List PTable) (s : Persisted) → ptable_at db tables ≡ option_map (λ b. b.ptable) (best ptable_rank (ptables_at db ps)) → store_from db tables s ≡ record { seq = d.seq + kept db; pairs = contents_after (kept db) d }
    pushed_store tables s is =
        let e : ptable_at db tables ≡ Some (table the_best.0.node) = is ∙ ap (option_map (λ b. b.ptable)) the_best.1 ∙ ap (λ (t : PTable). Some t) is_best.held.is in
        store_found db tables (table the_best.0.node) s e
        ∙ (λ i. record { seq = d.seq + has q the_best.0.node db; pairs = listed_back (contents_after (has q the_best.0.node db) d) i })
        ∙ ap (λ (j : ℕ). record { seq = d.seq + j; pairs = contents_after j d }) (sym kept_is)

  other_kept : (db : ℕ) → is_persistent (kind_at config db) ≡ false → kept db ≡ 0
  unfolding kept kept_in
  other_kept db e = rw e refl

  pub can_keep : CanKeep r members q kept
  can_keep = record {
    within = λ db. ⊎_elim (λ (e : is_persistent (kind_at config db) ≡ true). kept_within db e) (λ (e : is_persistent (kind_at config db) ≡ false). (let k = other_kept db e in omega arith)) (cases_Bool (is_persistent (kind_at config db)));
    acked = λ db. ⊎_elim (λ (e : is_persistent (kind_at config db) ≡ true). kept_acked db e)
        (λ (e : is_persistent (kind_at config db) ≡ false). (let none : length (r.databases q db).commits ≡ 0 = ap length (h.others q db e) in let k = (h.counted q db).known in omega arith)) (cases_Bool (is_persistent (kind_at config db)));
    seen = λ db m among line. ⊎_elim (λ (e : is_persistent (kind_at config db) ≡ true). kept_seen db e m among line)
        (λ (e : is_persistent (kind_at config db) ≡ false). (let none : length (r.databases q db).commits ≡ 0 = ap length (h.others q db e) in let k = (h.counted q db).within m in let s = (h.counted q db).seen m in omega arith)) (cases_Bool (is_persistent (kind_at config db)));
  }

  pub merged_parent : (finished (gathered p y)).ptables.parent ≡ q
  merged_parent = ap (λ (z : Gathered). (finished z).ptables.parent) all_gathered ∙ (tables_merged ps (all_ordered ps (λ z i. (stands z i).1))).0

  pub merged_at : (db : ℕ) → ptable_at db (finished (gathered p y)).ptables.ptables ≡ option_map (λ b. b.ptable) (best ptable_rank (ptables_at db ps))
  merged_at db = ap (λ (z : Gathered). ptable_at db (finished z).ptables.ptables) all_gathered ∙ (tables_merged ps (all_ordered ps (λ z i. (stands z i).1))).2 db
