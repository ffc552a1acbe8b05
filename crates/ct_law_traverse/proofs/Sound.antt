-- What holds of the traverses that go on, and of their messages.
use Rattle.std.proofs.Common.{◌≡◌, ◌≢◌, ℕ, zero, suc, ◌+◌, ◌<◌, ◌≤◌, Bool, true, false, cond, List, [], ◌∷◌, ◌++◌, Option, None, Some, refl, sym, ap, ◌∙◌, subst, arith, inl, inr, ⊎_elim}
use Rattle.std.specs.Prelude.{◌⊎◌, ◌||◌, nat_eq, if◌then◌else◌, slice_get, slice_set}
use Rattle.std.specs.List.{AllByRecursion, filter, remove}
use Rattle.std.proofs.lemmas.Bool.{cases_Bool, cases_eq, eq-eqb, eqb-true, or_cases}
use Rattle.std.proofs.lemmas.List.{append-nil, append_assoc}
use Rattle.ct_frame.specs.declared.frame.TableRow.{TableRow}
use Rattle.ct_store.specs.Map.{Pairs}
use Rattle.ct_rules_node.specs.Node.{is_among}
use Rattle.ct_register.specs.Lines.{Lines}
use Rattle.ct_promise.specs.Marked.{AllMarks}
use Rattle.ct_law_readings.specs.Fresh.{IsMarked}
use Rattle.ct_law_readings.specs.Moments.{moment_of}
use Rattle.ct_traverse_parts.specs.Best.{gathered}
use Rattle.ct_traverse_parts.specs.Kept.{Batch, kept_of}
use Rattle.ct_traverse_parts.specs.Walk.{Walk, counts, is_same_pass, second_pass, with_rows, without_member}
use Rattle.ct_traverse_parts.specs.declared.line.Pass.{Pass}
use Rattle.ct_traverse_parts.specs.declared.line.Pass.TheVariants.{Copies, Entries}
use Rattle.ct_traverse_parts.specs.declared.best.Best.{Best}
use Rattle.ct_traverse_parts.specs.declared.post.Post.{Post}
use Rattle.ct_traverse_parts.specs.declared.traverse.Traverse.{Traverse}
use Rattle.ct_law_traverse.proofs.History.{Stage, last_lines, last_marks, all_lines, Comes, AtSome}
use Rattle.ct_law_traverse.proofs.Sights.{CopySight}
use Rattle.ct_law_traverse.proofs.Assembly.{HasOf, CopiesSeen, EntrySeen, EntriesSeen, IsAway}
use Rattle.ct_law_traverse.proofs.Snapshots.{kept_more}

-- what a traverse has behind it: the moments since it began, and the rows that counted, of each pass
pub record Past : Type 0 where
  pub lines : Lines
  pub marks : AllMarks
  pub stages : List Stage
  pub copies : List Batch
  pub entries : List Batch

-- ---- a message

-- its rows were read since the traverse began; those of entries, once the rows of copies were
unfoldable pub RowsSound : (g db : ℕ) → List ℕ → Past → ℕ → Pass → Option (List TableRow) → Type 0
RowsSound g db members h n pass None = Unit {0}
RowsSound g db members h n Copies (Some rows) = AtSome (CopySight g db n rows) h.lines h.marks h.stages
RowsSound g db members h n Entries (Some rows) = EntrySeen g db members h.lines h.marks h.stages h.copies n rows

-- a message of a traverse of this generation, database, members and pass
pub record PostSound (g db : ℕ) (members : List ℕ) (pass : Pass) (h : Past) (p : Post) : Type 0 where
  pub generation : p.generation ≡ g
  pub of_db : p.db ≡ db
  pub second : p.pass ≡ Entries → pass ≡ Entries
  pub rows : RowsSound g db members h p.sender p.pass p.rows

-- all messages of the traverse of this number
abbrev pub PostsSound : ℕ → (g db : ℕ) → List ℕ → Pass → Past → List Post → Type 0
PostsSound k g db members pass h posts = AllByRecursion (λ p. p.traverse ≡ k → PostSound g db members pass h p) posts

-- ---- a traverse

-- a member that is missing yet, or whose rows counted
unfoldable pub Waits : ℕ → List ℕ → List Batch → Type 0
Waits n missing bs = (is_among n missing ≡ true) ⊎ HasOf n bs

unfoldable pub PassSound : Pass → (members missing : List ℕ) → (copies entries : List Batch) → Type 0
PassSound Copies members missing copies entries = (entries ≡ []) × ((n : ℕ) → is_among n members ≡ true → Waits n missing copies)
PassSound Entries members missing copies entries = ((n : ℕ) → is_among n members ≡ true → HasOf n copies) × ((n : ℕ) → is_among n members ≡ true → Waits n missing entries)

-- what it has behind it, but for what its pass needs
pub record PastSound (g db : ℕ) (members : List ℕ) (r : Lines) (marks : AllMarks) (since : List Lines) (h : Past) : Type 0 where
  pub away : IsAway g db members h.marks
  pub marked : (key : List ℕ) → IsMarked (moment_of h.lines h.marks g db key)
  pub comes : (key : List ℕ) → Comes g db key h.lines h.marks h.stages
  pub now_lines : last_lines h.lines h.stages ≡ r
  pub now_marks : last_marks h.marks h.stages ≡ marks
  pub all : since ≡ all_lines h.lines h.stages
  pub born : r.born g ≡ true
  pub named : r.members g ≡ members

-- the rows that counted were read so, and what is kept is made of them
pub record RowsKept (g db : ℕ) (members : List ℕ) (kept : Pairs Best) (h : Past) : Type 0 where
  pub copies : CopiesSeen g db h.lines h.marks h.stages h.copies
  pub entries : EntriesSeen g db members h.lines h.marks h.stages h.copies h.entries
  pub made : kept ≡ kept_of (h.copies ++ h.entries) []

pub record Sound (t : Traverse) (r : Lines) (marks : AllMarks) (posts : List Post) (since : List Lines) (h : Past) : Type 0 where
  pub past : PastSound t.generation t.db t.members r marks since h
  pub rows : RowsKept t.generation t.db t.members t.kept h
  pub inside : (n : ℕ) → is_among n t.missing ≡ true → is_among n t.members ≡ true
  pub pass : PassSound t.pass t.members t.missing h.copies h.entries
  pub told : PostsSound t.number t.generation t.db t.members t.pass h posts

-- one that goes on
abbrev pub Goes : Lines → AllMarks → ℕ → List Post → (ℕ → List Lines) → Traverse → Type 0
Goes r marks begun posts since t = (t.number ≤ begun) × ((h : Past) × Sound t r marks posts (since t.number) h)

-- no two that go on have one number
unfoldable pub Apart : List Traverse → Type 0
Apart [] = Unit {0}
Apart (t ∷ ts) = AllByRecursion (λ u. t.number < u.number) ts × Apart ts

pub record WalkSound (r : Lines) (marks : AllMarks) (since : ℕ → List Lines) (walk : Walk) : Type 0 where
  pub running : AllByRecursion (Goes r marks walk.begun walk.posts since) walk.running
  pub apart : Apart walk.running
  pub numbers : AllByRecursion (λ p. p.traverse ≤ walk.begun) walk.posts

-- ---- lists

module _ {X : Type 0} where
  pub each_so : (P Q : X → Type 0) → ((x : X) → P x → Q x) → (xs : List X) → AllByRecursion P xs → AllByRecursion Q xs
  each_so P Q f [] h = tt
  each_so P Q f (x ∷ xs) h = (f x h.0, each_so P Q f xs h.1)

  pub each_both : (P : X → Type 0) (xs ys : List X) → AllByRecursion P xs → AllByRecursion P ys → AllByRecursion P (xs ++ ys)
  each_both P [] ys h k = k
  each_both P (x ∷ xs) ys h k = (h.0, each_both P xs ys h.1 k)

  pub each_filter : (P : X → Type 0) (test : X → Bool) (xs : List X) → AllByRecursion P xs → AllByRecursion P (filter test xs)
  each_filter P test [] h = tt
  each_filter P test (x ∷ xs) h = ⊎_elim
      (λ (t : test x ≡ true). rw t (h.0, each_filter P test xs h.1))
      (λ (f : test x ≡ false). rw f (each_filter P test xs h.1))
      (cases_Bool (test x))

  pub each_set : (P : X → Type 0) (xs : List X) (i : ℕ) (y : X) → P y → AllByRecursion P xs → AllByRecursion P (slice_set xs i y)
  each_set P [] i y p h = tt
  each_set P (x ∷ xs) zero y p h = (p, h.1)
  each_set P (x ∷ xs) (suc i) y p h = (h.0, each_set P xs i y p h.1)

  pub each_got : (P : X → Type 0) (xs : List X) (i : ℕ) (y : X) → slice_get xs i ≡ Some y → AllByRecursion P xs → P y
  each_got P [] i y e h = absurd (cc)
  each_got P (x ∷ xs) zero y e h = (let same : x ≡ y = cc in subst (λ (z : X). P z) same h.0)
  each_got P (x ∷ xs) (suc i) y e h = each_got P xs i y e h.1

  pub each_removed : (P : X → Type 0) (xs : List X) (i : ℕ) → AllByRecursion P xs → AllByRecursion P (remove xs i)
  each_removed P [] i h = tt_of i
    where
      tt_of : (i : ℕ) → AllByRecursion P (remove {X = X} [] i)
      tt_of zero = tt
      tt_of (suc i) = tt
  each_removed P (x ∷ xs) zero h = h.1
  each_removed P (x ∷ xs) (suc i) h = (h.0, each_removed P xs i h.1)

  pub got_first : (xs ys : List X) (i : ℕ) (x : X) → slice_get xs i ≡ Some x → slice_get (xs ++ ys) i ≡ Some x
  got_first [] ys i x e = absurd (cc)
  got_first (y ∷ xs) ys zero x e = e
  got_first (y ∷ xs) ys (suc i) x e = got_first xs ys i x e

-- ---- no two have one number

pub apart_filter : (test : Traverse → Bool) (ts : List Traverse) → Apart ts → Apart (filter test ts)
unfolding Apart
apart_filter test [] h = tt
apart_filter test (t ∷ ts) h = ⊎_elim
    (λ (e : test t ≡ true). rw e (each_filter (λ (u : Traverse). t.number < u.number) test ts h.0, apart_filter test ts h.1))
    (λ (e : test t ≡ false). rw e (apart_filter test ts h.1))
    (cases_Bool (test t))

pub apart_removed : (ts : List Traverse) (i : ℕ) → Apart ts → Apart (remove ts i)
unfolding Apart
apart_removed [] zero h = tt
apart_removed [] (suc i) h = tt
apart_removed (t ∷ ts) zero h = h.1
apart_removed (t ∷ ts) (suc i) h = (each_removed (λ (u : Traverse). t.number < u.number) ts i h.0, apart_removed ts i h.1)

pub apart_more : (ts : List Traverse) (u : Traverse) → AllByRecursion (λ t. t.number < u.number) ts → Apart ts → Apart (ts ++ u ∷ [])
unfolding Apart
apart_more [] u h k = (tt, tt)
apart_more (t ∷ ts) u h k = (each_both (λ (v : Traverse). t.number < v.number) ts (u ∷ []) k.0 (h.0, tt), apart_more ts u h.1 k.1)

pub apart_set : (ts : List Traverse) (i : ℕ) (t u : Traverse) → slice_get ts i ≡ Some t → u.number ≡ t.number → Apart ts → Apart (slice_set ts i u)
unfolding Apart
apart_set [] i t u e is h = absurd (cc)
apart_set (x ∷ ts) zero t u e is h = (each_so (λ (v : Traverse). x.number < v.number) (λ (v : Traverse). u.number < v.number) (λ v lt. (let same : x ≡ t = cc in let n = ap (λ (z : Traverse). z.number) same in omega arith)) ts h.0, h.1)
apart_set (x ∷ ts) (suc i) t u e is h = (
  each_set (λ (v : Traverse). x.number < v.number) ts i u (let lt = each_got (λ (v : Traverse). x.number < v.number) ts i t e h.0 in omega arith) h.0,
  apart_set ts i t u e is h.1,
)

-- one is changed, and what holds of the others holds of them still, since they have other numbers
pub others_set : (P Q : Traverse → Type 0) (ts : List Traverse) (i : ℕ) (t u : Traverse) → slice_get ts i ≡ Some t → Apart ts → AllByRecursion P ts → ((v : Traverse) → v.number ≢ t.number → P v → Q v) → Q u → AllByRecursion Q (slice_set ts i u)
unfolding Apart
others_set P Q [] i t u e a h f q = tt
others_set P Q (x ∷ ts) zero t u e a h f q = (q, above ts a.0 h.1)
  where
    above : (vs : List Traverse) → AllByRecursion (λ (v : Traverse). x.number < v.number) vs → AllByRecursion P vs → AllByRecursion Q vs
    above [] k p = tt
    above (v ∷ vs) k p = (f v (λ is. absurd (let same : x ≡ t = cc in let n = ap (λ (z : Traverse). z.number) same in let lt = k.0 in omega arith)) p.0, above vs k.1 p.1)
others_set P Q (x ∷ ts) (suc i) t u e a h f q = (
  f x (λ is. absurd (let lt = each_got (λ (v : Traverse). x.number < v.number) ts i t e a.0 in omega arith)) h.0,
  others_set P Q ts i t u e a.1 h.1 f q,
)

pub others_removed : (P Q : Traverse → Type 0) (ts : List Traverse) (i : ℕ) → AllByRecursion P ts → ((v : Traverse) → P v → Q v) → AllByRecursion Q (remove ts i)
others_removed P Q ts i h f = each_removed Q ts i (each_so P Q f ts h)

-- ---- rows count

pub same_is : (a b : Pass) → is_same_pass a b ≡ true → a ≡ b
same_is Copies Copies e = refl
same_is Copies Entries e = absurd (cc)
same_is Entries Copies e = absurd (cc)
same_is Entries Entries e = refl

or_more : (a b : Bool) → b ≡ true → (a || b) ≡ true
or_more true b t = refl
or_more false b t = t

pub without_inside : (k n : ℕ) (ms : List ℕ) → is_among n (without_member k ms) ≡ true → is_among n ms ≡ true
unfolding without_member is_among
without_inside k n [] e = e
without_inside k n (m ∷ ms) e = ⊎_elim
    (λ (t : nat_eq m k ≡ true). or_more (nat_eq n m) (is_among n ms) (without_inside k n ms (subst (λ (b : Bool). is_among n (cond b (without_member k ms) (m ∷ without_member k ms)) ≡ true) t e)))
    (λ (f : nat_eq m k ≡ false). by (subst (λ (b : Bool). is_among n (cond b (without_member k ms) (m ∷ without_member k ms)) ≡ true) f e) (λ rest. without_inside k n ms rest))
    (cases_Bool (nat_eq m k))
  where
    by : (nat_eq n m || is_among n (without_member k ms)) ≡ true → (is_among n (without_member k ms) ≡ true → is_among n ms ≡ true) → (nat_eq n m || is_among n ms) ≡ true
    by t rest = ⊎_elim
        (λ (own : nat_eq n m ≡ true). rw own refl)
        (λ (later : is_among n (without_member k ms) ≡ true). or_more (nat_eq n m) (is_among n ms) (rest later))
        (or_cases (nat_eq n m) (is_among n (without_member k ms)) t)

-- who was missing is missing still, or is the one that is not
pub without_other : (k n : ℕ) (ms : List ℕ) → is_among n ms ≡ true → (is_among n (without_member k ms) ≡ true) ⊎ (k ≡ n)
unfolding without_member is_among
without_other k n [] e = absurd (cc)
without_other k n (m ∷ ms) e = ⊎_elim
    (λ (own : nat_eq n m ≡ true). ⊎_elim
    (λ (t : nat_eq m k ≡ true). inr (let a = eqb-true n m own in let b = eqb-true m k t in omega arith))
    (λ (f : nat_eq m k ≡ false). inl (rw f (rw own refl)))
    (cases_Bool (nat_eq m k)))
    (λ (rest : is_among n ms ≡ true). ⊎_elim
    (λ (there : is_among n (without_member k ms) ≡ true). inl (⊎_elim
    (λ (t : nat_eq m k ≡ true). rw t there)
    (λ (f : nat_eq m k ≡ false). rw f (or_more (nat_eq n m) (is_among n (without_member k ms)) there))
    (cases_Bool (nat_eq m k))))
    (λ (is : k ≡ n). inr is)
    (without_other k n ms rest))
    (or_cases (nat_eq n m) (is_among n ms) e)

has_more : (n : ℕ) (bs : List Batch) (b : Batch) → HasOf n bs → HasOf n (bs ++ b ∷ [])
unfolding HasOf
has_more n [] b h = absurd h
has_more n (c ∷ bs) b h = ⊎_elim (λ (is : c.node ≡ n). inl is) (λ (rest : HasOf n bs). inr (has_more n bs b rest)) h

has_own : (bs : List Batch) (b : Batch) → HasOf b.node (bs ++ b ∷ [])
unfolding HasOf
has_own [] b = inl refl
has_own (c ∷ bs) b = inr (has_own bs b)

waits_on : (n : ℕ) (missing : List ℕ) (bs : List Batch) (b : Batch) → Waits n missing bs → Waits n (without_member b.node missing) (bs ++ b ∷ [])
unfolding Waits
waits_on n missing bs b w = ⊎_elim
    (λ (m : is_among n missing ≡ true). ⊎_elim
    (λ (there : is_among n (without_member b.node missing) ≡ true). inl there)
    (λ (is : b.node ≡ n). inr (subst (λ (k : ℕ). HasOf k (bs ++ b ∷ [])) is (has_own bs b)))
    (without_other b.node n missing m))
    (λ (has : HasOf n bs). inr (has_more n bs b has))
    w

-- the past with rows of copies more, or of entries
pub with_copies : Batch → Past → Past
with_copies b h = record h { copies = h.copies ++ b ∷ [] }

pub with_entries : Batch → Past → Past
with_entries b h = record h { entries = h.entries ++ b ∷ [] }

no_entries : (bs es : List Batch) → es ≡ [] → bs ++ es ≡ bs
no_entries bs es e = ap (λ (l : List Batch). bs ++ l) e ∙ append-nil bs

pub batch_of : Pass → ℕ → List TableRow → Batch
batch_of pass n rows = record { pass = pass; node = n; rows = rows }

-- rows of copies count
pub copies_count : (g db : ℕ) (members missing : List ℕ) (kept : Pairs Best) (h : Past) (n : ℕ) (rows : List TableRow) → RowsKept g db members kept h → PassSound Copies members missing h.copies h.entries → AtSome (CopySight g db n rows) h.lines h.marks h.stages →
    let k = with_copies (batch_of Copies n rows) h in RowsKept g db members (gathered Copies n rows kept) k × PassSound Copies members (without_member n missing) k.copies k.entries
unfolding PassSound with_copies batch_of
copies_count g db members missing kept h n rows c p seen =
    let b : Batch = batch_of Copies n rows in (
      record {
        copies = each_both (λ (x : Batch). (x.pass ≡ Copies) × AtSome (CopySight g db x.node x.rows) h.lines h.marks h.stages) h.copies (b ∷ []) c.copies ((refl, seen), tt);
        entries = subst (λ (l : List Batch). EntriesSeen g db members h.lines h.marks h.stages (h.copies ++ b ∷ []) l) (sym p.0) tt;
        made = ap (λ (m : Pairs Best). gathered Copies n rows m) (c.made ∙ ap (λ (l : List Batch). kept_of l []) (no_entries h.copies h.entries p.0)) ∙ sym (kept_more h.copies b []) ∙ ap (λ (l : List Batch). kept_of l []) (sym (no_entries (h.copies ++ b ∷ []) h.entries p.0));
      },
      (p.0, λ m is. waits_on m missing h.copies b (p.1 m is)),
    )

-- rows of entries count
pub entries_count : (g db : ℕ) (members missing : List ℕ) (kept : Pairs Best) (h : Past) (n : ℕ) (rows : List TableRow) → RowsKept g db members kept h → PassSound Entries members missing h.copies h.entries → EntrySeen g db members h.lines h.marks h.stages h.copies n rows →
    let k = with_entries (batch_of Entries n rows) h in RowsKept g db members (gathered Entries n rows kept) k × PassSound Entries members (without_member n missing) k.copies k.entries
unfolding PassSound with_entries batch_of
entries_count g db members missing kept h n rows c p seen =
    let b : Batch = batch_of Entries n rows in (
      record {
        copies = c.copies;
        entries = each_both (λ (x : Batch). (x.pass ≡ Entries) × EntrySeen g db members h.lines h.marks h.stages h.copies x.node x.rows) h.entries (b ∷ []) c.entries ((refl, seen), tt);
        made = ap (λ (m : Pairs Best). gathered Entries n rows m) c.made ∙ sym (kept_more (h.copies ++ h.entries) b []) ∙ ap (λ (l : List Batch). kept_of l []) (append_assoc h.copies h.entries (b ∷ []));
      },
      (p.0, λ m is. waits_on m missing h.entries b (p.1 m is)),
    )

-- messages say what they said where rows of copies count: none is of the second pass
post_copies : (g db : ℕ) (members : List ℕ) (b : Batch) (h : Past) (p : Post) → PostSound g db members Copies h p → PostSound g db members Copies (with_copies b h) p
unfolding RowsSound with_copies
post_copies g db members b h p s = record { generation = s.generation; of_db = s.of_db; second = s.second; rows = by p.pass p.rows (λ e. absurd (let f : Copies ≡ Entries = s.second e in cc)) s.rows }
  where
    by : (pass : Pass) (o : Option (List TableRow)) → (pass ≡ Entries → ⊥) → RowsSound g db members h p.sender pass o → RowsSound g db members (with_copies b h) p.sender pass o
    by pass None ne x = tt
    by Copies (Some rows) ne x = x
    by Entries (Some rows) ne x = absurd (ne refl)

pub posts_copies : (k g db : ℕ) (members : List ℕ) (b : Batch) (h : Past) (posts : List Post) → PostsSound k g db members Copies h posts → PostsSound k g db members Copies (with_copies b h) posts
posts_copies k g db members b h posts s = each_so (λ (p : Post). p.traverse ≡ k → PostSound g db members Copies h p) (λ (p : Post). p.traverse ≡ k → PostSound g db members Copies (with_copies b h) p) (λ p f is. post_copies g db members b h p (f is)) posts s

post_entries : (g db : ℕ) (members : List ℕ) (pass : Pass) (b : Batch) (h : Past) (p : Post) → PostSound g db members pass h p → PostSound g db members pass (with_entries b h) p
unfolding RowsSound with_entries
post_entries g db members pass b h p s = record { generation = s.generation; of_db = s.of_db; second = s.second; rows = by p.pass p.rows s.rows }
  where
    by : (pass : Pass) (o : Option (List TableRow)) → RowsSound g db members h p.sender pass o → RowsSound g db members (with_entries b h) p.sender pass o
    by pass None x = tt
    by Copies (Some rows) x = x
    by Entries (Some rows) x = x

pub posts_entries : (k g db : ℕ) (members : List ℕ) (pass : Pass) (b : Batch) (h : Past) (posts : List Post) → PostsSound k g db members pass h posts → PostsSound k g db members pass (with_entries b h) posts
posts_entries k g db members pass b h posts s = each_so (λ (p : Post). p.traverse ≡ k → PostSound g db members pass h p) (λ (p : Post). p.traverse ≡ k → PostSound g db members pass (with_entries b h) p) (λ p f is. post_entries g db members pass b h p (f is)) posts s

-- the second pass begins
pub posts_second : (k g db : ℕ) (members : List ℕ) (pass : Pass) (h : Past) (posts : List Post) → PostsSound k g db members pass h posts → PostsSound k g db members Entries h posts
posts_second k g db members pass h posts s = each_so (λ (p : Post). p.traverse ≡ k → PostSound g db members pass h p) (λ (p : Post). p.traverse ≡ k → PostSound g db members Entries h p)
    (λ p f is. (let x = f is in record { generation = x.generation; of_db = x.of_db; second = λ e. refl; rows = x.rows })) posts s

-- rows of a traverse count
past_same : (g db : ℕ) (members : List ℕ) (r : Lines) (marks : AllMarks) (since : List Lines) (h k : Past) → k.lines ≡ h.lines → k.marks ≡ h.marks → k.stages ≡ h.stages → PastSound g db members r marks since h → PastSound g db members r marks since k
past_same g db members r marks since h k lines_same marks_same stages_same s = record {
  away = subst (λ (x : AllMarks). IsAway g db members x) (sym marks_same) s.away;
  marked = λ key. subst (λ (x : Lines). IsMarked (moment_of x k.marks g db key)) (sym lines_same) (subst (λ (x : AllMarks). IsMarked (moment_of h.lines x g db key)) (sym marks_same) (s.marked key));
  comes = λ key. subst (λ (x : Lines). Comes g db key x k.marks k.stages) (sym lines_same) (subst (λ (x : AllMarks). Comes g db key h.lines x k.stages) (sym marks_same) (subst (λ (x : List Stage). Comes g db key h.lines h.marks x) (sym stages_same) (s.comes key)));
  now_lines = subst (λ (x : Lines). last_lines x k.stages ≡ r) (sym lines_same) (subst (λ (x : List Stage). last_lines h.lines x ≡ r) (sym stages_same) s.now_lines);
  now_marks = subst (λ (x : AllMarks). last_marks x k.stages ≡ marks) (sym marks_same) (subst (λ (x : List Stage). last_marks h.marks x ≡ marks) (sym stages_same) s.now_marks);
  all = subst (λ (x : Lines). since ≡ all_lines x k.stages) (sym lines_same) (subst (λ (x : List Stage). since ≡ all_lines h.lines x) (sym stages_same) s.all);
  born = s.born;
  named = s.named;
}

pub rows_count : (t : Traverse) (r : Lines) (marks : AllMarks) (posts : List Post) (since : List Lines) (h : Past) (pass : Pass) (n : ℕ) (rows : List TableRow) → t.pass ≡ pass → Sound t r marks posts since h → RowsSound t.generation t.db t.members h n pass (Some rows) →
    (k : Past) × Sound (record t { missing = without_member n t.missing; kept = gathered pass n rows t.kept }) r marks posts since k
unfolding RowsSound with_copies with_entries
rows_count t r marks posts since h Copies n rows is s seen =
    let c = copies_count t.generation t.db t.members t.missing t.kept h n rows s.rows (subst (λ (p : Pass). PassSound p t.members t.missing h.copies h.entries) is s.pass) seen in
    let k : Past = with_copies (batch_of Copies n rows) h in (
      k,
      record {
        past = past_same t.generation t.db t.members r marks since h k refl refl refl s.past;
        rows = c.0;
        inside = λ m e. s.inside m (without_inside n m t.missing e);
        pass = subst (λ (p : Pass). PassSound p t.members (without_member n t.missing) k.copies k.entries) (sym is) c.1;
        told = subst (λ (p : Pass). PostsSound t.number t.generation t.db t.members p k posts) (sym is)
            (posts_copies t.number t.generation t.db t.members (batch_of Copies n rows) h posts (subst (λ (p : Pass). PostsSound t.number t.generation t.db t.members p h posts) is s.told));
      },
    )
rows_count t r marks posts since h Entries n rows is s seen =
    let c = entries_count t.generation t.db t.members t.missing t.kept h n rows s.rows (subst (λ (p : Pass). PassSound p t.members t.missing h.copies h.entries) is s.pass) seen in
    let k : Past = with_entries (batch_of Entries n rows) h in (
      k,
      record {
        past = past_same t.generation t.db t.members r marks since h k refl refl refl s.past;
        rows = c.0;
        inside = λ m e. s.inside m (without_inside n m t.missing e);
        pass = subst (λ (p : Pass). PassSound p t.members (without_member n t.missing) k.copies k.entries) (sym is) c.1;
        told = posts_entries t.number t.generation t.db t.members t.pass (batch_of Entries n rows) h posts s.told;
      },
    )

-- all have answered the first pass, and the second one begins
pub second_begins : (t : Traverse) (r : Lines) (marks : AllMarks) (posts : List Post) (since : List Lines) (h : Past) → t.pass ≡ Copies → t.missing ≡ [] → Sound t r marks posts since h → Sound (second_pass t) r marks posts since h
unfolding PassSound Waits is_among
second_begins t r marks posts since h is none s =
    let p : PassSound Copies t.members t.missing h.copies h.entries = subst (λ (p : Pass). PassSound p t.members t.missing h.copies h.entries) is s.pass in record {
      past = s.past;
      rows = s.rows;
      inside = λ n e. e;
      pass = (
        (λ n e. ⊎_elim (λ (m : is_among n t.missing ≡ true). absurd (let f : is_among n [] ≡ true = subst (λ (l : List ℕ). is_among n l ≡ true) none m in cc)) (λ (has : HasOf n h.copies). has) (p.1 n e)),
        (λ n e. inl e),
      );
      told = posts_second t.number t.generation t.db t.members t.pass h posts s.told;
    }
