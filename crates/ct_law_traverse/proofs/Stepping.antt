-- A step of the cluster: each traverse has one moment more behind it, and those end whose node is in its generation no more.
use Rattle.std.proofs.Common.{◌≡◌, ℕ, ◌≤◌, Bool, true, false, List, [], ◌∷◌, ◌++◌, Option, None, Some, refl, sym, ap, ◌∙◌, subst, ⊎_elim}
use Rattle.std.specs.List.{AllByRecursion, filter}
use Rattle.std.proofs.lemmas.List.{append_assoc}
use Rattle.ct_frame.specs.declared.frame.TableRow.{TableRow}
use Rattle.ct_rules_cluster.specs.Cluster.{Cluster}
use Rattle.ct_rules_cluster.specs.Labels.{Label}
use Rattle.ct_register.specs.Lines.{Lines}
use Rattle.ct_register.specs.Marks.{MarksStep}
use Rattle.ct_promise.specs.Marked.{AllMarks, MarksHold, MarksGoOn, is_removed}
use Rattle.ct_law_readings.specs.Readings.{VersionsGoOn, VersionsStep}
use Rattle.ct_traverse_parts.specs.Kept.{Batch}
use Rattle.ct_traverse_parts.specs.Walk.{Walk}
use Rattle.ct_traverse_parts.specs.declared.line.Pass.{Pass}
use Rattle.ct_traverse_parts.specs.declared.line.Pass.TheVariants.{Copies, Entries}
use Rattle.ct_traverse_parts.specs.declared.post.Post.{Post}
use Rattle.ct_traverse_parts.specs.declared.traverse.Traverse.{Traverse}
use Rattle.ct_law_traverse.proofs.History.{Stage, last_lines, last_marks, all_lines, last_lines_more, last_marks_more, lines_more, Comes, comes_more, AtSome, some_front}
use Rattle.ct_law_traverse.proofs.Sights.{CopySight, EntrySight}
use Rattle.ct_law_traverse.proofs.Assembly.{CopiesSeen, EntrySeen, EntriesSeen}
use Rattle.ct_law_traverse.proofs.Members.{Counted, Stays}
use Rattle.ct_law_traverse.proofs.Sound.{Past, RowsSound, PostSound, PostsSound, PastSound, RowsKept, PassSound, Sound, Goes, WalkSound, each_so, each_filter, apart_filter}

module _ (r : Lines) (marks : AllMarks) (labels : List Label) (w : Cluster) (s : Lines) (after : AllMarks) (stays : Stays r s) (go : MarksGoOn r labels marks after) (versions : VersionsGoOn r labels s) (hold : MarksHold w s after) where
  stage : Stage
  stage = record { lines = s; marks = after; removed = λ g db key. is_removed r g db key labels }

  longer : Past → Past
  longer h = record h { stages = h.stages ++ stage ∷ [] }

  past_longer : (g db : ℕ) (members : List ℕ) (since : List Lines) (h : Past) → PastSound g db members r marks since h → PastSound g db members s after (since ++ s ∷ []) (longer h)
  unfolding longer stage
  past_longer g db members since h p = record {
    away = p.away;
    marked = p.marked;
    comes = λ key. comes_more g db key h.lines h.marks h.stages stage (p.comes key)
        (subst (λ (x : AllMarks). MarksStep (is_removed r g db key labels) (x g db key) (after g db key)) (sym p.now_marks) (go g p.born db key))
        (subst (λ (x : Lines). VersionsStep (is_removed r g db key labels) (x.records g db key).versions (s.records g db key).versions) (sym p.now_lines) (versions g db key p.born))
        ((hold g).marked db key (stays.born g p.born));
    now_lines = last_lines_more h.lines h.stages stage;
    now_marks = last_marks_more h.marks h.stages stage;
    all = ap (λ (l : List Lines). l ++ s ∷ []) p.all ∙ ap (λ (l : List Lines). h.lines ∷ l) (sym (lines_more h.stages stage));
    born = stays.born g p.born;
    named = stays.members g p.born ∙ p.named;
  }

  copies_longer : (g db : ℕ) (q : Lines) (ms : AllMarks) (ss ts : List Stage) (bs : List Batch) → CopiesSeen g db q ms ss bs → CopiesSeen g db q ms (ss ++ ts) bs
  copies_longer g db q ms ss ts bs h = each_so (λ (b : Batch). (b.pass ≡ Copies) × AtSome (CopySight g db b.node b.rows) q ms ss) (λ (b : Batch). (b.pass ≡ Copies) × AtSome (CopySight g db b.node b.rows) q ms (ss ++ ts))
      (λ b x. (x.0, some_front (CopySight g db b.node b.rows) q ms ss ts x.1)) bs h

  entry_longer : (g db : ℕ) (members : List ℕ) (q : Lines) (ms : AllMarks) (ss ts : List Stage) (copies : List Batch) (n : ℕ) (rows : List TableRow) → EntrySeen g db members q ms ss copies n rows → EntrySeen g db members q ms (ss ++ ts) copies n rows
  entry_longer g db members q ms ss ts copies n rows e = record {
    early = e.early;
    late = e.late ++ ts;
    parts = ap (λ (l : List Stage). l ++ ts) e.parts ∙ append_assoc e.early e.late ts;
    seen = e.seen;
    sight = e.sight;
  }

  rows_longer : (g db : ℕ) (members : List ℕ) (h : Past) (n : ℕ) (pass : Pass) (o : Option (List TableRow)) → RowsSound g db members h n pass o → RowsSound g db members (longer h) n pass o
  unfolding RowsSound longer
  rows_longer g db members h n pass None x = tt
  rows_longer g db members h n Copies (Some rows) x = some_front (CopySight g db n rows) h.lines h.marks h.stages (stage ∷ []) x
  rows_longer g db members h n Entries (Some rows) x = entry_longer g db members h.lines h.marks h.stages (stage ∷ []) h.copies n rows x

  sound_longer : (t : Traverse) (posts : List Post) (since : List Lines) (h : Past) → Sound t r marks posts since h → Sound t s after posts (since ++ s ∷ []) (longer h)
  unfolding longer
  sound_longer t posts since h x = record {
    past = past_longer t.generation t.db t.members since h x.past;
    rows = record {
      copies = copies_longer t.generation t.db h.lines h.marks h.stages (stage ∷ []) h.copies x.rows.copies;
      entries = each_so (λ (b : Batch). (b.pass ≡ Entries) × EntrySeen t.generation t.db t.members h.lines h.marks h.stages h.copies b.node b.rows) (λ (b : Batch). (b.pass ≡ Entries) × EntrySeen t.generation t.db t.members h.lines h.marks (h.stages ++ stage ∷ []) h.copies b.node b.rows)
          (λ b e. (e.0, entry_longer t.generation t.db t.members h.lines h.marks h.stages (stage ∷ []) h.copies b.node b.rows e.1)) h.entries x.rows.entries;
      made = x.rows.made;
    };
    inside = x.inside;
    pass = x.pass;
    told = each_so (λ (p : Post). p.traverse ≡ t.number → PostSound t.generation t.db t.members t.pass h p) (λ (p : Post). p.traverse ≡ t.number → PostSound t.generation t.db t.members t.pass (longer h) p)
        (λ p f is. (let q = f is in record { generation = q.generation; of_db = q.of_db; second = q.second; rows = rows_longer t.generation t.db t.members h p.sender p.pass p.rows q.rows })) posts x.told;
  }

  pub step_sound : (since : ℕ → List Lines) (walk : Walk) (test : Traverse → Bool) → WalkSound r marks since walk → WalkSound s after (λ k. since k ++ s ∷ []) (record walk { running = filter test walk.running })
  step_sound since walk test h = record {
    running = each_filter (Goes s after walk.begun walk.posts (λ k. since k ++ s ∷ [])) test walk.running
        (each_so (Goes r marks walk.begun walk.posts since) (Goes s after walk.begun walk.posts (λ k. since k ++ s ∷ [])) (λ t x. (x.0, (longer x.1.0, sound_longer t walk.posts (since t.number) x.1.0 x.1.1))) walk.running h.running);
    apart = apart_filter test walk.running h.apart;
    numbers = h.numbers;
  }
