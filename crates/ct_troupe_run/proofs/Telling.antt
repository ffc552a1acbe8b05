-- One column's text, and those of all.
use Rattle.std.proofs.Common.{◌≡◌, ◌∙◌, ℕ, zero, suc, ◌+◌, ◌<◌, ◌≤◌, List, [], ◌∷◌, ◌++◌, length, take, drop, get_or, Option, None, Some, Result, Ok, Err, refl, sym, ap, ap₂, subst, append_assoc, append-nil, arith}
use Rattle.std.specs.Prelude.{All, slice_get}
use Rattle.std.specs.Io.KnownBytes.{Appends}
use Rattle.std.proofs.KnownBytes.{Appends-nil, Appends-trans}
use Rattle.std.proofs.lemmas.List.{length-take-le, take-append-drop, take_all, take_more}
use Rattle.std.proofs.lemmas.List.Elements.{All-get_or}
use Rattle.std.proofs.lemmas.Option.{get_or_from_slice_get, slice_get_read, slice_get_within}
use Rattle.ct_outside.specs.Causes.{AppendsPart}
use Rattle.ct_outside.specs.declared.fault.SinkFault.{SinkFault}
use Rattle.ct_call.specs.Rules.{Rules}
use Rattle.ct_script.specs.declared.plan.Plan.{Plan}
use Rattle.ct_journal.specs.Order.{all_entries}
use Rattle.ct_journal.specs.declared.journal.Journal.{Journal}
use Rattle.ct_script.specs.Sound.{IsSound}
use Rattle.ct_troupe.specs.Played.{ArePlayed}
use Rattle.ct_troupe_run.specs.Text.{IsRunText}
use Rattle.ct_troupe_run.proofs.Told.{has_text}
use Rattle.ct_troupe.specs.Columns.{ArePlayedIn}
use Rattle.ct_troupe_run.specs.Columns.{AreColumns, Column, IsColumn, IsTold, WritesColumn, WritesColumns, all_counts, both_counts, column_text, columns_text}
use Rattle.ct_troupe_run.specs.declared.columns.Counts.{Counts}

-- ---- one column

-- what is told of journals that were played is told of a column
pub is_column : (rules : Rules) (p : Plan) (i : ℕ) (js : List Journal) (lines text : List ℕ) (counts : Counts) → IsRunText rules p js lines counts.frames → counts.entries ≡ length (all_entries js) → text ≡ column_text i lines → IsTold rules p i js text counts
is_column rules p i js lines text counts run entries is = (record { lines = lines; counts = counts }, record { run = run; entries = entries }, is, refl)

-- there is a column of journals that were played
has_column : (rules : Rules) (p : Plan) (js : List Journal) → IsSound p → ArePlayed rules p js → (x : Column) × IsColumn rules p js x
has_column rules p js sound a =
    let t = has_text rules p js sound a in
    (record { lines = t.0; counts = record { entries = length (all_entries js); frames = t.1 } }, record { run = t.2; entries = refl })

pub all_written : (rules : Rules) (p : Plan) (i : ℕ) (js : List Journal) (text : List ℕ) (counts : Counts) (before now : Option (List ℕ)) → IsTold rules p i js text counts → Appends before now text → WritesColumn rules p i js (Ok counts) before now
all_written rules p i js text counts before now told w = (told.0, told.1, told.3, subst (λ (t : List ℕ). Appends before now t) told.2 w)

pub part_written : (rules : Rules) (p : Plan) (i : ℕ) (js : List Journal) (text : List ℕ) (counts : Counts) (f : SinkFault) (before now : Option (List ℕ)) → IsTold rules p i js text counts → AppendsPart before now text → WritesColumn rules p i js (Err f) before now
part_written rules p i js text counts f before now told w = (told.0, told.1, subst (λ (t : List ℕ). AppendsPart before now t) told.2 w)

pub none_written : (rules : Rules) (p : Plan) (i : ℕ) (js : List Journal) (f : SinkFault) (now : Option (List ℕ)) → IsSound p → ArePlayed rules p js → WritesColumn rules p i js (Err f) now now
none_written rules p i js f now sound a = let h = has_column rules p js sound a in (h.0, h.1, ([], column_text i h.0.lines, refl, Appends-nil now))

-- ---- all columns

module _ (rules : Rules) (told : ℕ → List Journal) where
  -- columns, and then others
  columns_on : (i : ℕ) (ps qs : List Plan) (xs ys : List Column) → AreColumns rules i ps told xs → AreColumns rules (i + length ps) qs told ys → AreColumns rules i (ps ++ qs) told (xs ++ ys)
  columns_on i [] qs [] ys h k = subst (λ (j : ℕ). AreColumns rules j qs told ys) (omega arith) k
  columns_on i [] qs (x ∷ xs) ys h k = absurd h
  columns_on i (p ∷ ps) qs [] ys h k = absurd h
  columns_on i (p ∷ ps) qs (x ∷ xs) ys h k = (h.0, columns_on (i + 1) ps qs xs ys h.1 (subst (λ (j : ℕ). AreColumns rules j qs told ys) (omega arith) k))

  length_columns : (i : ℕ) (ps : List Plan) (xs : List Column) → AreColumns rules i ps told xs → length xs ≡ length ps
  length_columns i [] [] h = refl
  length_columns i [] (x ∷ xs) h = absurd h
  length_columns i (p ∷ ps) [] h = absurd h
  length_columns i (p ∷ ps) (x ∷ xs) h = ap suc (length_columns (i + 1) ps xs h.1)

  -- there are columns of all that were played
  has_columns : (i : ℕ) (ps : List Plan) → ((k : ℕ) (p : Plan) → slice_get ps k ≡ Some p → IsSound p × ArePlayed rules p (told (i + k))) → (xs : List Column) × AreColumns rules i ps told xs
  has_columns i [] h = ([], tt)
  has_columns i (p ∷ ps) h =
      let one = h 0 p refl in
      let x = has_column rules p (told i) one.0 (subst (λ (j : ℕ). ArePlayed rules p (told j)) (omega arith) one.1) in
      let others = has_columns (i + 1) ps (λ k q e. (let m = h (suc k) q e in (m.0, subst (λ (j : ℕ). ArePlayed rules q (told j)) (omega arith) m.1))) in
      (x.0 ∷ others.0, (x.1, others.1))

-- the texts of columns, and then those of others
texts_on : (i : ℕ) (xs ys : List Column) → columns_text i (xs ++ ys) ≡ columns_text i xs ++ columns_text (i + length xs) ys
texts_on i [] ys = ap (λ (j : ℕ). columns_text j ys) (omega arith)
texts_on i (x ∷ xs) ys =
    ap (λ (t : List ℕ). column_text i x.lines ++ t) (texts_on (i + 1) xs ys) ∙ sym (append_assoc (column_text i x.lines) (columns_text (i + 1) xs) (columns_text (i + 1 + length xs) ys))
    ∙ ap (λ (j : ℕ). (column_text i x.lines ++ columns_text (i + 1) xs) ++ columns_text j ys) (omega arith)

counts_on : (xs : List Column) (x : Column) → all_counts (xs ++ x ∷ []) ≡ both_counts (all_counts xs) x.counts
counts_on [] x = grind arith
counts_on (y ∷ xs) x = ap (λ (c : Counts). both_counts y.counts c) (counts_on xs x) ∙ grind arith

-- ---- the loop

-- the texts of the columns of the first n plans were written, and these are their counts
pub record Fronts (rules : Rules) (ps : List Plan) (told : ℕ → List Journal) (n : ℕ) (counts : Counts) (before now : Option (List ℕ)) : Type 0 where
  pub columns : List Column
  pub are_columns : AreColumns rules 0 (take n ps) told columns
  pub counted : counts ≡ all_counts columns
  pub wrote : Appends before now (columns_text 0 columns)

pub fronts_first : (rules : Rules) (ps : List Plan) (told : ℕ → List Journal) (counts : Counts) (now : Option (List ℕ)) → counts ≡ record { entries = 0; frames = 0 } → Fronts rules ps told 0 counts now now
fronts_first rules ps told counts now is = record { columns = []; are_columns = tt; counted = is; wrote = Appends-nil now }

behind : {X : Type 0} (xs : List X) (n k : ℕ) → slice_get (drop n xs) k ≡ slice_get xs (n + k)
behind xs zero k = let e : k ≡ zero + k = omega arith in ap (λ (j : ℕ). slice_get xs j) e
behind [] (suc n) k = refl
behind (x ∷ xs) (suc n) k = let e : suc (n + k) ≡ suc n + k = omega arith in behind xs n k ∙ ap (λ (j : ℕ). slice_get (x ∷ xs) j) e

-- the rest of the text comes behind
part_of : (before between now : Option (List ℕ)) (whole first part rest : List ℕ) → whole ≡ first ++ (part ++ rest) → Appends before between first → AppendsPart between now part → AppendsPart before now whole
part_of before between now whole first part rest is wrote (front, back, parts, more) =
    (first ++ front, back ++ rest, is ∙ ap (λ (t : List ℕ). first ++ (t ++ rest)) parts ∙ ap (λ (t : List ℕ). first ++ t) (append_assoc front back rest) ∙ sym (append_assoc first front (back ++ rest)), Appends-trans before between now first front wrote more)

module _ (rules : Rules) (ps : List Plan) (told : ℕ → List Journal) where
  sound_at : All IsSound ps → (k : ℕ) (p : Plan) → slice_get ps k ≡ Some p → IsSound p
  sound_at sound k p e = subst IsSound (get_or_from_slice_get ps k p p e) (All-get_or IsSound ps k p (slice_get_within ps k p e) sound)

  -- what the columns from n on have
  rest_columns : (n : ℕ) → All IsSound ps → ArePlayedIn rules ps told → (ys : List Column) × AreColumns rules n (drop n ps) told ys
  rest_columns n sound a = has_columns rules told n (drop n ps) (λ k p e. (let at = sym (behind ps n k) ∙ e in (sound_at sound (n + k) p at, a.played (n + k) p at)))

  more_columns : (n : ℕ) (d : Plan) (xs : List Column) (x : Column) → n < length ps → AreColumns rules 0 (take n ps) told xs → IsColumn rules (get_or ps n d) (told n) x → AreColumns rules 0 (take (n + 1) ps) told (xs ++ x ∷ [])
  more_columns n d xs x l h one =
      let long = length-take-le n ps (omega (arith, l)) in
      subst (λ (qs : List Plan). AreColumns rules 0 qs told (xs ++ x ∷ [])) (sym (take_more ps n d l))
      (columns_on rules told 0 (take n ps) (get_or ps n d ∷ []) xs (x ∷ []) h (subst (λ (j : ℕ). AreColumns rules j (get_or ps n d ∷ []) told (x ∷ [])) (omega (arith, long)) (one, tt)))

  length_front : (n : ℕ) (xs : List Column) → n ≤ length ps → AreColumns rules 0 (take n ps) told xs → length xs ≡ n
  length_front n xs l h = length_columns rules told 0 (take n ps) xs h ∙ length-take-le n ps l

  -- one column more was written
  pub fronts_more : (n : ℕ) (d : Plan) (counts more next : Counts) (before between now : Option (List ℕ)) → n < length ps → Fronts rules ps told n counts before between → WritesColumn rules (get_or ps n d) n (told n) (Ok more) between now
      → next ≡ both_counts counts more → Fronts rules ps told (n + 1) next before now
  fronts_more n d counts more next before between now l f w is =
      let long = length_front n f.columns (omega (arith, l)) f.are_columns in
      let at : 0 + length f.columns ≡ n = omega (arith, long) in
      record {
        columns = f.columns ++ w.0 ∷ [];
        are_columns = more_columns n d f.columns w.0 l f.are_columns w.1;
        counted = is ∙ ap₂ both_counts f.counted w.2 ∙ sym (counts_on f.columns w.0);
        wrote = subst (λ (t : List ℕ). Appends before now t)
            (sym (texts_on 0 f.columns (w.0 ∷ []) ∙ ap (λ (t : List ℕ). columns_text 0 f.columns ++ t) (append-nil (column_text (0 + length f.columns) w.0.lines)) ∙ ap (λ (j : ℕ). columns_text 0 f.columns ++ column_text j w.0.lines) at))
            (Appends-trans before between now (columns_text 0 f.columns) (column_text n w.0.lines) f.wrote w.3);
      }

  -- the next column was written in part
  pub fronts_failed : (n : ℕ) (d : Plan) (counts : Counts) (f : SinkFault) (before between now : Option (List ℕ)) → All IsSound ps → ArePlayedIn rules ps told → n < length ps → Fronts rules ps told n counts before between
      → WritesColumn rules (get_or ps n d) n (told n) (Err f) between now → WritesColumns rules ps told (Err f) before now
  fronts_failed n d counts f before between now sound a l h w =
      let xs = h.columns in
      let x = w.0 in
      let rest = rest_columns (n + 1) sound a in
      let long = length_front n xs (omega (arith, l)) h.are_columns in
      let at : 0 + length xs ≡ n = omega (arith, long) in
      let far = length-take-le (n + 1) ps (omega (arith, l)) in
      let whole : columns_text 0 ((xs ++ x ∷ []) ++ rest.0) ≡ columns_text 0 xs ++ (column_text n x.lines ++ columns_text (n + 1) rest.0) =
      ap (λ (zs : List Column). columns_text 0 zs) (append_assoc xs (x ∷ []) rest.0) ∙ texts_on 0 xs (x ∷ rest.0) ∙ ap (λ (j : ℕ). columns_text 0 xs ++ (column_text j x.lines ++ columns_text (j + 1) rest.0)) at in (
        (xs ++ x ∷ []) ++ rest.0,
        subst (λ (qs : List Plan). AreColumns rules 0 qs told ((xs ++ x ∷ []) ++ rest.0)) (take-append-drop (n + 1) ps)
            (columns_on rules told 0 (take (n + 1) ps) (drop (n + 1) ps) (xs ++ x ∷ []) rest.0 (more_columns n d xs x l h.are_columns w.1) (subst (λ (j : ℕ). AreColumns rules j (drop (n + 1) ps) told rest.0) (omega (arith, far)) rest.1)),
        part_of before between now _ (columns_text 0 xs) (column_text n x.lines) (columns_text (n + 1) rest.0) whole h.wrote w.2,
      )

  -- nothing more is written
  pub fronts_stop : (n : ℕ) (counts : Counts) (f : SinkFault) (before now : Option (List ℕ)) → All IsSound ps → ArePlayedIn rules ps told → n ≤ length ps → Fronts rules ps told n counts before now → WritesColumns rules ps told (Err f) before now
  fronts_stop n counts f before now sound a l h =
      let xs = h.columns in
      let rest = rest_columns n sound a in
      let long = length_front n xs l h.are_columns in
      let far = length-take-le n ps l in (
        xs ++ rest.0,
        subst (λ (qs : List Plan). AreColumns rules 0 qs told (xs ++ rest.0)) (take-append-drop n ps)
            (columns_on rules told 0 (take n ps) (drop n ps) xs rest.0 h.are_columns (subst (λ (j : ℕ). AreColumns rules j (drop n ps) told rest.0) (omega (arith, far)) rest.1)),
        (columns_text 0 xs, columns_text (0 + length xs) rest.0, texts_on 0 xs rest.0, h.wrote),
      )

  -- all are written
  pub fronts_end : (n : ℕ) (counts : Counts) (before now : Option (List ℕ)) → length ps ≤ n → Fronts rules ps told n counts before now → WritesColumns rules ps told (Ok counts) before now
  fronts_end n counts before now l h =
      (h.columns, subst (λ (qs : List Plan). AreColumns rules 0 qs told h.columns) (take_all n ps l) h.are_columns, h.counted, h.wrote)

  -- the journals of the plan at this place are played
  pub played_at : (n number : ℕ) (plan : Plan) (js : List Journal) → ArePlayedIn rules ps told → n < length ps → plan ≡ get_or ps n plan → number ≡ n → js ≡ told number → ArePlayed rules plan js
  played_at n number plan js a l is same lent =
      let at = slice_get_read ps (length ps) n plan refl l is in
      subst (λ (ks : List Journal). ArePlayed rules plan ks) (sym (lent ∙ ap told same)) (a.played n plan at)

  -- what is written of the plan at this place is written of the column
  pub written_at : (n number : ℕ) (plan : Plan) (js : List Journal) (r : Result Counts SinkFault) (before now : Option (List ℕ)) → plan ≡ get_or ps n plan → number ≡ n → js ≡ told number → WritesColumn rules plan number js r before now
      → WritesColumn rules (get_or ps n plan) n (told n) r before now
  written_at n number plan js r before now is same lent w =
      subst (λ (q : Plan). WritesColumn rules q n (told n) r before now) is
      (subst (λ (ks : List Journal). WritesColumn rules plan n ks r before now) (lent ∙ ap told same) (subst (λ (k : ℕ). WritesColumn rules plan k js r before now) same w))
