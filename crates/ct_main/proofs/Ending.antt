-- How a play ends, by the bytes that it took.
use Rattle.std.proofs.Common.{◌≡◌, ℕ, ◌<◌, ◌≤◌, List, [], ◌∷◌, ◌++◌, length, cond, Option, None, Some, Err, refl, sym, ap, subst, ◌∙◌, append_assoc, append-nil, arith}
use Rattle.std.specs.Io.KnownBytes.{Appends, IsAtEnd}
use Rattle.std.proofs.KnownBytes.{Appends-nil, Appends-trans}
use Rattle.std.proofs.lemmas.Bool.{le-ltb}
use Rattle.ct_call.specs.Rules.{Rules}
use Rattle.ct_lines.specs.declared.line.LineKind.TheVariants.{Long}
use Rattle.ct_outside.specs.Causes.{AppendsPart}
use Rattle.ct_play.specs.Course.{Deed}
use Rattle.ct_play.specs.Play.{Run, all_text, ended, pending_text_of, played, rest, rest_after, run_from, preceded}
use Rattle.ct_play.specs.Session.{longest, pending_texts, start}
use Rattle.ct_play_text.specs.declared.what.What.{What}
use Rattle.ct_play_text.specs.declared.what.What.TheVariants.{Line}
use Rattle.ct_main.specs.Claims.{Ends, ended_text, most_bytes, text_at}
use Rattle.ct_main.specs.Feeding.{EndsOn, Fed, Feeds, Finishes, Prints, TookNone, end_of, run_on, waiting_text}
use Rattle.ct_main.specs.declared.player.End.{End}
use Rattle.ct_main.specs.declared.player.End.TheVariants as end
use Rattle.ct_main.specs.declared.player.Player.{Player}
use Rattle.ct_main.specs.declared.player.Stop.{Stop}
use Rattle.ct_main.specs.declared.player.Stop.TheVariants.{Refused, WriteFault, NoMemory}

-- before the first byte
abbrev pub first : Player
first = record { session = start; line = []; count = 0 }

-- ---- what may be told at an end

-- what was told before comes first
ended_told : (o : Option What) (t : List ℕ) (deeds : List Deed) (n : ℕ) (r : Run) → ended_text o (preceded t deeds n r) ≡ t ++ ended_text o r
ended_told None t deeds n r = append_assoc t r.text (pending_text_of r)
ended_told (Some what) t deeds n r = refl

text_told : (rest t : List ℕ) (deeds : List Deed) (n : ℕ) (r : Run) → text_at rest (preceded t deeds n r) ≡ t ++ text_at rest r
text_told [] t deeds n r = ended_told r.refusal t deeds n r
text_told (x ∷ xs) t deeds n r = refl

-- the text of the lines is a front of it
ended_more : (o : Option What) (r : Run) → (more : List ℕ) × (ended_text o r ≡ r.text ++ more)
ended_more None r = (pending_text_of r, refl)
ended_more (Some what) r = ([], sym (append-nil r.text))

text_more : (rest : List ℕ) (r : Run) → (more : List ℕ) × (text_at rest r ≡ r.text ++ more)
text_more [] r = ended_more r.refusal r
text_more (x ∷ xs) r = ([], sym (append-nil r.text))

-- so a front of that text is one of it
part_at : (rest : List ℕ) (r : Run) (front back : List ℕ) (a c : Option (List ℕ)) → r.text ≡ front ++ back → Appends a c front → AppendsPart a c (text_at rest r)
part_at rest r front back a c e w = let m = text_more rest r in (front, back ++ m.0, m.1 ∙ ap (λ t. t ++ m.0) e ∙ append_assoc front back m.0, w)

-- ---- ends

-- nothing comes: nothing is printed and, where the line is not too long, nothing refused
nothing_comes : (rules : Rules) (p : Player) → length p.line ≤ longest → run_on rules p [] ≡ ended None p.session
unfolding run_from
nothing_comes rules p h = ap (λ b. record { text = []; deeds = []; count = 0; refusal = cond b (Some (Line Long)) None; session = p.session }) (le-ltb longest (length p.line) h)

-- the calls that wait are told where the input has no more, and a front of them
waiting_part : (rules : Rules) (p : Player) (a c : Option (List ℕ)) → run_on rules p [] ≡ ended None p.session → p.line ≡ [] → AppendsPart a c (waiting_text p) → AppendsPart a c (text_at p.line (run_on rules p []))
waiting_part rules p a c r e h = subst (λ l. AppendsPart a c (text_at l (run_on rules p []))) (sym e) (subst (λ x. AppendsPart a c (text_at [] x)) (sym r) h)

-- the input ended
pub read_ends : (rules : Rules) (e : End) (p : Player) (left a c : Option (List ℕ)) → length p.line ≤ longest → IsAtEnd left → Finishes e p a c → EndsOn rules e p [] left a c × TookNone e []
read_ends rules e p left a c h z f = by_end e (nothing_comes rules p h) f
  where
    by_end : (e : End) → run_on rules p [] ≡ ended None p.session → Finishes e p a c → EndsOn rules e p [] left a c × TookNone e []
    by_end end.Read r f = ((z, f.0, ap (λ x. x.refusal) r, subst (λ x. Appends a c (x.text ++ pending_text_of x)) (sym r) f.1), refl)
    by_end (end.Unended line) r f = (
      (z, f.0, f.1 ∙ omega (arith, ap (λ x. x.count) r), ap (λ x. x.refusal) r, subst (λ t. Appends a c t) (sym (ap (λ x. x.text) r)) (subst (λ now. Appends a now []) (sym f.2) (Appends-nil a))),
      refl,
    )
    by_end end.WriteFault r f = (waiting_part rules p a c r f.0 f.1, tt)
    by_end end.NoMemory r f = (waiting_part rules p a c r f.0 f.1, tt)
    by_end (end.Refused line what) r f = absurd f
    by_end end.ReadFault r f = absurd f
    by_end end.TooLong r f = absurd f

-- the calls that wait were told in part
pub told_in_part : (s : Stop) (p : Player) (texts : List (List ℕ)) (a c : Option (List ℕ)) → p.line ≡ [] → texts ≡ pending_texts p.session → Prints (Err s) texts a c → Finishes (end_of s p.count) p a c
told_in_part (Refused what) p texts a c e t h = absurd h
told_in_part WriteFault p texts a c e t h = (e, subst (λ x. AppendsPart a c (all_text x)) t h)
told_in_part NoMemory p texts a c e t h = (e, subst (λ x. AppendsPart a c (all_text x)) t h)

-- a read failed
pub fault_ends : (rules : Rules) (p : Player) (left a : Option (List ℕ)) → length p.line ≤ longest → EndsOn rules end.ReadFault p [] left a a
fault_ends rules p left a h =
    let r = nothing_comes rules p h in
    (ap (λ x. x.refusal) r, subst (Appends a a) (sym (ap (λ x. x.text) r)) (Appends-nil a))

-- playing stopped
pub stop_ends : (rules : Rules) (s : Stop) (p q : Player) (bytes : List ℕ) (left a c : Option (List ℕ)) → Feeds rules (Err s) p bytes q a c → EndsOn rules (end_of s q.count) p bytes left a c × TookNone (end_of s q.count) bytes
stop_ends rules (Refused what) p q bytes left a c f =
    let g = f.ends [] in
    let n : run_on rules p (bytes ++ []) ≡ run_on rules p bytes = ap (run_on rules p) (append-nil bytes) in (
      (ap (λ r. r.refusal) (sym n) ∙ g.1, omega (arith, g.2, ap (λ r. r.count) n), subst (Appends a c) (sym g.0 ∙ ap (λ r. r.text) n) f.wrote),
      tt,
    )
stop_ends rules WriteFault p q bytes left a c f =
    let g = f.front [] in
    (part_at (rest_after p.line bytes) (run_on rules p bytes) f.text g.0 a c (ap (λ r. r.text) (ap (run_on rules p) (sym (append-nil bytes))) ∙ g.1) f.wrote, tt)
stop_ends rules NoMemory p q bytes left a c f =
    let g = f.front [] in
    (part_at (rest_after p.line bytes) (run_on rules p bytes) f.text g.0 a c (ap (λ r. r.text) (ap (run_on rules p) (sym (append-nil bytes))) ∙ g.1) f.wrote, tt)

-- bytes that were fed, and no more of them
whole_fed : (rules : Rules) (p q : Player) (bytes : List ℕ) (a c : Option (List ℕ)) → Fed rules p q bytes a c → length q.line ≤ longest → ((run_on rules p bytes).refusal ≡ None) × Appends a c (run_on rules p bytes).text
whole_fed rules p q bytes a c f h =
    let e : run_on rules p bytes ≡ preceded f.text f.deeds f.count (ended None q.session) = ap (run_on rules p) (sym (append-nil bytes)) ∙ f.goes_on [] ∙ ap (preceded f.text f.deeds f.count) (nothing_comes rules q h) in
    (ap (λ r. r.refusal) e, subst (Appends a c) (sym (ap (λ r. r.text) e ∙ append-nil f.text)) f.wrote)

-- as many bytes as may be taken were played
pub limit_ends : (rules : Rules) (q : Player) (bytes : List ℕ) (left a c : Option (List ℕ)) → Fed rules first q bytes a c → length q.line ≤ longest → length bytes ≡ most_bytes → Ends rules end.TooLong bytes left a c
limit_ends rules q bytes left a c f h n =
    let w = whole_fed rules first q bytes a c f h in
    (n, record { unrefused = w.0; text = w.1 })

-- a part of what is told after bytes that were fed
part_after : (rules : Rules) (q : Player) (b d : List ℕ) (a m c : Option (List ℕ)) → Fed rules first q b a m → AppendsPart m c (text_at (rest_after q.line d) (run_on rules q d)) → AppendsPart a c (text_at (rest (b ++ d)) (played rules (b ++ d)))
part_after rules q b d a m c f (front, back, s, w) =
    let e : text_at (rest_after [] (b ++ d)) (run_on rules first (b ++ d)) ≡ f.text ++ text_at (rest_after q.line d) (run_on rules q d) =
    ap (λ l. text_at l (run_on rules first (b ++ d))) (f.rests d) ∙ ap (text_at (rest_after q.line d)) (f.goes_on d) ∙ text_told (rest_after q.line d) f.text f.deeds f.count (run_on rules q d)
    in
    (f.text ++ front, back, e ∙ ap (λ t. f.text ++ t) s ∙ sym (append_assoc f.text front back), Appends-trans a m c f.text front f.wrote w)

-- an end after bytes that were fed
pub ends_after : (rules : Rules) (e : End) (q : Player) (b d : List ℕ) (left a m c : Option (List ℕ)) → Fed rules first q b a m → EndsOn rules e q d left m c → TookNone e d → length b < most_bytes → Ends rules e (b ++ d) left a c
ends_after rules end.Read q b d left a m c f g z h =
    let e = f.goes_on d in (
      g.0,
      f.rests d ∙ g.1,
      subst (λ x. length (b ++ x) < most_bytes) (sym z) (subst (λ x. length x < most_bytes) (sym (append-nil b)) h),
      record {
        unrefused = ap (λ r. r.refusal) e ∙ g.2;
        text = subst (Appends a c) (sym (ap (λ r. r.text ++ pending_text_of r) e ∙ append_assoc f.text _ _)) (Appends-trans a m c f.text _ f.wrote g.3);
      },
    )
ends_after rules (end.Unended line) q b d left a m c f g z h =
    let e = f.goes_on d in (
      g.0,
      (λ n. g.1 (sym (f.rests d) ∙ n)),
      subst (λ x. length (b ++ x) < most_bytes) (sym z) (subst (λ x. length x < most_bytes) (sym (append-nil b)) h),
      omega (arith, g.2, f.counted, ap (λ r. r.count) e),
      record { unrefused = ap (λ r. r.refusal) e ∙ g.3; text = subst (Appends a c) (sym (ap (λ r. r.text) e)) (Appends-trans a m c f.text _ f.wrote g.4) },
    )
ends_after rules (end.Refused line what) q b d left a m c f g z h =
    let e = f.goes_on d in
    (ap (λ r. r.refusal) e ∙ g.0, omega (arith, g.1, f.counted, ap (λ r. r.count) e), subst (Appends a c) (sym (ap (λ r. r.text) e)) (Appends-trans a m c f.text _ f.wrote g.2))
ends_after rules end.ReadFault q b d left a m c f g z h =
    let e = f.goes_on d in (
      subst (λ x. length (b ++ x) < most_bytes) (sym z) (subst (λ x. length x < most_bytes) (sym (append-nil b)) h),
      record { unrefused = ap (λ r. r.refusal) e ∙ g.0; text = subst (Appends a c) (sym (ap (λ r. r.text) e)) (Appends-trans a m c f.text _ f.wrote g.1) },
    )
ends_after rules end.TooLong q b d left a m c f g z h = absurd g
ends_after rules end.WriteFault q b d left a m c f g z h = part_after rules q b d a m c f g
ends_after rules end.NoMemory q b d left a m c f g z h = part_after rules q b d a m c f g
