-- Bytes that are played piece by piece.
use Rattle.std.proofs.Common.{◌≡◌, ◌≢◌, ℕ, ◌+◌, ◌<◌, List, [], ◌∷◌, ◌++◌, length, take, drop, get_or, true, false, cond, nat_eq, Option, None, Some, Result, Ok, Err, refl, sym, ap, subst, ◌∙◌, append_assoc, append-nil, length-append, arith}
use Rattle.std.specs.List.{All}
use Rattle.std.specs.Io.KnownBytes.{Appends}
use Rattle.std.proofs.KnownBytes.{Appends-nil, Appends-trans}
use Rattle.std.proofs.lemmas.Bool.{lt-ltb, ne_eqb}
use Rattle.std.proofs.lemmas.List.Elements.{All-head, All-tail}
use Rattle.ct_call.specs.Rules.{Rules}
use Rattle.ct_lines.specs.Grammar.{line_of}
use Rattle.ct_lines.specs.declared.line.LineKind.TheVariants.{Long}
use Rattle.std.proofs.lemmas.List.{take_more, take-append-drop}
use Rattle.ct_play.specs.Course.{Deed}
use Rattle.ct_main.specs.Feeding.{Fed, FedPart, FedRefused, Feeds, Prints, run_on, stop_at}
use Rattle.ct_play.specs.Play.{Run, all_text, continued, ended, lines_after, rest_after, run_from, run_lines, preceded, with_rest}
use Rattle.ct_play.specs.Session.{Matches, Played, Plays, item_played, line_played, longest}
use Rattle.ct_play.specs.declared.session.Session.{Session}
use Rattle.ct_play_text.specs.declared.what.PlayFault.{PlayFault}
use Rattle.ct_play_text.specs.declared.what.PlayFault.TheVariants as fault
use Rattle.ct_play_text.specs.declared.what.What.{What}
use Rattle.ct_play_text.specs.declared.what.What.TheVariants.{Line}
use Rattle.ct_main.specs.declared.player.Player.{Player}
use Rattle.ct_main.specs.declared.player.Stop.{Stop}
use Rattle.ct_main.specs.declared.player.Stop.TheVariants.{Refused, WriteFault, NoMemory}

-- the run at a line feed
at_line_feed : (rules : Rules) (s : Session) (line later : List ℕ) → run_from rules s line (10 ∷ later) ≡ with_rest (length (rest_after [] later)) (continued (line_played rules line s) s (λ t. run_lines rules t (lines_after [] later)))
unfolding run_from
at_line_feed rules s line later = refl

-- the run at another byte
at_byte : (rules : Rules) (s : Session) (line : List ℕ) (x : ℕ) (later : List ℕ) → nat_eq x 10 ≡ false → run_from rules s line (x ∷ later) ≡ run_from rules s (line ++ x ∷ []) later
unfolding run_from
at_byte rules s line x later e =
    ap (λ b. with_rest (length (cond b (rest_after [] later) (rest_after (line ++ x ∷ []) later))) (run_lines rules s (cond b (line ∷ lines_after [] later) (lines_after (line ++ x ∷ []) later)))) e

-- what was played, by the new session and the texts
matched : (r : Result Played What) (s : Session) (texts : List (List ℕ)) → Matches r s texts → (deeds : List Deed) × (r ≡ Ok (record { session = s; texts = texts; deeds = deeds }))
matched (Ok p) s texts m = (p.deeds, ap (λ t. Ok (record { session = t; texts = p.texts; deeds = p.deeds })) m.0 ∙ ap (λ l. Ok (record { session = s; texts = l; deeds = p.deeds })) m.1)
matched (Err w) s texts m = absurd m

-- a line that was played
line_told : (rules : Rules) (s t : Session) (line : List ℕ) (texts : List (List ℕ)) (deeds : List Deed) (later : List ℕ) → line_played rules line s ≡ Ok (record { session = t; texts = texts; deeds = deeds }) → run_from rules s line (10 ∷ later) ≡ preceded (all_text texts) deeds 1 (run_from rules t [] later)
unfolding run_from
line_told rules s t line texts deeds later e = at_line_feed rules s line later ∙ ap (λ r. with_rest (length (rest_after [] later)) (continued r s (λ u. run_lines rules u (lines_after [] later)))) e

-- a line that is refused
line_refused : (rules : Rules) (s : Session) (line : List ℕ) (what : What) (later : List ℕ) → line_played rules line s ≡ Err what → run_from rules s line (10 ∷ later) ≡ ended (Some what) s
line_refused rules s line what later e = at_line_feed rules s line later ∙ ap (λ r. with_rest (length (rest_after [] later)) (continued r s (λ u. run_lines rules u (lines_after [] later)))) e

-- a line that is too long
long_refused : (rules : Rules) (s : Session) (line : List ℕ) → longest < length line → line_played rules line s ≡ Err (Line Long)
unfolding line_played
long_refused rules s line h = ap (λ b. cond b (Err (Line Long)) (item_played rules (line_of line) s)) (lt-ltb longest (length line) h)

-- it is refused wherever it ends
pub too_long : (rules : Rules) (s : Session) (line later : List ℕ) → longest < length line → run_from rules s line later ≡ ended (Some (Line Long)) s
unfolding run_from
too_long rules s line [] h = ap (λ b. record { text = []; deeds = []; count = 0; refusal = cond b (Some (Line Long)) None; session = s }) (lt-ltb longest (length line) h)
too_long rules s line (x ∷ later) h =
    elim (nat_eq x 10) as (λ b. with_rest (length (cond b (rest_after [] later) (rest_after (line ++ x ∷ []) later))) (run_lines rules s (cond b (line ∷ lines_after [] later) (lines_after (line ++ x ∷ []) later))) ≡ ended (Some (Line Long)) s) [
      | true ↦ ap (λ r. with_rest (length (rest_after [] later)) (continued r s (λ u. run_lines rules u (lines_after [] later)))) (long_refused rules s line h)
      | false ↦ too_long rules s (line ++ x ∷ []) later (omega (arith, length-append line (x ∷ [])))
    ]

told_told : (t u : List ℕ) (ls ms : List Deed) (m n : ℕ) (r : Run) → preceded t ls m (preceded u ms n r) ≡ preceded (t ++ u) (ls ++ ms) (m + n) r
told_told t u ls ms m n r =
    let made : List ℕ → List Deed → ℕ → Run = λ x y z. record { text = x; deeds = y; count = z; refusal = r.refusal; session = r.session } in
    ap (λ x. made x (ls ++ (ms ++ r.deeds)) (m + (n + r.count))) (sym (append_assoc t u r.text))
    ∙ ap (λ y. made ((t ++ u) ++ r.text) y (m + (n + r.count))) (sym (append_assoc ls ms r.deeds))
    ∙ ap (λ z. made ((t ++ u) ++ r.text) ((ls ++ ms) ++ r.deeds) z) (omega arith)

told_nothing : (r : Run) → preceded [] [] 0 r ≡ r
told_nothing r = ap (λ z. record { text = r.text; deeds = r.deeds; count = z; refusal = r.refusal; session = r.session }) (omega arith)

-- what a call answers for some bytes, it answers for them and those after them
pub feeds_more : (rules : Rules) (e : Stop) (p : Player) (bs cs : List ℕ) (q : Player) (a c : Option (List ℕ)) → Feeds rules (Err e) p bs q a c → Feeds rules (Err e) p (bs ++ cs) q a c
feeds_more rules (Refused what) p bs cs q a c f = record { text = f.text; wrote = f.wrote; ends = λ later. rw append_assoc (f.ends (cs ++ later)) }
feeds_more rules WriteFault p bs cs q a c f = record { text = f.text; wrote = f.wrote; front = λ later. rw append_assoc (f.front (cs ++ later)) }
feeds_more rules NoMemory p bs cs q a c f = record { text = f.text; wrote = f.wrote; front = λ later. rw append_assoc (f.front (cs ++ later)) }

-- a part of the text after what was told
part_then : (rules : Rules) (p : Player) (bs : List ℕ) (q : Player) (cs : List ℕ) (a b c : Option (List ℕ)) → Fed rules p q bs a b → FedPart rules q cs b c → FedPart rules p (bs ++ cs) a c
part_then rules p bs q cs a b c f g = record {
  text = f.text ++ g.text;
  wrote = Appends-trans a b c f.text g.text f.wrote g.wrote;
  front = λ later.
      let e : run_on rules p ((bs ++ cs) ++ later) ≡ preceded f.text f.deeds f.count (run_on rules q (cs ++ later)) = ap (run_on rules p) (append_assoc bs cs later) ∙ f.goes_on (cs ++ later) in
      ((g.front later).0, ap (λ r. r.text) e ∙ ap (λ t. f.text ++ t) (g.front later).1 ∙ sym (append_assoc f.text g.text (g.front later).0));
}

-- bytes played on after others
pub feeds_then : (rules : Rules) (r : Result (Unit {0}) Stop) (p : Player) (bs : List ℕ) (q : Player) (cs : List ℕ) (s : Player) (a b c : Option (List ℕ)) → Fed rules p q bs a b → Feeds rules r q cs s b c → Feeds rules r p (bs ++ cs) s a c
feeds_then rules (Ok u) p bs q cs s a b c f g = record {
  text = f.text ++ g.text;
  deeds = f.deeds ++ g.deeds;
  count = f.count + g.count;
  wrote = Appends-trans a b c f.text g.text f.wrote g.wrote;
  counted = omega (arith, f.counted, g.counted);
  rests = λ later. ap (rest_after p.line) (append_assoc bs cs later) ∙ f.rests (cs ++ later) ∙ g.rests later;
  goes_on = λ later.
      ap (run_on rules p) (append_assoc bs cs later) ∙ f.goes_on (cs ++ later) ∙ ap (preceded f.text f.deeds f.count) (g.goes_on later)
      ∙ told_told f.text g.text f.deeds g.deeds f.count g.count (run_on rules s later);
}
feeds_then rules (Err (Refused what)) p bs q cs s a b c f g = record {
  text = f.text ++ g.text;
  wrote = Appends-trans a b c f.text g.text f.wrote g.wrote;
  ends = λ later.
      let e : run_on rules p ((bs ++ cs) ++ later) ≡ preceded f.text f.deeds f.count (run_on rules q (cs ++ later)) = ap (run_on rules p) (append_assoc bs cs later) ∙ f.goes_on (cs ++ later) in
      let h = g.ends later in (
        ap (λ r. r.text) e ∙ ap (λ t. f.text ++ t) h.0,
        ap (λ r. r.refusal) e ∙ h.1,
        ap (λ r. p.count + r.count) e ∙ omega (arith, f.counted, h.2),
      );
}
feeds_then rules (Err WriteFault) p bs q cs s a b c f g = part_then rules p bs q cs a b c f g
feeds_then rules (Err NoMemory) p bs q cs s a b c f g = part_then rules p bs q cs a b c f g

-- the next byte is played
pub byte_played : (rules : Rules) (r : Result (Unit {0}) Stop) (p : Player) (bs : List ℕ) (i : ℕ) (q s : Player) (a b c : Option (List ℕ)) → i < length bs → Fed rules p q (take i bs) a b → Feeds rules r q (get_or bs i 0 ∷ []) s b c → Feeds rules r p (take (i + 1) bs) s a c
byte_played rules r p bs i q s a b c h f g = subst (λ ys. Feeds rules r p ys s a c) (sym (take_more bs i 0 h)) (feeds_then rules r p (take i bs) q (get_or bs i 0 ∷ []) s a b c f g)

-- the next byte is the last one that is played
pub byte_stops : (rules : Rules) (e : Stop) (p : Player) (bs : List ℕ) (i : ℕ) (q s : Player) (a b c : Option (List ℕ)) → i < length bs → Fed rules p q (take i bs) a b → Feeds rules (Err e) q (get_or bs i 0 ∷ []) s b c → Feeds rules (Err e) p bs s a c
byte_stops rules e p bs i q s a b c h f g = subst (λ ys. Feeds rules (Err e) p ys s a c) (take-append-drop (i + 1) bs) (feeds_more rules e p (take (i + 1) bs) (drop (i + 1) bs) s a c (byte_played rules (Err e) p bs i q s a b c h f g))

-- bytes without a line feed go behind the line
kept_on : (rules : Rules) (s : Session) (line bs later : List ℕ) → All (λ x. x ≢ 10) bs → run_from rules s line (bs ++ later) ≡ run_from rules s (line ++ bs) later
kept_on rules s line [] later h = ap (λ l. run_from rules s l later) (sym (append-nil line))
kept_on rules s line (x ∷ xs) later h =
    at_byte rules s line x (xs ++ later) (ne_eqb x 10 (All-head (λ y. y ≢ 10) x xs h)) ∙ kept_on rules s (line ++ x ∷ []) xs later (All-tail (λ y. y ≢ 10) x xs h)
    ∙ ap (λ l. run_from rules s l later) (append_assoc line (x ∷ []) xs)

rest_kept : (line bs later : List ℕ) → All (λ x. x ≢ 10) bs → rest_after line (bs ++ later) ≡ rest_after (line ++ bs) later
rest_kept line [] later h = ap (λ l. rest_after l later) (sym (append-nil line))
rest_kept line (x ∷ xs) later h =
    ap (λ b. cond b (rest_after [] (xs ++ later)) (rest_after (line ++ x ∷ []) (xs ++ later))) (ne_eqb x 10 (All-head (λ y. y ≢ 10) x xs h))
    ∙ rest_kept (line ++ x ∷ []) xs later (All-tail (λ y. y ≢ 10) x xs h) ∙ ap (λ l. rest_after l later) (append_assoc line (x ∷ []) xs)

pub bytes_kept : (rules : Rules) (p q : Player) (bs : List ℕ) (a : Option (List ℕ)) → All (λ x. x ≢ 10) bs → q ≡ record p { line = p.line ++ bs } → Fed rules p q bs a a
bytes_kept rules p q bs a h e = record {
  text = [];
  deeds = [];
  count = 0;
  wrote = Appends-nil a;
  counted = ap (λ r. r.count) e ∙ omega arith;
  rests = λ later. rest_kept p.line bs later h ∙ ap (λ r. rest_after r.line later) (sym e);
  goes_on = λ later. kept_on rules p.session p.line bs later h ∙ ap (λ r. run_on rules r later) (sym e) ∙ sym (told_nothing (run_on rules q later));
}

-- a stop at a front of the bytes is one at all of them
pub front_stops : (rules : Rules) (e : Stop) (p : Player) (bs : List ℕ) (n : ℕ) (q : Player) (a c : Option (List ℕ)) → Feeds rules (Err e) p (take n bs) q a c → Feeds rules (Err e) p bs q a c
front_stops rules e p bs n q a c f = subst (λ ys. Feeds rules (Err e) p ys q a c) (take-append-drop n bs) (feeds_more rules e p (take n bs) (drop n bs) q a c f)

-- nothing was played on: memory ran out
pub stopped : (rules : Rules) (p : Player) (bs : List ℕ) (a : Option (List ℕ)) → FedPart rules p bs a a
stopped rules p bs a = record { text = []; wrote = Appends-nil a; front = λ later. ((run_on rules p (bs ++ later)).text, refl) }

-- a whole line was played and printed
pub line_printed : (rules : Rules) (p q : Player) (t : Session) (texts : List (List ℕ)) (a c : Option (List ℕ)) → Matches (line_played rules p.line p.session) t texts → Appends a c (all_text texts) → q ≡ record { session = t; line = []; count = p.count + 1 } → Fed rules p q (10 ∷ []) a c
line_printed rules p q t texts a c m w h =
    let k = matched (line_played rules p.line p.session) t texts m in
    record {
      text = all_text texts;
      deeds = k.0;
      count = 1;
      wrote = w;
      counted = ap (λ r. r.count) h;
      rests = λ later. ap (λ r. rest_after r.line later) (sym h);
      goes_on = λ later. line_told rules p.session t p.line texts k.0 later k.1 ∙ ap (λ r. preceded (all_text texts) k.0 1 (run_on rules r later)) (sym h);
    }

-- a whole line is refused
pub line_ends : (rules : Rules) (p q : Player) (what : What) (a : Option (List ℕ)) → line_played rules p.line p.session ≡ Err what → q.count ≡ p.count → FedRefused rules p q what (10 ∷ []) a a
line_ends rules p q what a e n = record {
  text = [];
  wrote = Appends-nil a;
  ends = λ later.
      let f = line_refused rules p.session p.line what later e in
      (ap (λ r. r.text) f, ap (λ r. r.refusal) f, ap (λ r. p.count + r.count) f ∙ omega (arith, n));
}

-- a line that is too long is refused before it ends
pub long_ends : (rules : Rules) (p : Player) (bs : List ℕ) (a : Option (List ℕ)) → All (λ x. x ≢ 10) bs → longest < length p.line + length bs → FedRefused rules p p (Line Long) bs a a
long_ends rules p bs a h n = record {
  text = [];
  wrote = Appends-nil a;
  ends = λ later.
      let f : run_on rules p (bs ++ later) ≡ ended (Some (Line Long)) p.session = kept_on rules p.session p.line bs later h ∙ too_long rules p.session (p.line ++ bs) later (omega (arith, n, length-append p.line bs)) in
      (ap (λ r. r.text) f, ap (λ r. r.refusal) f, ap (λ r. p.count + r.count) f ∙ omega arith);
}

part_of : (rules : Rules) (p : Player) (t : Session) (texts : List (List ℕ)) (a c : Option (List ℕ)) → Matches (line_played rules p.line p.session) t texts → (front : List ℕ) × (back : List ℕ) × (all_text texts ≡ front ++ back) × Appends a c front → FedPart rules p (10 ∷ []) a c
part_of rules p t texts a c m (front, back, e, w) =
    let k = matched (line_played rules p.line p.session) t texts m in
    record {
      text = front;
      wrote = w;
      front = λ later. (
        back ++ (run_from rules t [] later).text,
        ap (λ r. r.text) (line_told rules p.session t p.line texts k.0 later k.1) ∙ ap (λ u. u ++ (run_from rules t [] later).text) e ∙ append_assoc front back _,
      );
    }

-- a front of a whole line's text was printed
pub line_part : (rules : Rules) (e : Stop) (p q : Player) (t : Session) (texts : List (List ℕ)) (a c : Option (List ℕ)) → Matches (line_played rules p.line p.session) t texts → Prints (Err e) texts a c → Feeds rules (Err e) p (10 ∷ []) q a c
line_part rules (Refused what) p q t texts a c m w = absurd w
line_part rules WriteFault p q t texts a c m w = part_of rules p t texts a c m w
line_part rules NoMemory p q t texts a c m w = part_of rules p t texts a c m w

-- a line that was not played stops the run
pub play_stops : (rules : Rules) (f : PlayFault) (p q : Player) (line : List ℕ) (a : Option (List ℕ)) → line ≡ p.line → Plays (Err f) (line_played rules line p.session) q.session → q.count ≡ p.count → Feeds rules (Err (stop_at f)) p (10 ∷ []) q a a
play_stops rules (fault.Refused what) p q line a e h n = line_ends rules p q what a (ap (λ l. line_played rules l p.session) (sym e) ∙ h) n
play_stops rules fault.NoMemory p q line a e h n = stopped rules p (10 ∷ []) a

-- nothing was played yet
pub unfed : (rules : Rules) (p : Player) (a : Option (List ℕ)) → Fed rules p p [] a a
unfed rules p a = record {
  text = [];
  deeds = [];
  count = 0;
  wrote = Appends-nil a;
  counted = omega arith;
  rests = λ later. refl;
  goes_on = λ later. sym (told_nothing (run_on rules p later));
}
