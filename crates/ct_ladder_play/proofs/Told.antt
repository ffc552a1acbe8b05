-- The ladder of a scenario tells the run that a play of the scenario prints.
use Rattle.std.proofs.Common.{◌≡◌, ◌≢◌, ◌∙◌, ◌⊎◌, inl, inr, ℕ, zero, suc, ◌+◌, ◌-◌, ◌≤◌, Bool, true, false, cond, List, [], ◌∷◌, ◌++◌, length, map, take, Option, None, Some, Result, Ok, Err, refl, sym, ap, subst, append_assoc, append-nil, arith}
use Rattle.std.specs.Prelude.{codes, nat_eq, nat_lt, slice_get}
use Rattle.std.specs.List.{join_with_byte, list_all, onto_first}
use Rattle.std.proofs.lemmas.Fmt.{decimal_digit}
use Rattle.std.proofs.lemmas.Grind.{flat_map-append}
use Rattle.std.proofs.lemmas.List.{length-take, map-append}
use Rattle.ct_call.specs.Rules.{Rules}
use Rattle.ct_mail.specs.Mail.{next_waiting, waiting_from}
use Rattle.ct_rules_cluster.specs.Cluster.{opening, World}
use Rattle.ct_rules_cluster.specs.declared.step.Step.TheVariants as step
use Rattle.ct_traverse_parts.specs.Walk.{Walk}
use Rattle.ct_lines.proofs.Whole.{line_back, line_only}
use Rattle.ct_lines.specs.Grammar.{line_of}
use Rattle.ct_lines.specs.Places.{Accepted, later_refusal, with_later}
use Rattle.ct_lines.specs.declared.line.LineKind.{LineKind}
use Rattle.ct_lines.specs.declared.line.LineKind.TheVariants.{Long}
use Rattle.ct_lines.specs.declared.line.ScenarioLine.{ScenarioLine}
use Rattle.ct_lines.specs.declared.line.ScenarioLine.TheVariants as item
use Rattle.ct_play.specs.Course.{Effect, after, and_then, next_first, still, up_to}
use Rattle.ct_play.specs.Effect as effect
use Rattle.ct_play.specs.Effect.{delivery}
use Rattle.ct_play.specs.Opening.{world_at}
use Rattle.ct_play.specs.Play.{Run, all_text, continued, lines_after, preceded, refusal_after, rest, rest_after, run_from, run_lines, with_rest}
use Rattle.ct_play.specs.Session.{Played, item_played, line_played, pending_texts, placed, put, start}
use Rattle.ct_play.specs.declared.session.Session.{Session}
use Rattle.ct_play_text.specs.declared.what.What.{What}
use Rattle.ct_play_text.specs.declared.what.What.TheVariants as what
use Rattle.ct_picture.specs.Reading.{lines_of, parts_of, rest_of}
use Rattle.ct_picture.specs.Rows.{is_printed, kind_of, or_empty, row_of, row_with, words_of}
use Rattle.ct_picture.specs.declared.row.RowKind.{RowKind}
use Rattle.ct_ladder.specs.declared.rung.Fate.{Fate}
use Rattle.ct_ladder.specs.declared.rung.Fate.TheVariants as fate
use Rattle.ct_ladder.specs.declared.rung.Rung.{Rung}
use Rattle.ct_ladder_play.specs.Playing.{Climb, Climbed, after_rungs, and_on, without_feed, climb_after, climbed, fate_told, ladder_at, ladder_from, ladder_in, line_climbed, line_row, lines_climbed, matter_at, matter_climbed, matter_in, one_comes, or_beside, rungs_of, rungs_with, said_rungs, settle_one, settle_climbed, told_rungs, least_waiting, waiting_in, climb_from}
use Rattle.ct_ladder_play.specs.Told.{LaddersAreRefused, LaddersTellPlays, TellsPlay, run_shown, run_lines_in, said_shown, said_lines_in}
use Rattle.ct_ladder_play.specs.declared.playing.Ladder.{Ladder}
use Rattle.ct_ladder_play.specs.declared.playing.Matter.{Matter}
use Rattle.ct_ladder_play.specs.declared.playing.Matter.TheVariants as matter

-- ---- rows

or_line : (k : Option RowKind) (line : List ℕ) → (or_beside line (row_with k line)).line ≡ line
or_line None line = refl
or_line (Some k) line = refl

row_choice : (b : Bool) (k : Option RowKind) (line : List ℕ) → (or_beside line (cond b (row_with k line) None)).line ≡ line
row_choice true k line = or_line k line
row_choice false k line = refl

-- the line of the row of a line is that line
row_line : (line : List ℕ) → (line_row line).line ≡ line
unfolding row_of
row_line line = row_choice (list_all is_printed line) (kind_of (words_of line)) line

told_lines : (f : Fate) (texts : List (List ℕ)) → run_lines_in (told_rungs f texts) ≡ map without_feed texts
told_lines f [] = refl
told_lines f (t ∷ ts) = ap (λ l. l ∷ run_lines_in (told_rungs fate.Still ts)) (row_line (without_feed t)) ∙ ap (λ ls. without_feed t ∷ ls) (told_lines fate.Still ts)

told_quiet : (f : Fate) (texts : List (List ℕ)) → said_lines_in (told_rungs f texts) ≡ []
told_quiet f [] = refl
told_quiet f (t ∷ ts) = told_quiet fate.Still ts

rungs_lines : (f : Fate) (texts : List (List ℕ)) → run_lines_in (rungs_with f texts) ≡ map without_feed texts
rungs_lines fate.Still [] = refl
rungs_lines (fate.Came k) [] = refl
rungs_lines (fate.CameAgain k) [] = refl
rungs_lines (fate.Lost k) [] = refl
rungs_lines f (t ∷ ts) = told_lines f (t ∷ ts)

rungs_quiet : (f : Fate) (texts : List (List ℕ)) → said_lines_in (rungs_with f texts) ≡ []
rungs_quiet fate.Still [] = refl
rungs_quiet (fate.Came k) [] = refl
rungs_quiet (fate.CameAgain k) [] = refl
rungs_quiet (fate.Lost k) [] = refl
rungs_quiet f (t ∷ ts) = told_quiet f (t ∷ ts)

lines_joined : (xs ys : List Rung) → run_lines_in (xs ++ ys) ≡ run_lines_in xs ++ run_lines_in ys
lines_joined xs ys = flat_map-append (λ (r : Rung). run_shown r.shown) xs ys

said_joined : (xs ys : List Rung) → said_lines_in (xs ++ ys) ≡ said_lines_in xs ++ said_lines_in ys
said_joined xs ys = flat_map-append (λ (r : Rung). said_shown r.shown) xs ys

both : {A : Type 0} (xs ys us vs : List A) → xs ≡ us → ys ≡ vs → xs ++ ys ≡ us ++ vs
both xs ys us vs e f = ap (λ l. l ++ ys) e ∙ ap (λ l. us ++ l) f

-- ---- a line

-- the rows show what was played, and no line of the scenario
record Shows (x : Climbed) (p : Played) : Type 0 where
  session : x.session ≡ p.session
  lines : run_lines_in x.rungs ≡ map without_feed p.texts
  quiet : said_lines_in x.rungs ≡ []

-- so it is where the line is played, and it is refused where the play refuses it
abbrev Same : Result Climbed What → Result Played What → Type 0
Same (Ok x) (Ok p) = Shows x p
Same (Ok x) (Err w) = ⊥
Same (Err v) (Ok p) = ⊥
Same (Err v) (Err w) = Unit {0}

acts : (f : Fate) (r : Result Played What) → Same (climbed f r) r
acts f (Ok p) = record { session = refl; lines = rungs_lines (fate_told f p.texts) p.texts; quiet = rungs_quiet (fate_told f p.texts) p.texts }
acts f (Err w) = tt

-- rows come first
same_after : (rungs : List Rung) (texts : List (List ℕ)) (e : Effect) (a : Accepted) (made : Result Climbed What) (more : Result Effect What) → run_lines_in rungs ≡ map without_feed texts → said_lines_in rungs ≡ [] → Same made (put a more) → Same (after_rungs rungs made) (put a (after texts e.deeds more))
same_after rungs texts e a (Ok x) (Ok m) h g s = record {
  session = s.session;
  lines = lines_joined rungs x.rungs ∙ both (run_lines_in rungs) (run_lines_in x.rungs) (map without_feed texts) (map without_feed m.texts) h s.lines ∙ sym (map-append without_feed texts m.texts);
  quiet = said_joined rungs x.rungs ∙ both (said_lines_in rungs) (said_lines_in x.rungs) [] [] g s.quiet;
}
same_after rungs texts e a (Ok x) (Err w) h g s = absurd s
same_after rungs texts e a (Err v) (Ok m) h g s = absurd s
same_after rungs texts e a (Err v) (Err w) h g s = tt

-- ---- messages that come one after the other

-- a message comes where this was played of it
abbrev comes : Result Played What → Option ℕ → (Session → Result Climbed What) → Result Climbed What
comes r None later = climbed fate.Still r
comes r (Some k) later = and_on (climbed (fate.Came k) r) later

comes_is : (rules : Rules) (s : Session) (next : Option ℕ) (later : Session → Result Climbed What) → one_comes rules s next later ≡ comes (line_played rules settle_one s) next later
comes_is rules s None later = refl
comes_is rules s (Some k) later = refl

abbrev next : Rules → World → Walk → Option (Result Effect What)
next rules w k = delivery rules w k (next_waiting w.cluster.sent)

-- the session at this cluster, behind a line that is none of the configuration's
abbrev seated : Accepted → World → Walk → Session
seated p w k = record { places = with_later p; world = Some w; walker = k }

-- a message came, and so do more
then_more : (rules : Rules) (m k : ℕ) (p : Accepted) (r : Result Effect What)
    → ((v : World) (l : Walk) → Same (settle_climbed rules m (seated p v l)) (put (with_later p) (up_to m (next rules) v l)))
    → Same (comes (put (with_later p) (and_then r (λ v l. Ok (still v l)))) (Some k) (λ t. settle_climbed rules m t)) (put (with_later p) (and_then r (λ v l. up_to m (next rules) v l)))
then_more rules m k p (Ok e) h =
    let texts = e.texts ++ [] in
    let rungs = rungs_of (fate.Came k) texts in
    let lines : run_lines_in rungs ≡ map without_feed e.texts = rungs_lines (fate_told (fate.Came k) texts) texts ∙ ap (map without_feed) (append-nil e.texts) in
    same_after rungs e.texts e (with_later p) (settle_climbed rules m (seated p e.world e.walk)) (up_to m (next rules) e.world e.walk) lines (rungs_quiet (fate_told (fate.Came k) texts) texts) (h e.world e.walk)
then_more rules m k p (Err w) h = tt

next_more : (rules : Rules) (m : ℕ) (p : Accepted) (w : World) (k : Walk) (o : Option ℕ)
    → ((v : World) (l : Walk) → Same (settle_climbed rules m (seated p v l)) (put (with_later p) (up_to m (next rules) v l)))
    → Same (comes (put (with_later p) (next_first (delivery rules w k o) w k (λ v l. Ok (still v l)))) o (λ t. settle_climbed rules m t)) (put (with_later p) (next_first (delivery rules w k o) w k (λ v l. up_to m (next rules) v l)))
next_more rules m p w k None h = record { session = refl; lines = refl; quiet = refl }
next_more rules m p w k (Some n) h = then_more rules m n p (effect.stepped rules w k (step.Deliver n)) h

-- a line of messages that come, where it may stand
settle_played : (rules : Rules) (line : List ℕ) (m : ℕ) (s : Session) → nat_lt 65535 (length line) ≡ false → line_of line ≡ Some (item.Settle m) → line_played rules line s ≡ placed rules (item.Settle m) s (later_refusal s.places)
unfolding line_played
settle_played rules line m s short is = ap (λ b. cond b (Err (what.Line Long)) (item_played rules (line_of line) s)) short ∙ ap (λ o. item_played rules o s) is

one_read : line_of settle_one ≡ Some (item.Settle 1)
one_read = ap (λ d. line_of (join_with_byte 32 (codes "settle" ∷ d ∷ []))) (sym (decimal_digit 1 (omega arith))) ∙ line_back (item.Settle 1) (omega arith, omega arith)

at_place : (rules : Rules) (m : ℕ) (s : Session) → later_refusal s.places ≡ None → placed rules (item.Settle m) s (later_refusal s.places) ≡ put (with_later s.places) (effect.settled rules m (world_at (with_later s.places) s.world) s.walker)
at_place rules m s h = ap (placed rules (item.Settle m) s) h

-- before the first such line no message waits
waits : (a : Accepted) (w : Option World) → waiting_in w ≡ next_waiting (world_at a w).cluster.sent
unfolding opening waiting_from
waits a None = refl
waits a (Some w) = refl

-- one more comes at a session where the line may stand
one_settles : (rules : Rules) (m : ℕ) (s : Session) → later_refusal s.places ≡ None
    → ((v : World) (l : Walk) → Same (settle_climbed rules m (seated s.places v l)) (put (with_later s.places) (up_to m (next rules) v l)))
    → Same (settle_climbed rules (suc m) s) (put (with_later s.places) (up_to (suc m) (next rules) (world_at (with_later s.places) s.world) s.walker))
unfolding settle_climbed up_to
one_settles rules m s free h =
    let w = world_at (with_later s.places) s.world in
    let later : Session → Result Climbed What = λ t. settle_climbed rules m t in
    let plays = put (with_later s.places) (next_first (next rules w s.walker) w s.walker (λ v l. up_to m (next rules) v l)) in
    let one : line_played rules settle_one s ≡ put (with_later s.places) (next_first (next rules w s.walker) w s.walker (λ v l. Ok (still v l))) = settle_played rules settle_one 1 s refl one_read ∙ at_place rules 1 s free in
    let is = comes_is rules s (least_waiting s) later ∙ ap (λ r. comes r (least_waiting s) later) one ∙ ap (λ o. comes (put (with_later s.places) (next_first (next rules w s.walker) w s.walker (λ v l. Ok (still v l)))) o later) (waits (with_later s.places) s.world) in
    subst (λ r. Same r plays) (sym is) (next_more rules m s.places w s.walker (next_waiting w.cluster.sent) h)

seats : (rules : Rules) (m : ℕ) (p : Accepted) (w : World) (k : Walk) → later_refusal p ≡ None → Same (settle_climbed rules m (seated p w k)) (put (with_later p) (up_to m (next rules) w k))
unfolding settle_climbed up_to
seats rules zero p w k free = record { session = refl; lines = refl; quiet = refl }
seats rules (suc m) p w k free = one_settles rules m (seated p w k) free (λ v l. seats rules m p v l free)

comes_refused : (v : What) (o : Option ℕ) (later : Session → Result Climbed What) (w : What) → Same (comes (Err v) o later) (Err w)
comes_refused v None later w = tt
comes_refused v (Some k) later w = tt

settles : (rules : Rules) (m : ℕ) (s : Session) (o : Option LineKind) → later_refusal s.places ≡ o → Same (settle_climbed rules (suc m) s) (placed rules (item.Settle (suc m)) s o)
unfolding settle_climbed
settles rules m s None free = one_settles rules m s free (λ v l. seats rules m s.places v l free)
settles rules m s (Some kind) refused =
    let later : Session → Result Climbed What = λ t. settle_climbed rules m t in
    let one = settle_played rules settle_one 1 s refl one_read ∙ ap (placed rules (item.Settle 1) s) refused in
    let is = comes_is rules s (least_waiting s) later ∙ ap (λ r. comes r (least_waiting s) later) one in
    subst (λ r. Same r (Err (what.Line kind))) (sym is) (comes_refused (what.Line kind) (least_waiting s) later (what.Line kind))

-- what a line is to a ladder tells what is shown of it
by_matter : (rules : Rules) (line : List ℕ) (s : Session) (m : Matter) → matter_at line ≡ m → Same (matter_climbed rules line s m) (line_played rules line s) → Same (line_climbed rules line s) (line_played rules line s)
by_matter rules line s m is h = subst (λ n. Same (matter_climbed rules line s n) (line_played rules line s)) (sym is) h

as_acts : (rules : Rules) (line : List ℕ) (s : Session) (f : Fate) → matter_at line ≡ matter.Acts f → Same (line_climbed rules line s) (line_played rules line s)
as_acts rules line s f is = by_matter rules line s (matter.Acts f) is (acts f (line_played rules line s))

as_settles : (rules : Rules) (line : List ℕ) (s : Session) (m : ℕ) → 1 ≤ m → nat_lt 65535 (length line) ≡ false → line_of line ≡ Some (item.Settle m) → Same (settle_climbed rules m s) (line_played rules line s)
as_settles rules line s zero some short is = absurd (omega arith)
as_settles rules line s (suc m) some short is = subst (λ r. Same (settle_climbed rules (suc m) s) r) (sym (settle_played rules line (suc m) s short is)) (settles rules m s (later_refusal s.places) refl)

matter_of_short : (line : List ℕ) (o : Option ScenarioLine) → nat_lt 65535 (length line) ≡ false → line_of line ≡ o → matter_at line ≡ matter_in o
matter_of_short line o short is = ap (λ b. cond b (matter.Acts fate.Still) (matter_in (line_of line))) short ∙ ap matter_in is

by_item : (rules : Rules) (line : List ℕ) (s : Session) (o : Option ScenarioLine) → nat_lt 65535 (length line) ≡ false → line_of line ≡ o → Same (line_climbed rules line s) (line_played rules line s)
by_item rules line s None short is = as_acts rules line s _ (matter_of_short line None short is)
by_item rules line s (Some (item.Config said)) short is = as_acts rules line s _ (matter_of_short line (Some (item.Config said)) short is)
by_item rules line s (Some (item.Change t)) short is = as_acts rules line s _ (matter_of_short line (Some (item.Change t)) short is)
by_item rules line s (Some (item.ByName n db asked)) short is = as_acts rules line s _ (matter_of_short line (Some (item.ByName n db asked)) short is)
by_item rules line s (Some (item.Settle m)) short is = by_matter rules line s (matter.Settles m) (matter_of_short line (Some (item.Settle m)) short is) (as_settles rules line s m (line_only line (item.Settle m) is).0.0 short is)
by_item rules line s (Some (item.Traverse said)) short is = as_acts rules line s _ (matter_of_short line (Some (item.Traverse said)) short is)
by_item rules line s (Some (item.Ctdb n command)) short is = as_acts rules line s _ (matter_of_short line (Some (item.Ctdb n command)) short is)

by_length : (rules : Rules) (line : List ℕ) (s : Session) (long : Bool) → nat_lt 65535 (length line) ≡ long → Same (line_climbed rules line s) (line_played rules line s)
by_length rules line s true is = as_acts rules line s fate.Still (ap (λ b. cond b (matter.Acts fate.Still) (matter_in (line_of line))) is)
by_length rules line s false is = by_item rules line s (line_of line) is refl

-- a line of the scenario
line_same : (rules : Rules) (line : List ℕ) (s : Session) → Same (line_climbed rules line s) (line_played rules line s)
line_same rules line s = by_length rules line s (nat_lt 65535 (length line)) refl

-- ---- lines

-- the rows show what a run of the lines prints
record Follows (is_shown : Bool) (lines : List (List ℕ)) (x : Climbed) (r : Run) : Type 0 where
  texts : List (List ℕ)
  told : run_lines_in x.rungs ≡ map without_feed texts
  printed : all_text texts ≡ r.text
  said : said_lines_in x.rungs ≡ cond is_shown lines []
  session : x.session ≡ r.session
  good : r.refusal ≡ None
  count : r.count ≡ length lines

-- so it is where each is played, and else the number is that of the first that is refused
abbrev Follow : Bool → ℕ → List (List ℕ) → Climb → Run → Type 0
Follow is_shown n lines (Ok x) r = Follows is_shown lines x r
Follow is_shown n lines (Err k) r = (r.refusal ≢ None) × (n + r.count ≡ k)

abbrev shown_of : Bool → List (List ℕ) → List (List ℕ)
shown_of is_shown lines = cond is_shown lines []

no_lines : (is_shown : Bool) → [] ≡ shown_of is_shown []
no_lines true = refl
no_lines false = refl

said_apart : (is_shown : Bool) (line : List ℕ) → run_lines_in (said_rungs is_shown line) ≡ []
said_apart true line = refl
said_apart false line = refl

said_itself : (is_shown : Bool) (line : List ℕ) → said_lines_in (said_rungs is_shown line) ≡ cond is_shown (line ∷ []) []
said_itself true line = refl
said_itself false line = refl

said_more : (is_shown : Bool) (line : List ℕ) (lines : List (List ℕ)) → cond is_shown (line ∷ []) [] ++ cond is_shown lines [] ≡ cond is_shown (line ∷ lines) []
said_more true line lines = refl
said_more false line lines = refl

texts_joined : (xs ys : List (List ℕ)) → all_text (xs ++ ys) ≡ all_text xs ++ all_text ys
texts_joined xs ys = flat_map-append (λ t. t) xs ys

not_none : {A : Type 0} (x : A) → Some x ≢ None
not_none x e = absurd cc

more_lines : (is_shown : Bool) (n : ℕ) (line : List ℕ) (lines : List (List ℕ)) (x : Climbed) (p : Played) (c : Climb) (r : Run) → Shows x p → Follow is_shown (n + 1) lines c r → Follow is_shown n (line ∷ lines) (climb_after (said_rungs is_shown line ++ x.rungs) c) (preceded (all_text p.texts) p.deeds 1 r)
more_lines is_shown n line lines x p (Ok y) r h f =
    let own = said_rungs is_shown line ++ x.rungs in
    let own_lines : run_lines_in own ≡ map without_feed p.texts = lines_joined (said_rungs is_shown line) x.rungs ∙ both (run_lines_in (said_rungs is_shown line)) (run_lines_in x.rungs) [] (map without_feed p.texts) (said_apart is_shown line) h.lines in
    let own_said : said_lines_in own ≡ cond is_shown (line ∷ []) [] = said_joined (said_rungs is_shown line) x.rungs ∙ both (said_lines_in (said_rungs is_shown line)) (said_lines_in x.rungs) (cond is_shown (line ∷ []) []) [] (said_itself is_shown line) h.quiet ∙ append-nil (cond is_shown (line ∷ []) []) in
    record {
      texts = p.texts ++ f.texts;
      told = lines_joined own y.rungs ∙ both (run_lines_in own) (run_lines_in y.rungs) (map without_feed p.texts) (map without_feed f.texts) own_lines f.told ∙ sym (map-append without_feed p.texts f.texts);
      printed = texts_joined p.texts f.texts ∙ ap (λ t. all_text p.texts ++ t) f.printed;
      said = said_joined own y.rungs ∙ both (said_lines_in own) (said_lines_in y.rungs) (cond is_shown (line ∷ []) []) (cond is_shown lines []) own_said f.said ∙ said_more is_shown line lines;
      session = f.session;
      good = f.good;
      count = let e = f.count in omega arith;
    }
more_lines is_shown n line lines x p (Err k) r h f = (f.0, let e = f.1 in omega arith)

line_more : (is_shown : Bool) (n : ℕ) (line : List ℕ) (lines : List (List ℕ)) (s : Session) (c : Result Climbed What) (p : Result Played What) (climb : Session → Climb) (run : Session → Run) → Same c p → ((t : Session) → Follow is_shown (n + 1) lines (climb t) (run t)) → Follow is_shown n (line ∷ lines) (climb_from (said_rungs is_shown line) n c climb) (continued p s run)
line_more is_shown n line lines s (Ok x) (Ok p) climb run h later = more_lines is_shown n line lines x p (climb x.session) (run p.session) h (subst (λ t. Follow is_shown (n + 1) lines (climb x.session) (run t)) h.session (later x.session))
line_more is_shown n line lines s (Ok x) (Err w) climb run h later = absurd h
line_more is_shown n line lines s (Err v) (Ok p) climb run h later = absurd h
line_more is_shown n line lines s (Err v) (Err w) climb run h later = (not_none w, omega arith)

follow : (rules : Rules) (is_shown : Bool) (n : ℕ) (s : Session) (lines : List (List ℕ)) → Follow is_shown n lines (lines_climbed rules is_shown n s lines) (run_lines rules s lines)
follow rules is_shown n s [] = record { texts = []; told = refl; printed = refl; said = no_lines is_shown; session = refl; good = refl; count = refl }
follow rules is_shown n s (line ∷ lines) = line_more is_shown n line lines s (line_climbed rules line s) (line_played rules line s) (λ t. lines_climbed rules is_shown (n + 1) t lines) (λ t. run_lines rules t lines) (line_same rules line s) (λ t. follow rules is_shown (n + 1) t lines)

-- ---- parts

one_less : (n : ℕ) → suc (suc n) - 1 ≡ suc (suc n - 1)
one_less n = omega arith

lines_next : (z y : List ℕ) (ys : List (List ℕ)) → lines_of (z ∷ y ∷ ys) ≡ z ∷ lines_of (y ∷ ys)
lines_next z y ys = ap (λ k. take k (z ∷ y ∷ ys)) (one_less (length ys))

rest_next : (z y : List ℕ) (ys : List (List ℕ)) → rest_of (z ∷ y ∷ ys) ≡ rest_of (y ∷ ys)
rest_next z y ys = ap (λ k. or_empty (slice_get (z ∷ y ∷ ys) k)) (one_less (length ys))

-- bytes behind those of a line that was begun, by their parts
record Cut (line bytes : List ℕ) : Type 0 where
  first : List ℕ
  later : List (List ℕ)
  parts : parts_of bytes ≡ first ∷ later
  lines : lines_after line bytes ≡ lines_of ((line ++ first) ∷ later)
  ends : rest_after line bytes ≡ rest_of ((line ++ first) ∷ later)

cut_yes : (line : List ℕ) (x : ℕ) (xs : List ℕ) → nat_eq x 10 ≡ true → Cut [] xs → Cut line (x ∷ xs)
cut_yes line x xs is c = record {
  first = [];
  later = c.first ∷ c.later;
  parts = ap (λ b. cond b ([] ∷ parts_of xs) (onto_first x (parts_of xs))) is ∙ ap (λ ps. [] ∷ ps) c.parts;
  lines = ap (λ b. cond b (line ∷ lines_after [] xs) (lines_after (line ++ x ∷ []) xs)) is ∙ ap (λ ls. line ∷ ls) c.lines
      ∙ ap (λ z. z ∷ lines_of (c.first ∷ c.later)) (sym (append-nil line)) ∙ sym (lines_next (line ++ []) c.first c.later);
  ends = ap (λ b. cond b (rest_after [] xs) (rest_after (line ++ x ∷ []) xs)) is ∙ c.ends ∙ sym (rest_next (line ++ []) c.first c.later);
}

cut_no : (line : List ℕ) (x : ℕ) (xs : List ℕ) → nat_eq x 10 ≡ false → Cut (line ++ x ∷ []) xs → Cut line (x ∷ xs)
cut_no line x xs is c = record {
  first = x ∷ c.first;
  later = c.later;
  parts = ap (λ b. cond b ([] ∷ parts_of xs) (onto_first x (parts_of xs))) is ∙ ap (onto_first x) c.parts;
  lines = ap (λ b. cond b (line ∷ lines_after [] xs) (lines_after (line ++ x ∷ []) xs)) is ∙ c.lines ∙ ap (λ z. lines_of (z ∷ c.later)) (append_assoc line (x ∷ []) c.first);
  ends = ap (λ b. cond b (rest_after [] xs) (rest_after (line ++ x ∷ []) xs)) is ∙ c.ends ∙ ap (λ z. rest_of (z ∷ c.later)) (append_assoc line (x ∷ []) c.first);
}

cut_at : (line : List ℕ) (x : ℕ) (xs : List ℕ) (b : Bool) → nat_eq x 10 ≡ b → ((front : List ℕ) → Cut front xs) → Cut line (x ∷ xs)
cut_at line x xs true is c = cut_yes line x xs is (c [])
cut_at line x xs false is c = cut_no line x xs is (c (line ++ x ∷ []))

cut : (line bytes : List ℕ) → Cut line bytes
cut line [] = record { first = []; later = []; parts = refl; lines = refl; ends = sym (append-nil line) }
cut line (x ∷ xs) = cut_at line x xs (nat_eq x 10) refl (λ front. cut front xs)

lines_are : (bytes : List ℕ) → lines_of (parts_of bytes) ≡ lines_after [] bytes
lines_are bytes = let c = cut [] bytes in ap lines_of c.parts ∙ sym c.lines

rest_is : (bytes : List ℕ) → rest_of (parts_of bytes) ≡ rest bytes
rest_is bytes = let c = cut [] bytes in ap rest_of c.parts ∙ sym c.ends

-- there are as many lines as parts but the last
lines_counted : (bytes : List ℕ) → length (lines_after [] bytes) ≡ length (parts_of bytes) - 1
lines_counted bytes =
    let e = ap length (lines_are bytes) in
    let t = length-take (length (parts_of bytes) - 1) (parts_of bytes) in
    omega arith

-- ---- the whole

made_by : (rules : Rules) (is_shown : Bool) (bytes : List ℕ) → ladder_from rules is_shown bytes ≡ ladder_at (length (parts_of bytes) - 1 + 1) (rest bytes) (lines_climbed rules is_shown 1 start (lines_after [] bytes))
unfolding ladder_in
made_by rules is_shown bytes =
    ap (λ r. ladder_at (length (parts_of bytes) - 1 + 1) r (lines_climbed rules is_shown 1 start (lines_of (parts_of bytes)))) (rest_is bytes)
    ∙ ap (λ ls. ladder_at (length (parts_of bytes) - 1 + 1) (rest bytes) (lines_climbed rules is_shown 1 start ls)) (lines_are bytes)

-- a run that was followed to its end
tells : (is_shown : Bool) (lines : List (List ℕ)) (n : ℕ) (end : List ℕ) (c : Climb) (r : Run) (l : Ladder) → Follow is_shown 1 lines c r → ladder_at n end c ≡ Ok l → TellsPlay is_shown lines (with_rest (length end) r) l × (end ≡ [])
tells is_shown lines n [] (Ok x) r l f is =
    let whole = x.rungs ++ told_rungs fate.Still (pending_texts x.session) in
    let here : whole ≡ l.rungs = cc in (
      record {
        texts = f.texts ++ pending_texts r.session;
        told = ap run_lines_in (sym here) ∙ lines_joined x.rungs (told_rungs fate.Still (pending_texts x.session))
            ∙ both (run_lines_in x.rungs) (run_lines_in (told_rungs fate.Still (pending_texts x.session))) (map without_feed f.texts) (map without_feed (pending_texts r.session)) f.told (told_lines fate.Still (pending_texts x.session) ∙ ap (λ t. map without_feed (pending_texts t)) f.session)
            ∙ sym (map-append without_feed f.texts (pending_texts r.session));
        printed = texts_joined f.texts (pending_texts r.session) ∙ ap (λ t. t ++ all_text (pending_texts r.session)) f.printed;
        said = ap said_lines_in (sym here) ∙ said_joined x.rungs (told_rungs fate.Still (pending_texts x.session))
            ∙ both (said_lines_in x.rungs) (said_lines_in (told_rungs fate.Still (pending_texts x.session))) (cond is_shown lines []) [] f.said (told_quiet fate.Still (pending_texts x.session)) ∙ append-nil (cond is_shown lines []);
        good = ap (refusal_after 0) f.good;
      },
      refl,
    )
tells is_shown lines n (b ∷ bs) (Ok x) r l f is = absurd cc
tells is_shown lines n [] (Err k) r l f is = absurd cc
tells is_shown lines n (b ∷ bs) (Err k) r l f is = absurd cc

pub ladders_tell : LaddersTellPlays
unfolding run_from
ladders_tell rules is_shown bytes l is =
    tells is_shown (lines_after [] bytes) (length (parts_of bytes) - 1 + 1) (rest bytes) (lines_climbed rules is_shown 1 start (lines_after [] bytes)) (run_lines rules start (lines_after [] bytes)) l
    (follow rules is_shown 1 start (lines_after [] bytes)) (sym (made_by rules is_shown bytes) ∙ is)

-- a refusal stands, whatever is behind it
still_refused : (n : ℕ) (o : Option What) → o ≢ None → refusal_after n o ≢ None
still_refused n None h e = h refl
still_refused n (Some w) h e = absurd cc

no_byte : (b : ℕ) (bs : List ℕ) → b ∷ bs ≢ []
no_byte b bs e = absurd cc

refuses : (is_shown : Bool) (lines : List (List ℕ)) (n : ℕ) (end : List ℕ) (c : Climb) (r : Run) (k : ℕ) → Follow is_shown 1 lines c r → n ≡ length lines + 1 → ladder_at n end c ≡ Err k → (((with_rest (length end) r).refusal ≢ None) ⊎ (end ≢ [])) × ((with_rest (length end) r).count + 1 ≡ k)
refuses is_shown lines n [] (Ok x) r k f e is = absurd cc
refuses is_shown lines n (b ∷ bs) (Ok x) r k f e is = (inr (no_byte b bs), let h : n ≡ k = cc in let g = f.count in omega arith)
refuses is_shown lines n [] (Err m) r k f e is = (inl (still_refused 0 r.refusal f.0), let h : m ≡ k = cc in let g = f.1 in omega arith)
refuses is_shown lines n (b ∷ bs) (Err m) r k f e is = (inl (still_refused (length (b ∷ bs)) r.refusal f.0), let h : m ≡ k = cc in let g = f.1 in omega arith)

pub ladders_refused : LaddersAreRefused
unfolding run_from
ladders_refused rules is_shown bytes k is =
    refuses is_shown (lines_after [] bytes) (length (parts_of bytes) - 1 + 1) (rest bytes) (lines_climbed rules is_shown 1 start (lines_after [] bytes)) (run_lines rules start (lines_after [] bytes)) k
    (follow rules is_shown 1 start (lines_after [] bytes)) (let e = lines_counted bytes in omega arith) (sym (made_by rules is_shown bytes) ∙ is)
