-- Lines of a scenario, and the rows that they make, one after the other.
use Rattle.std.proofs.Common.{◌≡◌, ◌∙◌, ℕ, zero, suc, ◌+◌, ◌-◌, ◌≤◌, ◌<◌, Bool, true, false, List, [], ◌∷◌, ◌++◌, length, map, take, drop, Option, None, Some, Result, Ok, Err, refl, sym, ap, subst, append_assoc, append-nil, arith}
use Rattle.ct_call.specs.Rules.{Rules}
use Rattle.ct_play.specs.Session.{Matches, Played, pending_texts, start}
use Rattle.std.specs.Prelude.{nat_eq}
use Rattle.std.proofs.lemmas.Bool.{eqb-false, eqb-true}
use Rattle.std.proofs.lemmas.List.{length-map, take-map}
use Rattle.ct_picture.specs.Reading.{lines_of, rest_of}
use Rattle.ct_picture.specs.Rows.{word_at}
use Rattle.ct_picture.specs.declared.reading.RunFault.{RunFault}
use Rattle.ct_picture.specs.declared.reading.RunFault.TheVariants.{Line, NoMemory as Lacking}
use Rattle.ct_play.specs.declared.session.Session.{Session}
use Rattle.ct_play_text.specs.declared.what.PlayFault.{PlayFault}
use Rattle.ct_play_text.specs.declared.what.PlayFault.TheVariants.{Refused, NoMemory as Want}
use Rattle.ct_play_text.specs.declared.what.What.{What}
use Rattle.ct_ladder.specs.declared.rung.Fate.{Fate}
use Rattle.ct_ladder.specs.declared.rung.Fate.TheVariants as fate
use Rattle.ct_ladder.specs.declared.rung.Rung.{Rung}
use Rattle.ct_ladder_play.specs.Playing.{Climb, Climbed, Climbs, ClimbsAll, Ladders, after_rungs, and_on, climb_after, climbed, ladder_at, ladder_in, line_climbed, lines_climbed, nodes_of, one_comes, rungs_of, said_rungs, settle_one, settle_climbed, step_climbed, told_rungs, least_waiting, climb_from}

-- ---- one step

-- the rows of what was played stand behind those before
pub step_made : (r : Result Played What) (f : Fate) (new : Session) (texts : List (List ℕ)) (before now : List Rung) → Matches r new texts → now ≡ before ++ rungs_of f texts → (x : Climbed) × (climbed f r ≡ Ok x) × (new ≡ x.session) × (now ≡ before ++ x.rungs)
step_made (Ok p) f new texts before now h e = (record { session = p.session; rungs = rungs_of f p.texts }, refl, sym h.0, e ∙ ap (λ ts. before ++ rungs_of f ts) (sym h.1))
step_made (Err what) f new texts before now h e = absurd h

pub step_refused : (r : Result Played What) (f : Fate) (what : What) → r ≡ Err what → climbed f r ≡ Err what
step_refused r f what e = ap (climbed f) e

-- ---- messages that come one after the other

-- so many are left at this session, and these rows were made
pub record Settling (rules : Rules) (count : ℕ) (first now : Session) (left : ℕ) (before rungs : List Rung) : Type 0 where
  pub done : List Rung
  pub made : rungs ≡ before ++ done
  pub goes_on : after_rungs done (settle_climbed rules left now) ≡ settle_climbed rules count first

after_nothing : (r : Result Climbed What) → after_rungs [] r ≡ r
after_nothing (Ok x) = refl
after_nothing (Err what) = refl

after_both : (xs ys : List Rung) (r : Result Climbed What) → after_rungs xs (after_rungs ys r) ≡ after_rungs (xs ++ ys) r
after_both xs ys (Ok x) = ap (λ rs. Ok (record { session = x.session; rungs = rs })) (sym (append_assoc xs ys x.rungs))
after_both xs ys (Err what) = refl

pub begins : (rules : Rules) (count : ℕ) (first : Session) (before : List Rung) → Settling rules count first first count before before
begins rules count first before = record { done = []; made = sym (append-nil before); goes_on = after_nothing (settle_climbed rules count first) }

one_left : (rules : Rules) (m left : ℕ) (now : Session) (next : Option ℕ) → m ≡ suc left → least_waiting now ≡ next → settle_climbed rules m now ≡ one_comes rules now next (λ t. settle_climbed rules left t)
unfolding settle_climbed
one_left rules m left now next e n = ap (λ k. settle_climbed rules k now) e ∙ ap (λ o. one_comes rules now o (λ t. settle_climbed rules left t)) n

-- one more came
pub came : (rules : Rules) (count : ℕ) (first now : Session) (m left k : ℕ) (before rungs more : List Rung) (x : Climbed)
    → m ≡ suc left
    → least_waiting now ≡ Some k
    → step_climbed rules (fate.Came k) settle_one now ≡ Ok x
    → more ≡ rungs ++ x.rungs
    → Settling rules count first now m before rungs
    → Settling rules count first x.session left before more
came rules count first now m left k before rungs more x e n a r h =
    let later : Session → Result Climbed What = λ t. settle_climbed rules left t in
    let it : settle_climbed rules m now ≡ after_rungs x.rungs (settle_climbed rules left x.session) = one_left rules m left now (Some k) e n ∙ ap (λ s. and_on s later) a in
    record {
      done = h.done ++ x.rungs;
      made = r ∙ ap (λ rs. rs ++ x.rungs) h.made ∙ append_assoc before h.done x.rungs;
      goes_on = sym (after_both h.done x.rungs (settle_climbed rules left x.session)) ∙ ap (λ s. after_rungs h.done s) (sym it) ∙ h.goes_on;
    }

-- a message came by this step
pub came_next : (rules : Rules) (count : ℕ) (first now new : Session) (i k : ℕ) (before rungs more : List Rung)
    → i < count
    → least_waiting now ≡ Some k
    → Climbs (Ok tt) (step_climbed rules (fate.Came k) settle_one now) new rungs more
    → Settling rules count first now (count - i) before rungs
    → Settling rules count first new (count - (i + 1)) before more
came_next rules count first now new i k before rungs more b n (x, a, s, r) h =
    let e : count - i ≡ suc (count - (i + 1)) = omega arith in
    subst (λ t. Settling rules count first t (count - (i + 1)) before more) (sym s) (came rules count first now (count - i) (count - (i + 1)) k before rungs more x e n a r h)

-- or it was refused
pub came_refused : (rules : Rules) (count : ℕ) (first now new : Session) (i k : ℕ) (before rungs more : List Rung) (f : PlayFault)
    → i < count
    → least_waiting now ≡ Some k
    → Climbs (Err f) (step_climbed rules (fate.Came k) settle_one now) new rungs more
    → Settling rules count first now (count - i) before rungs
    → Climbs (Err f) (settle_climbed rules count first) new before more
came_refused rules count first now new i k before rungs more (Refused what) b n a h =
    let e : count - i ≡ suc (count - (i + 1)) = omega arith in
    let later : Session → Result Climbed What = λ t. settle_climbed rules (count - (i + 1)) t in
    let it : settle_climbed rules (count - i) now ≡ Err what = one_left rules (count - i) (count - (i + 1)) now (Some k) e n ∙ ap (λ s. and_on s later) a in
    sym h.goes_on ∙ ap (λ s. after_rungs h.done s) it
came_refused rules count first now new i k before rungs more Want b n a h = tt

-- no message waits any more
pub none_left : (rules : Rules) (count : ℕ) (first now new : Session) (i : ℕ) (before rungs more : List Rung) (r : Result (Unit {0}) PlayFault)
    → i < count
    → least_waiting now ≡ None
    → Climbs r (step_climbed rules fate.Still settle_one now) new rungs more
    → Settling rules count first now (count - i) before rungs
    → Climbs r (settle_climbed rules count first) new before more
none_left rules count first now new i before rungs more (Ok u) b n (x, a, s, r) h =
    let e : count - i ≡ suc (count - (i + 1)) = omega arith in
    let it : settle_climbed rules (count - i) now ≡ Ok x = one_left rules (count - i) (count - (i + 1)) now None e n ∙ a in
    (record { session = x.session; rungs = h.done ++ x.rungs }, sym h.goes_on ∙ ap (λ s. after_rungs h.done s) it, s, r ∙ ap (λ rs. rs ++ x.rungs) h.made ∙ append_assoc before h.done x.rungs)
none_left rules count first now new i before rungs more (Err (Refused what)) b n a h =
    let e : count - i ≡ suc (count - (i + 1)) = omega arith in
    let it : settle_climbed rules (count - i) now ≡ Err what = one_left rules (count - i) (count - (i + 1)) now None e n ∙ a in
    sym h.goes_on ∙ ap (λ s. after_rungs h.done s) it
none_left rules count first now new i before rungs more (Err Want) b n a h = tt

none_more : (rules : Rules) (m : ℕ) (now : Session) → m ≡ 0 → settle_climbed rules m now ≡ Ok (record { session = now; rungs = [] })
unfolding settle_climbed
none_more rules m now e = ap (λ k. settle_climbed rules k now) e

-- as many came as were to
pub all_came : (rules : Rules) (count : ℕ) (first now : Session) (i : ℕ) (before rungs : List Rung)
    → count ≤ i
    → Settling rules count first now (count - i) before rungs
    → Climbs (Ok tt) (settle_climbed rules count first) now before rungs
all_came rules count first now i before rungs b h =
    (record { session = now; rungs = h.done ++ [] }, sym h.goes_on ∙ ap (λ s. after_rungs h.done s) (none_more rules (count - i) now (omega arith)), refl, h.made ∙ ap (λ rs. before ++ rs) (sym (append-nil h.done)))

-- ---- lines

-- lines from this number on are left at this session, and these rows were made
pub record Climbing (rules : Rules) (is_shown : Bool) (first now : Session) (all left : List (List ℕ)) (n : ℕ) (before rungs : List Rung) : Type 0 where
  pub done : List Rung
  pub made : rungs ≡ before ++ done
  pub goes_on : climb_after done (lines_climbed rules is_shown n now left) ≡ lines_climbed rules is_shown 1 first all

behind_nothing : (r : Climb) → climb_after [] r ≡ r
behind_nothing (Ok x) = refl
behind_nothing (Err n) = refl

behind_both : (xs ys : List Rung) (r : Climb) → climb_after xs (climb_after ys r) ≡ climb_after (xs ++ ys) r
behind_both xs ys (Ok x) = ap (λ rs. Ok (record { session = x.session; rungs = rs })) (sym (append_assoc xs ys x.rungs))
behind_both xs ys (Err n) = refl

pub climb_begins : (rules : Rules) (is_shown : Bool) (first : Session) (all : List (List ℕ)) (before : List Rung) → Climbing rules is_shown first first all all 1 before before
climb_begins rules is_shown first all before = record { done = []; made = sym (append-nil before); goes_on = behind_nothing (lines_climbed rules is_shown 1 first all) }

-- one line more
pub climb_more : (rules : Rules) (is_shown : Bool) (first now : Session) (all : List (List ℕ)) (line : List ℕ) (left : List (List ℕ)) (n : ℕ) (before rungs said more : List Rung) (x : Climbed)
    → line_climbed rules line now ≡ Ok x
    → said ≡ rungs ++ said_rungs is_shown line
    → more ≡ said ++ x.rungs
    → Climbing rules is_shown first now all (line ∷ left) n before rungs
    → Climbing rules is_shown first x.session all left (n + 1) before more
climb_more rules is_shown first now all line left n before rungs said more x a s r h =
    let own = said_rungs is_shown line ++ x.rungs in
    let later : Climb = lines_climbed rules is_shown (n + 1) x.session left in
    let it : lines_climbed rules is_shown n now (line ∷ left) ≡ climb_after own later = ap (λ c. climb_from (said_rungs is_shown line) n c (λ t. lines_climbed rules is_shown (n + 1) t left)) a in
    record {
      done = h.done ++ own;
      made = r ∙ ap (λ rs. rs ++ x.rungs) (s ∙ ap (λ rs. rs ++ said_rungs is_shown line) h.made) ∙ ap (λ rs. rs ++ x.rungs) (append_assoc before h.done (said_rungs is_shown line))
          ∙ append_assoc before (h.done ++ said_rungs is_shown line) x.rungs ∙ ap (λ rs. before ++ rs) (append_assoc h.done (said_rungs is_shown line) x.rungs);
      goes_on = sym (behind_both h.done own later) ∙ ap (λ c. climb_after h.done c) (sym it) ∙ h.goes_on;
    }

-- a line was played
pub climb_next : (rules : Rules) (is_shown : Bool) (first now new : Session) (all : List (List ℕ)) (line : List ℕ) (left : List (List ℕ)) (n : ℕ) (before rungs said more : List Rung)
    → said ≡ rungs ++ said_rungs is_shown line
    → Climbs (Ok tt) (line_climbed rules line now) new said more
    → Climbing rules is_shown first now all (line ∷ left) n before rungs
    → Climbing rules is_shown first new all left (n + 1) before more
climb_next rules is_shown first now new all line left n before rungs said more s (x, a, t, r) h =
    subst (λ u. Climbing rules is_shown first u all left (n + 1) before more) (sym t) (climb_more rules is_shown first now all line left n before rungs said more x a s r h)

-- or it was refused
pub climb_refused : (rules : Rules) (is_shown : Bool) (first now new : Session) (all : List (List ℕ)) (line : List ℕ) (left : List (List ℕ)) (n : ℕ) (before rungs said more : List Rung) (what : What)
    → Climbs (Err (Refused what)) (line_climbed rules line now) new said more
    → Climbing rules is_shown first now all (line ∷ left) n before rungs
    → lines_climbed rules is_shown 1 first all ≡ Err n
climb_refused rules is_shown first now new all line left n before rungs said more what a h =
    sym h.goes_on ∙ ap (λ c. climb_after h.done (climb_from (said_rungs is_shown line) n c (λ t. lines_climbed rules is_shown (n + 1) t left))) a

none_after : {A : Type 0} (lines : List A) (i : ℕ) → length lines ≤ i → drop i lines ≡ []
none_after [] zero h = refl
none_after [] (suc i) h = refl
none_after (x ∷ xs) zero h = absurd (omega (arith, h))
none_after (x ∷ xs) (suc i) h = none_after xs i (omega (arith, h))

climb_done : (rules : Rules) (is_shown : Bool) (first now : Session) (all : List (List ℕ)) (n : ℕ) (before rungs : List Rung)
    → Climbing rules is_shown first now all [] n before rungs
    → ClimbsAll (Ok tt) (lines_climbed rules is_shown 1 first all) now before rungs
climb_done rules is_shown first now all n before rungs h =
    (record { session = now; rungs = h.done ++ [] }, sym h.goes_on, refl, h.made ∙ ap (λ rs. before ++ rs) (sym (append-nil h.done)))

-- no line is left
pub climb_over : {A : Type 0} (v : A → List ℕ) (lines : List A) (i : ℕ) (rules : Rules) (is_shown : Bool) (first now : Session) (n : ℕ) (before rungs : List Rung)
    → length lines ≤ i
    → Climbing rules is_shown first now (map v lines) (map v (drop i lines)) n before rungs
    → ClimbsAll (Ok tt) (lines_climbed rules is_shown 1 first (map v lines)) now before rungs
climb_over v lines i rules is_shown first now n before rungs b h =
    climb_done rules is_shown first now (map v lines) n before rungs (subst (λ ls. Climbing rules is_shown first now (map v lines) (map v ls) n before rungs) (none_after lines i b) h)

-- ---- the whole

at_fault : (n : ℕ) (rest : List ℕ) (m : ℕ) → ladder_at n rest (Err m) ≡ Err m
at_fault n [] m = refl
at_fault n (b ∷ bs) m = refl

at_rest : (n : ℕ) (rest : List ℕ) (x : Climbed) → nat_eq (length rest) 0 ≡ false → ladder_at n rest (Ok x) ≡ Err n
at_rest n [] x some = absurd (eqb-false 0 0 some refl)
at_rest n (b ∷ bs) x some = refl

at_end : (n : ℕ) (rest : List ℕ) (x : Climbed) → nat_eq (length rest) 0 ≡ true → ladder_at n rest (Ok x) ≡ Ok (record { nodes = nodes_of x.session; rungs = x.rungs ++ told_rungs fate.Still (pending_texts x.session) })
at_end n [] x none = refl
at_end n (b ∷ bs) x none = absurd (let e = eqb-true (length (b ∷ bs)) 0 none in omega arith)

-- the lines of parts, and what is behind them, as they are
lines_taken : {A : Type 0} (v : A → List ℕ) (parts : List A) (n : ℕ) → n ≡ length parts - 1 → map v (take n parts) ≡ lines_of (map v parts)
lines_taken v parts n e = sym (take-map v n parts) ∙ ap (λ k. take k (map v parts)) (e ∙ ap (λ k. k - 1) (sym (length-map parts v)))

rest_taken : {A : Type 0} (v : A → List ℕ) (parts : List A) (n : ℕ) → n ≡ length parts - 1 → word_at (map v parts) n ≡ rest_of (map v parts)
rest_taken v parts n e = ap (word_at (map v parts)) (e ∙ ap (λ k. k - 1) (sym (length-map parts v)))

-- what is climbed of the lines of parts makes their ladder
made_of : {A : Type 0} (v : A → List ℕ) (parts : List A) (n : ℕ) (rules : Rules) (is_shown : Bool) (first : Session) (c : Climb)
    → n ≡ length parts - 1 → first ≡ start → lines_climbed rules is_shown 1 first (map v (take n parts)) ≡ c
    → ladder_in rules is_shown (map v parts) ≡ ladder_at (n + 1) (word_at (map v parts) n) c
unfolding ladder_in
made_of v parts n rules is_shown first c e s h =
    ap (λ k. ladder_at (k - 1 + 1) (rest_of (map v parts)) (lines_climbed rules is_shown 1 start (lines_of (map v parts)))) (length-map parts v)
    ∙ ap (λ k. ladder_at (k + 1) (rest_of (map v parts)) (lines_climbed rules is_shown 1 start (lines_of (map v parts)))) (sym e)
    ∙ ap (λ r. ladder_at (n + 1) r (lines_climbed rules is_shown 1 start (lines_of (map v parts)))) (sym (rest_taken v parts n e))
    ∙ ap (λ ls. ladder_at (n + 1) (word_at (map v parts) n) (lines_climbed rules is_shown 1 start ls)) (sym (lines_taken v parts n e))
    ∙ ap (λ t. ladder_at (n + 1) (word_at (map v parts) n) (lines_climbed rules is_shown 1 t (map v (take n parts)))) (sym s)
    ∙ ap (ladder_at (n + 1) (word_at (map v parts) n)) h

-- a line was refused
pub ladder_refused : {A : Type 0} (v : A → List ℕ) (parts : List A) (n : ℕ) (rules : Rules) (is_shown : Bool) (first new : Session) (before now : List Rung) (f : RunFault)
    → n ≡ length parts - 1 → first ≡ start → ClimbsAll (Err f) (lines_climbed rules is_shown 1 first (map v (take n parts))) new before now
    → Ladders (Err f) (ladder_in rules is_shown (map v parts))
ladder_refused v parts n rules is_shown first new before now (Line m) e s h = made_of v parts n rules is_shown first (Err m) e s h ∙ at_fault (n + 1) (word_at (map v parts) n) m
ladder_refused v parts n rules is_shown first new before now Lacking e s h = tt

-- the input ends inside a line
pub ladder_unended : {A : Type 0} (v : A → List ℕ) (parts : List A) (n : ℕ) (rules : Rules) (is_shown : Bool) (first new : Session) (before now : List Rung) (rest : List ℕ)
    → n ≡ length parts - 1 → first ≡ start → rest ≡ word_at (map v parts) n → nat_eq (length rest) 0 ≡ false
    → ClimbsAll (Ok tt) (lines_climbed rules is_shown 1 first (map v (take n parts))) new before now
    → ladder_in rules is_shown (map v parts) ≡ Err (n + 1)
ladder_unended v parts n rules is_shown first new before now rest e s r some (x, h, t, m) =
    made_of v parts n rules is_shown first (Ok x) e s h ∙ at_rest (n + 1) (word_at (map v parts) n) x (ap (λ l. nat_eq (length l) 0) (sym r) ∙ some)

-- all lines were played
pub ladder_made : {A : Type 0} (v : A → List ℕ) (parts : List A) (n : ℕ) (rules : Rules) (is_shown : Bool) (first new : Session) (before now all : List Rung) (nodes : ℕ) (rest : List ℕ)
    → n ≡ length parts - 1 → first ≡ start → rest ≡ word_at (map v parts) n → nat_eq (length rest) 0 ≡ true
    → ClimbsAll (Ok tt) (lines_climbed rules is_shown 1 first (map v (take n parts))) new before now
    → before ≡ [] → all ≡ now ++ told_rungs fate.Still (pending_texts new) → nodes ≡ nodes_of new
    → ladder_in rules is_shown (map v parts) ≡ Ok (record { nodes = nodes; rungs = all })
ladder_made v parts n rules is_shown first new before now all nodes rest e s r none (x, h, t, m) b a k =
    made_of v parts n rules is_shown first (Ok x) e s h ∙ at_end (n + 1) (word_at (map v parts) n) x (ap (λ l. nat_eq (length l) 0) (sym r) ∙ none)
    ∙ ap (λ u. Ok (record { nodes = nodes_of u; rungs = x.rungs ++ told_rungs fate.Still (pending_texts u) })) (sym t)
    ∙ ap (λ rs. Ok (record { nodes = nodes_of new; rungs = rs ++ told_rungs fate.Still (pending_texts new) })) (sym (m ∙ ap (λ rs. rs ++ x.rungs) b))
    ∙ ap (λ rs. Ok (record { nodes = nodes_of new; rungs = rs })) (sym a) ∙ ap (λ q. Ok (record { nodes = q; rungs = all })) (sym k)
