-- What a scenario did is a run of its cluster and of its traverses.
use Rattle.std.proofs.Common.{◌≡◌, ℕ, Bool, true, false, cond, List, [], ◌∷◌, ◌++◌, length, Option, None, Some, Result, Ok, Err, refl, sym, ap, subst, ◌∙◌, append_assoc, append-nil}
use Rattle.std.specs.Prelude.{nat_lt}
use Rattle.ct_call.specs.Rules.{Rules}
use Rattle.ct_rules_cluster.specs.Cluster.{opening, World}
use Rattle.ct_rules_cluster.specs.Traces.{OpenCall, Ran, idle}
use Rattle.ct_rules_node.specs.Node.{is_persistent, kind_at}
use Rattle.ct_traverse_parts.specs.Moves.{moves_ran}
use Rattle.ct_traverse_parts.specs.Walk.{Walk, no_walk}
use Rattle.ct_traverse_parts.proofs.Moving.{steps_run}
use Rattle.ct_lines.proofs.Placed.{address_accepted, db_accepted, nodes_accepted}
use Rattle.ct_lines.proofs.Whole.{line_only}
use Rattle.ct_lines.specs.Grammar.{line_of}
use Rattle.ct_lines.specs.Places.{Accepted, IsAccepted, refusal, with_line}
use Rattle.ct_lines.specs.Spelled.{IsCommand, IsInRange}
use Rattle.ct_lines.specs.declared.line.Command.{Command}
use Rattle.ct_lines.specs.declared.line.Command.TheVariants.{Shows, Steps, CatDb}
use Rattle.ct_lines.specs.declared.line.ConfigLine.TheVariants as config
use Rattle.ct_lines.specs.declared.line.LineKind.{LineKind}
use Rattle.ct_lines.specs.declared.line.LineKind.TheVariants.{Long}
use Rattle.ct_lines.specs.declared.line.ScenarioLine.{ScenarioLine}
use Rattle.ct_lines.specs.declared.line.ScenarioLine.TheVariants as item
use Rattle.ct_lines.specs.declared.line.ShowCommand.TheVariants as show
use Rattle.ct_lines.specs.declared.line.TraverseLine.{TraverseLine}
use Rattle.ct_lines.specs.declared.line.TraverseLine.TheVariants as traverse
use Rattle.ct_play.specs.Course.{Deed, Effect, moves_of}
use Rattle.ct_play.specs.Effect.{commanded, line_effect, shown, text_effect, traverse_begun, traversed}
use Rattle.ct_named.specs.Named.{command_step, named_step, number_in_step}
use Rattle.ct_play.specs.Opening.{world_at}
use Rattle.ct_play.specs.Play.{AreMovesOf, IsRunOf, Run, continued, lines_after, played, run_from, run_lines}
use Rattle.ct_play.specs.Session.{Played, is_config_line, item_played, line_played, longest, placed, put, quiet, start}
use Rattle.ct_play.specs.declared.session.Session.{Session}
use Rattle.ct_play_text.specs.declared.what.What.{What}
use Rattle.ct_play_text.specs.declared.what.What.TheVariants as what
use Rattle.ct_named.proofs.Allowed.{change_allowed, command_allowed, named_allowed}
use Rattle.ct_play.proofs.Made.{configures}
use Rattle.ct_play.proofs.Running.{Leads, LeadsFrom, begun_leads, carried_leads, idle_leads, lost_leads, repeated_leads, settled_leads, step_leads, still_leads, then_leads, walked_leads}

-- a configuration can be made of what was accepted, and what was done are moves of the cluster and of its traverses
record Stands (rules : Rules) (s : Session) (deeds : List Deed) : Type 0 where
  accepted : IsAccepted s.places
  moves : AreMovesOf rules s.world s.walker deeds

-- ---- what is accepted

accepts : (a : Accepted) (line : ScenarioLine) → IsInRange line → refusal line a ≡ None → IsAccepted a → IsAccepted (with_line line a)
accepts a (item.Config (config.Nodes n)) range place h = nodes_accepted a n range h
accepts a (item.Config (config.Db d)) range place h = db_accepted a (config.Db d) d (a.dbs ++ d ∷ []) refl refl place h
accepts a (item.Config (config.Address x)) range place h = address_accepted a (config.Address x) x (a.addresses ++ x ∷ []) refl refl place h
accepts a (item.Change s) range place h = h
accepts a (item.ByName n db asked) range place h = h
accepts a (item.Settle m) range place h = h
accepts a (item.Traverse said) range place h = h
accepts a (item.Ctdb n command) range place h = h

-- ---- the cluster at a line

nothing_moved : (rules : Rules) (a : Accepted) → IsAccepted a → AreMovesOf rules (Some (world_at a None)) no_walk []
unfolding moves_ran idle
nothing_moved rules a h = ((a.dbs, a.addresses, configures a h), refl, refl, refl, refl)

moves_at : (rules : Rules) (a : Accepted) (o : Option World) (k : Walk) (deeds : List Deed) → IsAccepted a → AreMovesOf rules o k deeds → AreMovesOf rules (Some (world_at a o)) k deeds
moves_at rules a None k deeds h r =
    subst (λ ds. AreMovesOf rules (Some (world_at a None)) k ds) (sym r.0) (subst (λ (l : Walk). AreMovesOf rules (Some (world_at a None)) l []) (sym r.1) (nothing_moved rules a h))
moves_at rules a (Some w) k deeds h r = r

-- ---- what a line does to the cluster

-- what leads on goes on with the moves
went : (rules : Rules) (w : World) (k : Walk) (e : Effect) → ((log : List OpenCall) → Leads w.config rules w.cluster log k e) → (deeds : List Deed) → AreMovesOf rules (Some w) k deeds → AreMovesOf rules (Some e.world) e.walk (deeds ++ e.deeds)
went rules w k e h deeds r =
    let c = w.config in
    let before : Effect = record { world = w; walk = k; texts = []; deeds = deeds } in
    let l = then_leads c rules (opening c) [] no_walk before e (record { config = refl; cluster = r.1; walk = r.2; lines = r.3; told = r.4 }) h in
    let there : World = record { config = c; cluster = e.world.cluster } in
    let same : there ≡ e.world = (λ i. record { config = sym l.config i; cluster = e.world.cluster }) in
    let moves : AreMovesOf rules (Some there) e.walk (deeds ++ e.deeds) = (r.0, l.cluster, l.walk, l.lines, l.told) in
    subst (λ (v : World). AreMovesOf rules (Some v) e.walk (deeds ++ e.deeds)) same moves

goes : (rules : Rules) (w : World) (k : Walk) (r : Result Effect What) (e : Effect) → r ≡ Ok e → LeadsFrom w.config rules w k r → (deeds : List Deed) → AreMovesOf rules (Some w) k deeds → AreMovesOf rules (Some e.world) e.walk (deeds ++ e.deeds)
goes rules w k r e m h deeds run = went rules w k e (λ log. h log e m) deeds run

-- what is shown changes nothing
tells : (rules : Rules) (w : World) (k : Walk) (lines : Result (List (List ℕ)) What) → LeadsFrom w.config rules w k (text_effect w k lines)
tells rules w k (Ok texts) = λ log e d.
    (let made : Effect = record { world = w; walk = k; texts = texts; deeds = [] } in
    let same : made ≡ e = cc in
    subst (λ (z : Effect). Leads w.config rules w.cluster log k z) same (idle_leads rules w log k texts))
tells rules w k (Err f) = λ log e d. absurd (cc)

cats : (rules : Rules) (w : World) (k : Walk) (n db : ℕ) (b : Bool) (lines : Result (List (List ℕ)) What) → LeadsFrom w.config rules w k (cond b (text_effect w k lines) (traverse_begun w k n db))
cats rules w k n db true lines = tells rules w k lines
cats rules w k n db false lines = λ log e d. begun_leads rules w log k n db e d

commands : (rules : Rules) (w : World) (k : Walk) (n : ℕ) (command : Command) → IsCommand command → LeadsFrom w.config rules w k (commanded rules w k n command)
commands rules w k n (Shows command) range = tells rules w k (shown w n command)
commands rules w k n (Steps command) range = λ log e d.
    (let s = command_step w.config w.cluster n command in
    step_leads rules w log k s e (command_allowed w.config w.cluster n command s range refl) d)
commands rules w k n (CatDb name) range = cats rules w k n (number_in_step w.config name) (is_persistent (kind_at w.config (number_in_step w.config name))) (shown w n (show.CatTdb name))

traverses : (rules : Rules) (w : World) (k : Walk) (said : TraverseLine) → LeadsFrom w.config rules w k (traversed w k said)
traverses rules w k (traverse.Walk m) = walked_leads rules m w k
traverses rules w k (traverse.Carry number) = λ log e d. carried_leads rules w log k number e d
traverses rules w k (traverse.Lose number) = λ log e d. lost_leads rules w log k number e d
traverses rules w k (traverse.Again number) = λ log e d. repeated_leads rules w log k number e d

leads : (rules : Rules) (w : World) (k : Walk) (line : ScenarioLine) → IsInRange line → LeadsFrom w.config rules w k (line_effect rules w k line)
leads rules w k (item.Config said) range = still_leads w.config rules w k refl
leads rules w k (item.Change s) range = λ log e d. step_leads rules w log k s e (change_allowed s range) d
leads rules w k (item.ByName n db asked) range = λ log e d.
    (let s = named_step n (number_in_step w.config db) asked in step_leads rules w log k s e (named_allowed n (number_in_step w.config db) asked range.2) d)
leads rules w k (item.Settle count) range = settled_leads rules count w k
leads rules w k (item.Traverse said) range = traverses rules w k said
leads rules w k (item.Ctdb n command) range = commands rules w k n command range.1

works : (rules : Rules) (w : World) (k : Walk) (line : ScenarioLine) (e : Effect) → IsInRange line → line_effect rules w k line ≡ Ok e → (deeds : List Deed) → AreMovesOf rules (Some w) k deeds → AreMovesOf rules (Some e.world) e.walk (deeds ++ e.deeds)
works rules w k line e range m deeds r = goes rules w k (line_effect rules w k line) e m (leads rules w k line range) deeds r

-- ---- what a line does to the session

puts : (rules : Rules) (a : Accepted) (r : Result Effect What) (p : Played) (deeds : List Deed) → IsAccepted a → put a r ≡ Ok p → ((e : Effect) → r ≡ Ok e → AreMovesOf rules (Some e.world) e.walk (deeds ++ e.deeds)) → Stands rules p.session (deeds ++ p.deeds)
puts rules a (Ok e) p deeds h m k =
    let made : Played = record { session = record { places = a; world = Some e.world; walker = e.walk }; texts = e.texts; deeds = e.deeds } in
    let same : made ≡ p = cc in
    subst (λ (q : Played). Stands rules q.session (deeds ++ q.deeds)) same (record { accepted = h; moves = k e refl })
puts rules a (Err w) p deeds h m k = absurd (cc)

abbrev made_of : Played → Result Played What
made_of p = Ok p

stays : (rules : Rules) (a : Accepted) (world : Option World) (k : Walk) (p : Played) (deeds : List Deed) → IsAccepted a → made_of (quiet a world k) ≡ made_of p → AreMovesOf rules world k deeds → Stands rules p.session (deeds ++ p.deeds)
stays rules a world k p deeds h m r =
    let same : quiet a world k ≡ p = cc in
    subst (λ (q : Played). Stands rules q.session (deeds ++ q.deeds)) same (record { accepted = h; moves = subst (λ ds. AreMovesOf rules world k ds) (sym (append-nil deeds)) r })

takes : (rules : Rules) (line : ScenarioLine) (world : Option World) (k : Walk) (a : Accepted) (b : Bool) (p : Played) (deeds : List Deed) → IsInRange line → IsAccepted a → AreMovesOf rules world k deeds
    → cond b (Ok (quiet a world k)) (put a (line_effect rules (world_at a world) k line)) ≡ Ok p
    → Stands rules p.session (deeds ++ p.deeds)
takes rules line world k a true p deeds range h r m = stays rules a world k p deeds h m r
takes rules line world k a false p deeds range h r m =
    puts rules a (line_effect rules (world_at a world) k line) p deeds h m (λ e d. works rules (world_at a world) k line e range d deeds (moves_at rules a world k deeds h r))

places : (rules : Rules) (line : ScenarioLine) (s : Session) (o : Option LineKind) (p : Played) (deeds : List Deed) → IsInRange line → refusal line s.places ≡ o → placed rules line s o ≡ Ok p → Stands rules s deeds → Stands rules p.session (deeds ++ p.deeds)
places rules line s None p deeds range is m h = takes rules line s.world s.walker (with_line line s.places) (is_config_line line) p deeds range (accepts s.places line range is h.accepted) h.moves m
places rules line s (Some kind) p deeds range is m h = absurd (cc)

reads : (rules : Rules) (line : List ℕ) (o : Option ScenarioLine) (s : Session) (p : Played) (deeds : List Deed) → line_of line ≡ o → item_played rules o s ≡ Ok p → Stands rules s deeds → Stands rules p.session (deeds ++ p.deeds)
reads rules line None s p deeds is m h = absurd (cc)
reads rules line (Some it) s p deeds is m h = places rules it s (refusal it s.places) p deeds (line_only line it is).0 refl m h

choice : (rules : Rules) (line : List ℕ) (b : Bool) (s : Session) (p : Played) (deeds : List Deed) → cond b (Err (what.Line Long)) (item_played rules (line_of line) s) ≡ Ok p → Stands rules s deeds → Stands rules p.session (deeds ++ p.deeds)
choice rules line true s p deeds m h = absurd (cc)
choice rules line false s p deeds m h = reads rules line (line_of line) s p deeds refl m h

plays : (rules : Rules) (line : List ℕ) (s : Session) (p : Played) (deeds : List Deed) → line_played rules line s ≡ Ok p → Stands rules s deeds → Stands rules p.session (deeds ++ p.deeds)
unfolding line_played
plays rules line s p deeds m h = choice rules line (nat_lt longest (length line)) s p deeds m h

-- ---- runs

continues : (rules : Rules) (r : Result Played What) (s : Session) (deeds : List Deed) (later : Session → Run)
    → ((p : Played) → r ≡ Ok p → Stands rules p.session (deeds ++ p.deeds))
    → Stands rules s deeds
    → ((t : Session) (before : List Deed) → Stands rules t before → Stands rules (later t).session (before ++ (later t).deeds))
    → Stands rules (continued r s later).session (deeds ++ (continued r s later).deeds)
continues rules (Ok p) s deeds later f h go = subst (λ ds. Stands rules (later p.session).session ds) (append_assoc deeds p.deeds (later p.session).deeds) (go p.session (deeds ++ p.deeds) (f p refl))
continues rules (Err w) s deeds later f h go = subst (λ ds. Stands rules s ds) (sym (append-nil deeds)) h

runs : (rules : Rules) (s : Session) (lines : List (List ℕ)) (deeds : List Deed) → Stands rules s deeds → Stands rules (run_lines rules s lines).session (deeds ++ (run_lines rules s lines).deeds)
runs rules s [] deeds h = subst (λ ds. Stands rules s ds) (sym (append-nil deeds)) h
runs rules s (l ∷ ls) deeds h = continues rules (line_played rules l s) s deeds (λ t. run_lines rules t ls) (λ p m. plays rules l s p deeds m h) h (λ t before k. runs rules t ls before k)

starts : (rules : Rules) → Stands rules start []
starts rules = record { accepted = refl; moves = (refl, refl) }

-- what was done are moves, after every list of bytes
pub runs_are_moves : (rules : Rules) (bytes : List ℕ) → AreMovesOf rules (played rules bytes).session.world (played rules bytes).session.walker (played rules bytes).deeds
unfolding run_from
runs_are_moves rules bytes = (runs rules start (lines_after [] bytes) [] (starts rules)).moves

-- the steps among moves are a run of the cluster
run_among : (rules : Rules) (o : Option World) (k : Walk) (deeds : List Deed) → AreMovesOf rules o k deeds → IsRunOf rules o deeds
run_among rules None k deeds h = h.0
run_among rules (Some w) k deeds h =
    let c = w.config in
    let e = steps_run c rules (opening c) [] no_walk (moves_of deeds) in
    (h.0, sym (ap (λ (r : Ran). r.cluster) e) ∙ h.1, sym (ap (λ (r : Ran). r.lines) e) ∙ h.3)

pub runs_are_runs : (rules : Rules) (bytes : List ℕ) → IsRunOf rules (played rules bytes).session.world (played rules bytes).deeds
runs_are_runs rules bytes = run_among rules (played rules bytes).session.world (played rules bytes).session.walker (played rules bytes).deeds (runs_are_moves rules bytes)
