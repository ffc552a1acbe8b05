-- Every schedule, told by the log: registers and marks go on through it, and the calls that wait are exactly the open ones.
use Rattle.std.proofs.Common.{◌≡◌, true, List, [], ◌∷◌, refl, sym, subst, ⊎_elim}
use Rattle.std.specs.List.{list_all}
use Rattle.ct_frame.specs.Fields.{is_node}
use Rattle.ct_register.specs.Register.{Register}
use Rattle.ct_register.specs.Marks.{MarksStep}
use Rattle.ct_law_record.specs.Labels.{Label, AcceptsAll}
use Rattle.ct_law_record.specs.Marked.{is_removed, Holds, Runs, RunsFrom}
use Rattle.ct_law_record.specs.World as world
use Rattle.ct_law_record.specs.World.{Scene, World, Event}
use Rattle.ct_law_record.specs.Calls.{Log, CallsStand, Logged, stays, happens, ran, LeadsToLogged}
use Rattle.ct_law_record.proofs.Invariant.{Ghost}
use Rattle.ct_law_record.proofs.Law.{stands, kept_all, parent}
use Rattle.ct_law_record.proofs.Logged.{AllWant, Same, step_same}
use Rattle.ct_law_record.proofs.MarkLists.{marks_stay}
use Rattle.ct_law_record.proofs.MarkedRun.{marks_of, marks_hold, step_marks}
use Rattle.ct_law_record.proofs.Worlds.{WorldInv, accepts_append}

-- what a step leads to
pub record Leads_on (s : Scene) (r : Register) (g : Ghost) (x : Logged) : Type 0 where
  pub register : Register
  pub ghost : Ghost
  pub accepts : AcceptsAll s.rules r x.labels register
  pub order : WorldInv s x.world register ghost
  pub marks : MarksStep (is_removed x.labels) (marks_of g) (marks_of ghost)
  pub stand : CallsStand x.world x.log
  pub want : AllWant x.world

pub step_on : (s : Scene) (w : World) (log : Log) (r : Register) (g : Ghost) (e : Event) → list_all is_node s.members ≡ true → WorldInv s w r g → CallsStand w log → AllWant w → Leads_on s r g (happens s w log e)
unfolding is_removed
step_on s w log r g e real h stand want = ⊎_elim
    (λ (idle : happens s w log e ≡ stays w log). subst (λ (x : Logged). Leads_on s r g x) (sym idle) (record { register = r; ghost = g; accepts = refl; order = h; marks = marks_stay (marks_of g); stand = stand; want = want }))
    (λ (same : Same (happens s w log e) (world.happens s w e)). (let k = step_marks s e w r g real h in record {
      register = k.0;
      ghost = k.1;
      accepts = subst (λ (l : List Label). AcceptsAll s.rules r l k.0) (sym same.labels) k.2;
      order = subst (λ (x : World). WorldInv s x k.0 k.1) (sym same.world) k.3;
      marks = subst (λ (l : List Label). MarksStep (is_removed l) (marks_of g) (marks_of k.1)) (sym same.labels) k.4;
      stand = same.stand;
      want = same.want;
    }))
    (step_same s w log r g e real h stand want)

-- ---- what it leads to in the end

run_on : (s : Scene) (events : List Event) (w : World) (log : Log) (r : Register) (g : Ghost) → list_all is_node s.members ≡ true → WorldInv s w r g → CallsStand w log → AllWant w →
    let y = ran s w log events in (t : Register) × (g' : Ghost) × AcceptsAll s.rules r y.labels t × WorldInv s y.world t g' × CallsStand y.world y.log
run_on s [] w log r g real h stand want = (r, g, refl, h, stand)
run_on s (e ∷ es) w log r g real h stand want =
    let x = happens s w log e in
    let k = step_on s w log r g e real h stand want in
    let rest = run_on s es x.world x.log k.register k.ghost real k.order k.stand k.want in
    (rest.0, rest.1, accepts_append s.rules r k.register rest.0 x.labels (ran s x.world x.log es).labels k.accepts rest.2, rest.3, rest.4)

pub leads_on : (s : Scene) (w : World) (log : Log) (r : Register) (g : Ghost) (events : List Event) → list_all is_node s.members ≡ true → WorldInv s w r g → CallsStand w log → AllWant w → LeadsToLogged s w log r events
leads_on s w log r g events real h stand want =
    let y = ran s w log events in
    let k = run_on s events w log r g real h stand want in
    let all = kept_all s y.world k.0 k.1 k.3 in
    (k.0, k.2, stands s y.world k.0 k.1 k.3, k.4, all, parent y.world k.0 all)

-- ---- step by step

-- all that holds of a world
pub all_hold : (s : Scene) (w : World) (r : Register) (g : Ghost) → WorldInv s w r g → Holds s w r (marks_of g)
all_hold s w r g h = (let kept = kept_all s w r g h in record { stands = stands s w r g h; kept = kept; parent = parent w r kept; marks = marks_hold s w r g h })

runs : (s : Scene) (events : List Event) (w : World) (log : Log) (r : Register) (g : Ghost) → list_all is_node s.members ≡ true → WorldInv s w r g → CallsStand w log → AllWant w → Runs s w log r (marks_of g) events
unfolding Runs
runs s [] w log r g real h stand want = tt
runs s (e ∷ es) w log r g real h stand want =
    let x = happens s w log e in
    let k = step_on s w log r g e real h stand want in
    (k.register, marks_of k.ghost, k.accepts, all_hold s x.world k.register k.ghost k.order, k.stand, k.marks, runs s es x.world x.log k.register k.ghost real k.order k.stand k.want)

pub runs_from : (s : Scene) (events : List Event) (w : World) (log : Log) (r : Register) (g : Ghost) → list_all is_node s.members ≡ true → WorldInv s w r g → CallsStand w log → AllWant w → RunsFrom s w log r events
runs_from s events w log r g real h stand want = (marks_of g, all_hold s w r g h, stand, runs s events w log r g real h stand want)
