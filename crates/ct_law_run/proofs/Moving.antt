-- All lines live on when one of them goes on: its worlds with their registers and ghosts, and nothing of the others.
use Rattle.std.proofs.Common.{◌≡◌, ◌≢◌, ℕ, ◌<◌, ◌^◌, Bool, true, false, ◌||◌, List, ⊎_elim, refl, sym, ap, ◌∙◌, subst}
use Rattle.std.specs.Prelude.{nat_eq, nat_lt}
use Rattle.std.specs.List.{list_all}
use Rattle.std.proofs.lemmas.Bool.{cases_eq}
use Rattle.ct_values.specs.declared.config.Config.{Config}
use Rattle.ct_call.specs.Rules.{Rules}
use Rattle.ct_rules.specs.State.{rsn_of}
use Rattle.ct_rules_cluster.specs.Cluster.{Cluster}
use Rattle.ct_register.specs.Register.{Register}
use Rattle.ct_register.specs.Lines.{Lines}
use Rattle.ct_register.specs.Words.{at}
use Rattle.ct_register.proofs.Places.{at_same, at_other}
use Rattle.ct_law_record.specs.World.{World}
use Rattle.ct_law_record.proofs.Invariant.{Ghost}
use Rattle.ct_law_record.proofs.Worlds.{WorldInv}
use Rattle.ct_law_generation.specs.Shown.{scene, mails}
use Rattle.ct_law_run.proofs.Ages.{Ages, era_of, LineLives, LinesLive}
use Rattle.ct_law_run.proofs.Begetting.{Same_line, same_lives}

-- line g goes on so
pub record Moved (c : Config) (rules : Rules) (w v : Cluster) (r : Lines) (a : Ages) (g : ℕ) (records : ℕ → ℕ → List ℕ → Register) (worlds : ℕ → List ℕ → World) (ghosts : ℕ → List ℕ → Ghost) : Type 0 where
  pub born : r.born g ≡ true
  pub world : (db : ℕ) (key : List ℕ) → WorldInv (scene c (era_of r a g) rules db key) (worlds db key) (records g db key) (ghosts db key)
  pub mail : (db : ℕ) (key : List ℕ) → (worlds db key).mail ≡ mails g db key v.sent
  pub joined : (db : ℕ) (key : List ℕ) (n : ℕ) → (worlds db key).joined n ≡ (a.worlds g db key).joined n
  pub low : (db : ℕ) (key : List ℕ) (n : ℕ) → (worlds db key).joined n ≡ true → rsn_of ((worlds db key).nodes n).state.copy < 2 ^ 62
  -- and the others stay
  pub same_records : (m : ℕ) → m ≢ g → records m ≡ r.records m
  pub same_mails : (m db : ℕ) (key : List ℕ) → m ≢ g → mails m db key v.sent ≡ mails m db key w.sent

module _ (c : Config) (rules : Rules) (w v : Cluster) (r : Lines) (a : Ages) (g : ℕ) (records : ℕ → ℕ → List ℕ → Register) (worlds : ℕ → List ℕ → World) (ghosts : ℕ → List ℕ → Ghost)
    (live : LinesLive c rules w r a) (is : Moved c rules w v r a g records worlds ghosts) where
  abbrev pub ages_moved : Ages
  ages_moved = record { worlds = at g worlds a.worlds; ghosts = at g ghosts a.ghosts; tables = a.tables }

  abbrev s : Lines
  s = record r { records = records }

  moved_line : LineLives c rules v s ages_moved g
  moved_line = (let l = live.line g is.born in record {
    real = l.real;
    ascend = l.ascend;
    there = l.there;
    world = λ db key. subst (λ (ws : ℕ → List ℕ → World). WorldInv (scene c (era_of r a g) rules db key) (ws db key) (records g db key) (ages_moved.ghosts g db key)) (sym (at_same g g worlds a.worlds refl))
        (subst (λ (gs : ℕ → List ℕ → Ghost). WorldInv (scene c (era_of r a g) rules db key) (worlds db key) (records g db key) (gs db key)) (sym (at_same g g ghosts a.ghosts refl)) (is.world db key));
    mail = λ db key. ap (λ (ws : ℕ → List ℕ → World). (ws db key).mail) (at_same g g worlds a.worlds refl) ∙ is.mail db key;
    joined = λ db key m. ap (λ (ws : ℕ → List ℕ → World). (ws db key).joined m) (at_same g g worlds a.worlds refl) ∙ is.joined db key m ∙ l.joined db key m;
    low = subst (λ (ws : ℕ → List ℕ → World). (db : ℕ) (key : List ℕ) (m : ℕ) → (ws db key).joined m ≡ true → rsn_of ((ws db key).nodes m).state.copy < 2 ^ 62) (sym (at_same g g worlds a.worlds refl)) is.low;
    rows_low = l.rows_low;
    order = l.order;
  })

  apart : (m : ℕ) → r.born m ≡ false → m ≢ g
  apart m e k = absurd (let f = sym e ∙ ap r.born k ∙ is.born in cc)

  pub moved_live : LinesLive c rules v s ages_moved
  moved_live = record {
    first = live.first;
    none = live.none;
    line = λ m e. ⊎_elim
        (λ (k : m ≡ g). subst (λ (j : ℕ). LineLives c rules v s ages_moved j) (sym k) moved_line)
        (λ (ne : m ≢ g). same_lives c rules w v r s a ages_moved m (record {
          members = refl;
          installed = refl;
          records = is.same_records m ne;
          worlds = at_other g m worlds a.worlds ne;
          ghosts = at_other g m ghosts a.ghosts ne;
          tables = refl;
          mail = λ db key. is.same_mails m db key ne;
        }) (live.line m e))
        (cases_eq m g);
    silent = λ m db key e. is.same_mails m db key (apart m e) ∙ live.silent m db key e;
    uninstalled = live.uninstalled;
    unowned = λ m db key e. ap (λ (rs : ℕ → List ℕ → Register). (rs db key).owner) (is.same_records m (apart m e)) ∙ live.unowned m db key e;
  }
