-- A cluster lives on when a client's call gets its number.
use Rattle.std.proofs.Common.{ℕ, ◌+◌, refl, arith}
use Rattle.ct_values.specs.declared.client.ClientOp.{ClientOp}
use Rattle.ct_values.specs.declared.config.Config.{Config}
use Rattle.ct_call.specs.Rules.{Rules}
use Rattle.ct_rules_cluster.specs.Cluster.{Cluster, is_up, node_at}
use Rattle.ct_register.specs.Lines.{Lines}
use Rattle.ct_law_generation.proofs.Pending.{Callers}
use Rattle.ct_law_generation.proofs.Counting.{with_caller, more_known}
use Rattle.ct_law_run.proofs.Ages.{LinesLive}
use Rattle.ct_law_run.proofs.Lives.{NodeLives, Lives}
use Rattle.ct_law_run.proofs.Later.{Later, Away}
use Rattle.ct_law_run.proofs.Apart.{none_fresh, node_away}
use Rattle.ct_law_run.proofs.Begetting.{same_lives}
use Rattle.ct_law_generation.proofs.Called.{counted}

module _ (c : Config) (rules : Rules) (w : Cluster) (r : Lines) (h : Lives c rules w r) (x : ℕ × ClientOp) where
  abbrev who : Callers
  who = with_caller (w.calls + 1) x h.who

  stays : Later r h.ages r h.ages
  stays = record { last = omega arith; leader = λ g n e. e; named = λ g n e. refl; born = λ g e. e; members = λ g e. refl; tables = λ g e. refl; installed = λ g n e. e; had = λ g n l le e. e; phad = λ g n l le e. e }

  away : (k : ℕ) → Away r h.ages r h.ages k
  away k = record { line = refl; pline = refl; views = λ g db key e. refl }

  pub called_lines : LinesLive c rules (counted w) r h.ages
  called_lines = record {
    first = h.lines.first;
    none = h.lines.none;
    line = λ g e. same_lives c rules w (counted w) r r h.ages h.ages g (record { members = refl; installed = refl; records = refl; worlds = refl; ghosts = refl; tables = refl; mail = λ db key. refl }) (h.lines.line g e);
    silent = h.lines.silent;
    uninstalled = h.lines.uninstalled;
    unowned = h.lines.unowned;
  }

  pub called_node : (k : ℕ) → NodeLives c rules h.who w r h.ages k (node_at k w) → NodeLives c rules who (counted w) r h.ages k (node_at k w)
  called_node k l = node_away c rules h.who who w (counted w) r h.ages r h.ages k (node_at k w) stays (away k) (none_fresh c rules r r h.ages k (node_at k w) (λ g. refl))
      (more_known w.calls k x h.who (node_at k w) l.known) (λ f was. was) (λ some. (l.named some).0) l.replies l

  unfoldable pub lives_called : Lives c rules (counted w) r
  unfolding node_at is_up
  lives_called = record {
    who = who;
    ages = h.ages;
    formed = h.formed;
    last = h.last;
    holder = h.holder;
    size = h.size;
    up = h.up;
    lines = called_lines;
    nodes = λ k lt. called_node k (h.nodes k lt);
    outside = h.outside;
    mail = h.mail;
    bare = h.bare;
  }
