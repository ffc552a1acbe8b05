-- All goes on as it was when a ticket is given with the recovery lock: it is newer than all that there were.
use Rattle.std.proofs.Common.{◌≡◌, ◌≢◌, ℕ, ◌+◌, ◌≤◌, Bool, true, false, List, Some, refl, sym, ap, ◌∙◌, arith}
use Rattle.std.specs.Prelude.{nat_lt}
use Rattle.std.specs.List.{list_all}
use Rattle.ct_values.specs.declared.config.Config.{Config}
use Rattle.ct_frame.specs.Fields.{is_node, ascends}
use Rattle.ct_call.specs.Rules.{Rules}
use Rattle.ct_rules_node.specs.Node.{is_among}
use Rattle.ct_rules_cluster.specs.Cluster.{Cluster, is_up, node_at}
use Rattle.ct_rules_cluster.specs.Labels.{Ticket}
use Rattle.ct_register.specs.Legal.{AcceptsLabel}
use Rattle.ct_register.specs.Lines.{Lines, ticketed}
use Rattle.ct_register.specs.Register.{OwnedByNoOther}
use Rattle.ct_register.proofs.Formed.{label_formed}
use Rattle.ct_register.proofs.Places.{at_same, at_other}
use Rattle.ct_law_run.proofs.Ages.{Ages, LinesLive}
use Rattle.ct_law_run.proofs.Lives.{IsTicket, MailSays, NodeLives, Lives}
use Rattle.ct_law_run.proofs.Later.{Later, Away}
use Rattle.ct_law_run.proofs.Framing.{mail_later}
use Rattle.ct_law_run.proofs.Apart.{none_fresh, each_then, replies_away, node_away}
use Rattle.ct_law_run.proofs.Begetting.{same_lives}

-- the cluster with the ticket given
abbrev pub ticketed_cluster : ℕ → Cluster → Cluster
ticketed_cluster n w = record w { holder = Some n; ticket = w.ticket + 1 }

module _ (c : Config) (rules : Rules) (w : Cluster) (r : Lines) (h : Lives c rules w r) (n : ℕ) (members : List ℕ) (free : OwnedByNoOther n r.holder) where
  abbrev g : ℕ
  g = w.ticket + 1

  abbrev a : Ages
  a = h.ages

  abbrev s : Lines
  s = ticketed (w.ticket + 1) n members r

  abbrev v : Cluster
  v = ticketed_cluster n w

  newer : (k : ℕ) → k ≤ r.last → k ≢ g
  newer k le e = absurd (let l = h.last in omega arith)

  pub accepted : AcceptsLabel c rules r (Ticket g n members) s
  accepted = (ap (λ (k : ℕ). k + 1) (sym h.last), free, refl)

  pub later : Later r a s a
  later = record {
    last = (let l = h.last in omega arith);
    leader = λ k m e. at_other g k (Some n) r.leader (newer k (h.formed.order.tickets k m e)) ∙ e;
    named = λ k m e. at_other g k members r.members (newer k (h.formed.order.tickets k m e));
    born = λ k e. e;
    members = λ k e. at_other g k members r.members (newer k (h.formed.order.lines k e));
    tables = λ k e. refl;
    installed = λ k m e. e;
    had = λ k m l le e. ap (λ (f : ℕ → ℕ → Bool). f m l) (at_other g k _ r.had (newer k le)) ∙ e;
    phad = λ k m l le e. ap (λ (f : ℕ → ℕ → Bool). f m l) (at_other g k _ r.phad (newer k le)) ∙ e;
  }

  away : (k : ℕ) → Away r a s a k
  away k = record { line = refl; pline = refl; views = λ m db key e. refl }

  pub ticketed_lines : LinesLive c rules v s a
  ticketed_lines = record {
    first = h.lines.first;
    none = h.lines.none;
    line = λ k e. same_lives c rules w v r s a a k (record { members = later.members k e; installed = refl; records = refl; worlds = refl; ghosts = refl; tables = refl; mail = λ db key. refl }) (h.lines.line k e);
    silent = h.lines.silent;
    uninstalled = h.lines.uninstalled;
    unowned = h.lines.unowned;
  }

  pub ticketed_node : (k : ℕ) → NodeLives c rules h.who w r a k (node_at k w) → NodeLives c rules h.who v s a k (node_at k w)
  ticketed_node k l = node_away c rules h.who h.who w v r a s a k (node_at k w) later (away k) (none_fresh c rules r s a k (node_at k w) (λ m. refl)) l.known (λ f was. was) (λ some. (l.named some).0)
      (replies_away c rules h.who h.who w v r a s a k (node_at k w) later (away k) w.sent l.replies) l

  unfoldable pub ticketed_lives : Lives c rules v s
  unfolding node_at is_up
  ticketed_lives = record {
    who = h.who;
    ages = a;
    formed = label_formed c rules (Ticket g n members) r s accepted h.formed;
    last = refl;
    holder = refl;
    size = h.size;
    up = h.up;
    lines = ticketed_lines;
    nodes = λ k lt. ticketed_node k (h.nodes k lt);
    outside = h.outside;
    mail = each_then (λ q. MailSays c r a q.frame) (λ q. MailSays c s a q.frame) (λ q m. mail_later c r a s a q.frame later m) w.sent h.mail;
    bare = h.bare;
  }

  -- the ticket is that of its members
  pub is_ticket : list_all is_node members ≡ true → ascends nat_lt members ≡ true → ((m : ℕ) → is_among m members ≡ true → nat_lt m c.nodes ≡ true) → is_among n members ≡ true → IsTicket c s g n members
  is_ticket real order there own = record {
    given = at_same g g (Some n) r.leader refl;
    named = at_same g g members r.members refl;
    later = (let l = h.formed.order.lines 1 h.lines.first in let e = h.last in omega arith);
    real = real;
    ascend = order;
    there = there;
    own = own;
  }

  pub unborn : s.born g ≡ false
  unborn = none (r.born g) refl
    where
      none : (b : Bool) → r.born g ≡ b → b ≡ false
      none true e = absurd (newer g (h.formed.order.lines g e) refl)
      none false e = refl
