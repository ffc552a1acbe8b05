-- What holds of addresses at the opening, and what the cluster looks like where it holds.
use Rattle.std.proofs.Common.{◌≡◌, ◌≢◌, ℕ, true, false, List, [], refl, sym, ap, ◌∙◌, subst, arith, ⊎_elim}
use Rattle.std.specs.List.{list_any}
use Rattle.std.proofs.lemmas.Bool.{cases_eq}
use Rattle.ct_values.specs.Address.{same_address}
use Rattle.ct_values.specs.declared.address.Address.{Address}
use Rattle.ct_values.specs.declared.config.Config.{Config}
use Rattle.ct_frame.specs.declared.frame.Msg.{Msg}
use Rattle.ct_frame.specs.declared.frame.Msg.TheVariants as msg
use Rattle.ct_rules_node.specs.Node as node
use Rattle.ct_rules_node.specs.Node.{Node, Lead, Nothing, Freezes, Pulls, Installs, Completed, Run, NoRun, Releasing, Taking, is_among}
use Rattle.ct_rules_node.specs.Takeovers.{has_address}
use Rattle.ct_rules_cluster.specs.Cluster as cluster
use Rattle.ct_rules_cluster.specs.Cluster.{Cluster, Sent, is_up, node_at, sent_at}
use Rattle.ct_register.proofs.Opened.{one_of_all}
use Rattle.ct_register.specs.Lines
use Rattle.ct_register.specs.Lines.{Lines}
use Rattle.ct_law_registers.proofs.Places.{Turns, PlacesHold, Places, Leads, LeadsRuns}
use Rattle.ct_law_registers.proofs.Stand.{assigned_stand, one_holds}
use Rattle.ct_law_addresses.proofs.Facts.{spots, Stands, MailStands, RunStands, LeadStands, Holds}
use Rattle.ct_law_acts.proofs.Parts.{nodes_of, frames_in, sent_in}
use Rattle.ct_law_promise.proofs.HeldTogether.{Nowhere}
use Rattle.ct_law_promise.specs.Addresses.{AddressesStand}

-- ---- the facts, as they are said of a cluster

module _ (config : Config) (w : Cluster) (r : Lines) (turns : Turns) where
  run_leads : (g : ℕ) (members : List ℕ) (number : ℕ) (run : Run) → RunStands config.addresses (nodes_of w) (spots r) turns g members number run → Leads config.addresses w r g members (r.placing g) (turns g) number run
  unfolding RunStands Leads
  run_leads g members number NoRun h = h
  run_leads g members number (Releasing placement missing) h = h
  run_leads g members number (Taking placement) h = (h.0, h.1)

  lead_runs : (l : Lead) → LeadStands config.addresses (nodes_of w) (spots r) turns l → LeadsRuns config w r turns l
  unfolding LeadStands LeadsRuns
  lead_runs Nothing h = tt
  lead_runs (Freezes g members missing) h = h
  lead_runs (Pulls g members missing x) h = h
  lead_runs (Installs g members missing b) h = h
  lead_runs (Completed g members x) h = (h.number, h.made, run_leads g members x.number x.run h.run)

  message_places : (g n m : ℕ) (x : Msg) → Stands config.addresses (nodes_of w) (spots r) turns g n m x → Places config.addresses w r turns g n m x
  unfolding Stands Places
  message_places g n m (msg.Release number keep) h = h
  message_places g n m (msg.ReleaseAck number) h = (h.2, h.3)
  message_places g n m (msg.Take number assigned) h = h
  message_places g n m (msg.Push members table ptables assigned) h = h
  message_places g n m _ h = tt

  pub places_hold : Holds config.addresses (nodes_of w) (spots r) turns → MailStands config.addresses (nodes_of w) (spots r) turns (frames_in w) → PlacesHold config w r turns
  unfolding has_address
  places_hold h mail = record {
    unborn = h.unborn;
    counts = h.counts;
    installed = h.installed;
    follows = λ n line. (let f = h.follows n line in record { after = f.after; within = f.within; turn = f.turn; own = f.own });
    leads = λ n. lead_runs (node_at n w).lead (h.leads n);
    mail = λ k s sent. message_places s.frame.generation s.frame.sender s.frame.receiver s.frame.msg (mail s.frame (sent_in k s w sent));
  }

  pub addresses_stand : Holds config.addresses (nodes_of w) (spots r) turns → MailStands config.addresses (nodes_of w) (spots r) turns (frames_in w) → Nowhere r → AddressesStand w r
  unfolding has_address
  addresses_stand h mail nowhere = (let p = places_hold h mail in record {
    holds = λ n a up. ((λ e. h.holds n a ∙ e), (λ e. sym (h.holds n a) ∙ e));
    assigned = λ n a up has. ⊎_elim
        (λ (z : r.line n ≡ 0). absurd (let k = sym (nowhere n a z) ∙ h.holds n a ∙ has in let f : false ≡ true = k in cc))
        (λ (line : r.line n ≢ 0). assigned_stand config w r turns p n a line has) (cases_eq (r.line n) 0);
    addresses = λ n m a up on line same one other. one_holds config w r turns p n m a line same one other;
  })

-- ---- the opening

abbrev no_turns : Turns
no_turns g = 0

opened_held : (c : Config) (n : ℕ) → (node_at n (cluster.opening c)).held ≡ []
unfolding node.opening node_at cluster.opening cluster.absent
opened_held c n = one_of_all (λ (x : Node). x.held ≡ []) (node.opening c (cluster.everyone c)) refl refl c.nodes n

opened_run : (c : Config) (n : ℕ) → (node_at n (cluster.opening c)).last_run ≡ 0
unfolding node.opening node_at cluster.opening cluster.absent
opened_run c n = one_of_all (λ (x : Node). x.last_run ≡ 0) (node.opening c (cluster.everyone c)) refl refl c.nodes n

opened_lead : (c : Config) (n : ℕ) → (node_at n (cluster.opening c)).lead ≡ Nothing
unfolding node.opening node_at cluster.opening cluster.absent
opened_lead c n = one_of_all (λ (x : Node). x.lead ≡ Nothing) (node.opening c (cluster.everyone c)) refl refl c.nodes n

none_held : (c : Config) (n : ℕ) (a : Address) → has_address (node_at n (cluster.opening c)).held a ≡ false
unfolding has_address
none_held c n a = ap (λ held. list_any (same_address a) held) (opened_held c n)

pub opened_holds : (c : Config) → Holds c.addresses (nodes_of (cluster.opening c)) (spots (Lines.opening c)) no_turns
unfolding LeadStands
opened_holds c = record {
  unborn = λ g is. (refl, refl);
  counts = λ g. record { turn = omega arith; runs = λ i low high. absurd (omega arith); none = λ z. refl; last = λ some. absurd (some refl); pushed = λ some. absurd (some refl) };
  installed = λ g m some. absurd (some refl);
  holds = λ n a. sym (none_held c n a);
  follows = λ n line. record {
    after = omega arith;
    within = (let e = opened_run c n in omega arith);
    turn = λ a has. absurd (let k : false ≡ true = sym (none_held c n a) ∙ has in cc);
    own = λ a has. absurd (let k : false ≡ true = sym (none_held c n a) ∙ has in cc);
  };
  leads = λ n. subst (LeadStands c.addresses (nodes_of (cluster.opening c)) (spots (Lines.opening c)) no_turns) (sym (opened_lead c n)) tt;
}

pub opened_mail : (c : Config) → MailStands c.addresses (nodes_of (cluster.opening c)) (spots (Lines.opening c)) no_turns (frames_in (cluster.opening c))
unfolding cluster.opening
opened_mail c f is = absurd is

pub opened_nowhere : (c : Config) → Nowhere (Lines.opening c)
opened_nowhere c n a z = refl
