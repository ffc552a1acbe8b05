-- Registers of records and generations, and those of addresses beside them: what each accepts, both together do.
use Rattle.std.proofs.Common.{◌≡◌, ◌≢◌, ℕ, Bool, true, false, cond, List, [], ◌∷◌, Option, None, Some, refl, sym, ap, ◌∙◌, subst, arith, inl, ⊎_elim}
use Rattle.std.specs.Prelude.{not}
use Rattle.std.proofs.lemmas.Bool.{cases_eq}
use Rattle.ct_values.specs.declared.address.Address.{Address}
use Rattle.ct_values.specs.Client.{db_of, key_of}
use Rattle.ct_values.specs.declared.client.Answer.{Answer}
use Rattle.ct_values.specs.declared.client.Answer.TheVariants as answer
use Rattle.ct_values.specs.declared.client.ClientOp.{ClientOp}
use Rattle.ct_values.specs.declared.client.ClientOp.TheVariants as op
use Rattle.ct_values.specs.declared.client.Why.{Why}
use Rattle.ct_values.specs.declared.client.Why.TheVariants as why
use Rattle.ct_values.specs.declared.config.Config.{Config}
use Rattle.ct_values.specs.declared.config.DbKind.{DbKind}
use Rattle.ct_values.specs.declared.config.DbKind.TheVariants.{Persistent}
use Rattle.ct_frame.specs.declared.event.Note.{Note}
use Rattle.ct_frame.specs.declared.event.Note.TheVariants as note
use Rattle.ct_call.specs.Rules.{Rules}
use Rattle.ct_rules_node.specs.Node.{is_persistent, kind_at}
use Rattle.ct_rules_cluster.specs.Labels.{Label, Answered, Unasked, Begun, Noted, Ticket, Yielded, Stopped, Started, Pushed, Takeover, Taken}
use Rattle.ct_register.proofs.Places.{at_same, at_other}
use Rattle.ct_register.specs.Births.{Birth, PersistentBirth, birth_list}
use Rattle.ct_register.specs.Database
use Rattle.ct_register.specs.Legal.{AtRecord, AtDatabase, MayRefuse, AcceptsAnswer, AcceptsNote, AcceptsLabel, AcceptsLabels}
use Rattle.ct_register.specs.Lines.{Lines}
use Rattle.ct_register.specs.Placing as placing
use Rattle.ct_register.specs.Placing.{IsPushedAlike, given_placement, take_list, IsAssigned}
use Rattle.ct_register.specs.Register
use Rattle.ct_register.specs.Register.{Register}
use Rattle.ct_register.specs.Words.{at, at_address}
use Rattle.ct_promise.specs.Generation.{is_note_of_records, speaks_of_records, record_labels}
use Rattle.ct_law_registers.proofs.Accepted.{took_accepted, released_accepted, pushed_accepted, taken_accepted, takeover_accepted}
use Rattle.ct_law_registers.proofs.Parts.{Choice, goes, goes_on, note_goes, began, PlacesNeed, AllNeed}
use Rattle.ct_law_addresses.proofs.Aside.{IsAside, answer_aside, begun_aside}
use Rattle.ct_law_addresses.proofs.Facts.{Spots, spots}
use Rattle.ct_law_promise.specs.Addresses.{speaks_of_databases, other_labels}

-- these registers, with what others say of addresses
abbrev pub placed_as : Lines → Lines → Lines
placed_as r p = record r { placing = p.placing; held = p.held }

-- both say the same of lines
abbrev pub AreAlike : Lines → Lines → Type 0
AreAlike r p = spots p ≡ spots (placed_as r p)

-- who is in no line holds nothing
abbrev pub Nowhere : Lines → Type 0
Nowhere p = (n : ℕ) (a : Address) → p.line n ≡ 0 → p.held n a ≡ false

module _ (config : Config) (rules : Rules) (x : Choice) where
  -- the label leads both on together
  record Joins (r s p : Lines) (label : Label) : Type 0 where
    accepts : AcceptsLabel config rules (placed_as r p) label (placed_as s (goes config x label p))
    alike : AreAlike s (goes config x label p)
    nowhere : Nowhere (goes config x label p)

  -- ---- answers

  -- accepted together, where nothing of lines changes
  abbrev Stays : (Lines → Lines → Type 0) → Lines → Lines → Lines → Type 0
  Stays Step r s p = Step (placed_as r p) (placed_as s p) × (spots (placed_as s p) ≡ spots (placed_as r p))

  record_stays : (n db : ℕ) (key : List ℕ) (Step : Register → Register → Type 0) (r s p : Lines) → AtRecord config n db key Step r s → Stays (AtRecord config n db key Step) r s p
  record_stays n db key Step r s p h = ((h.0, h.1, h.2, h.3, ap (λ (l : Lines). placed_as l p) h.4), ap (λ (l : Lines). spots (placed_as l p)) h.4)

  not_persistent : (db : ℕ) → not (is_persistent (kind_at config db)) ≡ true → kind_at config db ≡ Some Persistent → ⊥
  unfolding is_persistent
  not_persistent db speaks is = absurd (let e = sym speaks ∙ ap (λ (k : Option DbKind). not (is_persistent k)) is in cc)

  -- a call that is of no persistent database may be refused for anything
  refuses_any : (n : ℕ) (asked : ClientOp) (w : Why) (r : Lines) → not (is_persistent (kind_at config (db_of asked))) ≡ true → MayRefuse config n asked w r
  refuses_any n (op.Commit db writes) w r speaks = λ k. absurd (not_persistent db speaks k.1)
  refuses_any n asked w r speaks = tt

  answer_stays : (n : ℕ) (asked : ClientOp) (given : Answer) (r s p : Lines) → speaks_of_records config (Answered n asked given) ≡ true → AcceptsAnswer config rules n asked given r s → Stays (AcceptsAnswer config rules n asked given) r s p
  unfolding speaks_of_records
  answer_stays n asked (answer.Refused (why.TooLong m)) r s p speaks h = record_stays n (db_of asked) (key_of asked) (Register.Accepts rules n asked (answer.Refused (why.TooLong m))) r s p h
  answer_stays n asked (answer.Refused w) r s p speaks h = ((refuses_any n asked w (placed_as r p) speaks, ap (λ (l : Lines). placed_as l p) h.1), ap (λ (l : Lines). spots (placed_as l p)) h.1)
  answer_stays n (op.Commit db writes) given r s p speaks h = absurd (not_persistent db speaks h.2.1)
  answer_stays n (op.Read db key) (answer.Read v) r s p speaks h = ⊎_elim
      (λ (q : AtRecord config n db key (Register.Accepts rules n (op.Read db key) (answer.Read v)) r s). (let k = record_stays n db key (Register.Accepts rules n (op.Read db key) (answer.Read v)) r s p q in (inl k.0, k.1)))
      (λ (q : AtDatabase config n db (Database.AcceptsRead n key v) r s). absurd (not_persistent db speaks q.1)) h
  answer_stays n asked given r s p speaks h = record_stays n (db_of asked) (key_of asked) (Register.Accepts rules n asked given) r s p h

  -- what leaves the registers of addresses as they are
  aside_joins : (label : Label) (r s p : Lines) → spots (goes config x label p) ≡ spots p → Stays (λ q t. AcceptsLabel config rules q label t) r s p → AreAlike r p → Nowhere p → Joins r s p label
  aside_joins label r s p same h alike nowhere = record {
    accepts = subst (λ (b : Spots). AcceptsLabel config rules (placed_as r p) label (record s { placing = b.placing; held = b.held })) (sym same) h.0;
    alike = same ∙ alike ∙ sym h.1 ∙ ap (λ (b : Spots). spots (record s { placing = b.placing; held = b.held })) (sym same);
    nowhere = subst (λ (b : Spots). (n : ℕ) (a : Address) → b.line n ≡ 0 → b.held n a ≡ false) (sym same) nowhere;
  }

  answer_joins : (n : ℕ) (asked : ClientOp) (given : Answer) (r s p : Lines) → speaks_of_records config (Answered n asked given) ≡ true → AcceptsAnswer config rules n asked given r s → AreAlike r p → Nowhere p → Joins r s p (Answered n asked given)
  unfolding IsAside
  answer_joins n asked given r s p speaks h alike nowhere = aside_joins (Answered n asked given) r s p (answer_aside config n asked given x p).1 (answer_stays n asked given r s p speaks h) alike nowhere

  -- ---- notes of records and of generations

  still_birth : (r p : Lines) (g h : ℕ) (ms : List ℕ) (v : ℕ) (counts : ℕ → List ℕ → ℕ) → Birth r g h ms v counts → Birth (placed_as r p) g h ms v counts
  still_birth r p g h ms v counts b = record { given = b.given; named = b.named; unborn = b.unborn; older = b.older; greatest = b.greatest; had = b.had; within = b.within; seen = b.seen }

  still_base : (r p : Lines) (g : ℕ) (ms : List ℕ) (q : ℕ) (kept : ℕ → ℕ) → PersistentBirth r g ms q kept → PersistentBirth (placed_as r p) g ms q kept
  still_base r p g ms q kept b = record { older = b.older; greatest = b.greatest; had = b.had; within = b.within; acked = b.acked; seen = b.seen }

  note_joins : (n : ℕ) (noted : Note) (r s p : Lines) → is_note_of_records noted ≡ true → AcceptsNote config n noted r s → AreAlike r p → Nowhere p → Joins r s p (Noted n noted)
  unfolding is_note_of_records goes note_goes birth_list
  note_joins n (note.Vacuumed db key) r s p speaks h alike nowhere = aside_joins (Noted n (note.Vacuumed db key)) r s p refl (record_stays n db key Register.AcceptsVacuum r s p h) alike nowhere
  note_joins n (note.Ended db key) r s p speaks h alike nowhere = aside_joins (Noted n (note.Ended db key)) r s p refl (record_stays n db key (Register.AcceptsEnd n) r s p h) alike nowhere
  note_joins n (note.Thawed g) r s p speaks h alike nowhere = aside_joins (Noted n (note.Thawed g)) r s p refl ((h.0, h.1, h.2, ap (λ (l : Lines). placed_as l p) h.3), ap (λ (l : Lines). spots (placed_as l p)) h.3) alike nowhere
  note_joins n (note.Round g members v q) r s p speaks h alike nowhere = record {
    accepts = (h.0, h.1, still_birth r p g n members v h.0 h.2, still_base r p g members q h.1 h.3, ap (λ (l : Lines). placed_as l p) h.4);
    alike = ap (λ (b : Spots). record b { born = at g true b.born }) alike ∙ ap (λ (l : Lines). spots (placed_as l p)) (sym h.4);
    nowhere = nowhere;
  }
  note_joins n (note.Installed g) r s p speaks h alike nowhere = record {
    accepts = (h.0, h.1, h.2, h.3, ap (λ (l : Lines). placed_as l p) h.4);
    alike = ap (λ (b : Spots). record b { line = at n g b.line; pline = at n g b.pline; installed = at g (at n true (b.installed g)) b.installed }) alike ∙ ap (λ (l : Lines). spots (placed_as l p)) (sym h.4);
    nowhere = λ m a z. ⊎_elim
        (λ (e : m ≡ n). absurd (let k : g ≡ 0 = sym (at_same n m g p.line e) ∙ z in let low = h.2 in omega arith))
        (λ (ne : m ≢ n). nowhere m a (sym (at_other n m g p.line ne) ∙ z)) (cases_eq m n);
  }
  note_joins n (note.Released a) r s p speaks h alike nowhere = absurd (cc)
  note_joins n (note.Took a) r s p speaks h alike nowhere = absurd (cc)

  -- ---- labels of records and of generations

  stop_joins : (n : ℕ) (r s p : Lines) → AcceptsLabel config rules r (Stopped n) s → AreAlike r p → Nowhere p → Joins r s p (Stopped n)
  unfolding goes
  stop_joins n r s p h alike nowhere = record {
    accepts = ap (λ (l : Lines). record l { placing = p.placing; held = at n (λ _. false) p.held }) h;
    alike = ap (λ (b : Spots). record b { line = at n 0 b.line; held = at n (λ _. false) b.held }) alike ∙ ap (λ (l : Lines). spots (record l { placing = p.placing; held = at n (λ _. false) p.held })) (sym h);
    nowhere = λ m a z. ⊎_elim
        (λ (e : m ≡ n). ap (λ (f : Address → Bool). f a) (at_same n m (λ _. false) p.held e))
        (λ (ne : m ≢ n). ap (λ (f : Address → Bool). f a) (at_other n m (λ _. false) p.held ne) ∙ nowhere m a (sym (at_other n m 0 p.line ne) ∙ z)) (cases_eq m n);
  }

  record_joins : (label : Label) (r s p : Lines) → speaks_of_records config label ≡ true → AcceptsLabel config rules r label s → AreAlike r p → Nowhere p → Joins r s p label
  unfolding speaks_of_records goes
  record_joins (Answered n asked given) r s p speaks h alike nowhere = answer_joins n asked given r s p speaks h alike nowhere
  record_joins (Unasked call given) r s p speaks h alike nowhere = absurd h
  record_joins (Begun n db writes) r s p speaks h alike nowhere = absurd (cc)
  record_joins (Noted n noted) r s p speaks h alike nowhere = note_joins n noted r s p speaks h alike nowhere
  record_joins (Ticket g n members) r s p speaks h alike nowhere = record {
    accepts = (h.0, h.1, ap (λ (l : Lines). placed_as l p) h.2);
    alike = ap (λ (b : Spots). record b { leader = at g (Some n) b.leader; members = at g members b.members }) alike ∙ ap (λ (l : Lines). spots (placed_as l p)) (sym h.2);
    nowhere = nowhere;
  }
  record_joins (Yielded n) r s p speaks h alike nowhere = aside_joins (Yielded n) r s p refl ((h.0, ap (λ (l : Lines). placed_as l p) h.1), ap (λ (l : Lines). spots (placed_as l p)) h.1) alike nowhere
  record_joins (Stopped n) r s p speaks h alike nowhere = stop_joins n r s p h alike nowhere
  record_joins (Started n) r s p speaks h alike nowhere = aside_joins (Started n) r s p refl (ap (λ (l : Lines). placed_as l p) h, ap (λ (l : Lines). spots (placed_as l p)) h) alike nowhere
  record_joins (Pushed g assigned) r s p speaks h alike nowhere = absurd (cc)
  record_joins (Takeover n able) r s p speaks h alike nowhere = absurd (cc)
  record_joins (Taken n g number assigned) r s p speaks h alike nowhere = absurd (cc)

  -- ---- labels of addresses

  -- an address that is held or is not, at a node of a line
  pub address_nowhere : (n : ℕ) (a : Address) (t : Bool) (p : Lines) → p.line n ≢ 0 → Nowhere p → (m : ℕ) (b : Address) → p.line m ≡ 0 → at n (at_address a t (p.held n)) p.held m b ≡ false
  address_nowhere n a t p line nowhere m b z = ap (λ (f : Address → Bool). f b) (at_other n m (at_address a t (p.held n)) p.held (λ e. line (ap p.line (sym e) ∙ z))) ∙ nowhere m b z

  address_joins : (label : Label) (r p : Lines) → speaks_of_records config label ≡ false → speaks_of_databases config label ≡ false → PlacesNeed config p label → AreAlike r p → Nowhere p → Joins r r p label
  unfolding speaks_of_records is_note_of_records speaks_of_databases PlacesNeed goes note_goes
  address_joins (Answered n asked given) r p speaks other need alike nowhere = absurd (let z : true ≡ false = sym (ap not other) ∙ speaks in cc)
  address_joins (Begun n db writes) r p speaks other need alike nowhere = absurd (cc)
  address_joins (Noted n (note.Released a)) r p speaks other need alike nowhere = record {
    accepts = released_accepted config rules x (placed_as r p) n a (subst (λ (b : Spots). b.line n ≢ 0) alike need);
    alike = ap (λ (b : Spots). record b { held = at n (at_address a false (p.held n)) p.held }) alike;
    nowhere = address_nowhere n a false p need nowhere;
  }
  address_joins (Noted n (note.Took a)) r p speaks other need alike nowhere = record {
    accepts = took_accepted config rules x (placed_as r p) n a
        (subst (λ (b : Spots). (b.line n ≢ 0) × ((m : ℕ) → m ≢ n → b.line m ≡ b.line n → b.held m a ≡ false) × IsAssigned a n (b.placing (b.line n))) alike need);
    alike = ap (λ (b : Spots). record b { held = at n (at_address a true (p.held n)) p.held }) alike;
    nowhere = address_nowhere n a true p need.0 nowhere;
  }
  address_joins (Pushed g assigned) r p speaks other need alike nowhere = record {
    accepts = pushed_accepted config rules x (placed_as r p) g assigned (subst (λ (b : Spots). (b.born g ≡ true) × IsPushedAlike assigned (b.placing g).pushed) alike need);
    alike = ap (λ (b : Spots). record b { placing = at g (record (p.placing g) { pushed = Some assigned }) p.placing }) alike;
    nowhere = nowhere;
  }
  address_joins (Takeover n able) r p speaks other need alike nowhere = record {
    accepts = subst (λ (b : Spots). AcceptsLabel config rules (placed_as r p) (Takeover n able) (record r { placing = at (b.line n) (began (b.members (b.line n)) able (p.placing (b.line n))) p.placing; held = p.held })) (sym alike)
        (takeover_accepted config rules x (placed_as r p) n able (subst (λ (b : Spots). (b.line n ≢ 0) × (given_placement (b.placing (b.line n)).pushed (b.placing (b.line n)).last ≢ None)) alike need));
    alike = ap (λ (b : Spots). record b { placing = at (p.line n) (began (p.members (p.line n)) able (p.placing (p.line n))) p.placing }) alike;
    nowhere = nowhere;
  }
  address_joins (Taken n g number assigned) r p speaks other need alike nowhere = record {
    accepts = subst (λ (b : Spots). AcceptsLabel config rules (placed_as r p) (Taken n g number assigned)
        (record r { placing = at (b.line n) (record (p.placing (b.line n)) { taken = at number (Some assigned) (p.placing (b.line n)).taken; last = Some assigned }) p.placing; held = p.held })) (sym alike)
        (taken_accepted config rules x (placed_as r p) n g number assigned
        (subst (λ (b : Spots). (b.line n ≡ g) × (b.line n ≢ 0) × ((run : placing.Run) × ((b.placing (b.line n)).runs number ≡ Some run) × (assigned ≡ take_list config.addresses run))) alike need));
    alike = ap (λ (b : Spots). record b { placing = at (p.line n) (record (p.placing (p.line n)) { taken = at number (Some assigned) (p.placing (p.line n)).taken; last = Some assigned }) p.placing }) alike;
    nowhere = nowhere;
  }
  address_joins label r p speaks other need alike nowhere = absurd (cc)

  -- ---- labels of persistent databases, which are left out

  left_out : (label : Label) (p : Lines) → speaks_of_databases config label ≡ true → spots (goes config x label p) ≡ spots p
  unfolding speaks_of_databases IsAside
  left_out (Answered n asked given) p e = (answer_aside config n asked given x p).1
  left_out (Begun n db writes) p e = (begun_aside config n db writes x p).1
  left_out label p e = absurd (cc)

  -- ---- all labels

  -- no label is of records and of persistent databases
  not_both : (label : Label) → speaks_of_records config label ≡ true → speaks_of_databases config label ≡ false
  unfolding speaks_of_records speaks_of_databases
  not_both (Answered n asked given) e = negated (is_persistent (kind_at config _)) e
    where
      negated : (b : Bool) → not b ≡ true → b ≡ false
      negated true f = absurd (cc)
      negated false f = refl
  not_both (Begun n db writes) e = absurd (cc)
  not_both label e = refl

  pub record Together (r s p : Lines) (labels : List Label) : Type 0 where
    pub accepts : AcceptsLabels config rules (placed_as r p) (other_labels config labels) (placed_as s (goes_on config x labels p))
    pub alike : AreAlike s (goes_on config x labels p)
    pub nowhere : Nowhere (goes_on config x labels p)

  -- one label more, in front of those that are accepted together
  module _ (label : Label) (labels : List Label) (r s p : Lines) (need : PlacesNeed config p label) (alike : AreAlike r p) (nowhere : Nowhere p) where
    abbrev after : Lines
    after = goes config x label p

    abbrev Rest : Type 0
    Rest = (q : Lines) → AcceptsLabels config rules q (record_labels config labels) s → AreAlike q after → Nowhere after → Together q s after labels

    abbrev with_label : Bool → List Label
    with_label d = cond (not d) (label ∷ other_labels config labels) (other_labels config labels)

    along : (d : Bool) → speaks_of_databases config label ≡ d → AcceptsLabels config rules (placed_as r p) (with_label d) (placed_as s (goes_on config x labels after)) → AreAlike s (goes_on config x labels after) → Nowhere (goes_on config x labels after) → Together r s p (label ∷ labels)
    unfolding goes_on
    along d e accepts same nobody = record { accepts = subst (λ (b : Bool). AcceptsLabels config rules (placed_as r p) (with_label b) (placed_as s (goes_on config x labels after))) (sym e) accepts; alike = same; nowhere = nobody }

    join_more : (b d : Bool) → speaks_of_records config label ≡ b → speaks_of_databases config label ≡ d → AcceptsLabels config rules r (cond b (label ∷ record_labels config labels) (record_labels config labels)) s → Rest → Together r s p (label ∷ labels)
    join_more true true e f h rest = absurd (let z = sym (not_both label e) ∙ f in cc)
    join_more true false e f h rest =
        let j = record_joins label r h.0 p e h.1 alike nowhere in
        let k = rest h.0 h.2 j.alike j.nowhere in
        along false f (placed_as h.0 after, j.accepts, k.accepts) k.alike k.nowhere
    join_more false false e f h rest =
        let j = address_joins label r p e f need alike nowhere in
        let k = rest r h j.alike j.nowhere in
        along false f (placed_as r after, j.accepts, k.accepts) k.alike k.nowhere
    join_more false true e f h rest =
        let same = left_out label p f in
        let there : AreAlike r after = same ∙ alike ∙ ap (λ (b : Spots). spots (record r { placing = b.placing; held = b.held })) (sym same) in
        let nobody : Nowhere after = subst (λ (b : Spots). (n : ℕ) (a : Address) → b.line n ≡ 0 → b.held n a ≡ false) (sym same) nowhere in
        let k = rest r h there nobody in
        along true f (subst (λ (b : Spots). AcceptsLabels config rules (record r { placing = b.placing; held = b.held }) (other_labels config labels) (placed_as s (goes_on config x labels after))) same k.accepts) k.alike k.nowhere

  pub labels_join : (labels : List Label) (r s p : Lines) → AcceptsLabels config rules r (record_labels config labels) s → AllNeed (PlacesNeed config) config x p labels → AreAlike r p → Nowhere p → Together r s p labels
  unfolding goes_on AllNeed
  labels_join [] r s p h need alike nowhere = record { accepts = ap (λ (l : Lines). placed_as l p) h; alike = alike ∙ ap (λ (l : Lines). spots (placed_as l p)) (sym h); nowhere = nowhere }
  labels_join (label ∷ labels) r s p h need alike nowhere =
      join_more label labels r s p need.0 alike nowhere (speaks_of_records config label) (speaks_of_databases config label) refl refl h (λ q m. labels_join labels q s (goes config x label p) m need.1)
