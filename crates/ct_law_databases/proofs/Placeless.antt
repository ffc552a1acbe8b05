-- Without what is told of addresses: where labels have what they need of records, of databases and of rounds, the registers accept all of
-- them but those of addresses.
use Rattle.std.proofs.Common.{◌≡◌, ℕ, Bool, true, false, cond, List, [], ◌∷◌, refl, sym, ap, ◌∙◌, subst}
use Rattle.std.specs.Prelude.{not}
use Rattle.ct_values.specs.declared.address.Address.{Address}
use Rattle.ct_values.specs.Client.{db_of, key_of}
use Rattle.ct_values.specs.declared.client.Answer.{Answer}
use Rattle.ct_values.specs.declared.client.Answer.TheVariants as answer
use Rattle.ct_values.specs.declared.client.ClientOp.{ClientOp}
use Rattle.ct_values.specs.declared.client.ClientOp.TheVariants as op
use Rattle.ct_values.specs.declared.client.Why.TheVariants as why
use Rattle.ct_values.specs.declared.config.Config.{Config}
use Rattle.ct_frame.specs.declared.event.Note.TheVariants as note
use Rattle.ct_call.specs.Rules.{Rules}
use Rattle.ct_rules_node.specs.Node.{is_persistent, kind_at}
use Rattle.ct_rules_cluster.specs.Labels.{Label, Answered, Unasked, Begun, Noted, Ticket, Yielded, Stopped, Started, Pushed, Takeover, Taken}
use Rattle.ct_register.specs.Births
use Rattle.ct_register.specs.Legal.{AcceptsLabels}
use Rattle.ct_register.specs.Lines.{Lines}
use Rattle.ct_register.specs.Placing.{Placing}
use Rattle.ct_law_registers.proofs.Parts.{Choice, goes, goes_on, answer_goes, note_goes, DatabasesNeed, PlacesNeed, AllNeed}
use Rattle.ct_law_registers.proofs.Rounds.{RoundsNeed}
use Rattle.ct_law_registers.proofs.Whole.{RecordsNeed, parts_accept}
use Rattle.ct_law_databases.specs.Placeless.{speaks_of_places, placeless}

-- registers that differ in nothing but placings and held addresses
abbrev pub IsBut : Lines → Lines → Type 0
IsBut z r = z ≡ record r { placing = z.placing; held = z.held }

pub but_same : (r : Lines) → IsBut r r
but_same r = refl

back : (z r : Lines) → IsBut z r → r ≡ record z { placing = r.placing; held = r.held }
back z r e = sym (ap (λ (y : Lines). record y { placing = r.placing; held = r.held }) e)

pub but_after : (z r s : Lines) → IsBut z r → IsBut s r → IsBut z s
but_after z r s a b = a ∙ ap (λ (y : Lines). record y { placing = z.placing; held = z.held }) (back s r b)

either_but : (c : Bool) (a b e f : Lines) → IsBut a e → IsBut b f → IsBut (cond c a b) (cond c e f)
either_but true a b e f h k = h
either_but false a b e f h k = k

-- ---- what a label needs is the same

module _ (config : Config) (rules : Rules) (x : Choice) (r : Lines) (p : ℕ → Placing) (q : ℕ → Address → Bool) where
  abbrev z : Lines
  z = record r { placing = p; held = q }

  records_same : (label : Label) → RecordsNeed config rules x r label → RecordsNeed config rules x z label
  unfolding RecordsNeed
  records_same (Answered n asked (answer.Refused (why.TooLong m))) h = h
  records_same (Answered n asked (answer.Refused w)) h = h
  records_same (Answered n (op.Commit db writes) (answer.Committed number)) h = h
  records_same (Answered n (op.Commit db writes) (answer.Unsure number missing)) h = h
  records_same (Answered n (op.Commit db writes) given) h = absurd h
  records_same (Answered n (op.Read db key) (answer.Read v)) h = h
  records_same (Answered n asked given) h = h
  records_same (Unasked call given) h = h
  records_same (Noted n (note.Vacuumed db key)) h = h
  records_same (Noted n (note.Ended db key)) h = h
  records_same (Noted n (note.Round g members v w)) h = record { within = h.within; seen = h.seen }
  records_same (Noted n (note.Installed g)) h = h
  records_same label h = tt

  databases_same : (label : Label) → DatabasesNeed config x r label → DatabasesNeed config x z label
  unfolding DatabasesNeed
  databases_same (Answered n asked (answer.Refused (why.TooLong m))) h = h
  databases_same (Answered n (op.Commit db writes) (answer.Refused w)) h = h
  databases_same (Answered n asked (answer.Refused w)) h = h
  databases_same (Answered n (op.Commit db writes) (answer.Committed number)) h = h
  databases_same (Answered n (op.Commit db writes) (answer.Unsure number missing)) h = h
  databases_same (Answered n (op.Read db key) (answer.Read v)) h = h
  databases_same (Answered n (op.Unlock db key) answer.Unlocked) h = h
  databases_same (Answered n asked given) h = h
  databases_same (Begun n db writes) h = h
  databases_same (Noted n (note.Ended db key)) h = h
  databases_same (Noted n (note.Round g members v w)) h = record { within = h.within; acked = h.acked; seen = h.seen }
  databases_same label h = tt

  rounds_same : (label : Label) → RoundsNeed r label → RoundsNeed z label
  unfolding RoundsNeed
  rounds_same (Noted n (note.Round g members v w)) h = record { given = h.given; named = h.named; unborn = h.unborn; older = h.older; greatest = h.greatest; had = h.had; polder = h.polder; pgreatest = h.pgreatest; phad = h.phad }
  rounds_same (Noted n (note.Installed g)) h = h
  rounds_same (Noted n (note.Thawed g)) h = h
  rounds_same (Ticket g n members) h = h
  rounds_same (Yielded n) h = h
  rounds_same label h = tt

  -- ---- and so is what it leads to

  answer_but : (n : ℕ) (asked : ClientOp) (given : Answer) → IsBut (answer_goes config x n asked given z) (answer_goes config x n asked given r)
  unfolding answer_goes
  answer_but n asked (answer.Refused (why.TooLong m)) = refl
  answer_but n asked (answer.Refused w) = refl
  answer_but n asked given = either_but (is_persistent (kind_at config (db_of asked))) _ _ _ _ refl refl

  goes_but : (label : Label) → IsBut (goes config x label z) (goes config x label r)
  unfolding goes note_goes Births.birth_list
  goes_but (Answered n asked given) = answer_but n asked given
  goes_but (Unasked call given) = refl
  goes_but (Begun n db writes) = refl
  goes_but (Noted n (note.Vacuumed db key)) = refl
  goes_but (Noted n (note.Ended db key)) = refl
  goes_but (Noted n (note.Round g members v w)) = refl
  goes_but (Noted n (note.Installed g)) = refl
  goes_but (Noted n (note.Thawed g)) = refl
  goes_but (Noted n (note.Released a)) = refl
  goes_but (Noted n (note.Took a)) = refl
  goes_but (Ticket g n members) = refl
  goes_but (Yielded n) = refl
  goes_but (Stopped n) = refl
  goes_but (Started n) = refl
  goes_but (Pushed g assigned) = refl
  goes_but (Takeover n able) = refl
  goes_but (Taken n g number assigned) = refl

-- a label of addresses changes these alone
place_but : (config : Config) (x : Choice) (r : Lines) (label : Label) → speaks_of_places label ≡ true → IsBut (goes config x label r) r
unfolding speaks_of_places goes note_goes
place_but config x r (Noted n (note.Released a)) e = refl
place_but config x r (Noted n (note.Took a)) e = refl
place_but config x r (Pushed g assigned) e = refl
place_but config x r (Takeover n able) e = refl
place_but config x r (Taken n g number assigned) e = refl
place_but config x r label e = absurd (cc)

-- another one needs nothing of them
placeless_need : (config : Config) (r : Lines) (label : Label) → speaks_of_places label ≡ false → PlacesNeed config r label
unfolding speaks_of_places PlacesNeed
placeless_need config r (Noted n (note.Released a)) e = absurd (cc)
placeless_need config r (Noted n (note.Took a)) e = absurd (cc)
placeless_need config r (Pushed g assigned) e = absurd (cc)
placeless_need config r (Takeover n able) e = absurd (cc)
placeless_need config r (Taken n g number assigned) e = absurd (cc)
placeless_need config r label e = tt

-- ---- all labels

-- what registers accept that differ in addresses alone
abbrev pub Comes_but : Config → Rules → List Label → Lines → Lines → Type 0
Comes_but config rules labels z s = (t : Lines) × AcceptsLabels config rules z (placeless labels) t × IsBut t s

pub placeless_accept : (config : Config) (rules : Rules) (x : Choice) (labels : List Label) (z r : Lines) → IsBut z r → AllNeed (RecordsNeed config rules x) config x r labels → AllNeed (DatabasesNeed config x) config x r labels → AllNeed RoundsNeed config x r labels →
    Comes_but config rules labels z (goes_on config x labels r)
unfolding AllNeed goes_on
placeless_accept config rules x [] z r but a b d = (z, refl, but)
placeless_accept config rules x (label ∷ labels) z r but a b d = by (speaks_of_places label) refl (λ y k. placeless_accept config rules x labels y (goes config x label r) k a.1 b.1 d.1)
  where
    next : IsBut (goes config x label z) (goes config x label r)
    next = subst (λ (y : Lines). IsBut (goes config x label y) (goes config x label r)) (sym but) (goes_but config rules x r z.placing z.held label)

    by : (c : Bool) → speaks_of_places label ≡ c → ((y : Lines) → IsBut y (goes config x label r) → Comes_but config rules labels y (goes_on config x labels (goes config x label r))) →
        (t : Lines) × AcceptsLabels config rules z (cond (not c) (label ∷ placeless labels) (placeless labels)) t × IsBut t (goes_on config x labels (goes config x label r))
    by true e rest = rest z (but_after z r (goes config x label r) but (place_but config x r label e))
    by false e rest =
        let k = rest (goes config x label z) next in (
          k.0,
          (
            goes config x label z,
            parts_accept config rules x z label
                (subst (λ (y : Lines). RecordsNeed config rules x y label) (sym but) (records_same config rules x r z.placing z.held label a.0))
                (subst (λ (y : Lines). DatabasesNeed config x y label) (sym but) (databases_same config rules x r z.placing z.held label b.0))
                (placeless_need config z label e)
                (subst (λ (y : Lines). RoundsNeed y label) (sym but) (rounds_same config rules x r z.placing z.held label d.0)),
            k.1,
          ),
          k.2,
        )
