-- The same of all labels of a step, of which at most one is the note of a round.
use Rattle.std.proofs.Common.{◌≡◌, ℕ, Bool, true, false, cond, List, [], ◌∷◌, refl, sym, ap, ◌∙◌, subst}
use Rattle.std.specs.Prelude.{◌||◌}
use Rattle.std.specs.List.{list_any, filter}
use Rattle.ct_values.specs.declared.address.Address.{Address}
use Rattle.ct_values.specs.declared.config.Config.{Config}
use Rattle.ct_frame.specs.declared.event.Note.TheVariants as note
use Rattle.ct_call.specs.Rules.{Rules}
use Rattle.ct_rules_cluster.specs.Labels.{Label, Noted}
use Rattle.ct_register.specs.Database.{Database}
use Rattle.ct_register.specs.Legal.{AcceptsLabel, AcceptsLabels}
use Rattle.ct_register.specs.Lines.{Lines}
use Rattle.ct_register.specs.Placing.{Placing}
use Rattle.ct_promise.specs.Generation.{is_note_of_records, speaks_of_records, record_labels}
use Rattle.ct_law_registers.proofs.Parts.{Choice, goes, goes_on, DatabasesNeed, AllNeed}
use Rattle.ct_law_registers.proofs.Rounds.{RoundsNeed}
use Rattle.ct_law_registers.proofs.Whole.{RecordsNeed}
use Rattle.ct_law_acts.proofs.Counted.{is_round, one_round}
use Rattle.ct_law_databases.proofs.Like.{with_others, IsLike, Parts, record_parts, other_parts, round_parts}

-- what labels that lead the registers of records to these need of records and of rounds
pub record AllParts (config : Config) (rules : Rules) (x : Choice) (r : Lines) (labels : List Label) (s : Lines) : Type 0 where
  pub records : AllNeed (RecordsNeed config rules x) config x r labels
  pub rounds : AllNeed RoundsNeed config x r labels
  pub like : IsLike (goes_on config x labels r) s

first_and_rest : (config : Config) (rules : Rules) (x : Choice) (r : Lines) (label : Label) (labels : List Label) (mid s : Lines) → Parts config rules x r label mid → AllParts config rules x (goes config x label r) labels s → AllParts config rules x r (label ∷ labels) s
unfolding AllNeed goes_on
first_and_rest config rules x r label labels mid s a b = record { records = (a.records, b.records); rounds = (a.rounds, b.rounds); like = b.like }

-- what holds of all registers that are like these holds of those that a label leads to
abbrev AllLike : Config → Rules → Choice → List Label → Lines → Lines → Type 0
AllLike config rules x labels t s = (d : ℕ → ℕ → Database) (p : ℕ → Placing) (q : ℕ → Address → Bool) → AllNeed (DatabasesNeed config x) config x (with_others t d p q) labels → AllParts config rules x (with_others t d p q) labels s

moved : (config : Config) (rules : Rules) (x : Choice) (labels : List Label) (r mid s : Lines) → IsLike r mid → AllLike config rules x labels mid s → AllNeed (DatabasesNeed config x) config x r labels → AllParts config rules x r labels s
moved config rules x labels r mid s like all need = subst (λ (z : Lines). AllParts config rules x z labels s) (sym like) (all r.databases r.placing r.held (subst (λ (z : Lines). AllNeed (DatabasesNeed config x) config x z labels) like need))

-- no label is the note of a round: whatever is chosen
pub none_parts : (config : Config) (rules : Rules) (x : Choice) (labels : List Label) (t s : Lines) → list_any is_round labels ≡ false → AcceptsLabels config rules t (record_labels config labels) s → AllLike config rules x labels t s
unfolding AllNeed goes_on
none_parts config rules x [] t s none a d p q need = record { records = tt; rounds = tt; like = ap (λ (z : Lines). with_others z d p q) (sym a) }
none_parts config rules x (label ∷ labels) t s none a d p q need = by (speaks_of_records config label) refl (is_round label) refl none a (λ m u k. none_parts config rules x labels m s u k)
  where
    by : (b : Bool) → speaks_of_records config label ≡ b → (k : Bool) → is_round label ≡ k → (k || list_any is_round labels) ≡ false → AcceptsLabels config rules t (cond b (label ∷ record_labels config labels) (record_labels config labels)) s →
        ((mid : Lines) → list_any is_round labels ≡ false → AcceptsLabels config rules mid (record_labels config labels) s → AllLike config rules x labels mid s) → AllParts config rules x (with_others t d p q) (label ∷ labels) s
    by b e true round none a rest = absurd (cc)
    by true e false round none a rest =
        let f = record_parts config rules x t d p q label a.0 e round a.1 in
        first_and_rest config rules x (with_others t d p q) label labels a.0 s f (moved config rules x labels (goes config x label (with_others t d p q)) a.0 s f.like (rest a.0 none a.2) need.1)
    by false e false round none a rest =
        let f = other_parts config rules x t d p q label e need.0 in
        first_and_rest config rules x (with_others t d p q) label labels t s f (moved config rules x labels (goes config x label (with_others t d p q)) t s f.like (rest t none a) need.1)

-- for some counts of what a birth takes over of records, whatever is chosen for databases
abbrev pub SomeCounts : Config → Rules → List Label → Lines → Lines → Type 0
SomeCounts config rules labels t s = (counts : ℕ → List ℕ → ℕ) × ((kept : ℕ → ℕ) (seen : ℕ) → AllLike config rules (record { counts = counts; kept = kept; seen = seen }) labels t s)

-- the label of a round speaks of records
round_speaks : (config : Config) (label : Label) → is_round label ≡ true → speaks_of_records config label ≡ true
unfolding is_round speaks_of_records is_note_of_records
round_speaks config (Noted n (note.Round g members v w)) e = refl
round_speaks config label e = absurd (cc)

this_round : (config : Config) (rules : Rules) (label : Label) (labels : List Label) (t mid s : Lines) → is_round label ≡ true → AcceptsLabel config rules t label mid → list_any is_round labels ≡ false → AcceptsLabels config rules mid (record_labels config labels) s →
    SomeCounts config rules (label ∷ labels) t s
unfolding is_round AllNeed
this_round config rules (Noted h (note.Round g members v w)) labels t mid s e a none rest = (
  a.0,
  λ kept seen d p q need.
      let x : Choice = record { counts = a.0; kept = kept; seen = seen } in
      let f = round_parts config rules t mid h g v w members a kept seen d p q in
      first_and_rest config rules x (with_others t d p q) (Noted h (note.Round g members v w)) labels mid s f
      (moved config rules x labels (goes config x (Noted h (note.Round g members v w)) (with_others t d p q)) mid s f.like (none_parts config rules x labels mid s none rest) need.1),
)
this_round config rules label labels t mid s e a none rest = absurd (cc)

nothing_counted : ℕ → List ℕ → ℕ
nothing_counted db key = 0

-- at most one label is
pub one_parts : (config : Config) (rules : Rules) (labels : List Label) (t s : Lines) → one_round labels ≡ true → AcceptsLabels config rules t (record_labels config labels) s → SomeCounts config rules labels t s
unfolding one_round AllNeed
one_parts config rules [] t s one a = (nothing_counted, λ kept seen. none_parts config rules (record { counts = nothing_counted; kept = kept; seen = seen }) [] t s refl a)
one_parts config rules (label ∷ labels) t s one a = by (speaks_of_records config label) refl (is_round label) refl (list_any is_round labels) refl one a (λ m u k. one_parts config rules labels m s u k)
  where
    by : (b : Bool) → speaks_of_records config label ≡ b → (k : Bool) → is_round label ≡ k → (o : Bool) → list_any is_round labels ≡ o → cond k (cond o false true) (one_round labels) ≡ true → AcceptsLabels config rules t (cond b (label ∷ record_labels config labels) (record_labels config labels)) s →
        ((mid : Lines) → one_round labels ≡ true → AcceptsLabels config rules mid (record_labels config labels) s → SomeCounts config rules labels mid s) → SomeCounts config rules (label ∷ labels) t s
    by true e true round false none one a rest = this_round config rules label labels t a.0 s round a.1 none a.2
    by true e true round true none one a rest = absurd (cc)
    by false e true round o none one a rest = absurd (let f = round_speaks config label round in cc)
    by true e false round o none one a rest =
        let k = rest a.0 one a.2 in (
          k.0,
          λ kept seen d p q need.
              let x : Choice = record { counts = k.0; kept = kept; seen = seen } in
              let f = record_parts config rules x t d p q label a.0 e round a.1 in
              first_and_rest config rules x (with_others t d p q) label labels a.0 s f (moved config rules x labels (goes config x label (with_others t d p q)) a.0 s f.like (k.1 kept seen) need.1),
        )
    by false e false round o none one a rest =
        let k = rest t one a in (
          k.0,
          λ kept seen d p q need.
              let x : Choice = record { counts = k.0; kept = kept; seen = seen } in
              let f = other_parts config rules x t d p q label e need.0 in
              first_and_rest config rules x (with_others t d p q) label labels t s f (moved config rules x labels (goes config x label (with_others t d p q)) t s f.like (k.1 kept seen) need.1),
        )
