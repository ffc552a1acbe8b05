-- What a Push makes a node do that installs: a note, the addresses that it gives up, and a PushAck; and the RSNs that it makes.
use Rattle.std.proofs.Common.{◌≡◌, ℕ, ◌+◌, ◌<◌, ◌^◌, Bool, true, false, cond, ◌||◌, List, [], ◌∷◌, ◌++◌, append-nil, append_assoc, inl, inr, refl, sym, ap, ◌∙◌, subst}
use Rattle.std.specs.Prelude.{nat_eq, nat_le, not}
use Rattle.std.specs.List.{filter}
use Rattle.std.proofs.lemmas.Bool.{leb-false, or_parts}
use Rattle.ct_values.specs.declared.address.Address.{Address}
use Rattle.ct_values.specs.declared.config.Config.{Config}
use Rattle.ct_frame.specs.declared.event.Event.TheVariants as event
use Rattle.ct_frame.specs.declared.event.Note.TheVariants as note
use Rattle.ct_frame.specs.declared.event.Out.{Out}
use Rattle.ct_frame.specs.declared.event.Out.TheVariants as out
use Rattle.ct_frame.specs.declared.frame.Assigned.{Assigned}
use Rattle.ct_frame.specs.declared.frame.Frame.{Frame}
use Rattle.ct_frame.specs.declared.frame.Msg.{Msg}
use Rattle.ct_frame.specs.declared.frame.Msg.TheVariants as msg
use Rattle.ct_frame.specs.declared.frame.PTable.{PTable}
use Rattle.ct_frame.specs.declared.frame.TableRow.{TableRow}
use Rattle.ct_call.specs.Rules.{Rules}
use Rattle.ct_merge.proofs.Among.{In}
use Rattle.ct_rules_node.specs.Admission.{is_sound}
use Rattle.ct_rules_node.specs.Node.{master_of, is_frozen_in}
use Rattle.ct_rules_node.specs.Rounds.{row_master, releases, makes_rows, installs, is_own, on_push}
use Rattle.ct_rules_node.specs.Steps.{happens, arrives, if_sound}
use Rattle.ct_rules_node.specs.Turn.{Turn, with_node, makes, notes, does, posts}
use Rattle.ct_rules_cluster.specs.Steps.{frames_of}
use Rattle.ct_rules_cluster.specs.declared.step.PendingCall.{PendingCall}
use Rattle.ct_promise.specs.Generation.{record_labels, speaks_of_records, is_note_of_records}
use Rattle.ct_law_generation.specs.Shown.{labels_of}

-- ---- the addresses that are given up

abbrev pub released : List Address → List Out
released [] = []
released (a ∷ rest) = out.Note (note.Released a) ∷ released rest

releases_outs : (xs : List Address) (t : Turn) → (releases xs t).outs ≡ t.outs ++ released xs
unfolding releases notes does
releases_outs [] t = sym (append-nil t.outs)
releases_outs (a ∷ rest) t = releases_outs rest (notes (note.Released a) t) ∙ append_assoc t.outs (out.Note (note.Released a) ∷ []) (released rest)

releases_spent : (xs : List Address) (t : Turn) → (releases xs t).spent ≡ t.spent
unfolding releases notes does
releases_spent [] t = refl
releases_spent (a ∷ rest) t = releases_spent rest (notes (note.Released a) t)

-- nothing is told of records by them
pub released_untold : (c : Config) (n : ℕ) (pend : List PendingCall) (xs : List Address) (more : List Out) → record_labels c (labels_of n pend (released xs ++ more)) ≡ record_labels c (labels_of n pend more)
unfolding labels_of speaks_of_records is_note_of_records
released_untold c n pend [] more = refl
released_untold c n pend (a ∷ rest) more = released_untold c n pend rest more

pub released_frames : (xs : List Address) (more : List Out) → frames_of (released xs ++ more) ≡ frames_of more
unfolding frames_of
released_frames [] more = refl
released_frames (a ∷ rest) more = released_frames rest more

-- ---- the RSNs that are made

made_outs : (b : Bool) (number : ℕ) (t : Turn) → (cond b (makes number t) t).outs ≡ t.outs
unfolding makes
made_outs true number t = refl
made_outs false number t = refl

makes_outs : (me : ℕ) (members : List ℕ) (rows : List TableRow) (t : Turn) → (makes_rows me members rows t).outs ≡ t.outs
unfolding makes_rows
makes_outs me members [] t = refl
makes_outs me members (row ∷ rows) t = makes_outs me members rows _ ∙ made_outs (nat_eq me (row_master row) || nat_eq me (master_of members row.key)) (row.rsn + 1) t

made_before : (b : Bool) (number : ℕ) (t : Turn) → (cond b (makes number t) t).spent ≡ false → t.spent ≡ false
unfolding makes
made_before true number t e = (or_parts t.spent (nat_le (2 ^ 62) number) e).0
made_before false number t e = e

rows_before : (me : ℕ) (members : List ℕ) (rows : List TableRow) (t : Turn) → (makes_rows me members rows t).spent ≡ false → t.spent ≡ false
unfolding makes_rows
rows_before me members [] t e = e
rows_before me members (row ∷ rows) t e = made_before (nat_eq me (row_master row) || nat_eq me (master_of members row.key)) (row.rsn + 1) t (rows_before me members rows _ e)

made_now : (b : Bool) (rsn : ℕ) (t : Turn) → b ≡ true → (cond b (makes (rsn + 1) t) t).spent ≡ false → rsn + 1 < 2 ^ 62
unfolding makes
made_now true rsn t is e = leb-false (2 ^ 62) (rsn + 1) (or_parts t.spent (nat_le (2 ^ 62) (rsn + 1)) e).1
made_now false rsn t is e = absurd (cc)

-- where the step is whole, the RSN that is made of a row is below 2^62 at its data master and at its location master
pub made_low : (me : ℕ) (members : List ℕ) (rows : List TableRow) (t : Turn) (row : TableRow) → (makes_rows me members rows t).spent ≡ false → In row rows → (nat_eq me (row_master row) || nat_eq me (master_of members row.key)) ≡ true → row.rsn + 1 < 2 ^ 62
unfolding makes_rows
made_low me members [] t row e i is = absurd i
made_low me members (x ∷ rows) t row e (inl same) is = subst (λ (y : TableRow). y.rsn + 1 < 2 ^ 62) same
    (made_now (nat_eq me (row_master x) || nat_eq me (master_of members x.key)) x.rsn t (subst (λ (y : TableRow). (nat_eq me (row_master y) || nat_eq me (master_of members y.key)) ≡ true) (sym same) is) (rows_before me members rows _ e))
made_low me members (x ∷ rows) t row e (inr i) is = made_low me members rows _ row e i is

-- ---- the whole of it

-- what is done at an installation
abbrev pub done_so : ℕ → ℕ → ℕ → List Address → List Out
done_so n h g xs = out.Note (note.Installed g) ∷ (released xs ++ out.Send (record { generation = g; sender = n; receiver = h; msg = msg.PushAck }) ∷ [])

module _ (c : Config) (n h g : ℕ) (members : List ℕ) (table : List TableRow) (ptables : List PTable) (assigned : List Assigned) (t : Turn) where
  abbrev pub given_up : List Address
  given_up = filter (λ a. not (is_own n assigned a)) t.node.held

  pub installs_outs : t.outs ≡ [] → (posts g n h msg.PushAck (installs c n h g members table ptables assigned t)).outs ≡ done_so n h g given_up
  unfolding posts does installs notes with_node
  installs_outs e = ap (λ (l : List Out). l ++ out.Send (record { generation = g; sender = n; receiver = h; msg = msg.PushAck }) ∷ []) (releases_outs given_up _
      ∙ ap (λ (l : List Out). (l ++ out.Note (note.Installed g) ∷ []) ++ released given_up) (makes_outs n members table t ∙ e))

  pub installs_spent : (posts g n h msg.PushAck (installs c n h g members table ptables assigned t)).spent ≡ (makes_rows n members table t).spent
  unfolding posts does installs notes with_node
  installs_spent = releases_spent given_up _

-- what comes of a Push that is sound, at a node that is frozen for its generation
pub push_is : (c : Config) (rules : Rules) (n : ℕ) (t : Turn) (f : Frame) (members : List ℕ) (table : List TableRow) (ptables : List PTable) (assigned : List Assigned) → f.msg ≡ msg.Push members table ptables assigned → is_sound c f ≡ true →
    is_frozen_in f.generation t.node.phase ≡ true → happens c rules n t (event.Arrive f) ≡ posts f.generation n f.sender msg.PushAck (installs c n f.sender f.generation members table ptables assigned t)
unfolding happens arrives if_sound on_push
push_is c rules n t f members table ptables assigned is sound frozen = ap (λ (m : Msg). arrives c rules n f t m) is ∙ pick (is_sound c f) _ t sound ∙ pick (is_frozen_in f.generation t.node.phase) _ _ frozen
  where
    pick : (b : Bool) (p q : Turn) → b ≡ true → cond b p q ≡ p
    pick true p q e = refl
    pick false p q e = absurd (cc)
