-- The begin of a round, and every message of a round but the Thaw, leaves a node in form.
use Rattle.std.proofs.Common.{◌≡◌, ℕ, Bool, true, false, List, ◌++◌, sym, ◌∙◌, subst}
use Rattle.std.proofs.lemmas.Bool.{and_parts, cond_both}
use Rattle.std.proofs.lemmas.List.Folds.{list_all-append}
use Rattle.std.specs.List.{list_all}
use Rattle.ct_values.specs.declared.config.Config.{Config}
use Rattle.ct_frame.specs.Fields.{is_from_one, is_message, is_node, well_formed}
use Rattle.ct_frame.specs.declared.frame.Assigned.{Assigned}
use Rattle.ct_frame.specs.declared.frame.Frame.{Frame}
use Rattle.ct_frame.specs.declared.frame.Msg.{Msg}
use Rattle.ct_frame.specs.declared.frame.Msg.TheVariants as msg
use Rattle.ct_frame.specs.declared.frame.PTable.{PTable}
use Rattle.ct_frame.specs.declared.frame.TableRow.{TableRow}
use Rattle.ct_rules_node.specs.Admission.{is_sound, masters_in, named_in, nodes_in}
use Rattle.ct_rules_node.specs.Steps.{if_sound}
use Rattle.ct_rules_node.specs.Turn.{Turn}
use Rattle.ct_law_form.specs.Whole.{TurnInForm, is_node_of}
use Rattle.ct_law_form.proofs.WholeRecords.{message_of}
use Rattle.ct_law_form_steps.proofs.Freezing.{freeze_in_form}
use Rattle.ct_law_form_steps.proofs.Gathering.{pullreply_in_form}
use Rattle.ct_law_form_steps.proofs.Leading.{begin_in_form, freezeack_in_form}
use Rattle.ct_law_form_steps.proofs.Pulling.{pull_in_form}
use Rattle.ct_law_form_steps.proofs.Pushing.{push_in_form, pushack_in_form}
use Rattle.ct_law_form_steps.specs.RoundLaws.{BeginsKeepForm, RoundsKeepForm}

pub begins_keep_form : BeginsKeepForm
begins_keep_form c me g members t up all own h unspent = begin_in_form c me g members t up all own h unspent

-- ---- what is sound

-- the sender of a sound message, and all that it names, are nodes of the configuration
pub record IsFromNodes (c : Config) (f : Frame) : Type 0 where
  pub sender : is_node_of c f.sender ≡ true
  pub named : list_all (is_node_of c) (named_in f.msg) ≡ true

pub from_nodes : (c : Config) (f : Frame) → is_sound c f ≡ true → IsFromNodes c f
unfolding is_sound is_node_of
from_nodes c f e =
    let a = and_parts _ _ e in let b = and_parts _ _ a.0 in let d = and_parts _ _ b.0 in let g = and_parts _ _ d.0 in let p = and_parts _ _ g.0 in
    record { sender = p.0; named = p.1 }

pub generation_of : (f : Frame) → well_formed f ≡ true → is_from_one f.generation ≡ true
generation_of f e = (and_parts (is_from_one f.generation) (is_node f.receiver) (and_parts _ (is_node f.sender) (and_parts _ (is_message f.sender f.msg) e).0).0).0

members_of : (p : ℕ → Bool) (f : Frame) (members : List ℕ) (table : List TableRow) (ptables : List PTable) (assigned : List Assigned) → f.msg ≡ msg.Push members table ptables assigned → list_all p (named_in f.msg) ≡ true → list_all p members ≡ true
unfolding named_in
members_of p f members table ptables assigned is all =
    let whole = subst (λ (m : Msg). list_all p (named_in m) ≡ true) is all in
    let front = (and_parts (list_all p (members ++ masters_in table)) (list_all p (nodes_in assigned)) (sym (list_all-append p (members ++ masters_in table) (nodes_in assigned)) ∙ whole)).0 in
    (and_parts (list_all p members) (list_all p (masters_in table)) (sym (list_all-append p members (masters_in table)) ∙ front)).0

if_kept : (c : Config) (me : ℕ) (f : Frame) (u t : Turn) → (is_sound c f ≡ true → TurnInForm c me u) → TurnInForm c me t → TurnInForm c me (if_sound c f u t)
unfolding if_sound
if_kept c me f u t k h = cond_both (is_sound c f) u t (TurnInForm c me) k (λ _. h)

if_kept_unspent : (c : Config) (me : ℕ) (f : Frame) (u t : Turn) → (is_sound c f ≡ true → u.spent ≡ false → TurnInForm c me u) → TurnInForm c me t → (if_sound c f u t).spent ≡ false → TurnInForm c me (if_sound c f u t)
unfolding if_sound
if_kept_unspent c me f u t k h unspent = cond_both (is_sound c f) u t (λ (x : Turn). x.spent ≡ false → TurnInForm c me x) k (λ _ e. h) unspent

pub rounds_keep_form : RoundsKeepForm
rounds_keep_form = record {
  freeze = λ c me f t sound h. if_kept c me f _ t (λ e. freeze_in_form c me f.sender f.generation t (generation_of f sound) (from_nodes c f e).sender h) h;
  freezeack = λ c me f t h. if_kept c me f _ t (λ e. freezeack_in_form c me f.sender f.generation t t.node.lead h.node.lead h) h;
  pull = λ c me f t sound h. if_kept c me f _ t (λ e. pull_in_form c me f.sender f.generation t (generation_of f sound) (from_nodes c f e).sender h) h;
  pullreply = λ c me f vbase pbase table ptables addresses t is sound h. if_kept c me f _ t
      (λ e. pullreply_in_form c me f.generation (record { node = f.sender; vbase = vbase; pbase = pbase; table = table; ptables = ptables; addresses = addresses }) t t.node.lead (subst (λ (m : Msg). is_message f.sender m ≡ true) is (message_of f sound)) h.node.lead h) h;
  push = λ c me f members table ptables assigned t is sound h unspent. if_kept_unspent c me f _ t
      (λ e u. push_in_form c me f.sender f.generation members table ptables assigned t (generation_of f sound) (from_nodes c f e).sender (members_of (is_node_of c) f members table ptables assigned is (from_nodes c f e).named) (subst (λ (m : Msg). is_message f.sender m ≡ true) is (message_of f sound)) h u) h unspent;
  pushack = λ c me f t h. if_kept c me f _ t (λ e. pushack_in_form c me f.sender f.generation t t.node.lead h.node.lead h) h;
}
