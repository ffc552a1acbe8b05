-- No message that was sent is of a newer generation, and those of records in this one keep the rules of their fields.
use Rattle.std.proofs.Common.{◌≡◌, ℕ, ◌≤◌, zero, suc, List, [], ◌∷◌, ◌++◌, map, Some, set, subst}
use Rattle.std.specs.Prelude.{slice_get}
use Rattle.std.specs.List.{AllByRecursion}
use Rattle.ct_frame.specs.declared.frame.Frame.{Frame}
use Rattle.ct_rules.specs.declared.event.Act.{Act}
use Rattle.ct_rules.specs.declared.event.Act.TheVariants as act
use Rattle.ct_rules.specs.declared.event.Place.{Place}
use Rattle.ct_rules_node.specs.Records.{out_of}
use Rattle.ct_rules_node.specs.Admission.{record_in}
use Rattle.ct_rules_cluster.specs.Cluster.{Sent, Fate}
use Rattle.ct_rules_cluster.specs.Steps.{frames_of}
use Rattle.ct_law_record.specs.World.{sent, sends}
use Rattle.ct_law_generation.proofs.Speaking.{Told, About}
use Rattle.ct_law_generation.proofs.Forming.{Is_sound_mail}

-- the message is of no generation newer than g, and where it is of a record in g it keeps the rules of its fields
unfoldable pub IsPlain : ℕ → Frame → Type 0
IsPlain g f = (f.generation ≤ g) ×
    ((r : ℕ × List ℕ) → record_in f.msg ≡ Some r → f.generation ≡ g → Is_sound_mail (record { sender = f.sender; receiver = f.receiver; msg = f.msg }))

abbrev pub AllPlain : ℕ → List Sent → Type 0
AllPlain g ss = AllByRecursion (λ s. IsPlain g s.frame) ss

-- what a step at a record sends is plain
pub plain_sends : (h : ℕ) (at : Place) (g n : ℕ) (xs : List Act) → g ≤ h → Told at xs → AllByRecursion Is_sound_mail (sent n xs) → AllPlain h (frames_of (map (out_of g n at.db at.key) xs))
unfolding Told About sent sends frames_of out_of IsPlain
plain_sends h at g n [] l t k = tt
plain_sends h at g n (act.Send receiver m ∷ xs) l t k = ((l, λ r of same. k.0), plain_sends h at g n xs l t.1 k.1)
plain_sends h at g n (act.Answer call a ∷ xs) l t k = plain_sends h at g n xs l t.1 k
plain_sends h at g n (act.Finished floor ∷ xs) l t k = plain_sends h at g n xs l t.1 k

pub plain_more : (g : ℕ) (xs ys : List Sent) → AllPlain g xs → AllPlain g ys → AllPlain g (xs ++ ys)
plain_more g [] ys h k = k
plain_more g (x ∷ xs) ys h k = (h.0, plain_more g xs ys h.1 k)

pub plain_at : (g : ℕ) (ss : List Sent) (k : ℕ) (s : Sent) → slice_get ss k ≡ Some s → AllPlain g ss → IsPlain g s.frame
plain_at g [] k s e h = absurd (cc)
plain_at g (x ∷ xs) zero s e h = (let same : x ≡ s = cc in subst (λ (y : Sent). IsPlain g y.frame) same h.0)
plain_at g (x ∷ xs) (suc k) s e h = plain_at g xs k s e h.1

pub plain_fate : (g : ℕ) (ss : List Sent) (k : ℕ) (s : Sent) (f : Fate) → IsPlain g s.frame → AllPlain g ss → AllPlain g (set ss k (record s { fate = f }))
plain_fate g [] k s f a h = h
plain_fate g (x ∷ xs) zero s f a h = (a, h.1)
plain_fate g (x ∷ xs) (suc k) s f a h = (h.0, plain_fate g xs k s f a h.1)

-- a message of a record in the generation keeps the rules of its fields
pub of_plain : (g : ℕ) (f : Frame) (r : ℕ × List ℕ) → IsPlain g f → record_in f.msg ≡ Some r → f.generation ≡ g → Is_sound_mail (record { sender = f.sender; receiver = f.receiver; msg = f.msg })
unfolding IsPlain
of_plain g f r h is now = h.1 r is now

-- and none is newer
pub not_newer : (g : ℕ) (f : Frame) → IsPlain g f → f.generation ≤ g
unfolding IsPlain
not_newer g f h = h.0
