-- Seats of a bus with one row of queues more, and of a bus that is whole.
use Rattle.std.proofs.Common.{arith, ◌≡◌, ◌∙◌, ◌+◌, ℕ, zero, suc, List, [], ◌∷◌, ◌++◌, length, map, refl, sym, ap, subst, ⊎_elim}
use Rattle.std.proofs.lemmas.List.{length-append, length-map, map-append}
use Rattle.std.proofs.lemmas.Option.{slice_get-map, slice_get_within}
use Rattle.std.specs.Prelude.{Option, Some, slice_get}
use Rattle.std.specs.Option.{option_map}
use Rattle.atomic_table.specs.Seated.{TableId}
use Rattle.ct_bus.specs.Ends.{out_queue, taken_from}
use Rattle.ct_bus.proofs.Fronts.{same_some}
use Rattle.ct_bus.specs.Opening.{AreColumns, AreRows, joined, new_shown, nothing, with_end}
use Rattle.ct_bus.specs.Seats.{AreNew, AreReceiving, AreSending, Queues, Shown, messages_of, receiving, sending}
use Rattle.ct_bus.specs.declared.seat.ReceiveSeat.{ReceiveSeat}
use Rattle.ct_bus.specs.declared.seat.SendSeat.{SendSeat}
use Rattle.ct_bus.specs.declared.message.Message.{Message}
use Rattle.ct_bus.specs.declared.ends.TakeEnd.{TakeEnd}
use Rattle.ct_bus.proofs.Places.{at_snoc, at_front, at_end}

pub row_more : (nodes : ℕ) (rows : Queues) (ss : List Shown) (qs : List TableId) → length qs ≡ nodes → AreRows nodes rows ss → AreRows nodes (rows ++ qs ∷ []) (ss ++ new_shown (length rows) qs ∷ [])
row_more nodes rows ss qs many a = record {
  count = length-append ss (new_shown (length rows) qs ∷ []) ∙ ap (λ (n : ℕ). n + 1) a.count ∙ sym (length-append rows (qs ∷ []));
  each = λ n s e. ⊎_elim
      (λ (i : slice_get ss n ≡ Some s). (let b = a.each n s i in (b.0, at_front rows (qs ∷ []) s.queues n b.1, b.2)))
      (λ (i : (n ≡ length ss) × (s ≡ new_shown (length rows) qs)). (let m : n ≡ length rows = i.0 ∙ a.count in let q : s.queues ≡ qs = ap (λ (x : Shown). x.queues) i.1 in (
        i.1 ∙ ap (λ (k : ℕ). new_shown k qs) (sym m) ∙ ap (λ (x : List TableId). new_shown n x) (sym q),
        subst (λ (k : ℕ). slice_get (rows ++ qs ∷ []) k ≡ Some s.queues) (sym m) (at_end rows qs ∙ ap (λ (x : List TableId). Some x) (sym q)),
        ap (λ (x : List TableId). length x) q ∙ many,
      )))
      (at_snoc ss (new_shown (length rows) qs) s n e);
}

joined_at : (ss : List Shown) (es : List TakeEnd) (n : ℕ) (s : Shown) → slice_get (joined ss es) n ≡ Some s → (t : Shown) × (e : TakeEnd) × (slice_get ss n ≡ Some t) × (slice_get es n ≡ Some e) × (s ≡ with_end e t)
joined_at [] es n s i = absurd (cc)
joined_at (t ∷ ts) [] n s i = absurd (cc)
joined_at (t ∷ ts) (e ∷ es) zero s i = (t, e, refl, refl, cc)
joined_at (t ∷ ts) (e ∷ es) (suc n) s i = joined_at ts es n s i

joined_many : (ss : List Shown) (es : List TakeEnd) → length es ≡ length ss → length (joined ss es) ≡ length ss
joined_many [] es l = refl
joined_many (s ∷ ss) [] l = absurd (omega arith)
joined_many (s ∷ ss) (e ∷ es) l = ap suc (joined_many ss es (omega arith))

abbrev no_messages : TableId → List Message
no_messages q = []

pub column_more : (nodes : ℕ) (rows : Queues) (ss : List Shown) (es : List TakeEnd) (qs : List TableId) → length qs ≡ nodes → map out_queue es ≡ qs → map taken_from es ≡ nothing qs → AreColumns nodes rows ss
    → AreColumns nodes (rows ++ qs ∷ []) (joined ss es)
column_more nodes rows ss es qs many are none c = record {
  count = joined_many ss es (sym (length-map es out_queue) ∙ ap (λ (x : List TableId). length x) are ∙ many ∙ sym c.count) ∙ c.count;
  each = λ n s i. (
      let j = joined_at ss es n s i in
      let t : Shown = j.0 in
      let e : TakeEnd = j.1 in
      let was = c.each n t j.2 in
      let queue : slice_get qs n ≡ Some (out_queue e) = ap (λ (x : List TableId). slice_get x n) (sym are) ∙ slice_get-map out_queue es n ∙ ap (λ (x : Option TakeEnd). option_map out_queue x) j.3 in
      let nil : taken_from e ≡ [] = same_some (taken_from e) [] (sym (ap (λ (x : Option TakeEnd). option_map taken_from x) j.3) ∙ sym (slice_get-map taken_from es n) ∙ ap (λ (x : List (List Message)). slice_get x n) none
      ∙ slice_get-map no_messages qs n ∙ ap (λ (x : Option TableId). option_map no_messages x) queue) in
      let queues : s.queues ≡ t.queues ++ out_queue e ∷ [] = ap (λ (x : Shown). x.queues) j.4 in (
        j.4 ∙ ended n t e was.0 nil ∙ ap (λ (x : List TableId). new_shown n x) (sym queues),
        ap (λ (x : List TableId). map (λ (q : TableId). Some q) x) queues ∙ map-append (λ (q : TableId). Some q) t.queues (out_queue e ∷ [])
            ∙ ap (λ (x : List (Option TableId)). x ++ Some (out_queue e) ∷ []) was.1
            ∙ ap (λ (x : Option TableId). map (λ (row : List TableId). slice_get row n) rows ++ x ∷ []) (sym queue)
            ∙ sym (map-append (λ (row : List TableId). slice_get row n) rows (qs ∷ [])),
      )
      );
}
  where
    ended : (n : ℕ) (t : Shown) (e : TakeEnd) → t ≡ new_shown n t.queues → taken_from e ≡ [] → with_end e t ≡ new_shown n (t.queues ++ out_queue e ∷ [])
    ended n t e was nil = subst (λ (x : Shown). with_end e x ≡ new_shown n (x.queues ++ out_queue e ∷ [])) (sym was)
        (ap (λ (x : List (List Message)). record { node = n; queues = t.queues ++ out_queue e ∷ []; messages = x })
        (ap (λ (x : List Message). nothing t.queues ++ x ∷ []) nil ∙ sym (map-append no_messages t.queues (out_queue e ∷ []))))

-- where nothing went through at all, none went through at each
none_of : (qs : List TableId) (n : ℕ) → messages_of n (nothing qs) ≡ []
none_of [] n = refl
none_of (q ∷ qs) zero = refl
none_of (q ∷ qs) (suc n) = none_of qs n

pub rows_send : (nodes : ℕ) (rows : Queues) (ss : List Shown) → length rows ≡ nodes → AreRows nodes rows ss → AreSending rows ss × AreNew ss
rows_send nodes rows ss many a = (
  record {
    count = a.count;
    each = λ n s i. (let b = a.each n s i in let node : s.node ≡ n = ap (λ (x : Shown). x.node) b.0 in (node, record { whole = b.2 ∙ sym many; row = subst (λ (k : ℕ). slice_get rows k ≡ Some s.queues) (sym node) b.1 }));
  },
  λ n other s i. (let b = a.each n s i in ap (λ (x : Shown). messages_of other x.messages) b.0 ∙ none_of s.queues other),
)

pub columns_receive : (nodes : ℕ) (rows : Queues) (ss : List Shown) → length rows ≡ nodes → AreColumns nodes rows ss → AreReceiving rows ss × AreNew ss
columns_receive nodes rows ss many a = (
  record {
    count = a.count ∙ sym many;
    each = λ n s i. (let b = a.each n s i in let node : s.node ≡ n = ap (λ (x : Shown). x.node) b.0 in let within = slice_get_within ss n s i in let c = a.count in (
      node,
      record {
        node = omega arith;
        column = subst (λ (k : ℕ). map (λ (q : TableId). Some q) s.queues ≡ map (λ (row : List TableId). slice_get row k) rows) (sym node) b.1;
      },
    ));
  },
  λ n other s i. (let b = a.each n s i in ap (λ (x : Shown). messages_of other x.messages) b.0 ∙ none_of s.queues other),
)

-- where no ends are left nothing is joined
pub joined_none : (ss : List Shown) → joined ss [] ≡ []
joined_none [] = refl
joined_none (s ∷ ss) = refl

-- one more seat without ends
pub seats_more : (n : ℕ) (ss : List Shown) → AreColumns n [] ss → AreColumns (n + 1) [] (ss ++ new_shown n [] ∷ [])
seats_more n ss a = record {
  count = length-append ss (new_shown n [] ∷ []) ∙ ap (λ (k : ℕ). k + 1) a.count;
  each = λ m s e. ⊎_elim
      (λ (i : slice_get ss m ≡ Some s). a.each m s i)
      (λ (i : (m ≡ length ss) × (s ≡ new_shown n [])). (let q : s.queues ≡ [] = ap (λ (x : Shown). x.queues) i.1 in (
        i.1 ∙ ap (λ (k : ℕ). new_shown k []) (sym (i.0 ∙ a.count)) ∙ ap (λ (x : List TableId). new_shown m x) (sym q),
        ap (λ (x : List TableId). map (λ (y : TableId). Some y) x) q,
      )))
      (at_snoc ss (new_shown n []) s m e);
}

-- no seats yet
pub seats_first : AreColumns 0 [] []
seats_first = record { count = refl; each = λ n s i. absurd (cc) }

-- no rows yet
pub rows_first : (nodes : ℕ) → AreRows nodes [] []
rows_first nodes = record { count = refl; each = λ n s i. absurd (cc) }

pub pushed_seat : (n : ℕ) (old new : List ReceiveSeat) (seat : ReceiveSeat) → new ≡ old ++ seat ∷ [] → receiving seat ≡ new_shown n [] → AreColumns n [] (map receiving old) → AreColumns (n + 1) [] (map receiving new)
pushed_seat n old new seat is shown a = subst (λ (ss : List Shown). AreColumns (n + 1) [] ss)
    (sym (ap (λ (rs : List ReceiveSeat). map receiving rs) is ∙ map-append receiving old (seat ∷ []) ∙ ap (λ (s : Shown). map receiving old ++ s ∷ []) shown))
    (seats_more n (map receiving old) a)

pub pushed_row : (nodes k : ℕ) (rows more : Queues) (old new : List SendSeat) (seat : SendSeat) (qs : List TableId) → more ≡ rows ++ qs ∷ [] → new ≡ old ++ seat ∷ [] → sending seat ≡ new_shown k qs → length rows ≡ k → length qs ≡ nodes
    → AreRows nodes rows (map sending old) → AreRows nodes more (map sending new)
pushed_row nodes k rows more old new seat qs wide is shown count many a =
    subst (λ (r : Queues). AreRows nodes r (map sending new)) (sym wide)
    (subst (λ (ss : List Shown). AreRows nodes (rows ++ qs ∷ []) ss)
    (sym (ap (λ (rs : List SendSeat). map sending rs) is ∙ map-append sending old (seat ∷ []) ∙ ap (λ (s : Shown). map sending old ++ s ∷ []) (shown ∙ ap (λ (m : ℕ). new_shown m qs) (sym count))))
    (row_more nodes rows (map sending old) qs many a))

pub pushed_column : (nodes : ℕ) (rows more : Queues) (old new : List ReceiveSeat) (es : List TakeEnd) (qs : List TableId) → more ≡ rows ++ qs ∷ [] → map receiving new ≡ joined (map receiving old) es → length qs ≡ nodes → map out_queue es ≡ qs
    → map taken_from es ≡ nothing qs → AreColumns nodes rows (map receiving old) → AreColumns nodes more (map receiving new)
pushed_column nodes rows more old new es qs wide is many out none a =
    subst (λ (r : Queues). AreColumns nodes r (map receiving new)) (sym wide)
    (subst (λ (ss : List Shown). AreColumns nodes (rows ++ qs ∷ []) ss) (sym is) (column_more nodes rows (map receiving old) es qs many out none a))
