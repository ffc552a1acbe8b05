-- The calls of a column have its chain.
use Rattle.std.proofs.Common.{◌≡◌, ◌∙◌, ℕ, true, List, [], ◌∷◌, refl, sym, ap}
use Rattle.std.proofs.lemmas.Bool.{and_from, and_parts}
use Rattle.std.proofs.lemmas.List.Folds.{list_all-append}
use Rattle.std.specs.List.{list_all}
use Rattle.std.specs.Prelude.{nat_eq}
use Rattle.ct_frame.specs.declared.event.Event.{Event}
use Rattle.ct_frame.specs.declared.event.Event.TheVariants as event
use Rattle.ct_script.specs.declared.plan.PlanItem.{PlanItem}
use Rattle.ct_journal.specs.Order.{entries_of}
use Rattle.ct_journal.specs.declared.journal.JournalEntry.{JournalEntry}
use Rattle.ct_script.specs.Cues.{item_of, items_in, with_item}
use Rattle.ct_values.specs.declared.config.Config.{Config}
use Rattle.ct_chain.specs.Chains.{chain_of}
use Rattle.ct_chain.specs.Cut.{in_chain}
use Rattle.ct_chain.proofs.Cutting.{calls_have_their_chain}
use Rattle.ct_troupe.specs.Laws.{ColumnsKeepTheirChain, keeps_chain}

module _ (c : Config) (chains i : ℕ) where
  -- an event keeps the chain where its item does
  item_keeps : (e : Event) (items : List PlanItem) → list_all (in_chain c chains i) (with_item (item_of e) items) ≡ true → keeps_chain c chains i e ≡ true × list_all (in_chain c chains i) items ≡ true
  unfolding item_of with_item in_chain keeps_chain
  item_keeps (event.Client call o) items h = and_parts (nat_eq (chain_of c chains o) i) (list_all (in_chain c chains i) items) h
  item_keeps (event.BeginRound ticket members) items h = (refl, (and_parts true (list_all (in_chain c chains i) items) h).1)
  item_keeps _ items h = (refl, h)

  items_keep : (xs : List JournalEntry) → list_all (in_chain c chains i) (items_in xs) ≡ true → list_all (λ x. keeps_chain c chains i x.event) xs ≡ true
  unfolding items_in
  items_keep [] h = refl
  items_keep (x ∷ xs) h = let k = item_keeps x.event (items_in xs) h in and_from _ _ k.0 (items_keep xs k.1)

pub columns_keep_their_chain : ColumnsKeepTheirChain
columns_keep_their_chain rules p chains i js a n =
    let s = a.scripted n in
    let all = ap (λ (items : List PlanItem). list_all (in_chain p.config chains i) items) s.taken ∙ calls_have_their_chain p chains i n in
    items_keep p.config chains i (entries_of js n)
    (and_parts (list_all (in_chain p.config chains i) (items_in (entries_of js n))) (list_all (in_chain p.config chains i) s.rest)
    (sym (list_all-append (in_chain p.config chains i) (items_in (entries_of js n)) s.rest) ∙ all)).0
