-- What was written is taken back.
use Rattle.std.proofs.Common.{◌≡◌, ℕ, Bool, true, false, cond, List, [], ◌∷◌, ◌++◌, Option, Some, None, refl, sym, ap, ◌∙◌}
use Rattle.std.specs.BTreeMap.{is_at}
use Rattle.std.specs.Cmp.{eq_by_cmp_equiv}
use Rattle.ct_values.specs.Key.{key_cmp}
use Rattle.ct_store.specs.Map.{Pairs, Ascends, look, write, erase}
use Rattle.ct_store.proofs.Maps.{same_map, look-write, look-erase, written, write_ascends, erase_ascends, one_key, equal, key_total}
use Rattle.ct_traverse_parts.specs.Best.{put_back, taken_back, written_over}
use Rattle.ct_traverse_parts.specs.declared.best.Best.{Best}

-- the last change is taken back first
pub back_last : (changes : List (List ℕ × Option Best)) (c : List ℕ × Option Best) (kept : Pairs Best) → taken_back (changes ++ (c ∷ [])) kept ≡ taken_back changes (put_back c.0 c.1 kept)
unfolding taken_back
back_last [] c kept = refl
back_last (d ∷ changes) c kept = ap (put_back d.0 d.1) (back_last changes c kept)

-- a key that is the one that was asked for
same_key : (q key : List ℕ) → is_at (key_cmp q) key ≡ true → q ≡ key
same_key q key e = one_key q key (equal (key_cmp q key) e)

-- nor is one of two keys that differ the other's
not_at : (key q : List ℕ) → is_at (key_cmp key) q ≡ false → is_at (key_cmp q) key ≡ false
not_at key q e = (eq_by_cmp_equiv key_total).symm q key ∙ e

-- what stood at a key stands there again, whatever was written there
pub back_itself : (key : List ℕ) (x : Best) (kept : Pairs Best) → Ascends kept → put_back key (look key kept) (write key x kept) ≡ kept
back_itself key x kept up = by_what (look key kept) refl
  where
    -- nothing stood there
    none_there : look key kept ≡ None → (q : List ℕ) → look q (erase key (write key x kept)) ≡ look q kept
    none_there e q = look-erase q key (write key x kept) (write_ascends kept key x up) ∙ by (is_at (key_cmp key) q) refl
      where
        by : (b : Bool) → is_at (key_cmp key) q ≡ b → cond b None (look q (write key x kept)) ≡ look q kept
        by true is = sym e ∙ ap (λ k. look k kept) (same_key key q is)
        by false is = look-write q key x kept ∙ ap (λ b. cond b (Some x) (look q kept)) (not_at key q is)

    some_there : (b : Best) → look key kept ≡ Some b → (q : List ℕ) → look q (write key b (write key x kept)) ≡ look q kept
    some_there b e q = look-write q key b (write key x kept) ∙ by (is_at (key_cmp q) key) refl
      where
        by : (t : Bool) → is_at (key_cmp q) key ≡ t → cond t (Some b) (look q (write key x kept)) ≡ look q kept
        by true is = sym e ∙ ap (λ k. look k kept) (sym (same_key q key is))
        by false is = look-write q key x kept ∙ ap (λ t. cond t (Some x) (look q kept)) is

    by_what : (o : Option Best) → look key kept ≡ o → put_back key o (write key x kept) ≡ kept
    by_what None e = same_map _ kept (erase_ascends (write key x kept) key (write_ascends kept key x up)) up (none_there e)
    by_what (Some b) e = ap (λ o. written_over key b o (write key x kept)) (written kept key x)
        ∙ same_map _ kept (write_ascends (write key x kept) key b (write_ascends kept key x up)) up (some_there b e)

-- what was noted before a key was written takes it back
pub back_more : (changes more : List (List ℕ × Option Best)) (again key : List ℕ) (x : Best) (before : Option Best) (kept now : Pairs Best) → Ascends kept → again ≡ key → before ≡ look key kept → more ≡ changes ++ ((again, before) ∷ []) → now ≡ write key x kept →
    taken_back more now ≡ taken_back changes kept
back_more changes more again key x before kept now up same was noted wrote =
    ap (λ (l : List (List ℕ × Option Best)). taken_back l now) noted ∙ back_last changes (again, before) now
    ∙ ap (taken_back changes) (ap (λ k. put_back k before now) same ∙ ap (λ o. put_back key o now) was ∙ ap (put_back key (look key kept)) wrote ∙ back_itself key x kept up)

pub none_back : (changes : List (List ℕ × Option Best)) (kept : Pairs Best) → changes ≡ [] → taken_back changes kept ≡ kept
unfolding taken_back
none_back changes kept none = ap (λ (l : List (List ℕ × Option Best)). taken_back l kept) none
