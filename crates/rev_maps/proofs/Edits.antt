-- Edits of a list at the place of a use.
use Rattle.std.proofs.Common.{◌≡◌, ℕ, suc, ◌+◌, ◌-◌, ◌<◌, ◌≤◌, Bool, true, false, ◌||◌, List, [], ◌∷◌, length, get_or, set, refl, sym, ap, ◌∙◌, arith}
use Rattle.std.specs.List.{insert, remove, position_or_len}
use Rattle.std.proofs.lemmas.List.Sums.{position_or_len_is}
use Rattle.std.proofs.lemmas.Bool.{and_parts}
use Rattle.rev_maps.specs.declared.uses.Use.{Use}
use Rattle.rev_maps.specs.Uses.{Uses, precedes, is_by, has_use, all_after, is_rising, with_use, without_use, with_moving, added, removed}
use Rattle.rev_maps.proofs.Rising.{after_is_another}

one-add : (n : ℕ) → 1 + n ≡ suc n
one-add n = omega arith

pub inserted : (n : Use) (us : List Use) → insert us (position_or_len (precedes n) us) n ≡ with_use n us
inserted n [] = refl
inserted n (u ∷ us) = by (precedes n u) refl (inserted n us)
  where
    by : (b : Bool) → precedes n u ≡ b → insert us (position_or_len (precedes n) us) n ≡ with_use n us → insert (u ∷ us) (position_or_len (precedes n) (u ∷ us)) n ≡ with_use n (u ∷ us)
    by true e h = rw e refl
    by false e h = rw (e, one-add) (ap (λ l. u ∷ l) h)

pub none_left : (proc page : ℕ) (u : Use) (us : List Use) → is_by proc page u ≡ true → all_after u us ≡ true → without_use proc page us ≡ us
none_left proc page u [] e h = refl
none_left proc page u (w ∷ ws) e h =
    rw (after_is_another proc page u w (and_parts (precedes u w) (all_after u ws) h).0 e) (ap (λ l. w ∷ l) (none_left proc page u ws e (and_parts (precedes u w) (all_after u ws) h).1))

pub removed_at : (proc page : ℕ) (us : List Use) → is_rising us ≡ true → remove us (position_or_len (is_by proc page) us) ≡ without_use proc page us
removed_at proc page [] h = refl
removed_at proc page (u ∷ us) h = by (is_by proc page u) refl (removed_at proc page us (and_parts (all_after u us) (is_rising us) h).1)
  where
    by : (b : Bool) → is_by proc page u ≡ b → remove us (position_or_len (is_by proc page) us) ≡ without_use proc page us → remove (u ∷ us) (position_or_len (is_by proc page) (u ∷ us)) ≡ without_use proc page (u ∷ us)
    by true e r = rw e (sym (none_left proc page u us e (and_parts (all_after u us) (is_rising us) h).0))
    by false e r = rw (e, one-add) (ap (λ l. u ∷ l) r)

none_marked : (proc page : ℕ) (u : Use) (us : List Use) → is_by proc page u ≡ true → all_after u us ≡ true → with_moving proc page us ≡ us
none_marked proc page u [] e h = refl
none_marked proc page u (w ∷ ws) e h =
    rw (after_is_another proc page u w (and_parts (precedes u w) (all_after u ws) h).0 e) (ap (λ l. w ∷ l) (none_marked proc page u ws e (and_parts (precedes u w) (all_after u ws) h).1))

pub marked_at : (proc page : ℕ) (us : List Use) (d : Use) → is_rising us ≡ true → has_use proc page us ≡ true →
    set us (position_or_len (is_by proc page) us) (record (get_or us (position_or_len (is_by proc page) us) d) { moving = true }) ≡ with_moving proc page us
marked_at proc page [] d h t = cc
marked_at proc page (u ∷ us) d h t = by (is_by proc page u) refl t (marked_at proc page us d (and_parts (all_after u us) (is_rising us) h).1)
  where
    by : (b : Bool) → is_by proc page u ≡ b → (b || has_use proc page us) ≡ true →
        (has_use proc page us ≡ true → set us (position_or_len (is_by proc page) us) (record (get_or us (position_or_len (is_by proc page) us) d) { moving = true }) ≡ with_moving proc page us) →
        set (u ∷ us) (position_or_len (is_by proc page) (u ∷ us)) (record (get_or (u ∷ us) (position_or_len (is_by proc page) (u ∷ us)) d) { moving = true }) ≡ with_moving proc page (u ∷ us)
    by true e t r = rw e (ap (λ (l : List Use). record u { moving = true } ∷ l) (sym (none_marked proc page u us e (and_parts (all_after u us) (is_rising us) h).0)))
    by false e t r = rw (e, one-add) (ap (λ l. u ∷ l) (r t))

pub first_at : (test : Use → Bool) (us : List Use) (i : ℕ) (x : Use) → x ≡ get_or us i x → i < length us → test x ≡ true → ((k : ℕ) (d : Use) → k < i → test (get_or us k d) ≡ false) → i ≡ position_or_len test us
first_at test us i x e l t h = sym (position_or_len_is test us i x (omega arith) (λ k m. h k x m) (λ m. rw (← e) t))

pub no_use : (proc page : ℕ) (us : List Use) → ((k : ℕ) (d : Use) → k < length us → is_by proc page (get_or us k d) ≡ false) → has_use proc page us ≡ false
no_use proc page [] h = refl
no_use proc page (u ∷ us) h = rw (h 0 u (omega arith), no_use proc page us (λ k d l. h (suc k) d (omega arith))) refl

filler : Use
filler = record { proc = 0; page = 0; moving = false }

pub none_at : (test : Use → Bool) (us : List Use) → ((k : ℕ) (d : Use) → k < length us → test (get_or us k d) ≡ false) → length us ≡ position_or_len test us
none_at test us h = sym (position_or_len_is test us (length us) filler (omega arith) (λ k l. h k filler l) (λ m. absurd (omega arith)))

pub position_le : (test : Use → Bool) (us : List Use) → position_or_len test us ≤ length us
position_le test [] = omega arith
position_le test (u ∷ us) = by (test u) refl (position_le test us)
  where
    by : (b : Bool) → test u ≡ b → position_or_len test us ≤ length us → position_or_len test (u ∷ us) ≤ length (u ∷ us)
    by true e r = rw e (omega arith)
    by false e r = rw e (omega arith)

pub insert_is : (n : Use) (us now : List Use) (at : ℕ) → at ≡ position_or_len (precedes n) us → now ≡ insert us at n → now ≡ with_use n us
insert_is n us now at p e = e ∙ (ap (λ i. insert us i n) p ∙ inserted n us)

pub remove_is : (proc page : ℕ) (us now : List Use) (at : ℕ) → is_rising us ≡ true → at ≡ position_or_len (is_by proc page) us → now ≡ remove us at → now ≡ without_use proc page us
remove_is proc page us now at h p e = e ∙ (ap (λ i. remove us i) p ∙ removed_at proc page us h)

pub mark_is : (proc page : ℕ) (us : List Use) (at : ℕ) (x : Use) → is_rising us ≡ true → has_use proc page us ≡ true → at ≡ position_or_len (is_by proc page) us → x ≡ get_or us at x → set us at (record x { moving = true }) ≡ with_moving proc page us
mark_is proc page us at x h t p e =
    ap (λ (y : Use). set us at (record y { moving = true })) e ∙ (ap (λ i. set us i (record (get_or us i x) { moving = true })) p ∙ marked_at proc page us x h t)

-- the uses after an addition and a removal, from their parts
pub is_added : (n : Use) (f g : Uses) (list : List Use) (room : ℕ) → f ≡ g → list ≡ with_use n f.list → room ≡ f.room - 1 → record { list = list; room = room } ≡ added n g
is_added n f g list room e p q = rw (p, q) (ap (added n) e)

pub is_removed : (proc page : ℕ) (f g : Uses) (list : List Use) (room : ℕ) → f ≡ g → list ≡ without_use proc page f.list → room ≡ f.room + 1 → record { list = list; room = room } ≡ removed proc page g
is_removed proc page f g list room e p q = rw (p, q) (ap (removed proc page) e)
