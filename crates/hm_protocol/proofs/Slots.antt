-- What is known of the mirrors' tables: the entries that are there, and that callbacks leave none.
use Rattle.std.proofs.Common.{refl, ap, sym, subst, ◌∙◌, cond}
use Rattle.std.proofs.lemmas.Bool.{true≢false}
use Rattle.std.specs.Prelude.{◌≡◌, ℕ, Bool, true, false, not, ◌&&◌, ◌||◌, ◌==◌, nat_lt, if◌then◌else◌, Option, Some, None}
use Rattle.std.specs.Prelude.{is_none, ⊤, List, [], ◌∷◌, map, filter, find, count_by}
use Rattle.std.specs.List.{list_any}
use Rattle.hm_base.specs.Pages.{overlap}
use Rattle.hm_history.specs.Memory.Places.{TableEntry}
use Rattle.hm_protocol.specs.declared.events.Event.{Event}
use Rattle.hm_protocol.specs.declared.events.Traced.{Traced}
use Rattle.hm_protocol.specs.Words.{device_of, drop_if, is_it, is_sole}
use Rattle.hm_protocol.specs.Known.{Slot, Call, Move, Known, is_slot, is_own, is_current}
use Rattle.hm_protocol.specs.Noted.{noted, known_next, returned, after_erase, lost_one, after_set, after_paged, paged, after_end, over, began}
use Rattle.hm_protocol.specs.Tests.{write_entry, look_again}
use Rattle.hm_protocol.proofs.Fields.{at_end, at_refused, held_keeps, pass_keeps}
use Rattle.hm_protocol.proofs.Steps.{by}

-- an event goes through the table against its right
abbrev pub table_wrong : Known → Traced → Bool
table_wrong k s = write_entry k s || look_again k s

-- ---- slots

-- each slot is an entry of the table, with its right
abbrev pub AllSlots : (ℕ → ℕ → Option TableEntry) → List Slot → Type 0
AllSlots f [] = ⊤
AllSlots f (x ∷ xs) = ((e : TableEntry) × ((f x.mirror x.page ≡ Some e) × (e.right ≡ x.right))) × AllSlots f xs

-- a slot of the page, for one actor
abbrev pub sole_slot : ℕ → ℕ → Slot → Bool
sole_slot m v x = is_slot m v x && is_sole x.right

-- each entry for one actor has its slot
abbrev pub SoleSlots : (ℕ → ℕ → Option TableEntry) → List Slot → Type 0
SoleSlots f xs = (m v : ℕ) (e : TableEntry) → f m v ≡ Some e → is_sole e.right ≡ true → list_any (sole_slot m v) xs ≡ true

-- dropping slots leaves the others
pub slots_left : (f : ℕ → ℕ → Option TableEntry) (test : Slot → Bool) (xs : List Slot) → AllSlots f xs → AllSlots f (drop_if test xs)
slots_left f test [] h = tt
slots_left f test (x ∷ xs) h = by_bool (test x) (slots_left f test xs h.1)
  where
    by_bool : (b : Bool) → AllSlots f (drop_if test xs) → AllSlots f (cond (not b) (x ∷ drop_if test xs) (drop_if test xs))
    by_bool true g = g
    by_bool false g = (h.0, g)

-- a slot that passes a test that no dropped one passes is still there
pub still_any : (t test : Slot → Bool) → ((x : Slot) → t x ≡ true → test x ≡ true → ⊥) → (xs : List Slot) → list_any t xs ≡ true
    → list_any t (drop_if test xs) ≡ true
still_any t test h [] e = e
still_any t test h (x ∷ xs) e = by_bool (test x) (t x) refl refl (λ g. still_any t test h xs g)
  where
    by_bool : (b d : Bool) → test x ≡ b → t x ≡ d → (list_any t xs ≡ true → list_any t (drop_if test xs) ≡ true)
        → list_any t (cond (not b) (x ∷ drop_if test xs) (drop_if test xs)) ≡ true
    by_bool true true q r go = absurd (h x r q)
    by_bool true false q r go = go (ap (λ d. d || list_any t xs) (sym r) ∙ e)
    by_bool false true q r go = ap (λ d. d || list_any t (drop_if test xs)) r
    by_bool false false q r go = ap (λ d. d || list_any t (drop_if test xs)) r ∙ go (ap (λ d. d || list_any t xs) (sym r) ∙ e)

-- none that passes the dropping test is left, and none comes by dropping
pub none_any : (test : Slot → Bool) (xs : List Slot) → list_any test (drop_if test xs) ≡ false
none_any test [] = refl
none_any test (x ∷ xs) = by_bool (test x) refl (none_any test xs)
  where
    by_bool : (b : Bool) → test x ≡ b → list_any test (drop_if test xs) ≡ false → list_any test (cond (not b) (x ∷ drop_if test xs) (drop_if test xs)) ≡ false
    by_bool true q g = g
    by_bool false q g = ap (λ d. d || list_any test (drop_if test xs)) q ∙ g

pub still_none : (t test : Slot → Bool) (xs : List Slot) → list_any t xs ≡ false → list_any t (drop_if test xs) ≡ false
still_none t test [] h = h
still_none t test (x ∷ xs) h = by_bool (test x) (t x) refl h (λ g. still_none t test xs g)
  where
    by_bool : (b d : Bool) → t x ≡ d → (d || list_any t xs) ≡ false → (list_any t xs ≡ false → list_any t (drop_if test xs) ≡ false)
        → list_any t (cond (not b) (x ∷ drop_if test xs) (drop_if test xs)) ≡ false
    by_bool b true q g go = absurd (true≢false g)
    by_bool true false q g go = go g
    by_bool false false q g go = ap (λ d. d || list_any t (drop_if test xs)) q ∙ go g

-- ---- callbacks

-- it has left nothing
abbrev pub Clean : Call → Type 0
Clean x = (x.here ≡ []) × ((x.left ≡ []) × (x.copied ≡ 0))

-- none of them has
abbrev pub AllClean : List Call → Type 0
AllClean [] = ⊤
AllClean (x ∷ xs) = Clean x × AllClean xs

pub each_clean : (f : Call → Call) → ((x : Call) → Clean x → Clean (f x)) → (xs : List Call) → AllClean xs → AllClean (map f xs)
each_clean f h [] l = tt
each_clean f h (x ∷ xs) l = (h x l.0, each_clean f h xs l.1)

pub erase_clean : (k : Known) (a m v : ℕ) (x : Call) → Clean x → Clean (after_erase k a m v x)
erase_clean k a m v x c = subst (λ b. Clean (if b then lost_one k a (record x { here = drop_if (is_slot m v) x.here }) else x))
    (sym (ap (list_any (is_slot m v)) c.0)) c

pub set_clean : (m v : ℕ) (x : Call) → Clean x → Clean (after_set m v x)
set_clean m v x c = (ap (drop_if (is_slot m v)) c.0, c.1)

pub paged_clean : (k : Known) (a : ℕ) (ys : List Move) → AllClean k.calls → AllClean (paged k a ys)
paged_clean k a [] h = h
paged_clean k a (y ∷ ys) h = each_clean (after_paged k a y) (λ x c. by_bool ((x.thread == a) && (is_own k x && (is_none x.stale && (nat_lt x.at y.at && overlap y.span x.span)))) x c) k.calls h
  where
    by_bool : (b : Bool) (x : Call) → Clean x → Clean (if b then record x { stale = Some (filter (λ s. list_any (λ u. u.0 == s.page) y.source) x.here, y.to_device) } else x)
    by_bool true x c = c
    by_bool false x c = c

pub end_clean : (i j : ℕ) (x : Call) → Clean x → Clean (after_end i j x)
end_clean i j x c = by_bool (is_it x.of i)
  where
    by_bool : (b : Bool) → Clean (if b then record x { ended = Some j } else x)
    by_bool true = c
    by_bool false = c

over_clean : (k : Known) (a : ℕ) (o : Option ℕ) → AllClean k.calls → AllClean (over k a o).calls
over_clean k a None h = h
over_clean k a (Some i) h = each_clean (after_end i k.at) (end_clean i k.at) k.calls h

pub return_clean : (k : Known) (a m q : ℕ) (x : Call) → Clean x → Clean (returned k a m q x)
return_clean k a m q x c = by_bool (is_current a m x)
  where
    by_bool : (b : Bool) → Clean (if b then record x {
      at = k.at;
      after = Some q;
      left = x.here;
      alone = count_by (λ y. (y.mirror == m) && (y.seq == x.seq)) k.calls == 1;
      stale = if list_any (λ y. not y.paged && overlap y.span x.span) (k.moves a) then Some ([], false) else None;
    } else x)
    by_bool true = (c.0, (c.0, c.1.1))
    by_bool false = c

-- ---- what is known

-- of slots and callbacks
pub record Tables (f : ℕ → ℕ → Option TableEntry) (ss : List Slot) (xs : List Call) : Type 0 where
  pub slots : AllSlots f ss
  pub sole : SoleSlots f ss
  pub clean : AllClean xs

-- the same of what is known
abbrev pub KnowsTables : (ℕ → ℕ → Option TableEntry) → Known → Type 0
KnowsTables f k = Tables f k.slots k.calls

-- the event sets or erases, inserts a mirror or tells one
abbrev pub changes : Event → Bool
changes (Event.Insert m p r d) = true
changes (Event.Set m v f w) = true
changes (Event.Erase m v) = true
changes (Event.Tell m r q) = true
changes x = false

tables_same : (f : ℕ → ℕ → Option TableEntry) (k l : Known) → l.slots ≡ k.slots → AllClean l.calls → KnowsTables f k → KnowsTables f l
tables_same f k l e c kn = record {
  slots = subst (AllSlots f) (sym e) kn.slots;
  sole = subst (SoleSlots f) (sym e) kn.sole;
  clean = c;
}

-- another event leaves it
pub tables_kept : (f : ℕ → ℕ → Option TableEntry) (k : Known) (a : ℕ) (x : Event) → changes x ≡ false → KnowsTables f k
    → KnowsTables f (known_next k (by a x))
tables_kept f k a (Event.Insert m p r d) h kn = absurd (true≢false h)
tables_kept f k a (Event.Set m v g w) h kn = absurd (true≢false h)
tables_kept f k a (Event.Erase m v) h kn = absurd (true≢false h)
tables_kept f k a (Event.Tell m r q) h kn = absurd (true≢false h)
tables_kept f k a (Event.End p r) h kn = tables_same f k (noted k a (Event.End p r)) (at_end (λ k. k.slots) (λ k us xs. refl) k a p r)
    (over_clean k a _ kn.clean) kn
tables_kept f k a (Event.Told m q true) h kn = record { slots = kn.slots; sole = kn.sole; clean = each_clean (returned k a m q) (return_clean k a m q) k.calls kn.clean }
tables_kept f k a (Event.Told m q false) h kn = tables_same f k (noted k a (Event.Told m q false))
    (at_refused (λ k. k.slots) (λ k us xs. refl) k a m q)
    (over_clean (record k { calls = drop_if (is_current a m) k.calls }) a (began (find (is_current a m) k.calls)) (clean_left (is_current a m) k.calls kn.clean)) kn
  where
    clean_left : (test : Call → Bool) (xs : List Call) → AllClean xs → AllClean (drop_if test xs)
    clean_left test [] l = tt
    clean_left test (x ∷ xs) l = by_bool (test x) (clean_left test xs l.1)
      where
        by_bool : (b : Bool) → AllClean (drop_if test xs) → AllClean (cond (not b) (x ∷ drop_if test xs) (drop_if test xs))
        by_bool true g = g
        by_bool false g = (l.0, g)
tables_kept f k a (Event.Paged p) h kn = record { slots = kn.slots; sole = kn.sole; clean = paged_clean k a (k.moves a) kn.clean }
tables_kept f k a (Event.Take g) h kn = tables_same f k (noted k a (Event.Take g)) (held_keeps (λ k. k.slots) (λ k fs. refl) k g (device_of g))
    (subst AllClean (sym (held_keeps (λ k. k.calls) (λ k fs. refl) k g (device_of g))) kn.clean) kn
tables_kept f k a (Event.Pass g) h kn = tables_same f k (noted k a (Event.Pass g)) (pass_keeps (λ k. k.slots) (λ k p. refl) k (device_of g))
    (subst AllClean (sym (pass_keeps (λ k. k.calls) (λ k p. refl) k (device_of g))) kn.clean) kn
tables_kept f k a x h kn = record { slots = kn.slots; sole = kn.sole; clean = kn.clean }
