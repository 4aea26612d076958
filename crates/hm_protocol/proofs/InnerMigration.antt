-- What other events than those that open or close a migration leave of a thread's inner one.
use Rattle.std.proofs.Common.{refl, ap, sym, subst, ◌∙◌}
use Rattle.std.proofs.lemmas.Bool.{false≢true, or_right}
use Rattle.std.specs.Prelude.{◌≡◌, ℕ, Bool, true, false, ◌==◌, if◌then◌else◌}
use Rattle.std.specs.Prelude.{List, [], ◌∷◌, map, fold}
use Rattle.std.specs.List.{list_any}
use Rattle.hm_history.specs.Memory.Words.{with_at}
use Rattle.hm_history.proofs.Updates.{here_at}
use Rattle.hm_protocol.specs.declared.events.Event.{Event}
use Rattle.hm_protocol.specs.Words.{device_of, is_sole, drop_if}
use Rattle.hm_protocol.specs.Known.{Move, Known, is_slot, is_look_up}
use Rattle.hm_protocol.specs.Noted.{noted, known_next, commit, moving, with_move, freed, after_set}
use Rattle.hm_protocol.proofs.Fields.{moves_else, at_end, at_refused, held_keeps, pass_keeps}
use Rattle.hm_protocol.proofs.Steps.{by, by_thread}
use Rattle.hm_protocol.proofs.QuietEvents.{is_quiet, Quiet}

-- a thread has an inner migration
abbrev pub is_open : List Move → Bool
is_open [] = false
is_open (y ∷ ys) = true

-- what moved of it is known
abbrev pub is_paged : List Move → Bool
is_paged [] = false
is_paged (y ∷ ys) = y.paged

-- the page has moved
abbrev pub has_moved : List Move → ℕ → Bool
has_moved [] v = false
has_moved (y ∷ ys) v = list_any (λ u. u == v) y.moved

-- it goes on, and no less is known of it
pub record Grows (ys zs : List Move) : Type 0 where
  pub stays : is_open ys ≡ true → is_open zs ≡ true
  pub paged : is_paged ys ≡ true → is_paged zs ≡ true
  pub moved : (v : ℕ) → has_moved ys v ≡ true → has_moved zs v ≡ true

as_it_was : (ys : List Move) → Grows ys ys
as_it_was ys = record { stays = λ e. e; paged = λ e. e; moved = λ v e. e }

same_moves : (ys zs : List Move) → zs ≡ ys → Grows ys zs
same_moves ys zs e = subst (Grows ys) (sym e) (as_it_was ys)

and_then : (xs ys zs : List Move) → Grows xs ys → Grows ys zs → Grows xs zs
and_then xs ys zs h g = record {
  stays = λ e. g.stays (h.stays e);
  paged = λ e. g.paged (h.paged e);
  moved = λ v e. g.moved v (h.moved v e);
}

-- the inner one is changed so that no less is known of it
inner_grows : (f : Move → Move) → ((y : Move) → y.paged ≡ true → (f y).paged ≡ true)
    → ((y : Move) (v : ℕ) → list_any (λ u. u == v) y.moved ≡ true → list_any (λ u. u == v) (f y).moved ≡ true)
    → (k : Known) (a : ℕ) (ys : List Move) → Grows ys (with_at k.moves a (with_move f ys) a)
inner_grows f p m k a ys = subst (Grows ys) (sym (here_at k.moves a (with_move f ys))) (pick ys)
  where
    pick : (ys : List Move) → Grows ys (with_move f ys)
    pick [] = as_it_was []
    pick (y ∷ ys) = record { stays = λ e. refl; paged = p y; moved = m y }

freed_grows : (ys : List Move) (g : Move → Move) → ((y : Move) → (g y).paged ≡ y.paged)
    → ((y : Move) → (g y).moved ≡ y.moved) → Grows ys (map g ys)
freed_grows [] g p m = as_it_was []
freed_grows (y ∷ ys) g p m = record {
  stays = λ e. refl;
  paged = λ e. p y ∙ e;
  moved = λ v e. ap (list_any (λ u. u == v)) (m y) ∙ e;
}

grows_next : (k : Known) (a : ℕ) (x : Event) → is_quiet x ≡ true → Grows (k.moves a) ((noted k a x).moves a)
grows_next k a (Event.Setup p r to_device d) h = absurd (false≢true h)
grows_next k a (Event.Finalize p) h = absurd (false≢true h)
grows_next k a (Event.From v f w) h =
    inner_grows (λ y. record y { source = (v, w) ∷ y.source }) (λ y e. e) (λ y u e. e) k a (k.moves a)
grows_next k a (Event.Moved v f) h = inner_grows (λ y. record y { moved = v ∷ y.moved }) (λ y e. e)
    (λ y u e. or_right (v == u) (list_any (λ z. z == u) y.moved) e) k a (k.moves a)
grows_next k a (Event.Stayed v f) h =
    inner_grows (λ y. record y { stayed = (v, f) ∷ y.stayed }) (λ y e. e) (λ y u e. e) k a (k.moves a)
grows_next k a (Event.Paged p) h = inner_grows (λ y. record y { paged = true }) (λ y e. refl) (λ y u e. e) k a
    (k.moves a)
grows_next k a (Event.Free f) h =
    subst (Grows (k.moves a)) (sym (here_at k.moves a (map (freed f) (k.moves a))))
    (freed_grows (k.moves a) (freed f) (λ y. refl) (λ y. refl))
grows_next k a (Event.Set m v f w) h = pick (is_look_up k a v w) (is_sole w)
  where
    l : Known
    l = record k {
      slots = record { mirror = m; page = v; right = w; at = k.at } ∷ drop_if (is_slot m v) k.slots;
      calls = map (after_set m v) k.calls;
    }

    pick : (x y : Bool) → Grows (k.moves a)
        ((if x then commit l a m else if y then l else moving l a (λ y. record y { set = v ∷ y.set })).moves a)
    pick true y = as_it_was (k.moves a)
    pick false true = as_it_was (k.moves a)
    pick false false = inner_grows (λ y. record y { set = v ∷ y.set }) (λ y e. e) (λ y u e. e) k a (k.moves a)
grows_next k a (Event.End p r) h =
    same_moves (k.moves a) _ (at_end (λ k. k.moves a) (λ k us xs. refl) k a p r)
grows_next k a (Event.Told m q true) h = as_it_was (k.moves a)
grows_next k a (Event.Told m q false) h =
    same_moves (k.moves a) _ (at_refused (λ k. k.moves a) (λ k us xs. refl) k a m q)
grows_next k a (Event.Take f) h =
    same_moves (k.moves a) _ (held_keeps (λ k. k.moves a) (λ k fs. refl) k f (device_of f))
grows_next k a (Event.Pass f) h =
    same_moves (k.moves a) _ (pass_keeps (λ k. k.moves a) (λ k p. refl) k (device_of f))
grows_next k a x h = as_it_was (k.moves a)

-- so it is after quiet events
pub grows : (a : ℕ) (xs : List Event) → Quiet xs → (k : Known)
    → Grows (k.moves a) ((fold known_next k (by_thread a xs)).moves a)
grows a [] h k = as_it_was (k.moves a)
grows a (x ∷ xs) h k = let l : Known = known_next k (by a x) in
    and_then (k.moves a) (l.moves a) ((fold known_next l (by_thread a xs)).moves a) (grows_next k a x h.0)
    (grows a xs h.1 l)

-- ---- another thread

-- events of another thread leave a thread's migrations
pub others_moves : (b a : ℕ) → (a ≡ b → ⊥) → (xs : List Event) (k : Known)
    → (fold known_next k (by_thread b xs)).moves a ≡ k.moves a
others_moves b a ne [] k = refl
others_moves b a ne (x ∷ xs) k = others_moves b a ne xs (known_next k (by b x)) ∙ moves_else k b x a ne
