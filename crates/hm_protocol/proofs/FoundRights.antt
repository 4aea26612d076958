-- Of the rights with which a look-up has found pages: a writable place that it notes it has not found for reads.
use Rattle.std.proofs.Common.{refl, ap, sym, subst, ◌∙◌}
use Rattle.std.proofs.lemmas.Bool.{true≢false, false≢true}
use Rattle.std.specs.Prelude.{fold, ◌≡◌, ℕ, ◌+◌, true, false, Option, Some, None, List, [], ◌∷◌, ◌++◌}
use Rattle.hm_base.specs.Program.{Program}
use Rattle.hm_base.specs.declared.Place.{Place}
use Rattle.hm_base.specs.declared.ops.Op.{Op}
use Rattle.hm_history.specs.Memory.Words.{page_of, writable}
use Rattle.hm_history.specs.Memory.After.{After}
use Rattle.hm_history.specs.Kernel.Operation.{op_piece, op_mirror, op_writes}
use Rattle.hm_history.specs.Kernel.Stacks.{stack_after}
use Rattle.hm_history.specs.Kernel.Going.{Going, op_at, going_on, touch_page, touch_proc}
use Rattle.hm_history.specs.declared.Kind.{Kind}
use Rattle.hm_history.specs.declared.phases.Migrating.{Migrating}
use Rattle.hm_history.specs.declared.phases.Seen.{Seen}
use Rattle.hm_history.specs.declared.phases.Phase.{Phase}
use Rattle.hm_protocol.specs.declared.events.Event.{Event}
use Rattle.hm_protocol.specs.Known.{Look, Known, is_noted}
use Rattle.hm_protocol.specs.Noted.{known_next}
use Rattle.hm_protocol.specs.Projection.{events_by, top_of, found_at}
use Rattle.hm_history.specs.Memory.Plain.{mirror_dev}
use Rattle.hm_history.specs.Kernel.Due.{due_phase}
use Rattle.hm_history.specs.declared.phases.Touch.{Touch}
use Rattle.hm_history.specs.declared.phases.Next.TheVariants.{Do}
use Rattle.hm_laws.specs.Past.{Past}
use Rattle.hm_laws.specs.Facts.{facts, HoldsAll, is_device_access}
use Rattle.hm_protocol.proofs.Entries.{nothing_comes}
use Rattle.hm_protocol.proofs.Steps.{by, by_thread}
use Rattle.hm_protocol.proofs.Stands.{Stand, is_passing, stand, has_noted, passes, passing}
use Rattle.hm_protocol.proofs.BeginFirst.{mirror_of}
use Rattle.hm_protocol.proofs.ComesFrom.{walk_is_device}
use Rattle.hm_protocol.proofs.Entries.{first_rests, events_at}
use Rattle.hm_protocol.proofs.Founds.{other_found, walk_finds, walk_suits}

-- the page of an operation's piece
abbrev pub piece_page : Option Op → ℕ → ℕ
piece_page None n = 0
piece_page (Some o) n = page_of (op_piece o n).0

-- of an actor: if it has noted a writable place, it has not found the page for reads
pub record Right (looks : ℕ → Look) (x : Option Op) (g : Going) : Type 0 where
  pub noted : (q n : ℕ) (y : Place) → stand g.stack ≡ Stand.Notes q n y → (is_passing (top_of g.stack) ≡ false)
      × (writable y ≡ true → is_noted (piece_page x n) false (looks (mirror_of x)).found ≡ false)

-- an actor that has noted none
pub settled : (looks : ℕ → Look) (x : Option Op) (g : Going) → has_noted (stand g.stack) ≡ false → Right looks x g
settled looks x g h = record { noted = λ q n y e. absurd (true≢false (sym (ap has_noted e) ∙ h)) }

-- after some events of a thread
abbrev pub noted_all : Known → ℕ → List Event → Known
noted_all k a xs = fold known_next k (by_thread a xs)

-- events of other actors
pub others : (k : Known) (a b : ℕ) (x : Option Op) (g : Going) → (b ≡ a → ⊥) → (es : List Event)
    → Right (k.looks b) x g → Right ((noted_all k a es).looks b) x g
others k a b x g ne [] h = h
others k a b x g ne (e ∷ es) h = others (known_next k (by a e)) a b x g ne es (record {
  noted = λ q n y d. let z : (is_passing (top_of g.stack) ≡ false)
      × (writable y ≡ true → is_noted (piece_page x n) false (k.looks b (mirror_of x)).found ≡ false) =
      h.noted q n y d in
      (z.0, λ w. other_found k a e b (mirror_of x) (piece_page x n) false ne (z.1 w));
})

-- an actor that goes on, or comes to its next operation
pub right_on : (c : Program) (looks : ℕ → Look) (a i : ℕ) (o : Op) (st : List Phase) (xs : List Migrating)
    → op_at c a i ≡ Some o → Right looks (Some o) (record { index = i; stack = st; pages = xs })
    → Right looks (op_at c a (going_on c a i st xs).index) (going_on c a i st xs)
right_on c looks a i o [] xs e h = settled looks _ _ (ap has_noted (first_rests (op_at c a (i + 1))))
right_on c looks a i o (y ∷ ys) xs e h = subst
    (λ x. Right looks x (record { index = i; stack = y ∷ ys; pages = xs })) (sym e) h

-- ---- an actor's own entry

-- at a phase that passes on it notes none, nor did it
pub at_passing : (was looks : ℕ → Look) (i : ℕ) (o : Op) (xs ys : List Migrating) (top : Phase) (below : List Phase)
    (j : Kind) (seen : Seen) → is_passing top ≡ true
    → Right was (Some o) (record { index = i; stack = top ∷ below; pages = xs })
    → Right looks (Some o) (record { index = i; stack = stack_after o (top ∷ below) j seen; pages = ys })
at_passing was looks i o xs ys top below j seen p h = record {
  noted = λ q n y e. absurd (true≢false (sym p ∙ (h.noted q n y (before e)).0));
}
  where
    before : {d : Stand} → stand (stack_after o (top ∷ below) j seen) ≡ d → stand (top ∷ below) ≡ d
    before e = passing top below p ∙ (sym (passes o top below j seen p) ∙ e)

device_page : (o : Op) (n since q : ℕ) → is_device_access o ≡ true
    → touch_page o (Touch.Walk n since q) ≡ page_of (op_piece o n).0
device_page (Op.DeviceLoad m at len) n since q h = refl
device_page (Op.DeviceStore m at bs) n since q h = refl
device_page o n since q h = absurd (false≢true h)

-- a walk has found the place that is noted, with its right
pub at_walk : (c : Program) (k : Known) (s u : After) (t : Past) (a i : ℕ) (o : Op) (xs ys : List Migrating)
    (n since q p : ℕ)
    (below : List Phase) (after : Phase)
    → HoldsAll s t a (facts o xs (Phase.Decide (Touch.Walk n since q) ∷ below))
    → due_phase c s a o xs (Phase.Decide (Touch.Walk n since q)) ≡ Do (Kind.Runlock p)
    → Right ((noted_all k a
    (events_at s u a o xs (Phase.Decide (Touch.Walk n since q) ∷ below) after (Kind.Runlock p))).looks a) (Some o)
    (record {
      index = i;
      stack = Phase.Noted n since q (s.places.place (touch_proc s o) (touch_page o (Touch.Walk n since q))) ∷ [];
      pages = ys;
    })
at_walk c k s u t a i o xs ys n since q p below after known d = record {
  noted = λ l e y h. (
    refl,
    λ w. subst (λ e. is_noted (page_of (op_piece o e).0) false
        ((noted_all k a (events_at s u a o xs (Phase.Decide (Touch.Walk n since q) ∷ below) after
        (Kind.Runlock p))).looks a (op_mirror o)).found ≡ false)
        (same_piece h) (finds (ap writable (same_place h) ∙ w)),
  );
}
  where
    same_piece : {u v x y : ℕ} {z w : Place} → Stand.Notes u x z ≡ Stand.Notes v y w → x ≡ y
    same_piece h = cc

    same_place : {u v x y : ℕ} {z w : Place} → Stand.Notes u x z ≡ Stand.Notes v y w → z ≡ w
    same_place h = cc

    finds : writable (s.places.place (touch_proc s o) (touch_page o (Touch.Walk n since q))) ≡ true
        → is_noted (page_of (op_piece o n).0) false
        ((noted_all k a (events_at s u a o xs (Phase.Decide (Touch.Walk n since q) ∷ below) after
        (Kind.Runlock p))).looks a (op_mirror o)).found ≡ false
    finds w = subst (λ es. is_noted (page_of (op_piece o n).0) false ((noted_all k a
        (es ++ events_by s u a o xs (Phase.Decide (Touch.Walk n since q) ∷ below) after (Kind.Runlock p))).looks a
        (op_mirror o)).found ≡ false)
        (sym (nothing_comes s o xs (Phase.Decide (Touch.Walk n since q)) (Kind.Runlock p) refl))
        (subst (λ v. is_noted v false ((noted_all k a (found_at (op_mirror o) (touch_page o (Touch.Walk n since q))
        (s.places.place (touch_proc s o) (touch_page o (Touch.Walk n since q))) ++ Event.Walked
        (op_mirror o) true ∷ [])).looks a (op_mirror o)).found ≡ false)
        (device_page o n since q (walk_is_device s t a o xs (Phase.Decide (Touch.Walk n since q)) below known refl))
        (walk_finds k a (op_mirror o) (touch_page o (Touch.Walk n since q)) (mirror_dev s.plain (op_mirror o))
        (op_writes o)
        (s.places.place (touch_proc s o) (touch_page o (Touch.Walk n since q)))
        (walk_suits c s a o xs n since q p d) w))
