-- The rights with which a migration's pages were collected do not rise before it is over.
use Rattle.std.proofs.Common.{refl, ap, sym, subst, ◌∙◌, inl, inr}
use Rattle.std.proofs.lemmas.Bool.{true≢false, false≢true}
use Rattle.std.specs.Prelude.{◌≡◌, ◌⊎◌, ℕ, Bool, true, false, not, ◌&&◌, Option, Some, None, List, [], ◌∷◌}
use Rattle.hm_base.specs.Program.{Program}
use Rattle.hm_base.specs.declared.Frame.{Frame}
use Rattle.hm_base.specs.declared.Place.{Place}
use Rattle.hm_base.specs.declared.ops.Op.{Op}
use Rattle.hm_history.specs.Memory.Words.{writable, moving_frame}
use Rattle.hm_history.specs.Memory.Plain.{Plain, rights_of, is_read_write, mirror_proc, plain_next}
use Rattle.hm_history.specs.Memory.Places.{with_place}
use Rattle.hm_history.specs.Memory.Lookups.{loses}
use Rattle.hm_history.specs.Memory.After.{After}
use Rattle.hm_history.specs.Kernel.Operation.{op_mirror}
use Rattle.hm_history.specs.declared.Who.{Who}
use Rattle.hm_history.specs.declared.Kind.{Kind}
use Rattle.hm_history.specs.declared.phases.Body.{Body}
use Rattle.hm_history.specs.declared.phases.Migrating.{Migrating}
use Rattle.hm_history.specs.declared.phases.MoveStep.{MoveStep}
use Rattle.hm_history.specs.declared.phases.Phase.{Phase}
use Rattle.hm_laws.specs.Stood.{lock_on, is_moving}
use Rattle.hm_laws.specs.Past.{Past}
use Rattle.hm_laws.specs.Sound.{Sound}
use Rattle.hm_laws.specs.Allowed.{next, Allowed, ReadsThere, LeavesByItsLocker}
use Rattle.hm_laws.specs.Records.{Among}
use Rattle.hm_laws.specs.Facts.{HoldsAll, Holds, Frozen_at, facts, known_of, record_facts, migrating}
use Rattle.hm_laws.proofs.Kept.Areas.{placed_cases}
use Rattle.hm_laws.proofs.Other.Processes.{rights_other, there_other}
use Rattle.hm_laws.proofs.Migration.Records.{records_each}
use Rattle.hm_history.proofs.Pages.{no_empty_writable}
use Rattle.hm_protocol.proofs.Sitting.{moves_in}
use Rattle.hm_protocol.proofs.EachMove.{nothing_below}

-- a page that was collected for reads is not writable: by its place, or one that was fresh by its area
abbrev pub Low : After → ℕ → Option Frame → ℕ → Type 0
Low s p None v = is_read_write (rights_of s.plain p v) ≡ false
Low s p (Some f) v = writable (s.places.place p v) ≡ false

-- so it is of what was noted of a page
pub record Right (s : After) (p : ℕ) (xs : List Migrating) (u : ℕ × Bool) : Type 0 where
  pub there : s.plain.there p ≡ true
  pub low : u.1 ≡ false → (x : Migrating) → Among xs x → x.page ≡ u.0 → Low s p x.source u.0

-- ---- entries of others

clash : (a b : ℕ) (x : Option ℕ) → x ≡ Some b → x ≡ Some a → b ≡ a
clash a b x e d = cc

-- nobody else makes a page writable that is under way
moving_other : (c : Program) (s : After) (t : Past) (a b p v : ℕ) (f : Frame) → Sound c s t → (b ≡ a → ⊥) → (k : Kind)
    → Allowed c s t a k → s.locks.frame f ≡ Some b → moving_frame (s.places.place p v) ≡ Some f
    → writable (s.places.place p v) ≡ false → writable ((next s a k).places.place p v) ≡ false
moving_other c s t a b p v f so ne (Kind.Place q u x) ok l m w = by_page (placed_cases s.places.place q u x p v)
  where
    freezes : (y z : Place) (g : Frame) → moving_frame y ≡ Some g → writable y ≡ false → moving_frame z ≡ Some g
        → (is_moving y ≡ true) × ((loses y z ≡ false) × (is_moving z ≡ true))
    freezes (Place.Moving h r) (Place.Moving i w) g e n d = (refl, (ap (λ b. b && not w) n, refl))
    freezes (Place.Moving h r) Place.Empty g e n d = cc
    freezes (Place.Moving h r) Place.Zero g e n d = cc
    freezes (Place.Moving h r) (Place.Sys j w) g e n d = cc
    freezes (Place.Moving h r) (Place.Own i j w) g e n d = cc
    freezes (Place.Moving h r) (Place.Exclusive j i) g e n d = cc
    freezes Place.Empty z g e n d = cc
    freezes Place.Zero z g e n d = cc
    freezes (Place.Sys j r) z g e n d = cc
    freezes (Place.Own i j r) z g e n d = cc
    freezes (Place.Exclusive j i) z g e n d = cc

    at : moving_frame (s.places.place q u) ≡ Some f → writable (s.places.place q u) ≡ false → LeavesByItsLocker s a x f
        → writable x ≡ false
    at m w (inl d) = let y : (is_moving (s.places.place q u) ≡ true) × ((loses (s.places.place q u) x ≡ false)
        × (is_moving x ≡ true)) =
        freezes (s.places.place q u) x f m w d in
        absurd (true≢false (sym y.1.1 ∙ (ok.mirrors.lands y.0 y.1.0).1))
    at m w (inr (inl d)) = absurd (ne (clash a b (s.locks.frame f) l d))
    at m w (inr (inr d)) = no_empty_writable x d

    by_page : ((p ≡ q) × (v ≡ u) × (with_place s.places.place q u x p v ≡ x))
        ⊎ (with_place s.places.place q u x p v ≡ s.places.place p v) → writable (with_place s.places.place q u x p v) ≡
        false
    by_page (inr e) = ap writable e ∙ w
    by_page (inl e) = ap writable e.2 ∙ at (ap moving_frame same ∙ m) (ap writable same ∙ w)
        (ok.hand_over.finishes f (ap moving_frame same ∙ m))
      where
        same : s.places.place q u ≡ s.places.place p v
        same = sym (ap (λ i. s.places.place i v) e.0 ∙ ap (s.places.place q) e.1)
moving_other c s t a b p v f so ne k ok l m w = w

-- the frames of a migration's records are locked, and their pages under way
abbrev pub Frozen_pages : After → ℕ → ℕ → List Migrating → Type 0
Frozen_pages s b p xs = (x : Migrating) → Among xs x → (f : Frame) → x.source ≡ Some f
    → (s.locks.frame f ≡ Some b) × (moving_frame (s.places.place p x.page) ≡ Some f)

low_other : (c : Program) (s : After) (t : Past) (a b p v : ℕ) → Sound c s t → (b ≡ a → ⊥) → ReadsThere s b p
    → (k : Kind)
    → Allowed c s t a k → (source : Option Frame)
    → ((f : Frame) → source ≡ Some f → (s.locks.frame f ≡ Some b) × (moving_frame (s.places.place p v) ≡ Some f))
    → Low s p source v → Low (next s a k) p source v
low_other c s t a b p v so ne reads k ok None g h = ap is_read_write (rights_other c s t a b p false so ne reads.0
    reads.1 k ok v) ∙ h
low_other c s t a b p v so ne reads k ok (Some f) g h = moving_other c s t a b p v f so ne k ok (g f refl).0
    (g f refl).1 h

pub right_other : (c : Program) (s : After) (t : Past) (a b p : ℕ) (xs : List Migrating) → Sound c s t → (b ≡ a → ⊥)
    → s.locks.map b ≡ lock_on p false → (k : Kind) → Allowed c s t a k → Frozen_pages s b p xs → (u : ℕ × Bool)
    → Right s p xs u → Right (next s a k) p xs u
right_other c s t a b p xs so ne m k ok fr u h = record {
  there = there_other c s t a b p false so ne m h.there k ok;
  low = λ e x i d. low_other c s t a b p u.0 so ne (m, h.there) k ok x.source
      (λ f q. let y : (s.locks.frame f ≡ Some b) × (moving_frame (s.places.place p x.page) ≡ Some f) = fr x i f q in
      (y.0, ap (λ v. moving_frame (s.places.place p v)) (sym d) ∙ y.1)) (h.low e x i d);
}

-- ---- entries of the actor itself

-- an entry that leaves areas and processes as they are
abbrev pub is_mild : Kind → Bool
is_mild (Kind.Start p r q) = true
is_mild (Kind.Told m r q) = true
is_mild (Kind.End p r q) = true
is_mild (Kind.Take f) = true
is_mild (Kind.Kept what why) = true
is_mild (Kind.Copied f g part) = true
is_mild (Kind.Committed f g) = true
is_mild (Kind.Set m v f w from) = true
is_mild (Kind.Drop f) = true
is_mild (Kind.Done f) = true
is_mild (Kind.Place p v x) = true
is_mild k = false

pub mild_plain : (s : Plain) (k : Kind) → is_mild k ≡ true → plain_next s k ≡ s
mild_plain s (Kind.Start p r q) h = refl
mild_plain s (Kind.Told m r q) h = refl
mild_plain s (Kind.End p r q) h = refl
mild_plain s (Kind.Take f) h = refl
mild_plain s (Kind.Kept what why) h = refl
mild_plain s (Kind.Copied f g part) h = refl
mild_plain s (Kind.Committed f g) h = refl
mild_plain s (Kind.Set m v f w from) h = refl
mild_plain s (Kind.Drop f) h = refl
mild_plain s (Kind.Done f) h = refl
mild_plain s (Kind.Place p v x) h = refl
mild_plain s k h = absurd (false≢true h)

-- each record of the second list has the page and the old frame of one of the first
abbrev pub Sourced : List Migrating → List Migrating → Type 0
Sourced xs zs = (z : Migrating) → Among zs z → (x : Migrating) × Among xs x × (x.page ≡ z.page) × (x.source ≡ z.source)

-- it places a page of the migration only if that was fresh
abbrev pub Places_fresh : List Migrating → Kind → Type 0
Places_fresh xs (Kind.Place q w y) = (x : Migrating) → Among xs x → x.page ≡ w → x.source ≡ None
Places_fresh xs k = Unit {0}

place_own : (s : After) (a p v : ℕ) (xs : List Migrating) (k : Kind) → is_mild k ≡ true → Places_fresh xs k
    → (x : Migrating) (f : Frame) → Among xs x → x.page ≡ v → x.source ≡ Some f
    → (next s a k).places.place p v ≡ s.places.place p v
place_own s a p v xs (Kind.Place q w y) m fr x f i e d = by_page (placed_cases s.places.place q w y p v)
  where
    none_some : x.source ≡ None → ⊥
    none_some n = cc

    by_page : ((p ≡ q) × (v ≡ w) × (with_place s.places.place q w y p v ≡ y))
        ⊎ (with_place s.places.place q w y p v ≡ s.places.place p v) → with_place s.places.place q w y p v ≡
        s.places.place p v
    by_page (inl g) = absurd (none_some (fr x i (e ∙ g.1)))
    by_page (inr g) = g
place_own s a p v xs (Kind.Start q r z) m fr x f i e d = refl
place_own s a p v xs (Kind.Told q r z) m fr x f i e d = refl
place_own s a p v xs (Kind.End q r z) m fr x f i e d = refl
place_own s a p v xs (Kind.Take g) m fr x f i e d = refl
place_own s a p v xs (Kind.Kept what why) m fr x f i e d = refl
place_own s a p v xs (Kind.Copied g h part) m fr x f i e d = refl
place_own s a p v xs (Kind.Committed g h) m fr x f i e d = refl
place_own s a p v xs (Kind.Set n u g w from) m fr x f i e d = refl
place_own s a p v xs (Kind.Drop g) m fr x f i e d = refl
place_own s a p v xs (Kind.Done g) m fr x f i e d = refl
place_own s a p v xs k m fr x f i e d = absurd (false≢true m)

pub right_own : (s : After) (a p : ℕ) (xs zs : List Migrating) (k : Kind) → is_mild k ≡ true → Places_fresh xs k
    → Sourced xs zs → (u : ℕ × Bool) → Right s p xs u → Right (next s a k) p zs u
right_own s a p xs zs k m fr so u h = record {
  there = ap (λ (q : Plain). q.there p) (mild_plain s.plain k m) ∙ h.there;
  low = λ e z i d. let x : (x : Migrating) × Among xs x × (x.page ≡ z.page) × (x.source ≡ z.source) = so z i in
      by_source x.0 x.1 (x.2 ∙ d) z.source x.3 (h.low e x.0 x.1 (x.2 ∙ d));
}
  where
    by_source : (x : Migrating) → Among xs x → x.page ≡ u.0 → (source : Option Frame) → x.source ≡ source
        → Low s p x.source u.0
        → Low (next s a k) p source u.0
    by_source x i d None e l = ap (λ (q : Plain). is_read_write (rights_of q p u.0)) (mild_plain s.plain k m)
        ∙ subst (λ y. Low s p y u.0) e l
    by_source x i d (Some f) e l = ap writable (place_own s a p u.0 xs k m fr x f i d e) ∙ subst (λ y. Low s p y u.0) e
        l

-- ---- what an actor knows in between

-- the pages are collected, and not all are set
abbrev pub is_between : MoveStep → Bool
is_between MoveStep.FreezeOthers = false
is_between MoveStep.Finish = false
is_between step = true

abbrev pub own_between : Phase → Bool
own_between (Phase.Moves step v) = is_between step
own_between top = false

-- an actor is in such a step
abbrev pub between : List Phase → Bool
between [] = false
between (top ∷ below) = elim (moves_in below) [ Some at ↦ is_between at.0 | None ↦ own_between top ]

-- the step, and what is known of the migration
pub record Between (s : After) (t : Past) (a : ℕ) (o : Op) (xs : List Migrating) : Type 0 where
  pub step : MoveStep
  pub at : ℕ
  pub hand : Option (Frame × ℕ)
  pub is : is_between step ≡ true
  pub knows : HoldsAll s t a (migrating o xs step at hand)

single_between : (s : After) (t : Past) (a : ℕ) (o : Op) (xs : List Migrating) (top : Phase) (below : List Phase)
    → HoldsAll s t a (facts o xs (top ∷ below)) → own_between top ≡ true → Between s t a o xs
single_between s t a o xs (Phase.Moves step v) [] h e = record
    { step = step; at = v; hand = None; is = e; knows = h.1.1 }
single_between s t a o xs (Phase.Moves step v) (x ∷ below) h e = absurd h.0
single_between s t a o xs top below h e = absurd (false≢true e)

over_between : (s : After) (t : Past) (a : ℕ) (o : Op) (xs : List Migrating) (top : Phase) (step : MoveStep) (v : ℕ)
    → HoldsAll s t a (facts o xs (top ∷ Phase.Moves step v ∷ [])) → is_between step ≡ true → Between s t a o xs
over_between s t a o xs (Phase.Guard q r met told (Body.Select n)) step v h e =
    record { step = step; at = v; hand = None; is = e; knows = h.1.1.1.1.1.1.1.1 }
over_between s t a o xs (Phase.Guard q r met told (Body.Freeze f)) step v h e =
    record { step = step; at = v; hand = None; is = e; knows = h.1.1.1.1.1 }
over_between s t a o xs (Phase.Guard q r met told Body.Nothing) step v h e =
    record { step = step; at = v; hand = None; is = e; knows = h.1.1 }
over_between s t a o xs (Phase.Guard q r met told (Body.Fresh f)) step v h e =
    record { step = step; at = v; hand = None; is = e; knows = h.1.1.1.1.1.1.1.1.1.1 }
over_between s t a o xs (Phase.Guard q r met told (Body.Catch f)) step v h e = absurd h.1.1.1.1.0
over_between s t a o xs (Phase.Copy f g n) step v h e =
    record { step = step; at = v; hand = Some (g, n); is = e; knows = h.1.1.1.1.1 }
over_between s t a o xs (Phase.Lost n f) step v h e =
    record { step = step; at = v; hand = None; is = e; knows = h.1.1.1.1.1.1 }
over_between s t a o xs (Phase.Drop f) step v h e =
    record { step = step; at = v; hand = None; is = e; knows = h.1.1.1.1 }
over_between s t a o xs (Phase.Finish f None) step v h e =
    record { step = step; at = v; hand = None; is = e; knows = h.1.1.1.1.1.1 }
over_between s t a o xs (Phase.Finish f (Some g)) step v h e =
    record { step = step; at = v; hand = None; is = e; knows = h.1.1.1.1.1.1 }
over_between s t a o xs (Phase.Settle g) step v h e =
    record { step = step; at = v; hand = None; is = e; knows = h.1.1.1.1.1.1 }
over_between s t a o xs (Phase.Emptying f at) step v h e = absurd h.1.1.1.0
over_between s t a o xs (Phase.Copied f g) step v h e = absurd h.1.1.1.1.0
over_between s t a o xs (Phase.Taken touch f Place.Zero) step v h e = absurd h.0
over_between s t a o xs (Phase.Taken touch f over) step v h e = absurd h.0
over_between s t a o xs top step v h e = absurd h.0

pub between_facts : (s : After) (t : Past) (a : ℕ) (o : Op) (xs : List Migrating) (stack : List Phase)
    → HoldsAll s t a (facts o xs stack) → between stack ≡ true → Between s t a o xs
between_facts s t a o xs [] h e = absurd (false≢true e)
between_facts s t a o xs (top ∷ []) h e = single_between s t a o xs top [] h e
between_facts s t a o xs (top ∷ Phase.Moves step v ∷ []) h e = over_between s t a o xs top step v h e
between_facts s t a o xs (top ∷ Phase.Moves step v ∷ x ∷ below) h e = absurd
    (nothing_below s t a o xs top step v x below h)
between_facts s t a o xs (top ∷ x ∷ below) h e = single_between s t a o xs top (x ∷ below) h e

-- the frame of a record is frozen
known_frozen : (s : After) (t : Past) (a : ℕ) (o : Op) (v : ℕ) (f : Frame) (dest : Option Frame)
    (moved freezing commit : Bool) (hand : Option (Frame × ℕ))
    → HoldsAll s t a (known_of o v (Some f) dest moved freezing commit false hand)
    → Holds s t a (Frozen_at (Who.Mirror (op_mirror o)) v f)
known_frozen s t a o v f None moved freezing commit hand h = h.1.0
known_frozen s t a o v f (Some g) false freezing commit hand h = h.1.0
known_frozen s t a o v f (Some g) true freezing commit hand h = h.1.0

record_frozen : (s : After) (t : Past) (a : ℕ) (o : Op) (step : MoveStep) (v : ℕ) (hand : Option (Frame × ℕ)) (n : ℕ)
    (f : Frame)
    (dest : Option Frame) (moved : Bool) → is_between step ≡ true
    → HoldsAll s t a (record_facts o step v hand (record { page = n; source = Some f; dest = dest; moved = moved }))
    → Holds s t a (Frozen_at (Who.Mirror (op_mirror o)) n f)
record_frozen s t a o MoveStep.FreezeOthers v hand n f dest moved e h = absurd (false≢true e)
record_frozen s t a o MoveStep.TakeAndCopy v hand n f dest moved e h = known_frozen s t a o n f dest moved _ _ hand
    h.1.1
record_frozen s t a o MoveStep.Commit v hand n f dest moved e h = known_frozen s t a o n f dest moved _ _ hand h.1.1
record_frozen s t a o MoveStep.SetOwnTable v hand n f dest moved e h = known_frozen s t a o n f dest moved _ _ hand
    h.1.1
record_frozen s t a o MoveStep.Finish v hand n f dest moved e h = absurd (false≢true e)

pub frozen_pages : (s : After) (t : Past) (a : ℕ) (o : Op) (xs : List Migrating) → Between s t a o xs
    → Frozen_pages s a (mirror_proc s.plain (op_mirror o)) xs
frozen_pages s t a o xs b x i f e = by_source x.source e (records_each s t a o b.step b.at b.hand xs b.knows.1.1.1 x i)
  where
    by_source : (source : Option Frame) → source ≡ Some f
        → HoldsAll s t a (record_facts o b.step b.at b.hand
        (record { page = x.page; source = source; dest = x.dest; moved = x.moved }))
        → (s.locks.frame f ≡ Some a) × (moving_frame (s.places.place (mirror_proc s.plain (op_mirror o)) x.page) ≡ Some
        f)
    by_source None e h = absurd (none_some e)
      where
        none_some : None ≡ Some f → ⊥
        none_some n = cc
    by_source (Some g) e h = let y : Holds s t a (Frozen_at (Who.Mirror (op_mirror o)) x.page g) =
        record_frozen s t a o b.step b.at b.hand x.page g x.dest x.moved b.is h in
        (ap s.locks.frame (sym same) ∙ y.2, y.3 ∙ ap Some same)
      where
        same : g ≡ f
        same = cc
