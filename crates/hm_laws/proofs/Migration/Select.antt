-- The first guard of a migration, in which it goes through its pages: each is frozen, noted as fresh, or left where it
-- is.
use Rattle.std.proofs.Common.{◌≡◌, ℕ, ◌+◌, ◌<◌, ◌≤◌, ◌⊎◌, inl, inr, Bool, true, false, ◌&&◌, ◌||◌, ◌==◌, not, nat_lt, nat_le, if◌then◌else◌, is_some, is_none, Option, Some, None, List, [], ◌∷◌, ◌++◌, refl, sym, ap, ◌∙◌, subst, arith, unwrap_or}
use Rattle.std.specs.List.{list_any}
use Rattle.std.proofs.lemmas.Bool.Decides.{nat_tests}
use Rattle.std.proofs.lemmas.Bool.{and_parts, and_from, or_right}
use Rattle.std.proofs.lemmas.Option.{same_Some}
use Rattle.hm_base.specs.Pages.{Pages, covers}
use Rattle.hm_base.specs.Program.{Program}
use Rattle.hm_base.specs.declared.Frame.{Frame}
use Rattle.hm_base.specs.declared.Place.{Place}
use Rattle.hm_base.specs.declared.ops.Op.{Op}
use Rattle.hm_base.specs.declared.ops.Rights.{Rights}
use Rattle.hm_history.specs.Memory.Words.{sys_frame, dev_frame, same_frame, is_frame, names, names_directly, moving_frame, writable, is_empty_place}
use Rattle.hm_history.specs.Memory.Plain.{Plain, MirrorState, rights_of, mirror_proc, mirror_dev}
use Rattle.hm_history.specs.Memory.Locks.{is_locker, other_locker}
use Rattle.hm_history.specs.Memory.Sequences.{seq_ended, all_told}
use Rattle.hm_history.specs.Memory.After.{After}
use Rattle.hm_history.specs.Kernel.Operation.{op_mirror, is_to_device, is_migration}
use Rattle.hm_history.specs.Kernel.Legal.{stays_put, is_own_of, is_not_here, is_locked_by, kept_for}
use Rattle.hm_history.specs.Kernel.Due.{due_guard, body_or_end, select_page, select_to_device, select_to_system, kept_or_frozen, not_here}
use Rattle.hm_history.specs.declared.KeptAt.{KeptAt}
use Rattle.hm_history.specs.declared.KeptWhy.{KeptWhy}
use Rattle.hm_history.specs.declared.Kind.{Kind}
use Rattle.hm_history.specs.declared.Who.{Who}
use Rattle.hm_history.specs.declared.phases.Migrating.{Migrating}
use Rattle.hm_history.specs.declared.phases.MoveStep.{MoveStep}
use Rattle.hm_history.specs.declared.phases.MoveStep.TheVariants.{FreezeOthers}
use Rattle.hm_history.specs.declared.phases.Body.{Body}
use Rattle.hm_history.specs.declared.phases.Phase.{Phase}
use Rattle.hm_history.specs.declared.phases.Next.TheVariants.{Do}
use Rattle.hm_laws.specs.Stood.{lock_on}
use Rattle.hm_laws.specs.Past.{Past, past_next}
use Rattle.hm_laws.specs.Sound.{Sound}
use Rattle.hm_laws.specs.Allowed.{next, Allowed}
use Rattle.hm_laws.specs.Records.{is_past, op_range, Among, pages_below, is_of, WellListed, staged}
use Rattle.hm_laws.specs.Spares.{Apart}
use Rattle.hm_laws.specs.Facts.{Within, Frozen, Sourced, Frozen_at, May_read, Windowed, Locks_only, Windowed_all, Guarding, HasProc, Holds, frames_of, known_of, record_facts, held, facts, HoldsAll}
use Rattle.hm_laws.proofs.Kept.Frames.{moving_names, direct_names}
use Rattle.hm_laws.proofs.Due.LeftFrames.{orphan_at, unlocked_stands}
use Rattle.hm_laws.proofs.Own.Facts.{Keeping}
use Rattle.hm_laws.proofs.Own.Records.{ApartAll, record_on}
use Rattle.hm_laws.proofs.Due.Good.{Good, either}
use Rattle.hm_laws.proofs.Due.Decide.{there_of}
use Rattle.hm_laws.proofs.Due.Guards.{number_is, is_covered, end_takes, guard_ok}
use Rattle.hm_laws.proofs.Due.Spans.{in_span, this_page, goes_on}
use Rattle.hm_laws.proofs.Due.Frames.{other_lock_is, other_is, mine_is}
use Rattle.hm_laws.proofs.Due.Freezes.{Froze, froze}
use Rattle.hm_laws.proofs.Migration.Records.{records_each, records_all, held_some, held_of, frames_are, among_on, on_among, below_page, below_more, below_on, listed_on, step_says}
use Rattle.hm_history.proofs.Updates.{here_at}
use Rattle.hm_history.proofs.Tests.{true_false}
use Rattle.hm_history.proofs.Frames.{frame_tells, is_frame_from}

-- the record that is made of a page
abbrev pub found_page : ℕ → Option Frame → Migrating
found_page n x = record { page = n; source = x; dest = None; moved = false }

-- the steps that are past for a page of the guard: none
not_past : (v n : ℕ) → nat_le v n ≡ true → is_past FreezeOthers v FreezeOthers n ≡ false
not_past v n h = grind (arith, nat_tests)

later_page : (v n m : ℕ) → nat_le v n ≡ true → n ≤ m → nat_le v m ≡ true
later_page v n m h l = grind (arith, nat_tests)

spanned : (r : Pages) (v n : ℕ) → (v == r.first) ≡ true → nat_le v n ≡ true → nat_le r.first n ≡ true
spanned r v n e h = grind (arith, nat_tests)

less_one : (n : ℕ) → n ≤ n + 1
less_one n = omega arith

no_less : (m n : ℕ) → m ≡ n → m < n → ⊥
no_less m n e l = omega (arith, e, l)

-- the process whose pages the operation moves
abbrev op_process : After → Op → ℕ
op_process s o = mirror_proc s.plain (op_mirror o)

-- what an actor knows that goes through the pages of its migration, and has come to page n
record Selecting (s : After) (t : Past) (a : ℕ) (o : Op) (xs : List Migrating) (r : Pages) (v n : ℕ) : Type 0 where
  moves : is_migration o ≡ true
  has : HasProc s.plain (Who.Mirror (op_mirror o))
  whole : r ≡ op_range o
  starts : (v == r.first) ≡ true
  from : nat_le v n ≡ true
  below : pages_below n xs ≡ true
  window : Holds s t a (Windowed_all (op_mirror o) r)
  only : Holds s t a (Locks_only (held o xs FreezeOthers v None))
  listed : WellListed xs
  reads : s.locks.map a ≡ lock_on (op_process s o) false
  each : (y : Migrating) → Among xs y → HoldsAll s t a (record_facts o FreezeOthers v None y)

-- the stack in which it does so
abbrev selecting : After → Op → Pages → Bool → Option ℕ → ℕ → ℕ → List Phase
selecting s o r met told v n = Phase.Guard (op_process s o) r met told (Body.Select n) ∷ Phase.Moves FreezeOthers v ∷ []

to_selecting : (s : After) (t : Past) (a : ℕ) (o : Op) (xs : List Migrating) (r : Pages) (met : Bool) (told : Option ℕ) (v n : ℕ) → HoldsAll s t a (facts o xs (selecting s o r met told v n)) → Selecting s t a o xs r v n
to_selecting s t a o xs r met told v n h = record {
  moves = h.1.1.1.1.1.1.1.1.0;
  has = h.1.1.0.0;
  whole = h.1.1.0.2;
  starts = h.1.1.1.1.0;
  from = h.1.1.1.1.1.0;
  below = h.1.1.1.1.1.1.0;
  window = h.1.1.1.1.1.1.1.0;
  only = h.1.0;
  listed = h.1.1.1.1.1.1.1.1.1.0;
  reads = h.1.1.1.1.1.1.1.1.1.1.0.1;
  each = records_each s t a o FreezeOthers v None xs h.1.1.1.1.1.1.1.1.1.1.1;
}

of_selecting : (s : After) (t : Past) (a : ℕ) (o : Op) (xs : List Migrating) (r : Pages) (met : Bool) (told : Option ℕ) (v n : ℕ) → Selecting s t a o xs r v n → Guarding s.sequences.guard a (op_process s o) r met told → HoldsAll s t a (facts o xs (selecting s o r met told v n))
of_selecting s t a o xs r met told v n w g = (g, (w.only, ((w.has, refl, w.whole), (refl, (w.starts, (w.from, (w.below, (w.window, (w.moves, (w.listed, ((w.has, w.reads), records_all s t a o FreezeOthers v None xs w.each)))))))))))

-- what stands below the guard
under_guard : (s : After) (t : Past) (a : ℕ) (o : Op) (xs : List Migrating) (r : Pages) (v n : ℕ) → Selecting s t a o xs r v n → s.sequences.guard a ≡ None → HoldsAll s t a (facts o xs (Phase.Moves FreezeOthers v ∷ []))
under_guard s t a o xs r v n w g = (g, (w.only, (w.moves, (w.listed, ((w.has, w.reads), records_all s t a o FreezeOthers v None xs w.each)))))

-- a record so far: it has no frame but its source, which its page is frozen to
no_dest : (o : Op) (source dest : Option Frame) (moved : Bool) (n : ℕ) → staged o false false (record { page = n; source = source; dest = dest; moved = moved }) ≡ true → dest ≡ None
no_dest o source None moved n h = refl
no_dest o source (Some f) moved n h = absurd (true_false false (and_parts (is_some source || is_to_device o) false h).1 refl)

known_says : (s : After) (t : Past) (a : ℕ) (o : Op) (u : ℕ) (x y : Option Frame) (moved past_freezing : Bool) (g : Frame) → y ≡ None → (is_frame x g || is_frame y g) ≡ true → HoldsAll s t a (known_of o u x y moved past_freezing false false None) → Holds s t a (Frozen_at (Who.Mirror (op_mirror o)) u g)
known_says s t a o u x (Some i) moved past_freezing g e k h = cc
known_says s t a o u None None moved past_freezing g e k h = cc
known_says s t a o u (Some f) None moved past_freezing g e k h = subst (λ i. Holds s t a (Frozen_at (Who.Mirror (op_mirror o)) u i)) (is f g k) h.1.0
  where
    is : (f g : Frame) → (same_frame f g || false) ≡ true → f ≡ g
    is f g k = grind (arith, frame_tells f g)

record_says : (s : After) (t : Past) (a : ℕ) (o : Op) (v : ℕ) (y : Migrating) (g : Frame) → HoldsAll s t a (record_facts o FreezeOthers v None y) → is_of y g ≡ true → names (s.places.place (op_process s o) y.page) ≡ Some g
record_says s t a o v y g h k = (moving_names (s.places.place (op_process s o) y.page) g (known_says s t a o y.page y.source y.dest y.moved (is_past FreezeOthers v FreezeOthers y.page) g (no_dest o y.source y.dest y.moved y.page h.0) k h.1.1).3).0

-- the page that it has come to is of none of its records
not_ours : (c : Program) (s : After) (t : Past) (a : ℕ) (o : Op) (xs : List Migrating) (r : Pages) (v n : ℕ) → Sound c s t → Selecting s t a o xs r v n → (f : Frame) → names (s.places.place (op_process s o) n) ≡ Some f → (y : Migrating) → Among xs y → is_of y f ≡ true → ⊥
not_ours c s t a o xs r v n so w f named y i k = no_less y.page n (so.frames.one_page (op_process s o) n (op_process s o) y.page f named (record_says s t a o v y f (w.each y i) k)) (below_page n xs y w.below i)

-- so its frame, where nobody else has that locked, is free
is_free : (c : Program) (s : After) (t : Past) (a : ℕ) (o : Op) (xs : List Migrating) (r : Pages) (v n : ℕ) → Sound c s t → Selecting s t a o xs r v n → (f : Frame) → names (s.places.place (op_process s o) n) ≡ Some f → other_locker s.locks f a ≡ None → s.locks.frame f ≡ None
is_free c s t a o xs r v n so w f named e = by (s.locks.frame f) refl
  where
    held_by_record : (y : Migrating) × Among xs y × (list_any (same_frame f) (frames_of (record_facts o FreezeOthers v None y)) ≡ true) → ⊥
    held_by_record z = not_ours c s t a o xs r v n so w f named z.0 z.1 (frames_are o FreezeOthers v None z.0 f z.2)

    by : (x : Option ℕ) → s.locks.frame f ≡ x → x ≡ None
    by None i = refl
    by (Some b) i = absurd (held_by_record (held_some o FreezeOthers v None xs f (w.only f (mine_is (s.locks.frame f) a b (other_lock_is s f a ∙ e) i))))

-- facts of the record that is made of the page
fresh_facts : (s : After) (t : Past) (a : ℕ) (o : Op) (v n : ℕ) → is_to_device o ≡ true → Holds s t a (Windowed (op_mirror o) n) → Holds s t a (May_read (Who.Mirror (op_mirror o)) n) → HoldsAll s t a (record_facts o FreezeOthers v None (found_page n None))
fresh_facts s t a o v n d w h = (and_from (is_to_device o) true d refl, (w, (h, tt)))

frozen_facts : (s : After) (t : Past) (a : ℕ) (o : Op) (v n : ℕ) (f : Frame) → nat_le v n ≡ true → Holds s t a (Windowed (op_mirror o) n) → Holds s t a (Sourced f) → Holds s t a (Frozen_at (Who.Mirror (op_mirror o)) n f) → HoldsAll s t a (record_facts o FreezeOthers v None (found_page n (Some f)))
frozen_facts s t a o v n f l w h k = (refl, (w, subst (λ b. HoldsAll s t a ((if b then Frozen f else Sourced f) ∷ Frozen_at (Who.Mirror (op_mirror o)) n f ∷ [])) (sym (not_past v n l)) (h, (k, tt))))

frozen_frame : (o : Op) (v n : ℕ) (f : Frame) → nat_le v n ≡ true → list_any (same_frame f) (frames_of (record_facts o FreezeOthers v None (found_page n (Some f)))) ≡ true
frozen_frame o v n f l = subst (λ b. list_any (same_frame f) (frames_of ((if b then Frozen f else Sourced f) ∷ Frozen_at (Who.Mirror (op_mirror o)) n f ∷ [])) ≡ true) (sym (not_past v n l)) (first f)
  where
    first : (f : Frame) → (same_frame f f || false) ≡ true
    first f = grind (arith, frame_tells f f)

-- the frames of the records are those of the records with one more
still_held : (o : Op) (v : ℕ) (xs : List Migrating) (x : Migrating) (f : Frame) → list_any (same_frame f) (held o xs FreezeOthers v None) ≡ true → list_any (same_frame f) (held o (xs ++ x ∷ []) FreezeOthers v None) ≡ true
still_held o v xs x f h = at (held_some o FreezeOthers v None xs f h)
  where
    at : (y : Migrating) × Among xs y × (list_any (same_frame f) (frames_of (record_facts o FreezeOthers v None y)) ≡ true) → list_any (same_frame f) (held o (xs ++ x ∷ []) FreezeOthers v None) ≡ true
    at z = held_of o FreezeOthers v None (xs ++ x ∷ []) f z.0 (on_among xs x z.0 (inl z.1)) z.2

last_held : (o : Op) (v n : ℕ) (xs : List Migrating) (f : Frame) → nat_le v n ≡ true → list_any (same_frame f) (held o (xs ++ found_page n (Some f) ∷ []) FreezeOthers v None) ≡ true
last_held o v n xs f l = held_of o FreezeOthers v None (xs ++ found_page n (Some f) ∷ []) f (found_page n (Some f)) (on_among xs (found_page n (Some f)) (found_page n (Some f)) (inr refl)) (frozen_frame o v n f l)

-- the records after an entry about none of their frames, and one more
each_on : (c : Program) (s : After) (t : Past) (a : ℕ) (k : Kind) → Sound c s t → Allowed c s t a k → Keeping s a k → (o : Op) (xs : List Migrating) (r : Pages) (v n : ℕ) → Selecting s t a o xs r v n → ((y : Migrating) → Among xs y → ApartAll s k (frames_of (record_facts o FreezeOthers v None y))) → (y : Migrating) → Among xs y → HoldsAll (next s a k) (past_next t s.length a k) a (record_facts o FreezeOthers v None y)
each_on c s t a k so ok keep o xs r v n w apart y i = record_on c s t a k so ok keep o FreezeOthers v None y (apart y i) (w.each y i)

each_more : (s : After) (t : Past) (a : ℕ) (o : Op) (v : ℕ) (xs : List Migrating) (x : Migrating) → ((y : Migrating) → Among xs y → HoldsAll s t a (record_facts o FreezeOthers v None y)) → HoldsAll s t a (record_facts o FreezeOthers v None x) → (y : Migrating) → Among (xs ++ x ∷ []) y → HoldsAll s t a (record_facts o FreezeOthers v None y)
each_more s t a o v xs x h g y i = by (among_on xs x y i)
  where
    by : Among xs y ⊎ (y ≡ x) → HoldsAll s t a (record_facts o FreezeOthers v None y)
    by (inl j) = h y j
    by (inr e) = subst (λ z. HoldsAll s t a (record_facts o FreezeOthers v None z)) (sym e) g

-- what it knows after an entry that leaves the processes and its mmap lock
moves_on : (s : After) (t : Past) (a : ℕ) (o : Op) (xs ys : List Migrating) (r : Pages) (v n m : ℕ) (k : Kind) → Selecting s t a o xs r v n → (next s a k).plain ≡ s.plain → (next s a k).locks.map a ≡ s.locks.map a → n ≤ m → pages_below m ys ≡ true → Holds (next s a k) (past_next t s.length a k) a (Locks_only (held o ys FreezeOthers v None)) → WellListed ys →
    ((y : Migrating) → Among ys y → HoldsAll (next s a k) (past_next t s.length a k) a (record_facts o FreezeOthers v None y)) → Selecting (next s a k) (past_next t s.length a k) a o ys r v m
moves_on s t a o xs ys r v n m k w plain map later below only listed each = record {
  moves = w.moves;
  has = subst (λ (p : Plain). HasProc p (Who.Mirror (op_mirror o))) (sym plain) w.has;
  whole = w.whole;
  starts = w.starts;
  from = later_page v n m w.from later;
  below = below;
  window = λ u cv. subst (λ (p : Plain). Within p (op_mirror o) u) (sym plain) (w.window u cv);
  only = only;
  listed = listed;
  reads = map ∙ w.reads ∙ ap (λ (p : Plain). lock_on (mirror_proc p (op_mirror o)) false) (sym plain);
  each = each;
}

-- an entry that is about no frame
abbrev no_frames : Kind → Type 0
no_frames k = (s : After) (f : Frame) → Apart s k f

keeping : (s : After) (a : ℕ) (k : Kind) → (next s a k).plain ≡ s.plain → (next s a k).locks.map a ≡ s.locks.map a → Keeping s a k
keeping s a k plain map = record { map = map; there = λ p. ap (λ (x : Plain). x.there p) plain; areas = λ p. ap (λ (x : Plain). x.areas p) plain }

on_same : (c : Program) (s : After) (t : Past) (a : ℕ) (o : Op) (xs : List Migrating) (r : Pages) (v n m : ℕ) (k : Kind) → Sound c s t → Allowed c s t a k → no_frames k → Selecting s t a o xs r v n → (next s a k).plain ≡ s.plain → (next s a k).locks.map a ≡ s.locks.map a → ((f : Frame) → (next s a k).locks.frame f ≡ s.locks.frame f) → n ≤ m →
    Selecting (next s a k) (past_next t s.length a k) a o xs r v m
on_same c s t a o xs r v n m k so ok none w plain map frames later = moves_on s t a o xs xs r v n m k w plain map later (below_more n m xs later w.below) (λ f e. w.only f (sym (frames f) ∙ e)) w.listed (each_on c s t a k so ok (keeping s a k plain map) o xs r v n w (λ y i f e. none s f))

-- with the page's record
on_more : (c : Program) (s : After) (t : Past) (a : ℕ) (o : Op) (xs : List Migrating) (r : Pages) (v n : ℕ) (k : Kind) (x : Option Frame) → Sound c s t → Allowed c s t a k → ((y : Migrating) → Among xs y → ApartAll s k (frames_of (record_facts o FreezeOthers v None y))) → ((f : Frame) (y : Migrating) → x ≡ Some f → Among xs y → is_of y f ≡ true → ⊥) → Selecting s t a o xs r v n → (next s a k).plain ≡ s.plain → (next s a k).locks.map a ≡ s.locks.map a →
    Holds (next s a k) (past_next t s.length a k) a (Locks_only (held o (xs ++ found_page n x ∷ []) FreezeOthers v None)) → HoldsAll (next s a k) (past_next t s.length a k) a (record_facts o FreezeOthers v None (found_page n x)) → Selecting (next s a k) (past_next t s.length a k) a o (xs ++ found_page n x ∷ []) r v (n + 1)
on_more c s t a o xs r v n k x so ok apart off w plain map only says = moves_on s t a o xs (xs ++ found_page n x ∷ []) r v n (n + 1) k w plain map (less_one n) (below_on n xs (found_page n x) refl w.below) only
    (listed_on xs (found_page n x) w.listed w.below (λ f y i j l. off f y (of_source x f i) j l) (λ f e i. cc))
    (each_more (next s a k) (past_next t s.length a k) a o v xs (found_page n x) (each_on c s t a k so ok (keeping s a k plain map) o xs r v n w apart) says)
  where
    of_source : (x : Option Frame) (f : Frame) → (is_frame x f || false) ≡ true → x ≡ Some f
    of_source None f h = cc
    of_source (Some g) f h = is_frame_from (Some g) f (alone (same_frame g f) h)
      where
        alone : (b : Bool) → (b || false) ≡ true → b ≡ true
        alone true h = refl
        alone false h = h

-- the entry of a page is allowed, and the actor then comes to the next
abbrev Selects : Program → After → Past → ℕ → Op → List Migrating → Pages → Bool → Option ℕ → ℕ → ℕ → Kind → Type 0
Selects c s t a o xs r met told v n k = Good c s t a o xs (Phase.Guard (op_process s o) r met told (Body.Select n)) (Phase.Moves FreezeOthers v ∷ []) (Do k)

-- it stays where it is
kept_ok : (c : Program) (s : After) (t : Past) (a : ℕ) (o : Op) (xs : List Migrating) (r : Pages) (met : Bool) (told : Option ℕ) (v n : ℕ) → Sound c s t → Selecting s t a o xs r v n → Guarding s.sequences.guard a (op_process s o) r met told →
    (why : KeptWhy) → kept_for c s a o xs (op_process s o) (KeptAt.Page n) why ≡ true → Selects c s t a o xs r met told v n (Kind.Kept (KeptAt.Page n) why)
kept_ok c s t a o xs r met told v n so w g why fair = (tt, fair, of_selecting (next s a k) t a o xs r met told v (n + 1) (on_same c s t a o xs r v n (n + 1) k so tt (λ s f. tt) w refl refl (λ f. refl) (less_one n)) g)
  where
    k : Kind
    k = Kind.Kept (KeptAt.Page n) why

-- it was never written, and is noted as fresh
fresh_ok : (c : Program) (s : After) (t : Past) (a : ℕ) (o : Op) (xs : List Migrating) (r : Pages) (met : Bool) (told : Option ℕ) (v n : ℕ) → Sound c s t → Selecting s t a o xs r v n → Guarding s.sequences.guard a (op_process s o) r met told → covers r n ≡ true →
    is_to_device o ≡ true → is_some (rights_of s.plain (op_process s o) n) ≡ true → Selects c s t a o xs r met told v n (Kind.Fresh (op_process s o) n)
fresh_ok c s t a o xs r met told v n so w g cv d h = (tt, tt, of_selecting (next s a k) t a o (xs ++ found_page n None ∷ []) r met told v (n + 1) (on_more c s t a o xs r v n k None so tt (λ y i f e. tt) (λ f y i. cc) w refl refl only (fresh_facts (next s a k) t a o v n d (w.window n cv) may_read)) g)
  where
    k : Kind
    k = Kind.Fresh (op_process s o) n

    may_read : Holds s t a (May_read (Who.Mirror (op_mirror o)) n)
    may_read = (w.has, (w.reads, there_of c s t (op_process s o) n so h), h)

    only : Holds s t a (Locks_only (held o (xs ++ found_page n None ∷ []) FreezeOthers v None))
    only f e = still_held o v xs (found_page n None) f (w.only f e)

-- it names a frame that nobody else has locked: it is frozen
selected_ok : (c : Program) (s : After) (t : Past) (a : ℕ) (o : Op) (xs : List Migrating) (r : Pages) (met : Bool) (told : Option ℕ) (v n : ℕ) → Sound c s t → Selecting s t a o xs r v n → (g : Guarding s.sequences.guard a (op_process s o) r met told) → all_told g.given ≡ true → covers r n ≡ true →
    (f : Frame) → names_directly (s.places.place (op_process s o) n) ≡ Some f → s.plain.there (op_process s o) ≡ true → s.locks.frame f ≡ None → Selects c s t a o xs r met told v n (Kind.Place (op_process s o) n (Place.Moving f (writable (s.places.place (op_process s o) n))))
selected_ok c s t a o xs r met told v n so w g al cv f direct th free = (z.ok, refl, goes_on s t a o (xs ++ x ∷ []) k (op_process s o) n y (selecting (next s a k) o r met told v (n + 1)) z.stays (of_selecting (next s a k) t a o (xs ++ x ∷ []) r met told v (n + 1) more g) (orphan_at s (op_process s o) n y) refl)
  where
    y : Place
    y = Place.Moving f (writable (s.places.place (op_process s o) n))

    k : Kind
    k = Kind.Place (op_process s o) n (Place.Moving f (writable (s.places.place (op_process s o) n)))

    x : Migrating
    x = found_page n (Some f)

    named : names (s.places.place (op_process s o) n) ≡ Some f
    named = (direct_names (s.places.place (op_process s o) n) f direct).0

    only : (i : Frame) → s.locks.frame i ≡ Some a → list_any (same_frame i) (held o (xs ++ found_page n (Some f) ∷ []) FreezeOthers v None) ≡ true
    only i e = still_held o v xs (found_page n (Some f)) i (w.only i e)

    z : Froze c s t a (op_process s o) n f (held o (xs ++ found_page n (Some f) ∷ []) FreezeOthers v None)
    z = froze c s t a (op_process s o) n f (held o (xs ++ found_page n (Some f) ∷ []) FreezeOthers v None) so direct (inl free) (is_covered s a (op_process s o) n r met told g al cv)
        (λ i u e. unlocked_stands c s t so f free (s.places.place i u) (so.frames.stands_locked i u f) e) only (last_held o v n xs f w.from)

    apart : (u : Migrating) → Among xs u → ApartAll s (Kind.Place (op_process s o) n (Place.Moving f (writable (s.places.place (op_process s o) n)))) (frames_of (record_facts o FreezeOthers v None u))
    apart u i j e = (λ m. other (same_Some f j (sym named ∙ m)), λ m. other (same_Some f j m), λ m. other (same_Some f j (sym (ap (λ (l : Option Frame). Some (unwrap_or l f)) (so.frames.direct_fresh (op_process s o) n f direct)) ∙ m)))
      where
        other : f ≡ j → ⊥
        other m = not_ours c s t a o xs r v n so w f named u i (subst (λ l. is_of u l ≡ true) (sym m) (frames_are o FreezeOthers v None u j e))

    says : HoldsAll (next s a (Kind.Place (op_process s o) n (Place.Moving f (writable (s.places.place (op_process s o) n))))) t a (record_facts o FreezeOthers v None (found_page n (Some f)))
    says = frozen_facts (next s a k) t a o v n f w.from (w.window n cv) z.source (w.has, (w.reads, th), z.source.mine, ap moving_frame (this_page s.places.place (op_process s o) n y))

    more : Selecting (next s a (Kind.Place (op_process s o) n (Place.Moving f (writable (s.places.place (op_process s o) n))))) t a o (xs ++ found_page n (Some f) ∷ []) r v (n + 1)
    more = on_more c s t a o xs r v n k (Some f) so z.ok apart (λ i u e m l. not_ours c s t a o xs r v n so w i (named ∙ e) u m l) w refl refl z.locks says

-- unless somebody else has it locked
kept_or_frozen_ok : (c : Program) (s : After) (t : Past) (a : ℕ) (o : Op) (xs : List Migrating) (r : Pages) (met : Bool) (told : Option ℕ) (v n : ℕ) → Sound c s t → Selecting s t a o xs r v n → (g : Guarding s.sequences.guard a (op_process s o) r met told) → all_told g.given ≡ true → covers r n ≡ true →
    (f : Frame) (b : Bool) → names_directly (s.places.place (op_process s o) n) ≡ Some f → writable (s.places.place (op_process s o) n) ≡ b → s.plain.there (op_process s o) ≡ true → Selects c s t a o xs r met told v n (kept_or_frozen s a (op_process s o) n f b)
kept_or_frozen_ok c s t a o xs r met told v n so w g al cv f b direct right th = by (other_locker s.locks f a) refl
  where
    named : names (s.places.place (op_process s o) n) ≡ Some f
    named = (direct_names (s.places.place (op_process s o) n) f direct).0

    locked : (d : ℕ) → other_locker s.locks f a ≡ Some d → (not (a == d) && is_locked_by s (names (s.places.place (op_process s o) n)) d) ≡ true
    locked d e = and_from (not (a == d)) (is_locked_by s (names (s.places.place (op_process s o) n)) d) (ap not is.1) (ap (λ i. is_locked_by s i d) named ∙ ap (λ i. is_locker i d) is.0 ∙ number_is d d refl)
      where
        is : (s.locks.frame f ≡ Some d) × ((a == d) ≡ false)
        is = other_is (s.locks.frame f) a d (other_lock_is s f a ∙ e)

    by : (x : Option ℕ) → other_locker s.locks f a ≡ x → Selects c s t a o xs r met told v n (elim x [ Some d ↦ Kind.Kept (KeptAt.Page n) (KeptWhy.LockedBy d) | None ↦ Kind.Place (op_process s o) n (Place.Moving f b) ])
    by None e = subst (λ i. Selects c s t a o xs r met told v n (Kind.Place (op_process s o) n (Place.Moving f i))) right (selected_ok c s t a o xs r met told v n so w g al cv f direct th (is_free c s t a o xs r v n so w f named e))
    by (Some d) e = kept_ok c s t a o xs r met told v n so w g (KeptWhy.LockedBy d) (locked d e)

-- a mirror's process, where a page has a place, is there
there_placed : (c : Program) (s : After) (t : Past) (m v : ℕ) → Sound c s t → is_some (s.plain.mirrors m) ≡ true → is_empty_place (s.places.place (mirror_proc s.plain m) v) ≡ false → s.plain.there (mirror_proc s.plain m) ≡ true
there_placed c s t m v so h e = by (s.plain.there (mirror_proc s.plain m)) refl
  where
    been : (x : Option MirrorState) → s.plain.mirrors m ≡ x → is_some x ≡ true → s.plain.been (elim x [ None ↦ 0 | Some y ↦ y.proc ]) ≡ true
    been None i k = cc
    been (Some y) i k = so.arrivals.of_been m y i

    by : (b : Bool) → s.plain.there (mirror_proc s.plain m) ≡ b → b ≡ true
    by true i = refl
    by false i = absurd (true_false (is_empty_place (s.places.place (mirror_proc s.plain m) v)) (so.areas.absent (mirror_proc s.plain m) v i (been (s.plain.mirrors m) refl h)) e)

-- a page that is left is not where the migration moves pages from
left_to_device : (s : After) (o : Op) (p v : ℕ) → is_to_device o ≡ true → (is_none (rights_of s.plain p v) || stays_put (s.places.place p v)) ≡ true → is_not_here s o p v ≡ true
left_to_device s (Op.ToDevice m r) p v d h = h
left_to_device s o p v d h = cc

left_to_system : (s : After) (o : Op) (p v : ℕ) → is_migration o ≡ true → is_to_device o ≡ false → is_own_of (s.places.place p v) (mirror_dev s.plain (op_mirror o)) ≡ false → is_not_here s o p v ≡ true
left_to_system s (Op.ToSystem m r) p v i d h = ap not h
left_to_system s (Op.ToDevice m r) p v i d h = cc
left_to_system s o p v i d h = cc

-- pages that go to the device
to_device_ok : (c : Program) (s : After) (t : Past) (a : ℕ) (o : Op) (xs : List Migrating) (r : Pages) (met : Bool) (told : Option ℕ) (v n : ℕ) → Sound c s t → Selecting s t a o xs r v n → (g : Guarding s.sequences.guard a (op_process s o) r met told) → all_told g.given ≡ true → covers r n ≡ true →
    is_to_device o ≡ true → Selects c s t a o xs r met told v n (elim (rights_of s.plain (op_process s o) n) [ None ↦ not_here n | Some w ↦ select_to_device s a (op_process s o) n (s.places.place (op_process s o) n) ])
to_device_ok c s t a o xs r met told v n so w g al cv d = by (rights_of s.plain (op_process s o) n) refl
  where
    left : (is_none (rights_of s.plain (op_process s o) n) || stays_put (s.places.place (op_process s o) n)) ≡ true → Selects c s t a o xs r met told v n (not_here n)
    left h = kept_ok c s t a o xs r met told v n so w g KeptWhy.NotHere (left_to_device s o (op_process s o) n d h)

    put : stays_put (s.places.place (op_process s o) n) ≡ true → Selects c s t a o xs r met told v n (not_here n)
    put h = left (or_right (is_none (rights_of s.plain (op_process s o) n)) (stays_put (s.places.place (op_process s o) n)) h)

    at : is_some (rights_of s.plain (op_process s o) n) ≡ true → (x : Place) → s.places.place (op_process s o) n ≡ x → Selects c s t a o xs r met told v n (select_to_device s a (op_process s o) n x)
    at h Place.Empty e = fresh_ok c s t a o xs r met told v n so w g cv d h
    at h Place.Zero e = fresh_ok c s t a o xs r met told v n so w g cv d h
    at h (Place.Sys i b) e = kept_or_frozen_ok c s t a o xs r met told v n so w g al cv (sys_frame i) b (ap names_directly e) (ap writable e) (there_of c s t (op_process s o) n so h)
    at h (Place.Own k i b) e = put (ap stays_put e)
    at h (Place.Moving f b) e = put (ap stays_put e)
    at h (Place.Exclusive i b) e = put (ap stays_put e)

    by : (x : Option Rights) → rights_of s.plain (op_process s o) n ≡ x → Selects c s t a o xs r met told v n (elim x [ None ↦ not_here n | Some w ↦ select_to_device s a (op_process s o) n (s.places.place (op_process s o) n) ])
    by None e = left (ap (λ y. is_none y || stays_put (s.places.place (op_process s o) n)) e)
    by (Some i) e = at (ap is_some e) (s.places.place (op_process s o) n) refl

-- pages that come back from the device
to_system_ok : (c : Program) (s : After) (t : Past) (a : ℕ) (o : Op) (xs : List Migrating) (r : Pages) (met : Bool) (told : Option ℕ) (v n : ℕ) → Sound c s t → Selecting s t a o xs r v n → (g : Guarding s.sequences.guard a (op_process s o) r met told) → all_told g.given ≡ true → covers r n ≡ true →
    is_to_device o ≡ false → Selects c s t a o xs r met told v n (select_to_system s a (mirror_dev s.plain (op_mirror o)) (op_process s o) n (s.places.place (op_process s o) n))
to_system_ok c s t a o xs r met told v n so w g al cv d = by (s.places.place (op_process s o) n) refl
  where
    left : is_own_of (s.places.place (op_process s o) n) (mirror_dev s.plain (op_mirror o)) ≡ false → Selects c s t a o xs r met told v n (not_here n)
    left h = kept_ok c s t a o xs r met told v n so w g KeptWhy.NotHere (left_to_system s o (op_process s o) n w.moves d h)

    by : (x : Place) → s.places.place (op_process s o) n ≡ x → Selects c s t a o xs r met told v n (select_to_system s a (mirror_dev s.plain (op_mirror o)) (op_process s o) n x)
    by (Place.Own e i b) k = either (Selects c s t a o xs r met told v n) (mirror_dev s.plain (op_mirror o) == e) (kept_or_frozen s a (op_process s o) n (dev_frame e i) b) (not_here n)
        (λ h. kept_or_frozen_ok c s t a o xs r met told v n so w g al cv (dev_frame e i) b (ap names_directly k) (ap writable k) (there_placed c s t (op_mirror o) n so w.has (ap is_empty_place k)))
        (λ h. left (ap (λ y. is_own_of y (mirror_dev s.plain (op_mirror o))) k ∙ h))
    by Place.Empty k = left (ap (λ y. is_own_of y (mirror_dev s.plain (op_mirror o))) k)
    by Place.Zero k = left (ap (λ y. is_own_of y (mirror_dev s.plain (op_mirror o))) k)
    by (Place.Sys i b) k = left (ap (λ y. is_own_of y (mirror_dev s.plain (op_mirror o))) k)
    by (Place.Moving f b) k = left (ap (λ y. is_own_of y (mirror_dev s.plain (op_mirror o))) k)
    by (Place.Exclusive i b) k = left (ap (λ y. is_own_of y (mirror_dev s.plain (op_mirror o))) k)

page_ok : (c : Program) (s : After) (t : Past) (a : ℕ) (o : Op) (xs : List Migrating) (r : Pages) (met : Bool) (told : Option ℕ) (v n : ℕ) → Sound c s t → Selecting s t a o xs r v n → (g : Guarding s.sequences.guard a (op_process s o) r met told) → all_told g.given ≡ true → covers r n ≡ true →
    Selects c s t a o xs r met told v n (select_page s a o (op_process s o) n)
page_ok c s t a o xs r met told v n so w g al cv = by (is_to_device o) refl
  where
    by : (b : Bool) → is_to_device o ≡ b → Selects c s t a o xs r met told v n (elim b [
      | false ↦ select_to_system s a (mirror_dev s.plain (op_mirror o)) (op_process s o) n (s.places.place (op_process s o) n)
      | true ↦ elim (rights_of s.plain (op_process s o) n) [ None ↦ not_here n | Some w ↦ select_to_device s a (op_process s o) n (s.places.place (op_process s o) n) ]
    ])
    by true d = to_device_ok c s t a o xs r met told v n so w g al cv d
    by false d = to_system_ok c s t a o xs r met told v n so w g al cv d

-- the guard: mirrors are told, pages are gone through, and the guard ends after the last
select_at : (c : Program) (s : After) (t : Past) (a : ℕ) (o : Op) (xs : List Migrating) (r : Pages) (met : Bool) (told : Option ℕ) (n v : ℕ) → Sound c s t → HoldsAll s t a (facts o xs (selecting s o r met told v n)) →
    Good c s t a o xs (Phase.Guard (op_process s o) r met told (Body.Select n)) (Phase.Moves FreezeOthers v ∷ []) (Do (due_guard s a o (op_process s o) r met told (Body.Select n)))
select_at c s t a o xs r met told n v so h = guard_ok c s t a o xs (op_process s o) r met told (Body.Select n) (Phase.Moves FreezeOthers v ∷ []) so h.0
    (λ m ok i. of_selecting (next s a (Kind.Told m r (s.sequences.seq (op_process s o)))) (past_next t s.length a (Kind.Told m r (s.sequences.seq (op_process s o)))) a o xs r met (Some m) v n (on_same c s t a o xs r v n n (Kind.Told m r (s.sequences.seq (op_process s o))) so ok (λ s f. tt) w refl refl (λ f. refl) (at_most n)) i)
    (λ al. either (λ y. Good c s t a o xs (Phase.Guard (op_process s o) r met told (Body.Select n)) (Phase.Moves FreezeOthers v ∷ []) (Do (body_or_end s (op_process s o) r y))) (nat_lt n (r.first + r.count)) (Some (select_page s a o (op_process s o) n)) None
    (λ l. page_ok c s t a o xs r met told v n so w h.0 al (in_span r n n (spanned r v n w.starts w.from) (at_most n) l))
    (λ l. ends (end_takes s a (op_process s o) r met told h.0 al)))
  where
    w : Selecting s t a o xs r v n
    w = to_selecting s t a o xs r met told v n h

    at_most : (n : ℕ) → n ≤ n
    at_most n = omega arith

    ends : Allowed c s t a (Kind.End (op_process s o) r (seq_ended s.sequences (op_process s o))) → Good c s t a o xs (Phase.Guard (op_process s o) r met told (Body.Select n)) (Phase.Moves FreezeOthers v ∷ []) (Do (Kind.End (op_process s o) r (seq_ended s.sequences (op_process s o))))
    ends ok = (ok, tt, under_guard (next s a k) t a o xs r v n (on_same c s t a o xs r v n n k so ok (λ s f. tt) w refl refl (λ f. refl) (at_most n)) (here_at s.sequences.guard a None))
      where
        k : Kind
        k = Kind.End (op_process s o) r (seq_ended s.sequences (op_process s o))

pub select_ok : (c : Program) (s : After) (t : Past) (a : ℕ) (o : Op) (xs : List Migrating) (q : ℕ) (r : Pages) (met : Bool) (told : Option ℕ) (n : ℕ) (step : MoveStep) (v : ℕ) → Sound c s t → HoldsAll s t a (facts o xs (Phase.Guard q r met told (Body.Select n) ∷ Phase.Moves step v ∷ [])) →
    Good c s t a o xs (Phase.Guard q r met told (Body.Select n)) (Phase.Moves step v ∷ []) (Do (due_guard s a o q r met told (Body.Select n)))
select_ok c s t a o xs q r met told n step v so h = subst (P q) (sym third) (subst (λ i. P i FreezeOthers) (sym h.1.1.0.1) (select_at c s t a o xs r met told n v so)) h
  where
    P : ℕ → MoveStep → Type 0
    P = λ i j. HoldsAll s t a (facts o xs (Phase.Guard i r met told (Body.Select n) ∷ Phase.Moves j v ∷ [])) → Good c s t a o xs (Phase.Guard i r met told (Body.Select n)) (Phase.Moves j v ∷ []) (Do (due_guard s a o i r met told (Body.Select n)))

    third : step ≡ FreezeOthers
    third = step_says step FreezeOthers h.1.1.1.0
