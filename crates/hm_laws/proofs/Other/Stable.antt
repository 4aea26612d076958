-- What an actor knows stays so, whatever entry of another is allowed.
use Rattle.std.proofs.Common.{◌≡◌, ℕ, ◌%◌, ◌<◌, ◌⊎◌, inl, inr, Bool, true, false, nat_lt, nat_le, if◌then◌else◌, not, is_some, Some, None, refl, sym, ap, ◌∙◌, subst, arith, length}
use Rattle.hm_base.specs.Areas.{without, with_rights, meets}
use Rattle.hm_base.specs.declared.cause.Cause.{Cause}
use Rattle.hm_base.specs.Program.{Program}
use Rattle.hm_base.specs.declared.Frame.{Frame}
use Rattle.hm_base.specs.declared.Place.{Place}
use Rattle.hm_base.specs.declared.ops.Op.{Op}
use Rattle.hm_history.specs.Memory.Words.{writable, is_empty_place, page_of}
use Rattle.hm_history.specs.Memory.Plain.{all_mapped, proc_of, Plain, rights_of, is_read_write, area_refusal}
use Rattle.hm_history.specs.Memory.Places.{with_place}
use Rattle.hm_history.specs.Memory.Contents.{shown_by}
use Rattle.hm_history.specs.Memory.After.{After}
use Rattle.hm_history.specs.declared.Kind.{Kind}
use Rattle.hm_laws.specs.Stood.{stood}
use Rattle.hm_laws.specs.Past.{Past, past_next}
use Rattle.hm_laws.specs.Sound.{Sound}
use Rattle.hm_laws.specs.Allowed.{next, shows, ReadsThere, WritesThere, HasChild, Alike, IsUnused, MayPlace, Reader, Writer, Parent, Mover, Allowed}
use Rattle.hm_laws.proofs.Kept.Areas.{placed_cases}
use Rattle.hm_laws.proofs.Other.Processes.{map_other, guard_other, not_writer, not_born, there_other, areas_other, rights_other, bytes_other, mover_of_child, page_other, child_other, has_child_other}
use Rattle.hm_laws.proofs.Other.Mirrors.{who_keeps, read_locked_other, leaving_other}
use Rattle.hm_laws.proofs.Other.Lookups.{within_keeps, touches_other}
use Rattle.hm_laws.proofs.Other.Noted.{noted_on}
use Rattle.hm_laws.proofs.Other.KnownPages.{frozen_at_on, own_at_on, touched_on, lands_on}
use Rattle.hm_laws.proofs.Other.Fetched.{ForItself, fetched_other}
use Rattle.hm_laws.proofs.Other.Emptied.{source_other, frozen_other, parts_other, returning_other, returned_other}
use Rattle.hm_laws.proofs.Other.Cleared.{gone_for, clearing_other}
use Rattle.hm_laws.proofs.Other.Frames.{lock_gains, owns_other, contents_other, shows_after}
use Rattle.hm_laws.specs.Spares.{Another}
use Rattle.hm_laws.specs.Facts.{Fact, Is, No_map_lock, Read_locked, Sourced, Copying, Coming_back, Back, Clearing, Gone, Emptied, May_read, Leaving, Touching, Noted, Fetched_at, Frozen, Frozen_at, Own_at, Framed, Lands_on, Windowed, Windowed_all, Over_span, Listed, Over_page, May_store, Writes, Not_refused, Emptying, Narrowing, Forking, Halfway, No_guard, In_guard, Over, Locks_only, Owns, Zeroed, Copy_of, Never, ShownIn, Holds}
use Rattle.hm_history.specs.Kernel.Due.{proc_of_op}
use Rattle.hm_history.proofs.Tests.{true_false}
use Rattle.hm_history.proofs.Pages.{no_empty_writable}

writes_other : (c : Program) (s : After) (t : Past) (a b p : ℕ) → Sound c s t → (b ≡ a → ⊥) → (k : Kind) → Allowed c s t a k → WritesThere s b p → WritesThere (next s a k) b p
writes_other c s t a b p so ne k ok h = (map_other s a b ne k ∙ h.0, there_other c s t a b p true so ne h.0 h.1 k ok)

reads_other : (c : Program) (s : After) (t : Past) (a b p : ℕ) → Sound c s t → (b ≡ a → ⊥) → (k : Kind) → Allowed c s t a k → ReadsThere s b p → ReadsThere (next s a k) b p
reads_other c s t a b p so ne k ok h = (map_other s a b ne k ∙ h.0, there_other c s t a b p false so ne h.0 h.1 k ok)

-- pages with an area and no place read zeros
clean_other : (c : Program) (s : After) (t : Past) (a b p : ℕ) → Sound c s t → (b ≡ a → ⊥) → (k : Kind) → Allowed c s t a k → WritesThere s b p →
    (x : ℕ) → (is_empty_place (s.places.place p (page_of x)) ≡ true → is_some (rights_of s.plain p (page_of x)) ≡ true → s.plain.bytes p x ≡ 0) →
    is_empty_place ((next s a k).places.place p (page_of x)) ≡ true → is_some (rights_of (next s a k).plain p (page_of x)) ≡ true → (next s a k).plain.bytes p x ≡ 0
clean_other c s t a b p so ne k ok h x f e i = bytes_other c s t a b p true so ne h.0 h.1 k ok x (no_empty_writable (s.places.place p (page_of x)) was) ∙ f was (sym (ap is_some (rights_other c s t a b p true so ne h.0 h.1 k ok (page_of x))) ∙ i)
  where
    was : is_empty_place (s.places.place p (page_of x)) ≡ true
    was = sym ((page_other c s t a b p so ne h.0 h.1 k ok (page_of x)).empty) ∙ e

refusal_same : (s u : Plain) (o : Op) → u.areas (proc_of_op o) ≡ s.areas (proc_of_op o) → area_refusal u o ≡ area_refusal s o
refusal_same s u (Op.Map p r w) e = ap (λ as_. if meets r as_ then Some Cause.Overlap else if nat_lt (length as_) 64 then None else Some Cause.TooManyAreas) e
refusal_same s u (Op.Unmap p r) e = ap (λ as_. if nat_le (length (without r as_)) 64 then None else Some Cause.TooManyAreas) e
refusal_same s u (Op.Protect p r w) e = ap (λ as_. if not (all_mapped r as_) then Some Cause.Unmapped else if nat_le (length (with_rights r w as_)) 64 then None else Some Cause.TooManyAreas) e
refusal_same s u o e = refl

-- a page of the child reads as the parent's
alike_shows : (c : Program) (s : After) (t : Past) (a b d : ℕ) → Sound c s t → (b ≡ a → ⊥) → HasChild s t b d → (k : Kind) → Allowed c s t a k → (v : ℕ) → writable (s.places.place d v) ≡ false → (o : ℕ) → o < 4096 →
    shows (next s a k) ((next s a k).places.place d v) o ≡ shows s (s.places.place d v) o
alike_shows c s t a b d so ne h (Kind.Place q u x) ok v n o l = by (placed_cases s.places.place q u x d v)
  where
    by : ((d ≡ q) × (v ≡ u) × (with_place s.places.place q u x d v ≡ x)) ⊎ (with_place s.places.place q u x d v ≡ s.places.place d v) → shown_by s.contents (stood s.places.committed_to (with_place s.places.place q u x d v)) o ≡ shown_by s.contents (stood s.places.committed_to (s.places.place d v)) o
    by (inl e) = ap (λ y. shown_by s.contents (stood s.places.committed_to y) o) e.2 ∙ (mover_of_child c s t a b q u x so ne (ap t.namer (sym e.0) ∙ h.0, ap s.plain.been (sym e.0) ∙ h.1) ok.who).same o l
        ∙ ap (λ y. shown_by s.contents (stood s.places.committed_to y) o) (sym (ap (λ i. s.places.place i v) e.0 ∙ ap (s.places.place q) e.1))
    by (inr e) = ap (λ y. shown_by s.contents (stood s.places.committed_to y) o) e
alike_shows c s t a b d so ne h k ok v n o l = shows_after c s t a so k ok d v n o l

below_page : (x : ℕ) → x % 4096 < 4096
below_page x = omega arith

alike_other : (c : Program) (s : After) (t : Past) (a b p d : ℕ) → Sound c s t → (b ≡ a → ⊥) → WritesThere s b p → HasChild s t b d → (k : Kind) → Allowed c s t a k → (v : ℕ) → Alike s p d v → Alike (next s a k) p d v
alike_other c s t a b p d so ne w h k ok v al = record {
  emptiness = (child_other c s t a b d so ne h k ok v).empty ∙ al.emptiness ∙ sym (page_other c s t a b p so ne w.0 w.1 k ok v).empty;
  contents = λ x e n. alike_shows c s t a b d so ne h k ok v al.child_right (x % 4096) (below_page x) ∙ al.contents x e (sym (child_other c s t a b d so ne h k ok v).empty ∙ n) ∙ sym (bytes_other c s t a b p true so ne w.0 w.1 k ok x (ap (λ i. writable (s.places.place p i)) e ∙ al.parent_right));
  child_right = (child_other c s t a b d so ne h k ok v).right ∙ al.child_right;
  parent_right = (page_other c s t a b p so ne w.0 w.1 k ok v).right ∙ al.parent_right;
}

-- a copy of what a page shows, as long as it is not writable
reader_page : (c : Program) (s : After) (t : Past) (a b p v : ℕ) (x : Place) → Sound c s t → (b ≡ a → ⊥) → ReadsThere s b p → MayPlace s t a p v x → writable x ≡ false → (writable (s.places.place p v) ≡ false) × ((o : ℕ) → o < 4096 → shows s x o ≡ shows s (s.places.place p v) o)
reader_page c s t a b p v x so ne h (Reader m n i r) w = (narrow (writable (s.places.place p v)) (writable x) r w, i)
  where
    narrow : (y z : Bool) → (y ≡ true → z ≡ true) → z ≡ false → y ≡ false
    narrow true z f e = absurd (true_false z (f refl) e)
    narrow false z f e = refl
reader_page c s t a b p v x so ne h (Writer m) w = absurd (not_writer c s t a b p false so ne h.0 p m.0 refl)
reader_page c s t a b p v x so ne h (Parent m n) w = absurd (not_born c s t p p so h.1 m.1 refl)
reader_page c s t a b p v x so ne h (Mover m n i r) w = (sym r ∙ w, i)

copy_other : (c : Program) (s : After) (t : Past) (a b p v : ℕ) (f : Frame) → Sound c s t → (b ≡ a → ⊥) → ReadsThere s b p → IsUnused s b f → (k : Kind) → Allowed c s t a k → (writable (s.places.place p v) ≡ false → ShownIn s f (s.places.place p v)) →
    writable ((next s a k).places.place p v) ≡ false → ShownIn (next s a k) f ((next s a k).places.place p v)
copy_other c s t a b p v f so ne h u (Kind.Place q w x) ok g n o l = by (placed_cases s.places.place q w x p v) n
  where
    by : ((p ≡ q) × (v ≡ w) × (with_place s.places.place q w x p v ≡ x)) ⊎ (with_place s.places.place q w x p v ≡ s.places.place p v) → writable (with_place s.places.place q w x p v) ≡ false → s.contents f o ≡ shown_by s.contents (stood s.places.committed_to (with_place s.places.place q w x p v)) o
    by (inr e) n = g (sym (ap writable e) ∙ n) o l ∙ ap (λ y. shown_by s.contents (stood s.places.committed_to y) o) (sym e)
    by (inl e) n = g (ap writable old ∙ r.0) o l ∙ ap (λ y. shown_by s.contents (stood s.places.committed_to y) o) old ∙ sym (r.1 o l) ∙ ap (λ y. shown_by s.contents (stood s.places.committed_to y) o) (sym e.2)
      where
        old : s.places.place p v ≡ s.places.place q w
        old = ap (λ i. s.places.place i v) e.0 ∙ ap (s.places.place q) e.1

        r : (writable (s.places.place q w) ≡ false) × ((o : ℕ) → o < 4096 → shows s x o ≡ shows s (s.places.place q w) o)
        r = reader_page c s t a b q w x so ne (subst (ReadsThere s b) e.0 h) ok.who (sym (ap writable e.2) ∙ n)
copy_other c s t a b p v f so ne h u k ok g n o l = ap (λ (i : ℕ → ℕ). i o) (contents_other c s t a b so k ok f (Another ne) u) ∙ g n o l ∙ sym (shows_after c s t a so k ok p v n o l)

pub stable : (c : Program) (s : After) (t : Past) (a b : ℕ) → Sound c s t → (b ≡ a → ⊥) → (k : Kind) → Allowed c s t a k → ForItself a k → (x : Fact) → Holds s t b x → Holds (next s a k) (past_next t s.length a k) b x
stable c s t a b so ne k ok own (Is x) h = h
stable c s t a b so ne k ok own No_map_lock h = map_other s a b ne k ∙ h
stable c s t a b so ne k ok own (Read_locked x) h = read_locked_other c s t a b x ne k ok h
stable c s t a b so ne k ok own (May_store x v) h = let w = who_keeps c s t a k ok x h.0 in
    (w.0, subst (ReadsThere (next s a k) b) (sym w.1) (reads_other c s t a b (proc_of s.plain x) so ne k ok h.1), ap (λ p. is_read_write (rights_of (next s a k).plain p v)) w.1 ∙ ap is_read_write (rights_other c s t a b (proc_of s.plain x) false so ne h.1.0 h.1.1 k ok v) ∙ h.2)
stable c s t a b so ne k ok own (Writes p) h = (writes_other c s t a b p so ne k ok h.0, λ x. clean_other c s t a b p so ne k ok h.0 x (h.1 x))
stable c s t a b so ne k ok own (Not_refused o) h = (writes_other c s t a b (proc_of_op o) so ne k ok h.0, refusal_same s.plain (next s a k).plain o (areas_other c s t a b (proc_of_op o) true so ne h.0.0 h.0.1 k ok) ∙ h.1)
stable c s t a b so ne k ok own (Emptying p r n) h = (writes_other c s t a b p so ne k ok h.0, λ x v. clean_other c s t a b p so ne k ok h.0 x (h.1 x v), λ u v l. (page_other c s t a b p so ne h.0.0 h.0.1 k ok u).empty ∙ h.2 u v l)
stable c s t a b so ne k ok own (Narrowing p r n) h = (writes_other c s t a b p so ne k ok h.0, λ x. clean_other c s t a b p so ne k ok h.0 x (h.1 x), λ u v l. (page_other c s t a b p so ne h.0.0 h.0.1 k ok u).right ∙ h.2 u v l)
stable c s t a b so ne k ok own (Forking p d n) h = (
  writes_other c s t a b p so ne k ok h.0,
  λ x. clean_other c s t a b p so ne k ok h.0 x (h.1 x),
  has_child_other c s t a b d so ne h.2 k ok,
  λ u l. alike_other c s t a b p d so ne h.0 h.2 k ok u (h.3 u l),
  λ u l. (child_other c s t a b d so ne h.2 k ok u).empty ∙ h.4 u l,
)
stable c s t a b so ne k ok own (Halfway half p v) h = (
  writes_other c s t a b p so ne k ok h.0,
  λ e. ((page_other c s t a b p so ne h.0.0 h.0.1 k ok v).right ∙ (h.1 e).0, (page_other c s t a b p so ne h.0.0 h.0.1 k ok v).empty ∙ (h.1 e).1),
)
stable c s t a b so ne k ok own No_guard h = guard_other s a b ne k ∙ h
stable c s t a b so ne k ok own (In_guard p r met told) h = record { given = h.given; is = guard_other s a b ne k ∙ h.is; proc = h.proc; span = h.span; met_some = h.met_some; upto = h.upto; below = h.below }
stable c s t a b so ne k ok own (Over p r q whole) h = h
stable c s t a b so ne k ok own (Over_page p r x v) h = let w = who_keeps c s t a k ok x h.0 in (w.0, h.1 ∙ sym w.1, h.2)
stable c s t a b so ne k ok own (Locks_only l) h = λ f e. h f (lock_gains c s t a b so ne k ok f e)
stable c s t a b so ne k ok own (Owns f) h = owns_other c s t a b so k ok f (Another ne) h
stable c s t a b so ne k ok own (Zeroed f) h = (owns_other c s t a b so k ok f (Another ne) h.0, contents_other c s t a b so k ok f (Another ne) h.0.0 ∙ h.1)
stable c s t a b so ne k ok own (Copy_of f x v) h = let w = who_keeps c s t a k ok x h.0 in
    (w.0, subst (ReadsThere (next s a k) b) (sym w.1) (reads_other c s t a b (proc_of s.plain x) so ne k ok h.1), owns_other c s t a b so k ok f (Another ne) h.2, subst (λ p. writable ((next s a k).places.place p v) ≡ false → ShownIn (next s a k) f ((next s a k).places.place p v)) (sym w.1) (copy_other c s t a b (proc_of s.plain x) v f so ne h.1 h.2.0 k ok h.3))
stable c s t a b so ne k ok own (Sourced f) h = source_other c s t a b so k ok f (Another ne) h
stable c s t a b so ne k ok own (Copying f g n) h = (frozen_other c s t a b so k ok f (Another ne) h.0, owns_other c s t a b so k ok g (Another ne) h.1, parts_other c s t a b so k ok f g n (Another ne) (Another ne) h.0 h.1.0 h.2, h.3)
stable c s t a b so ne k ok own (Coming_back f g) h = returning_other c s t a b so k ok f g (Another ne) (Another ne) h
stable c s t a b so ne k ok own (Back g) h = returned_other c s t a b so k ok g (Another ne) h
stable c s t a b so ne k ok own (Gone o) h = gone_for s a k o h
stable c s t a b so ne k ok own (Emptied n) h = omega (arith, h)
stable c s t a b so ne k ok own (Clearing o v) h = clearing_other c s t a b so ne k ok o v h
stable c s t a b so ne k ok own (May_read x v) h = let w = who_keeps c s t a k ok x h.0 in
    (w.0, subst (ReadsThere (next s a k) b) (sym w.1) (reads_other c s t a b (proc_of s.plain x) so ne k ok h.1), ap (λ p. is_some (rights_of (next s a k).plain p v)) w.1 ∙ ap is_some (rights_other c s t a b (proc_of s.plain x) false so ne h.1.0 h.1.1 k ok v) ∙ h.2)
stable c s t a b so ne k ok own (Leaving m) h = leaving_other c s t a b m ne k ok h
stable c s t a b so ne k ok own (Touching o touch) h = touches_other c s t a b k so ne ok o touch h
stable c s t a b so ne k ok own (Noted m v q x) h = noted_on c s t a b k so ok m v q x h
stable c s t a b so ne k ok own (Frozen f) h = frozen_other c s t a b so k ok f (Another ne) h
stable c s t a b so ne k ok own (Frozen_at x v f) h = frozen_at_on c s t a b so k ok (λ p. reads_other c s t a b p so ne k ok) x v f (Another ne) h
stable c s t a b so ne k ok own (Own_at x v g) h = own_at_on c s t a b so k ok (λ p. reads_other c s t a b p so ne k ok) x v g (Another ne) h
stable c s t a b so ne k ok own (Framed x v) h = touched_on c s t a b so k ok (λ p. reads_other c s t a b p so ne k ok) x v h
stable c s t a b so ne k ok own (Lands_on o g) h = lands_on c s t a b k ok o g h
stable c s t a b so ne k ok own (Windowed m v) h = within_keeps c s t a k ok m v h
stable c s t a b so ne k ok own (Windowed_all m r) h = λ v cv. within_keeps c s t a k ok m v (h v cv)
stable c s t a b so ne k ok own (Over_span p r x whole) h = let w = who_keeps c s t a k ok x h.0 in (w.0, h.1 ∙ sym w.1, h.2)
stable c s t a b so ne k ok own (Listed xs) h = h
stable c s t a b so ne k ok own (Fetched_at m at was) h = fetched_other c s t a b m at was so ne k ok own h
stable c s t a b so ne k ok own Never h = absurd h
