-- What it is for an entry that is due to be good, and how decisions are gone through.
use Rattle.std.proofs.Common.{◌≤◌}
use Rattle.std.proofs.Common.{◌≡◌, ℕ, ◌+◌, ◌%◌, ◌<◌, ◌⊎◌, inl, inr, Bool, true, false, ◌==◌, ◌&&◌, nat_lt, if◌then◌else◌, not, is_some, is_none, Option, Some, None, List, [], ◌∷◌, refl, sym, ap, ◌∙◌, subst, arith, length}
use Rattle.std.proofs.lemmas.Bool.Decides.{nat_tests}
use Rattle.std.proofs.lemmas.Bool.{and_from}
use Rattle.hm_base.specs.Program.{Program}
use Rattle.hm_base.specs.declared.cause.Cause.{Cause}
use Rattle.hm_base.specs.declared.PoolId.{PoolId}
use Rattle.hm_base.specs.declared.Place.{Place}
use Rattle.hm_base.specs.declared.ops.Rights.{Rights}
use Rattle.hm_base.specs.declared.ops.Op.{Op}
use Rattle.hm_history.specs.Memory.Words.{is_empty_place, same_place, page_of}
use Rattle.hm_history.specs.Memory.Plain.{Plain, rights_of, is_read_write, is_read_only}
use Rattle.hm_history.specs.Memory.Places.{lowest_free, is_exclusive}
use Rattle.hm_history.specs.Memory.Locks.{lock_passes}
use Rattle.hm_history.specs.Memory.After.{After}
use Rattle.hm_history.specs.declared.locks.MapLock.{MapLock}
use Rattle.hm_history.specs.declared.Who.{Who}
use Rattle.hm_history.specs.declared.Kind.{Kind}
use Rattle.hm_laws.specs.Stood.{lock_on}
use Rattle.hm_laws.specs.Past.{Past, past_next}
use Rattle.hm_laws.specs.Sound.{LockRules, Sound}
use Rattle.hm_laws.specs.Allowed.{next, shows, Clean, MayRelease, ReadsThere, WritesThere, Allowed}
use Rattle.std.specs.Prelude.{⊤}
use Rattle.hm_laws.proofs.State.Search.{least_none}
use Rattle.hm_history.proofs.Owners.{owned_from}
use Rattle.hm_laws.specs.Facts.{HasProc, Is, takes_lock, has_piece, nothing_held, facts, HoldsAll}
use Rattle.hm_history.specs.Kernel.Due.{proc_of_op}
use Rattle.hm_history.specs.Memory.Plain.{may_fail, in_window, outside_cause, proc_of, mirror_proc}
use Rattle.hm_base.specs.Pages.{one_page}
use Rattle.hm_history.specs.Memory.Locks.{writer, lowest_other}
use Rattle.hm_history.specs.Kernel.Operation.{op_pieces, op_mirror}
use Rattle.hm_history.specs.Memory.Rules.{wants_frame}
use Rattle.hm_history.specs.Kernel.Legal.{kept_for}
use Rattle.hm_history.specs.Kernel.Stacks.{stack_after, piece_ends}
use Rattle.hm_history.specs.Kernel.Going.{seen_at, recorded}
use Rattle.hm_history.specs.Kernel.Due.{rlock, wlock}
use Rattle.hm_history.specs.declared.phases.Migrating.{Migrating}
use Rattle.hm_history.specs.declared.phases.Phase.{Phase}
use Rattle.hm_history.specs.declared.phases.Next.{Next}
use Rattle.hm_history.specs.declared.phases.Next.TheVariants.{Do, Wait}
use Rattle.hm_laws.specs.Stood.{IsNamed}
use Rattle.hm_laws.specs.Facts.{is_core}
use Rattle.hm_laws.proofs.Other.Fetched.{ForItself}
use Rattle.hm_history.specs.declared.phases.Body.{Body}
use Rattle.hm_history.proofs.Updates.{here_at}
use Rattle.hm_history.proofs.Tests.{some_none, true_false}

-- no system frame is free, where the cause says so
abbrev pub IsShort : Program → After → Cause → Type 0
IsShort c s why = wants_frame why ≡ true → lowest_free c s.places PoolId.System ≡ None

-- what an entry of these operations is, beyond what makes it allowed; at the giving up of a fault the frame was missing before
abbrev pub Fair : Program → After → ℕ → Op → List Migrating → Kind → Phase → Type 0
Fair c s a o xs (Kind.Failed x at n why) (Phase.GiveUp y) = ⊤
Fair c s a o xs (Kind.Failed x at n why) top = IsShort c s why
Fair c s a o xs (Kind.Refused why) (Phase.GiveUp y) = ⊤
Fair c s a o xs (Kind.Refused why) top = IsShort c s why
Fair c s a o xs (Kind.Place p v x) (Phase.Guard q r met told (Body.Seize f)) = ForItself a (Kind.Place p v x)
Fair c s a o xs (Kind.Place p v x) top = is_exclusive x ≡ false
Fair c s a o xs (Kind.Mapped p r w) top = 1 ≤ r.count
Fair c s a o xs (Kind.Copied f g None) top = IsNamed s.places.place f
Fair c s a o xs (Kind.Copied f g (Some k)) top = (s.places.held f ≡ true) × (f ≡ g → ⊥) × (k < 8)
Fair c s a o xs (Kind.Kept at why) top = kept_for c s a o xs (mirror_proc s.plain (op_mirror o)) at why ≡ true
Fair c s a o xs k top = ⊤

-- the facts of the stack to which an entry leads
abbrev pub Led : After → Past → ℕ → Op → List Migrating → Phase → List Phase → Kind → Type 0
Led s t a o xs top below k = HoldsAll (next s a k) (past_next t s.length a k) a (facts o (recorded top (seen_at s o xs top k).page xs k) (stack_after o (top ∷ below) k (seen_at s o xs top k)))

-- it is allowed, and its actor then knows what its next phases say
abbrev pub Good : Program → After → Past → ℕ → Op → List Migrating → Phase → List Phase → Next → Type 0
Good c s t a o xs top below (Do k) = Allowed c s t a k × Fair c s a o xs k top × Led s t a o xs top below k
Good c s t a o xs top below (Wait w) = ⊤

-- so an actor takes a page for nobody else
pub takes_for_itself : (c : Program) (s : After) (a : ℕ) (o : Op) (xs : List Migrating) (k : Kind) (top : Phase) → Fair c s a o xs k top → ForItself a k
takes_for_itself c s a o xs (Kind.Place p v x) (Phase.Guard q r met told (Body.Seize f)) h = h
takes_for_itself c s a o xs (Kind.Place p v x) top h = λ n b e. absurd (true_false (is_exclusive x) (ap is_exclusive e) h)
takes_for_itself c s a o xs k top h = tt

pub either : {X : Type 0} (P : X → Type 0) (b : Bool) (x y : X) → (b ≡ true → P x) → (b ≡ false → P y) → P (elim b [ true ↦ x | false ↦ y ])
either P true x y f g = f refl
either P false x y f g = g refl

pub either_option : {X Y : Type 0} (P : X → Type 0) (o : Option Y) (x : X) (f : Y → X) → (o ≡ None → P x) → ((y : Y) → o ≡ Some y → P (f y)) → P (elim o [ None ↦ x | Some y ↦ f y ])
either_option P None x f g h = g refl
either_option P (Some y) x f g h = h y refl

-- releases
pub release_none : (s : After) (a : ℕ) → s.locks.map a ≡ None → MayRelease s a
release_none s a h p e = absurd (some_none (s.locks.map a) _ e h)

abbrev lock_writes : Option MapLock → Bool
lock_writes None = false
lock_writes (Some l) = l.writes

abbrev lock_proc : Option MapLock → ℕ
lock_proc None = 0
lock_proc (Some l) = l.proc

pub one_right : (p q : ℕ) → lock_on p false ≡ lock_on q true → ⊥
one_right p q h = true_false true refl (sym (ap lock_writes h))

one_proc : (p q : ℕ) → lock_on p true ≡ lock_on q true → p ≡ q
one_proc p q h = ap lock_proc h

pub release_clean : (s : After) (a p : ℕ) → WritesThere s a p → Clean s p → MayRelease s a
release_clean s a p h cl q e there = subst (Clean s) (one_proc p q (sym h.0 ∙ e)) cl

-- who has a process to read, or has it alone, finds it clean
pub clean_read : (c : Program) (s : After) (t : Past) (a p : ℕ) → Sound c s t → ReadsThere s a p → Clean s p
clean_read c s t a p so h x e i = by (so.untouched.untouched p x h.1 e i)
  where
    by : (s.plain.bytes p x ≡ 0) ⊎ ((b : ℕ) × (s.locks.map b ≡ lock_on p true)) → s.plain.bytes p x ≡ 0
    by (inl k) = k
    by (inr k) = absurd (one_right p p (sym h.0 ∙ ap s.locks.map (sym (so.locks.one_writer p k.0 a false k.1 h.0)) ∙ k.1))

-- locks of processes
pub no_writer : (s : After) (p : ℕ) → LockRules s.locks.map → writer s.locks p ≡ None → (b : ℕ) → s.locks.map b ≡ lock_on p true → ⊥
no_writer s p so h b m = grind (arith, nat_tests, least_none (λ d. lock_passes (λ x. (x.proc == p) && x.writes) (s.locks.map d)) 0 16 b h, so.free_above b)

no_holder : (s : After) (p a : ℕ) → LockRules s.locks.map → s.locks.map a ≡ None → lowest_other s.locks p a ≡ None → (b : ℕ) (w : Bool) → s.locks.map b ≡ lock_on p w → ⊥
no_holder s p a so n h b w m = grind (arith, nat_tests, least_none (λ d. not (d == a) && lock_passes (λ x. x.proc == p) (s.locks.map d)) 0 16 b h, so.free_above b)

pub rlock_ok : (c : Program) (s : After) (t : Past) (a : ℕ) (o : Op) (xs : List Migrating) (top : Phase) (p : ℕ) → a < 16 → Sound c s t → s.locks.map a ≡ None →
    Led s t a o xs top [] (Kind.Rlock p) → Good c s t a o xs top [] (rlock s p)
rlock_ok c s t a o xs top p few so h led = either_option (Good c s t a o xs top []) (writer s.locks p) _ _ (λ n. ((few, h, no_writer s p so.locks n), tt, led)) (λ b n. tt)

clean_alone : (c : Program) (s : After) (t : Past) (p : ℕ) → Sound c s t → s.plain.there p ≡ true → ((b : ℕ) → s.locks.map b ≡ lock_on p true → ⊥) → Clean s p
clean_alone c s t p so th no_one x e i = by (so.untouched.untouched p x th e i)
  where
    by : (s.plain.bytes p x ≡ 0) ⊎ ((b : ℕ) × (s.locks.map b ≡ lock_on p true)) → s.plain.bytes p x ≡ 0
    by (inl k) = k
    by (inr k) = absurd (no_one k.0 k.1)

pub wlock_ok : (c : Program) (s : After) (t : Past) (a : ℕ) (o : Op) (xs : List Migrating) → a < 16 → Sound c s t → HoldsAll s t a (Is (takes_lock o) ∷ nothing_held) → s.plain.there (proc_of_op o) ≡ true → Good c s t a o xs Phase.Begin [] (wlock s (proc_of_op o) a)
wlock_ok c s t a o xs few so h th = either_option (Good c s t a o xs Phase.Begin []) (lowest_other s.locks (proc_of_op o) a) _ _
    (λ n. ((few, h.1.0, no_holder s (proc_of_op o) a so.locks h.1.0 n), tt, (h.1.1.0, (h.1.1.1.0, (h.0, (((here_at s.locks.map a _, th), clean_alone c s t (proc_of_op o) so th (λ b. no_holder s (proc_of_op o) a so.locks h.1.0 n b true)), tt))))))
    (λ b n. tt)

-- the next piece, or the end
pub ends_ok : (o : Op) (xs : List Migrating) (k : ℕ) (s : After) (t : Past) (a : ℕ) → HoldsAll s t a nothing_held → HoldsAll s t a (facts o xs (piece_ends o k))
ends_ok o xs k s t a h = by (nat_lt (k + 1) (length (op_pieces o))) refl
  where
    by : (b : Bool) → has_piece o (k + 1) ≡ b → HoldsAll s t a (facts o xs (if b then Phase.Piece (k + 1) ∷ [] else []))
    by true e = (e, h)
    by false e = h

-- rights
pub some_rights : (x : Option Rights) → is_none x ≡ false → is_some x ≡ true
some_rights x h = grind arith

pub write_rights : (x : Option Rights) → is_none x ≡ false → is_read_only x ≡ false → is_read_write x ≡ true
write_rights None h k = cc
write_rights (Some Rights.Read) h k = cc
write_rights (Some Rights.ReadWrite) h k = refl

pub some_write : (x : Option Rights) → is_read_write x ≡ true → is_some x ≡ true
some_write x h = grind arith

-- failures have their causes
pub not_there : (s : Plain) (p v : ℕ) → s.there p ≡ false → may_fail s (Who.Cpu p) v Cause.Unmapped ≡ true
not_there s p v e = grind (arith, nat_tests)

pub outside : (s : Plain) (m v : ℕ) → in_window s m (one_page v) ≡ false → may_fail s (Who.Mirror m) v Cause.Outside ≡ true
outside s m v h = grind (arith, nat_tests)

pub no_area : (s : Plain) (x : Who) (v : ℕ) → outside_cause s x v ≡ false → is_none (rights_of s (proc_of s x) v) ≡ true → may_fail s x v Cause.Unmapped ≡ true
no_area s x v i e = grind (arith, nat_tests)

pub no_frame : (s : Plain) (x : Who) (v : ℕ) → HasProc s x → s.there (proc_of s x) ≡ true → is_some (rights_of s (proc_of s x) v) ≡ true → may_fail s x v Cause.NoFrame ≡ true
no_frame s (Who.Cpu p) v h t r = and_from (s.there p) _ t r
no_frame s (Who.Mirror m) v h t r = owned_from s m (λ p. s.there p && is_some (rights_of s p v)) h (and_from (s.there (mirror_proc s m)) _ t r)

pub read_only : (s : Plain) (x : Who) (v : ℕ) → outside_cause s x v ≡ false → s.there (proc_of s x) ≡ true → is_none (rights_of s (proc_of s x) v) ≡ false → is_read_only (rights_of s (proc_of s x) v) ≡ true → may_fail s x v Cause.Forbidden ≡ true
read_only s x v i t n r = grind (arith, nat_tests)

pub not_short : (c : Program) (s : After) (why : Cause) → wants_frame why ≡ false → IsShort c s why
not_short c s why h e = absurd (true_false (wants_frame why) e h)

pub same_place_says : (x y : Place) → is_core y ≡ true → same_place x y ≡ true → x ≡ y
same_place_says Place.Empty Place.Empty c h = refl
same_place_says Place.Zero Place.Zero c h = refl
same_place_says (Place.Sys n w) (Place.Sys m z) c h = grind (arith, nat_tests)
same_place_says x (Place.Own d n w) c h = cc
same_place_says x (Place.Moving f w) c h = cc
same_place_says x (Place.Exclusive n b) c h = cc
same_place_says x y c h = cc

-- what a page reads, whether it has a place or not
pub reads_plain : (c : Program) (s : After) (t : Past) (p x : ℕ) → Sound c s t → s.plain.there p ≡ true → Clean s p → is_some (rights_of s.plain p (page_of x)) ≡ true → shows s (s.places.place p (page_of x)) (x % 4096) ≡ s.plain.bytes p x
reads_plain c s t p x so th cl r = by (s.places.place p (page_of x)) refl
  where
    by : (y : Place) → s.places.place p (page_of x) ≡ y → shows s (s.places.place p (page_of x)) (x % 4096) ≡ s.plain.bytes p x
    by Place.Empty e = ap (λ y. shows s y (x % 4096)) e ∙ sym (cl x (ap is_empty_place e) r)
    by y e = so.reads.reads p x th (ap is_empty_place e)
