-- No entry that is due uses a table entry of whose page its mirror was told, with variants that leave the state as found.
use Rattle.std.proofs.Common.{◌≡◌, ◌⊎◌, inl, inr, ℕ, Bool, true, Some, List, ◌++◌, refl, sym, subst}
use Rattle.std.proofs.lemmas.Bool.{and_parts}
use Rattle.hm_base.specs.Program.{Program}
use Rattle.hm_history.specs.Memory.Words.{page_of}
use Rattle.hm_history.specs.Memory.Plain.{mirror_owner, mirror_proc, owned}
use Rattle.hm_history.specs.Memory.Places.{TableEntry, entry_passes, table_reads, table_writes, table_sole}
use Rattle.hm_history.specs.Memory.Lookups.{is_untold, uses_untold}
use Rattle.hm_history.specs.Kernel.Going.{State}
use Rattle.hm_history.specs.declared.Who.{Who}
use Rattle.hm_history.specs.declared.Kind.{Kind}
use Rattle.hm_history.specs.declared.Entry.{Entry}
use Rattle.hm_history.proofs.Owners.{owned_proc}
use Rattle.hm_laws.specs.Past.{Past}
use Rattle.hm_laws.specs.Allowed.{Allowed}
use Rattle.hm_laws.proofs.Past.Told.{untold_entry}
use Rattle.hm_laws.proofs.State.TableEntries.{entry_of}
use Rattle.hm_laws.proofs.Histories.Sound.{small}
use Rattle.hm_linux.specs.Instead.{varied_after}
use Rattle.hm_linux.specs.Laws.{UsesUntold}
use Rattle.hm_linux.proofs.Leading.{FailsHere, TurnAs}
use Rattle.hm_linux.proofs.Standing.{turn_as}
use Rattle.hm_linux.proofs.Walked.{Walked, walked_after}

-- ---- what an entry uses

used : (c : Program) (h : List Entry) (u : State) (t : Past) (m v : ℕ) → Walked c h u t → (test : TableEntry → Bool)
    → entry_passes test (u.after.places.table m v) ≡ true → is_untold h m v ≡ true
used c h u t m v w test e = let x : (y : TableEntry) × (u.after.places.table m v ≡ Some y) × (test y ≡ true) =
    entry_of test (u.after.places.table m v) e in
    untold_entry h u.after.length t u.after.places.table w.past m v x.0 x.1
    (w.standing.sound.untold.untold m v x.0 x.1) (w.standing.sound.untold.set_rightly m v x.0 x.1)

used_alone : (c : Program) (h : List Entry) (u : State) (t : Past) (a m v : ℕ) → Walked c h u t
    → owned (mirror_owner u.after.plain m) (λ p. table_sole u.after.places a m p v) ≡ true → is_untold h m v ≡ true
used_alone c h u t a m v w e = let alone : table_sole u.after.places a m (mirror_proc u.after.plain m) v ≡ true =
    owned_proc u.after.plain m (λ p. table_sole u.after.places a m p v) e in used c h u t m v w _ alone

allowed_uses : (c : Program) (h : List Entry) (u : State) (t : Past) (a : ℕ) (k : Kind) → Walked c h u t
    → Allowed c u.after t a k → uses_untold h k ≡ true
allowed_uses c h u t a (Kind.Loaded (Who.Cpu p) at bs) w ok = refl
allowed_uses c h u t a (Kind.Stored (Who.Cpu p) at bs) w ok = refl
allowed_uses c h u t a (Kind.Loaded (Who.Mirror m) at bs) w ok = used c h u t m (page_of at) w _
    (owned_proc u.after.plain m (λ p. table_reads u.after.places m p (page_of at)) ok.2)
allowed_uses c h u t a (Kind.Stored (Who.Mirror m) at bs) w ok = used c h u t m (page_of at) w _
    (and_parts (table_reads u.after.places m (mirror_proc u.after.plain m) (page_of at)) _
    (owned_proc u.after.plain m (λ p. table_writes u.after.places m p (page_of at)) ok.2)).0
allowed_uses c h u t a (Kind.Fetched m at bs) w ok = used_alone c h u t a m (page_of at) w ok.1
allowed_uses c h u t a (Kind.Added m at was now) w ok = used_alone c h u t a m (page_of at) w ok.1
allowed_uses c h u t a k w ok = refl

pub uses_untold_alone : UsesUntold
uses_untold_alone l leave c sc h d es due e now = by turn_here.own_kind
  where
    u : State
    u = (varied_after l c h es).state

    w : (p : Past) × Walked c (h ++ es) u p
    w = walked_after l c h es leave sc d due

    turn_here : TurnAs l c u.after w.0 e.actor e.kind (u.going e.actor)
    turn_here = turn_as l c (varied_after l c h es) w.0 e.actor e.kind leave (small c sc) w.1.standing now

    by : Allowed c u.after w.0 e.actor e.kind ⊎ FailsHere l e.kind → uses_untold (h ++ es) e.kind ≡ true
    by (inl ok) = allowed_uses c (h ++ es) u w.0 e.actor e.kind w.1 ok
    by (inr f) = subst (λ k. uses_untold (h ++ es) k ≡ true) (sym f.is) refl
