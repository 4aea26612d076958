-- What a table has after a change, as a history has it.
use Rattle.std.proofs.Common.{◌≡◌, ℕ, List, Bool, true, false, not, cond, ◌==◌, if◌then◌else◌, Option, Some, None, refl, ap, ◌∙◌, arith}
use Rattle.std.specs.Cmp.{nat_cmp_total}
use Rattle.std.specs.Ordering.{nat_cmp, eq_by_cmp}
use Rattle.std.specs.declared.cmp.Ordering.TheVariants.{Equal}
use Rattle.std.specs.FinMap.Entries as sorted
use Rattle.std.proofs.lemmas.Bool.{eq-eqb, ne_eqb}
use Rattle.std.proofs.lemmas.Bool.Decides.{nat_tests}
use Rattle.hm_base.specs.Pages.{Pages, covers}
use Rattle.hm_base.specs.PlaceWords.{sys_frame}
use Rattle.hm_base.specs.declared.PoolId.{PoolId}
use Rattle.hm_base.specs.declared.Frame.{Frame}
use Rattle.hm_history.specs.Memory.Places.{TableEntry, with_entry, erased_table}
use Rattle.hm_history.specs.declared.TableRight.{TableRight}
use Rattle.mirror_tables.specs.Entries as kept
use Rattle.mirror_tables.specs.declared.entry.MirrorEntry.{MirrorEntry}
use Rattle.hm_mirrors.specs.Entries.{entry_for, shown_entry, is_system_frame, is_kept_right}

-- comparisons of pages
same_test : (q k : ℕ) → eq_by_cmp nat_cmp q k ≡ (q == k)
same_test q k = grind (arith, nat_tests)

equal_pages : (q k : ℕ) → nat_cmp q k ≡ Equal → k ≡ q
equal_pages q k e = grind (arith, nat_tests)

-- the entry that was set
pub entry_set : (t : kept.Table) (page v : ℕ) (room : List ℕ) (e : MirrorEntry) → kept.entry_at (kept.changed t (kept.with_entry t page e) room) v ≡ (if v == page then Some e else kept.entry_at t v)
entry_set t page v room e = sorted.find-put nat_cmp nat_cmp_total v page e t.entries ∙ ap (λ b. cond b (Some e) (kept.entry_at t v)) (same_test v page)

-- the entries that were erased
pub entry_erased : (t : kept.Table) (r : Pages) (v : ℕ) (room : List ℕ) → kept.entry_at (kept.changed t (kept.without_span t r) room) v ≡ (if covers r v then None else kept.entry_at t v)
entry_erased t r v room = sorted.find-where_key nat_cmp (λ u. not (covers r u)) v (λ u e. ap (λ w. not (covers r w)) (equal_pages v u e)) t.entries ∙ turned (covers r v) (kept.entry_at t v)
  where
    turned : (b : Bool) (o : Option MirrorEntry) → cond (not b) o None ≡ (if b then None else o)
    turned true o = refl
    turned false o = refl

-- the entry that is kept is the one that was set
from_system : (pool : PoolId) (n : ℕ) → (let f : Frame = record { pool = pool; number = n } in is_system_frame (Some f)) ≡ true → (let f : Frame = record { pool = pool; number = n } in sys_frame n ≡ f)
from_system PoolId.System n e = refl
from_system (PoolId.Device d) n e = absurd (let b : ⊥ = cc in b)

pub shown_kept : (f : Option Frame) (w : TableRight) (from : ℕ) → is_kept_right f w ≡ true → shown_entry (entry_for f w from) ≡ record { target = f; right = w; from = from }
shown_kept None TableRight.Read from e = refl
shown_kept None TableRight.Write from e = refl
shown_kept None TableRight.Sole from e = absurd (let b : ⊥ = cc in b)
shown_kept (Some f) TableRight.Read from e = refl
shown_kept (Some f) TableRight.Write from e = refl
shown_kept (Some f) TableRight.Sole from e = ap (λ (g : Frame). let x : TableEntry = record { target = Some g; right = TableRight.Sole; from = from } in x) (from_system f.pool f.number e)

-- a history's tables after a change
pub erased_here : (f : ℕ → ℕ → Option TableEntry) (m : ℕ) (test : ℕ → Bool) (v : ℕ) → erased_table f m test m v ≡ (if test v then None else f m v)
erased_here f m test v = rw (eq-eqb m m refl) refl

pub erased_else : (f : ℕ → ℕ → Option TableEntry) (m : ℕ) (test : ℕ → Bool) (k v : ℕ) → (k ≡ m → ⊥) → erased_table f m test k v ≡ f k v
erased_else f m test k v ne = rw (ne_eqb k m ne) refl

pub set_here : (f : ℕ → ℕ → Option TableEntry) (m page v : ℕ) (x : TableEntry) → with_entry f m page x m v ≡ (if v == page then Some x else f m v)
set_here f m page v x = rw (eq-eqb m m refl) refl

pub set_else : (f : ℕ → ℕ → Option TableEntry) (m page k v : ℕ) (x : TableEntry) → (k ≡ m → ⊥) → with_entry f m page x k v ≡ f k v
set_else f m page k v x ne = rw (ne_eqb k m ne) refl
