-- One mirror's table changes.
use Rattle.std.proofs.Common.{◌≡◌, ℕ, ◌<◌, Bool, ◌==◌, Option, Some, None, List, length, slice_set, get_or, refl, sym, arith}
use Rattle.std.specs.Prelude.{option_map, if◌then◌else◌}
use Rattle.std.proofs.lemmas.Grind.{elements}
use Rattle.std.proofs.lemmas.Bool.Decides.{nat_tests}
use Rattle.std.proofs.Math.Path.{fun_ext}
use Rattle.hm_base.specs.declared.PoolId.{PoolId}
use Rattle.hm_base.specs.declared.Frame.{Frame}
use Rattle.hm_history.specs.Memory.Words.{with_at}
use Rattle.hm_history.specs.Memory.Plain.{Plain, MirrorState, Attachment, Attached, Detaching, Gone, mirror_owner, with_attachment}
use Rattle.hm_history.specs.declared.Kind.{Kind}
use Rattle.hm_history.proofs.Updates.{with_case, here_at, other_at}
use Rattle.hm_history.specs.Memory.Places.{TableEntry, with_entry, erased_table}
use Rattle.hm_folds.specs.TableMap.{dev_of, dev_of_pool, target_of, entry_in}
use Rattle.hm_folds.specs.MirrorTables.{tables_of, OwnersFollow}
use Rattle.hm_folds.specs.declared.table_map.TableMap.{TableMap}

pub read_table : (xs : List TableMap) (i m : ℕ) (x d : TableMap) (v : ℕ) → x ≡ get_or xs i d → i ≡ m → i < length xs → entry_in x v ≡ tables_of xs m v
read_table xs i m x d v e k l = grind (arith, elements)

pub entry_set : (xs : List TableMap) (i m v : ℕ) (y : TableMap) (e : TableEntry) → i ≡ m → m < length xs → ((u : ℕ) → entry_in y u ≡ (if u == v then Some e else tables_of xs m u)) → tables_of (slice_set xs i y) ≡ with_entry (tables_of xs) m v e
entry_set xs i m v y e k l h = rw k (fun_ext (λ q. fun_ext (λ u. by q u (h u))))
  where
    by : (q u : ℕ) → entry_in y u ≡ (if u == v then Some e else tables_of xs m u) → tables_of (slice_set xs m y) q u ≡ with_entry (tables_of xs) m v e q u
    by q u j = grind (arith, nat_tests, elements)

pub entries_erased : (xs : List TableMap) (i m : ℕ) (y : TableMap) (test : ℕ → Bool) → i ≡ m → m < length xs → ((u : ℕ) → entry_in y u ≡ (if test u then None else tables_of xs m u)) → tables_of (slice_set xs i y) ≡ erased_table (tables_of xs) m test
entries_erased xs i m y test k l h = rw k (fun_ext (λ q. fun_ext (λ u. by q u (h u))))
  where
    by : (q u : ℕ) → entry_in y u ≡ (if test u then None else tables_of xs m u) → tables_of (slice_set xs m y) q u ≡ erased_table (tables_of xs) m test q u
    by q u j = grind (arith, nat_tests, elements)

-- what is kept of a frame is the frame
pub target_kept : (f : Option Frame) → target_of (dev_of f) (option_map (λ (g : Frame). g.number) f) ≡ f
target_kept None = refl
target_kept (Some f) = by f.pool f.number
  where
    by : (q : PoolId) (n : ℕ) → target_of (dev_of_pool q) (Some n) ≡ Some (record { pool = q; number = n })
    by PoolId.System n = refl
    by (PoolId.Device d) n = refl

pub entries_same : (xs : List TableMap) (i m : ℕ) (y : TableMap) → i ≡ m → m < length xs → ((u : ℕ) → entry_in y u ≡ tables_of xs m u) → tables_of (slice_set xs i y) ≡ tables_of xs
entries_same xs i m y k l h = rw k (fun_ext (λ q. fun_ext (λ u. by q u (h u))))
  where
    by : (q u : ℕ) → entry_in y u ≡ tables_of xs m u → tables_of (slice_set xs m y) q u ≡ tables_of xs q u
    by q u j = grind (arith, nat_tests, elements)

-- the process of a mirror's attach stays its owner
same_owner : (s : Plain) (m k : ℕ) (t : Attachment) → mirror_owner s k ≡ option_map (λ x. x.proc) (with_at s.mirrors m (with_attachment t (s.mirrors m)) k)
same_owner s m k t = sym (with_case (λ j (o : Option MirrorState). option_map (λ x. x.proc) o ≡ mirror_owner s j) s.mirrors m (with_attachment t (s.mirrors m)) k (λ _. by (s.mirrors m)) (λ _. refl))
  where
    by : (o : Option MirrorState) → option_map (λ x. x.proc) (with_attachment t o) ≡ option_map (λ x. x.proc) o
    by None = refl
    by (Some x) = refl

pub owners : OwnersFollow
owners s (Kind.Attached m d p r q) k =
    let x : Option MirrorState = Some (record { dev = d; proc = p; window = r; stage = Attached }) in
    sym (with_case (λ j (o : Option MirrorState). option_map (λ y. y.proc) o ≡ with_at (mirror_owner s) m (Some p) j) s.mirrors m x k (λ e. sym (here_at (mirror_owner s) m (Some p))) (λ ne. sym (other_at (mirror_owner s) m k (Some p) ne)))
owners s (Kind.Detaching m q) k = same_owner s m k Detaching
owners s (Kind.Detached m) k = same_owner s m k Gone
owners s k m = refl
