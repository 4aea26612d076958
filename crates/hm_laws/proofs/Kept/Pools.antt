-- Pools and processes after an entry.
use Rattle.std.proofs.Common.{◌≡◌, ◌≢◌, ℕ, ◌-◌, ◌<◌, ◌⊎◌, inl, inr, Bool, true, false, ◌==◌, ◌&&◌, if◌then◌else◌, not, is_none, Option, Some, None, List, [], refl, sym, ap, ◌∙◌, subst, arith}
use Rattle.std.proofs.lemmas.Bool.Decides.{nat_tests}
use Rattle.hm_base.specs.Areas.{without, with_rights, with_area, rights_at}
use Rattle.hm_base.specs.Program.{Program}
use Rattle.hm_base.specs.declared.area.Area.{Area}
use Rattle.hm_base.specs.declared.PoolId.{PoolId}
use Rattle.hm_base.specs.declared.Frame.{Frame}
use Rattle.hm_history.specs.Memory.Words.{with_at, least, same_frame, dev_frame, with_frame}
use Rattle.hm_history.specs.Memory.Places.{Places, lowest_free, held_from, is_withdrawn, frame_of, pool_size}
use Rattle.hm_history.specs.Memory.After.{After}
use Rattle.hm_history.specs.declared.Kind.{Kind}
use Rattle.hm_laws.specs.Past.{Past, past_next}
use Rattle.hm_laws.specs.Sound.{PoolRules, ProcessRules, Sound}
use Rattle.hm_laws.specs.Allowed.{next, Allowed}
use Rattle.hm_laws.proofs.State.Search.{least_none, least_some, least_below}
use Rattle.hm_laws.proofs.Kept.AreaCuts.{rights_without, rights_with, rights_added, no_meet}
use Rattle.hm_history.proofs.Frames.{frame_tells}

-- the lowest free frame is one of the pool, and not held
pub free_says : (c : Program) (t : Places) (pool : PoolId) (f : Frame) → lowest_free c t pool ≡ Some f → (f.pool ≡ pool) × (t.held f ≡ false) × (f.number < pool_size c pool) × (is_withdrawn t pool ≡ false)
free_says c t pool f h = by (is_withdrawn t pool) refl h
  where
    found : (x : Option ℕ) → least (λ n. not (t.held (frame_of pool n))) 0 (pool_size c pool) ≡ x → ◌≡◌ {A = Option Frame} (elim x [ None ↦ None | Some n ↦ Some (frame_of pool n) ]) (Some f) → (f.pool ≡ pool) × (t.held f ≡ false) × (f.number < pool_size c pool)
    found None e k = cc
    found (Some n) e k = (grind arith, grind (arith, least_some (λ n. not (t.held (frame_of pool n))) 0 (pool_size c pool) n e), grind (arith, least_below (λ n. not (t.held (frame_of pool n))) 0 (pool_size c pool) n e))

    by : (b : Bool) → is_withdrawn t pool ≡ b → ◌≡◌ {A = Option Frame} (elim b [ true ↦ None | false ↦ elim (least (λ n. not (t.held (frame_of pool n))) 0 (pool_size c pool)) [ None ↦ None | Some n ↦ Some (frame_of pool n) ] ]) (Some f) → (f.pool ≡ pool) × (t.held f ≡ false) × (f.number < pool_size c pool) × (is_withdrawn t pool ≡ false)
    by true e k = cc
    by false e k = let x : (f.pool ≡ pool) × (t.held f ≡ false) × (f.number < pool_size c pool) = found (least (λ n. not (t.held (frame_of pool n))) 0 (pool_size c pool)) refl k in (x.0, x.1, x.2, e)

-- a device of which none is found holds none
none_held : (c : Program) (t : Places) (d n : ℕ) → PoolRules c t.held t.withdrawn t.removed → is_none (held_from c t d 0) ≡ true → t.held (dev_frame d n) ≡ false
none_held c t d n h e = by (t.held (dev_frame d n)) refl
  where
    below : t.held (dev_frame d n) ≡ true → n < pool_size c (PoolId.Device d)
    below k = h.below (dev_frame d n) k

    none : (x : Option ℕ) → is_none x ≡ true → x ≡ None
    none x k = grind arith

    by : (b : Bool) → t.held (dev_frame d n) ≡ b → b ≡ false
    by false k = refl
    by true k = sym k ∙ least_none (λ i. t.held (frame_of (PoolId.Device d) i)) 0 (pool_size c (PoolId.Device d) - 0) n (none (held_from c t d 0) e) (omega arith) (omega (arith, below k))

pub pools_kept : (c : Program) (s : After) (t : Past) (a : ℕ) → Sound c s t → (k : Kind) → Allowed c s t a k → PoolRules c (next s a k).places.held (next s a k).places.withdrawn (next s a k).places.removed
pools_kept c s t a so (Kind.Take f) ok = record {
  below = λ g h. grind (arith, frame_tells g f, so.pools.below g, (free_says c s.places f.pool f ok).2);
  closed = so.pools.closed;
  emptied = λ d n r. by d n r (frame_tells (dev_frame d n) f);
}
  where
    is_open : (d : ℕ) (f : Frame) → f.pool ≡ PoolId.Device d → is_withdrawn s.places f.pool ≡ false → s.places.withdrawn d ≡ true → ⊥
    is_open d f e h k = grind arith

    by : (d n : ℕ) → s.places.removed d ≡ true → ((same_frame (dev_frame d n) f ≡ true) × (dev_frame d n ≡ f)) ⊎ ((same_frame (dev_frame d n) f ≡ false) × (dev_frame d n ≢ f)) → with_frame s.places.held f true (dev_frame d n) ≡ false
    by d n r (inl e) = absurd (is_open d f (ap (λ (x : Frame). x.pool) (sym e.1)) (free_says c s.places f.pool f ok).3 (so.pools.closed d r))
    by d n r (inr e) = rw e.0 (so.pools.emptied d n r)
pools_kept c s t a so (Kind.Drop f) ok = record {
  below = λ g h. grind (arith, frame_tells g f, so.pools.below g);
  closed = so.pools.closed;
  emptied = λ d n r. grind (arith, frame_tells (dev_frame d n) f, so.pools.emptied d n r);
}
pools_kept c s t a so (Kind.Withdrawn d) ok = record {
  below = so.pools.below;
  closed = λ e r. grind (arith, nat_tests, so.pools.closed e);
  emptied = so.pools.emptied;
}
pools_kept c s t a so (Kind.Removed d) ok = record {
  below = so.pools.below;
  closed = λ e r. grind (arith, nat_tests, so.pools.closed e, ok.0);
  emptied = λ e n r. grind (arith, nat_tests, so.pools.emptied e n, none_held c s.places d n so.pools ok.1);
}
pools_kept c s t a so k ok = so.pools

pub areas_at : (areas : ℕ → List Area) (p q v : ℕ) (xs : List Area) → rights_at (with_at areas p xs q) v ≡ (if q == p then rights_at xs v else rights_at (areas q) v)
areas_at areas p q v xs = grind (arith, nat_tests)

pub processes_kept : (c : Program) (s : After) (t : Past) (a : ℕ) → Sound c s t → (k : Kind) → Allowed c s t a k →
    ProcessRules (next s a k).plain.there (next s a k).plain.been (next s a k).plain.named (next s a k).plain.areas (past_next t s.length a k).namer
processes_kept c s t a so (Kind.Mapped p r w) ok = record {
  no_area = λ q h. grind (arith, nat_tests, so.processes.no_area q, ok.0.1);
  area_below = λ q v h. grind (arith, nat_tests, so.processes.area_below q v, rights_added (s.plain.areas p) r w v (no_meet s.plain p r w ok.2), areas_at s.plain.areas p q v (with_area (record { span = r; rights = w }) (s.plain.areas p)), ok.3);
  there_been = so.processes.there_been;
  been_named = so.processes.been_named;
  namer_named = so.processes.namer_named;
}
processes_kept c s t a so (Kind.Unmapped p r) ok = record {
  no_area = λ q h. grind (arith, nat_tests, so.processes.no_area q, ok.0.1);
  area_below = λ q v h. grind (arith, nat_tests, so.processes.area_below q v, rights_without r (s.plain.areas p) v, areas_at s.plain.areas p q v (without r (s.plain.areas p)));
  there_been = so.processes.there_been;
  been_named = so.processes.been_named;
  namer_named = so.processes.namer_named;
}
processes_kept c s t a so (Kind.Protected p r w) ok = record {
  no_area = λ q h. grind (arith, nat_tests, so.processes.no_area q, ok.0.1);
  area_below = λ q v h. grind (arith, nat_tests, so.processes.area_below q v, rights_with r w (s.plain.areas p) v, areas_at s.plain.areas p q v (with_rights r w (s.plain.areas p)));
  there_been = so.processes.there_been;
  been_named = so.processes.been_named;
  namer_named = so.processes.namer_named;
}
processes_kept c s t a so (Kind.Named p d) ok = record {
  no_area = so.processes.no_area;
  area_below = so.processes.area_below;
  there_been = so.processes.there_been;
  been_named = λ q h. named q (so.processes.been_named q h);
  namer_named = λ q h. grind (arith, nat_tests, so.processes.namer_named q);
}
  where
    named : (q : ℕ) → (q ≡ 0) ⊎ (s.plain.named q ≡ true) → (q ≡ 0) ⊎ (with_at s.plain.named d true q ≡ true)
    named q (inl e) = inl e
    named q (inr e) = inr (grind (arith, nat_tests))
processes_kept c s t a so (Kind.Forked p d) ok = record {
  no_area = λ q h. grind (arith, nat_tests, so.processes.no_area q);
  area_below = λ q v h. grind (arith, nat_tests, so.processes.area_below q v, so.processes.area_below p v, areas_at s.plain.areas d q v (s.plain.areas p));
  there_been = λ q h. grind (arith, nat_tests, so.processes.there_been q);
  been_named = λ q h. by q (nat_cases q) h (so.processes.been_named q);
  namer_named = so.processes.namer_named;
}
  where
    nat_cases : (q : ℕ) → (q ≡ d) ⊎ (with_at s.plain.been d true q ≡ s.plain.been q)
    nat_cases q = grind (arith, nat_tests)

    fork_named : (x y z : Bool) → (x && (y && not z)) ≡ true → y ≡ true
    fork_named x y z h = grind arith

    by : (q : ℕ) → (q ≡ d) ⊎ (with_at s.plain.been d true q ≡ s.plain.been q) → with_at s.plain.been d true q ≡ true → (s.plain.been q ≡ true → (q ≡ 0) ⊎ (s.plain.named q ≡ true)) → (q ≡ 0) ⊎ (s.plain.named q ≡ true)
    by q (inl e) h k = inr (subst (λ i. s.plain.named i ≡ true) (sym e) (fork_named (s.plain.there p) (s.plain.named d) (s.plain.been d) ok.4))
    by q (inr e) h k = k (sym e ∙ h)
processes_kept c s t a so (Kind.Exited p) ok = record {
  no_area = λ q h. grind (arith, nat_tests, so.processes.no_area q);
  area_below = λ q v h. grind (arith, nat_tests, so.processes.area_below q v, areas_at s.plain.areas p q v []);
  there_been = λ q h. grind (arith, nat_tests, so.processes.there_been q);
  been_named = so.processes.been_named;
  namer_named = so.processes.namer_named;
}
processes_kept c s t a so k ok = so.processes
