-- Mirrors and their intervals, and the past, after an entry.
use Rattle.std.proofs.Common.{◌≡◌, ℕ, ◌+◌, ◌<◌, ◌≤◌, ◌⊎◌, inl, inr, is_none, Bool, true, false, ◌==◌, ◌&&◌, if◌then◌else◌, Option, Some, None, refl, sym, ap, ◌∙◌, subst, arith}
use Rattle.std.proofs.lemmas.Bool.Decides.{nat_tests}
use Rattle.std.proofs.lemmas.Bool.{and_parts, eqb-true}
use Rattle.hm_base.specs.Program.{Program}
use Rattle.hm_history.specs.Memory.Words.{with_at}
use Rattle.hm_history.specs.Memory.Plain.{MirrorState, Attachment, is_attached_state, with_attachment}
use Rattle.hm_history.specs.Memory.Places.{TableEntry}
use Rattle.hm_history.specs.Memory.Sequences.{Interval, Stage, is_odd, interval_proc, is_last_end, interval_inserted, applied_stage, applied, with_seq, with_stage as with_stage}
use Rattle.hm_history.specs.Memory.After.{After}
use Rattle.hm_history.specs.declared.Kind.{Kind}
use Rattle.hm_laws.specs.Past.{Past, past_next}
use Rattle.hm_laws.specs.Sound.{stands_so, Pairing, Paired, MirrorRules, listens, ArrivalRules, PastRules, UntoldRules, Sound}
use Rattle.hm_laws.specs.Allowed.{next, Allowed}
use Rattle.hm_history.specs.Memory.Plain.{Attached, Detaching, Gone}
use Rattle.hm_history.specs.Memory.Sequences.{InTree, InsertDeferred, RemoveDeferred, Removed, Out}
use Rattle.hm_history.proofs.Updates.{other_at, here_at, at_cases, with_case}

-- the mirror of an interval, and the interval of a mirror
pub interval_of : (mirrors : ℕ → Option MirrorState) (interval : ℕ → Option Interval) (device : ℕ → Option ℕ) → MirrorRules mirrors interval device → (m : ℕ) (x : MirrorState) → mirrors m ≡ Some x → (y : Interval) × (interval m ≡ Some y) × Pairing x y (device m)
interval_of mirrors interval device h m x e = by (interval m) refl (subst (λ i. Paired i (interval m) (device m)) e (h.paired m))
  where
    by : (i : Option Interval) → interval m ≡ i → Paired (Some x) i (device m) → (y : Interval) × (interval m ≡ Some y) × Pairing x y (device m)
    by None ei p = absurd p
    by (Some y) ei p = (y, ei, p)

pub no_interval : (mirrors : ℕ → Option MirrorState) (interval : ℕ → Option Interval) (device : ℕ → Option ℕ) → MirrorRules mirrors interval device → (m : ℕ) → mirrors m ≡ None → interval m ≡ None
no_interval mirrors interval device h m e = by (interval m) refl (subst (λ i. Paired i (interval m) (device m)) e (h.paired m))
  where
    by : (i : Option Interval) → interval m ≡ i → Paired None i (device m) → interval m ≡ None
    by None ei p = ei
    by (Some y) ei p = absurd p

pub attached_listens : (t : Attachment) (g : Stage) → stands_so t g ≡ true → is_attached_state (record { dev = 0; proc = 0; window = record { first = 0; count = 0 }; stage = t }) ≡ true → listens g ≡ true
attached_listens Attached InTree h k = refl
attached_listens Attached InsertDeferred h k = refl
attached_listens Attached RemoveDeferred h k = cc
attached_listens Attached Removed h k = cc
attached_listens Attached Out h k = cc
attached_listens Detaching g h k = cc
attached_listens Gone g h k = cc

-- an attached mirror's interval listens
pub listening : (x : MirrorState) (y : Interval) (d : Option ℕ) → Pairing x y d → is_attached_state x ≡ true → listens y.stage ≡ true
listening x y d p h = by x.stage p.stage refl
  where
    is_attached_at : (t : Attachment) → x.stage ≡ t → is_attached_state x ≡ is_attached_state (record { dev = 0; proc = 0; window = record { first = 0; count = 0 }; stage = t })
    is_attached_at t e = ap (λ (i : Attachment). elim i [ Attached ↦ true | Detaching ↦ false | Gone ↦ false ]) e

    by : (t : Attachment) → stands_so t y.stage ≡ true → x.stage ≡ t → listens y.stage ≡ true
    by t s e = attached_listens t y.stage s (sym (is_attached_at t e) ∙ h)

settled_so : (t : Attachment) (g : Stage) → stands_so t g ≡ true → stands_so t (applied_stage g) ≡ true
settled_so Attached InTree h = refl
settled_so Attached InsertDeferred h = refl
settled_so Attached RemoveDeferred h = cc
settled_so Attached Removed h = cc
settled_so Attached Out h = cc
settled_so Detaching InTree h = cc
settled_so Detaching InsertDeferred h = cc
settled_so Detaching RemoveDeferred h = refl
settled_so Detaching Removed h = refl
settled_so Detaching Out h = cc
settled_so Gone InTree h = cc
settled_so Gone InsertDeferred h = cc
settled_so Gone RemoveDeferred h = cc
settled_so Gone Removed h = cc
settled_so Gone Out h = refl

settled_pair : (p : ℕ) (d : Option ℕ) (x : Option MirrorState) (y : Option Interval) → Paired x y d → Paired x (applied p y) d
settled_pair p d None None h = h
settled_pair p d None (Some y) h = absurd h
settled_pair p d (Some x) None h = absurd h
settled_pair p d (Some x) (Some y) h = by (y.proc == p)
  where
    by : (b : Bool) → Paired (Some x) (if b then Some (record y { stage = applied_stage y.stage }) else Some y) d
    by true = record { proc = h.proc; window = h.window; stage = settled_so x.stage y.stage h.stage; device = h.device }
    by false = h

seq_pair : (q : ℕ) (d : Option ℕ) (x : Option MirrorState) (y : Option Interval) → Paired x y d → Paired x (with_seq q y) d
seq_pair q d None None h = h
seq_pair q d None (Some y) h = absurd h
seq_pair q d (Some x) None h = absurd h
seq_pair q d (Some x) (Some y) h = record { proc = h.proc; window = h.window; stage = h.stage; device = h.device }

stage_pair : (t : Attachment) (g : Stage) (d : Option ℕ) (x : Option MirrorState) (y : Option Interval) → stands_so t g ≡ true → Paired x y d → Paired (with_attachment t x) (with_stage g y) d
stage_pair t g d None None e h = h
stage_pair t g d None (Some y) e h = absurd h
stage_pair t g d (Some x) None e h = absurd h
stage_pair t g d (Some x) (Some y) e h = record { proc = h.proc; window = h.window; stage = e; device = h.device }

pub mirrors_kept : (c : Program) (s : After) (t : Past) (a : ℕ) → Sound c s t → (k : Kind) → Allowed c s t a k → MirrorRules (next s a k).plain.mirrors (next s a k).sequences.interval (next s a k).places.device
mirrors_kept c s t a so (Kind.Attached m d p r q) ok = record {
  paired = λ k. with_case (λ i x. Paired x (with_at s.sequences.interval m (Some new) i) (with_at s.places.device m (Some d) i)) s.plain.mirrors m (Some (record { dev = d; proc = p; window = r; stage = Attached })) k
      (λ here. subst (λ y. Paired (Some (record { dev = d; proc = p; window = r; stage = Attached })) y (with_at s.places.device m (Some d) m)) (sym (here_at s.sequences.interval m (Some new)))
      (record { proc = refl; window = refl; stage = by (is_odd (s.sequences.seq p)); device = here_at s.places.device m (Some d) }))
      (λ ne. subst (λ y. Paired (s.plain.mirrors k) y (with_at s.places.device m (Some d) k)) (sym (other_at s.sequences.interval m k (Some new) ne)) (subst (λ y. Paired (s.plain.mirrors k) (s.sequences.interval k) y) (sym (other_at s.places.device m k (Some d) ne)) (so.mirrors.paired k)));
}
  where
    new : Interval
    new = record { proc = p; window = r; seq = interval_inserted s.sequences p; stage = if is_odd (s.sequences.seq p) then InsertDeferred else InTree }

    by : (b : Bool) → stands_so Attached (if b then InsertDeferred else InTree) ≡ true
    by true = refl
    by false = refl
mirrors_kept c s t a so (Kind.Detaching m q) ok = record {
  paired = λ k. with_case (λ i x. Paired x (with_at s.sequences.interval m (with_stage RemoveDeferred (s.sequences.interval m)) i) (s.places.device i)) s.plain.mirrors m (with_attachment Detaching (s.plain.mirrors m)) k
      (λ here. subst (λ y. Paired (with_attachment Detaching (s.plain.mirrors m)) y (s.places.device m)) (sym (here_at s.sequences.interval m _)) (stage_pair Detaching RemoveDeferred (s.places.device m) (s.plain.mirrors m) (s.sequences.interval m) refl (so.mirrors.paired m)))
      (λ ne. subst (λ y. Paired (s.plain.mirrors k) y (s.places.device k)) (sym (other_at s.sequences.interval m k _ ne)) (so.mirrors.paired k));
}
mirrors_kept c s t a so (Kind.Detached m) ok = record {
  paired = λ k. with_case (λ i x. Paired x (with_at s.sequences.interval m (with_stage Out (s.sequences.interval m)) i) (s.places.device i)) s.plain.mirrors m (with_attachment Gone (s.plain.mirrors m)) k
      (λ here. subst (λ y. Paired (with_attachment Gone (s.plain.mirrors m)) y (s.places.device m)) (sym (here_at s.sequences.interval m _)) (stage_pair Gone Out (s.places.device m) (s.plain.mirrors m) (s.sequences.interval m) refl (so.mirrors.paired m)))
      (λ ne. subst (λ y. Paired (s.plain.mirrors k) y (s.places.device k)) (sym (other_at s.sequences.interval m k _ ne)) (so.mirrors.paired k));
}
mirrors_kept c s t a so (Kind.Told m r q) ok = record {
  paired = λ k. with_case (λ i y. Paired (s.plain.mirrors i) y (s.places.device i)) s.sequences.interval m (with_seq (s.sequences.seq (interval_proc s.sequences m)) (s.sequences.interval m)) k
      (λ here. seq_pair _ (s.places.device m) (s.plain.mirrors m) (s.sequences.interval m) (so.mirrors.paired m)) (λ ne. so.mirrors.paired k);
}
mirrors_kept c s t a so (Kind.End p r q) ok = record { paired = λ k. by k (is_last_end s.sequences p) }
  where
    by : (k : ℕ) (b : Bool) → Paired (s.plain.mirrors k) (if b then applied p (s.sequences.interval k) else s.sequences.interval k) (s.places.device k)
    by k true = settled_pair p (s.places.device k) (s.plain.mirrors k) (s.sequences.interval k) (so.mirrors.paired k)
    by k false = so.mirrors.paired k
mirrors_kept c s t a so k ok = so.mirrors

standing_been : (t : Attachment) (been : ℕ → Bool) (mirrors : ℕ → Option MirrorState) (m k : ℕ) (x : MirrorState) → ArrivalRules been mirrors → with_at mirrors m (with_attachment t (mirrors m)) k ≡ Some x → been x.proc ≡ true
standing_been t been mirrors m k x h e = by (at_cases mirrors m k (with_attachment t (mirrors m)) x e)
  where
    proc : (y : Option MirrorState) → with_attachment t y ≡ Some x → (z : MirrorState) × (y ≡ Some z) × (z.proc ≡ x.proc)
    proc None i = cc
    proc (Some z) i = (z, refl, ap (λ (j : Option MirrorState). elim j [ None ↦ 0 | Some w ↦ w.proc ]) i)

    by : ((k ≡ m) × (with_attachment t (mirrors m) ≡ Some x)) ⊎ ((k ≡ m → ⊥) × (mirrors k ≡ Some x)) → been x.proc ≡ true
    by (inl i) = at (proc (mirrors m) i.1)
      where
        at : (z : MirrorState) × (mirrors m ≡ Some z) × (z.proc ≡ x.proc) → been x.proc ≡ true
        at z = ap been (sym z.2) ∙ h.of_been m z.0 z.1
    by (inr i) = h.of_been k x i.1

pub arrivals_kept : (c : Program) (s : After) (t : Past) (a : ℕ) → Sound c s t → (k : Kind) → Allowed c s t a k → ArrivalRules (next s a k).plain.been (next s a k).plain.mirrors
arrivals_kept c s t a so (Kind.Forked p d) ok = record { of_been = λ m x e. grind (arith, nat_tests, so.arrivals.of_been m x) }
arrivals_kept c s t a so (Kind.Attached m d p r q) ok = record { of_been = λ k x e. by k x (at_cases s.plain.mirrors m k (Some new) x e) }
  where
    new : MirrorState
    new = record { dev = d; proc = p; window = r; stage = Attached }

    same : (x : MirrorState) → Some new ≡ Some x → p ≡ x.proc
    same x h = ap (λ (z : Option MirrorState). elim z [ None ↦ 0 | Some i ↦ i.proc ]) h

    by : (k : ℕ) (x : MirrorState) → ((k ≡ m) × (Some new ≡ Some x)) ⊎ ((k ≡ m → ⊥) × (s.plain.mirrors k ≡ Some x)) → s.plain.been x.proc ≡ true
    by k x (inl h) = ap s.plain.been (sym (same x h.1)) ∙ so.processes.there_been p (and_parts (s.plain.there p) (is_none (s.plain.mirrors m)) ok.1).0
    by k x (inr h) = so.arrivals.of_been k x h.1
arrivals_kept c s t a so (Kind.Detaching m q) ok = record { of_been = λ k x e. standing_been Detaching s.plain.been s.plain.mirrors m k x so.arrivals e }
arrivals_kept c s t a so (Kind.Detached m) ok = record { of_been = λ k x e. standing_been Gone s.plain.been s.plain.mirrors m k x so.arrivals e }
arrivals_kept c s t a so k ok = so.arrivals

-- the past
older : (n : ℕ) (t : Past) → PastRules n t → PastRules (n + 1) t
older n t h = record {
  told_below = λ m v. omega (arith, h.told_below m v);
  begun_below = λ b m i e. omega (arith, h.begun_below b m i e);
}

pub past_kept : (c : Program) (s : After) (t : Past) (a : ℕ) → Sound c s t → (k : Kind) → Allowed c s t a k → PastRules (next s a k).length (past_next t s.length a k)
past_kept c s t a so (Kind.Named p d) ok = record {
  told_below = (older s.length t so.past).told_below;
  begun_below = (older s.length t so.past).begun_below;
}
past_kept c s t a so (Kind.Detaching m q) ok = record {
  told_below = (older s.length t so.past).told_below;
  begun_below = (older s.length t so.past).begun_below;
}
past_kept c s t a so (Kind.Told m r q) ok = record {
  told_below = λ k v. grind (arith, nat_tests, so.past.told_below k v);
  begun_below = (older s.length t so.past).begun_below;
}
past_kept c s t a so (Kind.Begin m q) ok = record {
  told_below = (older s.length t so.past).told_below;
  begun_below = λ b k i e. by b k i (b == a) refl (k == m) refl e (so.past.begun_below b k i);
}
  where
    by : (b k i : ℕ) (x : Bool) → (b == a) ≡ x → (y : Bool) → (k == m) ≡ y → (if x && y then Some s.length else t.begun b k) ≡ Some i → (t.begun b k ≡ Some i → i < s.length) → i < s.length + 1
    by b k i true ex true ey e h = grind arith
    by b k i true ex false ey e h = omega (arith, h e)
    by b k i false ex y ey e h = omega (arith, h e)
past_kept c s t a so (Kind.Set m v f w from) ok = record {
  told_below = (older s.length t so.past).told_below;
  begun_below = (older s.length t so.past).begun_below;
}
past_kept c s t a so k ok = older s.length t so.past

-- table entries, and who was told
pub untold_kept : (c : Program) (s : After) (t : Past) (a : ℕ) → Sound c s t → (k : Kind) → Allowed c s t a k → UntoldRules (next s a k).places.table (past_next t s.length a k).told (past_next t s.length a k).rightly
untold_kept c s t a so (Kind.Told m r q) ok = record {
  untold = λ k v e h. grind (arith, nat_tests, so.untold.untold k v e);
  set_rightly = λ k v e h. grind (arith, nat_tests, so.untold.set_rightly k v e);
}
untold_kept c s t a so (Kind.Detaching m q) ok = record {
  untold = λ k v e h. grind (arith, nat_tests, so.untold.untold k v e);
  set_rightly = λ k v e h. grind (arith, nat_tests, so.untold.set_rightly k v e);
}
untold_kept c s t a so (Kind.Detached m) ok = record {
  untold = λ k v e h. grind (arith, nat_tests, so.untold.untold k v e);
  set_rightly = λ k v e h. grind (arith, nat_tests, so.untold.set_rightly k v e);
}
untold_kept c s t a so (Kind.Set m v f w from) ok = record {
  untold = λ k u e h. by k u e (k == m) refl (u == v) refl h;
  set_rightly = λ k u e h. grind (arith, nat_tests, so.untold.set_rightly k u e, ok.rightly);
}
  where
    by : (k u : ℕ) (e : TableEntry) (x : Bool) → (k == m) ≡ x → (y : Bool) → (u == v) ≡ y → (if x && y then Some (record { target = f; right = w; from = from }) else s.places.table k u) ≡ Some e → t.told k u ≤ e.from
    by k u e true ex true ey h = rw (eqb-true k m ex, eqb-true u v ey) (subst (λ i. t.told m v ≤ i) (ap (λ (z : Option TableEntry). elim z [ None ↦ 0 | Some i ↦ i.from ]) h) ok.untold)
    by k u e true ex false ey h = so.untold.untold k u e h
    by k u e false ex y ey h = so.untold.untold k u e h
untold_kept c s t a so k ok = so.untold
