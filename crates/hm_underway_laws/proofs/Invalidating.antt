-- What stays empty in mirrors' tables as long as an invalidation is under way.
use Rattle.std.proofs.Common.{◌≡◌, ℕ, ◌+◌, ◌-◌, ◌<◌, ◌⊎◌, inl, inr, Bool, true, false, ◌==◌, ◌&&◌, ◌||◌, not, nat_lt, if◌then◌else◌, Option, Some, None, List, [], ◌∷◌, ◌++◌, refl, sym, ap, ◌∙◌, subst, arith, append_assoc, append-nil}
use Rattle.std.specs.List.{list_any}
use Rattle.std.proofs.lemmas.Bool.Decides.{nat_tests}
use Rattle.std.proofs.lemmas.Bool.{eqb-true}
use Rattle.std.proofs.lemmas.List.Sums.{fold-append}
use Rattle.hm_base.specs.Pages.{Pages, covers}
use Rattle.hm_base.specs.Program.{Program, IsScript}
use Rattle.hm_history.specs.Memory.Words.{with_at}
use Rattle.hm_history.specs.Memory.Plain.{mirror_passes, is_attached_state}
use Rattle.hm_history.specs.Memory.Sequences.{Interval, Guarded, is_odd, deferred_state, interval_proc, interval_inserted, seq_inserted, with_seq, overlapping, with_told}
use Rattle.hm_history.specs.Kernel.Stacks.{is_end}
use Rattle.hm_history.specs.Memory.After.{After, after, after_entry}
use Rattle.hm_history.specs.Kernel.Going.{State, state_of, state_of-snoc}
use Rattle.hm_history.specs.Kernel.Due.{due}
use Rattle.hm_history.specs.Laws.{DueFrom}
use Rattle.hm_history.specs.declared.Entry.{Entry}
use Rattle.hm_history.specs.declared.Kind.{Kind}
use Rattle.hm_history.specs.declared.Progress.{Progress}
use Rattle.hm_laws.specs.Past.{Past, past_start, past_next}
use Rattle.hm_laws.specs.Sound.{Sound}
use Rattle.hm_laws.specs.Allowed.{next, Allowed}
use Rattle.hm_laws.specs.Stands.{Standing}
use Rattle.hm_laws.proofs.Histories.Sound.{Small, small, at_start, standing_on, standing_after, turn_of, after_is}
use Rattle.hm_laws.proofs.Kept.Attached.{new_mirror}
use Rattle.hm_laws.proofs.State.Invalidations.{odd_next, active_of, ToldTo, told_says, Overlapping, overlaps_says}
use Rattle.hm_history.proofs.Updates.{here_at, at_cases}
use Rattle.hm_history.proofs.Tests.{true_false}
use Rattle.hm_underway_laws.specs.Invalidating.{IsOneOf, ToldInGuard, IsEmptied, Since, with_newcomer, since_next, since_start, ToldStaysEmpty, DeferredStaysEmpty, NewcomerStaysEmpty}
use Rattle.hm_underway_laws.proofs.Still.{Has, still_of, still_next, none_next}

-- the newcomers of a guard under way
pub record Newcomers (s : After) (x : Option Since) (g : Guarded) : Type 0 where
  pub since : Since
  pub is : x ≡ Some since
  pub proc : since.proc ≡ g.proc
  pub emptied : (m : ℕ) → IsOneOf m since.mirrors → IsEmptied s m g.proc

-- what holds of each guard under way
pub record Invalidates (s : After) (since : ℕ → Option Since) : Type 0 where
  pub told : (b : ℕ) (g : Guarded) → s.sequences.guard b ≡ Some g → (m : ℕ) → IsOneOf m g.told → ToldInGuard s m g
  pub came : (b : ℕ) (g : Guarded) → s.sequences.guard b ≡ Some g → Newcomers s (since b) g

-- after an entry of another, or of the actor but no start and no end
if_same : {X : Type 0} (b : Bool) (x : X) → (if b then x else x) ≡ x
if_same true x = refl
if_same false x = refl

if_not : {X : Type 0} (a b : ℕ) (x y : X) → (b ≡ a → ⊥) → (if a == b then x else y) ≡ y
if_not a b x y ne = by (a == b) refl
  where
    by : (d : Bool) → (a == b) ≡ d → (if d then x else y) ≡ y
    by true e = absurd (ne (sym (eqb-true a b e)))
    by false e = refl

if_so : {X : Type 0} (a b : ℕ) (x y : X) → b ≡ a → (if a == b then x else y) ≡ x
if_so a b x y e = by (a == b) refl
  where
    by : (d : Bool) → (a == b) ≡ d → (if d then x else y) ≡ x
    by true k = refl
    by false k = absurd (grind (arith, nat_tests))

module _ (c : Program) (s : After) (t : Past) (a : ℕ) (so : Sound c s t) (k : Kind) (ok : Allowed c s t a k) where
  emptied_next : (b : ℕ) (g : Guarded) → s.sequences.guard b ≡ Some g → (b ≡ a → is_end k ≡ false) → (m : ℕ) → IsEmptied s m g.proc → IsEmptied (next s a k) m g.proc
  emptied_next b g is ne m h = record {
    still = still_next c s t a so k ok b g is ne m h.still;
    empty = λ v. none_next c s t a so k ok m g.proc h.still v (h.empty v);
  }

  told_next : (b : ℕ) (g : Guarded) → s.sequences.guard b ≡ Some g → (b ≡ a → is_end k ≡ false) → (m : ℕ) → ToldInGuard s m g → ToldInGuard (next s a k) m g
  told_next b g is ne m h = record {
    still = still_next c s t a so k ok b g is ne m h.still;
    empty = λ v i. none_next c s t a so k ok m g.proc h.still v (h.empty v i);
  }

  newcomers_next : (b : ℕ) (g : Guarded) (x y : Option Since) → s.sequences.guard b ≡ Some g → (b ≡ a → is_end k ≡ false) → y ≡ x → Newcomers s x g → Newcomers (next s a k) y g
  newcomers_next b g x y is ne e h = record {
    since = h.since;
    is = e ∙ h.is;
    proc = h.proc;
    emptied = λ m i. emptied_next b g is ne m (h.emptied m i);
  }

none_of : (m : ℕ) → IsOneOf m [] → ⊥
none_of m h = cc

-- one of a list with one more at its end, or at its front
one_more : (m k : ℕ) (l : List ℕ) → IsOneOf m (l ++ k ∷ []) → IsOneOf m l ⊎ (k ≡ m)
one_more m k [] h = by (k == m) refl h
  where
    by : (b : Bool) → (k == m) ≡ b → (b || false) ≡ true → IsOneOf m [] ⊎ (k ≡ m)
    by true e i = inr (eqb-true k m e)
    by false e i = cc
one_more m k (x ∷ xs) h = by (x == m) h (one_more m k xs)
  where
    by : (b : Bool) → (b || list_any (λ j. j == m) (xs ++ k ∷ [])) ≡ true → (IsOneOf m (xs ++ k ∷ []) → IsOneOf m xs ⊎ (k ≡ m)) → ((b || list_any (λ j. j == m) xs) ≡ true) ⊎ (k ≡ m)
    by true i rest = inl refl
    by false i rest = rest i

first_or : (m k : ℕ) (l : List ℕ) → IsOneOf m (k ∷ l) → (k ≡ m) ⊎ IsOneOf m l
first_or m k l h = by (k == m) refl h
  where
    by : (b : Bool) → (k == m) ≡ b → (b || list_any (λ j. j == m) l) ≡ true → (k ≡ m) ⊎ IsOneOf m l
    by true e i = inl (eqb-true k m e)
    by false e i = inr i

-- a mirror that is told now
just_told : (c : Program) (s : After) (t : Past) (a m : ℕ) (r : Pages) (q : ℕ) (g : Guarded) → Sound c s t → s.sequences.guard a ≡ Some g → ToldTo s.sequences m r g → ToldInGuard (next s a (Kind.Told m r q)) m (record g { told = g.told ++ m ∷ [] })
just_told c s t a m r q g so is to = record {
  still = still_of (next s a (Kind.Told m r q)) m g.proc (s.sequences.seq g.proc) (subst (Has g.proc (s.sequences.seq g.proc)) (sym (here_at s.sequences.interval m _)) has) refl (so.sequences.met_odd a g is to.met);
  empty = λ v i. erased v (ap (λ w. covers w v) (sym to.span) ∙ i);
}
  where
    o : Overlapping s.sequences g.proc g.span m
    o = overlaps_says s.sequences g.proc g.span m to.overlaps_it

    seq_is : s.sequences.seq (interval_proc s.sequences m) ≡ s.sequences.seq g.proc
    seq_is = ap s.sequences.seq (ap (λ (x : Option Interval). elim x [ None ↦ 0 | Some y ↦ y.proc ]) o.is ∙ o.proc)

    has : Has g.proc (s.sequences.seq g.proc) (with_seq (s.sequences.seq (interval_proc s.sequences m)) (s.sequences.interval m))
    has = subst (λ x. Has g.proc (s.sequences.seq g.proc) (with_seq (s.sequences.seq (interval_proc s.sequences m)) x)) (sym o.is) (record o.interval { seq = s.sequences.seq (interval_proc s.sequences m) }, refl, o.proc, seq_is)

    erased : (v : ℕ) → covers r v ≡ true → (if (m == m) && covers r v then None else s.places.table m v) ≡ None
    erased v i = by (m == m) refl
      where
        by : (b : Bool) → (m == m) ≡ b → (if b && covers r v then None else s.places.table m v) ≡ None
        by true e = rw i refl
        by false e = absurd (true_false (m == m) (grind (arith, nat_tests)) e)

-- a mirror that is attached now, to the process of a guard
just_attached : (c : Program) (s : After) (t : Past) (a m d p : ℕ) (r : Pages) (q : ℕ) (b : ℕ) (g : Guarded) → Sound c s t → Allowed c s t a (Kind.Attached m d p r q) → s.sequences.guard b ≡ Some g → g.proc ≡ p → IsEmptied (next s a (Kind.Attached m d p r q)) m g.proc
just_attached c s t a m d p r q b g so ok is e = record {
  still = still_of (next s a (Kind.Attached m d p r q)) m g.proc (seq_inserted s.sequences p) (subst (Has g.proc (seq_inserted s.sequences p)) (sym (here_at s.sequences.interval m _)) (_, refl, sym e, o.0)) (ap (with_at s.sequences.seq p (seq_inserted s.sequences p)) e ∙ here_at s.sequences.seq p (seq_inserted s.sequences p)) o.1;
  empty = λ v. so.tables.unattached m v (ap (mirror_passes is_attached_state) (new_mirror c s t a m d p r q so ok.1).0);
}
  where
    odds : (o b : Bool) → is_odd (s.sequences.seq p) ≡ o → nat_lt 0 (s.sequences.active p) ≡ b → 0 < s.sequences.active p → ((if o then s.sequences.seq p else if b then s.sequences.seq p + 1 else (s.sequences.seq p - 1)) ≡ (if not o && b then s.sequences.seq p + 1 else s.sequences.seq p)) × (is_odd (if not o && b then s.sequences.seq p + 1 else s.sequences.seq p) ≡ true)
    odds true b eo eb l = (refl, eo)
    odds false true eo eb l = (refl, odd_next (s.sequences.seq p) eo)
    odds false false eo eb l = absurd (grind (arith, nat_tests))

    o : (interval_inserted s.sequences p ≡ seq_inserted s.sequences p) × (is_odd (seq_inserted s.sequences p) ≡ true)
    o = odds (is_odd (s.sequences.seq p)) (nat_lt 0 (s.sequences.active p)) refl refl (active_of s.sequences so.sequences b p g is e)

of_sound : (c : Program) (s : After) (t : Past) (m : ℕ) (y : Interval) → Sound c s t → s.sequences.interval m ≡ Some y → deferred_state y.stage ≡ true → IsEmptied s m y.proc
of_sound c s t m y so e f = record {
  still = record { interval = y; is = e; proc = refl; same = (so.sequences.deferred m y e f).0; odd = (so.sequences.deferred m y e f).1 };
  empty = λ v. so.guards.waits m v y e f;
}

same_guard : (x y : Guarded) → Some x ≡ Some y → x ≡ y
same_guard x y e = cc

step : (c : Program) (s : After) (t : Past) (a : ℕ) (since : ℕ → Option Since) → Sound c s t → (k : Kind) → Allowed c s t a k → Invalidates s since → Invalidates (next s a k) (λ b. since_next b (since b) (record { actor = a; kind = k }))
step c s t a since so (Kind.Start p r q) ok h = record {
  told = λ b g e m i. told b g m i (at_cases s.sequences.guard a b (Some new) g e);
  came = λ b g e. came b g (at_cases s.sequences.guard a b (Some new) g e);
}
  where
    k : Kind
    k = Kind.Start p r q

    new : Guarded
    new = record { proc = p; span = r; met = overlapping s.sequences p r; told = [] }

    told : (b : ℕ) (g : Guarded) (m : ℕ) → IsOneOf m g.told → ((b ≡ a) × (Some new ≡ Some g)) ⊎ ((b ≡ a → ⊥) × (s.sequences.guard b ≡ Some g)) → ToldInGuard (next s a (Kind.Start p r q)) m g
    told b g m i (inl e) = absurd (none_of m (subst (λ (j : Guarded). IsOneOf m j.told) (sym (same_guard new g e.1)) i))
    told b g m i (inr e) = told_next c s t a so (Kind.Start p r q) ok b g e.1 (λ x. refl) m (h.told b g e.1 m i)

    came : (b : ℕ) (g : Guarded) → ((b ≡ a) × (Some new ≡ Some g)) ⊎ ((b ≡ a → ⊥) × (s.sequences.guard b ≡ Some g)) → Newcomers (next s a (Kind.Start p r q)) (since_next b (since b) (record { actor = a; kind = Kind.Start p r q })) g
    came b g (inl e) = record {
      since = record { proc = p; mirrors = [] };
      is = if_so a b _ _ e.0;
      proc = ap (λ (j : Guarded). j.proc) (same_guard new g e.1);
      emptied = λ m i. absurd (none_of m i);
    }
    came b g (inr e) = newcomers_next c s t a so (Kind.Start p r q) ok b g (since b) _ e.1 (λ x. refl) (if_not a b _ _ e.0) (h.came b g e.1)
step c s t a since so (Kind.Told m r q) ok h = record {
  told = λ b g e i j. told b g i j (at_cases s.sequences.guard a b _ g e);
  came = λ b g e. came b g (at_cases s.sequences.guard a b _ g e);
}
  where
    own : (g : Guarded) × (s.sequences.guard a ≡ Some g) × ToldTo s.sequences m r g
    own = told_says s.sequences a m r q ok

    new : Guarded
    new = record own.0 { told = own.0.told ++ m ∷ [] }

    is_new : (g : Guarded) → with_told m (s.sequences.guard a) ≡ Some g → new ≡ g
    is_new g e = same_guard new g (sym (ap (with_told m) own.1) ∙ e)

    of_new : (i : ℕ) → IsOneOf i own.0.told ⊎ (m ≡ i) → ToldInGuard (next s a (Kind.Told m r q)) i new
    of_new i (inl j) = let x : ToldInGuard (next s a (Kind.Told m r q)) i own.0 = told_next c s t a so (Kind.Told m r q) ok a own.0 own.1 (λ e. refl) i (h.told a own.0 own.1 i j) in record { still = x.still; empty = x.empty }
    of_new i (inr e) = subst (λ l. ToldInGuard (next s a (Kind.Told m r q)) l new) e (just_told c s t a m r q own.0 so own.1 own.2)

    told : (b : ℕ) (g : Guarded) (i : ℕ) → IsOneOf i g.told → ((b ≡ a) × (with_told m (s.sequences.guard a) ≡ Some g)) ⊎ ((b ≡ a → ⊥) × (s.sequences.guard b ≡ Some g)) → ToldInGuard (next s a (Kind.Told m r q)) i g
    told b g i j (inl e) = subst (ToldInGuard (next s a (Kind.Told m r q)) i) (is_new g e.1) (of_new i (one_more i m own.0.told (subst (λ (l : Guarded). IsOneOf i l.told) (sym (is_new g e.1)) j)))
    told b g i j (inr e) = told_next c s t a so (Kind.Told m r q) ok b g e.1 (λ x. refl) i (h.told b g e.1 i j)

    came_new : (b : ℕ) → b ≡ a → Newcomers (next s a (Kind.Told m r q)) (since_next b (since b) (record { actor = a; kind = Kind.Told m r q })) new
    came_new b e = let guard : s.sequences.guard b ≡ Some own.0 = ap s.sequences.guard e ∙ own.1 in
        let x : Newcomers (next s a (Kind.Told m r q)) (since_next b (since b) (record { actor = a; kind = Kind.Told m r q })) own.0 = newcomers_next c s t a so (Kind.Told m r q) ok b own.0 (since b) _ guard (λ x. refl) (if_same (a == b) (since b)) (h.came b own.0 guard) in
        record { since = x.since; is = x.is; proc = x.proc; emptied = x.emptied }

    came : (b : ℕ) (g : Guarded) → ((b ≡ a) × (with_told m (s.sequences.guard a) ≡ Some g)) ⊎ ((b ≡ a → ⊥) × (s.sequences.guard b ≡ Some g)) → Newcomers (next s a (Kind.Told m r q)) (since_next b (since b) (record { actor = a; kind = Kind.Told m r q })) g
    came b g (inl e) = subst (Newcomers (next s a (Kind.Told m r q)) (since_next b (since b) (record { actor = a; kind = Kind.Told m r q }))) (is_new g e.1) (came_new b e.0)
    came b g (inr e) = newcomers_next c s t a so (Kind.Told m r q) ok b g (since b) _ e.1 (λ x. refl) (if_same (a == b) (since b)) (h.came b g e.1)
step c s t a since so (Kind.End p r q) ok h = record {
  told = λ b g e m i. told b g m i (at_cases s.sequences.guard a b None g e);
  came = λ b g e. came b g (at_cases s.sequences.guard a b None g e);
}
  where
    none_some : (g : Guarded) → None ≡ Some g → ⊥
    none_some g e = cc

    told : (b : ℕ) (g : Guarded) (m : ℕ) → IsOneOf m g.told → ((b ≡ a) × (None ≡ Some g)) ⊎ ((b ≡ a → ⊥) × (s.sequences.guard b ≡ Some g)) → ToldInGuard (next s a (Kind.End p r q)) m g
    told b g m i (inl e) = absurd (none_some g e.1)
    told b g m i (inr e) = told_next c s t a so (Kind.End p r q) ok b g e.1 (λ x. absurd (e.0 x)) m (h.told b g e.1 m i)

    came : (b : ℕ) (g : Guarded) → ((b ≡ a) × (None ≡ Some g)) ⊎ ((b ≡ a → ⊥) × (s.sequences.guard b ≡ Some g)) → Newcomers (next s a (Kind.End p r q)) (since_next b (since b) (record { actor = a; kind = Kind.End p r q })) g
    came b g (inl e) = absurd (none_some g e.1)
    came b g (inr e) = newcomers_next c s t a so (Kind.End p r q) ok b g (since b) _ e.1 (λ x. absurd (e.0 x)) (if_not a b _ _ e.0) (h.came b g e.1)
step c s t a since so (Kind.Attached m d p r q) ok h = record {
  told = λ b g e i j. told_next c s t a so (Kind.Attached m d p r q) ok b g e (λ x. refl) i (h.told b g e i j);
  came = λ b g e. came b g e (h.came b g e);
}
  where
    came : (b : ℕ) (g : Guarded) → s.sequences.guard b ≡ Some g → Newcomers s (since b) g → Newcomers (next s a (Kind.Attached m d p r q)) (since_next b (since b) (record { actor = a; kind = Kind.Attached m d p r q })) g
    came b g e n = by (n.since.proc == p) refl
      where
        old : (i : ℕ) → IsOneOf i n.since.mirrors → IsEmptied (next s a (Kind.Attached m d p r q)) i g.proc
        old i j = emptied_next c s t a so (Kind.Attached m d p r q) ok b g e (λ x. refl) i (n.emptied i j)

        is : (y : Option Since) → (if n.since.proc == p then Some (record n.since { mirrors = m ∷ n.since.mirrors }) else Some n.since) ≡ y → since_next b (since b) (record { actor = a; kind = Kind.Attached m d p r q }) ≡ y
        is y i = if_same (a == b) (with_newcomer m p (since b)) ∙ ap (with_newcomer m p) n.is ∙ i

        either : (i : ℕ) → n.since.proc ≡ p → (m ≡ i) ⊎ IsOneOf i n.since.mirrors → IsEmptied (next s a (Kind.Attached m d p r q)) i g.proc
        either i to (inl j) = subst (λ l. IsEmptied (next s a (Kind.Attached m d p r q)) l g.proc) j (just_attached c s t a m d p r q b g so ok e (sym n.proc ∙ to))
        either i to (inr j) = old i j

        by : (x : Bool) → (n.since.proc == p) ≡ x → Newcomers (next s a (Kind.Attached m d p r q)) (since_next b (since b) (record { actor = a; kind = Kind.Attached m d p r q })) g
        by true x = record {
          since = record n.since { mirrors = m ∷ n.since.mirrors };
          is = is (Some (record n.since { mirrors = m ∷ n.since.mirrors })) (rw x refl);
          proc = n.proc;
          emptied = λ i j. either i (eqb-true n.since.proc p x) (first_or i m n.since.mirrors j);
        }
        by false x = record { since = n.since; is = is (Some n.since) (rw x refl); proc = n.proc; emptied = old }
step c s t a since so k ok h = record {
  told = λ b g e m i. told_next c s t a so k ok b g e (λ x. refl) m (h.told b g e m i);
  came = λ b g e. newcomers_next c s t a so k ok b g (since b) _ e (λ x. refl) (if_same (a == b) (since b)) (h.came b g e);
}

-- after each history of entries that were due
since_on : (b : ℕ) (h : List Entry) (e : Entry) → since_start b (h ++ e ∷ []) ≡ since_next b (since_start b h) e
since_on b h e = fold-append (since_next b) None h (e ∷ [])

invalidates_on : (c : Program) (h : List Entry) (e : Entry) (t : Past) → Small c → Standing c (state_of c h) t → due c h e.actor ≡ Progress.Did e → Invalidates (state_of c h).after (λ b. since_start b h) → Invalidates (state_of c (h ++ e ∷ [])).after (λ b. since_start b (h ++ e ∷ []))
invalidates_on c h e t sm st d i =
    let one : Invalidates (after_entry (state_of c h).after e) (λ b. since_next b (since_start b h) e) = step c (state_of c h).after t e.actor (λ b. since_start b h) st.sound e.kind (turn_of c (state_of c h) t e sm st d).allowed i in
    subst (λ (u : State). Invalidates u.after (λ b. since_start b (h ++ e ∷ []))) (sym (state_of-snoc c h e))
    (record {
      told = one.told;
      came = λ b g k. let n = one.came b g k in record { since = n.since; is = since_on b h e ∙ n.is; proc = n.proc; emptied = n.emptied };
    })

invalidates_after : (c : Program) (h es : List Entry) (t : Past) → Small c → Standing c (state_of c h) t → DueFrom c h es → Invalidates (state_of c h).after (λ b. since_start b h) → Invalidates (state_of c (h ++ es)).after (λ b. since_start b (h ++ es))
invalidates_after c h [] t sm st d i = rw (append-nil h) i
invalidates_after c h (e ∷ es) t sm st d i = subst (λ l. Invalidates (state_of c l).after (λ b. since_start b l)) (append_assoc h (e ∷ []) es)
    (invalidates_after c (h ++ e ∷ []) es (past_next t (state_of c h).after.length e.actor e.kind) sm (standing_on c h e t sm st d.0) d.1 (invalidates_on c h e t sm st d.0 i))

at_first : (c : Program) → Invalidates (state_of c []).after (λ b. since_start b [])
at_first c = record { told = λ b g e. cc; came = λ b g e. cc }

invalidates : (c : Program) → IsScript c → (h : List Entry) → DueFrom c [] h → Invalidates (after h) (λ b. since_start b h)
invalidates c sc h d = subst (λ s. Invalidates s (λ b. since_start b h)) (after_is c h) (invalidates_after c [] h past_start (small c sc) (at_start c (small c sc)) d (at_first c))

pub told_stays_empty : ToldStaysEmpty
told_stays_empty c sc h d a g e m i = (invalidates c sc h d).told a g e m i

pub newcomer_stays_empty : NewcomerStaysEmpty
newcomer_stays_empty c sc h d a g e = let n = (invalidates c sc h d).came a g e in (n.since, n.is, n.proc, n.emptied)

pub deferred_stays_empty : DeferredStaysEmpty
deferred_stays_empty c sc h d m y e f =
    let st : (t : Past) × Standing c (state_of c h) t = standing_after c [] h past_start (small c sc) (at_start c (small c sc)) d in
    subst (λ s. s.sequences.interval m ≡ Some y → IsEmptied s m y.proc) (after_is c h) (λ i. of_sound c (state_of c h).after st.0 m y st.1.sound i f) e
