-- No legal history breaks a rule of invalidations: each entry keeps what is known of callbacks.
use Rattle.std.proofs.Common.{refl, ap, sym, subst, ◌∙◌, cond, inl, inr}
use Rattle.std.proofs.lemmas.Bool.{true≢false, false≢true, cases_eq}
use Rattle.std.specs.Prelude.{◌≡◌, ℕ, ◌⊎◌, Bool, true, false, not, ◌&&◌, ◌==◌, if◌then◌else◌, Option, Some, None}
use Rattle.std.specs.Prelude.{is_some, is_none, List, [], ◌∷◌, ◌++◌, map, find, option_map, count_by}
use Rattle.std.specs.List.{list_any}
use Rattle.hm_base.specs.Pages.{Pages, overlap}
use Rattle.hm_history.specs.Memory.Words.{with_at}
use Rattle.hm_history.specs.Memory.Sequences.{Sequences, Guarded, sequences_next, sequences_accept}
use Rattle.hm_history.specs.Memory.Sequences.{overlapping, with_told, all_told}
use Rattle.hm_history.specs.declared.Kind.{Kind}
use Rattle.hm_history.proofs.Updates.{here_at, other_at}
use Rattle.hm_laws.proofs.State.Invalidations.{ToldTo, end_says, told_says}
use Rattle.hm_laws.proofs.Migration.Setup.{at_itself}
use Rattle.hm_protocol.specs.declared.events.Event.{Event}
use Rattle.hm_protocol.specs.declared.events.Reason.{Reason}
use Rattle.hm_protocol.specs.Words.{drop_if, is_it}
use Rattle.hm_protocol.specs.Known.{Inside, Call, Known, is_current}
use Rattle.hm_protocol.specs.Noted.{known_next, inside, call, returned, after_end, over, migrates_for}
use Rattle.hm_protocol.proofs.Steps.{GoBy, by, by_thread, and_more}
use Rattle.hm_protocol.proofs.Tellings.{Tells}
use Rattle.hm_protocol.proofs.Calls.{Core, core, cores, cores_keep, Going, CallOk, AllCalls, GuardKnown, AllPast, KnowsCalls}
use Rattle.hm_protocol.proofs.Calls.{all_calls}
use Rattle.hm_protocol.proofs.Guarding.{told_wrong}

-- ---- the state goes on

-- guards stay, and so does each callback
pub advance : (s u : Sequences) (k : Known) → ((t : ℕ) → GuardKnown (s.guard t) (k.under t) → GuardKnown (u.guard t) (k.under t))
    → ((t m q : ℕ) → Tells s t m q → Tells u t m q) → KnowsCalls s k → KnowsCalls u k
advance s u k g h kn = record {
  guards = λ t. g t (kn.guards t);
  calls = all_calls s u k.under k.under (λ c ok. (
    ok.0,
    λ e. let y : Going s k.under c = ok.1 e in record {
      tells = h c.thread c.mirror c.seq y.tells;
      inside = y.inside;
      is_inside = y.is_inside;
      is_of = y.is_of;
    },
  )) (cores k) kn.calls;
  none_early = kn.none_early;
  past = kn.past;
}

-- ---- an invalidation begins

pub started : (s : Sequences) (k : Known) (a p z : ℕ) (r : Pages) (why : Reason) (d : Option ℕ) → s.guard a ≡ None
    → ((t m q : ℕ) → Tells s t m q → Tells (sequences_next s a (Kind.Start p r z)) t m q) → KnowsCalls s k
    → KnowsCalls (sequences_next s a (Kind.Start p r z)) (known_next k (by a (Event.Start p r why d)))
started s k a p z r why d free h kn = record {
  guards = λ t. guard t (cases_eq t a);
  calls = all_calls s u k.under under (λ c ok. (ok.0, λ e. goes c (ok.1 e))) (cores k) kn.calls;
  none_early = kn.none_early;
  past = kn.past;
}
  where
    u : Sequences
    u = sequences_next s a (Kind.Start p r z)

    new : Inside
    new = record { at = k.at; proc = p; span = r; owner = migrates_for why d }

    under : ℕ → List Inside
    under = with_at k.under a (new ∷ k.under a)

    was_none : k.under a ≡ []
    was_none = subst (λ o. GuardKnown o (k.under a)) free (kn.guards a)

    given : Guarded
    given = record { proc = p; span = r; met = overlapping s p r; told = [] }

    guard : (t : ℕ) → (t ≡ a) ⊎ (t ≡ a → ⊥) → GuardKnown (with_at s.guard a (Some given) t) (with_at k.under a (new ∷ k.under a) t)
    guard t (inl e) = subst (λ t. GuardKnown (with_at s.guard a (Some given) t) (with_at k.under a (new ∷ k.under a) t)) (sym e)
        (subst (λ o. GuardKnown o (with_at k.under a (new ∷ k.under a) a)) (sym (here_at s.guard a (Some given)))
        (new, (here_at k.under a (new ∷ k.under a) ∙ ap (λ us. new ∷ us) was_none, (refl, refl))))
    guard t (inr ne) = subst (λ us. GuardKnown (with_at s.guard a (Some given) t) us) (sym (other_at k.under a t (new ∷ k.under a) ne))
        (subst (λ o. GuardKnown o (k.under t)) (sym (other_at s.guard a t (Some given) ne)) (kn.guards t))

    goes : (c : Core) → Going s k.under c → Going (sequences_next s a (Kind.Start p r z)) (with_at k.under a (new ∷ k.under a)) c
    goes c y = record {
      tells = h c.thread c.mirror c.seq y.tells;
      inside = y.inside;
      is_inside = other_at k.under a c.thread (new ∷ k.under a) (λ e. some_one (sym y.is_inside ∙ (ap k.under e ∙ was_none))) ∙ y.is_inside;
      is_of = y.is_of;
    }
      where
        some_one : y.inside ∷ [] ≡ [] → ⊥
        some_one e = cc

-- ---- it ends

-- what an end makes of a callback
abbrev core_end : ℕ → ℕ → Core → Core
core_end i j c = if is_it c.of i then record c { ended = Some j } else c

ended_core : (i j : ℕ) (x : Call) → core (after_end i j x) ≡ core_end i j (core x)
ended_core i j x = by_bool (is_it x.of i)
  where
    by_bool : (b : Bool) → core (if b then record x { ended = Some j } else x) ≡ (if b then record (core x) { ended = Some j } else core x)
    by_bool true = refl
    by_bool false = refl

ended_cores : (i j : ℕ) (xs : List Call) → map core (map (after_end i j) xs) ≡ map (core_end i j) (map core xs)
ended_cores i j [] = refl
ended_cores i j (x ∷ xs) = ap (λ c. c ∷ map core (map (after_end i j) xs)) (ended_core i j x)
    ∙ ap (λ cs. core_end i j (core x) ∷ cs) (ended_cores i j xs)

all_ended : (s u : Sequences) (f g : ℕ → List Inside) (i j : ℕ) → ((c : Core) → CallOk s f c → CallOk u g (core_end i j c)) → (cs : List Core)
    → AllCalls s f cs → AllCalls u g (map (core_end i j) cs)
all_ended s u f g i j h [] l = tt
all_ended s u f g i j h (c ∷ cs) l = (h c l.0, all_ended s u f g i j h cs l.1)

found_one : (y : Inside) (p : ℕ) (r : Pages) → y.proc ≡ p → y.span ≡ r
    → ((y.proc == p) && ((y.span.first == r.first) && (y.span.count == r.count))) ≡ true
found_one y p r e g = ap (λ n. (n == p) && ((y.span.first == r.first) && (y.span.count == r.count))) e
    ∙ (ap (λ t. (p == p) && ((t.first == r.first) && (t.count == r.count))) g
    ∙ all_three (p == p) (r.first == r.first) (r.count == r.count) (at_itself p) (at_itself r.first) (at_itself r.count))
  where
    all_three : (b c d : Bool) → b ≡ true → c ≡ true → d ≡ true → (b && (c && d)) ≡ true
    all_three b c d h i j = cc

-- the invalidation is found, which is the only one of its thread
found_it : (us : List Inside) (y : Inside) (p : ℕ) (r : Pages) → us ≡ y ∷ [] → y.proc ≡ p → y.span ≡ r
    → option_map (λ (y : Inside). y.at) (find (λ (y : Inside). (y.proc == p) && ((y.span.first == r.first) && (y.span.count == r.count))) us) ≡ Some y.at
found_it us y p r e g h =
    ap (λ us. option_map (λ (y : Inside). y.at) (find (λ (y : Inside). (y.proc == p) && ((y.span.first == r.first) && (y.span.count == r.count))) us)) e
    ∙ ap (λ b. option_map (λ (y : Inside). y.at) (cond b (Some y) None)) (found_one y p r g h)

pub ended : (s : Sequences) (k : Known) (a p z : ℕ) (r : Pages) → sequences_accept s a (Kind.End p r z) ≡ true
    → ((t m q : ℕ) → (t ≡ a → ⊥) → Tells s t m q → Tells (sequences_next s a (Kind.End p r z)) t m q) → KnowsCalls s k
    → KnowsCalls (sequences_next s a (Kind.End p r z)) (known_next k (by a (Event.End p r)))
ended s k a p z r acc h kn = by_guard (end_says s a p r z acc)
  where
    by_inside : (g : Guarded) → g.proc ≡ p → g.span ≡ r → GuardKnown (Some g) (k.under a)
        → KnowsCalls (sequences_next s a (Kind.End p r z)) (known_next k (by a (Event.End p r)))
    by_inside g gp gs (y, (is, (yp, ys))) = subst (λ o. KnowsCalls (sequences_next s a (Kind.End p r z)) (over k a o))
        (sym (found_it (k.under a) y p r is (yp ∙ gp) (ys ∙ gs))) done
      where
        under : ℕ → List Inside
        under = with_at k.under a (drop_if (λ u. u.at == y.at) (k.under a))

        none_now : with_at k.under a (drop_if (λ u. u.at == y.at) (k.under a)) a ≡ []
        none_now = here_at k.under a (drop_if (λ u. u.at == y.at) (k.under a))
            ∙ (ap (drop_if (λ u. u.at == y.at)) is ∙ ap (λ b. cond (not b) (y ∷ []) []) (at_itself y.at))

        guard : (t : ℕ) → (t ≡ a) ⊎ (t ≡ a → ⊥) → GuardKnown (with_at s.guard a None t) (with_at k.under a (drop_if (λ u. u.at == y.at) (k.under a)) t)
        guard t (inl e) = subst (λ t. GuardKnown (with_at s.guard a None t) (with_at k.under a (drop_if (λ u. u.at == y.at) (k.under a)) t)) (sym e)
            (subst (λ o. GuardKnown o (with_at k.under a (drop_if (λ u. u.at == y.at) (k.under a)) a)) (sym (here_at s.guard a None)) none_now)
        guard t (inr ne) = subst (λ us. GuardKnown (with_at s.guard a None t) us) (sym (other_at k.under a t (drop_if (λ u. u.at == y.at) (k.under a)) ne))
            (subst (λ o. GuardKnown o (k.under t)) (sym (other_at s.guard a t None ne)) (kn.guards t))

        goes : (c : Core) → is_it c.of y.at ≡ false → Going s k.under c → Going (sequences_next s a (Kind.End p r z)) (with_at k.under a (drop_if (λ u. u.at == y.at) (k.under a))) c
        goes c e x = record {
          tells = h c.thread c.mirror c.seq other x.tells;
          inside = x.inside;
          is_inside = other_at k.under a c.thread (drop_if (λ u. u.at == y.at) (k.under a)) other ∙ x.is_inside;
          is_of = x.is_of;
        }
          where
            same_one : x.inside ∷ [] ≡ y ∷ [] → x.inside ≡ y
            same_one q = cc

            other : c.thread ≡ a → ⊥
            other q = absurd (true≢false (sym (at_itself y.at) ∙ (ap (λ (i : Inside). i.at == y.at) (sym (same_one (sym x.is_inside ∙ (ap k.under q ∙ is))))
                ∙ (ap (λ o. is_it o y.at) (sym x.is_of) ∙ e))))

        one : (c : Core) → CallOk s k.under c → CallOk (sequences_next s a (Kind.End p r z)) (with_at k.under a (drop_if (λ u. u.at == y.at) (k.under a))) (core_end y.at k.at c)
        one c ok = by_bool (is_it c.of y.at) refl
          where
            by_bool : (b : Bool) → is_it c.of y.at ≡ b
                → CallOk (sequences_next s a (Kind.End p r z)) (with_at k.under a (drop_if (λ u. u.at == y.at) (k.under a))) (if b then record c { ended = Some k.at } else c)
            by_bool true e = (ok.0, λ q. absurd (false≢true (sym (no_more (is_some c.of)) ∙ q)))
              where
                no_more : (b : Bool) → (b && false) ≡ false
                no_more true = refl
                no_more false = refl
            by_bool false e = (ok.0, λ q. goes c e (ok.1 q))

        done : KnowsCalls (sequences_next s a (Kind.End p r z)) (over k a (Some y.at))
        done = record {
          guards = λ t. guard t (cases_eq t a);
          calls = subst (AllCalls (sequences_next s a (Kind.End p r z)) (with_at k.under a (drop_if (λ u. u.at == y.at) (k.under a))))
              (sym (ended_cores y.at k.at k.calls))
              (all_ended s (sequences_next s a (Kind.End p r z)) k.under (with_at k.under a (drop_if (λ u. u.at == y.at) (k.under a))) y.at k.at one (cores k) kn.calls);
          none_early = kn.none_early;
          past = kn.past;
        }

    by_guard : (g : Guarded) × (s.guard a ≡ Some g) × (g.proc ≡ p) × (g.span ≡ r) × (all_told g ≡ true)
        → KnowsCalls (sequences_next s a (Kind.End p r z)) (known_next k (by a (Event.End p r)))
    by_guard (g, is, gp, gs, all) = by_inside g gp gs (subst (λ o. GuardKnown o (k.under a)) is (kn.guards a))

-- ---- a mirror is told

-- what a return makes of a callback
abbrev core_return : ℕ → ℕ → ℕ → ℕ → Core → Core
core_return a m n i c = if (c.thread == a) && ((c.mirror == m) && is_none c.after) then record c { at = i; after = Some n } else c

returned_core : (k : Known) (a m n : ℕ) (x : Call) → core (returned k a m n x) ≡ core_return a m n k.at (core x)
returned_core k a m n x = by_bool (is_current a m x)
  where
    by_bool : (b : Bool) → core (if b then record x {
      at = k.at;
      after = Some n;
      left = x.here;
      alone = count_by (λ y. (y.mirror == m) && (y.seq == x.seq)) k.calls == 1;
      stale = if list_any (λ y. not y.paged && overlap y.span x.span) (k.moves a) then Some ([], false) else None;
    } else x) ≡ (if b then record (core x) { at = k.at; after = Some n } else core x)
    by_bool true = refl
    by_bool false = refl

returned_cores : (k : Known) (a m n : ℕ) (xs : List Call) → map core (map (returned k a m n) xs) ≡ map (core_return a m n k.at) (map core xs)
returned_cores k a m n [] = refl
returned_cores k a m n (x ∷ xs) = ap (λ c. c ∷ map core (map (returned k a m n) xs)) (returned_core k a m n x)
    ∙ ap (λ cs. core_return a m n k.at (core x) ∷ cs) (returned_cores k a m n xs)

map_more : (xs : List Call) (x : Call) → map core (xs ++ x ∷ []) ≡ map core xs ++ core x ∷ []
map_more [] x = refl
map_more (y ∷ xs) x = ap (λ cs. core y ∷ cs) (map_more xs x)

-- a callback that has returned stays as it is
no_return : (a m n i : ℕ) (c : Core) → c.after ≡ Some c.seq → core_return a m n i c ≡ c
no_return a m n i c h = ap (λ o. if (c.thread == a) && ((c.mirror == m) && is_none o) then record c { at = i; after = Some n } else c) h
    ∙ by_bool (c.thread == a) (c.mirror == m)
  where
    by_bool : (b d : Bool) → (if b && (d && false) then record c { at = i; after = Some n } else c) ≡ c
    by_bool true true = refl
    by_bool true false = refl
    by_bool false d = refl

all_returned : (s u : Sequences) (under : ℕ → List Inside) (a m n i : ℕ) (d : Core) → ((t m q : ℕ) → Tells s t m q → Tells u t m q)
    → CallOk u under (core_return a m n i d) → (cs : List Core) → AllCalls s under cs
    → AllCalls u under (map (core_return a m n i) (cs ++ d ∷ []))
all_returned s u under a m n i d h g [] l = (g, tt)
all_returned s u under a m n i d h g (c ∷ cs) l = (
  subst (CallOk u under) (sym (no_return a m n i c l.0.0)) (
    l.0.0,
    λ e. let y : Going s under c = l.0.1 e in record {
      tells = h c.thread c.mirror c.seq y.tells;
      inside = y.inside;
      is_inside = y.is_inside;
      is_of = y.is_of;
    },
  ),
  all_returned s u under a m n i d h g cs l.1,
)

-- the same is known of callbacks
abbrev Same : Known → Known → Type 0
Same k l = (l.under ≡ k.under) × ((cores l ≡ cores k) × ((l.early ≡ k.early) × (l.stale ≡ k.stale)))

erase_many : (a m : ℕ) (vs : List ℕ) (k l : Known) → Same k l → GoBy told_wrong l (by_thread a (map (λ v. Event.Erase m v) vs)) (Same k)
erase_many a m [] k l h = (tt, h)
erase_many a m (v ∷ vs) k l h = let n : Known = known_next l (by a (Event.Erase m v)) in
    let more : GoBy told_wrong n (by_thread a (map (λ v. Event.Erase m v) vs)) (Same k) =
    erase_many a m vs k n (h.0, (cores_keep l a (Event.Erase m v) refl ∙ h.1.0, (h.1.1.0, h.1.1.1))) in
    ((refl, more.0), more.1)

same_guard : (m : ℕ) (o : Option Guarded) (us : List Inside) → GuardKnown o us → GuardKnown (with_told m o) us
same_guard m None us h = h
same_guard m (Some g) us h = h

-- the callback of a guard that is known
told_call : (s u : Sequences) (k : Known) (a m q : ℕ) (r : Pages) (i : ℕ) (o : Option Guarded) → o ≡ s.guard a → is_some o ≡ true
    → GuardKnown o (k.under a) → Tells u a m q → CallOk u k.under (core_return a m q i (core (call k a m r q)))
told_call s u k a m q r i None e h g x = absurd (false≢true h)
told_call s u k a m q r i (Some gu) e h (y, (is, (yp, ys))) x =
    subst (CallOk u k.under) (sym (ap (λ b. if b then record (core (call k a m r q)) { at = i; after = Some q } else core (call k a m r q)) both))
    (refl, λ goes. record { tells = x; inside = y; is_inside = is; is_of = ap (λ us. option_map (λ (y : Inside). y.at) (inside us)) is })
  where
    both : ((a == a) && ((m == m) && true)) ≡ true
    both = ap (λ b. b && ((m == m) && true)) (at_itself a) ∙ ap (λ b. b && true) (at_itself m)

guard_there : (s : Sequences) (a m q : ℕ) (r : Pages) → sequences_accept s a (Kind.Told m r q) ≡ true → is_some (s.guard a) ≡ true
guard_there s a m q r acc = let x : (g : Guarded) × (s.guard a ≡ Some g) × ToldTo s m r g = told_says s a m r q acc in ap is_some x.1

-- the events of the entry
pub told_entry : (s : Sequences) (n a m q : ℕ) (r : Pages) (vs : List ℕ) → sequences_accept s a (Kind.Told m r q) ≡ true
    → n ≡ q → Tells (sequences_next s a (Kind.Told m r q)) a m q
    → ((t i z : ℕ) → Tells s t i z → Tells (sequences_next s a (Kind.Told m r q)) t i z) → (k : Known) → KnowsCalls s k
    → GoBy told_wrong k (by_thread a (Event.Tell m r q ∷ (map (λ v. Event.Erase m v) vs ++ Event.Told m n true ∷ [])))
    (KnowsCalls (sequences_next s a (Kind.Told m r q)))
told_entry s n a m q r vs acc e x h k kn = ((refl, rest.0), rest.1)
  where
    u : Sequences
    u = sequences_next s a (Kind.Told m r q)

    l : Known
    l = known_next k (by a (Event.Tell m r q))

    last : (j : Known) → Same (known_next k (by a (Event.Tell m r q))) j
        → KnowsCalls (sequences_next s a (Kind.Told m r q)) (known_next j (by a (Event.Told m n true)))
    last j (us, (cs, (es, ps))) = record {
      guards = λ t. subst (λ f. GuardKnown (with_at s.guard a (with_told m (s.guard a)) t) (f t)) (sym us) (guard t (cases_eq t a));
      calls = subst (λ f. AllCalls (sequences_next s a (Kind.Told m r q)) f (map core (map (returned j a m n) j.calls))) (sym us)
          (subst (AllCalls (sequences_next s a (Kind.Told m r q)) k.under)
          (sym (returned_cores j a m n j.calls ∙ ap (map (core_return a m n j.at)) (cs ∙ map_more k.calls (call k a m r q))))
          (all_returned s (sequences_next s a (Kind.Told m r q)) k.under a m n j.at (core (call k a m r q)) h
          (subst (λ n. CallOk (sequences_next s a (Kind.Told m r q)) k.under (core_return a m n j.at (core (call k a m r q)))) (sym e)
          (told_call s (sequences_next s a (Kind.Told m r q)) k a m q r j.at (s.guard a) refl (guard_there s a m q r acc) (kn.guards a) x))
          (cores k) kn.calls));
      none_early = es ∙ kn.none_early;
      past = subst AllPast (sym ps) kn.past;
    }
      where
        guard : (t : ℕ) → (t ≡ a) ⊎ (t ≡ a → ⊥) → GuardKnown (with_at s.guard a (with_told m (s.guard a)) t) (k.under t)
        guard t (inl q) = subst (λ t. GuardKnown (with_at s.guard a (with_told m (s.guard a)) t) (k.under t)) (sym q)
            (subst (λ o. GuardKnown o (k.under a)) (sym (here_at s.guard a (with_told m (s.guard a)))) (same_guard m (s.guard a) (k.under a) (kn.guards a)))
        guard t (inr ne) = subst (λ o. GuardKnown o (k.under t)) (sym (other_at s.guard a t (with_told m (s.guard a)) ne)) (kn.guards t)

    rest : GoBy told_wrong (known_next k (by a (Event.Tell m r q))) (by_thread a (map (λ v. Event.Erase m v) vs ++ Event.Told m n true ∷ []))
        (KnowsCalls (sequences_next s a (Kind.Told m r q)))
    rest = and_more told_wrong (Same (known_next k (by a (Event.Tell m r q)))) (KnowsCalls (sequences_next s a (Kind.Told m r q)))
        (known_next k (by a (Event.Tell m r q))) a (map (λ v. Event.Erase m v) vs) (Event.Told m n true ∷ [])
        (erase_many a m vs (known_next k (by a (Event.Tell m r q))) (known_next k (by a (Event.Tell m r q))) (refl, (refl, (refl, refl))))
        (λ j same. ((refl, tt), last j same))
