-- What stands after each history.
use Rattle.std.proofs.Common.{◌≡◌, ℕ, zero, suc, ◌+◌, ◌%◌, ◌≤◌, ◌⊎◌, inl, inr, Bool, true, false, ◌==◌, ◌&&◌, not, Option, Some, None, List, [], refl, ap, ◌∙◌, subst, arith}
use Rattle.std.proofs.lemmas.Bool.Decides.{nat_tests}
use Rattle.hm_base.specs.Program.{Program}
use Rattle.hm_base.specs.declared.Place.{Place}
use Rattle.hm_base.specs.declared.ops.Op.{Op}
use Rattle.hm_history.specs.Memory.Words.{least, page_of}
use Rattle.hm_history.specs.Memory.Locks.{lock_passes}
use Rattle.hm_history.specs.Memory.Contents.{contents_of, shown_by}
use Rattle.hm_history.specs.Memory.After.{After}
use Rattle.hm_laws.specs.Stood.{lock_on}
use Rattle.hm_laws.specs.Past.{Past}
use Rattle.hm_laws.specs.Sound.{Sound}
use Rattle.hm_laws.specs.Allowed.{shows, Allowed}
use Rattle.std.proofs.lemmas.Bool.{cases_eq}
use Rattle.hm_laws.proofs.Kept.Contents.{backing_is}
use Rattle.hm_laws.specs.Facts.{facts_of, HoldsAll, Knows}
use Rattle.std.proofs.Common.{zero, suc}
use Rattle.hm_history.specs.Memory.After.{after}
use Rattle.hm_history.specs.Kernel.Run.{run}
use Rattle.hm_history.specs.Kernel.Going.{Going, going_next, op_at, state_of}
use Rattle.hm_history.specs.Laws.{DueFrom}
use Rattle.hm_history.specs.declared.Kind.{Kind}
use Rattle.hm_history.specs.declared.phases.Migrating.{Migrating}
use Rattle.hm_history.specs.declared.phases.Phase.{Phase}
use Rattle.hm_history.specs.declared.Entry.{Entry}
use Rattle.hm_history.proofs.RunLemmas.{runs_due}
use Rattle.hm_base.specs.Program.{IsScript}
use Rattle.hm_laws.specs.Past.{past_start}
use Rattle.hm_laws.specs.Laws.{RunIsLegal, HistoryIsLegal, ReadsRight, FramesRead, RulesAreKept, AllowedMayStand, HistoryStands}
use Rattle.hm_laws.proofs.Kept.Sound.{kept}
use Rattle.hm_laws.proofs.State.AllowedAccepts.{answers_of, sequences_of, guarded_of, places_of}
use Rattle.hm_laws.specs.Stands.{CopiesRightly, Standing, MeetsNobody}
use Rattle.hm_laws.specs.Order.{OrderRules}
use Rattle.hm_laws.proofs.Due.Good.{Fair}
use Rattle.hm_laws.proofs.Histories.Sound.{Turn, small, turn_of, at_start, after_is, standing_after}
use Rattle.hm_laws.proofs.Histories.Legal.{every_history}
use Rattle.hm_history.proofs.Going.{no_op}

pub history_is_legal : HistoryIsLegal
history_is_legal = every_history

pub run_is_legal : RunIsLegal
run_is_legal c sc = every_history c sc (run c) (runs_due c)

standing_of : (c : Program) → IsScript c → (h : List Entry) → DueFrom c [] h → (t : Past) × Standing c (state_of c h) t
standing_of c sc h d = standing_after c [] h past_start (small c sc) (at_start c (small c sc)) d

-- contents
shown_is : (s : After) (x : Place) → contents_of s.places s.contents x ≡ shows s x
shown_is s x = ap (shown_by s.contents) (backing_is s.places x)

reads_right : (c : Program) (s : After) (t : Past) → Sound c s t → ReadsRight s
reads_right c s t so = record {
  placed = λ p a th e. ap (λ (f : ℕ → ℕ). f (a % 4096)) (shown_is s (s.places.place p (page_of a))) ∙ so.reads.reads p a th e;
  untouched = λ p a th no_one e i. by p a no_one (so.untouched.untouched p a th e i);
}
  where
    by : (p a : ℕ) → ((b : ℕ) → s.locks.map b ≡ lock_on p true → ⊥) → (s.plain.bytes p a ≡ 0) ⊎ ((b : ℕ) × (s.locks.map b ≡ lock_on p true)) → s.plain.bytes p a ≡ 0
    by p a no_one (inl k) = k
    by p a no_one (inr k) = absurd (no_one k.0 k.1)

pub frames_read : FramesRead
frames_read c sc h d = let st : (t : Past) × Standing c (state_of c h) t = standing_of c sc h d in subst ReadsRight (after_is c h) (reads_right c (state_of c h).after st.0 st.1.sound)

pub idle_lock : (c : Program) (s : After) (t : Past) (a : ℕ) (g : Going) → op_at c a g.index ≡ None → Knows c s t a g → s.locks.map a ≡ None
idle_lock c s t a g e k = by (op_at c a g.index) e k
  where
    by : (x : Option Op) → x ≡ None → HoldsAll s t a (facts_of x g.pages g.stack) → s.locks.map a ≡ None
    by None e k = k.0
    by (Some o) e k = cc

least_fails : (t : ℕ → Bool) (from n : ℕ) → ((j : ℕ) → t j ≡ false) → least t from n ≡ None
least_fails t from zero h = refl
least_fails t from (suc n) h = rw (h from, least) (least_fails t (from + 1) n h)

meets_nobody : (s : After) → ((a : ℕ) → 1 ≤ a → s.locks.map a ≡ None) → MeetsNobody s
meets_nobody s h = record {
  no_holder = λ p. least_fails _ 0 16 (λ a. other p a (cases_eq a 0));
  no_writer = λ p e. least_fails _ 0 16 (λ a. none p a e (cases_eq a 0));
}
  where
    other : (p a : ℕ) → (a ≡ 0) ⊎ (a ≡ 0 → ⊥) → (not (a == 0) && lock_passes (λ x. x.proc == p) (s.locks.map a)) ≡ false
    other p a (inl e) = grind (arith, nat_tests)
    other p a (inr e) = grind (arith, nat_tests, h a (omega arith))

    none : (p a : ℕ) → s.locks.map 0 ≡ None → (a ≡ 0) ⊎ (a ≡ 0 → ⊥) → lock_passes (λ x. (x.proc == p) && x.writes) (s.locks.map a) ≡ false
    none p a z (inl e) = grind arith
    none p a z (inr e) = grind (arith, h a (omega arith))

-- one entry
pub rules_kept : RulesAreKept
rules_kept = kept

pub allowed_may_stand : AllowedMayStand
allowed_may_stand c s t a k so ok = record {
  answers = answers_of c s t a k ok;
  places = places_of c s t a k so ok;
  sequences = sequences_of c s t a k ok;
  guarded = guarded_of c s t a k ok;
}

fair_copies : (c : Program) (s : After) (a : ℕ) (o : Op) (xs : List Migrating) (k : Kind) (top : Phase) → Fair c s a o xs k top → CopiesRightly s k
fair_copies c s a o xs (Kind.Copied f g None) top h = h
fair_copies c s a o xs (Kind.Copied f g (Some part)) top h = h
fair_copies c s a o xs k top h = tt

pub history_stands : HistoryStands
history_stands c sc h d = record {
  past = st.0;
  rules = subst (λ s. Sound c s st.0) (after_is c h) st.1.sound;
  order = subst (λ s. OrderRules s.plain.areas) (after_is c h) st.1.order;
  known = known;
  same_after = after_is c h;
  allows = λ e d. subst (λ s. Allowed c s st.0 e.actor e.kind) (after_is c h) (turn_of c (state_of c h) st.0 e (small c sc) st.1 d).allowed;
  copies = λ e d. subst (λ s. CopiesRightly s e.kind) (after_is c h) (turn_copies e (turn_of c (state_of c h) st.0 e (small c sc) st.1 d));
  meets_nobody = λ few. meets_nobody (after h) (λ a l. idle_lock c (after h) st.0 a ((state_of c h).going a) (no_op c a ((state_of c h).going a).index (omega arith)) (known a));
}
  where
    st : (t : Past) × Standing c (state_of c h) t
    st = standing_of c sc h d

    turn_copies : (e : Entry) → Turn c (state_of c h).after st.0 e.actor e.kind ((state_of c h).going e.actor) (going_next c (state_of c h).after e.actor ((state_of c h).going e.actor) e.kind) → CopiesRightly (state_of c h).after e.kind
    turn_copies e w = fair_copies c (state_of c h).after e.actor w.op ((state_of c h).going e.actor).pages e.kind w.top w.fair

    known : (a : ℕ) → Knows c (after h) st.0 a ((state_of c h).going a)
    known a = subst (λ s. Knows c s st.0 a ((state_of c h).going a)) (after_is c h) (st.1.known a)
