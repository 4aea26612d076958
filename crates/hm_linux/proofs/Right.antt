-- What is read is right, with variants that leave the state as it is found.
use Rattle.std.proofs.Common.{◌≡◌, ◌⊎◌, inl, inr, ℕ, ◌%◌, true, refl, sym, ap, ◌∙◌, subst}
use Rattle.hm_base.specs.Program.{Program}
use Rattle.hm_history.specs.Memory.Words.{page_of}
use Rattle.hm_history.specs.Memory.After.{After}
use Rattle.hm_history.specs.Kernel.Going.{State}
use Rattle.hm_history.specs.declared.Kind.{Kind}
use Rattle.hm_history.specs.Memory.Contents.{shown_by}
use Rattle.hm_history.proofs.Tests.{true_false}
use Rattle.hm_laws.specs.Past.{Past}
use Rattle.hm_laws.specs.Stood.{lock_on}
use Rattle.hm_laws.specs.Allowed.{Allowed}
use Rattle.hm_laws.specs.Stands.{Standing}
use Rattle.hm_laws.specs.Laws.{ReadsRight, MayStand}
use Rattle.hm_laws.proofs.Kept.Contents.{backing_is}
use Rattle.hm_laws.proofs.Histories.Sound.{small}
use Rattle.hm_laws.proofs.Histories.Stands.{allowed_may_stand}
use Rattle.hm_linux.specs.declared.variant.Variant.{Variant}
use Rattle.hm_linux.specs.Instead.{varied_after}
use Rattle.hm_linux.specs.Variants.{is_other_kind}
use Rattle.hm_linux.specs.Laws.{MayStandBut, FramesReadAs, EntriesStand}
use Rattle.hm_linux.proofs.Absent.{memory_is_the_same}
use Rattle.hm_linux.proofs.Leading.{FailsHere, TurnAs}
use Rattle.hm_linux.proofs.Standing.{turn_as, stands_after}

-- ---- contents

pub frames_read_as : FramesReadAs
frames_read_as l leave c sc h d es due = subst ReadsRight (memory_is_the_same l c h es) (record {
  placed = λ p a there e. ap (λ (f : ℕ → ℕ). f (a % 4096)) (ap (shown_by s.contents) (backing_is s.places (s.places.place p (page_of a))))
      ∙ st.1.sound.reads.reads p a there e;
  untouched = λ p a there no_one e i. by p a no_one (st.1.sound.untouched.untouched p a there e i);
})
  where
    s : After
    s = (varied_after l c h es).state.after

    st : (t : Past) × Standing c (varied_after l c h es).state t
    st = stands_after l c h es leave sc d due

    by : (p a : ℕ) → ((b : ℕ) → s.locks.map b ≡ lock_on p true → ⊥)
        → (s.plain.bytes p a ≡ 0) ⊎ ((b : ℕ) × (s.locks.map b ≡ lock_on p true)) → s.plain.bytes p a ≡ 0
    by p a no_one (inl k) = k
    by p a no_one (inr k) = absurd (no_one k.0 k.1)

-- ---- entries

allowed_stands : (l : Variant) (c : Program) (s : After) (a : ℕ) (k : Kind) → MayStand c s a k → MayStandBut l c s a k
allowed_stands l c s a k m =
    record { answers = λ e. m.answers; places = m.places; sequences = m.sequences; guarded = m.guarded }

fails_stands : (l : Variant) (c : Program) (s : After) (a : ℕ) (k : Kind) → FailsHere l k → MayStandBut l c s a k
fails_stands l c s a k f = subst (MayStandBut l c s a) (sym f.is) (record {
  answers = λ e. absurd (true_false (is_other_kind l (Kind.Failed f.who f.addr f.len f.why))
      (ap (is_other_kind l) (sym f.is) ∙ f.other) e);
  places = refl;
  sequences = refl;
  guarded = refl;
})

pub entries_stand : EntriesStand
entries_stand l leave c sc h d es due e now = subst (λ s. MayStandBut l c s e.actor e.kind) (memory_is_the_same l c h es)
    (by turn.own_kind)
  where
    u : State
    u = (varied_after l c h es).state

    st : (t : Past) × Standing c u t
    st = stands_after l c h es leave sc d due

    turn : TurnAs l c u.after st.0 e.actor e.kind (u.going e.actor)
    turn = turn_as l c (varied_after l c h es) st.0 e.actor e.kind leave (small c sc) st.1 now

    by : Allowed c u.after st.0 e.actor e.kind ⊎ FailsHere l e.kind → MayStandBut l c u.after e.actor e.kind
    by (inl ok) = allowed_stands l c u.after e.actor e.kind
        (allowed_may_stand c u.after st.0 e.actor e.kind st.1.sound ok)
    by (inr f) = fails_stands l c u.after e.actor e.kind f
