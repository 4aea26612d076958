-- The guards of an unmap, a protection, an exit and a fork, and their answers.
use Rattle.std.proofs.lemmas.Bool.{eqb-true}
use Rattle.std.proofs.Common.{◌≡◌, ℕ, ◌+◌, ◌*◌, ◌<◌, ◌≤◌, Bool, true, false, ◌==◌, nat_lt, if◌then◌else◌, is_some, Option, Some, None, List, [], ◌∷◌, refl, ap, ◌∙◌, arith}
use Rattle.std.proofs.lemmas.Bool.Decides.{nat_tests}
use Rattle.hm_base.specs.Pages.{Pages}
use Rattle.hm_base.specs.Areas.{last_of}
use Rattle.hm_base.specs.Program.{Program}
use Rattle.hm_base.specs.declared.Frame.{Frame}
use Rattle.hm_base.specs.declared.Place.{Place}
use Rattle.hm_base.specs.declared.ops.Rights.{Rights}
use Rattle.hm_base.specs.declared.ops.Op.{Op}
use Rattle.hm_history.specs.Memory.Words.{is_empty_place, writable, narrowed}
use Rattle.hm_history.specs.Memory.Plain.{rights_of}
use Rattle.hm_history.specs.Memory.Places.{next_page, is_used}
use Rattle.hm_history.specs.Memory.Sequences.{seq_ended}
use Rattle.hm_history.specs.Memory.Locks.{orphan}
use Rattle.hm_history.specs.Memory.After.{After}
use Rattle.hm_history.specs.Kernel.Stacks.{dropping}
use Rattle.hm_history.specs.Kernel.Due.{proc_of_op, to_tell, within, body_or_end, due_guard, due_answer, due_pages, fork_page}
use Rattle.hm_history.specs.declared.Kind.{Kind}
use Rattle.hm_history.specs.declared.phases.Migrating.{Migrating}
use Rattle.hm_history.specs.declared.phases.Phase.{Phase}
use Rattle.hm_history.specs.declared.phases.Body.{Body}
use Rattle.hm_history.specs.declared.phases.Next.TheVariants.{Do}
use Rattle.hm_laws.specs.Past.{Past, past_next}
use Rattle.hm_laws.specs.Sound.{Sound}
use Rattle.hm_laws.specs.Allowed.{next}
use Rattle.hm_laws.specs.Shapes.{zaps, narrows, widens, is_add, is_snap}
use Rattle.hm_laws.specs.Facts.{answering, zapping, HoldsAll, facts}
use Rattle.hm_laws.proofs.Due.Good.{Good, either, either_option}
use Rattle.hm_laws.proofs.Due.Guards.{number_is}
use Rattle.hm_laws.proofs.State.NextPage.{NextSays, next_says}
use Rattle.hm_laws.proofs.Due.Spans.{no_empty_used}
use Rattle.hm_laws.proofs.Due.Fork.{not_itself}
use Rattle.hm_quiet_laws.proofs.measure.Left.{left, told_left, zap_left, span_from, pages_from, piece_left}
use Rattle.hm_quiet_laws.proofs.measure.Shapes.{on_drop, is_simple}
use Rattle.hm_quiet_laws.proofs.alone.Ends.{StepsTo}
use Rattle.hm_quiet_laws.proofs.spans.TellingsFall.{told_falls}
use Rattle.hm_quiet_laws.proofs.counts.PagesFrom.{pages_less}
use Rattle.hm_quiet_laws.proofs.spans.BeginsFall.{OnSimple}
use Rattle.hm_history.proofs.Pages.{no_empty_writable}

abbrev pub GuardSteps : Program → After → ℕ → Op → List Migrating → ℕ → Pages → Bool → Option ℕ → Body → Kind → Type 0
GuardSteps c s a o xs p r met told body k = StepsTo c s a o xs (Phase.Guard p r met told body) (Phase.Answer ∷ []) OnSimple (Do k)

ending : (b : Bool) (x m n : ℕ) → b ≡ false → 1 + (if b then x else 0) < m + (n + 2)
ending true x m n e = cc
ending false x m n e = omega arith

-- the guard ends
ends_guard : (c : Program) (s : After) (a : ℕ) (o : Op) (xs : List Migrating) (p : ℕ) (r : Pages) (met : Bool) (told : Option ℕ) (n : ℕ) → is_add o ≡ false → GuardSteps c s a o xs p r met told (Body.Zap n) (Kind.End p r (seq_ended s.sequences p))
ends_guard c s a o xs p r met told n e = (ending (is_add o) _ (told_left s p r met told) (2 * zap_left (s.plain.areas p) o r n) e, refl)

-- a page is emptied
page_less : (m k n : ℕ) → k + 1 ≤ n → m + (2 * k + 2) < m + (2 * n + 2)
page_less m k n h = omega arith

drop_less : (m k n : ℕ) → k + 1 ≤ n → 1 + (m + (2 * k + 2)) < m + (2 * n + 2)
drop_less m k n h = omega arith

zapped : (c : Program) (s : After) (a : ℕ) (o : Op) (xs : List Migrating) (p : ℕ) (r : Pages) (met : Bool) (told : Option ℕ) (n u : ℕ) → zap_left (s.plain.areas p) o r (u + 1) + 1 ≤ zap_left (s.plain.areas p) o r n → GuardSteps c s a o xs p r met told (Body.Zap n) (Kind.Place p u Place.Empty)
zapped c s a o xs p r met told n u h = by (orphan s.locks s.places (Kind.Place p u Place.Empty))
  where
    v : After
    v = next s a (Kind.Place p u Place.Empty)

    by : (z : Option Frame) → (left c v a o xs (dropping z (Phase.Guard p r met told (Body.Zap (u + 1)) ∷ Phase.Answer ∷ [])) < left c s a o xs (Phase.Guard p r met told (Body.Zap n) ∷ Phase.Answer ∷ [])) × OnSimple (dropping z (Phase.Guard p r met told (Body.Zap (u + 1)) ∷ Phase.Answer ∷ []))
    by None = (page_less (told_left s p r met told) (zap_left (s.plain.areas p) o r (u + 1)) (zap_left (s.plain.areas p) o r n) h, refl)
    by (Some f) = (drop_less (told_left s p r met told) (zap_left (s.plain.areas p) o r (u + 1)) (zap_left (s.plain.areas p) o r n) h, refl)

zap_fewer : (s : After) (o : Op) (p : ℕ) (r : Pages) (n u : ℕ) → zaps o ≡ true → n ≤ u → u < last_of r → is_some (rights_of s.plain p u) ≡ true → zap_left (s.plain.areas p) o r (u + 1) + 1 ≤ zap_left (s.plain.areas p) o r n
zap_fewer s (Op.Unmap q t) p r n u z l m e = omega arith
zap_fewer s (Op.Exit q) p r n u z l m e = pages_less (s.plain.areas p) n u l e
zap_fewer s o p r n u z l m e = cc

zaps_adds : (o : Op) → zaps o ≡ true → is_add o ≡ false
zaps_adds (Op.Unmap q t) z = refl
zaps_adds (Op.Exit q) z = refl
zaps_adds o z = cc

-- the process is locked, so that it is there
there : (s : After) (t : Past) (a : ℕ) (o : Op) (n p : ℕ) → HoldsAll s t a (zapping o n) → p ≡ proc_of_op o → s.plain.there p ≡ true
there s t a o n p h e = ap s.plain.there e ∙ h.1.1.1.0.0.1

pub zap_steps : (c : Program) (s : After) (t : Past) (a : ℕ) (o : Op) (xs : List Migrating) (p : ℕ) (r : Pages) (met : Bool) (told : Option ℕ) (n : ℕ) → Sound c s t → HoldsAll s t a (facts o xs (Phase.Guard p r met told (Body.Zap n) ∷ Phase.Answer ∷ [])) → GuardSteps c s a o xs p r met told (Body.Zap n) (due_guard s a o p r met told (Body.Zap n))
zap_steps c s t a o xs p r met told n so h = either_option (GuardSteps c s a o xs p r met told (Body.Zap n)) (to_tell s p r met told) _ _ (λ e. by (next_page s.places is_used p n) refl) (λ m e. (told_falls c s t a o xs p r met told (Body.Zap n) (Phase.Answer ∷ []) m so e, refl))
  where
    z : zaps o ≡ true
    z = h.1.1.1.0

    ended : GuardSteps c s a o xs p r met told (Body.Zap n) (Kind.End p r (seq_ended s.sequences p))
    ended = ends_guard c s a o xs p r met told n (zaps_adds o z)

    by : (x : Option ℕ) → next_page s.places is_used p n ≡ x → GuardSteps c s a o xs p r met told (Body.Zap n) (body_or_end s p r (within r x (λ u. Kind.Place p u Place.Empty)))
    by None e = ended
    by (Some u) e = either (λ k. GuardSteps c s a o xs p r met told (Body.Zap n) (body_or_end s p r k)) (nat_lt u (r.first + r.count)) (Some (Kind.Place p u Place.Empty)) None
        (λ l. zapped c s a o xs p r met told n u (zap_fewer s o p r n u z says.above (grind (arith, nat_tests)) (so.areas.in_area p u (there s t a o n p h.1.1.1 h.1.1.0.0) (used says.passes))))
        (λ l. ended)
      where
        says : NextSays s.places is_used p n u
        says = next_says s.places is_used so.places no_empty_used p n u e

        used : is_used (s.places.place p u) ≡ true → is_empty_place (s.places.place p u) ≡ false
        used k = grind arith

-- write rights taken
narrowed_less : (m n u : ℕ) (r : Pages) → n ≤ u → u < last_of r → m + (span_from (u + 1) r + 2) < m + (span_from n r + 2)
narrowed_less m n u r h k = omega arith

narrow_adds : (o : Op) → narrows o ≡ true → is_add o ≡ false
narrow_adds (Op.Protect p r Rights.Read) z = refl
narrow_adds o z = cc

pub narrow_steps : (c : Program) (s : After) (t : Past) (a : ℕ) (o : Op) (xs : List Migrating) (p : ℕ) (r : Pages) (met : Bool) (told : Option ℕ) (n : ℕ) → Sound c s t → HoldsAll s t a (facts o xs (Phase.Guard p r met told (Body.Narrow n) ∷ Phase.Answer ∷ [])) →
    Good c s t a o xs (Phase.Guard p r met told (Body.Narrow n)) (Phase.Answer ∷ []) (Do (due_guard s a o p r met told (Body.Narrow n))) → GuardSteps c s a o xs p r met told (Body.Narrow n) (due_guard s a o p r met told (Body.Narrow n))
narrow_steps c s t a o xs p r met told n so h = either_option P (to_tell s p r met told) _ _ (λ e. by (next_page s.places writable p n) refl) (λ m e g. (told_falls c s t a o xs p r met told (Body.Narrow n) (Phase.Answer ∷ []) m so e, refl))
  where
    P : Kind → Type 0
    P k = Good c s t a o xs (Phase.Guard p r met told (Body.Narrow n)) (Phase.Answer ∷ []) (Do k) → GuardSteps c s a o xs p r met told (Body.Narrow n) k

    ended : P (Kind.End p r (seq_ended s.sequences p))
    ended g = (ending (is_add o) (piece_left c (next s a (Kind.End p r (seq_ended s.sequences p))) a o 0) (told_left s p r met told) (span_from n r) (narrow_adds o h.1.1.1.0), refl)

    placed : (u : ℕ) → n ≤ u → u < last_of r → P (Kind.Place p u (narrowed (s.places.place p u)))
    placed u l m g = at (orphan s.locks s.places (Kind.Place p u (narrowed (s.places.place p u)))) g.2
      where
        v : After
        v = next s a (Kind.Place p u (narrowed (s.places.place p u)))

        at : (z : Option Frame) → HoldsAll v (past_next t s.length a (Kind.Place p u (narrowed (s.places.place p u)))) a (facts o xs (dropping z (Phase.Guard p r met told (Body.Narrow (u + 1)) ∷ Phase.Answer ∷ []))) →
            (left c v a o xs (dropping z (Phase.Guard p r met told (Body.Narrow (u + 1)) ∷ Phase.Answer ∷ [])) < left c s a o xs (Phase.Guard p r met told (Body.Narrow n) ∷ Phase.Answer ∷ [])) × OnSimple (dropping z (Phase.Guard p r met told (Body.Narrow (u + 1)) ∷ Phase.Answer ∷ []))
        at None k = (narrowed_less (told_left s p r met told) n u r l m, refl)
        at (Some f) k = absurd k.0

    by : (x : Option ℕ) → next_page s.places writable p n ≡ x → P (body_or_end s p r (within r x (λ u. Kind.Place p u (narrowed (s.places.place p u)))))
    by None e = ended
    by (Some u) e = either (λ k. P (body_or_end s p r k)) (nat_lt u (r.first + r.count)) (Some (Kind.Place p u (narrowed (s.places.place p u)))) None
        (λ l. placed u (next_says s.places writable so.places no_empty_writable p n u e).above (grind (arith, nat_tests))) (λ l. ended)

-- both rights given: the guard has no body
widen_adds : (o : Op) → widens o ≡ true → is_add o ≡ false
widen_adds (Op.Protect p r Rights.ReadWrite) z = refl
widen_adds o z = cc

pub widen_steps : (c : Program) (s : After) (t : Past) (a : ℕ) (o : Op) (xs : List Migrating) (p : ℕ) (r : Pages) (met : Bool) (told : Option ℕ) → Sound c s t → HoldsAll s t a (facts o xs (Phase.Guard p r met told Body.Nothing ∷ Phase.Answer ∷ [])) →
    GuardSteps c s a o xs p r met told Body.Nothing (due_guard s a o p r met told Body.Nothing)
widen_steps c s t a o xs p r met told so h = either_option (GuardSteps c s a o xs p r met told Body.Nothing) (to_tell s p r met told) _ _
    (λ e. (ending (is_add o) (piece_left c (next s a (Kind.End p r (seq_ended s.sequences p))) a o 0) (told_left s p r met told) 0 (widen_adds o h.1.1.1.0), refl))
    (λ m e. (told_falls c s t a o xs p r met told Body.Nothing (Phase.Answer ∷ []) m so e, refl))

-- the answers
pub answer_steps : (c : Program) (s : After) (t : Past) (a : ℕ) (o : Op) (xs : List Migrating) → is_simple o ≡ true → HoldsAll s t a (answering o) → StepsTo c s a o xs Phase.Answer [] OnSimple (Do (due_answer s o))
answer_steps c s t a (Op.Unmap p r) xs i h = (omega arith, refl)
answer_steps c s t a (Op.Protect p r w) xs i h = (omega arith, refl)
answer_steps c s t a (Op.Exit p) xs i h = (omega arith, refl)
answer_steps c s t a (Op.Fork p d) xs i h = (omega arith, refl)
answer_steps c s t a (Op.Map p r w) xs i h = absurd h.0
answer_steps c s t a (Op.Attach m d p r) xs i h = absurd h.0
answer_steps c s t a (Op.Detach m) xs i h = absurd h.0
answer_steps c s t a (Op.Snap m r) xs i h = absurd h.0
answer_steps c s t a o xs i h = cc

seen_less : (r : Pages) (v : ℕ) → v < last_of r → span_from (v + 1) r + 1 < span_from v r + 1
seen_less r v h = omega arith

pub pages_steps : (c : Program) (s : After) (a : ℕ) (o : Op) (xs : List Migrating) (v : ℕ) → is_snap o ≡ true → StepsTo c s a o xs (Phase.Pages v) [] OnSimple (Do (due_pages s o v))
pages_steps c s a (Op.Snap m r) xs v i = either (λ k. StepsTo c s a (Op.Snap m r) xs (Phase.Pages v) [] OnSimple (Do k)) (nat_lt v (r.first + r.count)) _ _ (λ e. (seen_less r v (grind (arith, nat_tests)), refl)) (λ e. (omega arith, refl))
pages_steps c s a o xs v i = cc

-- a frame left behind by an unmap or an exit
pub drop_steps : (c : Program) (s : After) (a : ℕ) (o : Op) (xs : List Migrating) (f : Frame) (below : List Phase) → on_drop below ≡ true → StepsTo c s a o xs (Phase.Drop f) below OnSimple (Do (Kind.Drop f))
drop_steps c s a o xs f (Phase.Guard p r met told (Body.Zap v) ∷ Phase.Answer ∷ []) h = (omega arith, refl)
drop_steps c s a o xs f below h = cc

to_half : (m k n : ℕ) → k + 1 ≤ n → m + (2 * k + 3) < m + (2 * n + 2)
to_half m k n h = omega arith

from_half : (m k : ℕ) → m + (2 * k + 2) < m + (2 * k + 3)
from_half m k = omega arith

abbrev ForkP : Program → After → Past → ℕ → ℕ → ℕ → List Migrating → Pages → Bool → Option ℕ → ℕ → Bool → Kind → Type 0
ForkP c s t a p d xs r met told n half k = Good c s t a (Op.Fork p d) xs (Phase.Guard p r met told (Body.Fork n half)) (Phase.Answer ∷ []) (Do k) → GuardSteps c s a (Op.Fork p d) xs p r met told (Body.Fork n half) k

-- the child's place
fork_child : (c : Program) (s : After) (t : Past) (a p d : ℕ) (xs : List Migrating) (r : Pages) (met : Bool) (told : Option ℕ) (n u : ℕ) (half : Bool) → (d ≡ p → ⊥) →
    told_left s p r met told + (2 * pages_from (u + 1) (s.plain.areas p) + 2) < left c s a (Op.Fork p d) xs (Phase.Guard p r met told (Body.Fork n half) ∷ Phase.Answer ∷ []) → ForkP c s t a p d xs r met told n half (Kind.Place d u (s.places.place p u))
fork_child c s t a p d xs r met told n u half ne less g = body (d == p) refl (orphan s.locks s.places (Kind.Place d u (s.places.place p u))) g.2
  where
    k : Kind
    k = Kind.Place d u (s.places.place p u)

    next_body : Bool → Body
    next_body b = if b then Body.Fork u true else Body.Fork (u + 1) false

    body : (b : Bool) → (d == p) ≡ b → (z : Option Frame) → HoldsAll (next s a k) (past_next t s.length a k) a (facts (Op.Fork p d) xs (dropping z (Phase.Guard p r met told (if b then Body.Fork u true else Body.Fork (u + 1) false) ∷ Phase.Answer ∷ []))) →
        (left c (next s a k) a (Op.Fork p d) xs (dropping z (Phase.Guard p r met told (if b then Body.Fork u true else Body.Fork (u + 1) false) ∷ Phase.Answer ∷ [])) < left c s a (Op.Fork p d) xs (Phase.Guard p r met told (Body.Fork n half) ∷ Phase.Answer ∷ [])) × OnSimple (dropping z (Phase.Guard p r met told (if b then Body.Fork u true else Body.Fork (u + 1) false) ∷ Phase.Answer ∷ []))
    body true e z h = absurd (ne (eqb-true d p e))
    body false e None h = (less, refl)
    body false e (Some f) h = absurd h.0

-- the parent's, if it is writable
fork_parent : (c : Program) (s : After) (t : Past) (a p d : ℕ) (xs : List Migrating) (r : Pages) (met : Bool) (told : Option ℕ) (n u : ℕ) → pages_from (u + 1) (s.plain.areas p) + 1 ≤ pages_from n (s.plain.areas p) → ForkP c s t a p d xs r met told n false (Kind.Place p u (narrowed (s.places.place p u)))
fork_parent c s t a p d xs r met told n u less g = body (p == p) (number_is p p refl) (orphan s.locks s.places (Kind.Place p u (narrowed (s.places.place p u)))) g.2
  where
    k : Kind
    k = Kind.Place p u (narrowed (s.places.place p u))

    body : (b : Bool) → b ≡ true → (z : Option Frame) → HoldsAll (next s a k) (past_next t s.length a k) a (facts (Op.Fork p d) xs (dropping z (Phase.Guard p r met told (if b then Body.Fork u true else Body.Fork (u + 1) false) ∷ Phase.Answer ∷ []))) →
        (left c (next s a k) a (Op.Fork p d) xs (dropping z (Phase.Guard p r met told (if b then Body.Fork u true else Body.Fork (u + 1) false) ∷ Phase.Answer ∷ [])) < left c s a (Op.Fork p d) xs (Phase.Guard p r met told (Body.Fork n false) ∷ Phase.Answer ∷ [])) × OnSimple (dropping z (Phase.Guard p r met told (if b then Body.Fork u true else Body.Fork (u + 1) false) ∷ Phase.Answer ∷ []))
    body false e z h = cc
    body true e None h = (to_half (told_left s p r met told) (pages_from (u + 1) (s.plain.areas p)) (pages_from n (s.plain.areas p)) less, refl)
    body true e (Some f) h = absurd h.0

pub fork_steps : (c : Program) (s : After) (t : Past) (a p d : ℕ) (xs : List Migrating) (r : Pages) (met : Bool) (told : Option ℕ) (n : ℕ) (half : Bool) → Sound c s t → HoldsAll s t a (facts (Op.Fork p d) xs (Phase.Guard p r met told (Body.Fork n half) ∷ Phase.Answer ∷ [])) →
    ForkP c s t a p d xs r met told n half (due_guard s a (Op.Fork p d) p r met told (Body.Fork n half))
fork_steps c s t a p d xs r met told n true so h = either_option (ForkP c s t a p d xs r met told n true) (to_tell s p r met told) _ _
    (λ e. fork_child c s t a p d xs r met told n n true (not_itself c s t a p d so h.1.1.1.1.1.0.0.1 h.1.1.1.1.1.0.2) (from_half (told_left s p r met told) (pages_from (n + 1) (s.plain.areas p))))
    (λ m e g. (told_falls c s t a (Op.Fork p d) xs p r met told (Body.Fork n true) (Phase.Answer ∷ []) m so e, refl))
fork_steps c s t a p d xs r met told n false so h = either_option (ForkP c s t a p d xs r met told n false) (to_tell s p r met told) _ _ (λ e. by (next_page s.places is_used p n) refl)
    (λ m e g. (told_falls c s t a (Op.Fork p d) xs p r met told (Body.Fork n false) (Phase.Answer ∷ []) m so e, refl))
  where
    ended : ForkP c s t a p d xs r met told n false (Kind.End p r (seq_ended s.sequences p))
    ended g = (ending false (piece_left c (next s a (Kind.End p r (seq_ended s.sequences p))) a (Op.Fork p d) 0) (told_left s p r met told) (2 * pages_from n (s.plain.areas p)) refl, refl)

    by : (x : Option ℕ) → next_page s.places is_used p n ≡ x → ForkP c s t a p d xs r met told n false (body_or_end s p r (within r x (fork_page s p d)))
    by None e = ended
    by (Some u) e = either (λ k. ForkP c s t a p d xs r met told n false (body_or_end s p r k)) (nat_lt u (r.first + r.count)) (Some (fork_page s p d u)) None
        (λ l. either (ForkP c s t a p d xs r met told n false) (writable (s.places.place p u)) (Kind.Place p u (narrowed (s.places.place p u))) (Kind.Place d u (s.places.place p u))
        (λ w. fork_parent c s t a p d xs r met told n u fewer)
        (λ w. fork_child c s t a p d xs r met told n u false (not_itself c s t a p d so h.1.1.1.1.1.0.0.1 h.1.1.1.1.1.0.2) (page_less (told_left s p r met told) (pages_from (u + 1) (s.plain.areas p)) (pages_from n (s.plain.areas p)) fewer)))
        (λ l. ended)
      where
        says : NextSays s.places is_used p n u
        says = next_says s.places is_used so.places no_empty_used p n u e

        used : is_used (s.places.place p u) ≡ true → is_empty_place (s.places.place p u) ≡ false
        used k = grind arith

        fewer : pages_from (u + 1) (s.plain.areas p) + 1 ≤ pages_from n (s.plain.areas p)
        fewer = pages_less (s.plain.areas p) n u says.above (so.areas.in_area p u h.1.1.1.1.1.0.0.1 (used says.passes))
