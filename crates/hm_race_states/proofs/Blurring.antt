-- How far actors are, without positions and absolute sequences.
use Rattle.std.proofs.Common.{◌≡◌, ℕ, Option, Some, None, List, [], ◌∷◌, map, refl, sym, ap, ◌∙◌, subst}
use Rattle.hm_base.specs.Program.{Program}
use Rattle.hm_history.specs.Memory.Sequences.{Sequences, interval_seq}
use Rattle.hm_history.specs.Kernel.Going.{Going, op_at}
use Rattle.hm_history.specs.declared.phases.Touch.{Touch}
use Rattle.hm_history.specs.declared.phases.Touch.TheVariants.{Cpu, Walk, Sole}
use Rattle.hm_history.specs.declared.phases.Phase.{Phase}
use Rattle.hm_race_laws.specs.Positions.{forget_touch, forget_option, forget_phase, forget_stack, forget_going}
use Rattle.hm_race_laws.specs.Numbers.{small_sequences, small_touch, small_option, small_phase, small_stack, small_going, mirror_of}
use Rattle.hm_race_states.specs.Blurs.{blurred_touch, blurred_option, blurred_phase}
use Rattle.hm_race_states.specs.Small.{unguarded}
use Rattle.hm_race_states.specs.Tasks.{going_in}
use Rattle.hm_race_states.specs.declared.tasks.RaceTask.{RaceTask}

touch_same : (s : Sequences) (m : ℕ) (x : Touch) → blurred_touch (interval_seq s m) (interval_seq (small_sequences s) m) x ≡ forget_touch (small_touch s m x)
touch_same s m (Cpu k) = refl
touch_same s m (Walk k at q) = refl
touch_same s m Sole = refl

option_same : (s : Sequences) (m : ℕ) (x : Option Touch) → blurred_option (interval_seq s m) (interval_seq (small_sequences s) m) x ≡ forget_option (small_option s m x)
option_same s m None = refl
option_same s m (Some x) = ap Some (touch_same s m x)

phase_same : (s : Sequences) (m : ℕ) (x : Phase) → blurred_phase (interval_seq s m) (interval_seq (small_sequences s) m) x ≡ forget_phase (small_phase s m x)
phase_same s m (Phase.Detaching q) = refl
phase_same s m (Phase.Begun k at q) = refl
phase_same s m (Phase.Decide touch) = ap Phase.Decide (touch_same s m touch)
phase_same s m (Phase.Noted k at q x) = refl
phase_same s m (Phase.Taken touch g x) = ap (λ t. Phase.Taken t g x) (touch_same s m touch)
phase_same s m (Phase.Armed touch g x) = ap (λ t. Phase.Armed t g x) (touch_same s m touch)
phase_same s m (Phase.GiveUp touch) = ap Phase.GiveUp (option_same s m touch)
phase_same s m _ = refl

stack_same : (s : Sequences) (m : ℕ) (xs : List Phase) → map (blurred_phase (interval_seq s m) (interval_seq (small_sequences s) m)) xs ≡ forget_stack (small_stack s m xs)
stack_same s m [] = refl
stack_same s m (x ∷ xs) = ap (λ z. z ∷ map (blurred_phase (interval_seq s m) (interval_seq (small_sequences s) m)) xs) (phase_same s m x) ∙ ap (λ z. forget_phase (small_phase s m x) ∷ z) (stack_same s m xs)

pub going_same : (c : Program) (s : Sequences) (a own little m : ℕ) (g : Going) (st : List Phase) → m ≡ mirror_of (op_at c a g.index) → own ≡ interval_seq s m → little ≡ interval_seq (small_sequences s) m → st ≡ map (blurred_phase own little) g.stack → ◌≡◌ {A = Going} (record { index = g.index; stack = st; pages = g.pages }) (forget_going (small_going c s a g))
going_same c s a own little m g st e f k is = ap (λ z. record { index = g.index; stack = z; pages = g.pages }) (is ∙ (ap (λ o. map (blurred_phase o little) g.stack) f ∙ (ap (λ o. map (blurred_phase (interval_seq s m) o) g.stack) k ∙ (stack_same s m g.stack ∙ ap (λ n. forget_stack (small_stack s n g.stack)) e))))

-- guards do not count
unguarded_phase : (s : Sequences) (m : ℕ) (x : Phase) → small_phase (unguarded s) m x ≡ small_phase s m x
unguarded_phase s m (Phase.Detaching q) = refl
unguarded_phase s m (Phase.Begun k at q) = refl
unguarded_phase s m (Phase.Decide (Cpu k)) = refl
unguarded_phase s m (Phase.Decide (Walk k at q)) = refl
unguarded_phase s m (Phase.Decide Sole) = refl
unguarded_phase s m (Phase.Noted k at q x) = refl
unguarded_phase s m (Phase.Taken (Cpu k) g x) = refl
unguarded_phase s m (Phase.Taken (Walk k at q) g x) = refl
unguarded_phase s m (Phase.Taken Sole g x) = refl
unguarded_phase s m (Phase.Armed (Cpu k) g x) = refl
unguarded_phase s m (Phase.Armed (Walk k at q) g x) = refl
unguarded_phase s m (Phase.Armed Sole g x) = refl
unguarded_phase s m (Phase.GiveUp None) = refl
unguarded_phase s m (Phase.GiveUp (Some (Cpu k))) = refl
unguarded_phase s m (Phase.GiveUp (Some (Walk k at q))) = refl
unguarded_phase s m (Phase.GiveUp (Some Sole)) = refl
unguarded_phase s m _ = refl

unguarded_stack : (s : Sequences) (m : ℕ) (xs : List Phase) → small_stack (unguarded s) m xs ≡ small_stack s m xs
unguarded_stack s m [] = refl
unguarded_stack s m (x ∷ xs) = ap (λ z. z ∷ small_stack (unguarded s) m xs) (unguarded_phase s m x) ∙ ap (λ z. small_phase s m x ∷ z) (unguarded_stack s m xs)

pub unguarded_going : (c : Program) (s : Sequences) (a : ℕ) (g : Going) → forget_going (small_going c (unguarded s) a g) ≡ forget_going (small_going c s a g)
unguarded_going c s a g = ap {B = Going} (λ z. record { index = g.index; stack = forget_stack z; pages = g.pages }) (unguarded_stack s (mirror_of (op_at c a g.index)) g.stack)

-- an actor that notes nothing stays as it is
pub stays_blurred : (c : Program) (s : Sequences) (a : ℕ) (t : RaceTask) (xs : List Phase) → xs ≡ (going_in t).stack → ((own little : ℕ) → map (blurred_phase own little) xs ≡ xs) → going_in t ≡ forget_going (small_going c s a (going_in t))
stays_blurred c s a t xs e h =
    let m : ℕ = mirror_of (op_at c a (going_in t).index) in
    let own : ℕ = interval_seq s m in
    let little : ℕ = interval_seq (small_sequences s) m in
    going_same c s a own little m (going_in t) (going_in t).stack refl refl refl (sym (subst (λ (ys : List Phase). map (blurred_phase own little) ys ≡ ys) e (h own little)))
