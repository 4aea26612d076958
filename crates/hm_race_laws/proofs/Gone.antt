-- What is alike stays alike under tests and lists.
use Rattle.std.proofs.Common.{◌≡◌, Bool, true, false, Option, Some, None, List, [], ◌∷◌, refl, ap, ◌∙◌, if◌then◌else◌}
use Rattle.hm_base.specs.declared.ops.Op.{Op}
use Rattle.hm_history.specs.Memory.Places.{TableEntry}
use Rattle.hm_history.specs.Kernel.Going.{touch_page}
use Rattle.hm_history.specs.declared.phases.Touch.{Touch}
use Rattle.hm_history.specs.declared.phases.Touch.TheVariants.{Cpu, Walk, Sole}
use Rattle.hm_history.specs.declared.phases.Phase.{Phase}
use Rattle.hm_race_laws.specs.Positions.{placeless, forget_touch, forget_option, forget_phase, forget_stack}

pub by_test : {X Y : Type 0} (f : X → Y) (b : Bool) (x y z w : X) → f x ≡ f z → f y ≡ f w → f (elim b [ true ↦ x | false ↦ y ]) ≡ f (elim b [ true ↦ z | false ↦ w ])
by_test f true x y z w h k = h
by_test f false x y z w h k = k

pub by_if : {X Y : Type 0} (f : X → Y) (b : Bool) (x y z w : X) → f x ≡ f z → f y ≡ f w → f (if b then x else y) ≡ f (if b then z else w)
by_if f true x y z w h k = h
by_if f false x y z w h k = k

pub same_test : {X Y : Type 0} (f : X → Y) (b d : Bool) (x y : X) → b ≡ d → f (elim b [ true ↦ x | false ↦ y ]) ≡ f (elim d [ true ↦ x | false ↦ y ])
same_test f b d x y e = ap (λ z. f (elim z [ true ↦ x | false ↦ y ])) e

pub by_option : {X Y Z : Type 0} (f : X → Y) (o : Option Z) (x : X) (g : Z → X) (z : X) (h : Z → X) → f x ≡ f z → ((y : Z) → f (g y) ≡ f (h y)) → f (elim o [ None ↦ x | Some y ↦ g y ]) ≡ f (elim o [ None ↦ z | Some y ↦ h y ])
by_option f None x g z h e k = e
by_option f (Some y) x g z h e k = k y

pub placeless_twice : (x : Option TableEntry) → placeless x ≡ placeless (placeless x)
placeless_twice None = refl
placeless_twice (Some x) = refl

pub touch_twice : (x : Touch) → forget_touch x ≡ forget_touch (forget_touch x)
touch_twice (Cpu k) = refl
touch_twice (Walk k at q) = refl
touch_twice Sole = refl

pub page_same : (o : Op) (x : Touch) → touch_page o x ≡ touch_page o (forget_touch x)
page_same (Op.Exclusive m v) x = refl
page_same _ (Cpu k) = refl
page_same _ (Walk k at q) = refl
page_same _ Sole = refl

pub option_twice : (x : Option Touch) → forget_option x ≡ forget_option (forget_option x)
option_twice None = refl
option_twice (Some x) = ap Some (touch_twice x)

pub phase_twice : (x : Phase) → forget_phase x ≡ forget_phase (forget_phase x)
phase_twice (Phase.Decide touch) = ap Phase.Decide (touch_twice touch)
phase_twice (Phase.Taken touch g x) = ap (λ z. Phase.Taken z g x) (touch_twice touch)
phase_twice (Phase.Armed touch g x) = ap (λ z. Phase.Armed z g x) (touch_twice touch)
phase_twice (Phase.GiveUp touch) = ap Phase.GiveUp (option_twice touch)
phase_twice _ = refl

pub stack_twice : (l : List Phase) → forget_stack l ≡ forget_stack (forget_stack l)
stack_twice [] = refl
stack_twice (x ∷ l) = ap (λ z. z ∷ forget_stack l) (phase_twice x) ∙ ap (λ z. forget_phase (forget_phase x) ∷ z) (stack_twice l)

pub both_test : {X Y : Type 0} (f : X → Y) (b d : Bool) (x y z w : X) → b ≡ d → f x ≡ f z → f y ≡ f w → f (elim b [ true ↦ x | false ↦ y ]) ≡ f (elim d [ true ↦ z | false ↦ w ])
both_test f b d x y z w e h k = same_test f b d x y e ∙ by_test f d x y z w h k

pub both_option : {X Y Z : Type 0} (f : X → Y) (o p : Option Z) (x : X) (g : Z → X) (z : X) (h : Z → X) → o ≡ p → f x ≡ f z → ((y : Z) → f (g y) ≡ f (h y)) → f (elim o [ None ↦ x | Some y ↦ g y ]) ≡ f (elim p [ None ↦ z | Some y ↦ h y ])
both_option f o p x g z h e k l = ap (λ (t : Option _). f (elim t [ None ↦ x | Some y ↦ g y ])) e ∙ by_option f p x g z h k l

-- the same with another function on each side
pub if_two : {X Y : Type 0} (f g : X → Y) (b : Bool) (x y z w : X) → f x ≡ g z → f y ≡ g w → f (if b then x else y) ≡ g (if b then z else w)
if_two f g true x y z w h k = h
if_two f g false x y z w h k = k

pub option_two : {X Y Z : Type 0} (f g : X → Y) (o : Option Z) (x : X) (i : Z → X) (z : X) (j : Z → X) → f x ≡ g z → ((y : Z) → f (i y) ≡ g (j y)) → f (elim o [ None ↦ x | Some y ↦ i y ]) ≡ g (elim o [ None ↦ z | Some y ↦ j y ])
option_two f g None x i z j h k = h
option_two f g (Some y) x i z j h k = k y
