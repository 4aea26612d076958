-- What an actor's stack of phases may be, where so many pieces of its operation were answered.
use Rattle.std.proofs.Common.{◌≡◌, ℕ, ◌+◌, Bool, true, false, cond, nat_lt, ◌==◌, Option, None, Some, List, [], ◌∷◌, length, refl, sym, ◌∙◌, subst}
use Rattle.std.specs.Prelude.{◌&&◌}
use Rattle.std.proofs.lemmas.Bool.{false≢true, eqb-true, eq-eqb, and_parts, and_from}
use Rattle.hm_base.specs.declared.ops.Op.{Op}
use Rattle.hm_history.specs.declared.Kind.{Kind}
use Rattle.hm_history.specs.declared.Why.{Why}
use Rattle.hm_history.specs.declared.phases.Touch.{Touch}
use Rattle.hm_history.specs.declared.phases.Phase.{Phase}
use Rattle.hm_history.specs.declared.phases.Next.{Next}
use Rattle.hm_history.specs.declared.phases.Next.TheVariants.{Do, Wait}
use Rattle.hm_history.specs.Kernel.Operation.{op_pieces, is_remove, is_evicting, is_migration}
use Rattle.hm_history.specs.Kernel.Stacks.{first_phase, piece_ends, piece_of}
use Rattle.hm_report.specs.Kinds.{is_answer, is_snap, finishes}

-- classes of operations
abbrev pub is_access : Op → Bool
is_access (Op.Load p a n) = true
is_access (Op.Store p a bs) = true
is_access (Op.DeviceLoad m a n) = true
is_access (Op.DeviceStore m a bs) = true
is_access _ = false

abbrev pub is_alone_op : Op → Bool
is_alone_op (Op.Exclusive m v) = true
is_alone_op (Op.Add m a k) = true
is_alone_op _ = false

abbrev pub is_add : Op → Bool
is_add (Op.Add m a k) = true
is_add _ = false

abbrev pub is_detach : Op → Bool
is_detach (Op.Detach m) = true
is_detach _ = false

abbrev pub is_areas_op : Op → Bool
is_areas_op (Op.Map p r w) = true
is_areas_op (Op.Unmap p r) = true
is_areas_op (Op.Protect p r w) = true
is_areas_op (Op.Exit p) = true
is_areas_op (Op.Fork p c) = true
is_areas_op _ = false

abbrev pub is_begun : Op → Bool
is_begun (Op.Map p r w) = true
is_begun (Op.Unmap p r) = true
is_begun (Op.Protect p r w) = true
is_begun (Op.Exit p) = true
is_begun (Op.Fork p c) = true
is_begun (Op.Attach m d p r) = true
is_begun (Op.Detach m) = true
is_begun (Op.ToDevice m r) = true
is_begun (Op.ToSystem m r) = true
is_begun (Op.Snap m r) = true
is_begun (Op.Exclusive m v) = true
is_begun _ = false

abbrev pub is_readied : Op → Bool
is_readied (Op.Fork p c) = true
is_readied (Op.ToDevice m r) = true
is_readied (Op.ToSystem m r) = true
is_readied _ = false

abbrev pub has_answer : Op → Bool
has_answer (Op.Unmap p r) = true
has_answer (Op.Protect p r w) = true
has_answer (Op.Exit p) = true
has_answer (Op.Fork p c) = true
has_answer (Op.Exclusive m v) = true
has_answer (Op.Add m a k) = true
has_answer _ = false

-- this piece of the operation is next
abbrev pub piece_fits : Op → ℕ → ℕ → Bool
piece_fits o n k = elim (is_access o) [ true ↦ k == n | false ↦ is_alone_op o && ((0 == n) && (0 == k)) ]

abbrev pub touch_fits : Op → ℕ → Touch → Bool
touch_fits o n (Touch.Cpu k) = piece_fits o n k
touch_fits o n (Touch.Walk k at q) = piece_fits o n k
touch_fits o n Touch.Sole = is_alone_op o && (0 == n)

-- the phase at the bottom of a stack
abbrev pub base_fits : Op → ℕ → Phase → Bool
base_fits o n Phase.Begin = is_begun o && (0 == n)
base_fits o n Phase.Locked = is_areas_op o && (0 == n)
base_fits o n Phase.Ready = is_readied o && (0 == n)
base_fits o n Phase.Answer = has_answer o && (0 == n)
base_fits o n (Phase.Detaching q) = is_detach o
base_fits o n (Phase.Pages v) = is_snap o
base_fits o n (Phase.Piece k) = piece_fits o n k
base_fits o n (Phase.Fetched old) = is_add o && (0 == n)
base_fits o n (Phase.Begun k at q) = piece_fits o n k
base_fits o n (Phase.Decide touch) = touch_fits o n touch
base_fits o n (Phase.Noted k at q x) = piece_fits o n k
base_fits o n (Phase.Taken touch g x) = touch_fits o n touch
base_fits o n (Phase.Armed touch g x) = touch_fits o n touch
base_fits o n (Phase.GiveUp None) = is_remove o
base_fits o n (Phase.GiveUp (Some touch)) = touch_fits o n touch
base_fits o n (Phase.Frames v m) = is_evicting o
base_fits o n (Phase.Moves step v) = is_migration o
base_fits o n _ = false

-- the phases above it
abbrev pub is_above : Phase → Bool
is_above (Phase.Guard p r met told body) = true
is_above (Phase.Drop f) = true
is_above (Phase.Emptying f at) = true
is_above (Phase.Copy f g k) = true
is_above (Phase.Copied f g) = true
is_above (Phase.Finish f to) = true
is_above (Phase.Settle g) = true
is_above (Phase.Lost v g) = true
is_above _ = false

abbrev pub fits : Op → ℕ → List Phase → Bool
fits o n [] = false
fits o n (x ∷ []) = base_fits o n x
fits o n (x ∷ y ∷ below) = is_above x && fits o n (y ∷ below)

abbrev pub is_over : List Phase → Bool
is_over [] = true
is_over _ = false

-- after the answer to a piece, and after any entry
abbrev pub answer_goes : Op → ℕ → List Phase → Bool
answer_goes o n stack = elim (nat_lt (n + 1) (length (op_pieces o))) [ true ↦ fits o (n + 1) stack | false ↦ is_over stack ]

abbrev pub goes : Op → ℕ → Kind → List Phase → Bool
goes o n k stack = elim (is_answer k) [ true ↦ answer_goes o n stack | false ↦ elim (finishes o k) [ true ↦ is_over stack | false ↦ fits o n stack ] ]

-- a fact of what is due, if it is an entry
abbrev pub NextPasses : (Kind → Type 0) → Next → Type 0
NextPasses P (Do k) = P k
NextPasses P (Wait w) = Unit {0}

pub record NextIs (P : Kind → Type 0) (x : Next) : Type 0 where
  pub is : NextPasses P x

pub does : (P : Kind → Type 0) (k : Kind) → P k → NextIs P (Do k)
does P k h = record { is = h }

pub waits : (P : Kind → Type 0) (w : Why) → NextIs P (Wait w)
waits P w = record { is = tt }

pub next_at : (P : Kind → Type 0) (x : Next) (k : Kind) → x ≡ Do k → NextIs P x → P k
next_at P x k e w = let at : NextIs P (Do k) = subst (NextIs P) e w in at.is

-- choices
pub either : {X : Type 0} (P : X → Type 0) (b : Bool) (x y : X) → P x → P y → P (elim b [ true ↦ x | false ↦ y ])
either P true x y p q = p
either P false x y p q = q

pub either_if : {X : Type 0} (P : X → Type 0) (b : Bool) (x y : X) → P x → P y → P (cond b x y)
either_if P true x y p q = p
either_if P false x y p q = q

pub perhaps : {A X : Type 0} (P : X → Type 0) (o : Option A) (x : X) (f : A → X) → P x → ((a : A) → P (f a)) → P (elim o [ None ↦ x | Some a ↦ f a ])
perhaps P None x f p q = p
perhaps P (Some a) x f p q = q a

-- stacks
pub fits_push : (o : Op) (n : ℕ) (x : Phase) (below : List Phase) → is_above x ≡ true → fits o n below ≡ true → fits o n (x ∷ below) ≡ true
fits_push o n x [] above fit = absurd (false≢true fit)
fits_push o n x (y ∷ below) above fit = and_from (is_above x) (fits o n (y ∷ below)) above fit

pub fits_below : (o : Op) (n : ℕ) (x : Phase) (below : List Phase) → base_fits o n x ≡ false → fits o n (x ∷ below) ≡ true → fits o n below ≡ true
fits_below o n x [] none fit = absurd (false≢true (sym none ∙ fit))
fits_below o n x (y ∷ below) none fit = (and_parts (is_above x) (fits o n (y ∷ below)) fit).1

pub fits_base : (o : Op) (n : ℕ) (x : Phase) (below : List Phase) → is_above x ≡ false → fits o n (x ∷ below) ≡ true → base_fits o n x ≡ true
fits_base o n x [] none fit = fit
fits_base o n x (y ∷ below) none fit = absurd (false≢true (sym none ∙ (and_parts (is_above x) (fits o n (y ∷ below)) fit).0))

pub first_fits : (o : Op) → fits o 0 (first_phase o ∷ []) ≡ true
first_fits (Op.Map p r w) = refl
first_fits (Op.Unmap p r) = refl
first_fits (Op.Protect p r w) = refl
first_fits (Op.Load p a n) = refl
first_fits (Op.Store p a bs) = refl
first_fits (Op.Fork p c) = refl
first_fits (Op.Exit p) = refl
first_fits (Op.Attach m d p r) = refl
first_fits (Op.Detach m) = refl
first_fits (Op.DeviceLoad m a n) = refl
first_fits (Op.DeviceStore m a bs) = refl
first_fits (Op.ToDevice m r) = refl
first_fits (Op.ToSystem m r) = refl
first_fits (Op.Snap m r) = refl
first_fits (Op.Evict d) = refl
first_fits (Op.Remove d) = refl
first_fits (Op.Exclusive m v) = refl
first_fits (Op.Add m a k) = refl

-- the answer to a piece
abbrev answer_of : Op → ℕ → Bool → List Phase → Bool
answer_of o n b stack = elim b [ true ↦ fits o (n + 1) stack | false ↦ is_over stack ]

next_or_over : (o : Op) (n : ℕ) (x : Phase) (b : Bool) → fits o (n + 1) (x ∷ []) ≡ true → answer_of o n b (cond b (x ∷ []) []) ≡ true
next_or_over o n x true next = next
next_or_over o n x false next = refl

access_goes : (o : Op) (n : ℕ) → is_access o ≡ true → answer_goes o n (piece_ends o n) ≡ true
access_goes o n access =
    let P : Bool → Type 0 = λ b. elim b [ true ↦ (n + 1) == (n + 1) | false ↦ is_alone_op o && ((0 == n + 1) && (0 == n + 1)) ] ≡ true in
    let next : fits o (n + 1) (Phase.Piece (n + 1) ∷ []) ≡ true = subst P (sym access) (eq-eqb (n + 1) (n + 1) refl) in
    next_or_over o n (Phase.Piece (n + 1)) (nat_lt (n + 1) (length (op_pieces o))) next

access_ends : (o : Op) (n k : ℕ) → is_access o ≡ true → (k == n) ≡ true → answer_goes o n (piece_ends o k) ≡ true
access_ends o n k access same = rw (eqb-true k n same) (access_goes o n access)

alone_goes : (o : Op) → is_alone_op o ≡ true → answer_goes o 0 (piece_ends o 0) ≡ true
alone_goes (Op.Exclusive m v) e = refl
alone_goes (Op.Add m a k) e = refl
alone_goes o e = absurd (false≢true e)

alone_ends : (o : Op) (n k : ℕ) → (is_alone_op o && ((0 == n) && (0 == k))) ≡ true → answer_goes o n (piece_ends o k) ≡ true
alone_ends o n k fit =
    let alone = (and_parts (is_alone_op o) ((0 == n) && (0 == k)) fit).0 in
    let both = (and_parts (is_alone_op o) ((0 == n) && (0 == k)) fit).1 in
    let a : 0 ≡ n = eqb-true 0 n (and_parts (0 == n) (0 == k) both).0 in
    let b : 0 ≡ k = eqb-true 0 k (and_parts (0 == n) (0 == k) both).1 in
    rw (← a, ← b) (alone_goes o alone)

by_access : (o : Op) (n k : ℕ) (b : Bool) → is_access o ≡ b → elim b [ true ↦ k == n | false ↦ is_alone_op o && ((0 == n) && (0 == k)) ] ≡ true → answer_goes o n (piece_ends o k) ≡ true
by_access o n k true e fit = access_ends o n k e fit
by_access o n k false e fit = alone_ends o n k fit

pub piece_goes : (o : Op) (n k : ℕ) → piece_fits o n k ≡ true → answer_goes o n (piece_ends o k) ≡ true
piece_goes o n k fit = by_access o n k (is_access o) refl fit

alone_piece : (o : Op) (n : ℕ) → is_alone_op o ≡ true → (0 == n) ≡ true → piece_fits o n 0 ≡ true
alone_piece (Op.Exclusive m v) n e z = and_from (0 == n) true z refl
alone_piece (Op.Add m a k) n e z = and_from (0 == n) true z refl
alone_piece o n e z = absurd (false≢true e)

pub sole_piece : (o : Op) (n : ℕ) → (is_alone_op o && (0 == n)) ≡ true → piece_fits o n 0 ≡ true
sole_piece o n fit = alone_piece o n (and_parts (is_alone_op o) (0 == n) fit).0 (and_parts (is_alone_op o) (0 == n) fit).1

pub touch_piece : (o : Op) (n : ℕ) (touch : Touch) → touch_fits o n touch ≡ true → piece_fits o n (piece_of touch) ≡ true
touch_piece o n (Touch.Cpu k) fit = fit
touch_piece o n (Touch.Walk k at q) fit = fit
touch_piece o n Touch.Sole fit = sole_piece o n fit

pub piece_no_snap : (o : Op) (n k : ℕ) → piece_fits o n k ≡ true → is_snap o ≡ false
piece_no_snap (Op.Snap m r) n k fit = absurd (false≢true fit)
piece_no_snap o n k fit = refl
