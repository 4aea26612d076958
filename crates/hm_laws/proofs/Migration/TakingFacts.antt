-- What is known of the records of a migration in its fourth step.
use Rattle.std.proofs.Common.{◌≡◌, ℕ, ◌+◌, Bool, true, false, not, ◌&&◌, ◌||◌, nat_lt, is_some, is_none, Option, Some, None, List, [], ◌∷◌, ap, ◌∙◌, arith}
use Rattle.std.specs.List.{list_any}
use Rattle.std.proofs.lemmas.Bool.Decides.{nat_tests}
use Rattle.hm_base.specs.declared.Frame.{Frame}
use Rattle.hm_base.specs.declared.ops.Op.{Op}
use Rattle.hm_history.specs.Memory.Words.{same_frame, is_frame}
use Rattle.hm_history.specs.Memory.After.{After}
use Rattle.hm_history.specs.Kernel.Operation.{op_mirror, is_to_device}
use Rattle.hm_history.specs.declared.Who.{Who}
use Rattle.hm_history.specs.declared.phases.Migrating.{Migrating}
use Rattle.hm_history.specs.declared.phases.MoveStep.TheVariants.{TakeAndCopy}
use Rattle.hm_laws.specs.Past.{Past}
use Rattle.hm_laws.specs.Records.{Among, is_of, staged, parts_of}
use Rattle.hm_laws.specs.Facts.{Locks_only, Zeroed, Copying, May_read, Frozen, Frozen_at, Lands_on, Holds, frames_of, held, known_of, record_facts, records, migrating, HoldsAll}
use Rattle.hm_laws.proofs.Own.Facts.{held_by_all}
use Rattle.hm_laws.proofs.Migration.Records.{records_each, records_all, held_some, held_of, frames_are, none_says}
use Rattle.hm_history.proofs.Frames.{frame_tells}
use Rattle.hm_laws.proofs.Migration.PagePast.{not_before, now_before}

-- each frame of a record is the actor's
turned_one : (f g : Frame) → (false || same_frame g f) ≡ true → (same_frame f g || false) ≡ true
turned_one f g h = grind (arith, frame_tells f g, frame_tells g f)

turned_left : (f i : Frame) → (same_frame i f || false) ≡ true → (same_frame f i || false) ≡ true
turned_left f i h = grind (arith, frame_tells f i, frame_tells i f)

turned_two : (f i g : Frame) → (same_frame i f || same_frame g f) ≡ true → (same_frame f i || (same_frame f g || false)) ≡ true
turned_two f i g h = grind (arith, frame_tells f i, frame_tells i f, frame_tells f g, frame_tells g f)

frames_taking : (o : Op) (v : ℕ) (x y : Option Frame) (moved : Bool) (hand : Option (Frame × ℕ)) (f : Frame) → (is_frame x f || is_frame y f) ≡ true → list_any (same_frame f) (frames_of (known_of o v x y moved true false false hand)) ≡ true
frames_taking o v None None moved hand f h = cc
frames_taking o v None (Some g) false hand f h = turned_one f g h
frames_taking o v None (Some g) true hand f h = turned_one f g h
frames_taking o v (Some i) None moved hand f h = turned_left f i h
frames_taking o v (Some i) (Some g) false hand f h = turned_two f i g h
frames_taking o v (Some i) (Some g) true hand f h = turned_two f i g h

pub held_taking : (o : Op) (v : ℕ) (hand : Option (Frame × ℕ)) (xs : List Migrating) (y : Migrating) (f : Frame) → Among xs y → is_of y f ≡ true → list_any (same_frame f) (held o xs TakeAndCopy v hand) ≡ true
held_taking o v hand xs y f i h = held_of o TakeAndCopy v hand xs f y i (frames_taking o y.page y.source y.dest y.moved hand f h)

pub mine_taking : (s : After) (t : Past) (a : ℕ) (o : Op) (v : ℕ) (hand : Option (Frame × ℕ)) (xs : List Migrating) (y : Migrating) (f : Frame) → HoldsAll s t a (records o TakeAndCopy v hand xs) → Among xs y → is_of y f ≡ true → s.locks.frame f ≡ Some a
mine_taking s t a o v hand xs y f h i m = held_by_all s t a f (records o TakeAndCopy v hand xs) (held_taking o v hand xs y f i m) h

-- which the list tells, whatever page the step has come to, and whatever is in hand
pub same_held : (s : After) (t : Past) (a : ℕ) (o : Op) (v u : ℕ) (hand to : Option (Frame × ℕ)) (xs : List Migrating) → Holds s t a (Locks_only (held o xs TakeAndCopy v hand)) → Holds s t a (Locks_only (held o xs TakeAndCopy u to))
same_held s t a o v u hand to xs h f l = at (held_some o TakeAndCopy v hand xs f (h f l))
  where
    at : (y : Migrating) × Among xs y × (list_any (same_frame f) (frames_of (record_facts o TakeAndCopy v hand y)) ≡ true) → list_any (same_frame f) (held o xs TakeAndCopy u to) ≡ true
    at y = held_taking o u to xs y.0 f y.1 (frames_are o TakeAndCopy v hand y.0 f y.2)

-- a page further less is asked of the records
less_asked : (a b m p q : Bool) → (p ≡ true → q ≡ true) → (a && ((b || p) && ((not m || false) && true))) ≡ true → (a && ((b || q) && ((not m || false) && true))) ≡ true
less_asked a b m p q i h = grind (arith, i)

below_next : (n v : ℕ) → nat_lt n v ≡ true → nat_lt n (v + 1) ≡ true
below_next n v h = grind (arith, nat_tests)

pub further : (s : After) (t : Past) (a : ℕ) (o : Op) (v : ℕ) (hand : Option (Frame × ℕ)) (y : Migrating) → HoldsAll s t a (record_facts o TakeAndCopy v hand y) → HoldsAll s t a (record_facts o TakeAndCopy (v + 1) hand y)
further s t a o v hand y h = (less_asked (is_some y.source || is_to_device o) (is_none y.dest) y.moved (nat_lt y.page v) (nat_lt y.page (v + 1)) (below_next y.page v) h.0, h.1)

pub all_further : (s : After) (t : Past) (a : ℕ) (o : Op) (xs : List Migrating) (v : ℕ) → HoldsAll s t a (migrating o xs TakeAndCopy v None) → HoldsAll s t a (migrating o xs TakeAndCopy (v + 1) None)
all_further s t a o xs v h = (h.0, (h.1.0, (h.1.1.0, records_all s t a o TakeAndCopy (v + 1) None xs (λ y i. further s t a o v None y (records_each s t a o TakeAndCopy v None xs h.1.1.1 y i)))))

-- a page that the step comes to has no frame yet
stage_says : (a b m p : Bool) → p ≡ false → (a && ((b || p) && ((not m || false) && true))) ≡ true → (a ≡ true) × (b ≡ true) × (m ≡ false)
stage_says a b m p n h = (grind arith, grind arith, grind arith)

pub not_yet : (o : Op) (x : Migrating) → staged o (nat_lt x.page x.page) false x ≡ true → ((is_some x.source || is_to_device o) ≡ true) × (x.dest ≡ None) × (x.moved ≡ false)
not_yet o x h = let k = stage_says (is_some x.source || is_to_device o) (is_none x.dest) x.moved (nat_lt x.page x.page) (not_before x.page) h in (k.0, none_says x.dest k.1, k.2)

-- and one is taken for it
stage_of : (a m p : Bool) → p ≡ true → a ≡ true → m ≡ false → (a && (p && ((not m || false) && true))) ≡ true
stage_of a m p i j n = grind arith

pub staged_taken : (o : Op) (x : Migrating) (g : Frame) → (is_some x.source || is_to_device o) ≡ true → x.moved ≡ false → staged o (nat_lt x.page (x.page + 1)) false (record x { dest = Some g }) ≡ true
staged_taken o x g h m = stage_of (is_some x.source || is_to_device o) x.moved (nat_lt x.page (x.page + 1)) (now_before x.page) h m

-- what is known of a record, with its frame and without
pub known_source : (o : Op) (v : ℕ) (x y : Option Frame) (moved : Bool) (f : Frame) → x ≡ Some f → y ≡ None → known_of o v x y moved true false false None ≡ Frozen f ∷ Frozen_at (Who.Mirror (op_mirror o)) v f ∷ []
known_source o v x y moved f e d = ap (λ i. known_of o v i y moved true false false None) e ∙ ap (λ i. known_of o v (Some f) i moved true false false None) d

pub known_none : (o : Op) (v : ℕ) (x y : Option Frame) (moved : Bool) → x ≡ None → y ≡ None → known_of o v x y moved true false false None ≡ May_read (Who.Mirror (op_mirror o)) v ∷ []
known_none o v x y moved e d = ap (λ i. known_of o v i y moved true false false None) e ∙ ap (λ i. known_of o v None i moved true false false None) d

pub known_fresh : (o : Op) (v : ℕ) (x : Option Frame) (moved : Bool) (g : Frame) → x ≡ None → moved ≡ false → known_of o v x (Some g) moved true false false None ≡ Zeroed g ∷ May_read (Who.Mirror (op_mirror o)) v ∷ Lands_on o g ∷ []
known_fresh o v x moved g e m = ap (λ i. known_of o v i (Some g) moved true false false None) e ∙ ap (λ b. known_of o v None (Some g) b true false false None) m

pub known_pair : (o : Op) (v : ℕ) (x y : Option Frame) (moved : Bool) (f g : Frame) (hand : Option (Frame × ℕ)) (k : ℕ) → x ≡ Some f → y ≡ Some g → moved ≡ false → parts_of hand g ≡ k → known_of o v x y moved true false false hand ≡ Copying f g k ∷ Frozen_at (Who.Mirror (op_mirror o)) v f ∷ Lands_on o g ∷ []
known_pair o v x y moved f g hand k e d m p = ap (λ i. known_of o v i y moved true false false hand) e ∙ (ap (λ i. known_of o v (Some f) i moved true false false hand) d ∙ (ap (λ b. known_of o v (Some f) (Some g) b true false false hand) m ∙ ap (λ n. Copying f g n ∷ Frozen_at (Who.Mirror (op_mirror o)) v f ∷ Lands_on o g ∷ []) p))

pub parts_here : (g : Frame) (k : ℕ) → parts_of (Some (g, k)) g ≡ k
parts_here g k = grind (arith, frame_tells g g)
