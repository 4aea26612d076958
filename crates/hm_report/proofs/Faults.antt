-- Entries of faults: the stack fits after them.
use Rattle.std.proofs.Common.{◌≡◌, ℕ, Bool, true, false, ◌==◌, Option, None, Some, List, [], ◌∷◌, refl, sym, subst}
use Rattle.std.specs.Prelude.{◌&&◌}
use Rattle.std.proofs.lemmas.Bool.{false≢true}
use Rattle.hm_base.specs.declared.cause.Cause.{Cause}
use Rattle.hm_base.specs.Pages.{Pages}
use Rattle.hm_base.specs.Program.{Program}
use Rattle.hm_base.specs.declared.Frame.{Frame}
use Rattle.hm_base.specs.declared.Place.{Place}
use Rattle.hm_base.specs.declared.ops.Op.{Op}
use Rattle.hm_history.specs.Memory.After.{After}
use Rattle.hm_history.specs.Kernel.Operation.{op_mirror, op_writes}
use Rattle.hm_history.specs.Memory.Plain.{rights_of, is_read_only, mirror_dev}
use Rattle.hm_history.specs.declared.TableRight.{TableRight}
use Rattle.hm_history.specs.declared.Kind.{Kind}
use Rattle.hm_history.specs.declared.phases.Seen.{Seen}
use Rattle.hm_history.specs.declared.phases.Touch.{Touch}
use Rattle.hm_history.specs.declared.phases.Phase.{Phase}
use Rattle.hm_history.specs.declared.phases.Next.TheVariants.{Do}
use Rattle.hm_history.specs.Kernel.Stacks.{piece_of, after_walk, with_frame_taken, after_decide, after_taken, after_give_up}
use Rattle.hm_history.specs.Kernel.Due.{fails, failed, fault, fault_at, fault_sys, take_or, bring_home, suits, suits_walk, due_decide, due_sole, due_noted, due_taken, due_give_up}
use Rattle.hm_report.specs.Kinds.{is_snap}
use Rattle.hm_report.proofs.Fits.{base_fits, touch_fits, fits, is_over, goes, is_alone_op, has_answer, NextIs, does, waits, either, perhaps, piece_goes, touch_piece, piece_no_snap}

-- what a fault may add
pub record FaultKinds (P : Kind → Type 0) (o : Op) (k : ℕ) : Type 0 where
  pub unmapped : P (fails o k Cause.Unmapped)
  pub forbidden : P (fails o k Cause.Forbidden)
  pub no_frame : P (fails o k Cause.NoFrame)
  pub unlocks : (p : ℕ) → P (Kind.Runlock p)
  pub places : (p v : ℕ) (x : Place) → P (Kind.Place p v x)
  pub takes : (g : Frame) → P (Kind.Take g)
  pub starts : (p : ℕ) (r : Pages) (q : ℕ) → P (Kind.Start p r q)

take_is : (P : Kind → Type 0) (c : Program) (s : After) (failing : Kind) → P failing → ((g : Frame) → P (Kind.Take g)) → NextIs P (take_or c s failing)
take_is P c s failing full takes = perhaps (NextIs P) _ _ _ (does P _ full) (λ g. does P _ (takes g))

home_is : (P : Kind → Type 0) (s : After) (a p v : ℕ) (f : Frame) → ((r : Pages) (q : ℕ) → P (Kind.Start p r q)) → NextIs P (bring_home s a p v f)
home_is P s a p v f starts = perhaps (NextIs P) _ _ _ (does P _ (starts _ _)) (λ b. waits P _)

sys_is : (P : Kind → Type 0) (c : Program) (s : After) (p v n : ℕ) (failing : Kind) → P failing → ((g : Frame) → P (Kind.Take g)) → ((x : Place) → P (Kind.Place p v x)) → NextIs P (fault_sys c s p v n failing)
sys_is P c s p v n failing full takes places = either (NextIs P) _ _ _ (does P _ (places _)) (take_is P c s failing full takes)

at_is : (P : Kind → Type 0) (c : Program) (s : After) (a : ℕ) (o : Op) (k p v : ℕ) (x : Place) → FaultKinds P o k → NextIs P (fault_at c s a o k p v x)
at_is P c s a o k p v (Place.Moving f w) h = waits P _
at_is P c s a o k p v (Place.Own d n w) h = home_is P s a p v _ (h.starts p)
at_is P c s a o k p v (Place.Exclusive n b) h = does P _ (h.starts _ _ _)
at_is P c s a o k p v Place.Empty h = either (NextIs P) _ _ _ (take_is P c s _ h.no_frame h.takes) (does P _ (h.places _ _ _))
at_is P c s a o k p v Place.Zero h = take_is P c s _ h.no_frame h.takes
at_is P c s a o k p v (Place.Sys n w) h = sys_is P c s p v n _ h.no_frame h.takes (h.places p v)

fault_is : (P : Kind → Type 0) (c : Program) (s : After) (a : ℕ) (o : Op) (k : ℕ) (suited : Place → Bool) (p v : ℕ) → FaultKinds P o k → NextIs P (fault c s a o k suited p v)
fault_is P c s a o k suited p v h =
    let place = s.places.place p v in
    let suiting : NextIs P (elim (suited place) [ true ↦ Do (Kind.Runlock p) | false ↦ fault_at c s a o k p v place ]) = either (NextIs P) _ _ _ (does P _ (h.unlocks _)) (at_is P c s a o k p v place h) in
    let allowed : NextIs P (elim (op_writes o && is_read_only (rights_of s.plain p v)) [ true ↦ Do (fails o k Cause.Forbidden) | false ↦ elim (suited place) [ true ↦ Do (Kind.Runlock p) | false ↦ fault_at c s a o k p v place ] ]) = either (NextIs P) _ _ _ (does P _ h.forbidden) suiting in
    either (NextIs P) _ _ _ (does P _ h.unmapped) allowed

sole_is : (P : Kind → Type 0) (c : Program) (s : After) (a : ℕ) (o : Op) (m p v : ℕ) (x : Place) → FaultKinds P o 0 → ((f : Option Frame) (w : TableRight) (at : ℕ) → P (Kind.Set m v f w at)) → NextIs P (due_sole c s a o m p v x)
sole_is P c s a o m p v (Place.Exclusive n b) h sets = either (NextIs P) _ _ _ (either (NextIs P) _ _ _ (waits P _) (does P _ (sets _ _ _))) (fault_is P c s a o 0 (suits true) p v h)
sole_is P c s a o m p v (Place.Sys n true) h sets = does P _ (h.starts _ _ _)
sole_is P c s a o m p v (Place.Sys n false) h sets = fault_is P c s a o 0 (suits true) p v h
sole_is P c s a o m p v Place.Empty h sets = fault_is P c s a o 0 (suits true) p v h
sole_is P c s a o m p v Place.Zero h sets = fault_is P c s a o 0 (suits true) p v h
sole_is P c s a o m p v (Place.Own d n w) h sets = fault_is P c s a o 0 (suits true) p v h
sole_is P c s a o m p v (Place.Moving f w) h sets = fault_is P c s a o 0 (suits true) p v h

walk_is : (P : Kind → Type 0) (c : Program) (s : After) (a : ℕ) (o : Op) (k at q p v : ℕ) → FaultKinds P o k → ((m : ℕ) → P (Kind.Retry m)) → NextIs P (due_decide c s a o (Touch.Walk k at q) p v)
walk_is P c s a o k at q p v h retries = either (NextIs P) _ _ _ (does P _ (retries (op_mirror o))) (fault_is P c s a o k (suits_walk (mirror_dev s.plain (op_mirror o)) (op_writes o)) p v h)

alone_is : (P : Kind → Type 0) (c : Program) (s : After) (a : ℕ) (o : Op) (p v : ℕ) → FaultKinds P o 0 → P (fails o 0 Cause.Outside) → ((m : ℕ) (f : Option Frame) (w : TableRight) (at : ℕ) → P (Kind.Set m v f w at)) → NextIs P (due_decide c s a o Touch.Sole p v)
alone_is P c s a o p v h outside sets = either (NextIs P) _ _ _ (sole_is P c s a o _ p v _ h (sets _)) (does P _ outside)

-- the decision of a fault
abbrev Decides : Op → ℕ → Touch → (Kind → Seen) → Kind → Type 0
Decides o n touch see k = goes o n k (after_decide o touch k (see k)) ≡ true

fails_is : (P : Kind → Type 0) (o : Op) (k : ℕ) (why : Cause) → P (Kind.Refused why) → P (failed o k why) → P (fails o k why)
fails_is P o k why refused fail = either P _ _ _ refused fail

-- an entry that neither answers nor ends
unlock_goes : (o : Op) (n p : ℕ) (stack : List Phase) → is_snap o ≡ false → fits o n stack ≡ true → goes o n (Kind.Runlock p) stack ≡ true
unlock_goes o n p stack none fit = let P : Bool → Type 0 = λ b. elim b [ true ↦ is_over stack | false ↦ fits o n stack ] ≡ true in subst P (sym none) fit

noted_fits : (o : Op) (n : ℕ) (touch : Touch) (x : Place) → touch_fits o n touch ≡ true → fits o n (after_walk touch x ∷ []) ≡ true
noted_fits o n (Touch.Cpu k) x h = h
noted_fits o n (Touch.Walk k at q) x h = h
noted_fits o n Touch.Sole x h = touch_piece o n Touch.Sole h

taken_fits : (o : Op) (n : ℕ) (touch : Touch) (g : Frame) (x : Place) → touch_fits o n touch ≡ true → fits o n (with_frame_taken touch g x ∷ []) ≡ true
taken_fits o n touch g Place.Zero h = h
taken_fits o n touch g Place.Empty h = h
taken_fits o n touch g (Place.Sys m w) h = h
taken_fits o n touch g (Place.Own d m w) h = h
taken_fits o n touch g (Place.Moving f w) h = h
taken_fits o n touch g (Place.Exclusive m b) h = h

decides : (o : Op) (n k : ℕ) (touch : Touch) (see : Kind → Seen) → touch_fits o n touch ≡ true → FaultKinds (Decides o n touch see) o k
decides o n k touch see h =
    let P : Kind → Type 0 = Decides o n touch see in
    let piece = touch_piece o n touch h in
    let ends = piece_goes o n (piece_of touch) piece in
    record {
      unmapped = fails_is P o k Cause.Unmapped refl ends;
      forbidden = fails_is P o k Cause.Forbidden refl ends;
      no_frame = fails_is P o k Cause.NoFrame refl ends;
      unlocks = λ p. unlock_goes o n p (after_walk touch (see (Kind.Runlock p)).place ∷ []) (piece_no_snap o n (piece_of touch) piece) (noted_fits o n touch (see (Kind.Runlock p)).place h);
      places = λ p v x. h;
      takes = λ g. taken_fits o n touch g _ h;
      starts = λ p r q. h;
    }

answer_fits : (o : Op) (n : ℕ) → (is_alone_op o && (0 == n)) ≡ true → (has_answer o && (0 == n)) ≡ true
answer_fits (Op.Exclusive m v) n h = h
answer_fits (Op.Add m a k) n h = h
answer_fits o n h = absurd (false≢true h)

pub decide_goes : (c : Program) (s : After) (a : ℕ) (o : Op) (n : ℕ) (touch : Touch) (p v : ℕ) (see : Kind → Seen) → base_fits o n (Phase.Decide touch) ≡ true → NextIs (Decides o n touch see) (due_decide c s a o touch p v)
decide_goes c s a o n (Touch.Cpu k) p v see h = fault_is (Decides o n (Touch.Cpu k) see) c s a o k (suits (op_writes o)) p v (decides o n k (Touch.Cpu k) see h)
decide_goes c s a o n (Touch.Walk k at q) p v see h = walk_is (Decides o n (Touch.Walk k at q) see) c s a o k at q p v (decides o n k (Touch.Walk k at q) see h) (λ m. h)
decide_goes c s a o n Touch.Sole p v see h =
    let ends = piece_goes o n 0 (touch_piece o n Touch.Sole h) in
    alone_is (Decides o n Touch.Sole see) c s a o p v (decides o n 0 Touch.Sole see h) (fails_is (Decides o n Touch.Sole see) o 0 Cause.Outside refl ends) (λ m f w at. answer_fits o n h)

-- after the look-up, and with the frame taken
noted_is : (P : Kind → Type 0) (s : After) (o : Op) (k at q : ℕ) (x : Place) → ((m : ℕ) → P (Kind.Retry m)) → ((m v : ℕ) (f : Option Frame) (w : TableRight) (from : ℕ) → P (Kind.Set m v f w from)) → NextIs P (due_noted s o k at q x)
noted_is P s o k at q x retries sets = either (NextIs P) _ _ _ (does P _ (retries _)) (does P _ (sets _ _ _ _ _))

pub noted_goes : (s : After) (o : Op) (n k at q : ℕ) (x : Place) → base_fits o n (Phase.Noted k at q x) ≡ true → NextIs (λ y. goes o n y (Phase.Piece k ∷ []) ≡ true) (due_noted s o k at q x)
noted_goes s o n k at q x h = noted_is (λ y. goes o n y (Phase.Piece k ∷ []) ≡ true) s o k at q x (λ m. h) (λ m v f w from. h)

taken_is : (P : Kind → Type 0) (s : After) (g : Frame) (x : Place) (p v : ℕ) → ((f : Frame) → P (Kind.Drop f)) → ((y : Place) → P (Kind.Place p v y)) → ((f : Frame) (k : Option ℕ) → P (Kind.Copied f g k)) → NextIs P (due_taken s g x p v)
taken_is P s g x p v drops places copies = either (NextIs P) _ _ _ (perhaps (NextIs P) _ _ _ (does P _ (places _)) (λ f. does P _ (copies f _))) (does P _ (drops _))

pub taken_goes : (s : After) (o : Op) (n : ℕ) (touch : Touch) (g : Frame) (x : Place) (p v : ℕ) → base_fits o n (Phase.Taken touch g x) ≡ true → NextIs (λ y. goes o n y (after_taken touch g x y) ≡ true) (due_taken s g x p v)
taken_goes s o n touch g x p v h = taken_is (λ y. goes o n y (after_taken touch g x y) ≡ true) s g x p v (λ f. h) (λ y. h) (λ f k. h)

-- giving up
pub give_up_goes : (o : Op) (n : ℕ) (touch : Option Touch) → base_fits o n (Phase.GiveUp touch) ≡ true → goes o n (due_give_up o touch) (after_give_up o touch (due_give_up o touch)) ≡ true
give_up_goes o n None h = refl
give_up_goes o n (Some touch) h =
    fails_is (λ k. goes o n k (after_give_up o (Some touch) k) ≡ true) o (piece_of touch) Cause.NoFrame refl (piece_goes o n (piece_of touch) (touch_piece o n touch h))
