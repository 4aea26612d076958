-- What an event leaves as it is, of what is known: by the functions that have cases.
use Rattle.std.proofs.Common.{refl, ◌∙◌}
use Rattle.std.specs.Prelude.{◌≡◌, ℕ, Bool, true, false, ◌&&◌, if◌then◌else◌, Option, Some, None, List, ◌∷◌, ◌==◌, map, find, option_map}
use Rattle.hm_base.specs.Pages.{Pages}
use Rattle.hm_history.specs.Memory.Words.{with_at}
use Rattle.hm_history.specs.declared.TableRight.{TableRight}
use Rattle.hm_history.proofs.Updates.{other_at}
use Rattle.hm_protocol.specs.declared.events.TraceFrame.{TraceFrame}
use Rattle.hm_protocol.specs.declared.events.Event.{Event}
use Rattle.hm_protocol.specs.Words.{device_of, is_sole, drop_if}
use Rattle.hm_protocol.specs.Known.{Slot, Inside, Call, Move, Known, is_look_up, is_slot, is_current}
use Rattle.hm_protocol.specs.Noted.{noted, over, commit, moving, set_by, held_more, pass_over, after_set, began}

one_of : {X : Type 0} (F : Known → X) (b d : Bool) (x y z k : Known) → F x ≡ F k → F y ≡ F k → F z ≡ F k
    → F (if b then x else if d then y else z) ≡ F k
one_of F true d x y z k h g e = h
one_of F false true x y z k h g e = g
one_of F false false x y z k h g e = e

pub set_keeps : {X : Type 0} (F : Known → X) → ((k : Known) (t m : ℕ) → F (commit k t m) ≡ F k)
    → ((k : Known) (t : ℕ) (f : Move → Move) → F (moving k t f) ≡ F k)
    → (k : Known) (t m v : ℕ) (w : TableRight) → F (set_by k t m v w) ≡ F k
set_keeps F c g k t m v w = one_of F (is_look_up k t v w) (is_sole w) (commit k t m) k
    (moving k t (λ y. record y { set = v ∷ y.set })) k (c k t m) refl (g k t (λ y. record y { set = v ∷ y.set }))

pub over_keeps : {X : Type 0} (F : Known → X)
    → ((k : Known) (us : ℕ → List Inside) (xs : List Call) → F (record k { under = us; calls = xs }) ≡ F k)
    → (k : Known) (t : ℕ) (o : Option ℕ) → F (over k t o) ≡ F k
over_keeps F h k t None = refl
over_keeps F h k t (Some i) = h k _ _

either : {X : Type 0} (F : Known → X) (b : Bool) (x y k : Known) → F x ≡ F k → F y ≡ F k → F (if b then x else y) ≡ F k
either F true x y k h g = h
either F false x y k h g = g

pub held_keeps : {X : Type 0} (F : Known → X) → ((k : Known) (fs : List TraceFrame) → F (record k { held = fs }) ≡ F k)
    → (k : Known) (f : TraceFrame) (o : Option ℕ) → F (held_more k f o) ≡ F k
held_keeps F h k f None = refl
held_keeps F h k f (Some d) = either F (k.withdrawn d) k (record k { held = f ∷ k.held }) k refl (h k (f ∷ k.held))

pub pass_keeps : {X : Type 0} (F : Known → X) → ((k : Known) (g : ℕ → Bool) → F (record k { passed = g }) ≡ F k)
    → (k : Known) (o : Option ℕ) → F (pass_over k o) ≡ F k
pass_keeps F h k None = refl
pass_keeps F h k (Some d) = either F (k.withdrawn d) (record k { passed = with_at k.passed d true }) k k (h k _) refl

-- ---- the same for events, if F does not read what they change

pub at_set : {X : Type 0} (F : Known → X) → ((k : Known) (t m : ℕ) → F (commit k t m) ≡ F k)
    → ((k : Known) (t : ℕ) (f : Move → Move) → F (moving k t f) ≡ F k)
    → ((k : Known) (ss : List Slot) (xs : List Call) → F (record k { slots = ss; calls = xs }) ≡ F k)
    → (k : Known) (t m v : ℕ) (f : TraceFrame) (w : TableRight) → F (noted k t (Event.Set m v f w)) ≡ F k
at_set F c g h k t m v f w = let l : Known = record k {
  slots = record { mirror = m; page = v; right = w; at = k.at } ∷ drop_if (is_slot m v) k.slots;
  calls = map (after_set m v) k.calls;
} in set_keeps F c g l t m v w ∙ h k l.slots l.calls

pub at_end : {X : Type 0} (F : Known → X)
    → ((k : Known) (us : ℕ → List Inside) (xs : List Call) → F (record k { under = us; calls = xs }) ≡ F k)
    → (k : Known) (t p : ℕ) (r : Pages) → F (noted k t (Event.End p r)) ≡ F k
at_end F h k t p r = over_keeps F h k t (option_map (λ (y : Inside). y.at)
    (find (λ (y : Inside). (y.proc == p) && ((y.span.first == r.first) && (y.span.count == r.count))) (k.under t)))

pub at_refused : {X : Type 0} (F : Known → X)
    → ((k : Known) (us : ℕ → List Inside) (xs : List Call) → F (record k { under = us; calls = xs }) ≡ F k)
    → (k : Known) (t m q : ℕ) → F (noted k t (Event.Told m q false)) ≡ F k
at_refused F h k t m q = let l : Known = record k { calls = drop_if (is_current t m) k.calls } in
    over_keeps F h l t (began (find (is_current t m) k.calls)) ∙ h k k.under l.calls

-- an event of another thread leaves a thread's migrations
pub moves_else : (k : Known) (b : ℕ) (x : Event) (a : ℕ) → (a ≡ b → ⊥) → (noted k b x).moves a ≡ k.moves a
moves_else k b (Event.Setup p r to_device d) a ne = other_at k.moves b a _ ne
moves_else k b (Event.Finalize p) a ne = other_at k.moves b a _ ne
moves_else k b (Event.From v f w) a ne = other_at k.moves b a _ ne
moves_else k b (Event.Moved v f) a ne = other_at k.moves b a _ ne
moves_else k b (Event.Stayed v f) a ne = other_at k.moves b a _ ne
moves_else k b (Event.Paged p) a ne = other_at k.moves b a _ ne
moves_else k b (Event.Free f) a ne = other_at k.moves b a _ ne
moves_else k b (Event.Set m v f w) a ne = pick (is_look_up k b v w) (is_sole w)
  where
    l : Known
    l = record k {
      slots = record { mirror = m; page = v; right = w; at = k.at } ∷ drop_if (is_slot m v) k.slots;
      calls = map (after_set m v) k.calls;
    }

    pick : (x y : Bool)
        → (if x then commit l b m else if y then l else moving l b (λ y. record y { set = v ∷ y.set })).moves a
        ≡ k.moves a
    pick true y = refl
    pick false true = refl
    pick false false = other_at k.moves b a _ ne
moves_else k b (Event.End p r) a ne = at_end (λ k. k.moves a) (λ k us xs. refl) k b p r
moves_else k b (Event.Told m q true) a ne = refl
moves_else k b (Event.Told m q false) a ne = at_refused (λ k. k.moves a) (λ k us xs. refl) k b m q
moves_else k b (Event.Take f) a ne = held_keeps (λ k. k.moves a) (λ k fs. refl) k f (device_of f)
moves_else k b (Event.Pass f) a ne = pass_keeps (λ k. k.moves a) (λ k p. refl) k (device_of f)
moves_else k b x a ne = refl
