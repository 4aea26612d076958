-- In a migration that meets nobody fresh pages stay untouched, and nothing is kept for another's sake.
use Rattle.std.proofs.Common.{◌≡◌, ℕ, ◌+◌, ◌⊎◌, inl, inr, Bool, true, false, ◌==◌, nat_lt, if◌then◌else◌, Option, Some, None, List, [], ◌∷◌, ◌++◌, refl, sym, ap, ◌∙◌, arith}
use Rattle.std.proofs.lemmas.Bool.Decides.{nat_tests}
use Rattle.std.specs.Prelude.{⊤}
use Rattle.hm_base.specs.Pages.{Pages}
use Rattle.hm_base.specs.Program.{Program}
use Rattle.hm_base.specs.declared.Frame.{Frame}
use Rattle.hm_base.specs.declared.Place.{Place}
use Rattle.hm_base.specs.declared.ops.Op.{Op}
use Rattle.hm_history.specs.declared.phases.MoveStep.{MoveStep}
use Rattle.hm_history.specs.declared.phases.MoveStep.TheVariants.{Commit}
use Rattle.hm_history.specs.Memory.Words.{names_directly, is_frame, writable, place_in, sys_frame, dev_frame}
use Rattle.hm_history.specs.Memory.Plain.{mirror_proc, rights_of, is_read_write, mirror_dev}
use Rattle.hm_history.specs.Memory.After.{After}
use Rattle.hm_history.specs.Kernel.Operation.{op_mirror, is_to_device}
use Rattle.hm_history.specs.Kernel.Due.{has_no_frame, to_tell, if_so, select_page, select_to_device, select_to_system, kept_or_frozen, body_or_end, due_guard}
use Rattle.hm_history.specs.declared.Kind.{Kind}
use Rattle.hm_history.specs.declared.phases.Migrating.{Migrating}
use Rattle.hm_history.specs.declared.phases.Body.{Body}
use Rattle.hm_history.specs.declared.phases.Phase.{Phase}
use Rattle.hm_history.specs.Memory.Places.{with_place}
use Rattle.hm_history.specs.Memory.Locks.{orphan, other_locker}
use Rattle.hm_history.specs.Kernel.Stacks.{dropping, stack_after}
use Rattle.hm_history.specs.Kernel.Going.{coming, with_record, seen_at, recorded}
use Rattle.hm_history.specs.declared.KeptAt.{KeptAt}
use Rattle.hm_history.specs.declared.KeptWhy.{KeptWhy}
use Rattle.hm_history.specs.declared.phases.Next.{Next}
use Rattle.hm_history.specs.declared.phases.Next.TheVariants.{Do, Wait}
use Rattle.hm_history.proofs.Tests.{true_false}
use Rattle.hm_laws.specs.Past.{Past, past_next}
use Rattle.hm_laws.specs.Allowed.{next}
use Rattle.hm_laws.specs.Records.{is_past, Among, pages_below}
use Rattle.hm_laws.specs.Facts.{HoldsAll, facts}
use Rattle.hm_laws.proofs.Due.Good.{either, either_option, Good}
use Rattle.hm_laws.proofs.Migration.Records.{below_page, with_among, among_on}
use Rattle.hm_quiet_laws.specs.Keeping.{keeps_well}
use Rattle.hm_quiet_laws.proofs.keeping.FreshPages.{FreshAt, StaysFresh}
use Rattle.hm_quiet_laws.proofs.alone.NeverWaits.{Alone}
use Rattle.hm_quiet_laws.proofs.migrations.RecordsLeft.{on_page, on_step, found_above, come_by}
use Rattle.hm_quiet_laws.proofs.counts.UsesOfAFrame.{other_page}

abbrev pub Keeps : Program → After → ℕ → Op → List Migrating → Phase → List Phase → Next → Type 0
Keeps c s a o xs top below (Do k) = StaysFresh (next s a k) o (recorded top (seen_at s o xs top k).page xs k) (stack_after o (top ∷ below) k (seen_at s o xs top k)) × (keeps_well k ≡ true)
Keeps c s a o xs top below (Wait y) = ⊤

-- another actor has no frame locked
nobody : (s : After) (a b : ℕ) (f : Frame) → Alone s a → other_locker s.locks f a ≡ Some b → ⊥
nobody s a b f al e = by (s.locks.frame f) refl e
  where
    by : (x : Option ℕ) → s.locks.frame f ≡ x → (elim x as (λ y. Option ℕ) [ None ↦ None | Some d ↦ if a == d then None else Some d ]) ≡ Some b → ⊥
    by None i e = cc
    by (Some d) i e = at (a == d) refl e
      where
        at : (z : Bool) → (a == d) ≡ z → (if z then None else Some d) ≡ Some b → ⊥
        at true j e = cc
        at false j e = al.busy d (apart j) (inr (f, i))
          where
            apart : (a == d) ≡ false → d ≡ a → ⊥
            apart j k = grind (arith, nat_tests)

placed_fresh : (s : After) (a : ℕ) (o : Op) (xs : List Migrating) (step : MoveStep) (v p u : ℕ) (x : Place) → ((w : Migrating) → Among xs w → w.source ≡ None → is_past step v Commit w.page ≡ false → w.page ≡ u → ⊥) → FreshAt s o xs step v → FreshAt (next s a (Kind.Place p u x)) o xs step v
placed_fresh s a o xs step v p u x apart h w i e n = ap has_no_frame (other_page s.places.place p u x (mirror_proc s.plain (op_mirror o)) w.page (apart w i e n)) ∙ h w i e n

-- the first guard
pub select_keeps : (c : Program) (s : After) (t : Past) (a : ℕ) (o : Op) (xs : List Migrating) (r : Pages) (met : Bool) (told : Option ℕ) (n : ℕ) (step : MoveStep) (v : ℕ) → Alone s a → pages_below n xs ≡ true → FreshAt s o xs step v →
    Good c s t a o xs (Phase.Guard (mirror_proc s.plain (op_mirror o)) r met told (Body.Select n)) (Phase.Moves step v ∷ []) (Do (due_guard s a o (mirror_proc s.plain (op_mirror o)) r met told (Body.Select n))) → Keeps c s a o xs (Phase.Guard (mirror_proc s.plain (op_mirror o)) r met told (Body.Select n)) (Phase.Moves step v ∷ []) (Do (due_guard s a o (mirror_proc s.plain (op_mirror o)) r met told (Body.Select n)))
select_keeps c s t a o xs r met told n step v al pb fr = whole
  where
    p : ℕ
    p = mirror_proc s.plain (op_mirror o)

    P : Kind → Type 0
    P k = Good c s t a o xs (Phase.Guard p r met told (Body.Select n)) (Phase.Moves step v ∷ []) (Do k) → Keeps c s a o xs (Phase.Guard p r met told (Body.Select n)) (Phase.Moves step v ∷ []) (Do k)

    below_n : (w : Migrating) → Among xs w → w.page ≡ n → ⊥
    below_n w i e = omega (arith, below_page n xs w pb i, e)

    fresh : has_no_frame (s.places.place p n) ≡ true → P (Kind.Fresh p n)
    fresh u gd = (λ w i e m. by w (among_on xs (record { page = n; source = None; dest = None; moved = false }) w i) e m, refl)
      where
        by : (w : Migrating) → Among xs w ⊎ (w ≡ record { page = n; source = None; dest = None; moved = false }) → w.source ≡ None → is_past step v Commit w.page ≡ false → has_no_frame (s.places.place p w.page) ≡ true
        by w (inl j) e m = fr w j e m
        by w (inr j) e m = ap (λ (q : Migrating). has_no_frame (s.places.place p q.page)) j ∙ u

    frozen : (f : Frame) (w : Bool) → P (Kind.Place p n (Place.Moving f w))
    frozen f w gd = at (orphan s.locks s.places (Kind.Place p n (Place.Moving f w))) gd.2
      where
        new : Migrating
        new = record { page = n; source = Some f; dest = None; moved = false }

        keeps : FreshAt (next s a (Kind.Place p n (Place.Moving f w))) o (xs ++ new ∷ []) step v
        keeps z i e m = by (among_on xs new z i)
          where
            by : Among xs z ⊎ (z ≡ new) → has_no_frame (with_place s.places.place p n (Place.Moving f w) p z.page) ≡ true
            by (inl j) = placed_fresh s a o xs step v p n (Place.Moving f w) (λ y k q l. below_n y k) fr z j e m
            by (inr j) = absurd (some_source (ap (λ (q : Migrating). q.source) (sym j) ∙ e))
              where
                some_source : Some f ≡ None → ⊥
                some_source e = cc

        at : (z : Option Frame) → HoldsAll (next s a (Kind.Place p n (Place.Moving f w))) (past_next t s.length a (Kind.Place p n (Place.Moving f w))) a (facts o (xs ++ new ∷ []) (dropping z (Phase.Guard p r met told (Body.Select (n + 1)) ∷ Phase.Moves step v ∷ []))) → StaysFresh (next s a (Kind.Place p n (Place.Moving f w))) o (xs ++ new ∷ []) (dropping z (Phase.Guard p r met told (Body.Select (n + 1)) ∷ Phase.Moves step v ∷ [])) × (true ≡ true)
        at None h = (keeps, refl)
        at (Some i) h = absurd h.0

    chosen : (f : Frame) (w : Bool) → P (kept_or_frozen s a p n f w)
    chosen f w = either_option P (other_locker s.locks f a) _ _ (λ i. frozen f w) (λ b i. absurd (nobody s a b f al i))

    passed : P (Kind.Kept (KeptAt.Page n) KeptWhy.NotHere)
    passed gd = (fr, refl)

    to_device : (x : Place) → s.places.place p n ≡ x → P (select_to_device s a p n x)
    to_device Place.Empty e = fresh (ap has_no_frame e)
    to_device Place.Zero e = fresh (ap has_no_frame e)
    to_device (Place.Sys m w) e = chosen (sys_frame m) w
    to_device (Place.Own d m w) e = passed
    to_device (Place.Moving f w) e = passed
    to_device (Place.Exclusive m b) e = passed

    to_system : (d : ℕ) (x : Place) → P (select_to_system s a d p n x)
    to_system d (Place.Own i m w) = either P (d == i) _ _ (λ j. chosen (dev_frame i m) w) (λ j. passed)
    to_system d Place.Empty = passed
    to_system d Place.Zero = passed
    to_system d (Place.Sys m w) = passed
    to_system d (Place.Moving f w) = passed
    to_system d (Place.Exclusive m b) = passed

    selects : P (select_page s a o p n)
    selects = either P (is_to_device o) _ _ (λ e. either_option P (rights_of s.plain p n) _ _ (λ i. passed) (λ w i. to_device (s.places.place p n) refl)) (λ e. to_system (mirror_dev s.plain (op_mirror o)) (s.places.place p n))

    whole : P (due_guard s a o p r met told (Body.Select n))
    whole = either_option P (to_tell s p r met told) _ _ (λ e. either (λ z. P (body_or_end s p r z)) (nat_lt n (r.first + r.count)) (Some (select_page s a o p n)) None (λ l. selects) (λ l gd. (fr, refl))) (λ m e gd. (fr, refl))

-- another mapping frozen: on a page that has a frame
pub freeze_keeps : (c : Program) (s : After) (t : Past) (a : ℕ) (o : Op) (xs : List Migrating) (p : ℕ) (r : Pages) (met : Bool) (told : Option ℕ) (f : Frame) (step : MoveStep) (v : ℕ) → ((w : Migrating) → Among xs w → w.source ≡ None → is_frame (names_directly (s.places.place p r.first)) f ≡ true → w.page ≡ r.first → ⊥) → FreshAt s o xs step v →
    Good c s t a o xs (Phase.Guard p r met told (Body.Freeze f)) (Phase.Moves step v ∷ []) (Do (due_guard s a o p r met told (Body.Freeze f))) → Keeps c s a o xs (Phase.Guard p r met told (Body.Freeze f)) (Phase.Moves step v ∷ []) (Do (due_guard s a o p r met told (Body.Freeze f)))
freeze_keeps c s t a o xs p r met told f step v apart fr = whole
  where
    P : Kind → Type 0
    P k = Good c s t a o xs (Phase.Guard p r met told (Body.Freeze f)) (Phase.Moves step v ∷ []) (Do k) → Keeps c s a o xs (Phase.Guard p r met told (Body.Freeze f)) (Phase.Moves step v ∷ []) (Do k)

    x : Place
    x = Place.Moving f (writable (s.places.place p r.first))

    placed : is_frame (names_directly (s.places.place p r.first)) f ≡ true → P (Kind.Place p r.first x)
    placed d gd = at (orphan s.locks s.places (Kind.Place p r.first x)) gd.2
      where
        at : (z : Option Frame) → HoldsAll (next s a (Kind.Place p r.first x)) (past_next t s.length a (Kind.Place p r.first x)) a (facts o xs (dropping z (Phase.Guard p r met told Body.Nothing ∷ Phase.Moves step v ∷ []))) → StaysFresh (next s a (Kind.Place p r.first x)) o xs (dropping z (Phase.Guard p r met told Body.Nothing ∷ Phase.Moves step v ∷ [])) × (true ≡ true)
        at None h = (placed_fresh s a o xs step v p r.first x (λ w i e m k. apart w i e d k) fr, refl)
        at (Some i) h = absurd h.0

    whole : P (due_guard s a o p r met told (Body.Freeze f))
    whole = either_option P (to_tell s p r met told) _ _ (λ e. by (is_frame (names_directly (s.places.place p r.first)) f) refl) (λ m e gd. (fr, refl))
      where
        by : (b : Bool) → is_frame (names_directly (s.places.place p r.first)) f ≡ b → P (body_or_end s p r (if_so b (Kind.Place p r.first x)))
        by true e = placed e
        by false e = λ gd. (fr, refl)

-- the taken frame under its fresh page
pub fresh_keeps : (c : Program) (s : After) (t : Past) (a : ℕ) (o : Op) (xs : List Migrating) (p : ℕ) (r : Pages) (met : Bool) (told : Option ℕ) (g : Frame) (step : MoveStep) (v : ℕ) → is_past step v Commit r.first ≡ true → has_no_frame (s.places.place p r.first) ≡ true → FreshAt s o xs step v →
    Good c s t a o xs (Phase.Guard p r met told (Body.Fresh g)) (Phase.Moves step v ∷ []) (Do (due_guard s a o p r met told (Body.Fresh g))) → Keeps c s a o xs (Phase.Guard p r met told (Body.Fresh g)) (Phase.Moves step v ∷ []) (Do (due_guard s a o p r met told (Body.Fresh g)))
fresh_keeps c s t a o xs p r met told g step v past un fr = whole
  where
    P : Kind → Type 0
    P k = Good c s t a o xs (Phase.Guard p r met told (Body.Fresh g)) (Phase.Moves step v ∷ []) (Do k) → Keeps c s a o xs (Phase.Guard p r met told (Body.Fresh g)) (Phase.Moves step v ∷ []) (Do k)

    x : Place
    x = place_in g (is_read_write (rights_of s.plain p r.first))

    new : Migrating
    new = record { page = r.first; source = None; dest = Some g; moved = true }

    keeps : FreshAt (next s a (Kind.Place p r.first x)) o (with_record new xs) step v
    keeps z i e m = by (with_among new xs z i)
      where
        by : ((z ≡ new) × ((y : Migrating) × Among xs y × (y.page ≡ r.first))) ⊎ (Among xs z × (z.page ≡ r.first → ⊥)) → has_no_frame (with_place s.places.place p r.first x (mirror_proc s.plain (op_mirror o)) z.page) ≡ true
        by (inl j) = absurd (true_false (is_past step v Commit z.page) (ap (λ (q : Migrating). is_past step v Commit q.page) j.0 ∙ past) m)
        by (inr j) = ap has_no_frame (other_page s.places.place p r.first x (mirror_proc s.plain (op_mirror o)) z.page j.1) ∙ fr z j.0 e m

    placed : P (Kind.Place p r.first x)
    placed gd = at (orphan s.locks s.places (Kind.Place p r.first x)) gd.2
      where
        at : (z : Option Frame) → HoldsAll (next s a (Kind.Place p r.first x)) (past_next t s.length a (Kind.Place p r.first x)) a (facts o (with_record new xs) (dropping z (Phase.Guard p r met told Body.Nothing ∷ Phase.Moves step v ∷ []))) → StaysFresh (next s a (Kind.Place p r.first x)) o (with_record new xs) (dropping z (Phase.Guard p r met told Body.Nothing ∷ Phase.Moves step v ∷ [])) × (true ≡ true)
        at None h = (keeps, refl)
        at (Some i) h = absurd h.0

    whole : P (due_guard s a o p r met told (Body.Fresh g))
    whole = either_option P (to_tell s p r met told) _ _ (λ e. by (has_no_frame (s.places.place p r.first)) refl) (λ m e gd. ((fr, un), refl))
      where
        by : (b : Bool) → has_no_frame (s.places.place p r.first) ≡ b → P (body_or_end s p r (if_so b (Kind.Place p r.first x)))
        by true e = placed
        by false e = absurd (true_false (has_no_frame (s.places.place p r.first)) un e)

-- the steps: a later one leaves fewer fresh pages to place
pub later_fresh : (s : After) (o : Op) (xs : List Migrating) (m : MoveStep) (n : ℕ) (j : MoveStep) (k : ℕ) → ((u : ℕ) → is_past m n Commit u ≡ true → is_past j k Commit u ≡ true) → FreshAt s o xs m n → FreshAt s o xs j k
later_fresh s o xs m n j k h fr w i e p = fr w i e (by (is_past m n Commit w.page) refl)
  where
    by : (b : Bool) → is_past m n Commit w.page ≡ b → b ≡ false
    by false q = refl
    by true q = absurd (true_false (is_past j k Commit w.page) (h w.page q) p)

pub record_fresh : (s : After) (o : Op) (xs : List Migrating) (x z : Migrating) (m : MoveStep) (n : ℕ) → x.source ≡ z.source → x.page ≡ z.page → Among xs z → FreshAt s o xs m n → FreshAt s o (with_record x xs) m n
record_fresh s o xs x z m n sr pg j fr w i e p = by (with_among x xs w i)
  where
    by : ((w ≡ x) × ((y : Migrating) × Among xs y × (y.page ≡ x.page))) ⊎ (Among xs w × (w.page ≡ x.page → ⊥)) → has_no_frame (s.places.place (mirror_proc s.plain (op_mirror o)) w.page) ≡ true
    by (inl k) = let q : w.page ≡ z.page = ap (λ (y : Migrating). y.page) k.0 ∙ pg in
        ap (λ u. has_no_frame (s.places.place (mirror_proc s.plain (op_mirror o)) u)) q ∙ fr z j (sym sr ∙ (ap (λ (y : Migrating). y.source) (sym k.0) ∙ e)) (ap (is_past m n Commit) (sym q) ∙ p)
    by (inr k) = fr w k.0 e p

-- the record to which it comes
abbrev pub FreshCome : After → Op → List Migrating → Option (MoveStep × Migrating) → Type 0
FreshCome s o xs None = Unit {0}
FreshCome s o xs (Some at) = FreshAt s o xs at.0 at.1.page

pub come_fresh : (s : After) (o : Op) (xs : List Migrating) (step : MoveStep) (from : ℕ) → FreshAt s o xs step from → FreshCome s o xs (coming s o xs (Phase.Moves step from))
come_fresh s o xs step from fr = come_by s o xs (FreshAt s o xs) (FreshCome s o xs) step from (record {
  here = λ st n x h e. later_fresh s o xs st n st x.page (λ u i. on_page st n x.page Commit u (found_above s o xs st n x e) i) h;
  over = λ st after n nx h e. later_fresh s o xs st n after 0 (λ u i. on_step st after n Commit u nx i) h;
  ended = λ n h e. tt;
}) fr
