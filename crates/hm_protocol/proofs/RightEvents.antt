-- What events make of the rights with which pages were collected, and which events may set a page with another one.
use Rattle.std.proofs.Common.{refl, ap, sym, subst, ◌∙◌, inl, inr}
use Rattle.std.proofs.lemmas.Bool.{true≢false, false≢true, eqb-true}
use Rattle.std.specs.Prelude.{◌≡◌, ℕ, Bool, true, false, not, ◌&&◌, ◌||◌, ◌==◌, Option, Some, None}
use Rattle.std.specs.Prelude.{List, [], ◌∷◌, ◌++◌, map, find}
use Rattle.std.proofs.Common.{cond}
use Rattle.hm_base.specs.declared.Frame.{Frame}
use Rattle.hm_base.specs.declared.ops.Op.{Op}
use Rattle.hm_history.specs.Memory.Words.{writable}
use Rattle.hm_history.specs.Memory.Plain.{rights_of, is_read_write, mirror_proc}
use Rattle.hm_history.specs.Memory.After.{After}
use Rattle.hm_history.specs.Kernel.Operation.{op_mirror, is_migration}
use Rattle.hm_history.specs.Kernel.Going.{coming}
use Rattle.hm_history.specs.declared.TableRight.{TableRight}
use Rattle.hm_history.specs.declared.Kind.{Kind}
use Rattle.hm_history.specs.declared.phases.Migrating.{Migrating}
use Rattle.hm_history.specs.declared.phases.MoveStep.{MoveStep}
use Rattle.hm_history.specs.declared.phases.Phase.{Phase}
use Rattle.hm_laws.specs.Records.{Among, WellListed}
use Rattle.hm_laws.proofs.Migration.Records.{one_of_page}
use Rattle.hm_protocol.specs.declared.events.Event.{Event}
use Rattle.hm_protocol.specs.Words.{is_sole, is_write}
use Rattle.hm_protocol.specs.Known.{Move, is_noted}
use Rattle.hm_protocol.specs.Tests.{set_right, is_migrated_set}
use Rattle.hm_protocol.specs.Projection as project
use Rattle.hm_protocol.specs.Projection.{events_by, comes_to, is_home, collected}
use Rattle.hm_protocol.proofs.DueKinds.{is_set, is_answer}
use Rattle.hm_protocol.proofs.Entries.{events_at}
use Rattle.hm_protocol.proofs.MigrationViews.{View, view, view_next, views_after, CalmAt, Seen_wrong}
use Rattle.hm_protocol.proofs.StillEvents.{AllBe, both_be, be_if}
use Rattle.hm_protocol.proofs.EntryEvents.{is_usual, be_when, by_be, home_none}
use Rattle.hm_protocol.proofs.Sitting.{AllOf}
use Rattle.hm_protocol.proofs.Rights.{Low, Right}

-- ---- what was collected stays noted

-- what the inner migration has collected
abbrev pub top_source : List View → List (ℕ × Bool)
top_source [] = []
top_source (y ∷ ys) = y.source

-- neither the set-up nor the end of a migration
abbrev pub keeps_source : Event → Bool
keeps_source (Event.Setup p r to_device d) = false
keeps_source (Event.From v f w) = false
keeps_source (Event.Finalize p) = false
keeps_source x = true

source_next : (vs : List View) (x : Event) → keeps_source x ≡ true → top_source (view_next vs x) ≡ top_source vs
source_next vs (Event.Setup p r to_device d) h = absurd (false≢true h)
source_next vs (Event.From v f w) h = absurd (false≢true h)
source_next vs (Event.Finalize p) h = absurd (false≢true h)
source_next [] (Event.Stayed v f) h = refl
source_next (y ∷ ys) (Event.Stayed v f) h = refl
source_next [] (Event.Free f) h = refl
source_next (y ∷ ys) (Event.Free f) h = refl
source_next vs x h = refl

pub source_kept : (vs : List View) (xs : List Event) → AllBe keeps_source xs
    → top_source (views_after vs xs) ≡ top_source vs
source_kept vs [] h = refl
source_kept vs (x ∷ xs) h = source_kept (view_next vs x) xs h.1 ∙ source_next vs x h.0

pub views_append : (vs : List View) (xs ys : List Event) → views_after vs (xs ++ ys) ≡ views_after (views_after vs xs)
    ys
views_append vs [] ys = refl
views_append vs (x ∷ xs) ys = views_append (view_next vs x) xs ys

-- it begins the steps of a migration
abbrev pub is_first : Phase → Bool
is_first (Phase.Moves MoveStep.FreezeOthers v) = true
is_first top = false

pub comes_be : (test : Event → Bool) → ((p : ℕ) → test (Event.Paged p) ≡ true)
    → (s : After) (o : Op) (xs : List Migrating) (top : Phase)
    (k : Kind) → (is_first top ≡ true → AllBe test (project.set_up s o xs top k)) → AllBe test (comes_to s o xs top k)
comes_be test h s o xs top k g = be_if test (is_migration o) (project.set_up s o xs top k ++ project.paged s o xs top)
    []
    (both_be test (project.set_up s o xs top k) (project.paged s o xs top) (at_first top g)
    (be_when test (project.is_up_to_commits top && project.is_past_commits (coming s o xs top))
    (Event.Paged (mirror_proc s.plain (op_mirror o)) ∷ []) (λ e. (h (mirror_proc s.plain (op_mirror o)), tt)))) tt
  where
    at_first : (top : Phase) → (is_first top ≡ true → AllBe test (project.set_up s o xs top k))
        → AllBe test (project.set_up s o xs top k)
    at_first (Phase.Moves MoveStep.FreezeOthers v) g = g refl
    at_first (Phase.Moves step v) g = tt
    at_first top g = tt

source_usual : (x : Event) → is_usual x ≡ true → keeps_source x ≡ true
source_usual (Event.Setup p r to_device d) h = h
source_usual (Event.From v f w) h = h
source_usual (Event.Finalize p) h = h
source_usual (Event.Set m v f w) h = refl
source_usual x h = refl

-- an entry of a migration under way keeps what was collected, until it ends
pub by_source : (s u : After) (a : ℕ) (o : Op) (xs : List Migrating) (stack : List Phase) (after : Phase) (k : Kind)
    → is_home o ≡ false → is_answer k ≡ false → AllBe keeps_source (events_by s u a o xs stack after k)
by_source s u a o xs stack after k h m = by_be keeps_source s u a o xs stack after k (record {
  usual = source_usual;
  home = λ e f j. home_none keeps_source s o stack f j h;
  over = λ e p. absurd (true≢false (sym e ∙ h));
  ends = λ n p e. absurd (false≢true (sym m ∙ ap is_answer e));
  sets = λ i v f w from g e. refl;
})

pub at_source : (s u : After) (a : ℕ) (o : Op) (xs : List Migrating) (top : Phase) (below : List Phase) (after : Phase)
    (k : Kind)
    → is_home o ≡ false → is_answer k ≡ false → is_first top ≡ false → AllBe keeps_source
    (events_at s u a o xs (top ∷ below) after k)
at_source s u a o xs top below after k h m n = both_be keeps_source (comes_to s o xs top k) _
    (comes_be keeps_source (λ p. refl) s o xs top k (λ e. absurd (false≢true (sym n ∙ e))))
    (by_source s u a o xs (top ∷ below) after k h m)

-- ---- a page that is set for writes

-- the page was collected for reads
abbrev pub noted_low : List View → ℕ → Bool
noted_low [] v = false
noted_low (y ∷ ys) v = is_noted v false y.source

abbrev pub right_wrong : List View → Event → Bool
right_wrong vs (Event.Set m v f w) = is_write w && noted_low vs v
right_wrong vs x = false

none_low : (ys : List Move) (v : ℕ) (w : TableRight) → (is_write w && noted_low (map view ys) v) ≡ false
    → (is_write w && is_migrated_set ys (λ y. is_noted v false y.source) v w) ≡ false
none_low [] v w h = h
none_low (y ∷ ys) v w h = by_bool (is_write w) (not (is_sole w)) _ (is_noted v false y.source) h
  where
    by_bool : (b d e n : Bool) → (b && n) ≡ false → (b && (d && (e && n))) ≡ false
    by_bool false d e n h = refl
    by_bool true false e n h = refl
    by_bool true true false n h = refl
    by_bool true true true n h = h

pub rights_so : Seen_wrong set_right right_wrong
rights_so k a (Event.Set m v f w) h = none_low (k.moves a) v w h
rights_so k a x h = refl

-- any event but that
abbrev pub not_set : Event → Bool
not_set (Event.Set m v f w) = false
not_set x = true

pub calm_all : (vs : List View) (xs : List Event) → AllBe not_set xs → CalmAt right_wrong vs xs
calm_all vs [] h = tt
calm_all vs (x ∷ xs) h = (one vs x h.0, calm_all (view_next vs x) xs h.1)
  where
    one : (vs : List View) (x : Event) → not_set x ≡ true → right_wrong vs x ≡ false
    one vs (Event.Set m v f w) h = absurd (false≢true h)
    one vs x h = refl

pub calm_and : (wrong : List View → Event → Bool) (vs : List View) (xs ys : List Event) → CalmAt wrong vs xs
    → CalmAt wrong (views_after vs xs) ys → CalmAt wrong vs (xs ++ ys)
calm_and wrong vs [] ys h g = g
calm_and wrong vs (x ∷ xs) ys h g = (h.0, calm_and wrong (view_next vs x) xs ys h.1 g)

collected_not : (s : After) (p : ℕ) (xs : List Migrating) → AllBe not_set (map (collected s p) xs)
collected_not s p [] = tt
collected_not s p (x ∷ xs) = (refl, collected_not s p xs)

pub comes_not : (s : After) (o : Op) (xs : List Migrating) (top : Phase) (k : Kind)
    → AllBe not_set (comes_to s o xs top k)
comes_not s o xs top k = comes_be not_set (λ p. refl) s o xs top k (at_first top)
  where
    at_first : (top : Phase) → is_first top ≡ true → AllBe not_set (project.set_up s o xs top k)
    at_first (Phase.Moves MoveStep.FreezeOthers v) e = be_if not_set (project.is_start k) [] _ tt (
      refl,
      both_be not_set (map (collected s (mirror_proc s.plain (op_mirror o))) xs)
          (Event.Ready (mirror_proc s.plain (op_mirror o)) ∷ [])
          (collected_not s (mirror_proc s.plain (op_mirror o)) xs) (refl, tt),
    )
    at_first top e = absurd (false≢true e)

home_not : (s : After) (o : Op) (stack : List Phase) (f : Frame) (k : Kind)
    → AllBe not_set (project.home_set_up s o stack f k)
home_not s o stack f k = be_if not_set (project.is_start k || not (is_home o)) [] _ tt (refl, (refl, (refl, tt)))

not_usual : (x : Event) → is_usual x ≡ true → not_set x ≡ true
not_usual (Event.Set m v f w) h = h
not_usual x h = refl

-- an entry that sets nothing
pub calm_unless : (s u : After) (a : ℕ) (o : Op) (xs : List Migrating) (top : Phase) (below : List Phase)
    (after : Phase) (k : Kind)
    (vs : List View) → is_set k ≡ false → CalmAt right_wrong vs (events_at s u a o xs (top ∷ below) after k)
calm_unless s u a o xs top below after k vs n = calm_all vs _ (both_be not_set (comes_to s o xs top k) _
    (comes_not s o xs top k)
    (by_be not_set s u a o xs (top ∷ below) after k (record {
      usual = not_usual;
      home = λ e f j. home_not s o (top ∷ below) f j;
      over = λ e p. refl;
      ends = λ i p e. refl;
      sets = λ m v f w from g e. absurd (false≢true (sym n ∙ ap is_set e));
    })))

-- ---- what is noted at the set-up

abbrev pub collected_right : After → ℕ → Migrating → Bool
collected_right s p x = elim x.source [
  | None ↦ is_read_write (rights_of s.plain p x.page)
  | Some f ↦ writable (s.places.place p x.page)
]

-- a page is noted with the right that it has
right_now : (s : After) (p : ℕ) (xs : List Migrating) → WellListed xs → s.plain.there p ≡ true → (x : Migrating)
    → Among xs x
    → Right s p xs (x.page, collected_right s p x)
right_now s p xs w t x i = record {
  there = t;
  low = λ e z j d. subst (λ y. Low s p y.source x.page) (sym (one_of_page xs z x w j i d))
      (by_source_of x.source x.page e);
}
  where
    by_source_of : (source : Option Frame) (v : ℕ) → (elim source as (λ y. Bool) [
      | None ↦ is_read_write (rights_of s.plain p v)
      | Some f ↦ writable (s.places.place p v)
    ]) ≡ false → Low s p source v
    by_source_of None v e = e
    by_source_of (Some f) v e = e

pub collected_on : (s : After) (p : ℕ) (xs : List Migrating) → WellListed xs → s.plain.there p ≡ true
    → (ys : List Migrating)
    → ((x : Migrating) → Among ys x → Among xs x) → (y : View) → AllOf (Right s p xs) y.source
    → AllOf (Right s p xs) (top_source (views_after (y ∷ []) (map (collected s p) ys)))
collected_on s p xs w t [] f y h = h
collected_on s p xs w t (x ∷ ys) f y h = collected_on s p xs w t ys (λ z i. f z (inr i))
    (record y { source = (x.page, collected_right s p x) ∷ y.source }) (right_now s p xs w t x (f x (inl refl)), h)

-- what was noted low is low
pub noted_is_low : (s : After) (p : ℕ) (xs : List Migrating) (x : Migrating) → Among xs x → (us : List (ℕ × Bool))
    → AllOf (Right s p xs) us → is_noted x.page false us ≡ true → Low s p x.source x.page
noted_is_low s p xs x i [] h e = absurd (false≢true e)
noted_is_low s p xs x i (u ∷ us) h e = by_page (u.0 == x.page) refl e (noted_is_low s p xs x i us h.1)
  where
    off : (b : Bool) → not b ≡ true → b ≡ false
    off true e = absurd (false≢true e)
    off false e = refl

    by_page : (b : Bool) → (u.0 == x.page) ≡ b
        → elim (cond b (Some u) (find (λ y. y.0 == x.page) us)) as (λ o. Bool) [ None ↦ false | Some y ↦ not y.1 ] ≡
        true
        → (is_noted x.page false us ≡ true → Low s p x.source x.page) → Low s p x.source x.page
    by_page true q e more = subst (Low s p x.source) (eqb-true u.0 x.page q)
        (h.0.low (off u.1 e) x i (sym (eqb-true u.0 x.page q)))
    by_page false q e more = more e
