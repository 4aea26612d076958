-- Entries that collect no pages: outside of a migration they leave the migrations of their thread as they are.
use Rattle.std.proofs.Common.{refl, ap, sym, subst, ◌∙◌}
use Rattle.std.proofs.lemmas.Bool.{false≢true}
use Rattle.std.specs.Prelude.{◌≡◌, ℕ, Bool, true, false, not, if◌then◌else◌, Option, Some, None}
use Rattle.std.specs.Prelude.{⊤, List, [], ◌∷◌, ◌++◌, map, flat_map}
use Rattle.hm_history.specs.Memory.Words.{numbers}
use Rattle.hm_history.specs.Memory.After.{After}
use Rattle.hm_protocol.specs.declared.events.Event.{Event}
use Rattle.hm_protocol.specs.Projection as project
use Rattle.hm_protocol.proofs.MigrationViews.{View, view_next, views_after, CalmAt}

-- it collects no pages
abbrev pub sets_up : Event → Bool
sets_up (Event.Setup p r to_device d) = true
sets_up x = false

-- it changes nothing that is seen of migrations, and cannot be wrong there
abbrev pub is_still : Event → Bool
is_still (Event.Setup p r to_device d) = false
is_still (Event.From v f w) = false
is_still (Event.Stayed v f) = false
is_still (Event.Finalize p) = false
is_still (Event.Free f) = false
is_still (Event.Set m v f w) = false
is_still x = true

-- so is each of them
abbrev pub AllBe : (Event → Bool) → List Event → Type 0
AllBe test [] = ⊤
AllBe test (x ∷ xs) = (test x ≡ true) × AllBe test xs

abbrev pub sets_none : Event → Bool
sets_none x = not (sets_up x)

pub both_be : (test : Event → Bool) (xs ys : List Event) → AllBe test xs → AllBe test ys → AllBe test (xs ++ ys)
both_be test [] ys h g = g
both_be test (x ∷ xs) ys h g = (h.0, both_be test xs ys h.1 g)

pub be_each : (test : Event → Bool) {X : Type 0} (f : X → Event) → ((x : X) → test (f x) ≡ true) → (xs : List X)
    → AllBe test (map f xs)
be_each test f h [] = tt
be_each test f h (x ∷ xs) = (h x, be_each test f h xs)

be_flat : (test : Event → Bool) {X : Type 0} (f : X → List Event) → ((x : X) → AllBe test (f x)) → (xs : List X)
    → AllBe test (flat_map f xs)
be_flat test f h [] = tt
be_flat test f h (x ∷ xs) = both_be test (f x) (flat_map f xs) (h x) (be_flat test f h xs)

pub be_if : (test : Event → Bool) (c : Bool) (xs ys : List Event) → AllBe test xs → AllBe test ys
    → AllBe test (if c then xs else ys)
be_if test true xs ys h g = h
be_if test false xs ys h g = g

pub be_there : (test : Event → Bool) (o : Option ℕ) (x : Event) → test x ≡ true
    → AllBe test (elim o [ None ↦ [] | Some d ↦ x ∷ [] ])
be_there test None x h = tt
be_there test (Some d) x h = (h, tt)

-- ---- what erases

pub erased_be : (test : Event → Bool) → ((m v : ℕ) → test (Event.Erase m v) ≡ true) → (s u : After) (m : ℕ)
    → AllBe test (project.erased s u m)
erased_be test h s u m = be_each test (λ v. Event.Erase m v) (λ v. h m v) _

pub all_erased_be : (test : Event → Bool) → ((m v : ℕ) → test (Event.Erase m v) ≡ true) → (s u : After)
    → AllBe test (project.all_erased s u)
all_erased_be test h s u = be_flat test (project.erased s u) (erased_be test h s u) (numbers 0 32)

-- ---- what is still leaves migrations as they are

-- still events are not wrong
abbrev pub Still_calm : (List View → Event → Bool) → Type 0
Still_calm wrong = (vs : List View) (x : Event) → is_still x ≡ true → wrong vs x ≡ false

still_next : (vs : List View) (x : Event) → is_still x ≡ true → view_next vs x ≡ vs
still_next vs (Event.Setup p r to_device d) h = absurd (false≢true h)
still_next vs (Event.From v f w) h = absurd (false≢true h)
still_next vs (Event.Stayed v f) h = absurd (false≢true h)
still_next vs (Event.Finalize p) h = absurd (false≢true h)
still_next vs (Event.Free f) h = absurd (false≢true h)
still_next vs x h = refl

-- what comes of events
pub record Comes (wrong : List View → Event → Bool) (vs : List View) (xs : List Event) (us : List View) : Type 0 where
  pub calm : CalmAt wrong vs xs
  pub is : views_after vs xs ≡ us

pub one_more : (wrong : List View → Event → Bool) (vs us ws : List View) (x : Event) (xs : List Event)
    → wrong vs x ≡ false → view_next vs x ≡ us → Comes wrong us xs ws → Comes wrong vs (x ∷ xs) ws
one_more wrong vs us ws x xs h e g = record {
  calm = (h, subst (λ us. CalmAt wrong us xs) (sym e) g.calm);
  is = ap (λ us. views_after us xs) e ∙ g.is;
}

pub no_more : (wrong : List View → Event → Bool) (vs : List View) → Comes wrong vs [] vs
no_more wrong vs = record { calm = tt; is = refl }

pub and_on : (wrong : List View → Event → Bool) (vs us ws : List View) (xs ys : List Event) → Comes wrong vs xs us
    → Comes wrong us ys ws → Comes wrong vs (xs ++ ys) ws
and_on wrong vs us ws [] ys h g = subst (λ us. Comes wrong us ys ws) (sym h.is) g
and_on wrong vs us ws (x ∷ xs) ys h g = one_more wrong vs (view_next vs x) ws x (xs ++ ys) h.calm.0 refl
    (and_on wrong (view_next vs x) us ws xs ys (record { calm = h.calm.1; is = h.is }) g)

pub still_all : (wrong : List View → Event → Bool) → Still_calm wrong → (vs : List View) (xs : List Event)
    → AllBe is_still xs → Comes wrong vs xs vs
still_all wrong says vs [] h = no_more wrong vs
still_all wrong says vs (x ∷ xs) h = one_more wrong vs vs vs x xs (says vs x h.0) (still_next vs x h.0)
    (still_all wrong says vs xs h.1)

-- ---- without a migration nothing is wrong, and none comes but with a set-up

-- nothing is wrong where there is no migration
abbrev pub None_calm : (List View → Event → Bool) → Type 0
None_calm wrong = (x : Event) → wrong [] x ≡ false

none_next : (x : Event) → sets_none x ≡ true → view_next [] x ≡ []
none_next (Event.Setup p r to_device d) h = absurd (false≢true h)
none_next (Event.From v f w) h = refl
none_next (Event.Stayed v f) h = refl
none_next (Event.Finalize p) h = refl
none_next (Event.Free f) h = refl
none_next x h = refl

pub none_all : (wrong : List View → Event → Bool) → None_calm wrong → (xs : List Event) → AllBe sets_none xs
    → Comes wrong [] xs []
none_all wrong says [] h = no_more wrong []
none_all wrong says (x ∷ xs) h = one_more wrong [] [] [] x xs (says x) (none_next x h.0) (none_all wrong says xs h.1)
