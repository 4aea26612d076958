-- What an entry leaves of a byte, and so what the source of a byte gave it.
use Rattle.std.proofs.Common.{◌≡◌, ℕ, zero, suc, ◌+◌, ◌-◌, ◌<◌, ◌≤◌, Bool, true, false, ◌==◌, ◌&&◌, if◌then◌else◌, is_some, Option, Some, None, List, [], ◌∷◌, length, slice_index, slice_get, take, get_or, refl, sym, ap, ◌∙◌, subst, arith}
use Rattle.std.specs.Prelude.{option_map}
use Rattle.std.proofs.lemmas.Bool.Decides.{nat_tests}
use Rattle.std.proofs.lemmas.List.Sums.{fold_more}
use Rattle.std.proofs.lemmas.Option.{get_or_from_slice_get, slice_get_within, slice_get-get_or}
use Rattle.hm_base.specs.Pages.{covers}
use Rattle.hm_base.specs.Areas.{without, with_rights, with_area, rights_at}
use Rattle.hm_history.specs.Memory.Words.{page_of, with_at}
use Rattle.hm_history.specs.Memory.Plain.{Plain, plain_start, plain_next, plain_accepts, rights_of, mirror_owner, owned, with_zeros, with_bytes, written_for}
use Rattle.hm_history.specs.Memory.After.{after, after_entry, after_nothing}
use Rattle.hm_history.specs.declared.Who.{Who}
use Rattle.hm_history.specs.declared.Kind.{Kind}
use Rattle.hm_history.specs.declared.Entry.{Entry}
use Rattle.hm_laws.proofs.Kept.AreaCuts.{rights_without, rights_with, rights_added, no_meet}
use Rattle.hm_laws.proofs.Kept.Pools.{areas_at}
use Rattle.hm_why.specs.Sources.{Effect, Gives, Copies, Leaves, is_among, gives_if, copies_if, effect, kind_at, source_by, source_of, Gave, GaveBy, ComesFrom}

-- the byte of a page with an area, after an entry with this effect
abbrev pub Leaves_so : Plain → Kind → ℕ → ℕ → Effect → Type 0
Leaves_so s k q b Gives = Gave k b ((plain_next s k).bytes q b)
Leaves_so s k q b (Copies p) = (is_some (rights_of s p (page_of b)) ≡ true) × ((plain_next s k).bytes q b ≡ s.bytes p b)
Leaves_so s k q b Leaves = (is_some (rights_of s q (page_of b)) ≡ true) × ((plain_next s k).bytes q b ≡ s.bytes q b)

bytes_at : (f : ℕ → ℕ → ℕ) (p : ℕ) (g : ℕ → ℕ) (q b : ℕ) → with_at f p g q b ≡ (if q == p then g b else f q b)
bytes_at f p g q b = by (q == p)
  where
    by : (t : Bool) → (if t then g else f q) b ≡ (if t then g b else f q b)
    by true = refl
    by false = refl

-- a byte after a write of a process
written : (f : ℕ → ℕ → ℕ) (p at : ℕ) (bs : List ℕ) (q b : ℕ) → ((p == q) && is_among at (length bs) b) ≡ true → (is_among at (length bs) b ≡ true) × (slice_index bs (b - at) ≡ written_for f (Some p) at bs q b)
written f p at bs q b h = grind (arith, nat_tests, bytes_at f p (with_bytes (f p) at bs) q b)

unwritten : (f : ℕ → ℕ → ℕ) (p at : ℕ) (bs : List ℕ) (q b : ℕ) → ((p == q) && is_among at (length bs) b) ≡ false → written_for f (Some p) at bs q b ≡ f q b
unwritten f p at bs q b h = grind (arith, nat_tests, bytes_at f p (with_bytes (f p) at bs) q b)

-- a store of bytes by somebody
stored : (s : Plain) (k : Kind) (o : Option ℕ) (at : ℕ) (bs : List ℕ) (q b : ℕ) → (plain_next s k).bytes ≡ written_for s.bytes o at bs → is_some (rights_of s q (page_of b)) ≡ true →
    ((v : ℕ) → is_among at (length bs) b ≡ true → slice_index bs (b - at) ≡ v → Gave k b v) →
    Leaves_so s k q b (gives_if (owned o (λ p. p == q) && is_among at (length bs) b))
stored s k None at bs q b is has gave = (has, ap (λ (f : ℕ → ℕ → ℕ). f q b) is)
stored s k (Some p) at bs q b is has gave = by ((p == q) && is_among at (length bs) b) refl
  where
    by : (t : Bool) → ((p == q) && is_among at (length bs) b) ≡ t → Leaves_so s k q b (gives_if t)
    by true e = let w = written s.bytes p at bs q b e in gave _ w.0 (w.1 ∙ sym (ap (λ (f : ℕ → ℕ → ℕ). f q b) is))
    by false e = (has, ap (λ (f : ℕ → ℕ → ℕ). f q b) is ∙ unwritten s.bytes p at bs q b e)

one_added : (at b was now v : ℕ) (m : ℕ) → is_among at (length (now ∷ [])) b ≡ true → slice_index (now ∷ []) (b - at) ≡ v → Gave (Kind.Added m at was now) b v
one_added at b was now v m e h = (same, subst (λ x. slice_index (now ∷ []) x ≡ v) none h)
  where
    same : at ≡ b
    same = grind (arith, nat_tests)

    none : b - at ≡ 0
    none = omega (arith, same)

pub step : (s : Plain) (k : Kind) (q b : ℕ) → plain_accepts s k ≡ true → is_some (rights_of (plain_next s k) q (page_of b)) ≡ true → Leaves_so s k q b (effect (mirror_owner s) k q b)
step s (Kind.Stored (Who.Cpu p) at bs) q b ok has = stored s (Kind.Stored (Who.Cpu p) at bs) (Some p) at bs q b refl has (λ v e h. (e, h))
step s (Kind.Stored (Who.Mirror m) at bs) q b ok has = stored s (Kind.Stored (Who.Mirror m) at bs) (mirror_owner s m) at bs q b refl has (λ v e h. (e, h))
step s (Kind.Added m at was now) q b ok has = stored s (Kind.Added m at was now) (mirror_owner s m) at (now ∷ []) q b refl has (λ v e h. one_added at b was now v m e h)
step s (Kind.Mapped p r w) q b ok has = by ((p == q) && covers r (page_of b)) refl
  where
    areas : rights_of (plain_next s (Kind.Mapped p r w)) q (page_of b) ≡ (if q == p then rights_at (with_area (record { span = r; rights = w }) (s.areas p)) (page_of b) else rights_at (s.areas q) (page_of b))
    areas = areas_at s.areas p q (page_of b) (with_area (record { span = r; rights = w }) (s.areas p))

    added : rights_at (with_area (record { span = r; rights = w }) (s.areas p)) (page_of b) ≡ (if covers r (page_of b) then Some w else rights_at (s.areas p) (page_of b))
    added = rights_added (s.areas p) r w (page_of b) (no_meet s p r w ok)

    bytes : (plain_next s (Kind.Mapped p r w)).bytes q b ≡ (if q == p then with_zeros (s.bytes p) r b else s.bytes q b)
    bytes = bytes_at s.bytes p (with_zeros (s.bytes p) r) q b

    by : (t : Bool) → ((p == q) && covers r (page_of b)) ≡ t → Leaves_so s (Kind.Mapped p r w) q b (gives_if t)
    by true e = (grind (arith, nat_tests), grind (arith, nat_tests, bytes))
    by false e = (grind (arith, nat_tests, areas, added), grind (arith, nat_tests, bytes))
step s (Kind.Unmapped p r) q b ok has = (grind (arith, nat_tests, areas_at s.areas p q (page_of b) (without r (s.areas p)), rights_without r (s.areas p) (page_of b)), refl)
step s (Kind.Protected p r w) q b ok has = (grind (arith, nat_tests, areas_at s.areas p q (page_of b) (with_rights r w (s.areas p)), rights_with r w (s.areas p) (page_of b)), refl)
step s (Kind.Exited p) q b ok has = (grind (arith, nat_tests, areas_at s.areas p q (page_of b) []), refl)
step s (Kind.Forked p child) q b ok has = by (child == q) refl
  where
    areas : rights_of (plain_next s (Kind.Forked p child)) q (page_of b) ≡ (if q == child then rights_at (s.areas p) (page_of b) else rights_at (s.areas q) (page_of b))
    areas = areas_at s.areas child q (page_of b) (s.areas p)

    bytes : (plain_next s (Kind.Forked p child)).bytes q b ≡ (if q == child then s.bytes p b else s.bytes q b)
    bytes = bytes_at s.bytes child (s.bytes p) q b

    by : (t : Bool) → (child == q) ≡ t → Leaves_so s (Kind.Forked p child) q b (copies_if t p)
    by true e = (grind (arith, nat_tests, areas), grind (arith, nat_tests, bytes))
    by false e = (grind (arith, nat_tests, areas), grind (arith, nat_tests, bytes))
step s k q b ok has = (has, refl)

-- the state after one entry more
pub after_next : (h : List Entry) (i : ℕ) (e : Entry) → slice_get h i ≡ Some e → after (take (suc i) h) ≡ after_entry (after (take i h)) e
after_next h i e is =
    ap (λ n. after (take n h)) one
    ∙ fold_more after_entry after_nothing h i e (slice_get_within h i e is)
    ∙ ap (after_entry (after (take i h))) (get_or_from_slice_get h i e e is)
  where
    one : suc i ≡ i + 1
    one = omega arith

-- each entry before i passes the test of answers
pub record Answers (h : List Entry) (i : ℕ) : Type 0 where
  pub passes : (j : ℕ) (e : Entry) → j < i → slice_get h j ≡ Some e → plain_accepts (after (take j h)).plain e.kind ≡ true

-- each byte of a page with an area before position i has a source, which gave it its value
abbrev pub AllHaveSources : List Entry → ℕ → Type 0
AllHaveSources h i =
    (q b : ℕ) → is_some (rights_of (after (take i h)).plain q (page_of b)) ≡ true
    → (j : ℕ) × ComesFrom h i q b ((after (take i h)).plain.bytes q b) j

-- so it is after one entry more
one_more : (h : List Entry) (i : ℕ) (e : Entry) → slice_get h i ≡ Some e → plain_accepts (after (take i h)).plain e.kind ≡ true → AllHaveSources h i → AllHaveSources h (suc i)
one_more h i e is ok all q b has = by (effect (mirror_owner s) e.kind q b) refl (step s e.kind q b ok (subst (λ t. is_some (rights_of t.plain q (page_of b)) ≡ true) (after_next h i e is) has))
  where
    s : Plain
    s = (after (take i h)).plain

    now : (after (take (suc i) h)).plain.bytes q b ≡ (plain_next s e.kind).bytes q b
    now = ap (λ t. t.plain.bytes q b) (after_next h i e is)

    does : (x : Effect) → effect (mirror_owner s) e.kind q b ≡ x → source_of h (suc i) q b ≡ source_by x i (source_of h i) q b
    does x y = ap (λ (z : Option Entry). source_by (elim (option_map (λ (e : Entry). e.kind) z) as (λ _. Effect) [ None ↦ Leaves | Some k ↦ effect (mirror_owner s) k q b ]) i (source_of h i) q b) is ∙ ap (λ z. source_by z i (source_of h i) q b) y

    more : (p : ℕ) → source_of h (suc i) q b ≡ source_of h i p b → (plain_next s e.kind).bytes q b ≡ s.bytes p b → (j : ℕ) × ComesFrom h i p b (s.bytes p b) j → (j : ℕ) × ComesFrom h (suc i) q b ((after (take (suc i) h)).plain.bytes q b) j
    more p from same o = (
      o.0,
      record {
        source = from ∙ o.1.source;
        before = omega (arith, o.1.before);
        gave = subst (GaveBy (kind_at h o.0) b) (sym (now ∙ same)) o.1.gave;
      },
    )

    by : (x : Effect) → effect (mirror_owner s) e.kind q b ≡ x → Leaves_so s e.kind q b x → (j : ℕ) × ComesFrom h (suc i) q b ((after (take (suc i) h)).plain.bytes q b) j
    by Gives y l = (
      i,
      record {
        source = does Gives y;
        before = omega arith;
        gave = subst (λ (z : Option Entry). GaveBy (option_map (λ (e : Entry). e.kind) z) b ((after (take (suc i) h)).plain.bytes q b)) (sym is) (subst (Gave e.kind b) (sym now) l);
      },
    )
    by (Copies p) y l = more p (does (Copies p) y) l.1 (all p b l.0)
    by Leaves y l = more q (does Leaves y) l.1 (all q b l.0)

nothing : (q b : ℕ) → is_some (rights_of plain_start q (page_of b)) ≡ true → ⊥
nothing q b has = cc

pub has_source : (h : List Entry) (i : ℕ) → i ≤ length h → Answers h i → AllHaveSources h i
has_source h zero long ok = λ q b has. absurd (nothing q b has)
has_source h (suc i) long ok = one_more h i e is (ok.passes i e (omega arith) is) (has_source h i (omega arith) (record { passes = λ j x below. ok.passes j x (omega arith) }))
  where
    e : Entry
    e = get_or h i (record { actor = 0; kind = Kind.Detached 0 })

    is : slice_get h i ≡ Some e
    is = slice_get-get_or h i (record { actor = 0; kind = Kind.Detached 0 }) (omega arith)
