-- The past that the rules speak of is the history's: who was told of which page since when, who began which look-up
-- where, and from where each table entry was set.
use Rattle.std.proofs.Common.{◌≡◌, ℕ, zero, suc, ◌+◌, ◌≤◌, Bool, true, false, ◌==◌, ◌&&◌, ◌||◌, if◌then◌else◌, not, Option, Some, None, List, [], ◌∷◌, ◌++◌, refl, sym, ap, ◌∙◌, subst, arith, length, drop, take}
use Rattle.std.specs.List.{list_all}
use Rattle.std.proofs.lemmas.Bool.Decides.{nat_tests}
use Rattle.std.proofs.lemmas.List.{drop-append-le, take-append-le}
use Rattle.std.proofs.lemmas.List.Folds.{list_all-append}
use Rattle.std.proofs.Math.Seq.{drop-append_seam, take-append_seam}
use Rattle.std.proofs.lemmas.Bool.{and_from, and_parts}
use Rattle.hm_base.specs.Pages.{covers}
use Rattle.hm_history.specs.Memory.Places.{TableEntry, Places, places_next}
use Rattle.hm_history.specs.Memory.Lookups.{last_from, last_where, is_set_of, is_begin_of, is_told_of, set_from, is_begin_before, at_set, is_untold}
use Rattle.hm_history.specs.declared.Entry.{Entry}
use Rattle.hm_history.specs.declared.Kind.{Kind}
use Rattle.hm_laws.specs.Past.{Past, past_start, past_next, is_position}
use Rattle.hm_history.proofs.Tests.{some_none}

-- where a table entry was set
pub record SetAt (h : List Entry) (m v from : ℕ) (rightly : Bool) : Type 0 where
  pub at : ℕ
  pub entry : Entry
  pub rest : List Entry
  pub below : at ≤ length h
  pub last : last_where (λ e. is_set_of m v e.kind) h ≡ Some at
  pub there : drop at h ≡ entry ∷ rest
  pub set : set_from entry.kind ≡ from
  pub begun : rightly ≡ true → is_begin_before h entry.actor m at from ≡ true

pub record PastIs (h : List Entry) (n : ℕ) (t : Past) (table : ℕ → ℕ → Option TableEntry) : Type 0 where
  pub long : n ≡ length h
  pub told_below : (m v : ℕ) → t.told m v ≤ n
  pub told_is : (m v : ℕ) → list_all (λ x. not (is_told_of m v x.kind)) (drop (t.told m v) h) ≡ true
  pub begun_is : (a m : ℕ) → last_where (λ e. (e.actor == a) && is_begin_of m e.kind) h ≡ t.begun a m
  pub set_is : (m v : ℕ) (e : TableEntry) → table m v ≡ Some e → SetAt h m v e.from (t.rightly m v)

pub past_is_start : (table : ℕ → ℕ → Option TableEntry) → ((m v : ℕ) → table m v ≡ None) → PastIs [] 0 past_start table
past_is_start table none = record {
  long = refl;
  told_below = λ m v. omega arith;
  told_is = λ m v. refl;
  begun_is = λ a m. refl;
  set_is = λ m v e h. absurd (some_none (table m v) e h (none m v));
}

-- one more entry
last_from_snoc : (test : Entry → Bool) (at : ℕ) (best : Option ℕ) (h : List Entry) (e : Entry) → last_from test at best (h ++ e ∷ []) ≡ (if test e then Some (at + length h) else last_from test at best h)
last_from_snoc test at best [] e = by (test e)
  where
    none : at + 0 ≡ at
    none = omega arith

    by : (b : Bool) → (if b then Some at else best) ≡ (if b then Some (at + 0) else best)
    by true = ap Some (sym none)
    by false = refl
last_from_snoc test at best (x ∷ h) e = last_from_snoc test (at + 1) (if test x then Some at else best) h e ∙ ap (λ n. if test e then Some n else last_from test (at + 1) (if test x then Some at else best) h) more
  where
    more : at + 1 + length h ≡ at + suc (length h)
    more = omega arith

pub last_snoc : (test : Entry → Bool) (h : List Entry) (e : Entry) → last_where test (h ++ e ∷ []) ≡ (if test e then Some (length h) else last_where test h)
last_snoc test h e = last_from_snoc test 0 None h e ∙ ap (λ n. if test e then Some n else last_where test h) zero_more
  where
    zero_more : 0 + length h ≡ length h
    zero_more = omega arith

pub length_snoc : (h : List Entry) (e : Entry) → length (h ++ e ∷ []) ≡ length h + 1
length_snoc [] e = refl
length_snoc (x ∷ h) e = ap suc (length_snoc h e) ∙ more
  where
    more : suc (length h + 1) ≡ suc (length h) + 1
    more = omega arith

drop_all : (h : List Entry) → drop (length h) h ≡ []
drop_all [] = refl
drop_all (x ∷ h) = drop_all h

-- mirrors told
told_case : (t : Past) (n a m v : ℕ) (k : Kind) → (past_next t n a k).told m v ≡ (if is_told_of m v k then n + 1 else t.told m v)
told_case t n a m v (Kind.Told i r q) = by (m == i) refl (i == m) refl (covers r v)
  where
    by : (x : Bool) → (m == i) ≡ x → (y : Bool) → (i == m) ≡ y → (z : Bool) → (if x && z then n + 1 else t.told m v) ≡ (if y && z then n + 1 else t.told m v)
    by true ex true ey z = refl
    by false ex false ey z = refl
    by true ex false ey z = absurd (clash ex ey)
      where
        clash : (m == i) ≡ true → (i == m) ≡ false → ⊥
        clash h k = grind (arith, nat_tests)
    by false ex true ey z = absurd (clash ex ey)
      where
        clash : (m == i) ≡ false → (i == m) ≡ true → ⊥
        clash h k = grind (arith, nat_tests)
told_case t n a m v k = refl

told_step : (h : List Entry) (n told m v : ℕ) (e : Entry) → n ≡ length h → told ≤ n → list_all (λ x. not (is_told_of m v x.kind)) (drop told h) ≡ true → (b : Bool) → is_told_of m v e.kind ≡ b → list_all (λ x. not (is_told_of m v x.kind)) (drop (if b then n + 1 else told) (h ++ e ∷ [])) ≡ true
told_step h n told m v e l below ih true i = ap (λ d. list_all (λ x. not (is_told_of m v x.kind)) (drop d (h ++ e ∷ []))) (ap (λ d. d + 1) l ∙ sym (length_snoc h e)) ∙ ap (list_all (λ x. not (is_told_of m v x.kind))) (drop_all (h ++ e ∷ []))
told_step h n told m v e l below ih false i = ap (list_all (λ x. not (is_told_of m v x.kind))) (drop-append-le told h (e ∷ []) (omega (arith, l, below))) ∙ list_all-append (λ x. not (is_told_of m v x.kind)) (drop told h) (e ∷ [])
    ∙ and_from (list_all (λ x. not (is_told_of m v x.kind)) (drop told h)) (not (is_told_of m v e.kind) && true) ih (and_from (not (is_told_of m v e.kind)) true (ap not i) refl)

below_step : (n told : ℕ) (b : Bool) → told ≤ n → (if b then n + 1 else told) ≤ n + 1
below_step n told true l = omega arith
below_step n told false l = omega (arith, l)

-- look-ups begun
no_begin : (x : Bool) (y z : Option ℕ) → y ≡ (if x && false then z else y)
no_begin true y z = refl
no_begin false y z = refl

begun_case : (t : Past) (n a b m : ℕ) (k : Kind) → (past_next t n a k).begun b m ≡ (if (a == b) && is_begin_of m k then Some n else t.begun b m)
begun_case t n a b m (Kind.Begin i q) = grind (arith, nat_tests)
begun_case t n a b m (Kind.Loaded x at bs) = no_begin (a == b) (t.begun b m) (Some n)
begun_case t n a b m k = no_begin (a == b) (t.begun b m) (Some n)

-- table entries set
table_case : (s : Places) (m v : ℕ) (k : Kind) (e : TableEntry) → is_set_of m v k ≡ false → (places_next s k).table m v ≡ Some e → s.table m v ≡ Some e
table_case s m v (Kind.Set i u f w from) e n h = grind (arith, nat_tests)
table_case s m v (Kind.Told i r q) e n h = grind (arith, nat_tests)
table_case s m v (Kind.Detaching i q) e n h = grind (arith, nat_tests)
table_case s m v (Kind.Detached i) e n h = grind (arith, nat_tests)
table_case s m v k e n h = h

rightly_case : (t : Past) (n a m v : ℕ) (k : Kind) → is_set_of m v k ≡ false → (past_next t n a k).rightly m v ≡ t.rightly m v
rightly_case t n a m v (Kind.Set i u f w from) h = grind (arith, nat_tests)
rightly_case t n a m v k h = refl

-- the list before a position is the same
begin_before : (h es : List Entry) (a m at from : ℕ) → at ≤ length h → is_begin_before (h ++ es) a m at from ≡ is_begin_before h a m at from
begin_before h es a m at from l = ap (λ (x : List Entry). (from == at) || elim (last_where (λ e. (e.actor == a) && is_begin_of m e.kind) x) [ None ↦ false | Some i ↦ from == i ]) (take-append-le at h es l)

old_set : (h : List Entry) (t : Past) (n a m v from : ℕ) (k : Kind) → is_set_of m v k ≡ false → SetAt h m v from (t.rightly m v) → SetAt (h ++ record { actor = a; kind = k } ∷ []) m v from ((past_next t n a k).rightly m v)
old_set h t n a m v from k no_set o = record {
  at = o.at;
  entry = o.entry;
  rest = o.rest ++ record { actor = a; kind = k } ∷ [];
  below = omega (arith, o.below, length_snoc h (record { actor = a; kind = k }));
  last = last_snoc (λ e. is_set_of m v e.kind) h (record { actor = a; kind = k }) ∙ ap (λ b. if b then Some (length h) else last_where (λ e. is_set_of m v e.kind) h) no_set ∙ o.last;
  there = drop-append-le o.at h (record { actor = a; kind = k } ∷ []) o.below ∙ ap (λ x. x ++ record { actor = a; kind = k } ∷ []) o.there;
  set = o.set;
  begun = λ e. begin_before h (record { actor = a; kind = k } ∷ []) o.entry.actor m o.at from o.below ∙ o.begun (sym (rightly_case t n a m v k no_set) ∙ e);
}

position_is : (x : Option ℕ) (from : ℕ) → is_position x from ≡ elim x [ None ↦ false | Some i ↦ from == i ]
position_is None from = refl
position_is (Some i) from = refl

-- the entry sets it
new_set : (h : List Entry) (t : Past) (n a m v from : ℕ) (k : Kind) → n ≡ length h → ((b m : ℕ) → last_where (λ e. (e.actor == b) && is_begin_of m e.kind) h ≡ t.begun b m) → is_set_of m v k ≡ true → set_from k ≡ from →
    ((past_next t n a k).rightly m v ≡ ((from == n) || is_position (t.begun a m) from)) → SetAt (h ++ record { actor = a; kind = k } ∷ []) m v from ((past_next t n a k).rightly m v)
new_set h t n a m v from k l begun_is is_set f r = record {
  at = length h;
  entry = record { actor = a; kind = k };
  rest = [];
  below = omega (arith, length_snoc h (record { actor = a; kind = k }));
  last = last_snoc (λ e. is_set_of m v e.kind) h (record { actor = a; kind = k }) ∙ ap (λ b. if b then Some (length h) else last_where (λ e. is_set_of m v e.kind) h) is_set;
  there = drop-append_seam h (record { actor = a; kind = k } ∷ []);
  set = f;
  begun = λ e. at_begin (sym r ∙ e);
}
  where
    seam : take (length h) (h ++ record { actor = a; kind = k } ∷ []) ≡ h
    seam = take-append_seam h (record { actor = a; kind = k } ∷ [])

    at_begin : ((from == n) || is_position (t.begun a m) from) ≡ true → is_begin_before (h ++ record { actor = a; kind = k } ∷ []) a m (length h) from ≡ true
    at_begin e = ap (λ (x : List Entry). (from == length h) || elim (last_where (λ e. (e.actor == a) && is_begin_of m e.kind) x) [ None ↦ false | Some i ↦ from == i ]) seam
        ∙ ap (λ (x : Option ℕ). (from == length h) || elim x [ None ↦ false | Some i ↦ from == i ]) (begun_is a m)
        ∙ ap (λ x. (from == length h) || x) (sym (position_is (t.begun a m) from)) ∙ ap (λ x. (from == x) || is_position (t.begun a m) from) (sym l) ∙ e

set_step : (h : List Entry) (s : Places) (t : Past) (n a m v : ℕ) (k : Kind) (e : TableEntry) → PastIs h n t s.table → (places_next s k).table m v ≡ Some e → SetAt (h ++ record { actor = a; kind = k } ∷ []) m v e.from ((past_next t n a k).rightly m v)
set_step h s t n a m v (Kind.Set i u f w from) e past i_is = by (is_set_of m v (Kind.Set i u f w from)) refl
  where
    by : (b : Bool) → is_set_of m v (Kind.Set i u f w from) ≡ b → SetAt (h ++ record { actor = a; kind = Kind.Set i u f w from } ∷ []) m v e.from ((past_next t n a (Kind.Set i u f w from)).rightly m v)
    by true k = new_set h t n a m v e.from (Kind.Set i u f w from) past.long past.begun_is k from_is (rightly_is ∙ ap (λ x. (x == n) || is_position (t.begun a i) x) from_is ∙ ap (λ x. (e.from == n) || is_position (t.begun a x) e.from) mirror)
      where
        mirror : i ≡ m
        mirror = grind (arith, nat_tests)

        from_in : (x : Option TableEntry) → ℕ
        from_in x = elim x [ None ↦ 0 | Some y ↦ y.from ]

        from_is : from ≡ e.from
        from_is = ap (λ (x : Option TableEntry). elim x [ None ↦ 0 | Some y ↦ y.from ]) entry_is
          where
            entry_is : Some (record { target = f; right = w; from = from }) ≡ Some e
            entry_is = grind (arith, nat_tests)

        rightly_is : (past_next t n a (Kind.Set i u f w from)).rightly m v ≡ ((from == n) || is_position (t.begun a i) from)
        rightly_is = grind (arith, nat_tests)
    by false k = old_set h t n a m v e.from (Kind.Set i u f w from) k (past.set_is m v e (table_case s m v (Kind.Set i u f w from) e k i_is))
set_step h s t n a m v k e past i_is = old_set h t n a m v e.from k refl (past.set_is m v e (table_case s m v k e refl i_is))

pub past_is_step : (h : List Entry) (s : Places) (t : Past) (n : ℕ) (e : Entry) → PastIs h n t s.table → PastIs (h ++ e ∷ []) (n + 1) (past_next t n e.actor e.kind) (places_next s e.kind).table
past_is_step h s t n e past = record {
  long = ap (λ i. i + 1) past.long ∙ sym (length_snoc h e);
  told_below = λ m v. subst (λ i. i ≤ n + 1) (sym (told_case t n e.actor m v e.kind)) (below_step n (t.told m v) (is_told_of m v e.kind) (past.told_below m v));
  told_is = λ m v. ap (λ i. list_all (λ x. not (is_told_of m v x.kind)) (drop i (h ++ e ∷ []))) (told_case t n e.actor m v e.kind) ∙ told_step h n (t.told m v) m v e past.long (past.told_below m v) (past.told_is m v) (is_told_of m v e.kind) refl;
  begun_is = λ a m. last_snoc (λ x. (x.actor == a) && is_begin_of m x.kind) h e ∙ ap (λ i. if (e.actor == a) && is_begin_of m e.kind then Some i else last_where (λ x. (x.actor == a) && is_begin_of m x.kind) h) (sym past.long) ∙ ap (λ i. if (e.actor == a) && is_begin_of m e.kind then Some n else i) (past.begun_is a m) ∙ sym (begun_case t n e.actor a m e.kind);
  set_is = λ m v x i. set_step h s t n e.actor m v e.kind x past i;
}

-- a table entry from whose look-up on nobody was told
drop_more : (test : Entry → Bool) (h : List Entry) (j k : ℕ) → list_all test (drop j h) ≡ true → j ≤ k → list_all test (drop k h) ≡ true
drop_more test [] j zero e l = refl
drop_more test [] j (suc k) e l = refl
drop_more test (x ∷ h) zero zero e l = e
drop_more test (x ∷ h) zero (suc k) e l = drop_more test h zero k (and_parts (test x) (list_all test h) e).1 (omega arith)
drop_more test (x ∷ h) (suc j) zero e l = absurd (omega (arith, l))
drop_more test (x ∷ h) (suc j) (suc k) e l = drop_more test h j k e (omega (arith, l))

pub untold_entry : (h : List Entry) (n : ℕ) (t : Past) (table : ℕ → ℕ → Option TableEntry) → PastIs h n t table → (m v : ℕ) (e : TableEntry) → table m v ≡ Some e → t.told m v ≤ e.from → t.rightly m v ≡ true → is_untold h m v ≡ true
untold_entry h n t table past m v e i told right = ap (λ (x : Option ℕ). elim x [ None ↦ false | Some j ↦ at_set h m v j (drop j h) ]) o.last ∙ ap (at_set h m v o.at) o.there
    ∙ and_from (is_begin_before h o.entry.actor m o.at (set_from o.entry.kind)) _ (ap (is_begin_before h o.entry.actor m o.at) o.set ∙ o.begun right)
    (ap (λ j. list_all (λ x. not (is_told_of m v x.kind)) (drop (j + 1) h)) o.set ∙ drop_more (λ x. not (is_told_of m v x.kind)) h (t.told m v) (e.from + 1) (past.told_is m v) (omega (arith, told)))
  where
    o : SetAt h m v e.from (t.rightly m v)
    o = past.set_is m v e i
