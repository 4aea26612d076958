-- What the parts of legality ask of a history is what is recalled of it.
use Rattle.std.proofs.Common.{◌≡◌, ℕ, zero, suc, ◌+◌, ◌≤◌, Bool, true, false, ◌==◌, ◌&&◌, ◌||◌, if◌then◌else◌, not, nat_lt, Option, Some, None, List, [], ◌∷◌, ◌++◌, refl, sym, ap, ◌∙◌, subst, arith, length, drop, take, fold, append_assoc, append-nil}
use Rattle.std.specs.List.{list_all}
use Rattle.std.proofs.lemmas.Bool.Decides.{nat_tests}
use Rattle.std.proofs.lemmas.List.{drop-append-le, take-append-le}
use Rattle.std.proofs.Math.Seq.{drop-append_seam, take-append_seam}
use Rattle.std.proofs.lemmas.List.Sums.{fold-append}
use Rattle.hm_base.specs.Program.{Program}
use Rattle.hm_history.specs.Memory.Lookups.{narrows_guarded, last_from, last_where, is_set_of, is_begin_of, is_told_of, set_from, at_set, is_untold, uses_untold}
use Rattle.hm_history.specs.Memory.After.{after_nothing, after_entry, after}
use Rattle.hm_history.specs.Kernel.Going.{Going}
use Rattle.hm_history.specs.Memory.Words.{page_of}
use Rattle.hm_history.specs.Memory.Plain.{plain_accepts, mirror_owner}
use Rattle.hm_history.specs.Memory.Places.{places_accept}
use Rattle.hm_history.specs.Memory.Sequences.{sequences_accept}
use Rattle.hm_history.specs.Memory.Rules.{is_finishing, is_no_frame, was_short, system_is_full, needs_full, fails_rightly}
use Rattle.hm_history.specs.Kernel.Legal.{kept_rightly}
use Rattle.hm_history.specs.declared.Who.{Who}
use Rattle.hm_history.specs.declared.Kind.{Kind}
use Rattle.hm_history.specs.declared.Entry.{Entry}
use Rattle.hm_laws.proofs.Past.Told.{last_snoc, length_snoc}
use Rattle.hm_laws.specs.Past.{is_position}
use Rattle.hm_flaws.specs.Parts.{Part, meets_part, broken_part}
use Rattle.hm_flaws.specs.Recalled.{Recalled, recalled_start, recalled_next, recalled_of, is_full, told_by, is_untold_by, uses_untold_in, fails_rightly_in, meets_part_in, broken_part_in}

-- no entry from a position on passes: the last one that does is below it
abbrev below : Option ℕ → ℕ → Bool
below None k = true
below (Some i) k = nat_lt i k

either : (t : Bool) {X : Type 0} (P : X → Type 0) (x y : X) → P x → P y → P (if t then x else y)
either true P x y h k = h
either false P x y h k = k

last_above : (test : Entry → Bool) (at i n : ℕ) (h : List Entry) → n ≤ i → n ≤ at → below (last_from test at (Some i) h) n ≡ false
last_above test at i n [] l m = grind (arith, nat_tests)
last_above test at i n (x ∷ h) l m = either (test x) (λ o. below (last_from test (at + 1) o h) n ≡ false) (Some at) (Some i) (last_above test (at + 1) at n h m (omega (arith, m))) (last_above test (at + 1) i n h l (omega (arith, m)))

none_step : (t : Bool) (x y : Bool) → y ≡ false → (z : Bool) → x ≡ z → (not t && x) ≡ (if t then y else z)
none_step true x y e z f = sym e
none_step false x y e z f = f

if_below : (t : Bool) (f : Option ℕ → Option ℕ) (o p : Option ℕ) (n : ℕ) → (if t then below (f o) n else below (f p) n) ≡ below (f (if t then o else p)) n
if_below true f o p n = refl
if_below false f o p n = refl

none_from : (test : Entry → Bool) (at n : ℕ) (best : Option ℕ) (h : List Entry) → n ≤ at → below best n ≡ true → list_all (λ x. not (test x)) h ≡ below (last_from test at best h) n
none_from test at n best [] l b = sym b
none_from test at n best (x ∷ h) l b = none_step (test x) (list_all (λ x. not (test x)) h) (below (last_from test (at + 1) (Some at) h) n) (last_above test (at + 1) at n h l (omega (arith, l))) (below (last_from test (at + 1) best h) n) (none_from test (at + 1) n best h (omega (arith, l)) b)
    ∙ if_below (test x) (λ o. last_from test (at + 1) o h) (Some at) best n

none_after : (test : Entry → Bool) (at k : ℕ) (best : Option ℕ) (h : List Entry) → below best (at + k) ≡ true → below best at ≡ true → list_all (λ x. not (test x)) (drop k h) ≡ below (last_from test at best h) (at + k)
none_after test at zero best h b d = none_from test at (at + 0) best h (omega arith) b
none_after test at (suc k) best [] b d = sym b
none_after test at (suc k) best (x ∷ h) b d =
    either (test x) (λ o. list_all (λ x. not (test x)) (drop k h) ≡ below (last_from test (at + 1) o h) (at + 1 + k)) (Some at) best (none_after test (at + 1) k (Some at) h (new_below at refl) (new_at at refl)) (none_after test (at + 1) k best h (subst (λ n. below best n ≡ true) (sym more) b) (old_at best d))
    ∙ ap (below (last_from test (at + 1) (if test x then Some at else best) h)) more
  where
    more : at + 1 + k ≡ at + suc k
    more = omega arith

    new_below : (i : ℕ) → i ≡ at → below (Some i) (at + 1 + k) ≡ true
    new_below i e = grind (arith, nat_tests)

    new_at : (i : ℕ) → i ≡ at → below (Some i) (at + 1) ≡ true
    new_at i e = grind (arith, nat_tests)

    old_at : (o : Option ℕ) → below o at ≡ true → below o (at + 1) ≡ true
    old_at None e = refl
    old_at (Some i) e = grind (arith, nat_tests)

untold_from : (test : Entry → Bool) (h : List Entry) (o : Option ℕ) (from : ℕ) → last_where test h ≡ o → list_all (λ x. not (test x)) (drop (from + 1) h) ≡ told_by o from
untold_from test h o from l = none_after test 0 (from + 1) None h refl refl ∙ (ap (λ z. below z (0 + (from + 1))) l ∙ same o)
  where
    same : (o : Option ℕ) → below o (0 + (from + 1)) ≡ told_by o from
    same None = refl
    same (Some i) = grind (arith, nat_tests)

-- the last entry that passes a test, what was before it, and what came after it
pub record Last (test : Entry → Bool) (h : List Entry) : Type 0 where
  pub at : ℕ
  pub entry : Entry
  pub before : List Entry
  pub rest : List Entry
  pub within : at ≤ length h
  pub last : last_where test h ≡ Some at
  pub there : drop at h ≡ entry ∷ rest
  pub upto : take at h ≡ before

new_last : (test : Entry → Bool) (h : List Entry) (e : Entry) → test e ≡ true → Last test (h ++ e ∷ [])
new_last test h e t = record {
  at = length h;
  entry = e;
  before = h;
  rest = [];
  within = omega (arith, length_snoc h e);
  last = last_snoc test h e ∙ ap (λ b. if b then Some (length h) else last_where test h) t;
  there = drop-append_seam h (e ∷ []);
  upto = take-append_seam h (e ∷ []);
}

old_last : (test : Entry → Bool) (h : List Entry) (e : Entry) → test e ≡ false → Last test h → Last test (h ++ e ∷ [])
old_last test h e t l = record {
  at = l.at;
  entry = l.entry;
  before = l.before;
  rest = l.rest ++ e ∷ [];
  within = omega (arith, l.within, length_snoc h e);
  last = last_snoc test h e ∙ (ap (λ b. if b then Some (length h) else last_where test h) t ∙ l.last);
  there = drop-append-le l.at h (e ∷ []) l.within ∙ ap (λ z. z ++ e ∷ []) l.there;
  upto = take-append-le l.at h (e ∷ []) l.within ∙ l.upto;
}

still_none : (test : Entry → Bool) (h : List Entry) (e : Entry) → test e ≡ false → last_where test h ≡ None → last_where test (h ++ e ∷ []) ≡ None
still_none test h e t l = last_snoc test h e ∙ (ap (λ b. if b then Some (length h) else last_where test h) t ∙ l)

-- table entries
abbrev pub rightly_at : Entry → ℕ → ℕ → List Entry → Bool
rightly_at e m at before = (set_from e.kind == at) || elim (last_where (λ x. (x.actor == e.actor) && is_begin_of m x.kind) before) [ None ↦ false | Some i ↦ set_from e.kind == i ]

pub record SetHere (h : List Entry) (m v : ℕ) (x : Bool × ℕ) : Type 0 where
  pub last : Last (λ e. is_set_of m v e.kind) h
  pub from : set_from last.entry.kind ≡ x.1
  pub rightly : rightly_at last.entry m last.at last.before ≡ x.0

abbrev pub SetIs : List Entry → ℕ → ℕ → Option (Bool × ℕ) → Type 0
SetIs h m v None = last_where (λ e. is_set_of m v e.kind) h ≡ None
SetIs h m v (Some x) = SetHere h m v x

-- an actor's last entry, but for places, `done` and `drop`
abbrev pub ended : Entry → ℕ → Bool
ended e a = (e.actor == a) && not (is_finishing e.kind)

pub record ShortHere (c : Program) (h : List Entry) (a : ℕ) (b : Bool) : Type 0 where
  pub last : Last (λ e. ended e a) h
  pub same : (is_no_frame (last.entry ∷ last.rest) && system_is_full c last.before) ≡ b

pub data ShortIs (c : Program) (h : List Entry) (a : ℕ) (b : Bool) : Type 0 where
  Never : last_where (λ e. ended e a) h ≡ None → b ≡ false → ShortIs c h a b
  Once : ShortHere c h a b → ShortIs c h a b

pub record IsRecalled (c : Program) (h : List Entry) (n : Recalled) : Type 0 where
  pub state : n.state ≡ after h
  pub long : n.state.length ≡ length h
  pub begun : (a m : ℕ) → last_where (λ e. (e.actor == a) && is_begin_of m e.kind) h ≡ n.begun a m
  pub told : (m v : ℕ) → last_where (λ e. is_told_of m v e.kind) h ≡ n.told m v
  pub set : (m v : ℕ) → SetIs h m v (n.set m v)
  pub short : (a : ℕ) → ShortIs c h a (n.short a)

-- before the first entry
start_recalled : (c : Program) → IsRecalled c [] recalled_start
start_recalled c = record {
  state = refl;
  long = refl;
  begun = λ a m. refl;
  told = λ m v. refl;
  set = λ m v. refl;
  short = λ a. ShortIs.Never refl refl;
}

-- after one entry more
set_more : (c : Program) (h : List Entry) (n : Recalled) (e : Entry) → IsRecalled c h n → (m v : ℕ) (t : Bool) → is_set_of m v e.kind ≡ t → SetIs (h ++ e ∷ []) m v (if t then Some ((set_from e.kind == n.state.length) || is_position (n.begun e.actor m) (set_from e.kind), set_from e.kind) else n.set m v)
unfolding old_last new_last
set_more c h n e i m v true t = record { last = new_last (λ x. is_set_of m v x.kind) h e t; from = refl; rightly = ap (λ k. (set_from e.kind == k) || elim (last_where (λ x. (x.actor == e.actor) && is_begin_of m x.kind) h) [ None ↦ false | Some i ↦ set_from e.kind == i ]) (sym i.long) ∙ ap (λ o. (set_from e.kind == n.state.length) || elim o [ None ↦ false | Some i ↦ set_from e.kind == i ]) (i.begun e.actor m) ∙ same (n.begun e.actor m) }
  where
    same : (o : Option ℕ) → ((set_from e.kind == n.state.length) || elim o [ None ↦ false | Some i ↦ set_from e.kind == i ]) ≡ ((set_from e.kind == n.state.length) || is_position o (set_from e.kind))
    same None = refl
    same (Some i) = refl
set_more c h n e i m v false t = by (n.set m v) (i.set m v)
  where
    by : (o : Option (Bool × ℕ)) → SetIs h m v o → SetIs (h ++ e ∷ []) m v o
    by None s = still_none (λ x. is_set_of m v x.kind) h e t s
    by (Some x) s = record { last = old_last (λ x. is_set_of m v x.kind) h e t s.last; from = s.from; rightly = s.rightly }

short_more : (c : Program) (h : List Entry) (n : Recalled) (e : Entry) → IsRecalled c h n → (a : ℕ) (t : Bool) → ended e a ≡ t → ShortIs c (h ++ e ∷ []) a (if t then is_no_frame (e ∷ []) && is_full c n.state else n.short a)
unfolding old_last new_last
short_more c h n e i a true t = ShortIs.Once (record { last = new_last (λ x. ended x a) h e t; same = ap (λ s. is_no_frame (e ∷ []) && is_full c s) (sym i.state) })
short_more c h n e i a false t = by (n.short a) (i.short a)
  where
    first_of : (x : Entry) (r : List Entry) → is_no_frame (x ∷ r ++ e ∷ []) ≡ is_no_frame (x ∷ r)
    first_of x r = refl

    by : (b : Bool) → ShortIs c h a b → ShortIs c (h ++ e ∷ []) a b
    by b (ShortIs.Never l f) = ShortIs.Never (still_none (λ x. ended x a) h e t l) f
    by b (ShortIs.Once s) = ShortIs.Once (record { last = old_last (λ x. ended x a) h e t s.last; same = s.same })

more_recalled : (c : Program) (h : List Entry) (n : Recalled) (e : Entry) → IsRecalled c h n → IsRecalled c (h ++ e ∷ []) (recalled_next c n e)
more_recalled c h n e i = record {
  state = ap (λ s. after_entry s e) i.state ∙ sym (fold-append after_entry after_nothing h (e ∷ []));
  long = ap (λ k. k + 1) i.long ∙ sym (length_snoc h e);
  begun = λ a m. last_snoc (λ x. (x.actor == a) && is_begin_of m x.kind) h e ∙ (ap (λ k. if (e.actor == a) && is_begin_of m e.kind then Some k else last_where (λ x. (x.actor == a) && is_begin_of m x.kind) h) (sym i.long) ∙ ap (λ o. if (e.actor == a) && is_begin_of m e.kind then Some n.state.length else o) (i.begun a m));
  told = λ m v. last_snoc (λ x. is_told_of m v x.kind) h e ∙ (ap (λ k. if is_told_of m v e.kind then Some k else last_where (λ x. is_told_of m v x.kind) h) (sym i.long) ∙ ap (λ o. if is_told_of m v e.kind then Some n.state.length else o) (i.told m v));
  set = λ m v. set_more c h n e i m v (is_set_of m v e.kind) refl;
  short = λ a. short_more c h n e i a (ended e a) refl;
}

all_recalled : (c : Program) (h es : List Entry) (n : Recalled) → IsRecalled c h n → IsRecalled c (h ++ es) (fold (recalled_next c) n es)
all_recalled c h [] n i = subst (λ z. IsRecalled c z n) (sym (append-nil h)) i
all_recalled c h (e ∷ es) n i = subst (λ z. IsRecalled c z (fold (recalled_next c) (recalled_next c n e) es)) (append_assoc h (e ∷ []) es) (all_recalled c (h ++ e ∷ []) es (recalled_next c n e) (more_recalled c h n e i))

pub is_recalled : (c : Program) (h : List Entry) → IsRecalled c h (recalled_of c h)
is_recalled c h = all_recalled c [] h recalled_start (start_recalled c)

-- the parts
untold_by : (c : Program) (h : List Entry) (n : Recalled) → IsRecalled c h n → (m v : ℕ) → is_untold h m v ≡ is_untold_by (n.set m v) (n.told m v)
untold_by c h n i m v = by (n.set m v) (i.set m v)
  where
    at_here : (x : Bool × ℕ) (s : SetHere h m v x) → at_set h m v s.last.at (s.last.entry ∷ s.last.rest) ≡ (x.0 && told_by (n.told m v) x.1)
    at_here x s = ap (λ z. ((set_from s.last.entry.kind == s.last.at) || elim (last_where (λ y. (y.actor == s.last.entry.actor) && is_begin_of m y.kind) z) [ None ↦ false | Some k ↦ set_from s.last.entry.kind == k ]) && list_all (λ y. not (is_told_of m v y.kind)) (drop (set_from s.last.entry.kind + 1) h)) s.last.upto
        ∙ (ap (λ b. b && list_all (λ y. not (is_told_of m v y.kind)) (drop (set_from s.last.entry.kind + 1) h)) s.rightly
        ∙ (ap (λ k. x.0 && list_all (λ y. not (is_told_of m v y.kind)) (drop (k + 1) h)) s.from
        ∙ ap (λ b. x.0 && b) (untold_from (λ y. is_told_of m v y.kind) h (n.told m v) x.1 (i.told m v))))

    by : (o : Option (Bool × ℕ)) → SetIs h m v o → is_untold h m v ≡ is_untold_by o (n.told m v)
    by None s = ap (λ z. elim z [ None ↦ false | Some j ↦ at_set h m v j (drop j h) ]) s
    by (Some x) s = ap (λ z. elim z [ None ↦ false | Some j ↦ at_set h m v j (drop j h) ]) s.last.last ∙ (ap (at_set h m v s.last.at) s.last.there ∙ at_here x s)

pub uses_by : (c : Program) (h : List Entry) (n : Recalled) → IsRecalled c h n → (k : Kind) → uses_untold h k ≡ uses_untold_in n k
uses_by c h n i (Kind.Loaded (Who.Mirror m) at bs) = untold_by c h n i m (page_of at)
uses_by c h n i (Kind.Loaded (Who.Cpu p) at bs) = refl
uses_by c h n i (Kind.Stored (Who.Mirror m) at bs) = untold_by c h n i m (page_of at)
uses_by c h n i (Kind.Stored (Who.Cpu p) at bs) = refl
uses_by c h n i (Kind.Fetched m at bs) = untold_by c h n i m (page_of at)
uses_by c h n i (Kind.Added m at was now) = untold_by c h n i m (page_of at)
uses_by c h n i k = refl

short_by : (c : Program) (h : List Entry) (a : ℕ) (b : Bool) → ShortIs c h a b → was_short c h a ≡ b
short_by c h a b (ShortIs.Never l f) = ap (λ z. elim z [ None ↦ false | Some j ↦ is_no_frame (drop j h) && system_is_full c (take j h) ]) l ∙ sym f
short_by c h a b (ShortIs.Once s) = ap (λ z. elim z [ None ↦ false | Some j ↦ is_no_frame (drop j h) && system_is_full c (take j h) ]) s.last.last ∙ (ap (λ z. is_no_frame z && system_is_full c (take s.last.at h)) s.last.there ∙ (ap (λ z. is_no_frame (s.last.entry ∷ s.last.rest) && system_is_full c z) s.last.upto ∙ s.same))

pub fails_by : (c : Program) (h : List Entry) (n : Recalled) → IsRecalled c h n → (e : Entry) → fails_rightly c h e ≡ fails_rightly_in c n e
fails_by c h n i e = ap (λ b. elim (needs_full e.kind) [ false ↦ true | true ↦ b ]) (ap (λ s. is_full c s || was_short c h e.actor) (sym i.state) ∙ ap (λ b. is_full c n.state || b) (short_by c h e.actor (n.short e.actor) (i.short e.actor)))

meets_by : (c : Program) (h : List Entry) (n : Recalled) → IsRecalled c h n → (g : ℕ → Going) (e : Entry) (l : Part) → meets_part c h g e l ≡ meets_part_in c n g e l
meets_by c h n i g e Part.Answers = ap (λ s. plain_accepts s.plain e.kind) (sym i.state)
meets_by c h n i g e Part.Places = ap (λ s. places_accept c (mirror_owner s.plain) s.places e.actor e.kind) (sym i.state)
meets_by c h n i g e Part.Frames = fails_by c h n i e
meets_by c h n i g e Part.Sequences = ap (λ s. sequences_accept s.sequences e.actor e.kind) (sym i.state)
meets_by c h n i g e Part.Untold = uses_by c h n i e.kind
meets_by c h n i g e Part.Guarded = ap (λ s. narrows_guarded s.sequences s.places.place e.actor e.kind) (sym i.state)
meets_by c h n i g e Part.Kept = ap (λ s. kept_rightly c (record { after = s; going = g }) e) (sym i.state)

broken_by : (parts : List Part) (c : Program) (h : List Entry) (n : Recalled) → IsRecalled c h n → (g : ℕ → Going) (e : Entry) → broken_part parts c h g e ≡ broken_part_in parts c n g e
broken_by [] c h n i g e = refl
broken_by (part ∷ parts) c h n i g e = ap (λ b. elim b [ true ↦ broken_part parts c h g e | false ↦ Some part ]) (meets_by c h n i g e part) ∙ ap (λ o. elim (meets_part_in c n g e part) [ true ↦ o | false ↦ Some part ]) (broken_by parts c h n i g e)

pub broken_is : (parts : List Part) (c : Program) (h : List Entry) (g : ℕ → Going) (e : Entry) → broken_part parts c h g e ≡ broken_part_in parts c (recalled_of c h) g e
broken_is parts c h g e = broken_by parts c h (recalled_of c h) (is_recalled c h) g e
