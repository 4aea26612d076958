-- What is known of tables while a mirror's entries are erased, and when one is set.
use Rattle.std.proofs.Common.{refl, ap, sym, subst, ◌∙◌, cond, arith, inl, inr}
use Rattle.std.proofs.lemmas.Bool.{true≢false, and_parts, eqb-true}
use Rattle.std.proofs.lemmas.Bool.Decides.{nat_tests}
use Rattle.std.proofs.lemmas.Option.{none-some}
use Rattle.std.specs.Prelude.{◌≡◌, ℕ, ◌+◌, Bool, true, false, not, ◌&&◌, ◌||◌, ◌==◌, ◌⊎◌, nat_lt, if◌then◌else◌, Option, Some, None}
use Rattle.std.specs.Prelude.{is_some, is_none, ⊤, List, [], ◌∷◌, ◌++◌, map, filter, fold}
use Rattle.std.specs.List.{list_any}
use Rattle.hm_base.specs.Pages.{Pages}
use Rattle.hm_history.specs.Memory.Places.{TableEntry, with_entry}
use Rattle.hm_laws.proofs.Migration.Setup.{at_itself}
use Rattle.hm_protocol.specs.declared.events.Event.{Event}
use Rattle.hm_protocol.specs.Words.{drop_if, is_sole}
use Rattle.hm_protocol.specs.Known.{Slot, Call, Known, is_slot, in_span, is_own}
use Rattle.hm_protocol.specs.Noted.{known_next, after_erase, lost_one, after_set}
use Rattle.hm_protocol.proofs.Steps.{GoBy, by, by_thread}
use Rattle.hm_protocol.proofs.Slots.{table_wrong, AllSlots, sole_slot, SoleSlots, slots_left, still_any, none_any, still_none}
use Rattle.hm_protocol.proofs.Slots.{AllClean, each_clean, erase_clean, set_clean, Tables}

-- the page is in the list
abbrev pub among : ℕ → List ℕ → Bool
among v vs = list_any (λ u. u == v) vs

is_that : (m v : ℕ) (x : Slot) → is_slot m v x ≡ true → (x.mirror ≡ m) × (x.page ≡ v)
is_that m v x h = let p : ((x.mirror == m) ≡ true) × ((x.page == v) ≡ true) = and_parts (x.mirror == m) (x.page == v) h in
    (eqb-true x.mirror m p.0, eqb-true x.page v p.1)

-- a slot for one actor of an entry that is there is none of one that is not
sole_apart : (g : ℕ → ℕ → Option TableEntry) (m v n w : ℕ) (e : TableEntry) → g n w ≡ Some e → g m v ≡ None
    → (x : Slot) → sole_slot n w x ≡ true → is_slot m v x ≡ true → ⊥
sole_apart g m v n w e h k x t s = let p : (x.mirror ≡ n) × (x.page ≡ w) = is_that n w x (and_parts (is_slot n w x) _ t).0 in
    let q : (x.mirror ≡ m) × (x.page ≡ v) = is_that m v x s in
    none-some e (sym k ∙ (ap (λ i. g i v) (sym q.0) ∙ (ap (g x.mirror) (sym q.1) ∙ (ap (λ i. g i x.page) p.0 ∙ (ap (g n) p.1 ∙ h)))))

-- while entries of mirror m are erased, of which these are gone; f is the table before, g the one after
pub record Erasing (f g : ℕ → ℕ → Option TableEntry) (m : ℕ) (gone : ℕ → Bool) (ss : List Slot) : Type 0 where
  pub slots : AllSlots f ss
  pub sole : SoleSlots g ss
  pub none_there : (v : ℕ) → gone v ≡ true → list_any (is_slot m v) ss ≡ false

pub one_erased : (f g : ℕ → ℕ → Option TableEntry) (m v : ℕ) (gone : ℕ → Bool) (ss : List Slot) → g m v ≡ None
    → Erasing f g m gone ss → Erasing f g m (λ u. (v == u) || gone u) (drop_if (is_slot m v) ss)
one_erased f g m v gone ss h x = record {
  slots = slots_left f (is_slot m v) ss x.slots;
  sole = λ n w e q i. still_any (sole_slot n w) (is_slot m v) (sole_apart g m v n w e q h) ss (x.sole n w e q i);
  none_there = λ u q. by_bool u (v == u) refl q;
}
  where
    by_bool : (u : ℕ) (b : Bool) → (v == u) ≡ b → (b || gone u) ≡ true → list_any (is_slot m u) (drop_if (is_slot m v) ss) ≡ false
    by_bool u true e q = subst (λ u. list_any (is_slot m u) (drop_if (is_slot m v) ss) ≡ false) (eqb-true v u e) (none_any (is_slot m v) ss)
    by_bool u false e q = still_none (is_slot m u) (is_slot m v) ss (x.none_there u q)

-- when all are gone that the table has no more
pub all_gone : (f g : ℕ → ℕ → Option TableEntry) (m : ℕ) (gone : ℕ → Bool) (ss : List Slot)
    → ((n v : ℕ) (e : TableEntry) → f n v ≡ Some e → (g n v ≡ f n v) ⊎ ((n ≡ m) × (gone v ≡ true)))
    → AllSlots f ss → ((v : ℕ) → gone v ≡ true → list_any (is_slot m v) ss ≡ false) → AllSlots g ss
all_gone f g m gone [] h l none = tt
all_gone f g m gone (x ∷ xs) h l none = (
  here (h x.mirror x.page l.0.0 l.0.1.0),
  all_gone f g m gone xs h l.1 (λ v q. right (is_slot m v x) (list_any (is_slot m v) xs) (none v q)),
)
  where
    right : (b d : Bool) → (b || d) ≡ false → d ≡ false
    right false d q = q
    right true d q = absurd (true≢false q)

    left : (b d : Bool) → (b || d) ≡ false → b ≡ false
    left false d q = refl
    left true d q = absurd (true≢false q)

    it_is : x.mirror ≡ m → is_slot m x.page x ≡ true
    it_is q = ap (λ n. (n == m) && (x.page == x.page)) q ∙ (ap (λ b. b && (x.page == x.page)) (at_itself m) ∙ at_itself x.page)

    here : (g x.mirror x.page ≡ f x.mirror x.page) ⊎ ((x.mirror ≡ m) × (gone x.page ≡ true))
        → (e : TableEntry) × ((g x.mirror x.page ≡ Some e) × (e.right ≡ x.right))
    here (inl q) = (l.0.0, (q ∙ l.0.1.0, l.0.1.1))
    here (inr q) = absurd (true≢false (sym (it_is q.0) ∙ left (is_slot m x.page x) _ (none x.page q.1)))

-- ---- erasing with callbacks that are clean

-- erasing, and what is known of callbacks
abbrev pub ErasingKnown : (ℕ → ℕ → Option TableEntry) → (ℕ → ℕ → Option TableEntry) → ℕ → (ℕ → Bool) → Known → Type 0
ErasingKnown f g m gone k = Erasing f g m gone k.slots × AllClean k.calls

-- it goes by page after page, for anything that each page keeps
pub erase_all : (m a : ℕ) (test : ℕ → Bool) (Q : (ℕ → Bool) → Known → Type 0)
    → ((gone : ℕ → Bool) (k : Known) (v : ℕ) → test v ≡ true → Q gone k → Q (λ u. (v == u) || gone u) (known_next k (by a (Event.Erase m v))))
    → ((i j : ℕ → Bool) (k : Known) → ((u : ℕ) → j u ≡ true → i u ≡ true) → Q i k → Q j k) → (ws : List ℕ) (gone : ℕ → Bool) (k : Known)
    → Q gone k → GoBy table_wrong k (by_thread a (map (λ v. Event.Erase m v) (filter test ws))) (Q (λ u. gone u || among u (filter test ws)))
erase_all m a test Q step fewer [] gone k x = (tt, fewer gone (λ u. gone u || false) k (λ v q. or_false (gone v) q) x)
  where
    or_false : (b : Bool) → (b || false) ≡ true → b ≡ true
    or_false true q = refl
    or_false false q = q
erase_all m a test Q step fewer (w ∷ ws) gone k x = by_bool (test w) refl (λ i l y. erase_all m a test Q step fewer ws i l y)
  where
    shift : (v : ℕ) → (gone v || ((w == v) || among v (filter test ws))) ≡ true → (((w == v) || gone v) || among v (filter test ws)) ≡ true
    shift v q = turned (gone v) (w == v) (among v (filter test ws)) q
      where
        turned : (c d e : Bool) → (c || (d || e)) ≡ true → ((d || c) || e) ≡ true
        turned c d e q = grind arith

    by_bool : (b : Bool) → test w ≡ b
        → ((i : ℕ → Bool) (l : Known) → Q i l
        → GoBy table_wrong l (by_thread a (map (λ v. Event.Erase m v) (filter test ws))) (Q (λ u. i u || among u (filter test ws))))
        → GoBy table_wrong k (by_thread a (map (λ v. Event.Erase m v) (cond b (w ∷ filter test ws) (filter test ws))))
        (Q (λ u. gone u || among u (cond b (w ∷ filter test ws) (filter test ws))))
    by_bool false e go = go gone k x
    by_bool true e go =
        let l : Known = known_next k (by a (Event.Erase m w)) in
        let more : GoBy table_wrong l (by_thread a (map (λ v. Event.Erase m v) (filter test ws))) (Q (λ u. ((w == u) || gone u) || among u (filter test ws))) =
        go (λ u. (w == u) || gone u) l (step gone k w e x) in (
          (refl, more.0),
          fewer (λ u. ((w == u) || gone u) || among u (filter test ws))
              (λ u. gone u || ((w == u) || among u (filter test ws))) (fold known_next l (by_thread a (map (λ v. Event.Erase m v) (filter test ws)))) shift more.1,
        )

pub erasing_step : (f g : ℕ → ℕ → Option TableEntry) (m a : ℕ) (gone : ℕ → Bool) (k : Known) (v : ℕ) → g m v ≡ None → ErasingKnown f g m gone k
    → ErasingKnown f g m (λ u. (v == u) || gone u) (known_next k (by a (Event.Erase m v)))
erasing_step f g m a gone k v h x = (one_erased f g m v gone k.slots h x.0, each_clean (after_erase k a m v) (erase_clean k a m v) k.calls x.1)

pub erasing_fewer : (f g : ℕ → ℕ → Option TableEntry) (m : ℕ) (i j : ℕ → Bool) (k : Known) → ((u : ℕ) → j u ≡ true → i u ≡ true)
    → ErasingKnown f g m i k → ErasingKnown f g m j k
erasing_fewer f g m i j k h x =
    (record { slots = x.0.slots; sole = x.0.sole; none_there = λ v q. x.0.none_there v (h v q) }, x.1)

-- ---- erasing in a callback

-- each slot lies in the mirror's span
abbrev pub AllIn : ℕ → Pages → List Slot → Type 0
AllIn m r [] = ⊤
AllIn m r (x ∷ xs) = (in_span m r x ≡ true) × AllIn m r xs

-- the last callback is under way
pub record Telling (f g : ℕ → ℕ → Option TableEntry) (m : ℕ) (r : Pages) (gone : ℕ → Bool) (ss : List Slot) (cs : List Call) : Type 0 where
  pub erasing : Erasing f g m gone ss
  pub before : List Call
  pub last : Call
  pub is : cs ≡ before ++ last ∷ []
  pub clean : AllClean before
  pub after : last.after ≡ None
  pub left : last.left ≡ []
  pub copied : last.copied ≡ 0
  pub here : AllSlots f last.here
  pub span : AllIn m r last.here
  pub none_there : (v : ℕ) → gone v ≡ true → list_any (is_slot m v) last.here ≡ false

in_left : (m : ℕ) (r : Pages) (test : Slot → Bool) (xs : List Slot) → AllIn m r xs → AllIn m r (drop_if test xs)
in_left m r test [] h = tt
in_left m r test (x ∷ xs) h = by_bool (test x) (in_left m r test xs h.1)
  where
    by_bool : (b : Bool) → AllIn m r (drop_if test xs) → AllIn m r (cond (not b) (x ∷ drop_if test xs) (drop_if test xs))
    by_bool true g = g
    by_bool false g = (h.0, g)

map_last : (f : Call → Call) (xs : List Call) (x : Call) → map f (xs ++ x ∷ []) ≡ map f xs ++ f x ∷ []
map_last f [] x = refl
map_last f (y ∷ xs) x = ap (λ ys. f y ∷ ys) (map_last f xs x)

pub telling_step : (f g : ℕ → ℕ → Option TableEntry) (m a : ℕ) (r : Pages) (gone : ℕ → Bool) (k : Known) (v : ℕ) → g m v ≡ None
    → Telling f g m r gone k.slots k.calls
    → Telling f g m r (λ u. (v == u) || gone u) (drop_if (is_slot m v) k.slots) (map (after_erase k a m v) k.calls)
telling_step f g m a r gone k v h x = by_bool (list_any (is_slot m v) x.last.here) refl
  where
    old : Call
    old = x.last

    calls_are : (y : Call) → after_erase k a m v x.last ≡ y → map (after_erase k a m v) k.calls ≡ map (after_erase k a m v) x.before ++ y ∷ []
    calls_are y e = ap (map (after_erase k a m v)) x.is ∙ (map_last (after_erase k a m v) x.before x.last ∙ ap (λ y. map (after_erase k a m v) x.before ++ y ∷ []) e)

    made : (y : Call) → after_erase k a m v x.last ≡ y → y.after ≡ None → y.left ≡ [] → y.copied ≡ 0 → AllSlots f y.here → AllIn m r y.here
        → ((u : ℕ) → ((v == u) || gone u) ≡ true → list_any (is_slot m u) y.here ≡ false)
        → Telling f g m r (λ u. (v == u) || gone u) (drop_if (is_slot m v) k.slots) (map (after_erase k a m v) k.calls)
    made y e p l c s i n = record {
      erasing = one_erased f g m v gone k.slots h x.erasing;
      before = map (after_erase k a m v) x.before;
      last = y;
      is = calls_are y e;
      clean = each_clean (after_erase k a m v) (erase_clean k a m v) x.before x.clean;
      after = p;
      left = l;
      copied = c;
      here = s;
      span = i;
      none_there = n;
    }

    dropped : Call
    dropped = record x.last { here = drop_if (is_slot m v) x.last.here }

    or_cases : (u : ℕ) (b : Bool) (ss : List Slot) → (v == u) ≡ b → (b || gone u) ≡ true → list_any (is_slot m v) ss ≡ false
        → (gone u ≡ true → list_any (is_slot m u) ss ≡ false) → list_any (is_slot m u) ss ≡ false
    or_cases u true ss e q n o = subst (λ u. list_any (is_slot m u) ss ≡ false) (eqb-true v u e) n
    or_cases u false ss e q n o = o q

    by_bool : (b : Bool) → list_any (is_slot m v) x.last.here ≡ b
        → Telling f g m r (λ u. (v == u) || gone u) (drop_if (is_slot m v) k.slots) (map (after_erase k a m v) k.calls)
    by_bool false q = made x.last (ap (λ b. if b then lost_one k a (record x.last { here = drop_if (is_slot m v) x.last.here }) else x.last) q)
        x.after x.left x.copied x.here x.span (λ u i. or_cases u (v == u) x.last.here refl i q (x.none_there u))
    by_bool true q = made (record x.last { here = drop_if (is_slot m v) x.last.here; erased = x.last.erased || (x.last.thread == a) })
        (ap (λ b. if b then lost_one k a (record x.last { here = drop_if (is_slot m v) x.last.here }) else x.last) q
        ∙ lost_now (record x.last { here = drop_if (is_slot m v) x.last.here }) x.after)
        x.after x.left x.copied (slots_left f (is_slot m v) x.last.here x.here) (in_left m r (is_slot m v) x.last.here x.span)
        (λ u i. or_cases u (v == u) (drop_if (is_slot m v) x.last.here) refl i (none_any (is_slot m v) x.last.here)
        (λ o. still_none (is_slot m u) (is_slot m v) x.last.here (x.none_there u o)))
      where
        lost_now : (y : Call) → y.after ≡ None → lost_one k a y ≡ record y { erased = y.erased || (y.thread == a) }
        lost_now y e = ap (λ b. if b then record y { erased = y.erased || (y.thread == a) } else rest y) (ap is_none e)
          where
            rest : Call → Call
            rest y = if list_any (λ z. (z.thread == a) && is_none z.after) k.calls then y
                else if not (is_own k y) then record y { late = y.late + 1 }
                else if is_some y.stale || not (y.thread == a) then y
                else if list_any (λ z. nat_lt y.at z.at) (k.moves a) then record y { copied = y.copied + 1 }
                else record y { late = y.late + 1 }

pub telling_fewer : (f g : ℕ → ℕ → Option TableEntry) (m : ℕ) (r : Pages) (i j : ℕ → Bool) (ss : List Slot) (cs : List Call)
    → ((u : ℕ) → j u ≡ true → i u ≡ true) → Telling f g m r i ss cs → Telling f g m r j ss cs
telling_fewer f g m r i j ss cs h x = record {
  erasing = record { slots = x.erasing.slots; sole = x.erasing.sole; none_there = λ v q. x.erasing.none_there v (h v q) };
  before = x.before;
  last = x.last;
  is = x.is;
  clean = x.clean;
  after = x.after;
  left = x.left;
  copied = x.copied;
  here = x.here;
  span = x.span;
  none_there = λ v q. x.none_there v (h v q);
}

-- ---- an entry is set

slots_set : (f : ℕ → ℕ → Option TableEntry) (m v : ℕ) (e : TableEntry) (xs : List Slot) → AllSlots f xs
    → AllSlots (with_entry f m v e) (drop_if (is_slot m v) xs)
slots_set f m v e [] l = tt
slots_set f m v e (x ∷ xs) l = by_bool (is_slot m v x) refl (slots_set f m v e xs l.1)
  where
    by_bool : (b : Bool) → is_slot m v x ≡ b → AllSlots (with_entry f m v e) (drop_if (is_slot m v) xs)
        → AllSlots (with_entry f m v e) (cond (not b) (x ∷ drop_if (is_slot m v) xs) (drop_if (is_slot m v) xs))
    by_bool true q g = g
    by_bool false q g = ((l.0.0, (ap (λ b. if b then Some e else f x.mirror x.page) q ∙ l.0.1.0, l.0.1.1)), g)

-- what is known of tables when an entry is set
pub set_tables : (f : ℕ → ℕ → Option TableEntry) (m v i : ℕ) (e : TableEntry) (ss : List Slot) (xs : List Call) → Tables f ss xs
    → Tables (with_entry f m v e) (record { mirror = m; page = v; right = e.right; at = i } ∷ drop_if (is_slot m v) ss) (map (after_set m v) xs)
set_tables f m v i e ss xs kn = record {
  slots = ((e, (ap (λ b. if b then Some e else f m v) (ap (λ b. b && (v == v)) (at_itself m) ∙ at_itself v), refl)), slots_set f m v e ss kn.slots);
  sole = λ n w d q h. by_bool n w d ((n == m) && (w == v)) refl q h;
  clean = each_clean (after_set m v) (set_clean m v) xs kn.clean;
}
  where
    new : Slot
    new = record { mirror = m; page = v; right = e.right; at = i }

    same_entry : (d : TableEntry) → Some e ≡ Some d → e ≡ d
    same_entry d q = cc

    by_bool : (n w : ℕ) (d : TableEntry) (b : Bool) → ((n == m) && (w == v)) ≡ b → (if b then Some e else f n w) ≡ Some d → is_sole d.right ≡ true
        → (sole_slot n w (record { mirror = m; page = v; right = e.right; at = i }) || list_any (sole_slot n w) (drop_if (is_slot m v) ss)) ≡ true
    by_bool n w d true r q h = ap (λ b. b || list_any (sole_slot n w) (drop_if (is_slot m v) ss))
        (turned n w r (ap (λ (y : TableEntry). is_sole y.right) (same_entry d q) ∙ h))
      where
        turned : (n w : ℕ) → ((n == m) && (w == v)) ≡ true → is_sole e.right ≡ true → (((m == n) && (v == w)) && is_sole e.right) ≡ true
        turned n w r h = grind (arith, nat_tests)
    by_bool n w d false r q h = either (sole_slot n w (record { mirror = m; page = v; right = e.right; at = i }))
        (still_any (sole_slot n w) (is_slot m v) (λ x t s. other n w r (is_that n w x (and_parts (is_slot n w x) _ t).0) (is_that m v x s)) ss (kn.sole n w d q h))
      where
        either : (b : Bool) {d : Bool} → d ≡ true → (b || d) ≡ true
        either true h = refl
        either false h = h

        other : (n w : ℕ) {x y : ℕ} → ((n == m) && (w == v)) ≡ false → (x ≡ n) × (y ≡ w) → (x ≡ m) × (y ≡ v) → ⊥
        other n w r p q = grind (arith, nat_tests, p.0, p.1, q.0, q.1)
