-- How often some events put a rule to the test, at most.
use Rattle.std.proofs.Common.{refl, ap, subst, sym, arith, ◌<◌, ◌≤◌, ◌*◌, suc, length, le_trans}
use Rattle.std.proofs.Math.Nat.{suc-mul}
use Rattle.std.proofs.lemmas.Nat.{mul-le}
use Rattle.std.proofs.lemmas.List.Sums.{count_by-le-length}
use Rattle.std.specs.Prelude.{◌≡◌, ℕ, ◌+◌, ◌-◌, ◌^◌, ◌==◌, Bool, true, false, if◌then◌else◌, Option, Some, None}
use Rattle.std.specs.Prelude.{List, [], ◌∷◌, fold, map, find, count_by, not}
use Rattle.std.specs.List.{list_any}
use Rattle.hm_history.specs.Memory.Words.{with_at}
use Rattle.hm_protocol.specs.declared.events.Event.{Event}
use Rattle.hm_protocol.specs.declared.events.TraceFrame.{TraceFrame}
use Rattle.hm_protocol.specs.declared.events.Traced.{Traced}
use Rattle.hm_protocol.specs.declared.rules.Rule.{Rule}
use Rattle.hm_protocol.specs.Words.{device_of, is_sole, drop_if}
use Rattle.hm_protocol.specs.Known.{Known, Move, is_slot, is_current, is_look_up, known_start}
use Rattle.hm_protocol.specs.Tests.{is_kept_back}
use Rattle.hm_protocol.specs.Noted.{noted, known_next, known, over, began, after_set, held_more, pass_over, with_move}
use Rattle.hm_protocol.specs.Noted.{moving, outer, freed, commit}
use Rattle.hm_protocol.specs.Verdicts.{asks, asked, one_if, of_inner, is_unset}
use Rattle.hm_verdicts.proofs.Fewer.{fewer}

-- ---- migrations

-- at most n pages of each of these migrations have stayed
abbrev pub Few : ℕ → List Move → Type 0
Few n [] = Unit {0}
Few n (y ∷ ys) = (length y.stayed ≤ n) × Few n ys

few_more : (n : ℕ) (ys : List Move) → Few n ys → Few (suc n) ys
few_more n [] h = tt
few_more n (y ∷ ys) h = (omega (arith, h.0), few_more n ys h.1)

-- a thread has others
few_at : (n : ℕ) (f : ℕ → List Move) (t : ℕ) (ys : List Move) → ((u : ℕ) → Few n (f u)) → Few (suc n) ys
    → (u : ℕ) → Few (suc n) (with_at f t ys u)
few_at n f t ys h g u = by_bool (u == t)
  where
    by_bool : (b : Bool) → Few (suc n) (if b then ys else f u)
    by_bool true = g
    by_bool false = few_more n (f u) (h u)

few_with : (n : ℕ) (f : Move → Move) → ((y : Move) → length (f y).stayed ≤ suc (length y.stayed)) → (ys : List Move)
    → Few n ys → Few (suc n) (with_move f ys)
few_with n f e [] h = tt
few_with n f e (y ∷ ys) h = (omega (arith, e y, h.0), few_more n ys h.1)

few_outer : (n : ℕ) (ys : List Move) → Few n ys → Few (suc n) (outer ys)
few_outer n [] h = tt
few_outer n (y ∷ ys) h = few_more n ys h.1

few_freed : (n : ℕ) (f : TraceFrame) (ys : List Move) → Few n ys → Few (suc n) (map (freed f) ys)
few_freed n f [] h = tt
few_freed n f (y ∷ ys) h = (omega (arith, h.0), few_freed n f ys h.1)

-- ---- what is known

-- so it is of all of them, and at most n entries are kept
pub record Within (n : ℕ) (k : Known) : Type 0 where
  pub slots : length k.slots ≤ n
  pub stayed : (t : ℕ) → Few n (k.moves t)

-- nothing else is kept
same : (n : ℕ) (k u : Known) → u.slots ≡ k.slots → u.moves ≡ k.moves → Within n k → Within (suc n) u
same n k u e f h = record {
  slots = omega (arith, ap length e, h.slots);
  stayed = λ t. subst (Few (suc n)) (sym (ap (λ g. g t) f)) (few_more n (k.moves t) (h.stayed t));
}

-- some entries go, or one comes
other_slots : (n : ℕ) (k u : Known) → length u.slots ≤ suc (length k.slots) → u.moves ≡ k.moves → Within n k
    → Within (suc n) u
other_slots n k u l f h = record {
  slots = omega (arith, l, h.slots);
  stayed = λ t. subst (Few (suc n)) (sym (ap (λ g. g t) f)) (few_more n (k.moves t) (h.stayed t));
}

-- a thread has other migrations
other_moves : (n : ℕ) (k u : Known) (t : ℕ) (ys : List Move) → u.slots ≡ k.slots → u.moves ≡ with_at k.moves t ys
    → Few (suc n) ys → Within n k → Within (suc n) u
other_moves n k u t ys e f g h = record {
  slots = omega (arith, ap length e, h.slots);
  stayed = λ v. subst (Few (suc n)) (sym (ap (λ m. m v) f)) (few_at n k.moves t ys h.stayed g v);
}

-- its inner one changes
moved : (n : ℕ) (k : Known) (t : ℕ) (f : Move → Move) → ((y : Move) → length (f y).stayed ≤ suc (length y.stayed))
    → Within n k → Within (suc n) (moving k t f)
moved n k t f e h =
    other_moves n k (moving k t f) t (with_move f (k.moves t)) refl refl (few_with n f e (k.moves t) (h.stayed t)) h

over_same : (n : ℕ) (k u : Known) (t : ℕ) (o : Option ℕ) → u.slots ≡ k.slots → u.moves ≡ k.moves → Within n k
    → Within (suc n) (over u t o)
over_same n k u t None e f h = same n k u e f h
over_same n k u t (Some i) e f h = same n k (over u t (Some i)) e f h

held_same : (n : ℕ) (k : Known) (f : TraceFrame) (o : Option ℕ) → Within n k → Within (suc n) (held_more k f o)
held_same n k f None h = same n k k refl refl h
held_same n k f (Some d) h = by_bool (k.withdrawn d)
  where
    by_bool : (b : Bool) → Within (suc n) (if b then k else record k { held = f ∷ k.held })
    by_bool true = same n k k refl refl h
    by_bool false = same n k (record k { held = f ∷ k.held }) refl refl h

passed_same : (n : ℕ) (k : Known) (o : Option ℕ) → Within n k → Within (suc n) (pass_over k o)
passed_same n k None h = same n k k refl refl h
passed_same n k (Some d) h = by_bool (k.withdrawn d)
  where
    by_bool : (b : Bool) → Within (suc n) (if b then record k { passed = with_at k.passed d true } else k)
    by_bool true = same n k (record k { passed = with_at k.passed d true }) refl refl h
    by_bool false = same n k k refl refl h

-- who sets an entry of a page
abbrev pub set_if : Known → ℕ → ℕ → ℕ → Bool → Bool → Known
set_if u t m v is_look_up sole =
    if is_look_up then commit u t m else if sole then u else moving u t (λ y. record y { set = v ∷ y.set })

set_within : (n : ℕ) (k u : Known) (t m v : ℕ) (a b : Bool) → length u.slots ≤ suc (length k.slots)
    → u.moves ≡ k.moves → Within n k → Within (suc n) (set_if u t m v a b)
set_within n k u t m v true b l f h = other_slots n k (commit u t m) l f h
set_within n k u t m v false true l f h = other_slots n k u l f h
set_within n k u t m v false false l f h = record {
  slots = omega (arith, l, h.slots);
  stayed = λ w. subst (λ g. Few (suc n) (with_at g t (with_move (λ y. record y { set = v ∷ y.set }) (g t)) w)) (sym f)
      (few_at n k.moves t _ h.stayed
      (few_with n (λ y. record y { set = v ∷ y.set }) (λ y. omega arith) (k.moves t) (h.stayed t)) w);
}

-- after an event
noted_within : (n : ℕ) (k : Known) (t : ℕ) (x : Event) → Within n k → Within (suc n) (noted k t x)
noted_within n k t (Event.Insert m p r d) h = other_slots n k (noted k t (Event.Insert m p r d))
    (omega (arith, fewer (λ x. x.mirror == m) k.slots)) refl h
noted_within n k t (Event.End p r) h = over_same n k k t _ refl refl h
noted_within n k t (Event.Told m q true) h = same n k (noted k t (Event.Told m q true)) refl refl h
noted_within n k t (Event.Told m q false) h = over_same n k (record k { calls = drop_if (is_current t m) k.calls }) t
    (began (find (is_current t m) k.calls)) refl refl h
noted_within n k t (Event.Setup p r to_device d) h = other_moves n k (noted k t (Event.Setup p r to_device d)) t _ refl refl
    (omega arith, few_more n (k.moves t) (h.stayed t)) h
noted_within n k t (Event.From v f w) h = moved n k t _ (λ y. omega arith) h
noted_within n k t (Event.Moved v f) h = moved n k t _ (λ y. omega arith) h
noted_within n k t (Event.Stayed v f) h = moved n k t _ (λ y. omega arith) h
noted_within n k t (Event.Paged p) h = other_moves n k (noted k t (Event.Paged p)) t _ refl refl
    (few_with n (λ y. record y { paged = true }) (λ y. omega arith) (k.moves t) (h.stayed t)) h
noted_within n k t (Event.Finalize p) h = other_moves n k (noted k t (Event.Finalize p)) t _ refl refl
    (few_outer n (k.moves t) (h.stayed t)) h
noted_within n k t (Event.Set m v f w) h = set_within n k (record k {
  slots = record { mirror = m; page = v; right = w; at = k.at } ∷ drop_if (is_slot m v) k.slots;
  calls = map (after_set m v) k.calls;
}) t m v (is_look_up k t v w) (is_sole w)
    (omega (arith, fewer (is_slot m v) k.slots)) refl h
noted_within n k t (Event.Erase m v) h = other_slots n k (noted k t (Event.Erase m v))
    (omega (arith, fewer (is_slot m v) k.slots)) refl h
noted_within n k t (Event.Take f) h = held_same n k f (device_of f) h
noted_within n k t (Event.Free f) h = other_moves n k (noted k t (Event.Free f)) t _ refl refl
    (few_freed n f (k.moves t) (h.stayed t)) h
noted_within n k t (Event.Pass f) h = passed_same n k (device_of f) h
noted_within n k t x h = same n k (noted k t x) refl refl h

next_within : (n : ℕ) (k : Known) (s : Traced) → Within n k → Within (suc n) (known_next k s)
next_within n k s h = let g = noted_within n k s.thread s.event h in record { slots = g.slots; stayed = g.stayed }

known_within : (n : ℕ) (k : Known) (es : List Traced) → Within n k → Within (n + length es) (fold known_next k es)
known_within n k [] h = subst (λ m. Within m k) (omega arith) h
known_within n k (s ∷ ss) h = let more : suc n + length ss ≡ n + suc (length ss) = omega arith in
    subst (λ m. Within m (fold known_next (known_next k s) ss)) more
    (known_within (suc n) (known_next k s) ss (next_within n k s h))

start_within : Within 0 known_start
start_within = record { slots = omega arith; stayed = λ t. tt }

-- ---- questions

one_few : (n : ℕ) (b : Bool) → one_if b ≤ suc n
one_few n true = omega arith
one_few n false = omega arith

inner_few : (n : ℕ) (count : Move → ℕ) → ((y : Move) → count y ≤ suc (length y.stayed)) → (ys : List Move) → Few n ys
    → of_inner count ys ≤ suc n
inner_few n count e [] h = omega arith
inner_few n count e (y ∷ ys) h = by_bool y.to_device
  where
    by_bool : (b : Bool) → (if b then count y else 0) ≤ suc n
    by_bool true = omega (arith, e y, h.0)
    by_bool false = omega arith

slots_few : (n : ℕ) (b : Bool) (m : ℕ) → m ≤ n → (if b then m else 0) ≤ suc n
slots_few n true m l = omega (arith, l)
slots_few n false m l = omega arith

none_few : (n : ℕ) → 0 ≤ suc n
none_few n = omega arith

asks_few : (r : Rule) (n : ℕ) (k : Known) (t : ℕ) (x : Event) → Within n k → asks r k t x ≤ suc n
asks_few Rule.EntryRight n k t (Event.Set m v f w) h = one_few n _
asks_few Rule.MmapLock n k t (Event.Walk m r q locked d) h = one_few n true
asks_few Rule.OwnDevice n k t (Event.Set m v f w) h = one_few n _
asks_few Rule.BeginWaits n k t (Event.Begin m q) h = one_few n _
asks_few Rule.BeginFirst n k t (Event.Set m v f w) h = one_few n _
asks_few Rule.StopAtDetach n k t (Event.Removed m) h = one_few n true
asks_few Rule.WriteEntry n k t (Event.Use m r writes) h =
    slots_few n writes _ (le_trans (count_by-le-length _ k.slots) h.slots)
asks_few Rule.DetachWaits n k t (Event.Removed m) h = one_few n _
asks_few Rule.SetMoved n k t (Event.Finalize p) h = inner_few n (λ y. count_by (λ x. is_unset y x.0) y.stayed)
    (λ y. omega (arith, count_by-le-length (λ x. is_unset y x.0) y.stayed)) (k.moves t) (h.stayed t)
asks_few Rule.SetRight n k t (Event.Set m v f w) h = one_few n _
asks_few Rule.SetUnlessInvalidated n k t (Event.Finalize p) h =
    inner_few n (λ y. one_if (list_any (is_unset y) y.moved))
    (λ y. one_few (length y.stayed) (list_any (is_unset y) y.moved)) (k.moves t) (h.stayed t)
asks_few Rule.DropLost n k t (Event.Finalize p) h =
    inner_few n (λ y. count_by (λ x. not (is_kept_back y.freed x.1)) y.stayed)
    (λ y. omega (arith, count_by-le-length (λ x. not (is_kept_back y.freed x.1)) y.stayed)) (k.moves t) (h.stayed t)
asks_few Rule.TakeFromThere n k t (Event.Withdraw d) h = one_few n _
asks_few Rule.EvictFirst n k t (Event.Gone d) h = one_few n _
asks_few Rule.WithdrawFirst n k t (Event.Gone d) h = one_few n true
asks_few Rule.WaitForLocked n k t (Event.Gone d) h = one_few n _
asks_few Rule.ExclusiveWaits n k t (Event.Set m v f w) h = one_few n _
asks_few Rule.LookAgain n k t (Event.Add m v) h = one_few n true
asks_few r n k t x h = none_few n

asked_few : (r : Rule) (n : ℕ) (k : Known) (es : List Traced) → Within n k
    → asked r k es ≤ length es * (n + length es)
asked_few r n k [] h = omega arith
asked_few r n k (s ∷ ss) h =
    let l = length ss in
    let whole : suc l * (n + suc l) ≡ l * (n + suc l) + (n + suc l) = suc-mul l (n + suc l) in
    let same : l * (suc n + l) ≡ l * (n + suc l) = ap (λ m. l * m) (omega arith) in
    let first : asks r k s.thread s.event ≤ suc n = asks_few r n k s.thread s.event h in
    let rest : asked r (known_next k s) ss ≤ l * (suc n + l) =
    asked_few r (suc n) (known_next k s) ss (next_within n k s h) in
    omega (arith, whole, same, first, rest)

-- a number of 64 bits counts on
pub asked_fits : (r : Rule) (es : List Traced) (s : Traced) → length es < 2 ^ 32
    → asked r known_start es + asks r (known es) s.thread s.event ≤ 2 ^ 64 - 1
asked_fits r es s l =
    let n = length es in
    let short : n ≤ 2 ^ 32 - 1 = omega (arith, l) in
    let square : n * n ≤ (2 ^ 32 - 1) * (2 ^ 32 - 1) = mul-le n n (2 ^ 32 - 1) (2 ^ 32 - 1) short short in
    let zero : n * (0 + n) ≡ n * n = ap (λ m. n * m) (omega arith) in
    let before : asked r known_start es ≤ n * (0 + n) = asked_few r 0 known_start es start_within in
    let now : asks r (known es) s.thread s.event ≤ suc n =
    asks_few r n (known es) s.thread s.event (subst (λ m. Within m (known es)) (omega arith)
    (known_within 0 known_start es start_within)) in
    omega (arith, l, square, zero, before, now)
