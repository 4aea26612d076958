-- Peeks, whose counts rise, and what a check of a copy adds to them.
use Rattle.std.proofs.Common.{◌≡◌, ℕ, zero, suc, ◌+◌, ◌-◌, ◌<◌, ◌≤◌, ◌⊎◌, inl, inr, true, false, List, [], ◌∷◌, ◌++◌, length, Option, Some, None, slice_get, take, refl, sym, ap, ◌∙◌, subst, arith, length-append, if◌then◌else◌}
use Rattle.std.specs.Prelude.{◌↔◌, nat_lt, nat_le, option_map}
use Rattle.std.proofs.lemmas.Bool.{cases_lt}
use Rattle.std.proofs.lemmas.Bool.Decides.{nat_tests}
use Rattle.std.proofs.lemmas.Option.{slice_get_within, slice_get-get_or}
use Rattle.std.proofs.Math.Seq.{take-length}
use Rattle.hm_base.specs.Program.{Program}
use Rattle.hm_history.specs.Memory.After.{after}
use Rattle.hm_history.specs.declared.Entry.{Entry}
use Rattle.hm_turns.proofs.Sums.{get_last}
use Rattle.hm_turns.specs.Looking.{all_have_areas}
use Rattle.hm_turns.specs.Sights.{Sight, AreMarks, IsShown, all_shares}
use Rattle.hm_workers.specs.Peeking.{ArePeeks, CountsRise, IsOf, IsPlain, IsRight, is_newer, last_count}
use Rattle.hm_workers.specs.Watching.{Checks, ChecksTo, IsKept, LastsTo, RightPeeks, peek_of}
use Rattle.hm_workers.specs.declared.peeks.Peek.{Peek}
use Rattle.hm_workers.specs.declared.watching.WatchedBytes.{WatchedBytes}
use Rattle.hm_workers.specs.declared.watching.Checked.{Checked}
use Rattle.seq_copies.proofs.Current.{filled_has_areas, last_mark}
use Rattle.seq_copies.specs.Copies.{IsCurrent, StillHaveAreas, TakesTo}
use Rattle.seq_copies.specs.declared.answers.Snapshot.{Snapshot}
use Rattle.seq_copies.specs.declared.answers.Still.{Still}
use Rattle.seq_copies.specs.declared.answers.Taken.{Taken}

-- peeks stay right
pub peeks_stay : (a : WatchedBytes) (v w : Sight) (xs : List Peek) → ((later : List Entry) → IsShown w later → IsShown v later) → RightPeeks a v xs → RightPeeks a w xs
peeks_stay a v w xs shown are = record {
  each = λ i x at. let e = are.each i x at in (e.0, λ later s. e.1 later (shown later s));
  rise = are.rise;
}

-- a list with one item more
pub get_push : {X : Type 0} (xs : List X) (x y : X) (i : ℕ) → slice_get (xs ++ x ∷ []) i ≡ Some y → ((i < length xs) × (slice_get xs i ≡ Some y)) ⊎ ((i ≡ length xs) × (y ≡ x))
get_push [] x y zero e = inr (refl, cc)
get_push [] x y (suc i) e = cc
get_push (z ∷ xs) x y zero e = inl (omega arith, e)
get_push (z ∷ xs) x y (suc i) e = by (get_push xs x y i e)
  where
    by : ((i < length xs) × (slice_get xs i ≡ Some y)) ⊎ ((i ≡ length xs) × (y ≡ x)) → ((suc i < suc (length xs)) × (slice_get xs i ≡ Some y)) ⊎ ((suc i ≡ suc (length xs)) × (y ≡ x))
    by (inl l) = let lt = l.0 in inl (omega (arith, lt), l.1)
    by (inr r) = inr (ap suc r.0, r.1)

-- a count that is newer is above each
above_each : (xs : List Peek) (n : ℕ) → CountsRise xs → is_newer xs n ≡ true → (i : ℕ) (x : Peek) → slice_get xs i ≡ Some x → x.count < n
above_each xs n rise newer i x at = by (slice_get xs (length xs - 1)) refl newer
  where
    inside : i < length xs
    inside = slice_get_within xs i x at

    by : (o : Option Peek) → slice_get xs (length xs - 1) ≡ o → elim o [ None ↦ true | Some z ↦ nat_lt z.count n ] ≡ true → x.count < n
    by None last e = let some = slice_get-get_or xs (length xs - 1) x (omega (arith, inside)) in cc
    by (Some z) last e = or_less (cases_lt i (length xs - 1))
      where
        below : z.count < n
        below = grind (arith, nat_tests)

        or_less : (i < length xs - 1) ⊎ (length xs - 1 ≤ i) → x.count < n
        or_less (inl lt) = omega (arith, below, rise i (length xs - 1) x z lt at last)
        or_less (inr le) = let same : i ≡ length xs - 1 = omega (arith, inside, le) in let both : Some x ≡ Some z = sym at ∙ ap (slice_get xs) same ∙ last in let here : x ≡ z = cc in subst (λ (y : Peek). y.count < n) (sym here) below

-- one peek more
pub rises_more : (xs : List Peek) (z : Peek) → CountsRise xs → is_newer xs z.count ≡ true → CountsRise (xs ++ z ∷ [])
rises_more xs z rise newer i j x y lt at_i at_j = by (get_push xs z y j at_j) (get_push xs z x i at_i)
  where
    by : ((j < length xs) × (slice_get xs j ≡ Some y)) ⊎ ((j ≡ length xs) × (y ≡ z)) → ((i < length xs) × (slice_get xs i ≡ Some x)) ⊎ ((i ≡ length xs) × (x ≡ z)) → x.count < y.count
    by (inl a) (inl b) = rise i j x y lt b.1 a.1
    by (inl a) (inr b) = absurd (omega (arith, lt, a.0, b.0))
    by (inr a) (inl b) = let below = above_each xs z.count rise newer i x b.1 in let same = ap (λ (p : Peek). p.count) a.1 in omega (arith, below, same)
    by (inr a) (inr b) = absurd (omega (arith, lt, a.0, b.0))

pub peeks_more : (a : WatchedBytes) (v : Sight) (xs : List Peek) (z : Peek) → RightPeeks a v xs → is_newer xs z.count ≡ true → IsOf a.proc a.addr a.len z → IsRight v z → RightPeeks a v (xs ++ z ∷ [])
peeks_more a v xs z are newer of right = record {
  each = λ i x at. by i x (get_push xs z x i at);
  rise = rises_more xs z are.rise newer;
}
  where
    by : (i : ℕ) (x : Peek) → ((i < length xs) × (slice_get xs i ≡ Some x)) ⊎ ((i ≡ length xs) × (x ≡ z)) → IsOf a.proc a.addr a.len x × IsRight v x
    by i x (inl l) = are.each i x l.1
    by i x (inr r) = subst (λ (y : Peek). IsOf a.proc a.addr a.len y × IsRight v y) (sym r.1) (of, right)

-- a copy that was taken
pub taken_kept : (legal : Program → List Entry → Type 0) (a : WatchedBytes) (v w : Sight) (s : Snapshot) → TakesTo legal a.proc a.addr a.len v (Taken.Taken s) w → IsKept a w.list s
taken_kept legal a v w s t =
    let of = t.1 in
    let whole : take s.at w.list ≡ w.list = ap (λ k. take k w.list) of.at_is ∙ take-length w.list in
    record {
      proc_is = of.proc_is;
      addr_is = of.addr_is;
      length_is = of.length_is;
      copy = of.copy;
      areas =
          ap (λ h. all_have_areas (after h).plain s.proc s.addr (length s.bytes)) whole
          ∙ (λ j. all_have_areas (after w.list).plain (of.proc_is j) (of.addr_is j) (of.length_is j))
          ∙ filled_has_areas w.list a.proc a.addr a.len t.0.1;
    }

-- the peek of a copy that is current
pub current_right : (s : Snapshot) (w : Sight) (n : ℕ) → w.loaded ≡ n → IsCurrent s w n → StillHaveAreas s w n → IsRight w (peek_of s n)
current_right s w n loaded current areas later shown = record {
  inside = omega (arith, loaded, shown.counted);
  areas = areas later shown;
  bytes_are = current later shown;
}

-- no peek counts more than a list that is shown, so one that is not older is of the whole list
not_newer : (a : WatchedBytes) (w : Sight) (xs : List Peek) → RightPeeks a w xs → IsShown w w.list → is_newer xs (length w.list) ≡ false → last_count xs ≡ Some (length w.list)
not_newer a w xs are shown old = by (slice_get xs (length xs - 1)) refl old
  where
    by : (o : Option Peek) → slice_get xs (length xs - 1) ≡ o → elim o [ None ↦ true | Some z ↦ nat_lt z.count (length w.list) ] ≡ false → last_count xs ≡ Some (length w.list)
    by None last e = cc
    by (Some z) last e =
        let inside = ((are.each (length xs - 1) z last).1 w.list shown).inside in
        let high : length w.list ≤ z.count = grind (arith, nat_tests) in
        let same : z.count ≡ length w.list = omega (arith, inside, high) in
        ap (option_map (λ (x : Peek). x.count)) last ∙ ap Some same

last_of : (xs : List Peek) (z : Peek) → last_count (xs ++ z ∷ []) ≡ Some z.count
last_of xs z =
    let long = length-append xs (z ∷ []) in
    let at : length (xs ++ z ∷ []) - 1 ≡ length xs = omega (arith, long) in
    ap (λ i. option_map (λ (x : Peek). x.count) (slice_get (xs ++ z ∷ []) i)) at ∙ ap (option_map (λ (x : Peek). x.count)) (get_last xs z)

-- the check of a copy of all that the whole pass has seen
pub checks_last : (a : WatchedBytes) (v w : Sight) (s : Snapshot) (xs ys : List Peek) (r : Checked) → v.shares ≡ all_shares → s.at ≡ length v.list → Checks v s xs r w ys → RightPeeks a w ys → LastsTo a w ys
checks_last a v w s xs ys r whole at c are running shown found = by r c.answer
  where
    t : Still
    t = c.seen

    same_list : w.list ≡ v.list
    same_list = ap (λ (z : Sight). z.list) c.pass_is

    count_is : t.count ≡ length w.list
    count_is = c.whole whole ∙ ap (λ (l : List Entry). length l) (sym same_list)

    by : (r : Checked) → ChecksTo s t xs r ys → last_count ys ≡ Some (length w.list)
    by Checked.Stale x =
        let marks = ap (λ (z : Sight). z.marks) c.pass_is in
        let mark = last_mark w.list v.marks (record { proc = s.proc; at = t.mark; upto = t.count }) (subst (λ ms. AreMarks w.list ms) marks shown.marked) in
        let long = ap (λ (l : List Entry). length l) same_list in
        let low : t.mark ≤ s.at = omega (arith, mark.inside, long, at) in
        let yes : nat_le t.mark s.at ≡ true = grind (arith, nat_tests) in
        let e = x.0 in
        let h = c.holds in
        cc
    by Checked.Same x = not_newer a w ys are shown (ap (λ (l : List Peek). is_newer l (length w.list)) x.2 ∙ ap (is_newer xs) (sym count_is) ∙ x.1)
    by Checked.New x = ap last_count x.2 ∙ last_of xs (peek_of s t.count) ∙ ap Some count_is

-- peeks that are right in a list that is shown
pub plain_in : (a : WatchedBytes) (w : Sight) (xs : List Peek) (list : List Entry) → RightPeeks a w xs → IsShown w list → ArePeeks a.proc a.addr a.len (IsPlain list) xs
plain_in a w xs list are shown = record {
  each = λ i x at. let e = are.each i x at in (e.0, e.1 list shown);
  rise = are.rise;
}

-- where the last peek is of the whole list, its bytes have areas then
pub last_has_areas : (p at n : ℕ) (list : List Entry) (xs : List Peek) → ArePeeks p at n (IsPlain list) xs → last_count xs ≡ Some (length list) → all_have_areas (after list).plain p at n ≡ true
last_has_areas p at n list xs are e = by (slice_get xs (length xs - 1)) refl e
  where
    by : (o : Option Peek) → slice_get xs (length xs - 1) ≡ o → option_map (λ (x : Peek). x.count) o ≡ Some (length list) → all_have_areas (after list).plain p at n ≡ true
    by None last e = cc
    by (Some z) last e =
        let found = are.each (length xs - 1) z last in
        let count : z.count ≡ length list = cc in
        let whole : take z.count list ≡ list = ap (λ k. take k list) count ∙ take-length list in
        sym (λ j. all_have_areas (after (whole j)).plain (found.0.proc_is j) (found.0.addr_is j) (found.0.length_is j)) ∙ found.1.areas
