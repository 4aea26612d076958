-- What a search keeps of holds is what they ask of the entries.
use Rattle.std.proofs.Common.{◌≡◌, ℕ, ◌+◌, ◌-◌, ◌==◌, Bool, true, false, ◌&&◌, ◌||◌, nat_lt, if◌then◌else◌, Option, Some, None, List, [], ◌∷◌, ◌++◌, map, fold, refl, sym, ap, ◌∙◌, append_assoc, append-nil, arith}
use Rattle.std.specs.Prelude.{is_none}
use Rattle.std.specs.List.{list_any}
use Rattle.std.proofs.lemmas.List.Sums.{fold-append}
use Rattle.hm_history.specs.declared.Entry.{Entry}
use Rattle.hm_holds.specs.declared.holds.Hold.{Hold}
use Rattle.hm_holds.specs.declared.holds.HoldState.{HoldState}
use Rattle.hm_holds.specs.declared.holds.Nth.{Nth}
use Rattle.hm_holds.specs.declared.words.Word.{Word}
use Rattle.hm_holds.specs.Words.{same_word, word_of}
use Rattle.hm_holds.specs.Holds.{count_next, count_of, hold_next, hold_start, is_at_own, is_held, is_last, is_of, last_next, last_of, left_next, left_own, stands_at, stops, stops_now}
use Rattle.hm_holds.specs.Held.{hold_of}

-- how many of its own entries an actor has still to make
abbrev left_in : ℕ → Option Nth → List Entry → ℕ
left_in a None es = 0
left_in a (Some x) es = x.number - count_of a x.word es

-- what a search keeps of a hold, by what that asks of these entries
abbrev pub hold_now : Hold → List Entry → HoldState
hold_now d es = record {
  hold = d;
  is_at = stands_at d.actor d.after es;
  own_left = left_in d.actor d.after es;
  left = d.until.number - count_of d.other d.until.word es;
}

abbrev with_parts : Hold → Bool → ℕ → ℕ → HoldState
with_parts d b n m = record { hold = d; is_at = b; own_left = n; left = m }

-- ---- one entry more

count_more : (a : ℕ) (w : Word) (es : List Entry) (e : Entry) → count_of a w (es ++ e ∷ []) ≡ count_next (is_of a w e) (count_of a w es)
count_more a w es e = fold-append (λ n d. count_next (is_of a w d) n) 0 es (e ∷ [])

last_more : (a : ℕ) (es : List Entry) (e : Entry) → last_of a (es ++ e ∷ []) ≡ last_next a (last_of a es) e
last_more a es e = fold-append (last_next a) None es (e ∷ [])

left_less : (b : Bool) (n k : ℕ) → left_next b (n - k) ≡ n - count_next b k
left_less true n k = omega arith
left_less false n k = refl

left_step : (a : ℕ) (w : Word) (n : ℕ) (es : List Entry) (e : Entry) → left_next (is_of a w e) (n - count_of a w es) ≡ n - count_of a w (es ++ e ∷ [])
left_step a w n es e = left_less (is_of a w e) n (count_of a w es) ∙ ap (λ k. n - k) (sym (count_more a w es e))

either_same : (b : Bool) (n : ℕ) → (if b then n else n) ≡ n
either_same true n = refl
either_same false n = refl

own_step : (a : ℕ) (o : Option Nth) (es : List Entry) (e : Entry) → (if e.actor == a then left_own o (left_in a o es) (word_of e.kind) else left_in a o es) ≡ left_in a o (es ++ e ∷ [])
own_step a None es e = either_same (e.actor == a) 0
own_step a (Some x) es e = by (e.actor == a) (same_word x.word (word_of e.kind)) (count_of a x.word es) ∙ ap (λ k. x.number - k) (sym (count_more a x.word es e))
  where
    by : (b v : Bool) (k : ℕ) → (if b then left_next v (x.number - k) else (x.number - k)) ≡ x.number - count_next (b && v) k
    by true v k = left_less v x.number k
    by false v k = refl

one_left : (n k : ℕ) → ((n - k) == 1) ≡ ((k + 1) == n)
one_left n k = grind arith

at_step : (a : ℕ) (o : Option Nth) (es : List Entry) (e : Entry) → (if e.actor == a then is_at_own o (left_in a o es) (word_of e.kind) else stands_at a o es) ≡ stands_at a o (es ++ e ∷ [])
at_step a None es e = by (e.actor == a) (last_of a es) ∙ ap is_none (sym (last_more a es e))
  where
    by : (b : Bool) (o : Option Word) → (if b then false else is_none o) ≡ is_none (if b then Some (word_of e.kind) else o)
    by true o = refl
    by false o = refl
at_step a (Some x) es e =
    by (e.actor == a) (same_word x.word (word_of e.kind)) refl (last_of a es) (count_of a x.word es)
    ∙ (ap (λ o. is_last x.word o && (count_next (is_of a x.word e) (count_of a x.word es) == x.number)) (sym (last_more a es e))
    ∙ ap (λ k. is_last x.word (last_of a (es ++ e ∷ [])) && (k == x.number)) (sym (count_more a x.word es e)))
  where
    counted : (v : Bool) (k : ℕ) → (v && ((x.number - k) == 1)) ≡ (v && (count_next v k == x.number))
    counted true k = one_left x.number k
    counted false k = refl

    by : (b v : Bool) → same_word x.word (word_of e.kind) ≡ v → (o : Option Word) (k : ℕ) → (if b then (v && ((x.number - k) == 1)) else (is_last x.word o && (k == x.number))) ≡ (is_last x.word (if b then Some (word_of e.kind) else o) && (count_next (b && v) k == x.number))
    by true v s o k = counted v k ∙ ap (λ z. z && (count_next v k == x.number)) (sym s)
    by false v s o k = refl

now_step : (d : Hold) (es : List Entry) (e : Entry) → hold_next (hold_now d es) e ≡ hold_now d (es ++ e ∷ [])
now_step d es e =
    ap (λ b. with_parts d b (if e.actor == d.actor then left_own d.after (left_in d.actor d.after es) (word_of e.kind) else left_in d.actor d.after es) (left_next (is_of d.other d.until.word e) (d.until.number - count_of d.other d.until.word es))) (at_step d.actor d.after es e)
    ∙ (ap (λ n. with_parts d (stands_at d.actor d.after (es ++ e ∷ [])) n (left_next (is_of d.other d.until.word e) (d.until.number - count_of d.other d.until.word es))) (own_step d.actor d.after es e)
    ∙ ap (with_parts d (stands_at d.actor d.after (es ++ e ∷ [])) (left_in d.actor d.after (es ++ e ∷ []))) (left_step d.other d.until.word d.until.number es e))

-- ---- all entries

start_now : (d : Hold) → hold_start d ≡ hold_now d []
start_now d =
    let all : d.until.number ≡ d.until.number - 0 = omega arith in
    by d.after ∙ ap (with_parts d (stands_at d.actor d.after []) (left_in d.actor d.after [])) all
  where
    by : (o : Option Nth) → with_parts d (is_none o) (elim o as (λ z. ℕ) [ None ↦ 0 | Some x ↦ x.number ]) d.until.number ≡ with_parts d (stands_at d.actor o []) (left_in d.actor o []) d.until.number
    by None = refl
    by (Some x) =
        let all : x.number ≡ x.number - 0 = omega arith in
        ap (λ n. with_parts d false n d.until.number) all

now_along : (d : Hold) (before es : List Entry) → fold hold_next (hold_now d before) es ≡ hold_now d (before ++ es)
now_along d before [] = ap (hold_now d) (sym (append-nil before))
now_along d before (e ∷ es) =
    ap (λ s. fold hold_next s es) (now_step d before e)
    ∙ (now_along d (before ++ e ∷ []) es
    ∙ ap (hold_now d) (append_assoc before (e ∷ []) es))

hold_is : (d : Hold) (es : List Entry) → hold_of es d ≡ hold_now d es
hold_is d es = ap (λ s. fold hold_next s es) (start_now d) ∙ now_along d [] es

some_left : (n k : ℕ) → nat_lt 0 (n - k) ≡ nat_lt k n
some_left n k = grind arith

stops_same : (d : Hold) (es : List Entry) (a : ℕ) → stops_now (hold_of es d) a ≡ stops d es a
stops_same d es a =
    ap (λ s. stops_now s a) (hold_is d es)
    ∙ ap (λ b. (a == d.actor) && stands_at d.actor d.after es && b) (some_left d.until.number (count_of d.other d.until.word es))

-- some hold keeps the actor from going on just if that is so by the entries
pub held_same : (ds : List Hold) (es : List Entry) (a : ℕ) → list_any (λ s. stops_now s a) (map (hold_of es) ds) ≡ is_held ds es a
held_same [] es a = refl
held_same (d ∷ ds) es a =
    ap (λ b. b || list_any (λ s. stops_now s a) (map (hold_of es) ds)) (stops_same d es a)
    ∙ ap (λ b. stops d es a || b) (held_same ds es a)

-- the holds after one entry more
pub holds_more : (ds : List Hold) (es : List Entry) (e : Entry) → map (hold_of (es ++ e ∷ [])) ds ≡ map (λ s. hold_next s e) (map (hold_of es) ds)
holds_more [] es e = refl
holds_more (d ∷ ds) es e =
    ap (λ s. s ∷ map (hold_of (es ++ e ∷ [])) ds) (fold-append hold_next (hold_start d) es (e ∷ []))
    ∙ ap (λ ss. hold_next (hold_of es d) e ∷ ss) (holds_more ds es e)
