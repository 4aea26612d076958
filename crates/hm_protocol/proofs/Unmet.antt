-- A look-up that meets no callback meets none after another event, unless its mirror's callback returns.
use Rattle.std.proofs.Common.{refl, ap, sym, ◌∙◌, arith}
use Rattle.std.proofs.lemmas.Bool.{true≢false, eqb-true}
use Rattle.std.proofs.lemmas.Bool.Decides.{nat_tests}
use Rattle.std.specs.Prelude.{◌≡◌, ℕ, ◌+◌, ◌<◌, Bool, true, false, not, ◌&&◌, ◌||◌, ◌==◌, if◌then◌else◌, Option, Some}
use Rattle.std.specs.Prelude.{None}
use Rattle.std.specs.Prelude.{is_none, nat_lt, ⊤, List, [], ◌∷◌, ◌++◌, map, count_by}
use Rattle.std.specs.List.{list_any}
use Rattle.hm_base.specs.Pages.{overlap}
use Rattle.hm_protocol.specs.declared.events.Event.{Event}
use Rattle.hm_protocol.specs.Words.{device_of, is_it, is_other, is_before}
use Rattle.hm_protocol.specs.Known.{Call, Stage, Look, Known, is_current}
use Rattle.hm_protocol.specs.Noted.{noted, returned, after_end, over, with_look}
use Rattle.hm_protocol.proofs.Fields.{at_set, at_end, at_refused, held_keeps, pass_keeps}
use Rattle.hm_protocol.proofs.Calls.{Core, core, cores}

-- a callback of the mirror has returned since a look-up began there, with another sequence than that has read
abbrev pub is_met : Option ℕ → ℕ → ℕ → Core → Bool
is_met begun q m c = (c.mirror == m) && (is_other c.after q && is_before begun c.at)

-- no callback is so to the thread's look-up in the mirror
abbrev pub Unmet : Known → ℕ → ℕ → Type 0
Unmet k a m = list_any (is_met (k.looks a m).begun (k.looks a m).seq m) (cores k) ≡ false

-- each callback began, and returned, before this position
abbrev pub AllBefore : ℕ → List Core → Type 0
AllBefore n [] = ⊤
AllBefore n (c ∷ cs) = (c.at < n) × AllBefore n cs

-- a look-up that begins now meets none
pub begins_unmet : (n q m : ℕ) (cs : List Core) → AllBefore n cs → list_any (is_met (Some n) q m) cs ≡ false
begins_unmet n q m [] h = refl
begins_unmet n q m (c ∷ cs) h =
    none (c.mirror == m) (is_other c.after q) (nat_lt n c.at) (not_past h.0) (begins_unmet n q m cs h.1)
  where
    not_past : c.at < n → nat_lt n c.at ≡ false
    not_past l = grind (arith, nat_tests)

    none : (b d e : Bool) → e ≡ false → list_any (is_met (Some n) q m) cs ≡ false
        → ((b && (d && e)) || list_any (is_met (Some n) q m) cs) ≡ false
    none true true true g r = absurd (true≢false g)
    none true true false g r = r
    none true false e g r = r
    none false d e g r = r

-- nor does one that has not begun
pub unbegun_unmet : (q m : ℕ) (cs : List Core) → list_any (is_met None q m) cs ≡ false
unbegun_unmet q m [] = refl
unbegun_unmet q m (c ∷ cs) = none (c.mirror == m) (is_other c.after q) (unbegun_unmet q m cs)
  where
    none : (b d : Bool) → list_any (is_met None q m) cs ≡ false
        → ((b && (d && false)) || list_any (is_met None q m) cs) ≡ false
    none true true r = r
    none true false r = r
    none false d r = r

-- ---- what becomes of callbacks

pub same_met : (begun : Option ℕ) (q m : ℕ) (f : Call → Call)
    → ((x : Call) → is_met begun q m (core (f x)) ≡ is_met begun q m (core x)) → (xs : List Call)
    → list_any (is_met begun q m) (map core (map f xs)) ≡ list_any (is_met begun q m) (map core xs)
same_met begun q m f h [] = refl
same_met begun q m f h (x ∷ xs) = ap (λ b. b || list_any (is_met begun q m) (map core (map f xs))) (h x)
    ∙ ap (λ b. is_met begun q m (core x) || b) (same_met begun q m f h xs)

pub all_before : (n i : ℕ) (f : Call → Call) → ((x : Call) → x.at < n → (f x).at < i) → (xs : List Call)
    → AllBefore n (map core xs) → AllBefore i (map core (map f xs))
all_before n i f h [] g = tt
all_before n i f h (x ∷ xs) g = (h x g.0, all_before n i f h xs g.1)

pub more : (n : ℕ) (cs : List Core) → AllBefore n cs → AllBefore (n + 1) cs
more n [] h = tt
more n (c ∷ cs) h = (later h.0, more n cs h.1)
  where
    later : c.at < n → c.at < n + 1
    later l = omega (arith, l)

end_met : (begun : Option ℕ) (q m i j : ℕ) (x : Call)
    → is_met begun q m (core (after_end i j x)) ≡ is_met begun q m (core x)
end_met begun q m i j x = by (is_it x.of i)
  where
    by : (b : Bool) → is_met begun q m (core (if b then record x { ended = Some j } else x)) ≡ is_met begun q m (core x)
    by true = refl
    by false = refl

end_before : (n i j : ℕ) (x : Call) → x.at < n → (after_end i j x).at < n + 1
end_before n i j x l = by (is_it x.of i)
  where
    by : (b : Bool) → (if b then record x { ended = Some j } else x).at < n + 1
    by true = omega (arith, l)
    by false = omega (arith, l)

pub over_met : (begun : Option ℕ) (q m : ℕ) (k : Known) (t : ℕ) (o : Option ℕ)
    → list_any (is_met begun q m) (cores (over k t o)) ≡ list_any (is_met begun q m) (cores k)
over_met begun q m k t None = refl
over_met begun q m k t (Some i) = same_met begun q m (after_end i k.at) (end_met begun q m i k.at) k.calls

pub over_before : (k : Known) (t : ℕ) (o : Option ℕ) → AllBefore k.at (cores k)
    → AllBefore (k.at + 1) (cores (over k t o))
over_before k t None h = more k.at (cores k) h
over_before k t (Some i) h = all_before k.at (k.at + 1) (after_end i k.at) (end_before k.at i k.at) k.calls h

-- a callback that has not returned
pub called_met : (begun : Option ℕ) (q m : ℕ) (x : Call) → x.after ≡ None → (xs : List Call)
    → list_any (is_met begun q m) (map core (xs ++ x ∷ [])) ≡ list_any (is_met begun q m) (map core xs)
called_met begun q m x e [] = ap (λ o. ((x.mirror == m) && (is_other o q && is_before begun x.at)) || false) e
    ∙ none (x.mirror == m)
  where
    none : (b : Bool) → ((b && false) || false) ≡ false
    none true = refl
    none false = refl
called_met begun q m x e (y ∷ ys) = ap (λ b. is_met begun q m (core y) || b) (called_met begun q m x e ys)

pub called_before : (n : ℕ) (x : Call) → x.at ≡ n → (xs : List Call) → AllBefore n (map core xs)
    → AllBefore (n + 1) (map core (xs ++ x ∷ []))
called_before n x e [] h = (now, tt)
  where
    now : x.at < n + 1
    now = omega (arith, e)
called_before n x e (y ∷ ys) h = (later h.0, called_before n x e ys h.1)
  where
    later : y.at < n → y.at < n + 1
    later l = omega (arith, l)

-- a callback of another mirror returns
pub return_met : (begun : Option ℕ) (q m : ℕ) (k : Known) (t n z : ℕ) → (m ≡ n → ⊥) → (x : Call)
    → is_met begun q m (core (returned k t n z x)) ≡ is_met begun q m (core x)
return_met begun q m k t n z ne x = by (x.thread == t) (x.mirror == n) (is_none x.after) refl
  where
    another : (x.mirror == n) ≡ true → (x.mirror == m) ≡ false
    another e = grind (arith, nat_tests, ne, eqb-true x.mirror n e)

    now : (b : Bool) → (x.mirror == m) ≡ b → b ≡ false → is_met begun q m (core (record x {
      at = k.at;
      after = Some z;
      left = x.here;
      alone = count_by (λ y. (y.mirror == n) && (y.seq == x.seq)) k.calls == 1;
      stale = if list_any (λ y. not y.paged && overlap y.span x.span) (k.moves t) then Some ([], false) else None;
    })) ≡ is_met begun q m (core x)
    now b e f = ap (λ d. d && (not (z == q) && is_before begun k.at)) (e ∙ f)
        ∙ sym (ap (λ d. d && (is_other x.after q && is_before begun x.at)) (e ∙ f))

    by : (b d e : Bool) → (x.mirror == n) ≡ d → is_met begun q m (core (if b && (d && e) then record x {
      at = k.at;
      after = Some z;
      left = x.here;
      alone = count_by (λ y. (y.mirror == n) && (y.seq == x.seq)) k.calls == 1;
      stale = if list_any (λ y. not y.paged && overlap y.span x.span) (k.moves t) then Some ([], false) else None;
    } else x)) ≡ is_met begun q m (core x)
    by true true true g = now (x.mirror == m) refl (another g)
    by true true false g = refl
    by true false e g = refl
    by false d e g = refl

pub return_before : (k : Known) (t n z : ℕ) (x : Call) → x.at < k.at → (returned k t n z x).at < k.at + 1
return_before k t n z x l = by (is_current t n x)
  where
    by : (b : Bool) → (if b then record x {
      at = k.at;
      after = Some z;
      left = x.here;
      alone = count_by (λ y. (y.mirror == n) && (y.seq == x.seq)) k.calls == 1;
      stale = if list_any (λ y. not y.paged && overlap y.span x.span) (k.moves t) then Some ([], false) else None;
    } else x).at < k.at + 1
    by true = omega arith
    by false = omega (arith, l)

-- ---- the look-up

-- a look-up is changed, but not this of it
pub at_look : {X : Type 0} (F : Look → X) (k : Known) (b n a m : ℕ) (l : Look) → F l ≡ F (k.looks b n)
    → F ((with_look k b n l).looks a m) ≡ F (k.looks a m)
at_look F k b n a m l e = by (a == b) (m == n) refl refl
  where
    by : (x y : Bool) → (a == b) ≡ x → (m == n) ≡ y → F (if x && y then l else k.looks a m) ≡ F (k.looks a m)
    by true true g h = e ∙ sym (ap (λ i. F (k.looks i m)) (eqb-true a b g) ∙ ap (λ i. F (k.looks b i)) (eqb-true m n h))
    by true false g h = refl
    by false y g h = refl

-- the event leaves which look-ups have begun
abbrev pub begins : Event → Bool
begins (Event.Insert m p r d) = true
begins (Event.Begin m q) = true
begins (Event.Walk m r q locked d) = true
begins x = false

-- so it leaves when they have, and with which sequence
pub look_keeps : {X : Type 0} (F : Look → X) → ((l j : Look) → l.begun ≡ j.begun → l.seq ≡ j.seq → F l ≡ F j)
    → (k : Known)
    (b : ℕ) (x : Event) (a m : ℕ) → begins x ≡ false → F ((noted k b x).looks a m) ≡ F (k.looks a m)
look_keeps F f k b (Event.Insert n p r d) a m h = absurd (true≢false h)
look_keeps F f k b (Event.Begin n q) a m h = absurd (true≢false h)
look_keeps F f k b (Event.Walk n r q locked d) a m h = absurd (true≢false h)
look_keeps F f k b (Event.End p r) a m h = at_end (λ k. F (k.looks a m)) (λ k us xs. refl) k b p r
look_keeps F f k b (Event.Told n q true) a m h = refl
look_keeps F f k b (Event.Told n q false) a m h = at_refused (λ k. F (k.looks a m)) (λ k us xs. refl) k b n q
look_keeps F f k b (Event.Found n v g w) a m h = let l : Look = k.looks b n in
    at_look F k b n a m (record l { found = (v, w) ∷ l.found }) (f (record l { found = (v, w) ∷ l.found }) l refl refl)
look_keeps F f k b (Event.Walked n done) a m h = let l : Look = k.looks b n in
    let w : Option ℕ = if done then Some k.at else None in
    at_look F k b n a m (record l { stage = Stage.Walked; walked = w })
    (f (record l { stage = Stage.Walked; walked = w }) l refl refl)
look_keeps F f k b (Event.Set n v g w) a m h = at_set (λ k. F (k.looks a m)) (λ k t i. at_look F k t i a m
    (record (k.looks t i) { set = true }) (f (record (k.looks t i) { set = true }) (k.looks t i) refl refl))
    (λ k t g. refl) (λ k ss xs. refl) k b n v g w
look_keeps F f k b (Event.Take g) a m h = held_keeps (λ k. F (k.looks a m)) (λ k fs. refl) k g (device_of g)
look_keeps F f k b (Event.Pass g) a m h = pass_keeps (λ k. F (k.looks a m)) (λ k p. refl) k (device_of g)
look_keeps F f k b x a m h = refl
