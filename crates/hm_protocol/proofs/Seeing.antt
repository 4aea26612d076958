-- As long as no callback of their mirrors returns, look-ups meet none, and none that is stale is committed.
use Rattle.std.proofs.Common.{refl, ap, sym, subst, ◌∙◌, cond}
use Rattle.std.proofs.lemmas.Bool.{true≢false, false≢true, eqb-true}
use Rattle.std.specs.Prelude.{◌≡◌, ℕ, ◌+◌, Bool, true, false, not, ◌&&◌, ◌||◌, ◌==◌, if◌then◌else◌, Option, Some, None}
use Rattle.std.specs.Prelude.{is_none, ⊤, List, [], ◌∷◌, ◌++◌, map, filter}
use Rattle.std.specs.List.{list_any}
use Rattle.hm_history.specs.declared.Kind.{Kind}
use Rattle.hm_laws.proofs.Migration.Setup.{at_itself}
use Rattle.hm_protocol.specs.declared.events.Event.{Event}
use Rattle.hm_protocol.specs.declared.events.Traced.{Traced}
use Rattle.hm_protocol.specs.Words.{device_of, is_empty, is_sole, drop_if}
use Rattle.hm_protocol.specs.Known.{Call, Stage, Look, Known, no_look, is_slot, is_look_up, meets}
use Rattle.hm_protocol.specs.Known.{goes_on}
use Rattle.hm_protocol.specs.Noted.{noted, known_next, call, returned, commit, moving, after_set, with_look, is_begun}
use Rattle.hm_protocol.proofs.Fits.{Fits, AllFit}
use Rattle.hm_protocol.proofs.Fields.{at_end, at_refused, held_keeps, pass_keeps}
use Rattle.hm_protocol.proofs.Steps.{GoBy, by, by_thread, through}
use Rattle.hm_protocol.proofs.Calls.{Core, core, cores, cores_keep, mapped}
use Rattle.hm_protocol.proofs.Unmet.{is_met, Unmet, AllBefore, begins_unmet, unbegun_unmet, same_met, all_before, more}
use Rattle.hm_protocol.proofs.Unmet.{over_met, over_before, called_met, called_before, return_met, return_before}
use Rattle.hm_protocol.proofs.Unmet.{look_keeps}

-- the event is no return of the mirror's callback
abbrev pub Apart : Event → ℕ → Type 0
Apart (Event.Told n q true) m = m ≡ n → ⊥
Apart (Event.Told n q false) m = ⊥
Apart x m = ⊤

-- nor one that was refused
abbrev pub is_refused : Event → Bool
is_refused (Event.Told n q false) = true
is_refused x = false

cores_met : (begun : Option ℕ) (q m : ℕ) (k : Known) (b : ℕ) (x : Event) → Apart x m
    → list_any (is_met begun q m) (cores (noted k b x)) ≡ list_any (is_met begun q m) (cores k)
cores_met begun q m k b (Event.Start p r why d) h = refl
cores_met begun q m k b (Event.End p r) h = over_met begun q m k b _
cores_met begun q m k b (Event.Tell n r z) h = called_met begun q m (call k b n r z) refl k.calls
cores_met begun q m k b (Event.Told n z true) h = same_met begun q m (returned k b n z)
    (return_met begun q m k b n z h) k.calls
cores_met begun q m k b (Event.Told n z false) h = absurd h
cores_met begun q m k b (Event.Insert n p r d) h = refl
cores_met begun q m k b (Event.Begin n z) h = refl
cores_met begun q m k b (Event.Walk n r z locked d) h = refl
cores_met begun q m k b (Event.Set n v f w) h = ap (list_any (is_met begun q m))
    (cores_keep k b (Event.Set n v f w) refl)
cores_met begun q m k b (Event.Erase n v) h = ap (list_any (is_met begun q m)) (cores_keep k b (Event.Erase n v) refl)
cores_met begun q m k b (Event.Paged p) h = ap (list_any (is_met begun q m)) (cores_keep k b (Event.Paged p) refl)
cores_met begun q m k b (Event.Take f) h = ap (list_any (is_met begun q m)) (cores_keep k b (Event.Take f) refl)
cores_met begun q m k b (Event.Pass f) h = ap (list_any (is_met begun q m)) (cores_keep k b (Event.Pass f) refl)
cores_met begun q m k b x h = refl

before_next : (k : Known) (b : ℕ) (x : Event) → is_refused x ≡ false → AllBefore k.at (cores k)
    → AllBefore (k.at + 1) (cores (noted k b x))
before_next k b (Event.Start p r why d) h g = more k.at (cores k) g
before_next k b (Event.End p r) h g = over_before k b _ g
before_next k b (Event.Tell n r z) h g = called_before k.at (call k b n r z) refl k.calls g
before_next k b (Event.Told n z true) h g =
    all_before k.at (k.at + 1) (returned k b n z) (return_before k b n z) k.calls g
before_next k b (Event.Told n z false) h g = absurd (true≢false h)
before_next k b (Event.Set n v f w) h g = subst (AllBefore (k.at + 1)) (sym (cores_keep k b (Event.Set n v f w) refl))
    (more k.at (cores k) g)
before_next k b (Event.Erase n v) h g = subst (AllBefore (k.at + 1)) (sym (cores_keep k b (Event.Erase n v) refl))
    (more k.at (cores k) g)
before_next k b (Event.Paged p) h g = subst (AllBefore (k.at + 1)) (sym (cores_keep k b (Event.Paged p) refl))
    (more k.at (cores k) g)
before_next k b (Event.Take f) h g = subst (AllBefore (k.at + 1)) (sym (cores_keep k b (Event.Take f) refl))
    (more k.at (cores k) g)
before_next k b (Event.Pass f) h g = subst (AllBefore (k.at + 1)) (sym (cores_keep k b (Event.Pass f) refl))
    (more k.at (cores k) g)
before_next k b x h g = more k.at (cores k) g

same_marks : (m : ℕ) (cs : List Core) (l j : Look) → l.begun ≡ j.begun → l.seq ≡ j.seq
    → list_any (is_met l.begun l.seq m) cs ≡ list_any (is_met j.begun j.seq m) cs
same_marks m cs l j e g = ap (λ o. list_any (is_met o l.seq m) cs) e ∙ ap (λ q. list_any (is_met j.begun q m) cs) g

-- a look-up with another one, which meets none
changed_met : (k : Known) (b n a m : ℕ) (l : Look) (cs : List Core)
    → ((a == b) ≡ true → (m == n) ≡ true → list_any (is_met l.begun l.seq m) cs ≡ false)
    → list_any (is_met (k.looks a m).begun (k.looks a m).seq m) cs ≡ false
    → list_any (is_met ((with_look k b n l).looks a m).begun ((with_look k b n l).looks a m).seq m) cs ≡ false
changed_met k b n a m l cs h un = pick (a == b) (m == n) refl refl
  where
    pick : (x y : Bool) → (a == b) ≡ x → (m == n) ≡ y
        → list_any (is_met (if x && y then l else k.looks a m).begun (if x && y then l else k.looks a m).seq m)
        cs ≡ false
    pick true true e f = h e f
    pick true false e f = un
    pick false y e f = un

-- the one of this thread in this mirror is that
here_met : (k : Known) (b n : ℕ) (l : Look) (cs : List Core) → list_any (is_met l.begun l.seq n) cs ≡ false
    → list_any (is_met ((with_look k b n l).looks b n).begun ((with_look k b n l).looks b n).seq n) cs ≡ false
here_met k b n l cs h = pick (b == b) (n == n) (at_itself b) (at_itself n)
  where
    pick : (x y : Bool) → x ≡ true → y ≡ true
        → list_any (is_met (if x && y then l else k.looks b n).begun (if x && y then l else k.looks b n).seq n)
        cs ≡ false
    pick true true e f = h
    pick true false e f = absurd (false≢true f)
    pick false y e f = absurd (false≢true e)

-- a look-up that begins meets none
pub begun_unmet : (k : Known) (b n q : ℕ) → AllBefore k.at (cores k) → Unmet (noted k b (Event.Begin n q)) b n
begun_unmet k b n q h = here_met k b n
    (record (k.looks b n) { stage = Stage.Begun; begun = Some k.at; seq = q; itself = false; set = false }) (cores k)
    (begins_unmet k.at q n (cores k) h)

same_seq : (o : Option ℕ) (q z : ℕ) → (is_none o || not (q == z)) ≡ false → q ≡ z
same_seq o q z h = eqb-true q z (is_true (q == z) (or_right_false (is_none o) (not (q == z)) h))
  where
    or_right_false : (x y : Bool) → (x || y) ≡ false → y ≡ false
    or_right_false true y e = absurd (true≢false e)
    or_right_false false y e = e

    is_true : (y : Bool) → not y ≡ false → y ≡ true
    is_true true e = refl
    is_true false e = absurd (true≢false e)

-- a walk goes on with the look-up, or begins another one
walked_met : (k : Known) (b n q m : ℕ) (cs : List Core) (z : Bool) → AllBefore k.at cs
    → (is_none (k.looks b n).begun || not (q == (k.looks b n).seq)) ≡ z
    → list_any (is_met (k.looks b n).begun (k.looks b n).seq m) cs ≡ false
    → list_any (is_met (if z then Some k.at else (k.looks b n).begun) q m) cs ≡ false
walked_met k b n q m cs true g e un = begins_unmet k.at q m cs g
walked_met k b n q m cs false g e un =
    ap (λ z. list_any (is_met (k.looks b n).begun z m) cs) (same_seq (k.looks b n).begun q (k.looks b n).seq e) ∙ un

at_itself_met : (k : Known) (b n a m : ℕ) (cs : List Core) → (a == b) ≡ true → (m == n) ≡ true
    → list_any (is_met (k.looks a m).begun (k.looks a m).seq m) cs ≡ false
    → list_any (is_met (k.looks b n).begun (k.looks b n).seq m) cs ≡ false
at_itself_met k b n a m cs e f un =
    sym (ap (λ j. list_any (is_met (k.looks j m).begun (k.looks j m).seq m) cs) (eqb-true a b e)
    ∙ ap (λ j. list_any (is_met (k.looks b j).begun (k.looks b j).seq m) cs) (eqb-true m n f)) ∙ un

looks_met : (k : Known) (b : ℕ) (x : Event) (a m : ℕ) (cs : List Core) → AllBefore k.at cs
    → list_any (is_met (k.looks a m).begun (k.looks a m).seq m) cs ≡ false
    → list_any (is_met ((noted k b x).looks a m).begun ((noted k b x).looks a m).seq m) cs ≡ false
looks_met k b (Event.Insert n p r d) a m cs g un = pick (m == n)
  where
    pick : (y : Bool)
        → list_any (is_met (if y then no_look else k.looks a m).begun (if y then no_look else k.looks a m).seq m)
        cs ≡ false
    pick true = unbegun_unmet 0 m cs
    pick false = un
looks_met k b (Event.Begin n q) a m cs g un = changed_met k b n a m
    (record (k.looks b n) { stage = Stage.Begun; begun = Some k.at; seq = q; itself = false; set = false }) cs
    (λ e f. begins_unmet k.at q m cs g) un
looks_met k b (Event.Walk n r q locked d) a m cs g un = let l : Look = k.looks b n in
    let itself : Bool = is_none l.begun || not (q == l.seq) in
    let found : List (ℕ × Bool) = if itself || (is_begun l.stage || l.set) then [] else l.found in
    let begun : Option ℕ = if itself then Some k.at else l.begun in
    changed_met k b n a m
    (record l { begun = begun; seq = q; itself = l.itself || itself; walked = None; found = found; set = false }) cs
    (λ e f. walked_met k b n q m cs (is_none l.begun || not (q == l.seq)) g refl (at_itself_met k b n a m cs e f un)) un
looks_met k b (Event.Found n v f w) a m cs g un =
    look_keeps (λ l. list_any (is_met l.begun l.seq m) cs) (same_marks m cs) k b (Event.Found n v f w) a m refl ∙ un
looks_met k b (Event.Walked n done) a m cs g un =
    look_keeps (λ l. list_any (is_met l.begun l.seq m) cs) (same_marks m cs) k b (Event.Walked n done) a m refl ∙ un
looks_met k b (Event.Set n v f w) a m cs g un =
    look_keeps (λ l. list_any (is_met l.begun l.seq m) cs) (same_marks m cs) k b (Event.Set n v f w) a m refl ∙ un
looks_met k b (Event.End p r) a m cs g un =
    look_keeps (λ l. list_any (is_met l.begun l.seq m) cs) (same_marks m cs) k b (Event.End p r) a m refl ∙ un
looks_met k b (Event.Told n q done) a m cs g un =
    look_keeps (λ l. list_any (is_met l.begun l.seq m) cs) (same_marks m cs) k b (Event.Told n q done) a m refl ∙ un
looks_met k b (Event.Take f) a m cs g un =
    look_keeps (λ l. list_any (is_met l.begun l.seq m) cs) (same_marks m cs) k b (Event.Take f) a m refl ∙ un
looks_met k b (Event.Pass f) a m cs g un =
    look_keeps (λ l. list_any (is_met l.begun l.seq m) cs) (same_marks m cs) k b (Event.Pass f) a m refl ∙ un
looks_met k b x a m cs g un = un

-- an event leaves a look-up that meets none
unmet_next : (k : Known) (b : ℕ) (x : Event) (a m : ℕ) → Apart x m → AllBefore k.at (cores k) → Unmet k a m
    → Unmet (noted k b x) a m
unmet_next k b x a m h g un =
    cores_met ((noted k b x).looks a m).begun ((noted k b x).looks a m).seq m k b x h
    ∙ looks_met k b x a m (cores k) g un

-- ---- commits

none_filtered : (f : Call → Bool) (xs : List Call) → list_any f xs ≡ false → filter f xs ≡ []
none_filtered f [] h = refl
none_filtered f (x ∷ xs) h = pick (f x) h (none_filtered f xs)
  where
    pick : (b : Bool) → (b || list_any f xs) ≡ false → (list_any f xs ≡ false → filter f xs ≡ [])
        → cond b (x ∷ filter f xs) (filter f xs) ≡ []
    pick true e r = absurd (true≢false e)
    pick false e r = r e

met_any : (l : Look) (m : ℕ) (xs : List Call)
    → list_any (meets l m) xs ≡ list_any (is_met l.begun l.seq m) (map core xs)
met_any l m [] = refl
met_any l m (x ∷ xs) = ap (λ b. meets l m x || b) (met_any l m xs)

commit_unmet : (k : Known) (b m : ℕ) → Unmet k b m → (commit k b m).stale ≡ k.stale
commit_unmet k b m un = ap (λ xs. if is_empty xs then k.stale else k.stale ++ (k.at, list_any goes_on xs) ∷ [])
    (none_filtered (meets (k.looks b m) m) k.calls (met_any (k.looks b m) m k.calls ∙ un))

-- a `Set` is by no look-up, or by one that meets none
abbrev pub Sets : Known → ℕ → Event → Type 0
Sets k b (Event.Set m v f w) = is_look_up k b v w ≡ true → Unmet k b m
Sets k b x = ⊤

stale_next : (k : Known) (b : ℕ) (x : Event) → Sets k b x → (noted k b x).stale ≡ k.stale
stale_next k b (Event.Set m v f w) h = pick (is_look_up k b v w) (is_sole w) refl
  where
    l : Known
    l = record k {
      slots = record { mirror = m; page = v; right = w; at = k.at } ∷ drop_if (is_slot m v) k.slots;
      calls = map (after_set m v) k.calls;
    }

    pick : (x y : Bool) → is_look_up k b v w ≡ x
        → (if x then commit l b m else if y then l else moving l b (λ y. record y { set = v ∷ y.set })).stale ≡ k.stale
    pick true y e = commit_unmet l b m (ap (list_any (is_met (k.looks b m).begun (k.looks b m).seq m))
        (mapped (after_set m v) (λ x. refl) k.calls) ∙ h e)
    pick false true e = refl
    pick false false e = refl
stale_next k b (Event.End p r) h = at_end (λ k. k.stale) (λ k us xs. refl) k b p r
stale_next k b (Event.Told m q true) h = refl
stale_next k b (Event.Told m q false) h = at_refused (λ k. k.stale) (λ k us xs. refl) k b m q
stale_next k b (Event.Take f) h = held_keeps (λ k. k.stale) (λ k fs. refl) k f (device_of f)
stale_next k b (Event.Pass f) h = pass_keeps (λ k. k.stale) (λ k p. refl) k (device_of f)
stale_next k b x h = refl

-- ---- events of an entry

-- these look-ups meet none, and none that is stale was committed
pub record Seen (W : ℕ → ℕ → Type 0) (k : Known) : Type 0 where
  pub before : AllBefore k.at (cores k)
  pub unmet : (a m : ℕ) → W a m → Unmet k a m
  pub none_stale : k.stale ≡ []

-- so it is after another event
pub seen_next : (W : ℕ → ℕ → Type 0) (k : Known) (b : ℕ) (x : Event) → ((a m : ℕ) → W a m → Apart x m)
    → is_refused x ≡ false → Sets k b x → Seen W k → Seen W (known_next k (by b x))
seen_next W k b x h g st se = record {
  before = before_next k b x g se.before;
  unmet = λ a m w. unmet_next k b x a m (h a m w) se.before (se.unmet a m w);
  none_stale = stale_next k b x st ∙ se.none_stale;
}

-- no event fails it
abbrev pub nothing : Known → Traced → Bool
nothing k s = false

-- the entry tells a mirror, or sets a table
abbrev pub is_heard : Kind → Bool
is_heard (Kind.Told m r q) = true
is_heard (Kind.Set m v f w from) = true
is_heard k = false

each : (W : ℕ → ℕ → Type 0) (c : Bool) (j : Kind) → is_heard j ≡ false → (k : Known) (b : ℕ) (x : Event) → Fits c j x
    → Seen W k → (nothing k (by b x) ≡ false) × Seen W (known_next k (by b x))
each W c j h k b (Event.Told m q done) fits se = absurd (false≢true (sym h ∙ ap is_heard fits.1.1))
each W c j h k b (Event.Set m v f w) fits se = absurd (false≢true (sym h ∙ ap is_heard fits.1.1.1))
each W c j h k b x fits se = (refl, seen_next W k b x (λ a m w. tt) refl tt se)

-- so it is after the events of an entry that neither tells a mirror nor sets a table
pub unheard : (W : ℕ → ℕ → Type 0) (c : Bool) (j : Kind) → is_heard j ≡ false → (b : ℕ) (xs : List Event)
    → AllFit c j xs
    → (k : Known) → Seen W k → GoBy nothing k (by_thread b xs) (Seen W)
unheard W c j h b xs fits k se = through nothing (Seen W) c j b (λ k x. each W c j h k b x) xs fits k se
