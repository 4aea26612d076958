-- What is read of the words of an entry's line is in range.
use Rattle.std.proofs.Common.{◌≡◌, ℕ, ◌+◌, ◌-◌, ◌%◌, ◌^◌, ◌<◌, Bool, true, false, ◌&&◌, ◌||◌, cond, ltb, leb, List, [], ◌∷◌, Option, Some, None, Result, Ok, Err, drop, refl, subst, arith}
use Rattle.std.specs.Prelude.{IfOk, codes}
use Rattle.std.specs.Fmt.{decimal}
use Rattle.std.specs.Str.{bytes_eq}
use Rattle.std.specs.Str.Parse.{digits_value}
use Rattle.std.proofs.lemmas.Bool.{ltb-true, leb-true, lt-ltb, and_parts}
use Rattle.hm_base.specs.Pages.{IsSpan}
use Rattle.hm_base.specs.declared.Frame.{Frame}
use Rattle.hm_base.specs.declared.PoolId.{PoolId}
use Rattle.hm_history.specs.declared.Entry.{Entry}
use Rattle.hm_history.specs.declared.Who.{Who}
use Rattle.hm_script.specs.Gives.{◌>>=◌}
use Rattle.hm_script.specs.Numerals.{number, address}
use Rattle.hm_script.specs.Spelling.{address_text}
use Rattle.hm_script.specs.Splitting.{word}
use Rattle.hm_script.specs.declared.reason.Reason.{Reason}
use Rattle.hm_report_reading.specs.Fits.{FitsEntry, FitsFrame, FitsHex, FitsKept, FitsKind, FitsPart, FitsPlace, FitsPool, FitsTarget, FitsWho, FitsWhy}
use Rattle.hm_report_reading.specs.KindWords.{kind_named}
use Rattle.hm_report_reading.specs.Kinds.{entry_at, kind_at, named_kind}
use Rattle.hm_report_reading.specs.Words.{begins, below, byte_at, bytes_at, cause_at, device_frame_at, frame_at, framed_place, kept_at, nibble, numbered, own_place, page_at, pair, part_at, place_at, span_at, system_number, target_at, who_at, why_at, writes}
use Rattle.hm_report_reading.specs.declared.kind_word.KindWord.{KindWord}

-- ---- steps

-- what holds of what is read, if it is read
record Yields {A : Type 0} (r : Result A Reason) (P : A → Type 0) : Type 0 where
  holds : IfOk r P

done : {A : Type 0} {P : A → Type 0} {x : A} → P x → Yields (Ok x) P
done h = record { holds = h }

none : {A : Type 0} {P : A → Type 0} {e : Reason} → Yields (Err e) P
none = record { holds = tt }

-- and of what is made of it
then : {A B : Type 0} {P : A → Type 0} {Q : B → Type 0} {r : Result A Reason} {f : A → Result B Reason} → Yields r P → ((x : A) → P x → Yields (f x) Q) → Yields (r >>= f) Q
then {r = Ok x} h go = go x h.holds
then {r = Err e} h go = none

anything : {A : Type 0} (r : Result A Reason) → Yields r (λ x. Unit {0})
anything (Ok x) = done tt
anything (Err e) = none

either : {A : Type 0} {Q : A → Type 0} (t : Bool) {x y : Result A Reason} → Yields x Q → Yields y Q → Yields (cond t x y) Q
either true h k = h
either false h k = k

-- where the test holds
tested : {A : Type 0} {Q : A → Type 0} (r : Reason) (x : A) (t : Bool) → (t ≡ true → Q x) → Yields (cond t (Ok x) (Err r)) Q
tested r x true h = done (h refl)
tested r x false h = none

-- ---- numbers

below_fits : (limit n : ℕ) → Yields (below limit n) (λ k. k < limit)
below_fits limit n = tested _ _ (ltb n limit) (ltb-true n limit)

number_fits : (w : List ℕ) → Yields (number w) (λ n. n < 2 ^ 64)
unfolding number
number_fits w = tested _ _ (bytes_eq w (decimal (digits_value 10 w)) && ltb (digits_value 10 w) (2 ^ 64)) (λ e. ltb-true (digits_value 10 w) (2 ^ 64) (and_parts (bytes_eq w (decimal (digits_value 10 w))) (ltb (digits_value 10 w) (2 ^ 64)) e).1)

address_fits : (w : List ℕ) → Yields (address w) (λ n. n < 2 ^ 64)
unfolding address
address_fits w =
    let a = digits_value 16 (drop 2 w) in
    tested _ _ (bytes_eq w (address_text a) && ltb a (2 ^ 64)) (λ e. ltb-true a (2 ^ 64) (and_parts (bytes_eq w (address_text a)) (ltb a (2 ^ 64)) e).1)

numbered_fits : (limit : ℕ) (w : List ℕ) → Yields (numbered limit w) (λ n. n < limit)
unfolding numbered
numbered_fits limit w = then (number_fits (drop 1 w)) (λ n h. below_fits limit n)

page_fits : (w : List ℕ) → Yields (page_at w) (λ v. v < 2 ^ 36)
unfolding page_at
page_fits w = then (number_fits w) (λ n h. below_fits (2 ^ 36) n)

span_fits : (first count : List ℕ) → Yields (span_at first count) IsSpan
unfolding span_at
span_fits first count = then (number_fits first) (λ v h. then (number_fits count) (λ n k. tested _ _ (leb 1 n && leb (v + n) (2 ^ 36)) (λ e.
    let parts = and_parts (leb 1 n) (leb (v + n) (2 ^ 36)) e in
    record { some = leb-true 1 n parts.0; ends = leb-true (v + n) (2 ^ 36) parts.1 })))

-- ---- bytes

nibble_fits : (c : ℕ) → nibble c < 16
nibble_fits c = by (ltb c 97)
  where
    by : (t : Bool) → cond t ((c - 48) % 16) ((c - 87) % 16) < 16
    by true = omega arith
    by false = omega arith

pair_fits : (high low : ℕ) → pair high low < 256
pair_fits high low = let h = nibble_fits high in let l = nibble_fits low in omega (arith, h, l)

byte_fits : (w : List ℕ) → byte_at w < 256
byte_fits [] = omega arith
byte_fits (high ∷ []) = omega arith
byte_fits (high ∷ low ∷ w) = pair_fits high low

bytes_fit : (w : List ℕ) → FitsHex (bytes_at w)
bytes_fit [] = refl
bytes_fit (high ∷ []) = refl
bytes_fit (high ∷ low ∷ w) = rw (lt-ltb (pair high low) 256 (pair_fits high low), bytes_fit w) refl

-- ---- who, frames and places

who_fits : (w : List ℕ) → Yields (who_at w) FitsWho
unfolding who_at
who_fits w = then (numbered_fits 32 w) (λ n h. done (by n h (begins 109 w)))
  where
    by : (n : ℕ) → n < 32 → (t : Bool) → FitsWho (cond t (Who.Mirror n) (Who.Cpu n))
    by n h true = h
    by n h false = h

device_frame_fits : (w : List ℕ) → Yields (device_frame_at w) FitsFrame
device_frame_fits [] = none
device_frame_fits (a ∷ []) = none
device_frame_fits (a ∷ b ∷ []) = none
device_frame_fits (a ∷ digit ∷ b ∷ rest) = then (number_fits (digit ∷ [])) (λ d h. then (below_fits 4 d) (λ e k. then (number_fits rest) (λ n j. then (below_fits (2 ^ 32) n) (λ m i. done (record { pool = k; number = i })))))

frame_fits : (w : List ℕ) → Yields (frame_at w) FitsFrame
unfolding frame_at
frame_fits w = either (begins 115 w) (then (numbered_fits (2 ^ 32) w) (λ n h. done (record { pool = tt; number = h }))) (device_frame_fits w)

target_fits : (w : List ℕ) → Yields (target_at w) FitsTarget
unfolding target_at
target_fits w = either (bytes_eq w (codes "zero")) (done tt) (then (frame_fits w) (λ f h. done h))

part_fits : (w : List ℕ) → Yields (part_at w) FitsPart
unfolding part_at
part_fits w = either (bytes_eq w (codes "all")) (done tt) (then (number_fits w) (λ n h. then (below_fits 256 n) (λ k i. done i)))

kept_fits : (w : List ℕ) → Yields (kept_at w) FitsKept
unfolding kept_at
kept_fits w = either (begins 115 w || begins 100 w) (then (frame_fits w) (λ f h. done h)) (then (page_fits w) (λ v h. done h))

system_fits : (pool : PoolId) (n : ℕ) → n < 2 ^ 32 → Yields (system_number pool n) (λ k. k < 2 ^ 32)
system_fits PoolId.System n h = done h
system_fits (PoolId.Device d) n h = none

own_fits : (pool : PoolId) (n : ℕ) (w : Bool) → FitsPool pool → n < 2 ^ 32 → Yields (own_place pool n w) FitsPlace
own_fits PoolId.System n w p h = none
own_fits (PoolId.Device d) n w p h = done (p, h)

framed_fits : (name : List ℕ) (f : Frame) (last : List ℕ) → FitsFrame f → Yields (framed_place name f last) FitsPlace
framed_fits name f last h =
    either (bytes_eq name (codes "sys")) (then (system_fits f.pool f.number h.number) (λ n k. done k)) (either (bytes_eq name (codes "own")) (own_fits f.pool f.number (writes last) h.pool h.number) (either (bytes_eq name (codes "moving")) (done h) (then (system_fits f.pool f.number h.number) (λ n k. then (numbered_fits 16 last) (λ a i. done (k, i))))))

place_fits : (ws : List (List ℕ)) → Yields (place_at ws) FitsPlace
unfolding place_at
place_fits ws = either (bytes_eq (word 5 ws) (codes "none")) (done tt) (either (bytes_eq (word 5 ws) (codes "zero")) (done tt) (then (frame_fits (word 6 ws)) (λ f h. framed_fits (word 5 ws) f (word 7 ws) h)))

why_fits : (ws : List (List ℕ)) → Yields (why_at ws) FitsWhy
unfolding why_at
why_fits ws =
    either (bytes_eq (word 4 ws) (codes "nothere")) (done tt) (either (bytes_eq (word 4 ws) (codes "locked")) (then (numbered_fits 16 (word 5 ws)) (λ a h. done h)) (either (bytes_eq (word 4 ws) (codes "noframe")) (done tt) (either (bytes_eq (word 4 ws) (codes "skipped")) (done tt) (either (bytes_eq (word 4 ws) (codes "lost")) (done tt) none))))

-- ---- kinds

kind_fits : (k : KindWord) (ws : List (List ℕ)) → Yields (kind_at k ws) FitsKind
unfolding kind_at
kind_fits KindWord.Loaded ws = then (who_fits (word 3 ws)) (λ x h. then (address_fits (word 4 ws)) (λ a i. done (h, i, bytes_fit (word 5 ws))))
kind_fits KindWord.Stored ws = then (who_fits (word 3 ws)) (λ x h. then (address_fits (word 4 ws)) (λ a i. done (h, i, bytes_fit (word 5 ws))))
kind_fits KindWord.Failed ws = then (who_fits (word 3 ws)) (λ x h. then (address_fits (word 4 ws)) (λ a i. then (number_fits (word 5 ws)) (λ n j. then (anything (cause_at (word 6 ws))) (λ why l. done (h, i, j)))))
kind_fits KindWord.Mapped ws = then (numbered_fits 32 (word 3 ws)) (λ p h. then (span_fits (word 4 ws) (word 5 ws)) (λ r i. done (h, i)))
kind_fits KindWord.Unmapped ws = then (numbered_fits 32 (word 3 ws)) (λ p h. then (span_fits (word 4 ws) (word 5 ws)) (λ r i. done (h, i)))
kind_fits KindWord.Protected ws = then (numbered_fits 32 (word 3 ws)) (λ p h. then (span_fits (word 4 ws) (word 5 ws)) (λ r i. done (h, i)))
kind_fits KindWord.Forked ws = then (numbered_fits 32 (word 3 ws)) (λ p h. then (numbered_fits 32 (word 4 ws)) (λ c i. done (h, i)))
kind_fits KindWord.Exited ws = then (numbered_fits 32 (word 3 ws)) (λ p h. done h)
kind_fits KindWord.Attached ws = then (numbered_fits 32 (word 3 ws)) (λ m h. then (numbered_fits 4 (word 4 ws)) (λ d i. then (numbered_fits 32 (word 5 ws)) (λ p j. then (span_fits (word 6 ws) (word 7 ws)) (λ r k. then (number_fits (word 8 ws)) (λ q l. done (h, i, j, k, l))))))
kind_fits KindWord.Detaching ws = then (numbered_fits 32 (word 3 ws)) (λ m h. then (number_fits (word 4 ws)) (λ q i. done (h, i)))
kind_fits KindWord.Detached ws = then (numbered_fits 32 (word 3 ws)) (λ m h. done h)
kind_fits KindWord.Refused ws = then (anything (cause_at (word 3 ws))) (λ why h. done tt)
kind_fits KindWord.Migrated ws = then (number_fits (word 3 ws)) (λ n h. done h)
kind_fits KindWord.Seen ws = then (numbered_fits 32 (word 3 ws)) (λ m h. then (page_fits (word 4 ws)) (λ v i. done (h, i, byte_fits (word 5 ws))))
kind_fits KindWord.Evicted ws = then (number_fits (word 3 ws)) (λ n h. done h)
kind_fits KindWord.Removed ws = then (numbered_fits 4 (word 3 ws)) (λ d h. done h)
kind_fits KindWord.Rlock ws = then (numbered_fits 32 (word 3 ws)) (λ p h. done h)
kind_fits KindWord.Runlock ws = then (numbered_fits 32 (word 3 ws)) (λ p h. done h)
kind_fits KindWord.Wlock ws = then (numbered_fits 32 (word 3 ws)) (λ p h. done h)
kind_fits KindWord.Named ws = then (numbered_fits 32 (word 3 ws)) (λ p h. then (numbered_fits 32 (word 4 ws)) (λ c i. done (h, i)))
kind_fits KindWord.Take ws = then (frame_fits (word 3 ws)) (λ f h. done h)
kind_fits KindWord.Drop ws = then (frame_fits (word 3 ws)) (λ f h. done h)
kind_fits KindWord.Place ws = then (numbered_fits 32 (word 3 ws)) (λ p h. then (page_fits (word 4 ws)) (λ v i. then (place_fits ws) (λ x j. done (h, i, j))))
kind_fits KindWord.Start ws = then (numbered_fits 32 (word 3 ws)) (λ p h. then (span_fits (word 4 ws) (word 5 ws)) (λ r i. then (number_fits (word 6 ws)) (λ q j. done (h, i, j))))
kind_fits KindWord.Told ws = then (numbered_fits 32 (word 3 ws)) (λ p h. then (span_fits (word 4 ws) (word 5 ws)) (λ r i. then (number_fits (word 6 ws)) (λ q j. done (h, i, j))))
kind_fits KindWord.End ws = then (numbered_fits 32 (word 3 ws)) (λ p h. then (span_fits (word 4 ws) (word 5 ws)) (λ r i. then (number_fits (word 6 ws)) (λ q j. done (h, i, j))))
kind_fits KindWord.Begin ws = then (numbered_fits 32 (word 3 ws)) (λ m h. then (number_fits (word 4 ws)) (λ q i. done (h, i)))
kind_fits KindWord.Retry ws = then (numbered_fits 32 (word 3 ws)) (λ m h. done h)
kind_fits KindWord.Set ws = then (numbered_fits 32 (word 3 ws)) (λ m h. then (page_fits (word 4 ws)) (λ v i. then (target_fits (word 5 ws)) (λ f j. then (number_fits (word 7 ws)) (λ from l. done (h, i, j, l)))))
kind_fits KindWord.Fresh ws = then (numbered_fits 32 (word 3 ws)) (λ p h. then (page_fits (word 4 ws)) (λ v i. done (h, i)))
kind_fits KindWord.Copied ws = then (frame_fits (word 3 ws)) (λ f h. then (frame_fits (word 4 ws)) (λ g i. then (part_fits (word 5 ws)) (λ l j. done (h, i, j))))
kind_fits KindWord.Committed ws = then (frame_fits (word 3 ws)) (λ f h. then (frame_fits (word 4 ws)) (λ g i. done (h, i)))
kind_fits KindWord.Kept ws = then (kept_fits (word 3 ws)) (λ at h. then (why_fits ws) (λ why i. done (h, i)))
kind_fits KindWord.Done ws = then (frame_fits (word 3 ws)) (λ f h. done h)
kind_fits KindWord.Withdrawn ws = then (numbered_fits 4 (word 3 ws)) (λ d h. done h)
kind_fits KindWord.Excluded ws = then (numbered_fits 32 (word 3 ws)) (λ m h. then (page_fits (word 4 ws)) (λ v i. done (h, i)))
kind_fits KindWord.Fetched ws = then (numbered_fits 32 (word 3 ws)) (λ m h. then (address_fits (word 4 ws)) (λ a i. done (h, i, bytes_fit (word 5 ws))))
kind_fits KindWord.Added ws = then (numbered_fits 32 (word 3 ws)) (λ m h. then (address_fits (word 4 ws)) (λ a i. done (h, i, byte_fits (word 5 ws), byte_fits (word 6 ws))))

named_fits : (k : Option KindWord) (ws : List (List ℕ)) → Yields (named_kind k ws) FitsKind
named_fits None ws = none
named_fits (Some k) ws = kind_fits k ws

entry_fits : (ws : List (List ℕ)) → Yields (entry_at ws) FitsEntry
entry_fits ws = then (numbered_fits 16 (word 1 ws)) (λ a h. then (named_fits (kind_named (word 2 ws)) ws) (λ k i. done (record { actor = h; kind = i })))

-- what was read is in range
of_ok : {A : Type 0} {P : A → Type 0} {r : Result A Reason} (x : A) → Yields r P → r ≡ Ok x → P x
of_ok {P = P} x h is = subst (λ (z : Result _ Reason). IfOk z P) is h.holds

pub is_numbered : (limit : ℕ) (w : List ℕ) (n : ℕ) → numbered limit w ≡ Ok n → n < limit
is_numbered limit w n is = of_ok n (numbered_fits limit w) is

pub is_number : (w : List ℕ) (n : ℕ) → number w ≡ Ok n → n < 2 ^ 64
is_number w n is = of_ok n (number_fits w) is

pub is_entry : (ws : List (List ℕ)) (e : Entry) → entry_at ws ≡ Ok e → FitsEntry e
is_entry ws e is = of_ok e (entry_fits ws) is
