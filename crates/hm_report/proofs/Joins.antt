-- Two calls that add to a buffer, one after the other.
use Rattle.std.proofs.Common.{◌≡◌, ℕ, List, [], ◌++◌, refl, sym, ap, ◌∙◌}
use Rattle.std.proofs.lemmas.List.{append_assoc, append-nil}
use Rattle.hm_report.specs.declared.outlet.Stop.{Stop}
use Rattle.hm_io.specs.Streams.{SinkState}
use Rattle.hm_report.specs.Sends.{GoesOn, Stops}
use Rattle.hm_report.proofs.Sending.{stops_before, goes_nothing, goes_put, goes_more, goes_settled, goes_stops}

-- the first call, and what was put before it
pub one_goes : (t u : SinkState) (b mid c xs ys : List ℕ) → mid ≡ b ++ xs → GoesOn t u mid c ys → GoesOn t u b c (xs ++ ys)
one_goes t u b mid c xs ys put goes =
    let start : GoesOn t t b mid xs = rw put (goes_put t t b b [] xs (goes_nothing t b)) in
    goes_more t t u b mid c xs ys start goes

pub one_stops : (t u : SinkState) (b mid xs ys rest whole : List ℕ) (why : Stop) → mid ≡ b ++ xs → whole ≡ xs ++ (ys ++ rest) → Stops t u (mid ++ ys) why → Stops t u (b ++ whole) why
one_stops t u b mid xs ys rest whole why put same stops =
    let all = stops_before t u (mid ++ ys) rest why stops in
    let e : (mid ++ ys) ++ rest ≡ b ++ whole = append_assoc mid ys rest ∙ ap (λ zs. zs ++ (ys ++ rest)) put ∙ append_assoc b xs (ys ++ rest) ∙ ap (λ zs. b ++ zs) (sym same) in
    rw (← e) all

-- both calls, and what was put before each
pub two_goes : (t u v : SinkState) (b mid c then d xs ys zs ws whole : List ℕ) → mid ≡ b ++ xs → GoesOn t u mid c ys → then ≡ c ++ zs → GoesOn u v then d ws → whole ≡ xs ++ (ys ++ (zs ++ ws)) → GoesOn t v b d whole
two_goes t u v b mid c then d xs ys zs ws whole put first more second same =
    let a = one_goes t u b mid c xs ys put first in
    let e = one_goes u v c then d zs ws more second in
    let all = goes_more t u v b c d (xs ++ ys) (zs ++ ws) a e in
    rw (same, ← append_assoc xs ys (zs ++ ws)) all

pub two_stops : (t u v : SinkState) (b mid c then xs ys zs ws whole : List ℕ) (why : Stop) → mid ≡ b ++ xs → GoesOn t u mid c ys → then ≡ c ++ zs → whole ≡ xs ++ (ys ++ (zs ++ ws)) → Stops u v (then ++ ws) why → Stops t v (b ++ whole) why
two_stops t u v b mid c then xs ys zs ws whole why put first more same stops =
    let a = one_goes t u b mid c xs ys put first in
    let e : then ++ ws ≡ c ++ (zs ++ ws) = ap (λ q. q ++ ws) more ∙ append_assoc c zs ws in
    let here : Stops u v (c ++ (zs ++ ws)) why = rw (← e) stops in
    rw (same, ← append_assoc xs ys (zs ++ ws)) (goes_stops t u v b c (xs ++ ys) (zs ++ ws) why a here)

-- a call in a loop, after what the loop added, and before the rest
pub loop_stops : (t u v : SinkState) (b c xs ys rest whole : List ℕ) (why : Stop) → GoesOn t u b c xs → whole ≡ xs ++ (ys ++ rest) → Stops u v (c ++ ys) why → Stops t v (b ++ whole) why
loop_stops t u v b c xs ys rest whole why goes same stops =
    let more : Stops u v (c ++ (ys ++ rest)) why = one_stops u v c c [] ys rest (ys ++ rest) why (sym (append-nil c)) refl stops in
    rw same (goes_stops t u v b c xs (ys ++ rest) why goes more)

-- the same where the call only lets go of what was put
pub loop_put_stops : (t u v : SinkState) (b c mid xs ys rest whole : List ℕ) (why : Stop) → GoesOn t u b c xs → mid ≡ c ++ ys → whole ≡ xs ++ (ys ++ rest) → Stops u v mid why → Stops t v (b ++ whole) why
loop_put_stops t u v b c mid xs ys rest whole why goes put same stops =
    let here : Stops u v (c ++ ys) why = rw (← put) stops in
    loop_stops t u v b c xs ys rest whole why goes same here

pub loop_put_goes : (t u v : SinkState) (b c mid d xs ys whole : List ℕ) → GoesOn t u b c xs → mid ≡ c ++ ys → whole ≡ xs ++ ys → GoesOn u v mid d [] → GoesOn t v b d whole
loop_put_goes t u v b c mid d xs ys whole goes put same settled =
    let more : GoesOn t u b mid (xs ++ ys) = rw put (goes_put t u b c xs ys goes) in
    rw same (goes_settled t u v b mid d (xs ++ ys) more settled)
