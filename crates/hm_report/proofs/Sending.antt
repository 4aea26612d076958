-- What goes out piece by piece goes out in whole.
use Rattle.std.proofs.Common.{◌≡◌, ℕ, ◌+◌, List, [], ◌++◌, take, drop, take-add, Option, Some, None, refl, sym, ap, ◌∙◌}
use Rattle.std.proofs.lemmas.List.{append_assoc, append-nil, take-append-drop}
use Rattle.hm_io.specs.Streams.{Adds, Stays, SinkState}
use Rattle.hm_report.specs.declared.outlet.Stop.{Stop}
use Rattle.hm_report.specs.Sends.{Sends, GoesOn, Stops, StopCause}

adds_none : (held : Option (List ℕ)) → Adds held held []
adds_none None = tt
adds_none (Some held) = ap Some (sym (append-nil held))

pub adds_more : (before mid after : Option (List ℕ)) (xs ys : List ℕ) → Adds before mid xs → Adds mid after ys → Adds before after (xs ++ ys)
adds_more None mid after xs ys first more = tt
adds_more (Some held) mid after xs ys first more =
    let at : Adds (Some (held ++ xs)) after ys = rw first at more in
    at ∙ ap Some (append_assoc held xs ys)

pub sends_none : (t : SinkState) → Sends t t []
sends_none t = record { bytes_are = adds_none t.held; faults = refl; wants = refl }

pub sends_more : (t u v : SinkState) (xs ys : List ℕ) → Sends t u xs → Sends u v ys → Sends t v (xs ++ ys)
sends_more t u v xs ys first more = record {
  bytes_are = adds_more t.held u.held v.held xs ys first.bytes_are more.bytes_are;
  faults = more.faults ∙ first.faults;
  wants = more.wants ∙ first.wants;
}

stop_cause_after : (t u v : SinkState) (why : Stop) → u.faults ≡ t.faults → u.wants ≡ t.wants → StopCause u v why → StopCause t v why
stop_cause_after t u v Stop.Fault f w cause = (rw (← f) cause.0, cause.1 ∙ w)
stop_cause_after t u v Stop.NoMemory f w cause = (cause.0 ∙ f, rw (← w) cause.1)

-- a stop in what comes after
pub stops_after : (t u v : SinkState) (xs ys : List ℕ) (why : Stop) → Sends t u xs → Stops u v ys why → Stops t v (xs ++ ys) why
stops_after t u v xs ys why sends stops =
    let front = stops.front.0 in
    let rest = stops.front.1 in
    record {
      front = (xs ++ front, rest, ap (λ zs. xs ++ zs) stops.front.2 ∙ sym (append_assoc xs front rest), adds_more t.held u.held v.held xs front sends.bytes_are stops.front.3);
      cause = stop_cause_after t u v why sends.faults sends.wants stops.cause;
    }

-- a stop before more comes
pub stops_before : (t u : SinkState) (xs ys : List ℕ) (why : Stop) → Stops t u xs why → Stops t u (xs ++ ys) why
stops_before t u xs ys why stops =
    let front = stops.front.0 in
    let rest = stops.front.1 in
    record {
      front = (front, rest ++ ys, ap (λ zs. zs ++ ys) stops.front.2 ∙ append_assoc front rest ys, stops.front.3);
      cause = stops.cause;
    }

-- more is put into the buffer
pub goes_put : (t u : SinkState) (b c xs ys : List ℕ) → GoesOn t u b c xs → GoesOn t u b (c ++ ys) (xs ++ ys)
goes_put t u b c xs ys goes = record {
  front = goes.front;
  whole = sym (append_assoc b xs ys) ∙ ap (λ zs. zs ++ ys) goes.whole ∙ append_assoc goes.front c ys;
  sends = goes.sends;
}

pub goes_nothing : (t : SinkState) (b : List ℕ) → GoesOn t t b b []
goes_nothing t b = record { front = []; whole = append-nil b; sends = sends_none t }

pub goes_more : (t u v : SinkState) (b c d xs ys : List ℕ) → GoesOn t u b c xs → GoesOn u v c d ys → GoesOn t v b d (xs ++ ys)
goes_more t u v b c d xs ys first more = record {
  front = first.front ++ more.front;
  whole = sym (append_assoc b xs ys) ∙ ap (λ zs. zs ++ ys) first.whole ∙ append_assoc first.front c ys
      ∙ ap (λ zs. first.front ++ zs) more.whole ∙ sym (append_assoc first.front more.front d);
  sends = sends_more t u v first.front more.front first.sends more.sends;
}

pub goes_settled : (t u v : SinkState) (b c d xs : List ℕ) → GoesOn t u b c xs → GoesOn u v c d [] → GoesOn t v b d xs
goes_settled t u v b c d xs first more =
    let whole = goes_more t u v b c d xs [] first more in
    rw (← append-nil xs) whole

-- a stop in what comes after
pub goes_stops : (t u v : SinkState) (b c xs ys : List ℕ) (why : Stop) → GoesOn t u b c xs → Stops u v (c ++ ys) why → Stops t v (b ++ (xs ++ ys)) why
goes_stops t u v b c xs ys why goes stops =
    let all = stops_after t u v goes.front (c ++ ys) why goes.sends stops in
    let e : goes.front ++ (c ++ ys) ≡ b ++ (xs ++ ys) = sym (append_assoc goes.front c ys) ∙ ap (λ zs. zs ++ ys) (sym goes.whole) ∙ append_assoc b xs ys in
    rw (← e) all

-- what was added stays so where nothing more is
adds_then : (before mid after : Option (List ℕ)) (xs : List ℕ) → Adds before mid xs → Stays mid after → Adds before after xs
adds_then None mid after xs first same = tt
adds_then (Some held) mid after xs first same =
    let at : Stays (Some (held ++ xs)) after = rw first at same in at

-- a stop where the sink is to send on what it took
pub stops_last : (t u v : SinkState) (xs : List ℕ) (why : Stop) → Sends t u xs → Stops u v [] why → Stops t v xs why
stops_last t u v xs why first stops =
    let all = stops_after t u v xs [] why first stops in
    rw (← append-nil xs) all

-- the sink failed, or wanted memory, after these bytes
pub stops_now : (t u v : SinkState) (bytes : List ℕ) (at : ℕ) (why : Stop) → Sends t u (take at bytes) → Stays u.held v.held → StopCause u v why → Stops t v bytes why
stops_now t u v bytes at why sends same cause = record {
  front = (take at bytes, drop at bytes, sym (take-append-drop at bytes), adds_then t.held u.held v.held (take at bytes) sends.bytes_are same);
  cause = stop_cause_after t u v why sends.faults sends.wants cause;
}

-- one more piece went out
pub piece_sends : (t u v : SinkState) (bytes : List ℕ) (at n k : ℕ) → k ≡ n → Sends t u (take at bytes) → Sends u v (take k (drop at bytes)) → Sends t v (take (at + n) bytes)
piece_sends t u v bytes at n k same sends more = rw (take-add at n bytes, ← same) (sends_more t u v (take at bytes) (take k (drop at bytes)) sends more)

pieces_whole : (bytes : List ℕ) (at k : ℕ) → (take at bytes ++ take k (drop at bytes)) ++ drop k (drop at bytes) ≡ bytes
pieces_whole bytes at k =
    append_assoc (take at bytes) (take k (drop at bytes)) (drop k (drop at bytes)) ∙ ap (λ zs. take at bytes ++ zs) (take-append-drop k (drop at bytes)) ∙ take-append-drop at bytes

pub piece_stops : (t u v : SinkState) (bytes : List ℕ) (at k : ℕ) (why : Stop) → Sends t u (take at bytes) → Stops u v (take k (drop at bytes)) why → Stops t v bytes why
piece_stops t u v bytes at k why sends stops =
    let seen = stops_after t u v (take at bytes) (take k (drop at bytes)) why sends stops in
    let all = stops_before t v (take at bytes ++ take k (drop at bytes)) (drop k (drop at bytes)) why seen in
    rw (← pieces_whole bytes at k) all

-- one more piece of a text was put into the buffer
pub text_goes : (t u v : SinkState) (b c mid d text : List ℕ) (at n k : ℕ) → k ≡ n → mid ≡ c ++ take k (drop at text) → GoesOn t u b c (take at text) → GoesOn u v mid d [] → GoesOn t v b d (take (at + n) text)
text_goes t u v b c mid d text at n k same put goes settled =
    let piece = take k (drop at text) in
    let more : GoesOn t u b mid (take at text ++ piece) = rw put (goes_put t u b c (take at text) piece goes) in
    rw (take-add at n text, ← same) (goes_settled t u v b mid d (take at text ++ piece) more settled)

pub text_stops : (t u v : SinkState) (b c mid text : List ℕ) (at k : ℕ) (why : Stop) → mid ≡ c ++ take k (drop at text) → GoesOn t u b c (take at text) → Stops u v mid why → Stops t v (b ++ text) why
text_stops t u v b c mid text at k why put goes stops =
    let piece = take k (drop at text) in
    let here : Stops u v (c ++ piece) why = rw (← put) stops in
    let seen = goes_stops t u v b c (take at text) piece why goes here in
    let all = stops_before t v (b ++ (take at text ++ piece)) (drop k (drop at text)) why seen in
    let e : (b ++ (take at text ++ piece)) ++ drop k (drop at text) ≡ b ++ text = append_assoc b (take at text ++ piece) (drop k (drop at text)) ∙ ap (λ zs. b ++ zs) (pieces_whole text at k) in
    rw (← e) all
