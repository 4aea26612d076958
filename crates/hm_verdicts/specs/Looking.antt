-- What a look-up makes of what is known, by the parts that it looks at.
use Rattle.std.specs.Prelude.{ℕ, Bool, false, not, ◌&&◌, ◌||◌, ◌==◌, if◌then◌else◌, Some, None, is_some, is_none}
use Rattle.std.specs.Prelude.{List, [], ◌∷◌}
use Rattle.std.specs.List.{list_any, list_all}
use Rattle.hm_protocol.specs.Known.{Call, Look, Early, is_telling, goes_on, meets}
use Rattle.hm_protocol.specs.Noted.{is_walked, is_begun, is_past}

-- a look-up is given up by the next one
abbrev pub given_up_by : List Call → ℕ → Look → List Bool
given_up_by calls m l = if is_walked l.stage && (is_some l.walked && (not l.set && list_any (meets l m) calls))
    then list_all (λ x. not (meets l m x) || is_past l x) calls ∷ [] else []

-- a `Begin` or walk at this position is too early
abbrev pub early_by : List Call → ℕ → ℕ → ℕ → ℕ → Bool → List Early
early_by calls i t m q walks = if list_any (λ x. is_telling m x && (x.seq == q)) calls
    then record { thread = t; mirror = m; last = walks; at = i } ∷ [] else []

-- a walk has a sequence that its driver has read itself
abbrev pub reads_itself : ℕ → Look → Bool
reads_itself q l = is_none l.begun || not (q == l.seq)

-- a walk begins at this position
abbrev pub walked_by : ℕ → ℕ → Look → Look
walked_by i q l = record l {
  begun = if reads_itself q l then Some i else l.begun;
  seq = q;
  itself = l.itself || reads_itself q l;
  walked = None;
  found = if reads_itself q l || (is_begun l.stage || l.set) then [] else l.found;
  set = false;
}

-- a commit of a look-up at this position, if it is stale
abbrev pub stale_by : List Call → ℕ → ℕ → Look → List (ℕ × Bool)
stale_by calls i m l = if list_any (meets l m) calls
    then (i, list_any (λ x. meets l m x && goes_on x) calls) ∷ [] else []
