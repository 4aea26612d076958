-- A list of traces is read trace by trace.
use Rattle.std.proofs.Common.{◌≡◌, ◌+◌, ℕ, Bool, true, false, List, [], ◌∷◌, Result, Ok, Err, refl, sym, ap, ◌∙◌, subst, length}
use Rattle.std.specs.Prelude.{if◌then◌else◌}
use Rattle.hm_trace.specs.declared.reader.Refused.{Refused}
use Rattle.hm_trace_top.specs.Heard.{Heard, hear, hear_all}
use Rattle.hm_trace_top.specs.Lists.{Named, after_body, body, is_header, is_rest, traces_in}
use Rattle.hm_trace_top.specs.Reading.{Read, read_of}
use Rattle.hm_trace_top.specs.declared.ended.Ended.{Ended}

-- ---- lines

-- after a trace the next one comes, if there is one
after_rest : (ls : List (List ℕ)) → is_rest (after_body ls) ≡ true
after_rest [] = refl
after_rest (l ∷ ls) = by (is_header l) refl (after_rest ls)
  where
    by : (b : Bool) → is_header l ≡ b → is_rest (after_body ls) ≡ true → is_rest (if b then l ∷ ls else after_body ls) ≡ true
    by true e h = e
    by false e h = h

abbrev the_trace : List ℕ → List (List ℕ) → Named
the_trace l ls = record { header = l; lines = body ls }

headed : (l : List ℕ) (ls : List (List ℕ)) (b : Bool) → is_header l ≡ b → traces_in (l ∷ ls) ≡ (if b then the_trace l ls ∷ traces_in ls else traces_in ls)
headed l ls b e = ap (λ c. if c then the_trace l ls ∷ traces_in ls else traces_in ls) e

-- the lines of a trace are of no other one
after_same : (ls : List (List ℕ)) → traces_in (after_body ls) ≡ traces_in ls
after_same [] = refl
after_same (l ∷ ls) = by (is_header l) refl (after_same ls)
  where
    by : (b : Bool) → is_header l ≡ b → traces_in (after_body ls) ≡ traces_in ls → traces_in (if b then l ∷ ls else after_body ls) ≡ (if b then the_trace l ls ∷ traces_in ls else traces_in ls)
    by true e h = headed l ls true e
    by false e h = h

-- ---- a trace of a list

-- by what is read of its lines
abbrev then_heard : Heard → List ℕ → List Named → Result Read Refused → Result Heard Ended
then_heard h l xs z = elim z [ Ok r ↦ hear_all (hear h l r) xs | Err why ↦ Err (Ended.RefusedIn (length h.said + 1) why) ]

first_heard : (h : Heard) (all : List (List ℕ)) (l : List ℕ) (ls : List (List ℕ)) (z : Result Read Refused) → all ≡ l ∷ ls → is_rest all ≡ true → read_of (body ls) ≡ z
    → hear_all h (traces_in all) ≡ then_heard h l (traces_in ls) z
first_heard h all l ls z e rest read =
    ap (λ a. hear_all h (traces_in a)) e
    ∙ ap (hear_all h) (headed l ls true (subst (λ a. is_rest a ≡ true) e rest))
    ∙ ap (then_heard h l (traces_in ls)) read

pub part_heard : (h u : Heard) (all : List (List ℕ)) (l : List ℕ) (ls left : List (List ℕ)) (r : Read) → all ≡ l ∷ ls → is_rest all ≡ true → read_of (body ls) ≡ Ok r → left ≡ after_body ls
    → u ≡ hear h l r → hear_all u (traces_in left) ≡ hear_all h (traces_in all)
part_heard h u all l ls left r e rest read after heard =
    ap (λ a. hear_all u (traces_in a)) after ∙ ap (hear_all u) (after_same ls) ∙ ap (λ x. hear_all x (traces_in ls)) heard
    ∙ sym (first_heard h all l ls (Ok r) e rest read)

pub left_named : (left ls : List (List ℕ)) → left ≡ after_body ls → is_rest left ≡ true
left_named left ls e = subst (λ a. is_rest a ≡ true) (sym e) (after_rest ls)
