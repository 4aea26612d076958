-- The actor that an entry's line names, and how lines begin.
use Rattle.std.proofs.Common.{◌≡◌, ℕ, ◌+◌, ◌/◌, ◌%◌, ◌<◌, ◌≤◌, ◌⊎◌, inl, inr, Bool, true, false, cond, eqb, List, [], ◌∷◌, ◌++◌, length, get_or, refl, sym, ap, ◌∙◌, arith, append_assoc}
use Rattle.std.specs.Prelude.{codes}
use Rattle.std.specs.List.{flat_map, join_with_byte}
use Rattle.std.specs.Fmt.{decimal, digits}
use Rattle.std.proofs.lemmas.Bool.{cases_lt}
use Rattle.std.proofs.lemmas.Bool.Decides.{nat_tests}
use Rattle.std.proofs.lemmas.Fmt.{decimal_digit, decimal_step}
use Rattle.std.proofs.lemmas.List.{append_cancel_left}
use Rattle.hm_base.specs.Program.{Program}
use Rattle.hm_history.specs.Memory.Words.{numbers}
use Rattle.hm_history.specs.Kernel.Going.{ops_of}
use Rattle.hm_history.specs.declared.Entry.{Entry}
use Rattle.hm_script.specs.Automaton.{lines, onto_line}
use Rattle.hm_script.specs.Spelling.{line}
use Rattle.hm_report.specs.Words.{actor_text, kind_words}
use Rattle.hm_report.specs.Report.{entry_line, unfinished_line, end_line, first_unended}
use Rattle.hm_report_front.proofs.FirstByte.{entry_first}
use Rattle.hm_check.specs.Parts.{IsNoDigit, tail_of}

-- ---- the actor

-- a word, and the byte after it
pub record Ended (w text : List ℕ) : Type 0 where
  pub byte : ℕ
  pub rest : List ℕ
  pub no_digit : IsNoDigit byte
  pub is : text ≡ w ++ byte ∷ rest

word_ended : (w : List ℕ) (ws : List (List ℕ)) → Ended w (line (w ∷ ws))
word_ended w [] = record { byte = 10; rest = []; no_digit = omega arith; is = refl }
word_ended w (v ∷ ws) = record { byte = 32; rest = join_with_byte 32 (v ∷ ws) ++ 10 ∷ []; no_digit = omega arith; is = append_assoc w (32 ∷ join_with_byte 32 (v ∷ ws)) (10 ∷ []) }

-- what stands before the actor's number in an entry's line
abbrev pub lead : ℕ → List ℕ
lead at = decimal at ++ 32 ∷ 97 ∷ []

pub entry_ended : (at : ℕ) (e : Entry) → Ended (lead at ++ decimal e.actor) (entry_line at e)
entry_ended at e =
    let w = word_ended (actor_text e.actor) (kind_words e.kind) in
    record {
      byte = w.byte;
      rest = w.rest;
      no_digit = w.no_digit;
      is = append_assoc (decimal at) (32 ∷ join_with_byte 32 (actor_text e.actor ∷ kind_words e.kind)) (10 ∷ []) ∙ ap (λ (z : List ℕ). decimal at ++ 32 ∷ z) w.is ∙ sym (append_assoc (decimal at) (32 ∷ 97 ∷ []) (decimal e.actor ++ w.byte ∷ w.rest)) ∙ sym (append_assoc (lead at) (decimal e.actor) (w.byte ∷ w.rest));
    }

-- bytes that begin with the number of an actor
pub record Names (a : ℕ) (text : List ℕ) : Type 0 where
  pub long : 2 ≤ length text
  pub digits_are : ((a < 10) × (get_or text 0 0 ≡ 48 + a) × (get_or text 1 0 < 48)) ⊎ ((10 ≤ a) × (get_or text 0 0 ≡ 49) × (get_or text 1 0 ≡ 38 + a))

pub names : (a b : ℕ) (more text : List ℕ) → a < 16 → IsNoDigit b → text ≡ decimal a ++ b ∷ more → Names a text
unfolding digits
names a b more text few late e = by (cases_lt a 10)
  where
    small : a < 10 → Names a text
    small lt =
        let is : text ≡ (48 + a) ∷ b ∷ more = e ∙ ap (λ (z : List ℕ). z ++ b ∷ more) (decimal_digit a lt) in
        rw is (record { long = omega arith; digits_are = inl (lt, refl, late) })

    large : 10 ≤ a → Names a text
    large le =
        let q : a / 10 ≡ 1 = omega arith in
        let r : a % 10 + 10 ≡ a = omega arith in
        let two : decimal a ≡ 49 ∷ (48 + a % 10) ∷ [] = decimal_step a le (omega arith) ∙ ap (λ (n : ℕ). decimal n ++ (48 + a % 10) ∷ []) q in
        let is : text ≡ 49 ∷ (48 + a % 10) ∷ b ∷ more = e ∙ ap (λ (z : List ℕ). z ++ b ∷ more) two in
        rw is (record { long = omega arith; digits_are = inr (le, refl, omega arith) })

    by : (a < 10) ⊎ (10 ≤ a) → Names a text
    by (inl lt) = small lt
    by (inr le) = large le

pub same_name : (a b : ℕ) (text : List ℕ) → Names a text → Names b text → a ≡ b
same_name a b text m n = by m.digits_are n.digits_are
  where
    by : ((a < 10) × (get_or text 0 0 ≡ 48 + a) × (get_or text 1 0 < 48)) ⊎ ((10 ≤ a) × (get_or text 0 0 ≡ 49) × (get_or text 1 0 ≡ 38 + a))
        → ((b < 10) × (get_or text 0 0 ≡ 48 + b) × (get_or text 1 0 < 48)) ⊎ ((10 ≤ b) × (get_or text 0 0 ≡ 49) × (get_or text 1 0 ≡ 38 + b)) → a ≡ b
    by (inl x) (inl y) = omega (arith, x.1, y.1)
    by (inl x) (inr y) = absurd (omega (arith, x.2, y.0, y.2))
    by (inr x) (inl y) = absurd (omega (arith, y.2, x.0, x.2))
    by (inr x) (inr y) = omega (arith, x.2, y.2)

-- what follows there
pub entry_cut : (at : ℕ) (e : Entry) (text : List ℕ) → lead at ++ text ≡ entry_line at e → text ≡ decimal e.actor ++ (entry_ended at e).byte ∷ (entry_ended at e).rest
entry_cut at e text same =
    let w = entry_ended at e in
    append_cancel_left (lead at) text (decimal e.actor ++ w.byte ∷ w.rest) (same ∙ w.is ∙ append_assoc (lead at) (decimal e.actor) (w.byte ∷ w.rest))

pub entry_led : (at : ℕ) (e : Entry) → (text : List ℕ) × (entry_line at e ≡ lead at ++ text)
entry_led at e = let w = entry_ended at e in (decimal e.actor ++ w.byte ∷ w.rest, w.is ∙ append_assoc (lead at) (decimal e.actor) (w.byte ∷ w.rest))

pub entry_names : (at : ℕ) (e : Entry) (text : List ℕ) → e.actor < 16 → lead at ++ text ≡ entry_line at e → Names e.actor text
entry_names at e text few same = let w = entry_ended at e in names e.actor w.byte w.rest text few w.no_digit (entry_cut at e text same)

-- lines of two entries at one position name one actor
pub same_actor : (at : ℕ) (e f : Entry) → e.actor < 16 → f.actor < 16 → entry_line at e ≡ entry_line at f → e.actor ≡ f.actor
same_actor at e f few others same =
    let w = entry_ended at e in
    let text : List ℕ = decimal e.actor ++ w.byte ∷ w.rest in
    let is : lead at ++ text ≡ entry_line at e = sym (w.is ∙ append_assoc (lead at) (decimal e.actor) (w.byte ∷ w.rest)) in
    same_name e.actor f.actor text (entry_names at e text few is) (entry_names at f text others (is ∙ same))

-- ---- the first byte

-- bytes that begin with a letter
pub record Letters (text : List ℕ) : Type 0 where
  pub first : ℕ
  pub rest : List ℕ
  pub high : 58 ≤ first
  pub is : text ≡ first ∷ rest

among_letters : (f : ℕ → ℕ) (g : ℕ → ℕ) (n : ℕ) (actors : List ℕ) → Letters (flat_map (λ a. unfinished_line a (f a) (g a)) actors ++ end_line n)
among_letters f g n [] = record { first = 101; rest = _; high = omega arith; is = refl }
among_letters f g n (a ∷ actors) = by (among_letters f g n actors) (eqb (f a) (g a))
  where
    by : Letters (flat_map (λ a. unfinished_line a (f a) (g a)) actors ++ end_line n) → (t : Bool) → Letters ((cond t [] (line (codes "unfinished" ∷ actor_text a ∷ decimal (f a) ∷ [])) ++ flat_map (λ a. unfinished_line a (f a) (g a)) actors) ++ end_line n)
    by more true = more
    by more false = record { first = 117; rest = _; high = omega arith; is = refl }

tail_letters : (c : Program) (h : List Entry) → Letters (tail_of c h)
tail_letters c h = among_letters (first_unended c h) (λ a. length (ops_of c a)) (length h) (numbers 0 (length c.actors))

-- the first line of the end
pub record TailLine (c : Program) (h : List Entry) : Type 0 where
  pub line : List ℕ
  pub others : List (List ℕ)
  pub is : lines (tail_of c h) ≡ line ∷ others
  pub high : 58 ≤ get_or line 0 0

onto_first : (b : ℕ) (ls : List (List ℕ)) → (l : List ℕ) × (others : List (List ℕ)) × (onto_line b ls ≡ (b ∷ l) ∷ others)
onto_first b [] = ([], [], refl)
onto_first b (l ∷ ls) = (l, ls, refl)

pub tail_line : (c : Program) (h : List Entry) → TailLine c h
tail_line c h =
    let t = tail_letters c h in
    let other : eqb t.first 10 ≡ false = not_feed t.first t.high in
    let o = onto_first t.first (lines t.rest) in
    let first : lines (t.first ∷ t.rest) ≡ onto_line t.first (lines t.rest) = rw other refl in
    record { line = t.first ∷ o.0; others = o.1; is = ap lines t.is ∙ first ∙ o.2; high = t.high }
  where
    not_feed : (b : ℕ) → 58 ≤ b → eqb b 10 ≡ false
    not_feed b le = grind (arith, nat_tests)

-- which is no entry's
pub no_entry : (c : Program) (h : List Entry) (at : ℕ) (e : Entry) (t : TailLine c h) → t.line ≡ entry_line at e → ⊥
no_entry c h at e t same = let first : get_or t.line 0 0 ≡ get_or (entry_line at e) 0 0 = ap (λ (z : List ℕ). get_or z 0 0) same in omega (arith, entry_first at e, t.high)
