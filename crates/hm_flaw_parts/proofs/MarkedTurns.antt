-- The marks of a history with one entry more, and what is recalled by them.
use Rattle.std.proofs.Common.{◌≡◌, List, [], ◌∷◌, ◌++◌, refl, sym, ap, ◌∙◌, fold, append_assoc}
use Rattle.hm_base.specs.Program.{Program}
use Rattle.hm_history.specs.Memory.After.{After, after_nothing, after_entry, after}
use Rattle.hm_history.specs.declared.Entry.{Entry}
use Rattle.hm_flaws.specs.declared.parts.Part.{Part}
use Rattle.hm_flaws.specs.Flawed.{Flawed}
use Rattle.hm_flaws.specs.Parts.{broken_part}
use Rattle.hm_flaws.specs.Recalled.{recalled_next, recalled_of, broken_part_in}
use Rattle.hm_flaws.proofs.Recalling.{broken_is}
use Rattle.hm_flaw_parts.specs.Marks.{Marked, marked_start, marked_next, recalled_by}
use Rattle.hm_flaw_parts.proofs.Telling.{marks_recall}
use Rattle.hm_flaw_parts.specs.Races.Races.{marked_along, marked_of}

along_more : (c : Program) (s : After) (x : Marked) (es : List Entry) (e : Entry) → marked_along c s x (es ++ e ∷ []) ≡ marked_next c (fold after_entry s es) (marked_along c s x es) e
along_more c s x [] e = refl
along_more c s x (d ∷ es) e = along_more c (after_entry s d) (marked_next c s x d) es e

pub marked_more : (c : Program) (h es : List Entry) (e : Entry) → marked_of c (h ++ (es ++ e ∷ [])) ≡ marked_next c (after (h ++ es)) (marked_of c (h ++ es)) e
marked_more c h es e = ap (marked_of c) (sym (append_assoc h es (e ∷ []))) ∙ along_more c after_nothing marked_start (h ++ es) e

along_recalled : (c : Program) (s : After) (x : Marked) (es : List Entry) → recalled_by (fold after_entry s es) (marked_along c s x es) ≡ fold (recalled_next c) (recalled_by s x) es
along_recalled c s x [] = refl
along_recalled c s x (e ∷ es) = along_recalled c (after_entry s e) (marked_next c s x e) es ∙ ap (λ r. fold (recalled_next c) r es) (marks_recall.next c s x e)

-- what is recalled of a history is given by its state and its marks
pub recalled_is : (c : Program) (h : List Entry) → recalled_by (after h) (marked_of c h) ≡ recalled_of c h
recalled_is c h = along_recalled c after_nothing marked_start h ∙ ap (λ r. fold (recalled_next c) r h) marks_recall.start

-- so is which part an entry breaks
pub broken_same : (parts : List Part) (c : Program) (h : List Entry) (t : Flawed) (e : Entry) → t.state.after ≡ after h → broken_part_in parts c (recalled_by t.state.after (marked_of c h)) t.state.going e ≡ broken_part parts c h t.state.going e
broken_same parts c h t e s =
    ap (λ (z : After). broken_part_in parts c (recalled_by z (marked_of c h)) t.state.going e) s
    ∙ (ap (λ r. broken_part_in parts c r t.state.going e) (recalled_is c h)
    ∙ sym (broken_is parts c h t.state.going e))
