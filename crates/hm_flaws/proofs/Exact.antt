-- Entries that lead to the same state, and of which the parts of legality recall the same, go on alike.
use Rattle.std.proofs.Common.{◌≡◌, ℕ, List, [], ◌∷◌, ◌++◌, sym, ap, ◌∙◌, subst, append_assoc}
use Rattle.std.proofs.lemmas.List.Sums.{fold-append}
use Rattle.hm_base.specs.Program.{Program}
use Rattle.hm_history.specs.declared.Entry.{Entry}
use Rattle.hm_history.specs.declared.Progress.{Progress}
use Rattle.hm_flaws.specs.declared.flaws.Flaw.{Flaw}
use Rattle.hm_flaws.specs.Flawed.{Flawed, flawed_next, flawed_after, due_by}
use Rattle.hm_flaws.specs.Parts.{Part}
use Rattle.hm_flaws.specs.Judged.{IsDueBy, broken_by, BreaksNone}
use Rattle.hm_flaws.specs.Recalled.{recalled_start, recalled_next, recalled_of, broken_part_in}
use Rattle.hm_flaws.specs.Closed.{Matched, IsLikeness, AllSafe, TellsApart}
use Rattle.hm_flaws.proofs.Judging.{after_more}
use Rattle.hm_flaws.proofs.Recalling.{broken_is}
use Rattle.hm_flaws.proofs.Searched.{safe_breaks_none}

abbrev Alike : Flaw → Program → List Entry → List Entry → List Entry → Type 0
Alike l c h x y = (flawed_after l c h x ≡ flawed_after l c h y) × (recalled_of c (h ++ x) ≡ recalled_of c (h ++ y))

recalled_more : (c : Program) (h x : List Entry) (e : Entry) → recalled_of c (h ++ (x ++ e ∷ [])) ≡ recalled_next c (recalled_of c (h ++ x)) e
recalled_more c h x e = ap (recalled_of c) (sym (append_assoc h x (e ∷ []))) ∙ fold-append (recalled_next c) recalled_start (h ++ x) (e ∷ [])

judged_alike : (parts : List Part) (l : Flaw) (c : Program) (h x y : List Entry) (e : Entry) → Alike l c h x y → broken_by parts l c h x e ≡ broken_by parts l c h y e
judged_alike parts l c h x y e r = broken_is parts c (h ++ x) (flawed_after l c h x).state.going e
    ∙ (ap (λ (t : Flawed). broken_part_in parts c (recalled_of c (h ++ x)) t.state.going e) r.0
    ∙ (ap (λ n. broken_part_in parts c n (flawed_after l c h y).state.going e) r.1
    ∙ sym (broken_is parts c (h ++ y) (flawed_after l c h y).state.going e)))

goes_alike : (parts : List Part) (l : Flaw) (c : Program) (h x y : List Entry) (e : Entry) → Alike l c h x y → IsDueBy l c h x e → Matched parts l c h (Alike l c h) x y e
goes_alike parts l c h x y e r d = record {
  entry = e;
  is_due = subst (λ t. due_by l c t e.actor ≡ Progress.Did e) r.0 d;
  next = (after_more l c h x e ∙ (ap (λ t. flawed_next l c t e) r.0 ∙ sym (after_more l c h y e)), recalled_more c h x e ∙ (ap (λ n. recalled_next c n e) r.1 ∙ sym (recalled_more c h y e)));
  passes = λ p. judged_alike parts l c h x y e r ∙ p;
}

pub closed_breaks_none : (parts : List Part) (l : Flaw) (c : Program) (h : List Entry) (key : List Entry → List ℕ) (ks : List (List ℕ)) → TellsApart parts l c h key → AllSafe parts l c h key ks → BreaksNone parts l c h
closed_breaks_none parts l c h key ks tells all = safe_breaks_none parts l c h key (Alike l c h) ks like all
  where
    like : IsLikeness parts l c h key (Alike l c h)
    like = record { by_key = tells; joined = λ x y z r s. (r.0 ∙ s.0, r.1 ∙ s.1); goes_on = goes_alike parts l c h }
