-- A world that has gone on by the entries before a position.
use Rattle.std.proofs.Common.{◌≡◌, ℕ, ◌+◌, ◌<◌, None, List, [], ◌∷◌, ◌++◌, length, get_or, take, sym, ap, ◌∙◌, subst}
use Rattle.std.specs.Prelude.{nat_le}
use Rattle.std.proofs.lemmas.List.{take_more}
use Rattle.hm_base.specs.Program.{Program}
use Rattle.hm_history.specs.Kernel.Due.{due}
use Rattle.hm_history.specs.Laws.{DueFrom}
use Rattle.hm_history.specs.declared.Entry.{Entry}
use Rattle.hm_history.specs.declared.Progress.{Progress}
use Rattle.hm_world.specs.WorldValue.{WorldValue, grown}
use Rattle.hm_view.specs.Rows.{row, rows}
use Rattle.hm_view.proofs.Texts.{one_row}
use Rattle.hm_history.proofs.RunLemmas.{due_at}

-- it has gone on so far, and the rows so far were added
pub record SoFar (c : Program) (h : List Entry) (from at : ℕ) (old new : List ℕ) (w : WorldValue) : Type 0 where
  pub script : w.script ≡ c
  pub history : w.history ≡ take at h
  pub running : w.halted ≡ None
  pub text : new ≡ old ++ rows c h from at

pub is_due : (c : Program) (h : List Entry) (from at : ℕ) (old new : List ℕ) (w : WorldValue) (e : Entry) → SoFar c h from at old new w → at < length h → e ≡ get_or h at e → DueFrom c [] h → due w.script w.history e.actor ≡ Progress.Did e
is_due c h from at old new w e s below is dues =
    subst (λ (y : Entry). due w.script w.history y.actor ≡ Progress.Did y) (sym is)
    (subst (λ (x : Program). due x w.history (get_or h at e).actor ≡ Progress.Did (get_or h at e)) (sym s.script)
    (subst (λ (g : List Entry). due c g (get_or h at e).actor ≡ Progress.Did (get_or h at e)) (sym s.history) (due_at c [] h at e below dues)))

pub goes_on : (c : Program) (h : List Entry) (from at : ℕ) (old text new : List ℕ) (w u : WorldValue) (e : Entry) → SoFar c h from at old text w → at < length h → e ≡ get_or h at e → u ≡ grown w e.actor e.kind → new ≡ text ++ row w.script w.history (nat_le from at) e → SoFar c h from (at + 1) old new u
goes_on c h from at old text new w u e s below is grew next = record {
  script = ap (λ (t : WorldValue). t.script) grew ∙ s.script;
  history = ap (λ (t : WorldValue). t.history) grew ∙ ap (λ (g : List Entry). g ++ e ∷ []) s.history
      ∙ ap (λ (y : Entry). take at h ++ y ∷ []) is ∙ sym (take_more h at e below);
  running = ap (λ (t : WorldValue). t.halted) grew ∙ s.running;
  text = one_row c h from at e old text new below s.text (next
      ∙ ap (λ (x : Program). text ++ row x w.history (nat_le from at) e) s.script
      ∙ ap (λ (g : List Entry). text ++ row c g (nat_le from at) e) s.history
      ∙ ap (λ (y : Entry). text ++ row c (take at h) (nat_le from at) y) is);
}
