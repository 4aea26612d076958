-- A legal report that begins with the lines of a script and of entries that were due has that script, and begins with
-- those entries.
use Rattle.std.proofs.Common.{◌≡◌, ℕ, suc, ◌+◌, ◌<◌, ◌≤◌, ◌⊎◌, inl, inr, Option, None, List, [], ◌∷◌, ◌++◌, length, take, refl, sym, subst, ap, ◌∙◌, arith, append_assoc, append-nil}
use Rattle.std.specs.Prelude.{slice_get}
use Rattle.std.proofs.lemmas.Bool.{cases_lt}
use Rattle.std.proofs.lemmas.Option.{slice_get_past}
use Rattle.hm_base.specs.Program.{Program, IsScript}
use Rattle.hm_base.specs.declared.ops.Op.{Op}
use Rattle.hm_history.specs.Kernel.Due.{due, due_top}
use Rattle.hm_history.specs.Kernel.Going.{ops_of, op_at, state_of}
use Rattle.hm_history.specs.Laws.{DueFrom}
use Rattle.hm_history.specs.declared.Entry.{Entry}
use Rattle.hm_history.specs.declared.Progress.{Progress}
use Rattle.hm_script.specs.Automaton.{lines}
use Rattle.hm_report.specs.Report.{entry_line}
use Rattle.hm_report_front.specs.Parts.{entry_list}
use Rattle.hm_check.specs.Parts.{tail_of}
use Rattle.hm_report_front.proofs.Scripts.{cons_take}
use Rattle.hm_check.proofs.Naming.{tail_line, no_entry, same_actor}

-- ---- the entries

ops_past : (c : Program) (a : ℕ) → length c.actors ≤ a → ops_of c a ≡ []
ops_past c a le = rw (slice_get_past c.actors a le, ops_of) refl

-- an entry is due to an actor of the script alone
pub due_actor : (c : Program) (h : List Entry) (a : ℕ) (e : Entry) → IsScript c → due c h a ≡ Progress.Did e → a < 16
due_actor c h a e s is = by (cases_lt a (length c.actors))
  where
    idle : ops_of c a ≡ [] → due c h a ≡ Progress.Idle
    idle none = let no_op : op_at c a ((state_of c h).going a).index ≡ None = ap (λ (os : List Op). slice_get os ((state_of c h).going a).index) none in
        ap (λ (o : Option Op). due_top c (state_of c h).after a o ((state_of c h).going a).pages ((state_of c h).going a).stack) no_op

    by : (a < length c.actors) ⊎ (length c.actors ≤ a) → a < 16
    by (inl lt) = omega (arith, s.few_actors)
    by (inr le) = absurd (let no = idle (ops_past c a le) in cc)

-- two entries that are due, with one line, are equal
pub same_entry : (c : Program) (h : List Entry) (at : ℕ) (e f : Entry) → IsScript c → due c h e.actor ≡ Progress.Did e → due c h f.actor ≡ Progress.Did f → entry_line at e ≡ entry_line at f → e ≡ f
same_entry c h at e f s mine yours same =
    let actor : e.actor ≡ f.actor = same_actor at e f (due_actor c h e.actor e s mine) (due_actor c h f.actor f s yours) same in
    let both : Progress.Did e ≡ Progress.Did f = sym mine ∙ ap (due c h) actor ∙ yours in
    cc

-- the entries go on behind those that are shared
pub record Follows (c : Program) (done h g : List Entry) (at n : ℕ) (tail ls : List (List ℕ)) : Type 0 where
  pub more : List Entry
  pub is : g ≡ h ++ more
  pub due : DueFrom c (done ++ h) more
  pub shares : take n (entry_list (at + length h) more ++ tail) ≡ take n ls

pub follow : (c : Program) (whole done h g : List Entry) (at n : ℕ) (ls : List (List ℕ)) → IsScript c → DueFrom c done h → DueFrom c done g
    → take (length h + n) (entry_list at g ++ lines (tail_of c whole)) ≡ take (length h + n) (entry_list at h ++ ls) → Follows c done h g at n (lines (tail_of c whole)) ls
follow c whole done [] g at n ls s dues others same =
    let e : at + 0 ≡ at = omega arith in
    let z : 0 + n ≡ n = omega arith in
    let here = subst (λ (k : ℕ). take k (entry_list at g ++ lines (tail_of c whole)) ≡ take k ls) z same in
    record { more = g; is = refl; due = subst (λ (z : List Entry). DueFrom c z g) (sym (append-nil done)) others; shares = rw e here }
follow c whole done (e ∷ h) [] at n ls s dues others same =
    let t = tail_line c whole in
    let one_more : suc (length h) + n ≡ suc (length h + n) = omega arith in
    let here = subst (λ (k : ℕ). take k (lines (tail_of c whole)) ≡ take k (entry_line at e ∷ (entry_list (at + 1) h ++ ls))) one_more same in
    let first = cons_take (length h + n) t.line (entry_line at e) t.others (entry_list (at + 1) h ++ ls) (subst (λ (z : List (List ℕ)). take (suc (length h + n)) z ≡ take (suc (length h + n)) (entry_line at e ∷ (entry_list (at + 1) h ++ ls))) t.is here) in
    absurd (no_entry c whole at e t first.0)
follow c whole done (e ∷ h) (f ∷ g) at n ls s dues others same =
    let one_more : suc (length h) + n ≡ suc (length h + n) = omega arith in
    let here = subst (λ (k : ℕ). take k (entry_line at f ∷ (entry_list (at + 1) g ++ lines (tail_of c whole))) ≡ take k (entry_line at e ∷ (entry_list (at + 1) h ++ ls))) one_more same in
    let parts = cons_take (length h + n) (entry_line at f) (entry_line at e) (entry_list (at + 1) g ++ lines (tail_of c whole)) (entry_list (at + 1) h ++ ls) here in
    let one : f ≡ e = same_entry c done at f e s others.0 dues.0 parts.0 in
    let rest : DueFrom c (done ++ e ∷ []) g = subst (λ (z : Entry). DueFrom c (done ++ z ∷ []) g) one others.1 in
    let r = follow c whole (done ++ e ∷ []) h g (at + 1) n ls s dues.1 rest parts.1 in
    let k : (at + 1) + length h ≡ at + suc (length h) = omega arith in
    record {
      more = r.more;
      is = ap (λ (z : Entry). z ∷ g) one ∙ ap (λ (z : List Entry). e ∷ z) r.is;
      due = subst (λ (z : List Entry). DueFrom c z r.more) (append_assoc done (e ∷ []) h) r.due;
      shares = subst (λ (z : ℕ). take n (entry_list z r.more ++ lines (tail_of c whole)) ≡ take n ls) k r.shares;
    }
