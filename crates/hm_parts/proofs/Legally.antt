-- The entries of a history that were due may follow those before them.
use Rattle.std.proofs.Common.{◌≡◌, ℕ, zero, suc, ◌<◌, Bool, true, List, [], ◌∷◌, ◌++◌, length, get_or, take, append-nil, append_assoc, sym, ap, ◌∙◌, subst, arith}
use Rattle.hm_base.specs.Program.{Program, IsScript}
use Rattle.hm_history.specs.Memory.After.{after}
use Rattle.hm_history.specs.Memory.Places.{places_accept}
use Rattle.hm_history.specs.Memory.Plain.{mirror_owner}
use Rattle.hm_history.specs.Memory.Rules.{KeepsRules}
use Rattle.hm_history.specs.Memory.Sequences.{sequences_accept}
use Rattle.hm_history.specs.Kernel.Legal.{LegalFrom}
use Rattle.hm_history.specs.Laws.{DueFrom}
use Rattle.hm_history.specs.declared.Entry.{Entry}
use Rattle.hm_laws.proofs.Histories.Legal.{every_history}
use Rattle.hm_parts.specs.Rules.{leads_on}
use Rattle.hm_parts.specs.Rules as Rules

rules_from : (c : Program) (g h : List Entry) (i : ℕ) (d : Entry) → i < length h → LegalFrom c g h → KeepsRules c (g ++ take i h) (get_or h i d)
rules_from c g [] i d below l = absurd (omega (arith, below))
rules_from c g (e ∷ h) zero d below l = subst (λ (y : List Entry). KeepsRules c y e) (sym (append-nil g)) l.0.rules
rules_from c g (e ∷ h) (suc i) d below l =
    subst (λ (y : List Entry). KeepsRules c y (get_or h i d)) (append_assoc g (e ∷ []) (take i h))
    (rules_from c (g ++ e ∷ []) h i d (omega (arith, below)) l.1)

-- each keeps the rules
pub rules_at : (c : Program) → IsScript c → (h : List Entry) → DueFrom c [] h → (i : ℕ) (d : Entry) → i < length h → d ≡ get_or h i d → KeepsRules c (take i h) d
rules_at c sc h due i d below is = subst (KeepsRules c (take i h)) (sym is) (rules_from c [] h i d below (every_history c sc h due))

-- so there is a state after each
pub leads : (c : Program) (h : List Entry) (e : Entry) → KeepsRules c h e → (Rules.rules_at c h e).goes_on ≡ true
leads c h e k =
    let places = places_accept c (mirror_owner (after h).plain) (after h).places e.actor e.kind in
    let sequences = sequences_accept (after h).sequences e.actor e.kind in
    ap (λ (b : Bool). leads_on b places sequences e.kind) k.answers
    ∙ ap (λ (b : Bool). leads_on true b sequences e.kind) k.places
    ∙ ap (λ (b : Bool). leads_on true true b e.kind) k.sequences
