-- States from their parts.
use Rattle.std.proofs.Common.{◌≡◌, ℕ, Bool, Option, List, ap, ◌∙◌}
use Rattle.hm_base.specs.declared.Frame.{Frame}
use Rattle.hm_base.specs.declared.Place.{Place}
use Rattle.hm_history.specs.Memory.Plain.{Plain}
use Rattle.hm_history.specs.Memory.Places.{Places, TableEntry}
use Rattle.hm_history.specs.Memory.Sequences.{Sequences}
use Rattle.hm_history.specs.Memory.Locks.{Locks}
use Rattle.hm_history.specs.Memory.After.{After}
use Rattle.hm_history.specs.declared.locks.MapLock.{MapLock}

-- places that have these parts
abbrev places_made : (ℕ → ℕ → Place) → List (ℕ × ℕ) → (Frame → Bool) → (Frame → Option Frame) → (ℕ → Bool) → (ℕ → Bool) → (ℕ → ℕ → Option TableEntry) → (ℕ → Option ℕ) → Places
places_made a b c d e f g h = record { place = a; placed = b; held = c; committed_to = d; withdrawn = e; removed = f; table = g; device = h }

pub same_places : (s t : Places) → s.place ≡ t.place → s.placed ≡ t.placed → s.held ≡ t.held → s.committed_to ≡ t.committed_to → s.withdrawn ≡ t.withdrawn → s.removed ≡ t.removed → s.table ≡ t.table → s.device ≡ t.device → s ≡ t
same_places s t a b c d e f g h =
    ap (λ x. places_made x s.placed s.held s.committed_to s.withdrawn s.removed s.table s.device) a
    ∙ ap (λ x. places_made t.place x s.held s.committed_to s.withdrawn s.removed s.table s.device) b
    ∙ ap (λ x. places_made t.place t.placed x s.committed_to s.withdrawn s.removed s.table s.device) c
    ∙ ap (λ x. places_made t.place t.placed t.held x s.withdrawn s.removed s.table s.device) d
    ∙ ap (λ x. places_made t.place t.placed t.held t.committed_to x s.removed s.table s.device) e
    ∙ ap (λ x. places_made t.place t.placed t.held t.committed_to t.withdrawn x s.table s.device) f
    ∙ ap (λ x. places_made t.place t.placed t.held t.committed_to t.withdrawn t.removed x s.device) g
    ∙ ap (λ x. places_made t.place t.placed t.held t.committed_to t.withdrawn t.removed t.table x) h

abbrev locks_made : (ℕ → Option MapLock) → (Frame → Option ℕ) → Locks
locks_made a b = record { map = a; frame = b }

pub same_locks : (s t : Locks) → s.map ≡ t.map → s.frame ≡ t.frame → s ≡ t
same_locks s t a b = ap (λ x. locks_made x s.frame) a ∙ ap (λ x. locks_made t.map x) b

abbrev after_made : ℕ → Plain → Places → Sequences → Locks → (Frame → ℕ → ℕ) → After
after_made n a b c d e = record { length = n; plain = a; places = b; sequences = c; locks = d; contents = e }

pub same_after : (s t : After) → s.length ≡ t.length → s.plain ≡ t.plain → s.places ≡ t.places → s.sequences ≡ t.sequences → s.locks ≡ t.locks → s.contents ≡ t.contents → s ≡ t
same_after s t n a b c d e =
    ap (λ x. after_made x s.plain s.places s.sequences s.locks s.contents) n
    ∙ ap (λ x. after_made t.length x s.places s.sequences s.locks s.contents) a
    ∙ ap (λ x. after_made t.length t.plain x s.sequences s.locks s.contents) b
    ∙ ap (λ x. after_made t.length t.plain t.places x s.locks s.contents) c
    ∙ ap (λ x. after_made t.length t.plain t.places t.sequences x s.contents) d
    ∙ ap (λ x. after_made t.length t.plain t.places t.sequences t.locks x) e
