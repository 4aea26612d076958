-- No legal history breaks `mmap-lock`: a walk begins with the entry that takes the lock.
use Rattle.std.proofs.Common.{refl, ap, ◌∙◌}
use Rattle.std.specs.Prelude.{◌≡◌, ℕ, Bool, true, false, not, Some, is_some, ⊤}
use Rattle.hm_history.specs.Memory.After.{After, after_entry}
use Rattle.hm_history.specs.Memory.Locks.{map_next}
use Rattle.hm_history.specs.Kernel.Going.{state_next}
use Rattle.hm_history.specs.declared.Kind.{Kind}
use Rattle.hm_history.specs.declared.Entry.{Entry}
use Rattle.hm_history.proofs.Updates.{here_at}
use Rattle.hm_protocol.specs.declared.events.Event.{Event}
use Rattle.hm_protocol.specs.declared.rules.Rule.{Rule}
use Rattle.hm_protocol.specs.Known.{Known, known_start}
use Rattle.hm_protocol.specs.Tests.{mmap_lock}
use Rattle.hm_protocol.specs.Projection.{project}
use Rattle.hm_protocol.specs.Laws.{IsKept}
use Rattle.hm_protocol.proofs.Fits.{Fits}
use Rattle.hm_protocol.proofs.Steps.{by, never, all_fit, watched}

has_lock : (s : After) (e : Entry) (p : ℕ) → e.kind ≡ Kind.Rlock p
    → is_some ((after_entry s e).locks.map e.actor) ≡ true
has_lock s e p r = ap (λ k. is_some (map_next s.locks e.actor k e.actor)) r
    ∙ ap is_some (here_at s.locks.map e.actor (Some (record { proc = p; writes = false })))

not_wrong : (b : Bool) (j : Kind) (k : Known) (a : ℕ) (x : Event) → ((p : ℕ) → j ≡ Kind.Rlock p → b ≡ true) → Fits b j x
    → mmap_lock k (by a x) ≡ false
not_wrong b j k a (Event.Walk m r q locked d) g h = ap not (h.0 ∙ g h.1.0 h.1.1)
not_wrong b j k a x g h = refl

-- no legal history breaks `mmap-lock`
pub mmap_lock_kept : IsKept Rule.MmapLock
mmap_lock_kept c sc h legal = never mmap_lock known_start (project c h) (watched c mmap_lock (λ k t. ⊤) sc
    (λ t e k s g. all_fit c t e mmap_lock (λ k. ⊤)
    (λ l x fits n. (not_wrong (is_some ((state_next c t e).after.locks.map e.actor)) e.kind l e.actor x (has_lock t.after e) fits, tt)) k tt)
    tt h legal).0
