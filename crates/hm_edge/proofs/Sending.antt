-- How a text went out, by how its write ended.
use Rattle.std.proofs.Common.{◌≡◌, inr, List, ℕ, sym, subst}
use Rattle.hm_io.specs.Streams.{Adds, AddsFront, Rose, SinkState}
use Rattle.hm_edge.specs.Writing.{HasWritten}
use Rattle.hm_edge.specs.declared.status.Status.{Status}

module _ (t u : List ℕ) (k k' : SinkState) (status : Status) (same : u ≡ t) where
  pub short : status ≡ Status.NoMemory → AddsFront k.held k'.held u → Rose k.wants k'.wants → HasWritten t (λ x. x ≡ t) k k' status
  short is front wants = subst (HasWritten t (λ x. x ≡ t) k k') (sym is) (inr (record { text = u; goes = same; front = front; wants = wants }))

  pub whole : status ≡ Status.Done → Adds k.held k'.held u → HasWritten t (λ x. x ≡ t) k k' status
  whole is adds = subst (HasWritten t (λ x. x ≡ t) k k') (sym is) (subst (Adds k.held k'.held) same adds)

  pub cut_off : status ≡ Status.WriteFault → AddsFront k.held k'.held u → HasWritten t (λ x. x ≡ t) k k' status
  cut_off is front = subst (HasWritten t (λ x. x ≡ t) k k') (sym is) (subst (AddsFront k.held k'.held) same front)
