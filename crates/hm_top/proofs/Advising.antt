-- The text of an advice on a history, and what a written text leaves in the sink.
use Rattle.std.proofs.Common.{◌≡◌, ◌∙◌, inl, inr, Bool, true, false, List, ℕ, refl, sym, ap, subst}
use Rattle.hm_advisor.specs.Counts.{counts}
use Rattle.hm_advisor.specs.Moves.{IsAdvice}
use Rattle.hm_advisor.specs.Text.{advice_text}
use Rattle.hm_advisor.specs.declared.advice.Advice.{Advice}
use Rattle.hm_base.specs.Program.{Program}
use Rattle.hm_history.specs.declared.Entry.{Entry}
use Rattle.hm_io.specs.Streams.{SinkState}
use Rattle.hm_report.specs.Written.{ReportWants, Writes}
use Rattle.hm_report.specs.declared.written.Written.{Written}
use Rattle.hm_top.specs.Advises.{advice_on}
use Rattle.hm_top.specs.Ran.{shown_status}
use Rattle.hm_edge.specs.Writing.{HasWritten}
use Rattle.hm_edge.specs.declared.status.Status.{Status}

pub same_text : (s : Program) (h : List Entry) (a : Advice) → IsAdvice h a → advice_text a ≡ advice_on s h
same_text s h a is = ap (λ cs. advice_text (record { counts = cs; moves = a.moves })) is.counts_are ∙ ap (λ ms. advice_text (record { counts = counts h; moves = ms })) is.moves_are

-- a text of what ran was written so
pub written_so : (text : List ℕ) (k k' : SinkState) (w : Written) (full : Bool) (status : Status) → status ≡ shown_status w full → Writes k.held k'.held text w → ReportWants k k' w → HasWritten text (λ t. t ≡ text) k k' status
written_so text k k' w full status is writes wants = subst (HasWritten text (λ t. t ≡ text) k k') (sym is) (by w full writes wants)
  where
    by : (w : Written) (full : Bool) → Writes k.held k'.held text w → ReportWants k k' w → HasWritten text (λ t. t ≡ text) k k' (shown_status w full)
    by Written.Done false writes wants = writes
    by Written.Done true writes wants = writes
    by Written.Fault full writes wants = writes
    by Written.NoMemory full writes (inl same) = inl (ap (λ x. x.held) same)
    by Written.NoMemory full writes (inr more) = inr (record { text = text; goes = refl; front = writes; wants = more.1 })
