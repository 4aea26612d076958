use Rattle.std.proofs.Common.{ℕ, Bool, Option, sym, ap, ◌∙◌}
use Rattle.std.proofs.Math.Path.{fun_ext}
use Rattle.hm_folds.specs.Kept.{sequences_of}
use Rattle.hm_folds.proofs.Tables.{owners}
use Rattle.hm_history.specs.Memory.Lookups.{narrows_guarded}
use Rattle.hm_history.specs.Memory.Places.{places_accept}
use Rattle.hm_history.specs.Memory.Plain.{Plain, plain_accepts}
use Rattle.hm_history.specs.Memory.Sequences.{Sequences, sequences_accept}
use Rattle.hm_parts.proofs.Answered.{may_follow, took}
use Rattle.hm_parts.specs.Short.{short_next}
use Rattle.hm_parts.proofs.Steps.{errs_same, on_parts, owners_on, plain_on, sequences_on, shown_on}
use Rattle.hm_parts.proofs.follower.Follower.take.Goals as goal

pub returns-clause-rules : goal.returns-clause-rules
returns-clause-rules c = λ p r f.
    let e = c.args.entry.now in
    record {
      answers = may_follow _ _ _ c.in_ok-answers.ensures.legal c.apply.ensures.legal ∙ ap (λ (s : Plain). plain_accepts s e.kind) f.plain;
      places = may_follow _ _ _ c.in_ok-places.ensures.legal (c.apply-3.ensures.legal p r.state.places f.shown) ∙ ap (λ (o : ℕ → Option ℕ). places_accept p o r.state.places e.actor e.kind) (fun_ext f.owners);
      frames = c.meets_frames-frames.ensures p r f;
      sequences = c.in_ok-sequences.ensures.legal ∙ took _ _ c.apply-2.ensures.legal ∙ ap (λ (s : Sequences). sequences_accept s e.actor e.kind) f.sequences;
      untold = c.meets_untold-untold.ensures r f.pasts;
      guarded = c.is_guarded_by-guarded.ensures p r.state.places f.shown ∙ ap (λ (s : Sequences). narrows_guarded s r.state.places.place e.actor e.kind) f.sequences;
      goes_on = c.leads_on.ensures;
    }

pub returns-clause-next : goal.returns-clause-next
returns-clause-next c = λ goes p r f long.
    let e = c.args.entry.now in
    let on = on_parts c.in_ok-answers.answers c.in_ok-places.places c.in_ok-sequences.sequences e.kind (sym c.leads_on.ensures ∙ goes) in
    record {
      plain = plain_on c.apply.result c.in_ok-answers.answers e.kind r.state.plain _ _ c.in_ok-answers.ensures.taken on.0 f.plain c.apply.ensures.ok c.apply.ensures.err;
      shown = shown_on c.apply-3.result c.in_ok-places.places e.kind p r.state.places _ _ c.in_ok-places.ensures.taken on.1 f.shown c.apply-3.ensures.ok c.apply-3.ensures.err;
      owners = owners_on owners c.apply-3.result c.in_ok-places.places e.kind r.state.plain _ _ c.in_ok-places.ensures.taken on.1 f.owners c.apply-3.ensures.owners c.apply-3.ensures.kept;
      sequences = sequences_on c.apply-2.result c.in_ok-sequences.sequences e.actor e.kind r.state.sequences _ _ c.in_ok-sequences.ensures.taken on.2 f.sequences c.apply-2.ensures.ok (errs_same sequences_of c.apply-2.result _ _ c.apply-2.ensures.err);
      pasts = c.in_ok-step.ensures p r long f.pasts;
      short = λ a. c.note_short.ensures p r.state.places f.shown a ∙ ap (λ (b : Bool). short_next p r.state.places a b e) (f.short a);
    }
