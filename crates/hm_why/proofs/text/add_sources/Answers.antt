use Rattle.std.proofs.Common.{◌≡◌, ◌-◌, ◌+◌, map, append-nil, ◌++◌, ◌∷◌, subst, sym, ap, ◌∙◌, arith}
use Rattle.hm_history.specs.Memory.Words.{numbers}
use Rattle.hm_report.specs.Line.{spaced}
use Rattle.hm_why.specs.Changes.{change_at, last_change, IsAhead}
use Rattle.hm_why.specs.Loads.{source_text}
use Rattle.hm_why.specs.Writers.{source_in}
use Rattle.hm_why.proofs.Ahead.{entry_kept}
use Rattle.hm_why.proofs.Texts.{one_text}
use Rattle.hm_why.proofs.text.add_sources.Goals as goal

pub loop-byte-init : goal.loop-byte-init
loop-byte-init c = record {
  change = change_at c.changes_of-changes.result.now;
  is = c.changes_of-changes.ensures;
  lines = sym (ap (λ n. c.args.text.now ++ spaced (map source_text (map (source_in c.args.writers.now c.args.proc) (numbers c.args.addr n)))) none ∙ append-nil c.args.text.now);
  entry = λ e. sym c.get-source.ensures;
  rest = subst (λ es. IsAhead (change_at c.changes_of-changes.result.now) es c.args.addr (c.args.addr + c.args.len)) c.next_change-next.ensures c.ahead-points.ensures;
}
  where
    none : c.args.addr - c.args.addr ≡ 0
    none = omega arith

pub loop-byte-preserved : goal.loop-byte-preserved
loop-byte-preserved c =
    let f = c.loop-byte.invariant.change in
    let is : last_change f c.loop-byte.byte ≡ c.entry_on-source.result =
    c.entry_on-source.ensures.entry f (c.args.addr + c.args.len) c.loop-byte.invariant.rest (omega arith) c.loop-byte.invariant.entry in
    record {
      change = f;
      is = c.loop-byte.invariant.is;
      lines =
          one_text (source_in c.args.writers.now c.args.proc) c.args.text.now c.loop-byte.text c.add_source.new.text c.args.addr c.loop-byte.byte
          c.loop-byte.auto.byte c.loop-byte.invariant.lines
          (c.in_ok-add_source.ensures ∙ ap (λ x. c.loop-byte.text ++ 32 ∷ source_text x) (sym (c.loop-byte.invariant.is c.loop-byte.byte ∙ is)));
      entry = λ e. entry_kept f c.loop-byte.byte e ∙ is;
      rest = c.entry_on-source.ensures.ahead f (c.args.addr + c.args.len) c.loop-byte.invariant.rest;
    }

pub returns : goal.returns
returns c =
    let all : c.loop-byte.byte - c.args.addr ≡ c.args.len = omega (arith, c.loop-byte-test.false, c.loop-byte.auto.byte, c.loop-byte.auto.byte-end (omega arith)) in
    c.loop-byte.invariant.lines ∙ ap (λ n. c.args.text.now ++ spaced (map source_text (map (source_in c.args.writers.now c.args.proc) (numbers c.args.addr n)))) all
