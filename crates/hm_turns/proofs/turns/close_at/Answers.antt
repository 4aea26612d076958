use Rattle.std.proofs.Common.{length, ap, sym, ◌∙◌}
use Rattle.hm_turns.proofs.Closing.{closes, took_out, took_it}
use Rattle.hm_turns.proofs.turns.close_at.Goals as goal

pub unreachable-requires : goal.unreachable-requires
unreachable-requires g c = let k = closes g.S.Stepped.script g.S.Stepped.history g.S.Stepped.halt _ _ _ _ _ c.requires.whole c.requires.idle.free c.close_with-closed.ensures.values.2 in
    let e = sym c.in-None.is ∙ took_out _ _ _ _ _ _ _ k _ c.take-value.ensures.value in cc

pub returns : goal.returns
returns g c = let k = closes g.S.Stepped.script g.S.Stepped.history g.S.Stepped.halt _ _ _ _ _ c.requires.whole c.requires.idle.free c.close_with-closed.ensures.values.2 in
    let same = took_it _ _ _ _ _ _ _ k _ c.in-Some.stepped c.take-value.ensures.value c.in-Some.is in
    record {
      script = ap g.S.Stepped.script same ∙ k.script_is;
      history = ap g.S.Stepped.history same ∙ k.history_is;
      legal = c.length-length.ensures.legal;
      halted = λ e t. ap g.S.Stepped.halt same ∙ k.halted e t;
      counted = k.counted;
      marked = k.marked;
      length = c.length-length.ensures.length ∙ ap length (ap g.S.Stepped.history same ∙ k.history_is);
    }
