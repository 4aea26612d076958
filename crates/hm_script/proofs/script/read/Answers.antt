use Rattle.std.proofs.Common.{◌≡◌, length, sym, ◌∙◌, arith}
use Rattle.std.proofs.lemmas.Bool.Decides.{nat_tests}
use Rattle.hm_script.specs.Automaton.{reading}
use Rattle.hm_script.specs.Reader.{state_of}
use Rattle.hm_script.proofs.Loop.{begins, goes_on, stops_with, ends, is_script}
use Rattle.hm_script.proofs.script.read.Goals as goal

pub loop-rest-init : goal.loop-rest-init
loop-rest-init c = (begins c.args.words.now c.args.bytes.now (state_of c.new-reader.result) c.new-reader.ensures, omega arith)

pub returns-in-Err : goal.returns-in-Err
returns-in-Err c =
    rw c.at_line.ensures (stops_with c.args.words.now c.loop-rest.number (state_of c.loop-rest.reader) c.loop-rest.rest.now c.cut_line.result.0.now c.cut_line.result.1.now c.in-Err.error (reading c.args.words.now c.args.bytes.now) c.cut_line.ensures.lines c.in-Err.ensures c.loop-rest.invariant.0)

pub loop-rest-preserved : goal.loop-rest-preserved
loop-rest-preserved c =
    (sym (goes_on c.args.words.now c.loop-rest.number (state_of c.loop-rest.reader) (state_of c.line.new.self) c.loop-rest.rest.now c.cut_line.result.0.now c.cut_line.result.1.now c.cut_line.ensures.lines c.in-Ok.ensures) ∙ c.loop-rest.invariant.0, omega (arith, c.loop-rest.invariant.1, c.cut_line.ensures.shorter))

pub finish-requires : goal.finish-requires
finish-requires c =
    let none : length c.loop-rest.rest.now ≡ 0 = grind (arith, nat_tests) in
    is_script c.args.words.now c.args.bytes.now _ (sym (ends c.args.words.now c.loop-rest.number (state_of c.loop-rest.reader) c.loop-rest.rest.now none) ∙ c.loop-rest.invariant.0)

pub returns : goal.returns
returns c =
    let none : length c.loop-rest.rest.now ≡ 0 = grind (arith, nat_tests) in
    rw (← c.loop-rest.invariant.0, ends c.args.words.now c.loop-rest.number (state_of c.loop-rest.reader) c.loop-rest.rest.now none) c.finish.ensures
