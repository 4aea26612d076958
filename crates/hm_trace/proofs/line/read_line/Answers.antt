use Rattle.std.proofs.Common.{◌≡◌, ◌∙◌, ◌++◌, ◌∷◌, [], true, false, Ok, sym, ap, arith}
use Rattle.std.specs.Str.{bytes_eq}
use Rattle.hm_trace.specs.Lines.{is_ended, line_text, text_of, told_by}
use Rattle.hm_trace.proofs.Places.{refused_shape}
use Rattle.hm_trace.proofs.line.read_line.Goals as goal

pub returns-else-eq : goal.returns-else-eq
returns-else-eq c =
    let ended : is_ended c.args.line.now ≡ true = grind arith in
    let told : told_by (text_of c.args.line.now) ≡ Ok c.in_ok-told.told = ap told_by (sym c.text_of-text.ensures) ∙ sym c.told_by.ensures ∙ c.in_ok-told.was in
    let made : c.as_slice.result.now ++ 10 ∷ [] ≡ line_text c.in_ok-told.told = ap (λ x. x ++ 10 ∷ []) c.as_slice.ensures ∙ c.put_text.ensures.text in
    let other : bytes_eq (text_of c.args.line.now) c.as_slice.result.now ≡ false = ap (λ w. bytes_eq w c.as_slice.result.now) (sym c.text_of-text.ensures) ∙ sym c.if-eq.ensures in
    sym (refused_shape c.args.line.now c.in_ok-told.told c.as_slice.result.now ended told made other)
