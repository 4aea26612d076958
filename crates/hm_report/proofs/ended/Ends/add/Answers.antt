use Rattle.std.proofs.Common.{◌<◌, [], ◌∷◌, length, ap, sym, ◌∙◌, arith}
use Rattle.std.proofs.lemmas.List.{length-append, length-set}
use Rattle.hm_report.specs.Ended.{ended_after}
use Rattle.hm_report.proofs.Counting.{ended_with, entry_step, set_bound}
use Rattle.hm_report.proofs.ended.Ends.add.Goals as goal

pub returns : goal.returns
returns c = λ es h.
    let script = c.args.script.now in
    let e = c.args.entry.now in
    let k = c.number-at.result in
    let old = c.args.self.now in
    let x = c.after_entry-after.result in
    let more = ended_with script es e in
    let f = ended_after script es in
    let lt : k < 16 = c.number-at.ensures.below in
    let o = h.operations_are k lt in
    let p = h.pieces_are k lt in
    let fits : k < length old.operations = omega (arith, h.operations_len) in
    let fit : k < length old.pieces = omega (arith, h.pieces_len) in
    record {
      operations_len = length-set old.operations k x.operations ∙ h.operations_len;
      pieces_len = length-set old.pieces k x.pieces ∙ h.pieces_len;
      operations_are = λ a small. entry_step (λ n. n.operations) script f e k _ _ old.operations x c.number-at.ensures.same fits o p c.after_entry-after.ensures.next a (h.operations_are a small) ∙ ap (λ g. (g a).operations) (sym more);
      pieces_are = λ a small. entry_step (λ n. n.pieces) script f e k _ _ old.pieces x c.number-at.ensures.same fit o p c.after_entry-after.ensures.next a (h.pieces_are a small) ∙ ap (λ g. (g a).pieces) (sym more);
      few_operations = λ a small. rw (length-append es (e ∷ [])) (set_bound old.operations k x.operations (length es) fits (omega (arith, c.after_entry-after.ensures.operations, h.few_operations k lt)) a (h.few_operations a small));
      few_pieces = λ a small. rw (length-append es (e ∷ [])) (set_bound old.pieces k x.pieces (length es) fit (omega (arith, c.after_entry-after.ensures.pieces, h.few_pieces k lt)) a (h.few_pieces a small));
    }
