use Rattle.std.proofs.Common.{◌<◌, ℕ, List, length, get_or, subst, ap, sym, refl, ◌∙◌, arith}
use Rattle.radix_tables.specs.Maps.{is_marked}
use Rattle.radix_tables.specs.Levels.{AreBits, is_used, from_second}
use Rattle.radix_tables.specs.Walks.{entry_in}
use Rattle.radix_tables.proofs.Made.{word_place, word_set, words_set}
use Rattle.radix_tables.proofs.TableBits.{bits_set}
use Rattle.radix_tables.proofs.levels.Levels.set.Goals as goal

pub set-requires : goal.set-requires
set-requires c z = c.requires.room (ap (λ (i : ℕ). get_or c.args.self.now.words.room i 0) (sym c.place_in-at.ensures) ∙ z)

pub returns-clause-levels : goal.returns-clause-levels
returns-clause-levels c =
    let l = c.args.self.now in
    let at = c.place_in-at.result in
    let t = c.set.ensures.items in
    let inside : at < length l.words.items = omega (arith, c.place_in-at.ensures, word_place l c.args.page c.requires.levels c.requires.room) in
    word_set l _ at c.args.page c.args.word c.requires.levels c.requires.room c.place_in-at.ensures refl t c.set.ensures.room
    (subst (λ (zs : List ℕ). AreBits is_used zs c.put_bit.new.bits.items) (sym t) (bits_set is_used l.words.items l.used.items _ at c.args.word _ c.requires.levels.used inside c.put_bit.ensures.len c.is_used.ensures c.put_bit.ensures.bits))
    (subst (λ (zs : List ℕ). AreBits is_marked zs c.put_bit-2.new.bits.items) (sym t) (bits_set is_marked l.words.items l.marks.items _ at c.args.word _ c.requires.levels.marks inside c.put_bit-2.ensures.len c.is_marked.ensures c.put_bit-2.ensures.bits))

pub returns-clause-words : goal.returns-clause-words
returns-clause-words c v =
    let l = c.args.self.now in
    ap (λ (zs : List ℕ). entry_in zs (from_second l) v) c.set.ensures.items ∙ words_set l c.place_in-at.result c.args.page c.args.word c.requires.levels c.requires.room c.place_in-at.ensures v

pub returns-clause-room : goal.returns-clause-room
returns-clause-room c v = ap (λ (zs : List ℕ). entry_in zs (from_second c.args.self.now) v) c.set.ensures.room
