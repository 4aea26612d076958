use Rattle.hm_parts.specs.Shown.{table_of}
use Rattle.hm_parts.proofs.shown.shown_of.Goals as goal

pub returns : goal.returns
returns g c =
    let prog = g.W.Reads.program c.args.world.now in
    let t = g.W.Reads.state c.args.world.now in
    let e = c.args.entry.now in
    let found = c.table_of-found.ensures prog t.after.places c.requires.shown in
    record {
      answers = c.in_ok-answers.ensures;
      places = c.shows_places.ensures found;
      frames = c.system_taken.ensures;
      sequences = c.shows_sequences.ensures;
      untold = c.entry_of.ensures (table_of t.after.places e.kind) found;
      guarded = c.shows_guarded.ensures;
      kept = c.shows_kept.ensures;
    }
