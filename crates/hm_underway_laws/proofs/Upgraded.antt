-- The version of a script decides nothing of its histories.
use Rattle.std.proofs.Common.{List, [], ◌∷◌, ◌++◌, refl}
use Rattle.hm_base.specs.Program.{Program}
use Rattle.hm_history.specs.Kernel.Legal.{MayFollow, LegalFrom}
use Rattle.hm_history.specs.declared.Entry.{Entry}
use Rattle.hm_underway_laws.specs.Upgraded.{upgraded, SameRun, SameLegal}

pub same_run : SameRun
same_run c = refl

follows_one : (c : Program) (h : List Entry) (e : Entry) → MayFollow (upgraded c) h e → MayFollow c h e
follows_one c h e f = record {
  is_due = f.is_due;
  rules = record {
    answers = f.rules.answers;
    places = f.rules.places;
    frames = f.rules.frames;
    sequences = f.rules.sequences;
    untold = f.rules.untold;
    guarded = f.rules.guarded;
  };
  kept = f.kept;
}

follows_two : (c : Program) (h : List Entry) (e : Entry) → MayFollow c h e → MayFollow (upgraded c) h e
follows_two c h e f = record {
  is_due = f.is_due;
  rules = record {
    answers = f.rules.answers;
    places = f.rules.places;
    frames = f.rules.frames;
    sequences = f.rules.sequences;
    untold = f.rules.untold;
    guarded = f.rules.guarded;
  };
  kept = f.kept;
}

legal_one : (c : Program) (h es : List Entry) → LegalFrom (upgraded c) h es → LegalFrom c h es
legal_one c h [] l = tt
legal_one c h (e ∷ es) l = (follows_one c h e l.0, legal_one c (h ++ e ∷ []) es l.1)

legal_two : (c : Program) (h es : List Entry) → LegalFrom c h es → LegalFrom (upgraded c) h es
legal_two c h [] l = tt
legal_two c h (e ∷ es) l = (follows_two c h e l.0, legal_two c (h ++ e ∷ []) es l.1)

pub same_legal : SameLegal
same_legal c h = (legal_one c [] h, legal_two c [] h)
