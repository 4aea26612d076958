-- Which rules of memory each entry of a history keeps after those before it.
use Rattle.std.specs.Prelude.{Bool, true, false, ◌&&◌, ◌||◌, if◌then◌else◌, List, [], ◌∷◌, ◌++◌}
use Rattle.hm_base.specs.Program.{Program}
use Rattle.hm_history.specs.Memory.Plain.{mirror_owner, plain_accepts}
use Rattle.hm_history.specs.Memory.Places.{places_accept}
use Rattle.hm_history.specs.Memory.Sequences.{sequences_accept}
use Rattle.hm_history.specs.Memory.Lookups.{uses_untold, narrows_guarded}
use Rattle.hm_history.specs.Memory.Rules.{fails_rightly}
use Rattle.hm_history.specs.Memory.After.{after}
use Rattle.hm_history.specs.declared.Entry.{Entry}
use Rattle.hm_history.specs.declared.Kind.{Kind}
use Rattle.hm_parts.specs.declared.rules.Rules.{Rules}

-- the entry leaves the plain state as it is, whether that allows it or not
abbrev pub leaves_plain : Kind → Bool
leaves_plain (Kind.Loaded x at bs) = true
leaves_plain (Kind.Failed x at n why) = true
leaves_plain (Kind.Fetched m at bs) = true
leaves_plain _ = false

-- it leaves the places as they are
abbrev pub leaves_places : Kind → Bool
leaves_places (Kind.Loaded x at bs) = true
leaves_places (Kind.Stored x at bs) = true
leaves_places (Kind.Fetched m at bs) = true
leaves_places (Kind.Added m at was now) = true
leaves_places _ = false

-- it leaves the sequences as they are
abbrev pub leaves_sequences : Kind → Bool
leaves_sequences (Kind.Begin m q) = true
leaves_sequences _ = false

-- there is a state after an entry of this kind: each part of the state allows it, or is left as it is
abbrev pub leads_on : Bool → Bool → Bool → Kind → Bool
leads_on answers places sequences k =
    (answers || leaves_plain k) && ((places || leaves_places k) && (sequences || leaves_sequences k))

-- which rules the entry keeps after the history, and whether there is a state after it
abbrev pub rules_at : Program → List Entry → Entry → Rules
rules_at c h e =
    let answers = plain_accepts (after h).plain e.kind in
    let places = places_accept c (mirror_owner (after h).plain) (after h).places e.actor e.kind in
    let sequences = sequences_accept (after h).sequences e.actor e.kind in
    record {
      answers = answers;
      places = places;
      frames = fails_rightly c h e;
      sequences = sequences;
      untold = uses_untold h e.kind;
      guarded = narrows_guarded (after h).sequences (after h).places.place e.actor e.kind;
      goes_on = leads_on answers places sequences e.kind;
    }

-- all are kept
abbrev pub keeps_all : Rules → Bool
keeps_all x = x.answers && (x.places && (x.frames && (x.sequences && (x.untold && x.guarded))))

-- which rules each of these entries keeps after the history and those before it, up to the first after which there is
-- no state
abbrev pub rules_from : Program → List Entry → List Entry → List Rules
rules_from c h [] = []
rules_from c h (e ∷ es) =
    let x = rules_at c h e in x ∷ (if x.goes_on then rules_from c (h ++ e ∷ []) es else [])
