-- The rules that an entry keeps by what is recalled are those that it keeps after the history.
use Rattle.std.proofs.Common.{◌≡◌, ℕ, ◌+◌, ◌<◌, ◌≤◌, Bool, if◌then◌else◌, List, [], ◌∷◌, ◌++◌, length, get_or, take, refl, sym, ap, ◌∙◌}
use Rattle.std.proofs.lemmas.List.{length-take-le, take_more}
use Rattle.std.proofs.lemmas.List.Sums.{fold-append}
use Rattle.hm_base.specs.Program.{Program}
use Rattle.hm_history.specs.Memory.After.{After}
use Rattle.hm_history.specs.Memory.Lookups.{narrows_guarded, uses_untold}
use Rattle.hm_history.specs.Memory.Places.{places_accept}
use Rattle.hm_history.specs.Memory.Plain.{mirror_owner, plain_accepts}
use Rattle.hm_history.specs.Memory.Rules.{fails_rightly}
use Rattle.hm_history.specs.Memory.Sequences.{sequences_accept}
use Rattle.hm_history.specs.declared.Entry.{Entry}
use Rattle.hm_flaws.specs.Recalled.{Recalled, fails_rightly_in, recalled_next, recalled_of, recalled_start}
use Rattle.hm_flaws.proofs.Recalling.{IsRecalled, fails_by, is_recalled, uses_by}
use Rattle.hm_parts.specs.Follower.{AreRules, rules_in, rules_on}
use Rattle.hm_parts.specs.Rules.{leads_on, rules_at, rules_from}
use Rattle.hm_parts.specs.declared.rules.Rules.{Rules}

-- ---- one entry

abbrev made : Program → After → Entry → Bool → Bool → Rules
made c s e frames untold =
    let answers = plain_accepts s.plain e.kind in
    let places = places_accept c (mirror_owner s.plain) s.places e.actor e.kind in
    let sequences = sequences_accept s.sequences e.actor e.kind in
    record {
      answers = answers;
      places = places;
      frames = frames;
      sequences = sequences;
      untold = untold;
      guarded = narrows_guarded s.sequences s.places.place e.actor e.kind;
      goes_on = leads_on answers places sequences e.kind;
    }

pub rules_are : (c : Program) (h : List Entry) (e : Entry) → rules_at c h e ≡ rules_in c (recalled_of c h) e
rules_are c h e =
    let r = recalled_of c h in
    let i : IsRecalled c h r = is_recalled c h in
    ap (λ (s : After). made c s e (fails_rightly c h e) (uses_untold h e.kind)) (sym i.state)
    ∙ ap (λ (b : Bool). made c r.state e b (uses_untold h e.kind)) (fails_by c h r i e)
    ∙ ap (made c r.state e (fails_rightly_in c r e)) (uses_by c h r i e.kind)

abbrev of : Bool → Bool → Bool → Bool → Bool → Bool → Bool → Rules
of a p f s u g o = record { answers = a; places = p; frames = f; sequences = s; untold = u; guarded = g; goes_on = o }

pub rules_said : (c : Program) (r : Recalled) (e : Entry) (x : Rules) → AreRules c r e x → x ≡ rules_in c r e
rules_said c r e x are =
    let a = plain_accepts r.state.plain e.kind in
    let p = places_accept c (mirror_owner r.state.plain) r.state.places e.actor e.kind in
    let s = sequences_accept r.state.sequences e.actor e.kind in
    let on : x.goes_on ≡ leads_on a p s e.kind =
    are.goes_on ∙ ap (λ (b : Bool). leads_on b x.places x.sequences e.kind) are.answers ∙ ap (λ (b : Bool). leads_on a b x.sequences e.kind) are.places ∙ ap (λ (b : Bool). leads_on a p b e.kind) are.sequences in
    same x (rules_in c r e) are.answers are.places are.frames are.sequences are.untold are.guarded on
  where
    same : (x y : Rules) → x.answers ≡ y.answers → x.places ≡ y.places → x.frames ≡ y.frames → x.sequences ≡ y.sequences → x.untold ≡ y.untold → x.guarded ≡ y.guarded → x.goes_on ≡ y.goes_on → x ≡ y
    same x y a b d e f g h =
        ap (λ z. of z x.places x.frames x.sequences x.untold x.guarded x.goes_on) a
        ∙ ap (λ z. of y.answers z x.frames x.sequences x.untold x.guarded x.goes_on) b
        ∙ ap (λ z. of y.answers y.places z x.sequences x.untold x.guarded x.goes_on) d
        ∙ ap (λ z. of y.answers y.places y.frames z x.untold x.guarded x.goes_on) e
        ∙ ap (λ z. of y.answers y.places y.frames y.sequences z x.guarded x.goes_on) f
        ∙ ap (λ z. of y.answers y.places y.frames y.sequences y.untold z x.goes_on) g
        ∙ ap (λ z. of y.answers y.places y.frames y.sequences y.untold y.guarded z) h

-- so those that a follower says are those after the history
pub rules_after : (c : Program) (h : List Entry) (e : Entry) (x : Rules) → AreRules c (recalled_of c h) e x → x ≡ rules_at c h e
rules_after c h e x are = rules_said c (recalled_of c h) e x are ∙ sym (rules_are c h e)

-- ---- one entry more

pub recalled_snoc : (c : Program) (h : List Entry) (e : Entry) → recalled_of c (h ++ e ∷ []) ≡ recalled_next c (recalled_of c h) e
recalled_snoc c h e = fold-append (recalled_next c) recalled_start h (e ∷ [])

pub recalled_more : (c : Program) (h : List Entry) (i : ℕ) (e : Entry) → i < length h → e ≡ get_or h i e → recalled_of c (take (i + 1) h) ≡ recalled_next c (recalled_of c (take i h)) e
recalled_more c h i e below is =
    ap (recalled_of c) (take_more h i e below ∙ ap (λ (y : Entry). take i h ++ y ∷ []) (sym is)) ∙ recalled_snoc c (take i h) e

-- as many entries are recalled as there are
pub recalled_long : (c : Program) (h : List Entry) (i : ℕ) → i ≤ length h → (recalled_of c (take i h)).state.length ≡ i
recalled_long c h i le =
    let is : IsRecalled c (take i h) (recalled_of c (take i h)) = is_recalled c (take i h) in
    is.long ∙ length-take-le i h le

-- ---- all entries

pub rules_all : (c : Program) (h es : List Entry) → rules_on c (recalled_of c h) es ≡ rules_from c h es
rules_all c h [] = refl
rules_all c h (e ∷ es) =
    ap (λ (x : Rules). x ∷ (if x.goes_on then rules_on c (recalled_next c (recalled_of c h) e) es else [])) (sym (rules_are c h e))
    ∙ ap (λ (xs : List Rules). rules_at c h e ∷ (if (rules_at c h e).goes_on then xs else [])) (ap (λ (r : Recalled). rules_on c r es) (sym (recalled_snoc c h e)) ∙ rules_all c (h ++ e ∷ []) es)
