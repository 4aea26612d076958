-- The bytes that are read are the text of the script that they give.
use Rattle.std.proofs.Common.{◌≡◌, ℕ, ◌+◌, ◌-◌, ◌<◌, Bool, true, false, ◌&&◌, ◌||◌, not, cond, eqb, List, [], ◌∷◌, ◌++◌, length, get_or, take, map, Option, Some, None, Result, Ok, Err, refl, sym, ap, subst, ◌∙◌, arith, append_assoc, append-nil, inl, inr, ◌⊎◌}
use Rattle.std.specs.Prelude.{codes}
use Rattle.std.specs.List.{list_all, flat_map, find, concat}
use Rattle.std.specs.Option.{ok_or, option_map}
use Rattle.std.specs.Str.{bytes_eq}
use Rattle.std.proofs.lemmas.Slice.Eq.{bytes_eq-Decides}
use Rattle.std.proofs.lemmas.Bool.{false≢true, eqb-true, and_parts}
use Rattle.std.proofs.lemmas.List.{take_more, take_all, map_push}
use Rattle.std.proofs.lemmas.List.Splits.{join_with_byte-slice_split}
use Rattle.std.proofs.lemmas.Grind.{flat_map-append}
use Rattle.hm_base.specs.Program.{Program, IsScript, is_version_two}
use Rattle.hm_base.specs.declared.ops.Version.{Version}
use Rattle.hm_base.specs.declared.ops.Version.TheVariants.{One, Two}
use Rattle.hm_script.specs.declared.keyword.OpWord.{OpWord}
use Rattle.hm_script.specs.declared.keyword.Keyword.{Keyword}
use Rattle.hm_script.specs.declared.keyword.Keyword.TheVariants as keyword
use Rattle.hm_script.specs.declared.part.Part.{Part}
use Rattle.hm_script.specs.declared.part.Part.TheVariants.{Start, Headed, Devices, Skipped, Actors, Turns, Drained}
use Rattle.hm_script.specs.declared.reason.Reason.{Reason}
use Rattle.hm_script.specs.declared.reason.Reason.TheVariants.{LineEnd, Word}
use Rattle.hm_script.specs.declared.reason.Reason.TheVariants as reason
use Rattle.hm_script.specs.declared.reason.Refused.{Refused}
use Rattle.hm_script.specs.Gives.{◌>>=◌}
use Rattle.hm_script.specs.Splitting.{split, word}
use Rattle.hm_script.specs.Spelling.{line, text, header_words}
use Rattle.hm_script.specs.Keywords.{op_text, all_ops, op_named, keyword_named}
use Rattle.hm_script.specs.Reading.{demand}
use Rattle.hm_script.specs.declared.words.Words.{Words}
use Rattle.hm_script.specs.Built.{IsBuilt}
use Rattle.hm_script.specs.Automaton.{State, state, start, empty, allows, permits, version_named, keyword_at, step, lines, onto_line, is_line, is_printable, line_text, read_header, read_text, next, finish, after, run, reading}
use Rattle.hm_script.proofs.Steps.{bind_ok, demand_ok, ok_is}
use Rattle.hm_script.proofs.Taken.{Reached, lines_read, Goes, goes_to, Line, frames_goes, device_goes, skip_goes, actor_goes, turns_goes, drain_goes, op_goes}

-- ---- keywords

-- the word is the keyword's
abbrev pub Names : List ℕ → Keyword → Type 0
Names w keyword.Frames = w ≡ codes "frames"
Names w keyword.Device = w ≡ codes "device"
Names w keyword.Skip = w ≡ codes "skip"
Names w keyword.Actor = w ≡ codes "actor"
Names w keyword.Turns = w ≡ codes "turns"
Names w keyword.Drain = w ≡ codes "drain"
Names w (keyword.Op op) = op_text op ≡ w

found_passes : {A : Type 0} (test : A → Bool) (xs : List A) (x : A) → find test xs ≡ Some x → test x ≡ true
found_passes test [] x e = absurd cc
found_passes test (y ∷ ys) x e = by (test y) refl (found_passes test ys x) e
  where
    by : (b : Bool) → test y ≡ b → (find test ys ≡ Some x → test x ≡ true) → cond b (Some y) (find test ys) ≡ Some x → test x ≡ true
    by true t rest e = let same : y ≡ x = cc in ap test (sym same) ∙ t
    by false t rest e = rest e

either : {K : Type 0} (b : Bool) (x y : K) (rest : Option K) → cond b (Some x) rest ≡ Some y → ((b ≡ true) × (x ≡ y)) ⊎ (rest ≡ Some y)
either true x y rest e = inl (refl, let h : x ≡ y = cc in h)
either false x y rest e = inr e

op_names : (w : List ℕ) (o : Option OpWord) (k : Keyword) → op_named w ≡ o → option_map keyword.Op o ≡ Some k → Names w k
unfolding op_named
op_names w None k n e = absurd cc
op_names w (Some op) k n e =
    let same : keyword.Op op ≡ k = cc in
    subst (Names w) same ((bytes_eq-Decides (op_text op) w).0 (found_passes (λ x. bytes_eq (op_text x) w) all_ops op n))

pub keyword_names : (w : List ℕ) (k : Keyword) → keyword_named w ≡ Some k → Names w k
unfolding keyword_named
keyword_names w k e =
    elim (either (bytes_eq w (codes "frames")) keyword.Frames k _ e) [
      | inl h ↦ subst (Names w) h.1 ((bytes_eq-Decides w (codes "frames")).0 h.0)
      | inr e1 ↦ elim (either (bytes_eq w (codes "device")) keyword.Device k _ e1) [
        | inl h ↦ subst (Names w) h.1 ((bytes_eq-Decides w (codes "device")).0 h.0)
        | inr e2 ↦ elim (either (bytes_eq w (codes "skip")) keyword.Skip k _ e2) [
          | inl h ↦ subst (Names w) h.1 ((bytes_eq-Decides w (codes "skip")).0 h.0)
          | inr e3 ↦ elim (either (bytes_eq w (codes "actor")) keyword.Actor k _ e3) [
            | inl h ↦ subst (Names w) h.1 ((bytes_eq-Decides w (codes "actor")).0 h.0)
            | inr e4 ↦ elim (either (bytes_eq w (codes "turns")) keyword.Turns k _ e4) [
              | inl h ↦ subst (Names w) h.1 ((bytes_eq-Decides w (codes "turns")).0 h.0)
              | inr e5 ↦ elim (either (bytes_eq w (codes "drain")) keyword.Drain k _ e5) [
                | inl h ↦ subst (Names w) h.1 ((bytes_eq-Decides w (codes "drain")).0 h.0)
                | inr e6 ↦ op_names w (op_named w) k refl e6
              ]
            ]
          ]
        ]
      ]
    ]

or_true : (b : Bool) → (b || true) ≡ true
or_true true = refl
or_true false = refl

named_ok : (o : Option Keyword) (k : Keyword) → ok_or o Word ≡ Ok k → o ≡ Some k
named_ok None k e = absurd cc
named_ok (Some x) k e = let same : x ≡ k = ok_is x k e in ap Some same

-- a keyword that may come
pub record Allowed (set : Words) (t : State) (w : List ℕ) (k : Keyword) : Type 0 where
  pub names : Names w k
  pub allows : allows t.part k ≡ true
  pub permits : permits set t.script k ≡ true

pub keyword_at_ok : (set : Words) (t : State) (w : List ℕ) (k : Keyword) → keyword_at set t w ≡ Ok k → Allowed set t w k
unfolding keyword_at
keyword_at_ok set t w k e =
    let n = bind_ok (ok_or (keyword_named w) Word) (λ x. demand (allows t.part x && permits set t.script x) Word >>= λ _. Ok x) k e in
    let d = demand_ok (allows t.part n.0 && permits set t.script n.0) Word _ k n.2 in
    subst (Allowed set t w) (ok_is n.0 k d.1) (record {
      names = keyword_names w n.0 (named_ok (keyword_named w) n.0 n.1);
      allows = (and_parts (allows t.part n.0) (permits set t.script n.0) d.0).0;
      permits = (and_parts (allows t.part n.0) (permits set t.script n.0) d.0).1;
    })

-- ---- a line

step_goes : (set : Words) (p : Part) (s : Program) (ws : Line) (t : State) (k : Keyword) → allows p k ≡ true → permits set s k ≡ true → Reached p s → IsBuilt set s → Names (word 0 ws) k → step k (state p s) ws ≡ Ok t → Goes set p s ws t
step_goes set p s ws t keyword.Frames a m r b w e = frames_goes set p s ws t a m r b w e
step_goes set p s ws t keyword.Device a m r b w e = device_goes set p s ws t a m r b w e
step_goes set p s ws t keyword.Skip a m r b w e = skip_goes set p s ws t a m r b w e
step_goes set p s ws t keyword.Actor a m r b w e = actor_goes set p s ws t a m r b w e
step_goes set p s ws t keyword.Turns a m r b w e = turns_goes set p s ws t a m r b w e
step_goes set p s ws t keyword.Drain a m r b w e = drain_goes set p s ws t a m r b w e
step_goes set p s ws t (keyword.Op op) a m r b w e = op_goes set p s ws t op a m r b w e

text_goes : (set : Words) (p : Part) (s : Program) (x : List ℕ) (t : State) → Reached p s → IsBuilt set s → read_text set (state p s) x ≡ Ok t → Goes set p s (split x) t
unfolding read_text
text_goes set p s x t r b e =
    let k = bind_ok (keyword_at set (state p s) (word 0 (split x))) (λ k. step k (state p s) (split x)) t e in
    let n = keyword_at_ok set (state p s) (word 0 (split x)) k.0 k.1 in
    step_goes set p s (split x) t k.0 n.allows n.permits r b n.names k.2

-- the first line names the version, and the set has it
pub record Header (set : Words) (x : List ℕ) (v : Version) : Type 0 where
  pub words : split x ≡ header_words v
  pub has : (set.version_two || not (is_version_two v)) ≡ true

version_named_ok : (set : Words) (x : List ℕ) (v : Version) → version_named set x ≡ Ok v → Header set x v
unfolding version_named
version_named_ok set x v e = by (bytes_eq x (codes "hmm 1")) refl (bytes_eq x (codes "hmm 2")) refl set.version_two refl e
  where
    split_is : (y : List ℕ) → bytes_eq x y ≡ true → split x ≡ split y
    split_is y h = ap split ((bytes_eq-Decides x y).0 h)

    by : (a : Bool) → bytes_eq x (codes "hmm 1") ≡ a → (b : Bool) → bytes_eq x (codes "hmm 2") ≡ b → (c : Bool) → set.version_two ≡ c → cond a (Ok One) (cond (b && c) (Ok Two) (Err reason.Header)) ≡ Ok v → Header set x v
    by true p b q c h e = subst (Header set x) (ok_is One v e) (record { words = split_is (codes "hmm 1") p; has = or_true set.version_two })
    by false p true q true h e = subst (Header set x) (ok_is Two v e) (record { words = split_is (codes "hmm 2") q; has = rw h refl })
    by false p true q false h e = absurd cc
    by false p false q c h e = absurd cc

header_goes : (set : Words) (s : Program) (x : List ℕ) (t : State) → Reached Start s → IsBuilt set s → read_header set (state Start s) x ≡ Ok t → Goes set Start s (split x) t
unfolding read_header
header_goes set s x t r b e =
    let v = bind_ok (version_named set x) _ t e in
    let h = version_named_ok set x v.0 v.1 in
    let made : Program = record s { version = v.0 } in
    goes_to set Start s (split x) _ t v.2 (record {
      reached = ap (λ (y : Program). record y { version = v.0 }) r;
      built = of_version s b v.0 (ap (λ (y : Program). y.actors) r) h.has;
      lines = ap (λ (l : Line). l ∷ []) (sym h.words);
    })
  where
    of_version : (s : Program) → IsBuilt set s → (v : Version) → s.actors ≡ [] → (set.version_two || not (is_version_two v)) ≡ true → IsBuilt set (record s { version = v })
    of_version s b v none has = record { ops = b.ops; skip = b.skip; drain = b.drain; version = has; actors = b.actors; turns = b.turns }

line_parts : (l : List ℕ) (x : List ℕ) → line_text l ≡ Ok x → l ≡ x ++ 10 ∷ []
unfolding line_text
line_parts l x e = by l (is_line l) refl e
  where
    last_line : (l : List ℕ) → is_line l ≡ true → l ≡ take (length l - 1) l ++ 10 ∷ []
    last_line [] h = absurd (false≢true h)
    last_line (b ∷ bs) h =
        let n : ℕ = length (b ∷ bs) - 1 in
        let inside : n < length (b ∷ bs) = omega arith in
        let whole : n + 1 ≡ length (b ∷ bs) = omega arith in
        let feed : get_or (b ∷ bs) n 0 ≡ 10 = eqb-true _ _ (and_parts (eqb (get_or (b ∷ bs) n 0) 10) (list_all is_printable (take n (b ∷ bs))) h).0 in
        sym (take_all (n + 1) (b ∷ bs) (omega arith)) ∙ take_more (b ∷ bs) n 0 inside ∙ ap (λ (c : ℕ). take n (b ∷ bs) ++ c ∷ []) feed

    by : (l : List ℕ) (t : Bool) → is_line l ≡ t → cond t (Ok (take (length l - 1) l)) (Err LineEnd) ≡ Ok x → l ≡ x ++ 10 ∷ []
    by l true h e = last_line l h ∙ ap (λ (y : List ℕ). y ++ 10 ∷ []) (ok_is (take (length l - 1) l) x e)
    by l false h e = absurd cc

-- what a line adds
pub record Adds (set : Words) (p : Part) (s : Program) (l : List ℕ) (t : State) : Type 0 where
  pub reached : Reached t.part t.script
  pub built : IsBuilt set t.script
  pub text : flat_map line (lines_read t.part t.script) ≡ flat_map line (lines_read p s) ++ l
  pub lines : map line (lines_read t.part t.script) ≡ map line (lines_read p s) ++ l ∷ []

goes_adds : (set : Words) (p : Part) (s : Program) (l x : List ℕ) (t : State) → l ≡ x ++ 10 ∷ [] → Goes set p s (split x) t → Adds set p s l t
goes_adds set p s l x t e g =
    let is : line (split x) ≡ l = ap (λ (y : List ℕ). y ++ 10 ∷ []) (join_with_byte-slice_split 32 x) ∙ sym e in
    record {
      reached = g.reached;
      built = g.built;
      text = ap (flat_map line) g.lines ∙ flat_map-append line (lines_read p s) (split x ∷ []) ∙ ap (λ (y : List ℕ). flat_map line (lines_read p s) ++ y) (append-nil (line (split x)) ∙ is);
      lines = ap (map line) g.lines ∙ map_push line (lines_read p s) (split x) ∙ ap (λ (y : List ℕ). map line (lines_read p s) ++ y ∷ []) is;
    }

pub next_adds : (set : Words) (p : Part) (s : Program) (l : List ℕ) (t : State) → Reached p s → IsBuilt set s → next set (state p s) l ≡ Ok t → Adds set p s l t
unfolding next
next_adds set Start s l t r b e =
    let x = bind_ok (line_text l) (λ y. read_header set (state Start s) y) t e in
    goes_adds set Start s l x.0 t (line_parts l x.0 x.1) (header_goes set s x.0 t r b x.2)
next_adds set Headed s l t r b e =
    let x = bind_ok (line_text l) (λ y. read_text set (state Headed s) y) t e in
    goes_adds set Headed s l x.0 t (line_parts l x.0 x.1) (text_goes set Headed s x.0 t r b x.2)
next_adds set Devices s l t r b e =
    let x = bind_ok (line_text l) (λ y. read_text set (state Devices s) y) t e in
    goes_adds set Devices s l x.0 t (line_parts l x.0 x.1) (text_goes set Devices s x.0 t r b x.2)
next_adds set Skipped s l t r b e =
    let x = bind_ok (line_text l) (λ y. read_text set (state Skipped s) y) t e in
    goes_adds set Skipped s l x.0 t (line_parts l x.0 x.1) (text_goes set Skipped s x.0 t r b x.2)
next_adds set Actors s l t r b e =
    let x = bind_ok (line_text l) (λ y. read_text set (state Actors s) y) t e in
    goes_adds set Actors s l x.0 t (line_parts l x.0 x.1) (text_goes set Actors s x.0 t r b x.2)
next_adds set Turns s l t r b e =
    let x = bind_ok (line_text l) (λ y. read_text set (state Turns s) y) t e in
    goes_adds set Turns s l x.0 t (line_parts l x.0 x.1) (text_goes set Turns s x.0 t r b x.2)
next_adds set Drained s l t r b e =
    let x = bind_ok (line_text l) (λ y. read_text set (state Drained s) y) t e in
    goes_adds set Drained s l x.0 t (line_parts l x.0 x.1) (text_goes set Drained s x.0 t r b x.2)

-- ---- all lines

abbrev whole : Program → Result Program Refused
whole s = Ok s

whole_is : (s t : Program) → whole s ≡ whole t → s ≡ t
whole_is s t e = cc

finish_is : (set : Words) (n : ℕ) (p : Part) (s x : Program) → Reached p s → IsBuilt set s → finish n (state p s) ≡ Ok x → IsScript x × (text x ≡ flat_map line (lines_read p s)) × IsBuilt set x
finish_is set n Start s x r b e = absurd cc
finish_is set n Headed s x r b e = absurd cc
finish_is set n Devices s x r b e = subst (λ (y : Program). IsScript y × (text y ≡ text s) × IsBuilt set y) (whole_is s x e) (r.0, refl, b)
finish_is set n Skipped s x r b e = subst (λ (y : Program). IsScript y × (text y ≡ text s) × IsBuilt set y) (whole_is s x e) (r.0, refl, b)
finish_is set n Actors s x r b e = subst (λ (y : Program). IsScript y × (text y ≡ text s) × IsBuilt set y) (whole_is s x e) (r.0, refl, b)
finish_is set n Turns s x r b e = subst (λ (y : Program). IsScript y × (text y ≡ text s) × IsBuilt set y) (whole_is s x e) (r.0, refl, b)
finish_is set n Drained s x r b e = subst (λ (y : Program). IsScript y × (text y ≡ text s) × IsBuilt set y) (whole_is s x e) (r, refl, b)

after_ok : (n : ℕ) (r : Result State Reason) (go : State → Result Program Refused) (x : Program) → after n r go ≡ Ok x → (t : State) × (r ≡ Ok t) × (go t ≡ Ok x)
after_ok n (Ok t) go x e = (t, refl, e)
after_ok n (Err r) go x e = absurd cc

run_takes : (set : Words) (n : ℕ) (t : State) (ls : List (List ℕ)) (x : Program) → Reached t.part t.script → IsBuilt set t.script → run set n t ls ≡ Ok x → IsScript x × (text x ≡ flat_map line (lines_read t.part t.script) ++ concat ls) × IsBuilt set x
unfolding run
run_takes set n t [] x r b e = let f = finish_is set n t.part t.script x r b e in (f.0, f.1 ∙ sym (append-nil (flat_map line (lines_read t.part t.script))), f.2)
run_takes set n t (l ∷ ls) x r b e =
    let a = after_ok n (next set t l) (λ u. run set (n + 1) u ls) x e in
    let g = next_adds set t.part t.script l a.0 r b a.1 in
    let h = run_takes set (n + 1) a.0 ls x g.reached g.built a.2 in
    (h.0, h.1 ∙ ap (λ (y : List ℕ). y ++ concat ls) g.text ∙ append_assoc (flat_map line (lines_read t.part t.script)) l (concat ls), h.2)

onto-concat : (b : ℕ) (ls : List (List ℕ)) → concat (onto_line b ls) ≡ b ∷ concat ls
onto-concat b [] = refl
onto-concat b (l ∷ ls) = refl

pub concat-lines : (bytes : List ℕ) → concat (lines bytes) ≡ bytes
concat-lines [] = refl
concat-lines (b ∷ bytes) = by (eqb b 10) refl (concat-lines bytes)
  where
    by : (t : Bool) → eqb b 10 ≡ t → concat (lines bytes) ≡ bytes → concat (cond t ((10 ∷ []) ∷ lines bytes) (onto_line b (lines bytes))) ≡ b ∷ bytes
    by true e h = (λ i. (sym (eqb-true b 10 e)) i ∷ h i)
    by false e h = onto-concat b (lines bytes) ∙ ap (λ (x : List ℕ). b ∷ x) h

-- nothing is in each set
pub empty_built : (set : Words) → IsBuilt set empty
empty_built set = record { ops = refl; skip = or_true set.skip; drain = or_true set.drain; version = or_true set.version_two; actors = or_true set.several_actors; turns = or_true set.several_turns }

-- what is read is a script of the set with this text
pub reading_takes : (set : Words) (bytes : List ℕ) (s : Program) → reading set bytes ≡ Ok s → IsScript s × (text s ≡ bytes) × IsBuilt set s
unfolding reading
reading_takes set bytes s e = let h = run_takes set 1 start (lines bytes) s refl (empty_built set) e in (h.0, h.1 ∙ concat-lines bytes, h.2)
