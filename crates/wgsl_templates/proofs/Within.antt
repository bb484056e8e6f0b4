-- How far a bracket was read.
use Rattle.std.specs.Prelude.{Option, Some, None, IfSome, reverse}
use Rattle.std.proofs.Common.{◌≡◌, ℕ, ◌+◌, ◌-◌, ◌<◌, ◌≤◌, Bool, true, false, List, [], ◌∷◌, ◌++◌, length, take, drop, refl, sym, ◌∙◌, ap, subst, arith, get_or, length-drop}
use Rattle.wgsl_templates.specs.declared.meaning.kind.Kind.TheVariants as k
use Rattle.wgsl_templates.specs.declared.meaning.token.Bracket.{Bracket}
use Rattle.wgsl_templates.specs.declared.meaning.token.TemplateToken.{TemplateToken}
use Rattle.wgsl_templates.specs.Kinds.{kind}
use Rattle.wgsl_templates.specs.Tokens.{is_word, Stands}
use Rattle.wgsl_templates.specs.declared.recognizer.place.Place.{Place}
use Rattle.wgsl_templates.specs.declared.recognizer.place.Place.TheVariants as at
use Rattle.wgsl_templates.specs.declared.recognizer.place.Progress.{Progress}
use Rattle.wgsl_templates.specs.declared.recognizer.place.Enclosing.{Enclosing}
use Rattle.wgsl_templates.specs.declared.recognizer.place.Enclosing.TheVariants as e
use Rattle.wgsl_templates.specs.declared.recognizer.place.State.{State as Standing}
use Rattle.wgsl_templates.specs.Actions.{fresh, first_place, action}
use Rattle.wgsl_templates.proofs.Fits.{sign}
use Rattle.wgsl_templates.specs.declared.entry.Entry.{Entry}
use Rattle.wgsl_templates.specs.declared.level.Move.{Move}
use Rattle.wgsl_templates.specs.declared.level.Move.TheVariants.{Reads as Goes_on, GoesOver, Closes as Closed, Answers}
use Rattle.wgsl_templates.specs.Steps.{StandsHere, state as state_of}
use Rattle.wgsl_templates.specs.Levels.{bracket, within, Ends, standing, none, end_of, SkipsTo, IsEntry, IsTable, moved}
use Rattle.wgsl_templates.proofs.Entries.{same_end, table_back, parts}
use Rattle.wgsl_templates.proofs.Levels.{stood, no_token, over_trivia, move_reads, move_closes, move_answers, move_over, move_within, ended_here, entry_opens}
use Rattle.wgsl_templates.proofs.ReadingLemmas.{stands_more}
use Rattle.wgsl_templates.proofs.Signs.{mark, opens_with, comma_with, sign_parts}

-- What the rest answers the bracket answers.
pub record IsReading (bracketed : Enclosing) (place : Place) (text : List ℕ) (table : List Entry) (state : Standing) (word : Bool) (rest : List ℕ) : Type 0 where
  pub has : IsTable rest table
  pub covered : length rest ≤ length table
  pub goes_on : (o : Option ℕ) → Ends bracketed state word rest o → Ends bracketed (standing place) false text o

pub reading_start : (bracketed : Enclosing) (place : Place) (text : List ℕ) (table : List Entry) (progress : Progress) → progress ≡ fresh → IsTable text table → length text ≤ length table
    → IsReading bracketed place text table (record { place = place; progress = progress }) false text
reading_start bracketed place text table progress begins has covered =
    let P : Progress → Type 0 = λ x. IsReading bracketed place text table (record { place = place; progress = x }) false text in
    subst P (sym begins) (record { has = has; covered = covered; goes_on = λ o h. h })

pub reading_ended : (bracketed : Enclosing) (place : Place) (text : List ℕ) (table : List Entry) (state : Standing) (word : Bool) (rest : List ℕ) → IsReading bracketed place text table state word rest → length rest ≡ 0
    → Ends bracketed (standing place) false text None
reading_ended bracketed place text table state word rest still none = still.goes_on None (ended_here bracketed state word rest none)

-- blankspace and comments that the table goes over
pub reading_skips : (bracketed : Enclosing) (place : Place) (text : List ℕ) (table : List Entry) (state : Standing) (word : Bool) (rest : List ℕ) → IsReading bracketed place text table state word rest
    → (c : ℕ) (following : List ℕ) → rest ≡ c ∷ following → (count : ℕ) → count ≤ length following → SkipsTo (c ∷ following) count → (near far : List ℕ) → near ≡ take (length following - count) following → far ≡ drop (length following - count) following
    → IsReading bracketed place text table state word far
reading_skips bracketed place text table state word rest still c following is count bound skips near far front cut =
    let split : following ≡ near ++ far = parts following near far (length following - count) front cut in
    let whole : rest ≡ (c ∷ near) ++ far = is ∙ ap (λ x. c ∷ x) split in
    let counted : length far ≡ length skips.left = omega (arith, ap length cut, length-drop (length following - count) following, bound, skips.counted) in
    let same : far ≡ skips.left = (same_end (c ∷ near) far skips.front skips.left (sym whole ∙ is ∙ skips.parts) counted).1 in
    record {
      has = table_back rest (c ∷ near) far table whole still.has;
      covered = omega (arith, still.covered, ap length is, ap length cut, length-drop (length following - count) following);
      goes_on = λ o h.
          let P : List ℕ → Type 0 = λ x. Ends bracketed state word x o in
          still.goes_on o (subst P (sym is) (skips.skips bracketed state word o (subst P same h)));
    }

pub if_some : (o : Option ℕ) (P : ℕ → Type 0) → ((count : ℕ) → o ≡ Some count → P count) → IfSome o P
if_some (Some count) P h = h count refl
if_some None P h = tt

-- what the table has of a comment
pub comment_there : (c : ℕ) (following : List ℕ) (table : List Entry) (entry : Entry) → c ≡ 47 → IsTable (c ∷ following) table → length following < length table → entry ≡ get_or table (length following) none
    → (count : ℕ) → entry.end ≡ Some count → (count ≤ length following) × SkipsTo (c ∷ following) count
comment_there c following table entry slash has room is count ends =
    let P : ℕ → Type 0 = λ x. (count ≤ length following) × SkipsTo (x ∷ following) count in
    subst P (sym slash) ((has [] c following refl room).comment slash count (ap (λ x. x.end) (sym is) ∙ ends))

module _ (bracketed : Enclosing) (place : Place) (text : List ℕ) (table : List Entry) (state : Standing) (word : Bool) (rest : List ℕ) (still : IsReading bracketed place text table state word rest)
    (c : ℕ) (following : List ℕ) (is : rest ≡ c ∷ following) (n : ℕ) (back : List ℕ) (b' : back ≡ drop n rest)
    (opened : List Bracket) (same : opened ≡ bracket bracketed ∷ []) (o : Option TemplateToken) (stands : (at : ℕ) → StandsHere (state_of at word opened) (c ∷ following) n o) where
  here : (at : ℕ) (p : Option TemplateToken) → o ≡ p → StandsHere (within bracketed at word []) rest n p
  here at p e = let P : List Bracket × List ℕ × Option TemplateToken → Type 0 = λ x. StandsHere (state_of at word x.0) x.1 n x.2 in subst P (λ i. (same i, sym is i, e i)) (stands at)

  pub shorter : length back < length rest
  shorter = omega (arith, ap length b', length-drop n rest, ap length is, stands_more (within bracketed 0 word []) rest n o (here 0 o refl))

  pub room : length back < length table
  room = omega (arith, shorter, still.covered)

  behind : (far front : List ℕ) → back ≡ front ++ far → IsTable far table
  behind far front cut = table_back back front far table cut (table_back rest (take n rest) back table (parts rest (take n rest) back n refl b') still.has)

  pub on_trivia : o ≡ None → IsReading bracketed place text table state word back
  on_trivia none = record {
    has = behind back [] refl;
    covered = omega (arith, room);
    goes_on = λ p h. let P : List ℕ → Type 0 = λ x. Ends bracketed state word x p in still.goes_on p (over_trivia rest n bracketed state word (no_token (here 0 None none)) p (subst P b' h));
  }

  module _ (t : TemplateToken) (some : o ≡ Some t) (entry : Entry) (at_back : entry ≡ get_or table (length back) none) (move : Move) (taken : move ≡ moved state bracketed (kind t) entry) where
    token_here : (at : ℕ) → Stands (within bracketed at word []) rest n t
    token_here at = stood (here at (Some t) some)

    entry_back : (character : ℕ) → take n rest ≡ character ∷ [] → IsEntry character back entry
    entry_back character front =
        let P : Entry → Type 0 = λ x. IsEntry character back x in
        subst P (sym at_back) (still.has [] character back (sign_parts rest back n character front b') room)

    opened_here : (inner : Enclosing) → kind t ≡ sign inner → Ends inner (standing (first_place inner)) false (drop n rest) (end_of inner entry)
    opened_here inner s =
        let P : List ℕ → Type 0 = λ x. Ends inner (standing (first_place inner)) false x (end_of inner entry) in
        subst P b' (entry_opens inner (mark inner) back entry (entry_back (mark inner) (opens_with inner (token_here 0) s)) refl)

    item_here : kind t ≡ k.Comma → Ends e.List (standing at.OperandOrEnd) false (drop n rest) entry.end
    item_here s =
        let P : List ℕ → Type 0 = λ x. Ends e.List (standing at.OperandOrEnd) false x entry.end in
        subst P b' ((entry_back 44 (comma_with (token_here 0) s)).item refl)

    pub on_token : (next : Standing) → move ≡ Goes_on next → (after_word : Bool) → after_word ≡ is_word t → IsReading bracketed place text table next after_word back
    on_token next reads after_word told = record {
      has = behind back [] refl;
      covered = omega (arith, room);
      goes_on = λ p h.
          let P : List ℕ × Bool → Type 0 = λ x. Ends bracketed next x.1 x.0 p in
          still.goes_on p (move_reads bracketed state word rest n t token_here entry opened_here item_here (action state bracketed (kind t)) refl next (sym taken ∙ reads) p (subst P (λ i. (b' i, told i)) h));
    }

    pub within_back : (next : Standing) (count : ℕ) → move ≡ GoesOver next count → count ≤ length back
    within_back next count over =
        let bound : count ≤ length (drop n rest) = move_within bracketed state word rest n t token_here entry opened_here item_here (action state bracketed (kind t)) refl next count (sym taken ∙ over) in
        omega (arith, bound, ap length b')

    pub on_bracket : (next : Standing) (count : ℕ) → move ≡ GoesOver next count → (near far : List ℕ) → near ≡ take (length back - count) back → far ≡ drop (length back - count) back → IsReading bracketed place text table next false far
    on_bracket next count over near far front cut = record {
      has = behind far near (parts back near far (length back - count) front cut);
      covered = omega (arith, room, ap length cut, length-drop (length back - count) back);
      goes_on = λ p h.
          still.goes_on p (move_over bracketed state word rest n t token_here entry opened_here item_here (action state bracketed (kind t)) refl next count (sym taken ∙ over) far (cut ∙ (λ i. drop (length (b' i) - count) (b' i))) p h);
    }

    pub on_end : move ≡ Closed → (count : ℕ) → count ≡ length back → Ends bracketed (standing place) false text (Some count)
    on_end closes count counted =
        let P : ℕ → Type 0 = λ x. Ends bracketed (standing place) false text (Some x) in
        subst P (sym (counted ∙ ap length b')) (still.goes_on (Some (length (drop n rest))) (move_closes bracketed state word rest n t token_here entry opened_here item_here (action state bracketed (kind t)) refl (sym taken ∙ closes)))

    pub on_answer : (answer : Option ℕ) → move ≡ Answers answer → Ends bracketed (standing place) false text answer
    on_answer answer answers = still.goes_on answer (move_answers bracketed state word rest n t token_here entry opened_here item_here (action state bracketed (kind t)) refl answer (sym taken ∙ answers))
