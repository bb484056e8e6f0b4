-- Reading on within a bracket.
use Rattle.std.specs.Prelude.{Option, Some, None, is_some}
use Rattle.std.proofs.Common.{◌≡◌, ℕ, ◌+◌, ◌-◌, ◌≤◌, Bool, true, false, ◌&&◌, List, [], ◌∷◌, ◌++◌, length, take, drop, refl, sym, ◌∙◌, ap, subst, arith, append_assoc, append-nil, length-append, length-drop, take-append-drop}
use Rattle.wgsl_lex.specs.Tokens.{size}
use Rattle.wgsl_templates.specs.declared.meaning.kind.Kind.{Kind}
use Rattle.wgsl_templates.specs.declared.meaning.kind.Kind.TheVariants as k
use Rattle.wgsl_templates.specs.declared.meaning.token.Bracket.{Bracket}
use Rattle.wgsl_templates.specs.declared.meaning.token.Bracket.TheVariants as b
use Rattle.wgsl_templates.specs.declared.meaning.token.TemplateToken.{TemplateToken}
use Rattle.wgsl_templates.specs.declared.meaning.token.SpannedTemplateToken.{SpannedTemplateToken}
use Rattle.wgsl_templates.specs.Kinds.{kind, kinds}
use Rattle.wgsl_templates.specs.Tokens.{is_word, is_in_list, begins_with_greater, behind, State, in_list, after, spanned, IsFirst, Reads, nothing, behind_trivia, a_token, Stands, closing, asked, plain, Opens, no_list}
use Rattle.wgsl_templates.proofs.Once.{reads_then, kinds_append}
use Rattle.wgsl_templates.proofs.Whole.{opens_list}
use Rattle.wgsl_templates.specs.declared.recognizer.recognize.Answer.TheVariants.{List as Listed, Never, Unfinished}
use Rattle.wgsl_templates.specs.declared.recognizer.place.Place.TheVariants as at
use Rattle.wgsl_templates.specs.declared.recognizer.place.Enclosing.{Enclosing}
use Rattle.wgsl_templates.specs.declared.recognizer.place.Enclosing.TheVariants as e
use Rattle.wgsl_templates.specs.declared.recognizer.place.Frame.{Frame}
use Rattle.wgsl_templates.specs.declared.recognizer.place.State.{State as Standing}
use Rattle.wgsl_templates.specs.declared.recognizer.place.Action.{Action}
use Rattle.wgsl_templates.specs.declared.recognizer.place.Action.TheVariants as a
use Rattle.wgsl_templates.specs.Actions.{Status, reading, ended, popped, enclosing, first_place, last_place, action, does, next}
use Rattle.wgsl_templates.specs.Runs.{verdict}
use Rattle.wgsl_templates.proofs.Run.{verdict_ended, beginning}
use Rattle.wgsl_templates.proofs.Complete.{complete}
use Rattle.wgsl_templates.proofs.Sound.{sound}
use Rattle.wgsl_templates.proofs.Fits.{Fits, fits, turns, sign}
use Rattle.wgsl_templates.specs.declared.entry.Entry.{Entry}
use Rattle.wgsl_templates.specs.declared.level.Move.{Move}
use Rattle.wgsl_templates.specs.declared.level.Move.TheVariants.{Reads as Goes_on, GoesOver, Closes as Closed, Answers}
use Rattle.wgsl_templates.specs.Steps.{StandsHere, trivia_here, token_here}
use Rattle.wgsl_templates.specs.Levels.{bracket, within, LeadsOut, LeadsNowhere, Ends, ends, never, standing, ends_at, end_of, SkipsTo, IsEntry, gone_over, separated, move_of}
use Rattle.wgsl_templates.proofs.Signs.{mark, turns_nothing, closes_one, opens_one, turns_no_word, sign_turns, closing_turns, comma_word}
use Rattle.wgsl_templates.proofs.Entries.{same_end}

-- What stands in a bracket depends on no other.

in_list_alone : (bracket : Bracket) (opened : List Bracket) → is_in_list (bracket ∷ opened) ≡ is_in_list (bracket ∷ [])
in_list_alone b.TemplateList opened = refl
in_list_alone b.Plain opened = refl

stands_within : (bracketed : Enclosing) (opened : List Bracket) (at : ℕ) (word : Bool) {text : List ℕ} {n : ℕ} {t : TemplateToken} → Stands (within bracketed at word []) text n t → Stands (within bracketed at word opened) text n t
stands_within bracketed opened at word {text = text} (closing n t first h) = closing n t first (ap (λ x. x && begins_with_greater text) (in_list_alone (bracket bracketed) opened) ∙ h)
stands_within bracketed opened at word (asked n t first h o) = asked n t first h o
stands_within bracketed opened at word {text = text} (plain n t first h w) = plain n t first (ap (λ x. x && begins_with_greater text) (in_list_alone (bracket bracketed) opened) ∙ h) w

pub stood : {s : State} {text : List ℕ} {n : ℕ} {t : TemplateToken} → StandsHere s text n (Some t) → Stands s text n t
stood (token_here h) = h

pub no_token : {s : State} {text : List ℕ} {n : ℕ} → StandsHere s text n None → IsFirst text n None
no_token (trivia_here h) = h

-- What moves say

on_is : {x y : Standing} → Goes_on x ≡ Goes_on y → x ≡ y
on_is h = cc

answer_is : {o p : Option ℕ} → Answers o ≡ Answers p → o ≡ p
answer_is h = cc

over_is : {x y : Standing} {m n : ℕ} → GoesOver x m ≡ GoesOver y n → (x ≡ y) × (m ≡ n)
over_is h = (cc, cc)

separates_on : (bracketed : Enclosing) (end : Option ℕ) (onward : Standing) → separated bracketed end ≡ Goes_on onward → standing at.OperandOrEnd ≡ onward
separates_on e.List end onward h = absurd cc
separates_on e.Arguments end onward h = on_is h
separates_on e.Parentheses end onward h = on_is h
separates_on e.Index end onward h = on_is h

separates_list : (bracketed : Enclosing) (end answer : Option ℕ) → separated bracketed end ≡ Answers answer → (e.List ≡ bracketed) × (end ≡ answer)
separates_list e.List end answer h = (refl, answer_is h)
separates_list e.Arguments end answer h = absurd cc
separates_list e.Parentheses end answer h = absurd cc
separates_list e.Index end answer h = absurd cc

separates_here : (bracketed : Enclosing) (end : Option ℕ) (onward : Standing) (count : ℕ) → separated bracketed end ≡ GoesOver onward count → ⊥
separates_here e.List end onward count h = cc
separates_here e.Arguments end onward count h = cc
separates_here e.Parentheses end onward count h = cc
separates_here e.Index end onward count h = cc

separates_open : (bracketed : Enclosing) (end : Option ℕ) → separated bracketed end ≡ Closed → ⊥
separates_open e.List end h = cc
separates_open e.Arguments end h = cc
separates_open e.Parentheses end h = cc
separates_open e.Index end h = cc

-- what is left of a text, by its length
tail_is : (back front left far : List ℕ) (count : ℕ) → back ≡ front ++ left → length left ≡ count → far ≡ drop (length back - count) back → far ≡ left
tail_is back front left far count parts counted cut =
    let whole : take (length back - count) back ++ far ≡ front ++ left = ap (λ x. take (length back - count) back ++ x) cut ∙ take-append-drop (length back - count) back ∙ parts in
    let lengths : length far ≡ length left = omega (arith, ap length cut, length-drop (length back - count) back, counted, ap length parts, length-append front left) in
    (same_end (take (length back - count) back) far front left whole lengths).1

regroup : (xs ys : List SpannedTemplateToken) (more : List Kind) → kinds (xs ++ ys) ++ more ≡ kinds xs ++ (kinds ys ++ more)
regroup xs ys more = ap (λ x. x ++ more) (kinds_append xs ys) ∙ append_assoc (kinds xs) (kinds ys) more

module _ (text : List ℕ) (n : ℕ) where
  pub longer : (front left : List ℕ) → drop n text ≡ front ++ left → text ≡ (take n text ++ front) ++ left
  longer front left parts = sym (take-append-drop n text) ∙ ap (λ x. take n text ++ x) parts ∙ sym (append_assoc (take n text) front left)

  -- blankspace or a comment
  pub over_trivia : (bracketed : Enclosing) (state : Standing) (word : Bool) → IsFirst text n None → (o : Option ℕ) → Ends bracketed state word (drop n text) o → Ends bracketed state word text o
  over_trivia bracketed state word first _ (ends count front left parts counted leads) = ends count (take n text ++ front) left (longer front left parts) counted (λ at opened frames same.
      let r = leads (at + size (take n text)) opened frames same in
      record { at = r.at; tokens = r.tokens; reads = behind_trivia n first r.reads; leads = r.leads })
  over_trivia bracketed state word first _ (never stays) = never (λ at opened frames same.
      let r = stays (at + size (take n text)) opened frames same in
      record { tokens = r.tokens; last = r.last; left = r.left; reads = behind_trivia n first r.reads; nowhere = r.nowhere })

-- a token
module _ (bracketed : Enclosing) (state : Standing) (word : Bool) (text : List ℕ) (n : ℕ) (t : TemplateToken) (stands : (at : ℕ) → Stands (within bracketed at word []) text n t) where
  here : (at : ℕ) (opened : List Bracket) → Stands (within bracketed at word opened) text n t
  here at opened = stands_within bracketed opened at word (stands at)

  -- the reading goes on with these brackets
  reads_more : (at : ℕ) (opened onward : List Bracket) (after_word : Bool) → behind (bracket bracketed ∷ opened) t ≡ onward → is_word t ≡ after_word → (tokens : List SpannedTemplateToken) (last : State) (left : List ℕ)
      → Reads (record { at = at + size (take n text); after_word = after_word; opened = onward }) (drop n text) tokens last left
      → Reads (within bracketed at word opened) text (spanned (within bracketed at word opened) (take n text) t ∷ tokens) last left
  reads_more at opened onward after_word turned same tokens last left r =
      let P : List Bracket × Bool → Type 0 = λ x. Reads (record { at = at + size (take n text); after_word = x.1; opened = x.0 }) (drop n text) tokens last left in
      a_token n t (here at opened) (subst P (λ i. (sym turned i, sym same i)) r)

  -- what the token does
  module _ (act : Action) (is : action state bracketed (kind t) ≡ act) where
    next_is : (frames : List Frame) → enclosing frames ≡ bracketed → next state frames (kind t) ≡ does state.progress frames act
    next_is frames same = ap (λ x. does state.progress frames (action state x (kind t))) same ∙ ap (λ x. does state.progress frames x) is

    act_fits : Fits (kind t) act
    act_fits = let P : Action → Type 0 = λ x. Fits (kind t) x in subst P is (fits state bracketed (kind t))

  reads_on : (onward : Standing) → ((frames : List Frame) → enclosing frames ≡ bracketed → next state frames (kind t) ≡ reading onward frames) → turns (kind t) ≡ false → (o : Option ℕ)
      → Ends bracketed onward (is_word t) (drop n text) o → Ends bracketed state word text o
  reads_on onward does_so unturned _ (ends count front left parts counted leads) = ends count (take n text ++ front) left (longer text n front left parts) counted (λ at opened frames same.
      let r = leads (at + size (take n text)) opened frames same in record {
        at = r.at;
        tokens = spanned (within bracketed at word opened) (take n text) t ∷ r.tokens;
        reads = reads_more at opened (bracket bracketed ∷ opened) (is_word t) (turns_nothing (bracket bracketed ∷ opened) t unturned) refl r.tokens _ left r.reads;
        leads = λ more. ap (λ s. verdict (kinds r.tokens ++ more) s) (does_so frames same) ∙ r.leads more;
      })
  reads_on onward does_so unturned _ (never stays) = never (λ at opened frames same.
      let r = stays (at + size (take n text)) opened frames same in record {
        tokens = spanned (within bracketed at word opened) (take n text) t ∷ r.tokens;
        last = r.last;
        left = r.left;
        reads = reads_more at opened (bracket bracketed ∷ opened) (is_word t) (turns_nothing (bracket bracketed ∷ opened) t unturned) refl r.tokens r.last r.left r.reads;
        nowhere = λ more ending found. r.nowhere more ending (ap (λ s. verdict (kinds r.tokens ++ more) s) (sym (does_so frames same)) ∙ found);
      })

  -- It opens a bracket.
  module _ (inner : Enclosing) (is : action state bracketed (kind t) ≡ a.Opens inner) where
    opens_inner : kind t ≡ sign inner
    opens_inner = act_fits (a.Opens inner) is

    no_word : is_word t ≡ false
    no_word = turns_no_word t (sign_turns inner (kind t) opens_inner)

    over_bracket : (count : ℕ) (front left : List ℕ) → drop n text ≡ front ++ left
        → ((at : ℕ) (opened : List Bracket) (frames : List Frame) → enclosing frames ≡ inner → LeadsOut (standing (first_place inner)) frames (within inner at false opened) opened (drop n text) left)
        → (o : Option ℕ) → Ends bracketed (record { place = last_place inner; progress = state.progress }) false left o → Ends bracketed state word text o
    over_bracket count front left parts leads _ (ends count' front' left' parts' counted' leads') =
        ends count' (take n text ++ (front ++ front')) left' (longer text n (front ++ front') left' (parts ∙ ap (λ x. front ++ x) parts' ∙ sym (append_assoc front front' left'))) counted' (λ at opened frames same.
        let i = leads (at + size (take n text)) (bracket bracketed ∷ opened) (record { enclosing = inner; outer = state.progress } ∷ frames) refl in
        let r = leads' i.at opened frames same in record {
          at = r.at;
          tokens = spanned (within bracketed at word opened) (take n text) t ∷ (i.tokens ++ r.tokens);
          reads = reads_more at opened (bracket inner ∷ bracket bracketed ∷ opened) false (opens_one inner (bracket bracketed ∷ opened) t opens_inner) no_word (i.tokens ++ r.tokens) _ left' (reads_then _ (drop n text) i.tokens _ left i.reads r.tokens _ left' r.reads);
          leads = λ more. ap (λ s. verdict (kinds (i.tokens ++ r.tokens) ++ more) s) (next_is (a.Opens inner) is frames same) ∙ ap (λ x. verdict x (reading (standing (first_place inner)) (record { enclosing = inner; outer = state.progress } ∷ frames))) (regroup i.tokens r.tokens more) ∙ i.leads (kinds r.tokens ++ more) ∙ r.leads more;
        })
    over_bracket count front left parts leads _ (never stays) = never (λ at opened frames same.
        let i = leads (at + size (take n text)) (bracket bracketed ∷ opened) (record { enclosing = inner; outer = state.progress } ∷ frames) refl in
        let r = stays i.at opened frames same in record {
          tokens = spanned (within bracketed at word opened) (take n text) t ∷ (i.tokens ++ r.tokens);
          last = r.last;
          left = r.left;
          reads = reads_more at opened (bracket inner ∷ bracket bracketed ∷ opened) false (opens_one inner (bracket bracketed ∷ opened) t opens_inner) no_word (i.tokens ++ r.tokens) r.last r.left (reads_then _ (drop n text) i.tokens _ left i.reads r.tokens r.last r.left r.reads);
          nowhere = λ more ending found. r.nowhere more ending (sym (ap (λ s. verdict (kinds (i.tokens ++ r.tokens) ++ more) s) (next_is (a.Opens inner) is frames same) ∙ ap (λ x. verdict x (reading (standing (first_place inner)) (record { enclosing = inner; outer = state.progress } ∷ frames))) (regroup i.tokens r.tokens more) ∙ i.leads (kinds r.tokens ++ more)) ∙ found);
        })

    over_none : Ends inner (standing (first_place inner)) false (drop n text) None → Ends bracketed state word text None
    over_none (never stays) = never (λ at opened frames same.
        let r = stays (at + size (take n text)) (bracket bracketed ∷ opened) (record { enclosing = inner; outer = state.progress } ∷ frames) refl in record {
          tokens = spanned (within bracketed at word opened) (take n text) t ∷ r.tokens;
          last = r.last;
          left = r.left;
          reads = reads_more at opened (bracket inner ∷ bracket bracketed ∷ opened) false (opens_one inner (bracket bracketed ∷ opened) t opens_inner) no_word r.tokens r.last r.left r.reads;
          nowhere = λ more ending found. r.nowhere more ending (ap (λ s. verdict (kinds r.tokens ++ more) s) (sym (next_is (a.Opens inner) is frames same)) ∙ found);
        })

  closes_here : action state bracketed (kind t) ≡ a.Closes → Ends bracketed state word text (Some (length (drop n text)))
  closes_here is =
      let shut = act_fits a.Closes is in
      ends (length (drop n text)) (take n text) (drop n text) (sym (take-append-drop n text)) refl (λ at opened frames same. record {
        at = at + size (take n text);
        tokens = spanned (within bracketed at word opened) (take n text) t ∷ [];
        reads = reads_more at opened opened false (closes_one (bracket bracketed) opened t shut) (turns_no_word t (closing_turns (kind t) shut)) [] _ (drop n text) nothing;
        leads = λ more. ap (λ s. verdict more s) (next_is a.Closes is frames same);
      })

  fails_here : action state bracketed (kind t) ≡ a.Fails → Ends bracketed state word text None
  fails_here is = never (λ at opened frames same. record {
    tokens = spanned (within bracketed at word opened) (take n text) t ∷ [];
    last = after (within bracketed at word opened) (take n text) t;
    left = drop n text;
    reads = reads_more at opened (behind (bracket bracketed ∷ opened) t) (is_word t) refl refl [] (after (within bracketed at word opened) (take n text) t) (drop n text) nothing;
    nowhere = λ more ending found.
        let stays : verdict more (next state frames (kind t)) ≡ Never = ap (λ s. verdict more s) (next_is a.Fails is frames same) ∙ verdict_ended more Never in
        let clash : Never ≡ Listed = sym stays ∙ found in
        absurd cc;
  })

  -- By the moves

  module _ (entry : Entry) (opened : (inner : Enclosing) → kind t ≡ sign inner → Ends inner (standing (first_place inner)) false (drop n text) (end_of inner entry))
      (item : kind t ≡ k.Comma → Ends e.List (standing at.OperandOrEnd) false (drop n text) entry.end) where
    not_on : (inner : Enclosing) (end : Option ℕ) (onward : Standing) → gone_over state inner end ≡ Goes_on onward → ⊥
    not_on inner None onward h = cc
    not_on inner (Some left) onward h = cc

    not_closed : (inner : Enclosing) (end : Option ℕ) → gone_over state inner end ≡ Closed → ⊥
    not_closed inner None h = cc
    not_closed inner (Some left) h = cc

    comma_turns : kind t ≡ k.Comma → turns (kind t) ≡ false
    comma_turns h = ap turns h

    comma_no_word : kind t ≡ k.Comma → is_word t ≡ false
    comma_no_word h = comma_word t h

    on_then : (act : Action) → action state bracketed (kind t) ≡ act → (made onward : Standing) → ((frames : List Frame) → does state.progress frames act ≡ reading made frames) → turns (kind t) ≡ false → made ≡ onward → (o : Option ℕ)
        → Ends bracketed onward (is_word t) (drop n text) o → Ends bracketed state word text o
    on_then act is made onward does_so unturned same o rest =
        reads_on onward (λ frames within_it. next_is act is frames within_it ∙ does_so frames ∙ ap (λ x. reading x frames) same) unturned o rest

    pub move_reads : (act : Action) → action state bracketed (kind t) ≡ act → (onward : Standing) → move_of act state bracketed entry ≡ Goes_on onward → (o : Option ℕ)
        → Ends bracketed onward (is_word t) (drop n text) o → Ends bracketed state word text o
    move_reads (a.Goes place) is onward h = let same : record { place = place; progress = state.progress } ≡ onward = on_is h in on_then (a.Goes place) is _ onward (λ frames. refl) (act_fits (a.Goes place) is) same
    move_reads (a.Operates progress) is onward h = let same : record { place = at.Operand; progress = progress } ≡ onward = on_is h in on_then (a.Operates progress) is _ onward (λ frames. refl) (act_fits (a.Operates progress) is) same
    move_reads (a.Opens inner) is onward h = absurd (not_on inner (end_of inner entry) onward h)
    move_reads a.Separates is onward h = on_then a.Separates is (standing at.OperandOrEnd) onward (λ frames. refl) (comma_turns (act_fits a.Separates is)) (separates_on bracketed entry.end onward h)
    move_reads a.Closes is onward h = absurd cc
    move_reads a.Fails is onward h = absurd cc

    pub move_closes : (act : Action) → action state bracketed (kind t) ≡ act → move_of act state bracketed entry ≡ Closed → Ends bracketed state word text (Some (length (drop n text)))
    move_closes (a.Goes place) is h = absurd cc
    move_closes (a.Operates progress) is h = absurd cc
    move_closes (a.Opens inner) is h = absurd (not_closed inner (end_of inner entry) h)
    move_closes a.Separates is h = absurd (separates_open bracketed entry.end h)
    move_closes a.Closes is h = closes_here is
    move_closes a.Fails is h = absurd cc

    opens_answer : (inner : Enclosing) → action state bracketed (kind t) ≡ a.Opens inner → (end answer : Option ℕ) → gone_over state inner end ≡ Answers answer → Ends inner (standing (first_place inner)) false (drop n text) end → Ends bracketed state word text answer
    opens_answer inner is None answer h inside = let same : None ≡ answer = answer_is h in subst (λ x. Ends bracketed state word text x) same (over_none inner is inside)
    opens_answer inner is (Some left) answer h inside = absurd cc

    pub move_answers : (act : Action) → action state bracketed (kind t) ≡ act → (answer : Option ℕ) → move_of act state bracketed entry ≡ Answers answer → Ends bracketed state word text answer
    move_answers (a.Goes place) is answer h = absurd cc
    move_answers (a.Operates progress) is answer h = absurd cc
    move_answers (a.Opens inner) is answer h = opens_answer inner is (end_of inner entry) answer h (opened inner (act_fits (a.Opens inner) is))
    move_answers a.Separates is answer h =
        let comma = act_fits a.Separates is in
        let there = separates_list bracketed entry.end answer h in
        let P : Enclosing × Option ℕ × Bool → Type 0 = λ x. Ends x.0 (standing at.OperandOrEnd) x.2 (drop n text) x.1 in
        on_then a.Separates is (standing at.OperandOrEnd) (standing at.OperandOrEnd) (λ frames. refl) (comma_turns comma) refl answer (subst P (λ i. (there.0 i, there.1 i, sym (comma_no_word comma) i)) (item comma))
    move_answers a.Closes is answer h = absurd cc
    move_answers a.Fails is answer h = let same : None ≡ answer = answer_is h in subst (λ x. Ends bracketed state word text x) same (fails_here is)

    opens_over : (inner : Enclosing) → action state bracketed (kind t) ≡ a.Opens inner → (end : Option ℕ) (onward : Standing) (count : ℕ) → gone_over state inner end ≡ GoesOver onward count → Ends inner (standing (first_place inner)) false (drop n text) end
        → (far : List ℕ) → far ≡ drop (length (drop n text) - count) (drop n text) → (o : Option ℕ) → Ends bracketed onward false far o → Ends bracketed state word text o
    opens_over inner is None onward count h inside far cut o rest = absurd cc
    opens_over inner is (Some _) onward count h (ends count' front left parts counted leads) far cut o rest =
        let same = over_is h in
        let there : far ≡ left = tail_is (drop n text) front left far count parts (counted ∙ same.1) cut in
        let P : Standing × List ℕ → Type 0 = λ x. Ends bracketed x.0 false x.1 o in
        over_bracket inner is count' front left parts leads o (subst P (λ i. (sym same.0 i, there i)) rest)

    pub move_over : (act : Action) → action state bracketed (kind t) ≡ act → (onward : Standing) (count : ℕ) → move_of act state bracketed entry ≡ GoesOver onward count
        → (far : List ℕ) → far ≡ drop (length (drop n text) - count) (drop n text) → (o : Option ℕ) → Ends bracketed onward false far o → Ends bracketed state word text o
    move_over (a.Goes place) is onward count h far cut o rest = absurd cc
    move_over (a.Operates progress) is onward count h far cut o rest = absurd cc
    move_over (a.Opens inner) is onward count h far cut o rest = opens_over inner is (end_of inner entry) onward count h (opened inner (act_fits (a.Opens inner) is)) far cut o rest
    move_over a.Separates is onward count h far cut o rest = absurd (separates_here bracketed entry.end onward count h)
    move_over a.Closes is onward count h far cut o rest = absurd cc
    move_over a.Fails is onward count h far cut o rest = absurd cc

    opens_within : (inner : Enclosing) (end : Option ℕ) (onward : Standing) (count : ℕ) → gone_over state inner end ≡ GoesOver onward count → Ends inner (standing (first_place inner)) false (drop n text) end → count ≤ length (drop n text)
    opens_within inner None onward count h inside = absurd cc
    opens_within inner (Some _) onward count h (ends count' front left parts counted leads) = omega (arith, (over_is h).1, counted, ap length parts, length-append front left)

    pub move_within : (act : Action) → action state bracketed (kind t) ≡ act → (onward : Standing) (count : ℕ) → move_of act state bracketed entry ≡ GoesOver onward count → count ≤ length (drop n text)
    move_within (a.Goes place) is onward count h = absurd cc
    move_within (a.Operates progress) is onward count h = absurd cc
    move_within (a.Opens inner) is onward count h = opens_within inner (end_of inner entry) onward count h (opened inner (act_fits (a.Opens inner) is))
    move_within a.Separates is onward count h = absurd (separates_here bracketed entry.end onward count h)
    move_within a.Closes is onward count h = absurd cc
    move_within a.Fails is onward count h = absurd cc

-- the text ends
pub ended_here : (bracketed : Enclosing) (state : Standing) (word : Bool) (text : List ℕ) → length text ≡ 0 → Ends bracketed state word text None
ended_here bracketed state word [] none = never (λ at opened frames same. record {
  tokens = [];
  last = within bracketed at word opened;
  left = [];
  reads = nothing;
  nowhere = λ more ending found.
      let unread : verdict more (reading state frames) ≡ Unfinished = ap (λ x. verdict x (reading state frames)) (ending refl) in
      let clash : Unfinished ≡ Listed = sym unread ∙ found in
      absurd cc;
})
ended_here bracketed state word (c ∷ text) none = absurd cc

-- A `<` opens a list where there is an end.
pub opens_where : (text : List ℕ) (o : Option ℕ) → Ends e.List (standing at.Operand) false text o → Opens text (is_some o)
opens_where text _ (ends count front left parts counted leads) =
    let r = leads 0 [] [] refl in
    opens_list text r.tokens _ left r.reads (sound (kinds r.tokens) (ap (λ x. verdict x beginning) (sym (append-nil (kinds r.tokens))) ∙ r.leads []))
opens_where text _ (never stays) =
    let r = stays 0 [] [] refl in
    no_list r.reads (λ more body later ending parts is. r.nowhere more ending (complete (kinds r.tokens ++ more) (record { body = body; rest = later; whole = parts; is_list = is })))

-- what an entry says of the bracket that its character opens
pub entry_opens : (inner : Enclosing) (character : ℕ) (behind : List ℕ) (entry : Entry) → IsEntry character behind entry → character ≡ mark inner → Ends inner (standing (first_place inner)) false behind (end_of inner entry)
entry_opens e.List character behind entry h same = h.list same
entry_opens e.Arguments character behind entry h same = h.arguments same
entry_opens e.Parentheses character behind entry h same = h.parentheses same
entry_opens e.Index character behind entry h same = h.index same

-- Entries by their characters
module _ (c : ℕ) (behind : List ℕ) (o : Option ℕ) where
  pub entry_list : c ≡ 60 → Ends e.List (standing at.Operand) false behind o → IsEntry c behind (ends_at o)
  entry_list is h = record {
    list = λ _. h;
    item = λ same. absurd (omega (arith, is, same));
    parentheses = λ same. absurd (omega (arith, is, same));
    arguments = λ same. absurd (omega (arith, is, same));
    index = λ same. absurd (omega (arith, is, same));
    comment = λ same. absurd (omega (arith, is, same));
  }

  pub entry_item : c ≡ 44 → Ends e.List (standing at.OperandOrEnd) false behind o → IsEntry c behind (ends_at o)
  entry_item is h = record {
    list = λ same. absurd (omega (arith, is, same));
    item = λ _. h;
    parentheses = λ same. absurd (omega (arith, is, same));
    arguments = λ same. absurd (omega (arith, is, same));
    index = λ same. absurd (omega (arith, is, same));
    comment = λ same. absurd (omega (arith, is, same));
  }

  pub entry_index : c ≡ 91 → Ends e.Index (standing at.Operand) false behind o → IsEntry c behind (ends_at o)
  entry_index is h = record {
    list = λ same. absurd (omega (arith, is, same));
    item = λ same. absurd (omega (arith, is, same));
    parentheses = λ same. absurd (omega (arith, is, same));
    arguments = λ same. absurd (omega (arith, is, same));
    index = λ _. h;
    comment = λ same. absurd (omega (arith, is, same));
  }

pub entry_parentheses : (behind : List ℕ) (o p : Option ℕ) → Ends e.Parentheses (standing at.Operand) false behind o → Ends e.Arguments (standing at.OperandOrEnd) false behind p
    → IsEntry 40 behind (record { end = o; arguments_end = p })
entry_parentheses behind o p h i = record {
  list = λ same. absurd (omega (arith, same));
  item = λ same. absurd (omega (arith, same));
  parentheses = λ _. h;
  arguments = λ _. i;
  index = λ same. absurd (omega (arith, same));
  comment = λ same. absurd (omega (arith, same));
}

pub entry_comment : (behind : List ℕ) (o : Option ℕ) → ((count : ℕ) → o ≡ Some count → (count ≤ length behind) × SkipsTo (47 ∷ behind) count) → IsEntry 47 behind (ends_at o)
entry_comment behind o h = record {
  list = λ same. absurd (omega (arith, same));
  item = λ same. absurd (omega (arith, same));
  parentheses = λ same. absurd (omega (arith, same));
  arguments = λ same. absurd (omega (arith, same));
  index = λ same. absurd (omega (arith, same));
  comment = λ _. h;
}

pub entry_other : (c : ℕ) (behind : List ℕ) (entry : Entry) → (c ≡ 60 → ⊥) → (c ≡ 44 → ⊥) → (c ≡ 40 → ⊥) → (c ≡ 91 → ⊥) → (c ≡ 47 → ⊥) → IsEntry c behind entry
entry_other c behind entry list item paren index slash = record {
  list = λ same. absurd (list same);
  item = λ same. absurd (item same);
  parentheses = λ same. absurd (paren same);
  arguments = λ same. absurd (paren same);
  index = λ same. absurd (index same);
  comment = λ same. absurd (slash same);
}
