-- What all calls of a writer write together.
use Rattle.std.proofs.Common.{◌≡◌, refl, sym, ap, ◌∙◌, subst, ℕ, ◌<◌, Bool, true, false, cond, ◌==◌, List, [], ◌∷◌, ◌++◌, append_assoc, length, arith, Option, Some, None, Result, Ok, Err, OnOk}
use Rattle.std.specs.List.{FoldsTo, concat, slice_split, onto_first}
use Rattle.std.specs.Option.{option_map}
use Rattle.std.specs.Fmt.{HasWritten, WritesText, DisplaysOnOk, IsPlainFormatter}
use Rattle.std.specs.declared.fmt.Error.{Error}
use Rattle.std.specs.declared.fmt.Formatter.{Formatter}
use Rattle.std.proofs.lemmas.Bool.Decides.{nat_tests}
use Rattle.std.proofs.lemmas.List.Splits.{length-slice_split}
use Rattle.wgsl_base.specs.Indented.{indented_lines, indented}
use Rattle.wgsl_base.specs.Writing.{margin_if, piece_indented, begins_behind, Indents}
use Rattle.wgsl_base.specs.declared.indent.lines.Lines.{Lines}
use Rattle.wgsl_base.proofs.Pieces.{written_then, written_nothing}

-- ---- pieces and lines

-- lines, of which the first one may have begun before
abbrev last_line_if : Bool → List ℕ → List ℕ
last_line_if begins [] = []
last_line_if begins (b ∷ bs) = margin_if begins ++ b ∷ bs

abbrev lines_if : Bool → List (List ℕ) → List ℕ
lines_if begins [] = []
lines_if begins (l ∷ []) = last_line_if begins l
lines_if begins (l ∷ m ∷ ls) = margin_if begins ++ (l ++ 10 ∷ indented_lines (m ∷ ls))

all_begin : (ls : List (List ℕ)) → lines_if true ls ≡ indented_lines ls
all_begin [] = refl
all_begin ([] ∷ []) = refl
all_begin ((b ∷ bs) ∷ []) = refl
all_begin (l ∷ m ∷ ls) = refl

begun : (l : List ℕ) → last_line_if false l ≡ l
begun [] = refl
begun (b ∷ bs) = refl

module _ (begins : Bool) (b : ℕ) (bs : List ℕ) where
  one_more : (t : Bool) → (t ≡ true → b ≡ 10) → (parts : List (List ℕ)) → 0 < length parts → ((s : Bool) → piece_indented s bs ≡ lines_if s parts)
      → margin_if begins ++ b ∷ piece_indented t bs ≡ lines_if begins (cond t ([] ∷ parts) (onto_first b parts))
  one_more t is [] some same = absurd (omega arith)
  one_more true is (m ∷ ls) some same = λ i. margin_if begins ++ is refl i ∷ (same true ∙ all_begin (m ∷ ls)) i
  one_more false is (m ∷ []) some same = ap (λ x. margin_if begins ++ b ∷ x) (same false ∙ begun m)
  one_more false is (m ∷ n ∷ ls) some same = ap (λ x. margin_if begins ++ b ∷ x) (same false)

piece_is_lines : (text : List ℕ) (begins : Bool) → piece_indented begins text ≡ lines_if begins (slice_split (λ b. b == 10) text)
piece_is_lines [] begins = refl
piece_is_lines (b ∷ bs) begins =
    one_more begins b bs (b == 10) (λ e. grind (arith, nat_tests)) (slice_split (λ c. c == 10) bs) (omega (arith, length-slice_split (λ c. c == 10) bs)) (piece_is_lines bs)

indented_is : (text : List ℕ) → piece_indented true text ≡ indented text
indented_is text = piece_is_lines text true ∙ all_begin (slice_split (λ b. b == 10) text)

-- ---- calls

piece_then : (begins : Bool) (xs ys : List ℕ) → piece_indented begins (xs ++ ys) ≡ piece_indented begins xs ++ piece_indented (begins_behind begins xs) ys
piece_then begins [] ys = refl
piece_then begins (b ∷ xs) ys = ap (λ x. margin_if begins ++ b ∷ x) (piece_then (b == 10) xs ys) ∙ sym (append_assoc (margin_if begins) (b ∷ piece_indented (b == 10) xs) _)

module _ {W : Type 0} (took : W → List ℕ → W → Type 0) where
  calls_write : (old : Lines W) (parts : List (List ℕ)) (now : Lines W) → FoldsTo (Indents took) old parts now → IsPlainFormatter old.f.now
      → HasWritten took old.f.now (piece_indented old.begins (concat parts)) now.f.now × (now.f.ghost_name ≡ old.f.ghost_name)
  calls_write old [] now e plain = subst (λ x. HasWritten took old.f.now [] x.f.now × (x.f.ghost_name ≡ old.f.ghost_name)) e (written_nothing took old.f.now plain, refl)
  calls_write old (x ∷ xs) now s plain =
      let one = s.1.writes plain in
      let rest = calls_write s.0 xs now s.2 one.plain in (
        subst (λ y. HasWritten took old.f.now y now.f.now) (sym (piece_then old.begins x (concat xs) ∙ ap (λ t. piece_indented old.begins x ++ piece_indented t (concat xs)) (sym s.1.begins)))
            (written_then took _ _ _ _ _ one rest.0),
        rest.1 ∙ s.1.same,
      )

  -- What the formatter holds at last is what its reference holds, if that is still the same one.
  pub displays : (old now : Lines W) (o : Option (List ℕ)) (r : Result Unit Error) (last : Formatter W) → old.begins ≡ true → OnOk r (WritesText (Indents took) old o now) → (now.f.ghost_name ≡ old.f.ghost_name → now.f.now ≡ last)
      → DisplaysOnOk took old.f.now r (option_map indented o) last
  displays old now None r last start h held = tt
  displays old now (Some bs) (Ok v) last start h held = λ plain ok.
      let all = calls_write old h.parts now h.calls plain in
      subst (λ y. HasWritten took old.f.now y last) ((λ i. piece_indented (start i) (h.whole i)) ∙ indented_is bs) (subst (λ g. HasWritten took old.f.now (piece_indented old.begins (concat h.parts)) g) (held all.1) all.0)
  displays old now (Some bs) (Err e) last start h held = λ plain ok. absurd cc
