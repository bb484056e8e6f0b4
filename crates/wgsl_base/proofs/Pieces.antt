-- Text that is written piece by piece.
use Rattle.std.proofs.Common.{◌≡◌, ◌≢◌, refl, sym, ap, ◌∙◌, subst, ℕ, ◌+◌, ◌<◌, Bool, true, false, ◌==◌, List, [], ◌∷◌, ◌++◌, append-nil, length, arith}
use Rattle.std.specs.List.{FoldsTo}
use Rattle.std.specs.Fmt.{HasWritten, IsPlainFormatter}
use Rattle.std.specs.declared.fmt.Formatter.{Formatter}
use Rattle.std.proofs.lemmas.Bool.Decides.{nat_tests}
use Rattle.std.proofs.lemmas.Grind.{common_steps}
use Rattle.std.proofs.lemmas.List.Folds.{concat-append}
use Rattle.wgsl_base.specs.Writing.{HasNoBreak, margin_if, piece_indented, begins_behind, Indents}
use Rattle.wgsl_base.specs.declared.indent.lines.Lines.{Lines}

-- ---- lines

break_not_first : (b : ℕ) (bs : List ℕ) → HasNoBreak (b ∷ bs) → (b == 10) ≡ false
break_not_first b bs h = let ne : b ≢ 10 = h 0 (grind (arith, common_steps)) in grind (arith, nat_tests)

no_break_behind : (b : ℕ) (bs : List ℕ) → HasNoBreak (b ∷ bs) → HasNoBreak bs
no_break_behind b bs h i lt = let k = h (i + 1) (grind (arith, common_steps)) in grind (arith, common_steps)

-- a line and what stands behind it
pub line_then : (begins : Bool) (line behind : List ℕ) → HasNoBreak line → piece_indented begins (line ++ 10 ∷ behind) ≡ margin_if begins ++ (line ++ 10 ∷ piece_indented true behind)
line_then begins [] behind h = refl
line_then begins (b ∷ line) behind h =
    ap (λ x. margin_if begins ++ b ∷ x) (ap (λ t. piece_indented t (line ++ 10 ∷ behind)) (break_not_first b line h) ∙ line_then false line behind (no_break_behind b line h))

pub begins_then : (begins : Bool) (line behind : List ℕ) → begins_behind begins (line ++ 10 ∷ behind) ≡ begins_behind true behind
begins_then begins [] behind = refl
begins_then begins (b ∷ line) behind = begins_then (b == 10) line behind

-- within a line
plain_piece : (bs : List ℕ) → HasNoBreak bs → piece_indented false bs ≡ bs
plain_piece [] h = refl
plain_piece (b ∷ bs) h = ap (λ x. b ∷ x) (ap (λ t. piece_indented t bs) (break_not_first b bs h) ∙ plain_piece bs (no_break_behind b bs h))

plain_begins : (bs : List ℕ) → HasNoBreak bs → begins_behind false bs ≡ false
plain_begins [] h = refl
plain_begins (b ∷ bs) h = ap (λ t. begins_behind t bs) (break_not_first b bs h) ∙ plain_begins bs (no_break_behind b bs h)

pub line_alone : (begins : Bool) (line : List ℕ) → HasNoBreak line → 0 < length line → piece_indented begins line ≡ margin_if begins ++ line
line_alone begins [] h some = absurd (omega arith)
line_alone begins (b ∷ bs) h some = ap (λ x. margin_if begins ++ b ∷ x) (ap (λ t. piece_indented t bs) (break_not_first b bs h) ∙ plain_piece bs (no_break_behind b bs h))

pub begins_alone : (begins : Bool) (line : List ℕ) → HasNoBreak line → 0 < length line → begins_behind begins line ≡ false
begins_alone begins [] h some = absurd (omega arith)
begins_alone begins (b ∷ bs) h some = ap (λ t. begins_behind t bs) (break_not_first b bs h) ∙ plain_begins bs (no_break_behind b bs h)

-- ---- writes, one behind another

folds_then : {P A : Type 0} (R : P → A → P → Type 0) (p : P) (xs : List A) (q : P) (ys : List A) (r : P) → FoldsTo R p xs q → FoldsTo R q ys r → FoldsTo R p (xs ++ ys) r
folds_then R p [] q ys r e h = subst (λ x. FoldsTo R x ys r) (sym e) h
folds_then R p (x ∷ xs) q ys r s h = (s.0, s.1, folds_then R s.0 xs q ys r s.2 h)

pub written_then : {W : Type 0} (took : W → List ℕ → W → Type 0) (f g h : Formatter W) (a b : List ℕ) → HasWritten took f a g → HasWritten took g b h → HasWritten took f (a ++ b) h
written_then took f g h a b one two = record {
  wrote = record {
    parts = one.wrote.parts ++ two.wrote.parts;
    calls = folds_then took _ one.wrote.parts _ two.wrote.parts _ one.wrote.calls two.wrote.calls;
    whole = concat-append one.wrote.parts two.wrote.parts ∙ (λ i. one.wrote.whole i ++ two.wrote.whole i);
  };
  plain = two.plain;
}

pub written_nothing : {W : Type 0} (took : W → List ℕ → W → Type 0) (f : Formatter W) → IsPlainFormatter f → HasWritten took f [] f
written_nothing took f plain = record { wrote = record { parts = []; calls = refl; whole = refl }; plain = plain }

-- what was written of a text when so much is left of it
pub record IsWrittenTo {W : Type 0} (took : W → List ℕ → W → Type 0) (old : Lines W) (text rest : List ℕ) (now : Lines W) : Type 0 where
  pub writes : IsPlainFormatter old.f.now → (done : List ℕ) × HasWritten took old.f.now done now.f.now × (piece_indented old.begins text ≡ done ++ piece_indented now.begins rest)
  pub begins : begins_behind old.begins text ≡ begins_behind now.begins rest
  pub same : now.f.ghost_name ≡ old.f.ghost_name

module _ {W : Type 0} (took : W → List ℕ → W → Type 0) (old now after : Lines W) (text rest : List ℕ) (still : IsWrittenTo took old text rest now) (a : Formatter W)
    (same : after.f.ghost_name ≡ now.f.ghost_name) (margins : IsPlainFormatter now.f.now → HasWritten took now.f.now (margin_if now.begins) a) where
  -- one line more
  pub written_line : (line behind : List ℕ) (b : Formatter W) → rest ≡ line ++ 10 ∷ behind → HasNoBreak line → (IsPlainFormatter a → HasWritten took a line b) → (IsPlainFormatter b → HasWritten took b (10 ∷ []) after.f.now)
      → after.begins ≡ true → IsWrittenTo took old text behind after
  written_line line behind b is whole lines breaks begun = record {
    writes = λ plain.
        let before = still.writes plain in
        let margin = margins before.1.plain in
        let shown = lines margin.plain in
        let broken = breaks shown.plain in (
          before.0 ++ (margin_if now.begins ++ (line ++ 10 ∷ [])),
          written_then took _ _ _ _ _ before.1 (written_then took _ _ _ _ _ margin (written_then took _ _ _ _ _ shown broken)),
          before.2 ∙ ap (λ x. before.0 ++ piece_indented now.begins x) is ∙ ap (λ x. before.0 ++ x) (line_then now.begins line behind whole)
              ∙ ap (λ t. before.0 ++ (margin_if now.begins ++ (line ++ 10 ∷ piece_indented t behind))) (sym begun)
              ∙ regroup before.0 (margin_if now.begins) line (piece_indented after.begins behind),
        );
    begins = still.begins ∙ ap (begins_behind now.begins) is ∙ begins_then now.begins line behind ∙ ap (λ t. begins_behind t behind) (sym begun);
    same = same ∙ still.same;
  }
    where
      regroup : (d m l p : List ℕ) → d ++ (m ++ (l ++ 10 ∷ p)) ≡ (d ++ (m ++ (l ++ 10 ∷ []))) ++ p
      regroup d m l p = grind (arith, common_steps)

  -- what stands behind the last line break
  pub written_rest : HasNoBreak rest → 0 < length rest → (IsPlainFormatter a → HasWritten took a rest after.f.now) → after.begins ≡ false → IsWrittenTo took old text [] after
  written_rest whole some shows begun = record {
    writes = λ plain.
        let before = still.writes plain in
        let margin = margins before.1.plain in (
          before.0 ++ (margin_if now.begins ++ rest),
          written_then took _ _ _ _ _ before.1 (written_then took _ _ _ _ _ margin (shows margin.plain)),
          before.2 ∙ ap (λ x. before.0 ++ x) (line_alone now.begins rest whole some) ∙ sym (append-nil (before.0 ++ (margin_if now.begins ++ rest))),
        );
    begins = still.begins ∙ begins_alone now.begins rest whole some ∙ sym begun;
    same = same ∙ still.same;
  }

-- nothing is left
pub written_all : {W : Type 0} (took : W → List ℕ → W → Type 0) (old : Lines W) (text : List ℕ) (now : Lines W) → IsWrittenTo took old text [] now → Indents took old text now
written_all took old text now still = record {
  writes = λ plain. let w = still.writes plain in subst (λ x. HasWritten took old.f.now x now.f.now) (sym (w.2 ∙ append-nil w.0)) w.1;
  begins = sym still.begins;
  same = still.same;
}
