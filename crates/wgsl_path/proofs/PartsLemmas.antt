-- A text and its parts between `::`.
use Rattle.std.proofs.Common.{◌≡◌, ◌≢◌, refl, sym, ap, ◌∙◌, subst, ℕ, zero, suc, List, [], ◌∷◌, ◌++◌, ◌+◌, ◌<◌, ◌≤◌, codes, length, drop, take, Option, Some, None, Bool, true, false, ◌&&◌, ◌==◌, if◌then◌else◌, arith, append_assoc, ◌⊎◌, inl, inr}
use denote.Ref.{Bor}
use Rattle.std.specs.Prelude.{MatchOption}
use Rattle.std.specs.Str.Pattern.{FindsText, LacksTextAt}
use Rattle.std.proofs.lemmas.Bool.Decides.{Decides-eqb}
use Rattle.std.proofs.lemmas.List.{append-nil}
use Rattle.std.proofs.Math.Seq.{drop-append_seam}
use Rattle.std.proofs.lemmas.Str.Pattern.{split_text_parts}
use Rattle.std.specs.Str.{bytes_eq}
use Rattle.wgsl_path.specs.declared.path.PathOrigin.TheVariants.{Relative}
use Rattle.wgsl_path.specs.Reading.{parts_behind, parts, path_above, path_behind}

abbrev pub mark : List ℕ
mark = codes "::"

both : (c d : ℕ) → ((c == 58) && (d == 58)) ≡ true → (c ≡ 58) × (d ≡ 58)
both c d e = ((Decides-eqb c 58).0 (split (c == 58) (d == 58) e).0, (Decides-eqb d 58).0 (split (c == 58) (d == 58) e).1)
  where
    split : (a b : Bool) → (a && b) ≡ true → (a ≡ true) × (b ≡ true)
    split true b e = (refl, e)
    split false b e = cc

goes_on : (p : List ℕ) (c d : ℕ) (cs : List ℕ) → (c ≡ 58 → d ≡ 58 → ⊥)
    → parts_behind p (c ∷ d ∷ cs) ≡ parts_behind (p ++ c ∷ []) (d ∷ cs)
goes_on p c d cs never = by_test ((c == 58) && (d == 58)) (λ e. never (both c d e).0 (both c d e).1)
  where
    by_test : (b : Bool) → (b ≡ true → ⊥)
        → (if b then p ∷ parts_behind [] cs else parts_behind (p ++ c ∷ []) (d ∷ cs)) ≡ parts_behind (p ++ c ∷ []) (d ∷ cs)
    by_test true never = absurd (never refl)
    by_test false never = refl

-- no `::` begins before the end of this front
abbrev pub IsFirst : List ℕ → List ℕ → Type 0
IsFirst a rest = (xs ys : List ℕ) → a ++ (mark ++ rest) ≡ xs ++ (mark ++ ys) → length a ≤ length xs

pub cut_first : (a rest p : List ℕ) → IsFirst a rest → parts_behind p (a ++ (mark ++ rest)) ≡ (p ++ a) ∷ parts_behind [] rest
cut_first [] rest p first = ap (λ q. q ∷ parts_behind [] rest) (sym (append-nil p))
cut_first (c ∷ []) rest p first =
    goes_on p c 58 (58 ∷ rest) (λ one two. let short : 1 ≤ 0 = first [] (58 ∷ rest) (ap (λ k. k ∷ 58 ∷ 58 ∷ rest) one) in omega arith)
cut_first (c ∷ d ∷ a) rest p first =
    goes_on p c d (a ++ (mark ++ rest))
    (λ one two. let short : suc (suc (length a)) ≤ 0 = first [] (a ++ (mark ++ rest)) (ap (λ k. k ∷ d ∷ (a ++ (mark ++ rest))) one ∙ ap (λ k. 58 ∷ k ∷ (a ++ (mark ++ rest))) two) in omega arith)
    ∙ cut_first (d ∷ a) rest (p ++ c ∷ []) (λ xs ys e. let long : suc (suc (length a)) ≤ suc (length xs) = first (c ∷ xs) ys (ap (λ t. c ∷ t) e) in omega arith)
    ∙ ap (λ q. q ∷ parts_behind [] rest) (append_assoc p (c ∷ []) (d ∷ a))

pub cut_none : (a p : List ℕ) → ((xs ys : List ℕ) → a ≢ xs ++ (mark ++ ys)) → parts_behind p a ≡ (p ++ a) ∷ []
cut_none [] p none = ap (λ q. q ∷ []) (sym (append-nil p))
cut_none (c ∷ []) p none = refl
cut_none (c ∷ d ∷ a) p none =
    goes_on p c d a (λ one two. none [] a (ap (λ k. k ∷ d ∷ a) one ∙ ap (λ k. 58 ∷ k ∷ a) two))
    ∙ cut_none (d ∷ a) (p ++ c ∷ []) (λ xs ys e. none (c ∷ xs) ys (ap (λ t. c ∷ t) e))
    ∙ ap (λ q. q ∷ []) (append_assoc p (c ∷ []) (d ∷ a))

le_or_lt : (n m : ℕ) → (n ≤ m) ⊎ (m < n)
le_or_lt zero m = inl (omega arith)
le_or_lt (suc n) zero = inr (omega arith)
le_or_lt (suc n) (suc m) = elim (le_or_lt n m) [ inl le ↦ inl (omega (arith, le)) | inr lt ↦ inr (omega (arith, lt)) ]

-- where the text is first found, nothing of it begins before
pub found_first : (a rest : List ℕ) → ((i : ℕ) → i < length a → LacksTextAt mark (a ++ (mark ++ rest)) i) → IsFirst a rest
found_first a rest lacks xs ys e = elim (le_or_lt (length a) (length xs)) [
  | inl le ↦ le
  | inr lt ↦ absurd (lacks (length xs) lt ys (ap (drop (length xs)) e ∙ drop-append_seam xs (mark ++ ys)))
]

-- what `split_once` finds, or that it finds nothing
abbrev pub Finds : List ℕ → Option (Bor (List ℕ) × Bor (List ℕ)) → Type 0
Finds bs r = MatchOption r (FindsText mark bs None) (λ x. (i : ℕ) × (j : ℕ) × FindsText mark bs (Some (i, j)) × (x.0.now ≡ take i bs) × (x.1.now ≡ drop j bs) × (i ≤ j) × (length x.0.now ≡ i) × (length x.1.now + j ≡ length bs))

pub none_cut : (bs : List ℕ) → Finds bs None → parts bs ≡ bs ∷ []
none_cut bs finds = cut_none bs [] (split_text_parts mark bs None finds)

pub some_cut : (bs : List ℕ) (part rest : Bor (List ℕ)) → Finds bs (Some (part, rest)) → parts bs ≡ part.now ∷ parts rest.now
some_cut bs part rest finds =
    let whole : bs ≡ part.now ++ (mark ++ rest.now) = split_text_parts mark bs (Some (part, rest)) finds in
    ap (λ t. parts_behind [] t) whole ∙ cut_first part.now rest.now [] (found_first part.now rest.now (λ i below. subst (λ t. LacksTextAt mark t i) whole
    (finds.2.0 i (subst (λ n. i < n) finds.6 below))))

-- one more `super`
pub super_above : (k m : ℕ) (part : List ℕ) (rest ps : List (List ℕ)) → ps ≡ part ∷ rest → bytes_eq part (codes "super") ≡ true → suc k ≡ m
    → path_above k ps ≡ path_above m rest
super_above k m part rest ps whole test more =
    ap (path_above k) whole
    ∙ ap (λ b. if b then path_above (suc k) rest else path_behind (Relative k) (part ∷ rest)) test
    ∙ ap (λ j. path_above j rest) more
