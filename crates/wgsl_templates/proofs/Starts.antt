-- Whether a text or tokens begin with a template list.
use Rattle.std.specs.Prelude.{Result, Ok, Err, IfOk}
use Rattle.std.proofs.Common.{◌≡◌, ℕ, ◌+◌, ◌≤◌, Bool, true, false, IsTrue, ◌&&◌, ◌==◌, ◌↔◌, List, [], ◌∷◌, length, drop, refl, sym, ◌∙◌, ap, subst, append-nil, Option}
use Rattle.std.specs.Str.{chars, IsUtf8}
use Rattle.std.proofs.lemmas.Str.{encodes-chars, scalars-chars}
use Rattle.wgsl_token.specs.declared.token.Token.{Token}
use Rattle.wgsl_base.proofs.Bools.{and_both}
use Rattle.wgsl_lex.specs.Pieces.{StandsFirst}
use Rattle.wgsl_lex.proofs.Bools.{is_number}
use Rattle.wgsl_templates.specs.declared.meaning.kind.Kind.{Kind}
use Rattle.wgsl_templates.specs.declared.meaning.kind.Kind.TheVariants.{TemplateArgsStart}
use Rattle.wgsl_templates.specs.Laws.{BeginsWithList}
use Rattle.wgsl_templates.specs.Tokens.{is_less, Opens}
use Rattle.wgsl_templates.proofs.Once.{first_once, first_takes}
use Rattle.wgsl_templates.specs.declared.recognizer.recognize.Answer.{Answer}
use Rattle.wgsl_templates.specs.declared.recognizer.recognize.Answer.TheVariants.{List as Listed, Never, Unfinished}
use Rattle.wgsl_templates.specs.Answers.{IsAnswer, is_list, is_never, is_unfinished}
use Rattle.wgsl_templates.proofs.Here.{is_first, less_is}
use Rattle.wgsl_templates.specs.Starts.{StartsList, less_first, other_first, TextStartsList, IsLessFirst, BeginsWithTemplateList}

-- texts

pub starts_empty : (characters : List ℕ) → length characters ≡ 0 → StartsList characters false
starts_empty [] none = other_first (λ n what f. absurd (f.some refl))
starts_empty (c ∷ cs) none = absurd cc

pub less_first_of : (c : ℕ) (cs : List ℕ) (n : ℕ) (what : Option Token) → n ≤ length cs + 1 → StandsFirst (c ∷ cs) n what → (less : Bool) → less ≡ ((c == 60) && (n == 1)) → IsLessFirst (c ∷ cs) less
less_first_of c cs n what within stands less is =
    let first = is_first c cs n what stands in record {
      n = n;
      what = what;
      first = first;
      is = less_is c cs n (first_takes (c ∷ cs) n what first) within ∙ sym is;
      single = λ there. is_number n 1 (and_both (c == 60) (n == 1) (sym is ∙ there)).1;
    }

module _ (characters : List ℕ) (c : ℕ) (cs : List ℕ) (are : characters ≡ c ∷ cs) (less : Bool) (h : IsLessFirst (c ∷ cs) less) where
  pub starts_less : {E : Type 0} (result : Result Bool E) → less ≡ true → IfOk result (Opens cs) → IfOk result (StartsList characters)
  starts_less (Ok opens) there o =
      let P : ℕ → Type 0 = λ m. Opens (drop m (c ∷ cs)) opens in
      let Q : List ℕ → Type 0 = λ l. StartsList l opens in
      subst Q (sym are) (less_first h.n h.what h.first (h.is ∙ there) (subst P (sym (h.single there)) o))
  starts_less (Err e) there o = o

  pub starts_other : less ≡ false → StartsList characters false
  starts_other absent =
      let Q : List ℕ → Type 0 = λ l. StartsList l false in
      subst Q (sym are) (other_first (λ m other f. ap is_less (first_once (c ∷ cs) m h.n other h.what f h.first).0.front ∙ h.is ∙ absent))

pub text_starts : {E : Type 0} (text characters : List ℕ) (result : Result Bool E) → IsUtf8 text → characters ≡ chars text → IfOk result (StartsList characters) → IfOk result (TextStartsList text)
text_starts text characters (Ok opens) utf8 spelled s =
    let P : List ℕ → Type 0 = λ l. StartsList l opens in
    record { characters = chars text; are_scalars = scalars-chars text utf8; spell = encodes-chars text utf8; starts = subst P spelled s }
text_starts text characters (Err e) utf8 spelled s = s

-- tokens

pub answers_list : (kinds : List Kind) (answer : Answer) → IsAnswer kinds answer → answer ≡ Listed → IsTrue true ↔ BeginsWithList kinds
answers_list kinds _ (is_list h) is = (λ _. h, λ _. refl)
answers_list kinds _ (is_never h) is = absurd cc
answers_list kinds _ (is_unfinished h) is = absurd cc

pub answers_never : (kinds : List Kind) (answer : Answer) → IsAnswer kinds answer → answer ≡ Never → IsTrue false ↔ BeginsWithList kinds
answers_never kinds _ (is_list h) is = absurd cc
answers_never kinds _ (is_never h) is = (λ f. absurd cc, λ b. let P : List Kind → Type 0 = BeginsWithList in absurd (h [] (subst P (sym (append-nil kinds)) b)))
answers_never kinds _ (is_unfinished h) is = absurd cc

pub answers_unfinished : (kinds : List Kind) (answer : Answer) → IsAnswer kinds answer → answer ≡ Unfinished → IsTrue false ↔ BeginsWithList kinds
answers_unfinished kinds _ (is_list h) is = absurd cc
answers_unfinished kinds _ (is_never h) is = absurd cc
answers_unfinished kinds _ (is_unfinished h) is = (λ f. absurd cc, λ b. absurd (h b))

pub begins_behind : (kinds behind : List Kind) (found : Bool) → kinds ≡ TemplateArgsStart ∷ behind → IsTrue found ↔ BeginsWithList behind → IsTrue found ↔ BeginsWithTemplateList kinds
begins_behind kinds behind found is h = (
  λ f. record { behind = behind; starts = is; inside = h.0 f },
  λ b. let P : List Kind → Type 0 = BeginsWithList in h.1 (subst P (tail (sym b.starts ∙ is)) b.inside),
)
  where
    tail : {kind other : Kind} {u v : List Kind} → kind ∷ u ≡ other ∷ v → u ≡ v
    tail e = cc
