-- What the definition of a list says of the tokens of all that stands behind a `<`.
use Rattle.std.specs.Prelude.{◌↔◌}
use Rattle.std.proofs.Common.{◌≡◌, ℕ, true, List, [], ◌∷◌, ◌++◌, refl, sym, ◌∙◌, ap, subst, append-nil}
use Rattle.wgsl_templates.specs.declared.meaning.kind.Kind.{Kind}
use Rattle.wgsl_templates.specs.declared.meaning.token.SpannedTemplateToken.{SpannedTemplateToken}
use Rattle.wgsl_templates.specs.Kinds.{kind, kinds}
use Rattle.wgsl_templates.specs.Grammar.{IsListBody}
use Rattle.wgsl_templates.specs.Tokens.{State, in_list, Reads, Lexes, Opens, list}
use Rattle.wgsl_templates.specs.Laws.{BeginsWithList}
use Rattle.wgsl_templates.proofs.Once.{Both, first_shorter, second_shorter, reads_both, ended, split, kinds_append}

-- tokens of which the kinds are of two runs are two runs
pub record Parts (tokens : List SpannedTemplateToken) (body : List Kind) : Type 0 where
  pub front : List SpannedTemplateToken
  pub rest : List SpannedTemplateToken
  pub whole : tokens ≡ front ++ rest
  pub are : kinds front ≡ body

pub parts_of : (tokens : List SpannedTemplateToken) (body rest : List Kind) → kinds tokens ≡ body ++ rest → Parts tokens body
parts_of tokens [] rest e = record { front = []; rest = tokens; whole = refl; are = refl }
parts_of [] (x ∷ body) rest e = absurd cc
parts_of (t ∷ tokens) (x ∷ body) rest e =
    let same : kind t.token ≡ x = cc in
    let tails : kinds tokens ≡ body ++ rest = cc in
    let p = parts_of tokens body rest tails in
    record { front = t ∷ p.front; rest = p.rest; whole = ap (λ x. t ∷ x) p.whole; are = (λ i. same i ∷ p.are i) }

-- a front that begins with a list opens one
pub opens_list : (text : List ℕ) (tokens : List SpannedTemplateToken) (last : State) (left : List ℕ) → Reads in_list text tokens last left → BeginsWithList (kinds tokens) → Opens text true
opens_list text tokens last left l b =
    let p = parts_of tokens b.body b.rest b.whole in
    let (middle, behind, front, back) = split in_list text tokens last left l p.front p.rest p.whole in
    list front (subst IsListBody (sym p.are) b.is_list)

begins : (text : List ℕ) (inside : List SpannedTemplateToken) → Lexes in_list text inside → Opens text true → BeginsWithList (kinds inside)
begins text inside l (list {left = ys} {body = body} {last = p} m h) = front (reads_both in_list text body p ys m inside l.0 [] l.1)
  where
    front : Both body p ys inside l.0 [] → BeginsWithList (kinds inside)
    front (first_shorter more e r) = record { body = kinds body; rest = kinds more; whole = ap kinds e ∙ kinds_append body more; is_list = h }
    front (second_shorter more e r) =
        let same : body ≡ inside = e ∙ ap (λ x. inside ++ x) (ended l.0 [] more p ys r refl) ∙ append-nil inside in
        record { body = kinds body; rest = []; whole = sym (append-nil (kinds body) ∙ ap kinds same); is_list = h }

pub opens_as_read : (text : List ℕ) (inside : List SpannedTemplateToken) → Lexes in_list text inside → Opens text true ↔ BeginsWithList (kinds inside)
opens_as_read text inside l = (begins text inside l, opens_list text inside l.0 [] l.1)
