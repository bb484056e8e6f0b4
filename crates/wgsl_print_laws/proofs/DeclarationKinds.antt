-- What is printed of what a declaration of a value begins with is laid out as its tokens.
use Rattle.std.proofs.Common.{◌≡◌, refl, sym, ap, subst, ℕ, false, List, [], ◌∷◌, ◌++◌, append_assoc, append-nil, codes, Option, Some, None}
use Rattle.unicode_ident.proofs.Computing.{unicode_ident}
use Rattle.wgsl_token.specs.declared.token.Token.TheVariants as t
use Rattle.wgsl_token.specs.declared.token.Fixed.TheVariants as f
use Rattle.wgsl_print_laws.proofs.Ends.{ends_word}
use Rattle.wgsl_templates.specs.declared.meaning.token.TemplateToken.{TemplateToken}
use Rattle.wgsl_templates.specs.declared.meaning.token.TemplateToken.TheVariants.{TemplateArgsEnd}
use Rattle.wgsl_print_laws.specs.Layout.{IsLaidOut, at_the_end}
use Rattle.wgsl_words.specs.declared.enumerations.address.AccessMode.{AccessMode}
use Rattle.wgsl_words.specs.declared.enumerations.address.AddressSpace.{AddressSpace}
use Rattle.wgsl_words.specs.Texts.{address_space_text, access_mode_text}
use Rattle.wgsl_expressions.specs.Print.{angled}
use Rattle.wgsl_simple_statements.specs.declared.declaration.DeclarationKind.{DeclarationKind}
use Rattle.wgsl_simple_statements.specs.declared.declaration.DeclarationKind.TheVariants as kinds
use Rattle.wgsl_simple_statements.specs.Print.{access_text, kind_text}
use Rattle.wgsl_print_laws.specs.Printable.{AreSpelled}
use Rattle.wgsl_print_laws.specs.DeclarationKinds.{space_tokens, kind_tokens}
use Rattle.wgsl_print_laws.specs.TreesLaws.{KindsAreLaidOut}
use Rattle.wgsl_print_laws.proofs.Signs.{lays_comma, lays_space}
use Rattle.wgsl_print_laws.proofs.Leaves.{Leaf, word_leaf, keyword_leaf}
use Rattle.wgsl_print_laws.proofs.Expressions.{Run, run_then, run_as, run_where, sign_run, leaf_run, free, at_comma, stops_end, plain_start, begins_then, Inside, angled_run, at_angle, are_front}

const_leaf : Leaf ends_word (t.Fixed f.Const) (codes "const")
unfolding unicode_ident
const_leaf = keyword_leaf f.Const 99 (codes "onst") refl refl refl refl

override_leaf : Leaf ends_word (t.Fixed f.Override) (codes "override")
unfolding unicode_ident
override_leaf = keyword_leaf f.Override 111 (codes "verride") refl refl refl refl

let_leaf : Leaf ends_word (t.Fixed f.Let) (codes "let")
unfolding unicode_ident
let_leaf = keyword_leaf f.Let 108 (codes "et") refl refl refl refl

var_leaf : Leaf ends_word (t.Fixed f.Var) (codes "var")
unfolding unicode_ident
var_leaf = keyword_leaf f.Var 118 (codes "ar") refl refl refl refl

inside_as : {ts : List TemplateToken} {xs ys : List ℕ} → xs ≡ ys → Inside ts xs → Inside ts ys
inside_as {ts = ts} e p = subst (Inside ts) e p

space_inside : (space : AddressSpace) (access : Option AccessMode) → AreSpelled (space_tokens space access) → Inside (space_tokens space access) (address_space_text space ++ access_text access)
space_inside space None s =
    let p = word_leaf (address_space_text space) s.0 in
    inside_as (sym (append-nil (address_space_text space))) (record { run = run_where (λ rest ok. stops_end false rest ok) (leaf_run p); starts = λ rest. plain_start p.characters (62 ∷ rest) p.begins })
space_inside space (Some mode) s =
    let p = word_leaf (address_space_text space) s.0 in
    let q = word_leaf (access_mode_text mode) s.1.1.0 in
    let spaced = run_then (sign_run lays_space refl) (leaf_run q) (λ rest ok. free (q.characters ++ rest)) in
    let comma = run_then (sign_run lays_comma refl) spaced (λ rest ok. free (spaced.characters ++ rest)) in
    let all = run_then (leaf_run p) comma (λ rest ok. at_comma false (spaced.characters ++ rest)) in record {
      run = run_where (λ rest ok. stops_end false rest ok) all;
      starts = λ rest. plain_start (p.characters ++ comma.characters) (62 ∷ rest) (begins_then p.characters comma.characters p.begins);
    }

pub kind_run : (k : DeclarationKind) → AreSpelled (kind_tokens k) → Run ends_word (kind_tokens k) (kind_text k)
unfolding angled
kind_run kinds.Const s = leaf_run const_leaf
kind_run kinds.Override s = leaf_run override_leaf
kind_run kinds.Let s = leaf_run let_leaf
kind_run (kinds.Var None) s = leaf_run var_leaf
kind_run (kinds.Var (Some (space, access))) s =
    let p = space_inside space access (are_front (space_tokens space access) (TemplateArgsEnd ∷ []) s.1) in
    run_as refl (ap (λ z. codes "var" ++ (z ++ codes ">")) (sym (append_assoc (codes "<") (address_space_text space) (access_text access)))) (run_then (leaf_run var_leaf) (angled_run p) (λ rest ok. at_angle p rest))

pub kinds_are_laid_out : KindsAreLaidOut
kinds_are_laid_out k s =
    let p = kind_run k s in record {
      characters = p.characters;
      are_scalars = p.spells.scalars;
      spell = p.spells.encodes;
      laid_out = (let P : List ℕ × List TemplateToken → Type 0 = λ x. IsLaidOut x.0 x.1 in subst P (λ i. (append-nil p.characters i, append-nil (kind_tokens k) i)) (p.lays.lays [] [] refl at_the_end));
    }
