-- What is printed of declarations is laid out as their tokens.
use Rattle.std.proofs.Common.{◌≡◌, refl, sym, ap, ◌∙◌, ℕ, Bool, true, List, [], ◌∷◌, ◌++◌, append_assoc, append-nil, subst, codes, Option}
use Rattle.std.specs.List.{flat_map}
use Rattle.unicode_ident.proofs.Computing.{unicode_ident}
use Rattle.wgsl_token.specs.declared.token.Fixed.TheVariants as f
use Rattle.wgsl_templates.specs.declared.meaning.token.TemplateToken.{TemplateToken}
use Rattle.wgsl_print_laws.specs.Layout.{IsLaidOut, at_the_end}
use Rattle.wgsl_expressions.specs.Print.{commas, typ_text, indent}
use Rattle.wgsl_expressions.specs.Tree.{Typ}
use Rattle.wgsl_expressions.specs.AttributesPrint.{attrs_text}
use Rattle.wgsl_expressions.specs.AttributesTree.{Attr}
use Rattle.wgsl_simple_statements.specs.Print.{declared_text, asserted_text}
use Rattle.wgsl_statements.specs.Tree.{Block}
use Rattle.wgsl_declarations.specs.Print.{alias_text, structure_text, member_text, members_text, param_text, head_text, result_text, body_text, decl_text}
use Rattle.wgsl_declarations.specs.Tree.{Member, Param, Decl, alias, structure, function}
use Rattle.wgsl_print_laws.specs.Tokens.{mark, word, typ_tokens}
use Rattle.wgsl_print_laws.specs.Printable.{AreSpelled, type_is_apart}
use Rattle.wgsl_print_laws.specs.Imports.{AttributesTokens}
use Rattle.wgsl_print_laws.proofs.Lays.{Lays, lays_then}
use Rattle.wgsl_print_laws.proofs.Signs.{lays_pair, lays_space}
use Rattle.wgsl_print_laws.proofs.Expressions.{Run, sign_run, free, stops}
use Rattle.wgsl_print_laws.proofs.Imports.{nothing_run, attributes_run}
use Rattle.wgsl_print_laws.specs.Simple.{declared_tokens, asserted_tokens}
use Rattle.wgsl_print_laws.specs.Statements.{in_braces, BlockTokens}
use Rattle.wgsl_print_laws.specs.Declarations.{typed_tokens, MembersTokens, no_members, members_and, MoreParametersTokens, no_more_parameters, parameters_and, ParametersTokens, no_parameters, parameters, ResultTokens, no_result, a_result, DeclTokens, a_variable, an_alias, a_structure, a_function, an_assertion}
use Rattle.wgsl_print_laws.specs.ModulesLaws.{DeclarationsAreLaidOut}
use Rattle.wgsl_print_laws.proofs.Runs.{any_rest, and_then, Sequel, no_sequel, behind, stopped, run_as_text, sign_then, sign_alone, space, semicolon_end, paren_left, paren_right, colon_space, comma_space, comma_end, indent_run, blank_run, name_run, typ_run, word_then, parted, five, six, seven}
use Rattle.wgsl_print_laws.proofs.Simple.{equal, declared_run, asserted_run}
use Rattle.wgsl_print_laws.proofs.Statements.{brace_left, brace_right, broken, block_run}

-- a name and its type, and what stands behind them
typed_then : {may : List ℕ → Bool} {us : List TemplateToken} {ys : List ℕ} (name : List ℕ) (type : Typ) → AreSpelled (typed_tokens name type) → type_is_apart type ≡ true → Sequel may us ys
    → Run may (typed_tokens name type ++ us) (name ++ (codes ": " ++ (typ_text type ++ ys)))
typed_then name type s h q = behind (name_run name s.0) (sign_then colon_space (behind (typ_run type s.1.1 h) q))

-- ---- structures

abbrev member_lines : List Member → List ℕ
member_lines ms = flat_map (λ (m : Member). indent 1 ++ member_text m) ms

member_lines_run : (ms : List Member) (ts : List TemplateToken) → MembersTokens ms ts → AreSpelled ts → Run any_rest ts (member_lines ms)
member_lines_run _ _ no_members s = nothing_run
member_lines_run _ _ (members_and {m = m} {ms = ms} {ts = ts} {us = us} h apart k) s =
    let (first, others) = parted ts (typed_tokens m.name m.type ++ (mark f.Comma ∷ us)) s in
    let (second, more) = parted (typed_tokens m.name m.type) (mark f.Comma ∷ us) others in
    let one = and_then (attributes_run m.attributes ts h first) (typed_then m.name m.type second apart (sign_then comma_end (member_lines_run ms us k more.1))) in
    run_as_text
    (ap (λ z. indent 1 ++ z) (sym (six (attrs_text m.attributes) m.name (codes ": ") (typ_text m.type) (codes ",\n") (member_lines ms))) ∙ sym (append_assoc (indent 1) (member_text m) (member_lines ms)))
    (and_then (indent_run 1) one)

members_run : (ms : List Member) (ts : List TemplateToken) → Run any_rest ts (member_lines ms) → Run any_rest (in_braces ts) (members_text ms)
members_run [] ts p = and_then brace_left (and_then p brace_right)
members_run (m ∷ ms) ts p = run_as_text (sym (append_assoc (codes "{\n") (member_lines (m ∷ ms)) (codes "}"))) (and_then brace_left (and_then blank_run (and_then p brace_right)))

structure_run : {us : List TemplateToken} (attributes : List Attr) (ts : List TemplateToken) (name : List ℕ) (ms : List Member) → AttributesTokens attributes ts → MembersTokens ms us → AreSpelled (ts ++ (mark f.Struct ∷ word name ∷ in_braces us))
    → Run any_rest (ts ++ (mark f.Struct ∷ word name ∷ in_braces us)) (decl_text (structure attributes name ms))
unfolding structure_text
structure_run {us = us} attributes ts name ms h k s =
    let (first, others) = parted ts (mark f.Struct ∷ word name ∷ in_braces us) s in
    let (lines, end) = parted us (mark f.BraceRight ∷ []) others.1.1.1 in
    let all = word_then f.Struct refl (behind (name_run name others.1.0) (sign_then space (broken (members_run ms us (member_lines_run ms us k lines))))) in
    run_as_text (sym (append_assoc (structure_text attributes name) (members_text ms) (codes "\n") ∙ five (attrs_text attributes) (codes "struct ") name (codes " ") (members_text ms ++ codes "\n"))) (and_then (attributes_run attributes ts h first) all)

-- ---- functions

sequel_as : {may : List ℕ → Bool} {ts : List TemplateToken} {xs ys : List ℕ} → xs ≡ ys → Sequel may ts xs → Sequel may ts ys
sequel_as {may = may} {ts = ts} e p = subst (Sequel may ts) e p

abbrev more_parameters_text : List Param → List ℕ
more_parameters_text ps = flat_map (λ (p : Param). codes ", " ++ param_text p) ps

more_parameters : (ps : List Param) (ts : List TemplateToken) → MoreParametersTokens ps ts → AreSpelled ts → Sequel stops ts (more_parameters_text ps)
more_parameters _ _ no_more_parameters s = no_sequel
more_parameters _ _ (parameters_and {p = p} {ps = ps} {ts = ts} {us = us} h apart k) s =
    let (first, others) = parted ts (typed_tokens p.name p.type ++ us) s.1 in
    let (second, more) = parted (typed_tokens p.name p.type) us others in
    let one = and_then (attributes_run p.attributes ts h first) (typed_then p.name p.type second apart (more_parameters ps us k more)) in
    sequel_as (ap (λ z. codes ", " ++ z) (sym (five (attrs_text p.attributes) p.name (codes ": ") (typ_text p.type) (more_parameters_text ps)))) (sign_then comma_space one)

parameters_run : (ps : List Param) (ts : List TemplateToken) → ParametersTokens ps ts → AreSpelled ts → Run stops ts (commas param_text ps)
parameters_run _ _ no_parameters s = stopped nothing_run
parameters_run _ _ (parameters {p = p} {ps = ps} {ts = ts} {us = us} h apart k) s =
    let (first, others) = parted ts (typed_tokens p.name p.type ++ us) s in
    let (second, more) = parted (typed_tokens p.name p.type) us others in
    run_as_text (sym (five (attrs_text p.attributes) p.name (codes ": ") (typ_text p.type) (more_parameters_text ps)))
    (and_then (attributes_run p.attributes ts h first) (typed_then p.name p.type second apart (more_parameters ps us k more)))

lays_arrow : Lays any_rest (codes "->") (mark f.Arrow ∷ [])
unfolding unicode_ident
lays_arrow = lays_pair f.Arrow 45 62 refl [] refl refl refl refl refl

arrow_run : Run any_rest (mark f.Arrow ∷ []) (codes " -> ")
arrow_run = sign_run (lays_then lays_space (lays_then lays_arrow lays_space (λ rest ok. free (32 ∷ rest))) (λ rest ok. free (45 ∷ 62 ∷ 32 ∷ rest))) refl

result_run : (attributes : List Attr) (result : Option Typ) (ts : List TemplateToken) → ResultTokens attributes result ts → AreSpelled ts → Run stops ts (result_text attributes result)
result_run _ _ _ no_result s = stopped nothing_run
result_run _ _ _ (a_result {attributes = attributes} {t = t} {ts = ts} h apart) s =
    let (first, others) = parted ts (typ_tokens t) s.1 in
    and_then arrow_run (and_then (attributes_run attributes ts h first) (typ_run t others apart))

function_run : {us vs ws : List TemplateToken} (attributes : List Attr) (ts : List TemplateToken) (name : List ℕ) (ps : List Param) (results : List Attr) (result : Option Typ) (body : Block) → AttributesTokens attributes ts → ParametersTokens ps us → ResultTokens results result vs → BlockTokens body ws
    → AreSpelled (ts ++ (mark f.Fn ∷ word name ∷ mark f.ParenLeft ∷ (us ++ (mark f.ParenRight ∷ (vs ++ ws)))))
    → Run any_rest (ts ++ (mark f.Fn ∷ word name ∷ mark f.ParenLeft ∷ (us ++ (mark f.ParenRight ∷ (vs ++ ws))))) (decl_text (function attributes name ps results result body))
unfolding head_text body_text
function_run {us = us} {vs = vs} {ws = ws} attributes ts name ps results result body h k l m s =
    let (first, others) = parted ts (mark f.Fn ∷ word name ∷ mark f.ParenLeft ∷ (us ++ (mark f.ParenRight ∷ (vs ++ ws)))) s in
    let (second, shut) = parted us (mark f.ParenRight ∷ (vs ++ ws)) others.1.1.1 in
    let (third, fourth) = parted vs ws shut.1 in
    let rest = behind (result_run results result vs l third) (sign_then space (broken (block_run body ws m fourth 0))) in
    let all = word_then f.Fn refl (behind (name_run name others.1.0) (sign_then paren_left (behind (parameters_run ps us k second) (sign_then paren_right rest)))) in
    run_as_text
    (sym (append_assoc (head_text attributes name ps) (result_text results result) (body_text body)
    ∙ seven (attrs_text attributes) (codes "fn ") name (codes "(") (commas param_text ps) (codes ")") (result_text results result ++ body_text body)))
    (and_then (attributes_run attributes ts h first) all)

-- ---- declarations

alias_run : (attributes : List Attr) (ts : List TemplateToken) (name : List ℕ) (type : Typ) → AttributesTokens attributes ts → type_is_apart type ≡ true → AreSpelled (ts ++ (mark f.Alias ∷ word name ∷ mark f.Equal ∷ (typ_tokens type ++ (mark f.Semicolon ∷ []))))
    → Run any_rest (ts ++ (mark f.Alias ∷ word name ∷ mark f.Equal ∷ (typ_tokens type ++ (mark f.Semicolon ∷ [])))) (decl_text (alias attributes name type))
unfolding alias_text
alias_run attributes ts name type h apart s =
    let (first, others) = parted ts (mark f.Alias ∷ word name ∷ mark f.Equal ∷ (typ_tokens type ++ (mark f.Semicolon ∷ []))) s in
    let (second, end) = parted (typ_tokens type) (mark f.Semicolon ∷ []) others.1.1.1 in
    let all = word_then f.Alias refl (behind (name_run name others.1.0) (sign_then equal (behind (typ_run type second apart) (sign_alone semicolon_end)))) in
    run_as_text (sym (append_assoc (attrs_text attributes) (alias_text name type) (codes ";\n") ∙ ap (λ z. attrs_text attributes ++ z) (five (codes "alias ") name (codes " = ") (typ_text type) (codes ";\n"))))
    (and_then (attributes_run attributes ts h first) all)

pub decl_run : (d : Decl) (ts : List TemplateToken) → DeclTokens d ts → AreSpelled ts → Run any_rest ts (decl_text d)
decl_run _ _ (a_variable {attributes = attributes} {ts = ts} kind name {type = type} {value = value} h k l) s =
    let (first, others) = parted ts (declared_tokens kind name type value ++ (mark f.Semicolon ∷ [])) s in
    let (second, end) = parted (declared_tokens kind name type value) (mark f.Semicolon ∷ []) others in
    run_as_text (sym (append_assoc (attrs_text attributes) (declared_text kind name type value) (codes ";\n")))
    (and_then (attributes_run attributes ts h first) (behind (declared_run kind name type value second k l) (sign_alone semicolon_end)))
decl_run _ _ (an_alias {attributes = attributes} {ts = ts} name {type = type} h apart) s = alias_run attributes ts name type h apart s
decl_run _ _ (a_structure {attributes = attributes} {ms = ms} {ts = ts} name h k) s = structure_run attributes ts name ms h k s
decl_run _ _ (a_function {attributes = attributes} {results = results} {ps = ps} {result = result} {body = body} {ts = ts} name h k l m) s = function_run attributes ts name ps results result body h k l m s
decl_run _ _ (an_assertion {attributes = attributes} {ts = ts} {x = x} h apart) s =
    let (first, others) = parted ts (asserted_tokens x ++ (mark f.Semicolon ∷ [])) s in
    let (second, end) = parted (asserted_tokens x) (mark f.Semicolon ∷ []) others in
    run_as_text (sym (append_assoc (attrs_text attributes) (asserted_text x) (codes ";\n"))) (and_then (attributes_run attributes ts h first) (behind (asserted_run x second apart) (sign_alone semicolon_end)))

pub declarations_are_laid_out : DeclarationsAreLaidOut
declarations_are_laid_out d ts h s =
    let p = decl_run d ts h s in record {
      characters = p.characters;
      are_scalars = p.spells.scalars;
      spell = p.spells.encodes;
      laid_out = (let P : List ℕ × List TemplateToken → Type 0 = λ x. IsLaidOut x.0 x.1 in subst P (λ i. (append-nil p.characters i, append-nil ts i)) (p.lays.lays [] [] refl at_the_end));
    }
