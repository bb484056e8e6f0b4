-- What is printed of an attribute is laid out as its tokens.
use Rattle.std.proofs.Common.{◌≡◌, refl, sym, ap, ◌∙◌, subst, ℕ, true, false, List, [], ◌∷◌, ◌++◌, append_assoc, append-nil, codes, Option, Some, None}
use Rattle.std.specs.List.{flat_map}
use Rattle.unicode_ident.proofs.Computing.{unicode_ident}
use Rattle.wgsl_token.specs.declared.token.Token.TheVariants as t
use Rattle.wgsl_token.specs.declared.token.Fixed.{Fixed}
use Rattle.wgsl_token.specs.declared.token.Fixed.TheVariants as f
use Rattle.wgsl_token.specs.Spelling.{spelling}
use Rattle.wgsl_print_laws.proofs.Ends.{ends_word}
use Rattle.wgsl_print_laws.proofs.Spells.{spells_ascii}
use Rattle.wgsl_templates.specs.declared.meaning.token.TemplateToken.{TemplateToken}
use Rattle.wgsl_print_laws.specs.Layout.{IsLaidOut, at_the_end}
use Rattle.wgsl_words.specs.Texts.{diagnostic_severity_text, interpolation_type_text, interpolation_sampling_text}
use Rattle.wgsl_expressions.specs.Print.{commas, exp_text, exps_text, more_text as more_exps_text}
use Rattle.wgsl_expressions.specs.Tree.{Exp, exps}
use Rattle.wgsl_expressions.specs.AttributesPrint.{argued, arguments_text, attr_text}
use Rattle.wgsl_expressions.specs.AttributesTree.{Attr}
use Rattle.wgsl_print_laws.specs.OptionalMarks.{is_any_word}
use Rattle.wgsl_print_laws.specs.Tokens.{mark, exps_tokens}
use Rattle.wgsl_print_laws.specs.Printable.{AreSpelled, arguments_are_apart}
use Rattle.wgsl_print_laws.specs.Attributes.{IsRuleExp, one_name, two_names, IsWritten, align_is, binding_is, blend_src_is, builtin_is, constant_is, diagnostic_is, group_is, id_is, interpolate_is, sampled_is, invariant_is, location_is, must_use_is, size_is, size_of_one, size_of_two, size_of_three, vertex_is, fragment_is, compute_is, publish_is, if_is, elif_is, otherwise_is, custom_is, IsWord, identifier, reserved, keyword, arguments_tokens, AttributeTokens, an_attribute}
use Rattle.wgsl_print_laws.specs.TreesLaws.{AttributesAreLaidOut}
use Rattle.wgsl_print_laws.proofs.Lays.{Lays, lays_nothing}
use Rattle.wgsl_print_laws.proofs.Signs.{begins_with_none, lays_sign, lays_paren_left, lays_paren_right}
use Rattle.wgsl_print_laws.proofs.Leaves.{Leaf, word_leaf, reserved_leaf, keyword_leaf}
use Rattle.wgsl_print_laws.proofs.Expressions.{Run, run_then, run_as, sign_run, leaf_run, free, at_paren_left, at_paren_right, stops_at, closed_run, exps_run, are_front}

-- ---- what is printed is the word and the arguments

commas_are : (es : List Exp) → commas exp_text es ≡ exps_text (exps es)
commas_are [] = refl
commas_are (e ∷ es) = ap (λ z. exp_text e ++ z) (more es)
  where
    more : (es : List Exp) → flat_map (λ e. codes ", " ++ exp_text e) es ≡ more_exps_text (exps es)
    more [] = refl
    more (e ∷ es) = ap (λ z. (codes ", " ++ exp_text e) ++ z) (more es) ∙ append_assoc (codes ", ") (exp_text e) (more_exps_text (exps es))

argued_as : (word text other : List ℕ) → text ≡ other → argued word text ≡ (codes "@" ++ word) ++ ((codes "(" ++ other) ++ codes ")")
unfolding argued
argued_as word text other e = ap (λ z. (((codes "@" ++ word) ++ codes "(") ++ z) ++ codes ")") e ∙ ap (λ z. z ++ codes ")") (append_assoc (codes "@" ++ word) (codes "(") other) ∙ append_assoc (codes "@" ++ word) (codes "(" ++ other) (codes ")")

rule_text : (rule : List ℕ) (e : Exp) → IsRuleExp rule e → rule ≡ exp_text e
rule_text _ _ (one_name x) = refl
rule_text _ _ (two_names x y) = ap (λ z. (z ++ codes ".") ++ y) (sym (append-nil x))

two_text : (a b : List ℕ) → (a ++ codes ", ") ++ b ≡ a ++ ((codes ", " ++ b) ++ [])
two_text a b = append_assoc a (codes ", ") b ∙ ap (λ z. a ++ z) (sym (append-nil (codes ", " ++ b)))

one_text : (a : List ℕ) → a ≡ a ++ []
one_text a = sym (append-nil a)

pub written_text : (a : Attr) (w : List ℕ) (es : Option (List Exp)) → IsWritten a w es → attr_text a ≡ (codes "@" ++ w) ++ arguments_text es
written_text _ _ _ (align_is x) = argued_as (codes "align") (exp_text x) _ (one_text (exp_text x))
written_text _ _ _ (binding_is x) = argued_as (codes "binding") (exp_text x) _ (one_text (exp_text x))
written_text _ _ _ (blend_src_is x) = argued_as (codes "blend_src") (exp_text x) _ (one_text (exp_text x))
written_text _ _ _ (builtin_is value) = argued_as (codes "builtin") _ _ (one_text _)
written_text _ _ _ constant_is = refl
written_text _ _ _ (diagnostic_is severity {rule = rule} {e = e} r) =
    let text = diagnostic_severity_text severity in
    argued_as (codes "diagnostic") ((text ++ codes ", ") ++ rule) (text ++ ((codes ", " ++ exp_text e) ++ [])) (ap (λ z. (text ++ codes ", ") ++ z) (rule_text rule e r) ∙ two_text text (exp_text e))
written_text _ _ _ (group_is x) = argued_as (codes "group") (exp_text x) _ (one_text (exp_text x))
written_text _ _ _ (id_is x) = argued_as (codes "id") (exp_text x) _ (one_text (exp_text x))
written_text _ _ _ (interpolate_is type) = argued_as (codes "interpolate") _ _ refl
written_text _ _ _ (sampled_is type sampling) =
    let text = interpolation_type_text type in
    let more = codes ", " ++ interpolation_sampling_text sampling in
    argued_as (codes "interpolate") (text ++ more) (text ++ (more ++ [])) (ap (λ z. text ++ z) (sym (append-nil more)))
written_text _ _ _ invariant_is = refl
written_text _ _ _ (location_is x) = argued_as (codes "location") (exp_text x) _ (one_text (exp_text x))
written_text _ _ _ must_use_is = refl
written_text _ _ _ (size_is x) = argued_as (codes "size") (exp_text x) _ (one_text (exp_text x))
written_text _ _ _ (size_of_one x) = argued_as (codes "workgroup_size") _ _ (append-nil _)
written_text _ _ _ (size_of_two x y) = argued_as (codes "workgroup_size") _ _ (append_assoc (exp_text x) (codes ", " ++ exp_text y) [])
written_text _ _ _ (size_of_three x y z) = argued_as (codes "workgroup_size") _ _ (append_assoc (exp_text x) (codes ", " ++ exp_text y) (codes ", " ++ exp_text z) ∙ ap (λ r. exp_text x ++ ((codes ", " ++ exp_text y) ++ r)) (sym (append-nil _)))
written_text _ _ _ vertex_is = refl
written_text _ _ _ fragment_is = refl
written_text _ _ _ compute_is = refl
written_text _ _ _ publish_is = refl
written_text _ _ _ (if_is x) = argued_as (codes "if") (exp_text x) _ (one_text (exp_text x))
written_text _ _ _ (elif_is x) = argued_as (codes "elif") (exp_text x) _ (one_text (exp_text x))
written_text _ _ _ otherwise_is = refl
written_text _ _ _ (custom_is name es) = refl

-- ---- words

pub keyword_of : (g : Fixed) → is_any_word (mark g) ≡ true → Leaf ends_word (t.Fixed g) (spelling g)
unfolding unicode_ident
keyword_of f.Alias e = keyword_leaf f.Alias 97 (codes "lias") refl refl refl refl
keyword_of f.Break e = keyword_leaf f.Break 98 (codes "reak") refl refl refl refl
keyword_of f.Case e = keyword_leaf f.Case 99 (codes "ase") refl refl refl refl
keyword_of f.Const e = keyword_leaf f.Const 99 (codes "onst") refl refl refl refl
keyword_of f.ConstAssert e = keyword_leaf f.ConstAssert 99 (codes "onst_assert") refl refl refl refl
keyword_of f.Continue e = keyword_leaf f.Continue 99 (codes "ontinue") refl refl refl refl
keyword_of f.Continuing e = keyword_leaf f.Continuing 99 (codes "ontinuing") refl refl refl refl
keyword_of f.Default e = keyword_leaf f.Default 100 (codes "efault") refl refl refl refl
keyword_of f.Diagnostic e = keyword_leaf f.Diagnostic 100 (codes "iagnostic") refl refl refl refl
keyword_of f.Discard e = keyword_leaf f.Discard 100 (codes "iscard") refl refl refl refl
keyword_of f.Else e = keyword_leaf f.Else 101 (codes "lse") refl refl refl refl
keyword_of f.Enable e = keyword_leaf f.Enable 101 (codes "nable") refl refl refl refl
keyword_of f.False e = keyword_leaf f.False 102 (codes "alse") refl refl refl refl
keyword_of f.Fn e = keyword_leaf f.Fn 102 (codes "n") refl refl refl refl
keyword_of f.For e = keyword_leaf f.For 102 (codes "or") refl refl refl refl
keyword_of f.If e = keyword_leaf f.If 105 (codes "f") refl refl refl refl
keyword_of f.Let e = keyword_leaf f.Let 108 (codes "et") refl refl refl refl
keyword_of f.Loop e = keyword_leaf f.Loop 108 (codes "oop") refl refl refl refl
keyword_of f.Override e = keyword_leaf f.Override 111 (codes "verride") refl refl refl refl
keyword_of f.Requires e = keyword_leaf f.Requires 114 (codes "equires") refl refl refl refl
keyword_of f.Return e = keyword_leaf f.Return 114 (codes "eturn") refl refl refl refl
keyword_of f.Struct e = keyword_leaf f.Struct 115 (codes "truct") refl refl refl refl
keyword_of f.Switch e = keyword_leaf f.Switch 115 (codes "witch") refl refl refl refl
keyword_of f.True e = keyword_leaf f.True 116 (codes "rue") refl refl refl refl
keyword_of f.Var e = keyword_leaf f.Var 118 (codes "ar") refl refl refl refl
keyword_of f.While e = keyword_leaf f.While 119 (codes "hile") refl refl refl refl
keyword_of f.Import e = keyword_leaf f.Import 105 (codes "mport") refl refl refl refl
keyword_of f.Package e = keyword_leaf f.Package 112 (codes "ackage") refl refl refl refl
keyword_of f.Super e = keyword_leaf f.Super 115 (codes "uper") refl refl refl refl
keyword_of f.As e = keyword_leaf f.As 97 (codes "s") refl refl refl refl
keyword_of _ e = absurd cc

lays_at : Lays (begins_with_none []) (codes "@") (mark f.Attr ∷ [])
unfolding unicode_ident
lays_at = lays_sign f.Attr 64 refl [] refl refl refl refl refl

word_run : (w : List ℕ) (t : TemplateToken) (ts : List TemplateToken) → IsWord w t → AreSpelled (t ∷ ts) → Run ends_word (t ∷ []) w
word_run _ _ ts (identifier x) s = leaf_run (word_leaf x s.0)
word_run _ _ ts (reserved x) s = leaf_run (reserved_leaf x s.0)
word_run _ _ ts (keyword g e) s = leaf_run (keyword_of g e)

behind_word : (w : List ℕ) (t : TemplateToken) (ts : List TemplateToken) → IsWord w t → AreSpelled (t ∷ ts) → AreSpelled ts
behind_word _ _ ts (identifier x) s = s.1
behind_word _ _ ts (reserved x) s = s.1
behind_word _ _ ts (keyword g e) s = s.1

-- ---- arguments, which may be absent

record Arguments (ts : List TemplateToken) (bytes : List ℕ) : Type 0 where
  run : Run ends_word ts bytes
  follows : (rest : List ℕ) → ends_word rest ≡ true → ends_word (run.characters ++ rest) ≡ true

arguments_run : (es : Option (List Exp)) → AreSpelled (arguments_tokens es) → arguments_are_apart es ≡ true → Arguments (arguments_tokens es) (arguments_text es)
arguments_run None s h = record { run = record { characters = []; spells = spells_ascii [] refl; lays = lays_nothing }; follows = λ rest ok. ok }
arguments_run (Some es) s h =
    let inner = exps_run (exps es) (are_front (exps_tokens (exps es)) (mark f.ParenRight ∷ []) s.1) h in
    let shut = run_then inner (closed_run _ (sign_run lays_paren_right refl)) (λ rest ok. stops_at (41 ∷ rest) (λ b. at_paren_right b rest)) in
    let all = run_then (sign_run lays_paren_left refl) shut (λ rest ok. free (shut.characters ++ rest)) in
    let P : List ℕ → Type 0 = λ z. Arguments (arguments_tokens (Some es)) z in
    subst P (sym (append_assoc (codes "(") (exps_text (exps es)) (codes ")")) ∙ ap (λ z. (codes "(" ++ z) ++ codes ")") (sym (commas_are es)))
    (record { run = all; follows = λ rest ok. at_paren_left false (shut.characters ++ rest) })

pub attribute_run : (a : Attr) (ts : List TemplateToken) → AttributeTokens a ts → AreSpelled ts → Run ends_word ts (attr_text a)
attribute_run a _ (an_attribute {name = w} {t = t} {es = es} is named apart) s =
    let p = word_run w t (arguments_tokens es) named s.1 in
    let q = arguments_run es (behind_word w t (arguments_tokens es) named s.1) apart in
    let both = run_then p q.run (λ rest ok. q.follows rest ok) in
    run_as refl (sym (append_assoc (codes "@") w (arguments_text es)) ∙ sym (written_text a w es is)) (run_then (sign_run lays_at refl) both (λ rest ok. free (both.characters ++ rest)))

pub attributes_are_laid_out : AttributesAreLaidOut
attributes_are_laid_out a ts h s =
    let p = attribute_run a ts h s in record {
      characters = p.characters;
      are_scalars = p.spells.scalars;
      spell = p.spells.encodes;
      laid_out = (let P : List ℕ × List TemplateToken → Type 0 = λ x. IsLaidOut x.0 x.1 in subst P (λ i. (append-nil p.characters i, append-nil ts i)) (p.lays.lays [] [] refl at_the_end));
    }
