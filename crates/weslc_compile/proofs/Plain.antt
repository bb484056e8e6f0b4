-- What is printed of a lowered unit is plain, and so is what the part answers.
use Rattle.std.proofs.Common.{◌≡◌, ℕ, List, [], ◌∷◌, map, refl, sym, ap, ◌∙◌, subst, true}
use Rattle.std.specs.List.{All, cons_option}
use Rattle.std.proofs.lemmas.List.Elements.{All-nil, All-cons, All-head, All-tail, All-weaker, All-map}
use Rattle.wgsl_path.specs.declared.span.Spanned.{Spanned}
use Rattle.wgsl_declarations.specs.declared.declaration.GlobalDeclaration.{GlobalDeclaration}
use Rattle.wgsl_declarations.specs.declared.declaration.GlobalDeclaration.TheVariants as code
use Rattle.wgsl_declarations.specs.declared.unit.TranslationUnit.{TranslationUnit}
use Rattle.wgsl_declarations.specs.Tree as tree
use Rattle.wgsl_declarations.specs.View.{declaration_tree, declarations_tree, unit_tree}
use Rattle.weslc_calls.specs.Derivable.{SaysTree}
use Rattle.wgsl_lower.specs.Lowered as code_spec
use Rattle.wgsl_lower.specs.Lowered.{AllStay}
use Rattle.wgsl_guard.specs.Modules.{around_expressions_in_declaration, around_expressions_in_unit}
use Rattle.core_syntax.specs.Tree.{Decl, variable, function}
use Rattle.core_narrowing.specs.Widening.{widen_decl, widen_unit}
use Rattle.weslc_calls.specs.Declared.{functions_of}
use Rattle.weslc_calls.specs.OfCore.{Finding, sources}
use Rattle.weslc_calls.specs.Options.{Options}
use Rattle.weslc_calls.specs.Answers.{IsCompiledText}
use Rattle.wgsl_path.specs.declared.path.ModulePath.{ModulePath}
use Rattle.wgsl_path.specs.Paths.{path_text}
use Rattle.weslc_compile.specs.Plain.{stays, IsPlain}

-- ---- lists

mapped_none : {A B : Type 0} (f : A → B) (xs : List A) → xs ≡ [] → map f xs ≡ []
mapped_none f xs none = ap (map f) none

same_none : {A B : Type 0} (f : A → B) (xs ys : List A) → map f xs ≡ map f ys → ys ≡ [] → xs ≡ []
same_none f [] ys same none = refl
same_none f (x ∷ xs) ys same none = absurd (let e = mapped_none f ys none in cc)

all_unmapped : {A B : Type 0} (P : B → Type 0) (f : A → B) (xs : List A) → All P (map f xs) → All (λ x. P (f x)) xs
all_unmapped P f [] all = All-nil (λ x. P (f x))
all_unmapped P f (x ∷ xs) all = All-cons (λ y. P (f y)) x xs (All-head P (f x) (map f xs) all) (all_unmapped P f xs (All-tail P (f x) (map f xs) all))

-- ---- what is guarded

abbrev around : Spanned GlobalDeclaration → Spanned GlobalDeclaration
around n = record { node = around_expressions_in_declaration n.node; span = n.span }

stays_around : (d : GlobalDeclaration) → code_spec.stays (around_expressions_in_declaration d) ≡ code_spec.stays d
stays_around code.Void = refl
stays_around (code.Declaration x) = refl
stays_around (code.TypeAlias x) = refl
stays_around (code.Struct x) = refl
stays_around (code.Function x) = refl
stays_around (code.ConstAssert x) = refl

still_stay : (old new : List (Spanned GlobalDeclaration)) → map around new ≡ map around old → AllStay old → AllStay new
still_stay old new same all =
    let moved : All (λ n. code_spec.stays n.node ≡ true) (map around old) =
    All-map (λ n. code_spec.stays n.node ≡ true) around old
    (All-weaker (λ n. code_spec.stays n.node ≡ true) (λ n. code_spec.stays (around n).node ≡ true) (λ n is. stays_around n.node ∙ is) old all) in
    All-weaker (λ n. code_spec.stays (around n).node ≡ true) (λ n. code_spec.stays n.node ≡ true) (λ n is. sym (stays_around n.node) ∙ is) new
    (all_unmapped (λ n. code_spec.stays n.node ≡ true) around new (subst (All (λ n. code_spec.stays n.node ≡ true)) (sym same) moved))

-- ---- the trees

one_more : (d : GlobalDeclaration) (ts : List tree.Decl) → code_spec.stays d ≡ true → All (λ t. stays t ≡ true) ts → All (λ t. stays t ≡ true) (cons_option (declaration_tree d) ts)
one_more code.Void ts is all = absurd cc
one_more (code.Declaration x) ts is all = All-cons (λ t. stays t ≡ true) _ ts is all
one_more (code.TypeAlias x) ts is all = absurd cc
one_more (code.Struct x) ts is all = All-cons (λ t. stays t ≡ true) _ ts refl all
one_more (code.Function x) ts is all = All-cons (λ t. stays t ≡ true) _ ts refl all
one_more (code.ConstAssert x) ts is all = absurd cc

trees_stay : (ds : List (Spanned GlobalDeclaration)) → AllStay ds → All (λ t. stays t ≡ true) (declarations_tree ds)
trees_stay [] all = All-nil (λ t. stays t ≡ true)
trees_stay (n ∷ ns) all =
    one_more n.node (declarations_tree ns) (All-head (λ m. code_spec.stays m.node ≡ true) n ns all) (trees_stay ns (All-tail (λ m. code_spec.stays m.node ≡ true) n ns all))

-- What is read as a unit with such surroundings is plain.
pub guarded_plain : (old new : TranslationUnit) (text : List ℕ) → old.imports ≡ [] → AllStay old.global_declarations
    → around_expressions_in_unit new ≡ around_expressions_in_unit old → SaysTree text (unit_tree new) → IsPlain text
guarded_plain old new text none all same says = record {
  unit = unit_tree new;
  says = says;
  no_imports = mapped_none _ new.imports (same_none _ new.imports old.imports (ap (λ u. u.imports) same) none);
  all_stay = trees_stay new.global_declarations (still_stay old.global_declarations new.global_declarations (ap (λ u. u.global_declarations) same) all);
}

-- ---- the part

functions_stay : (ds : List Decl) → All (λ t. stays t ≡ true) (map widen_decl (functions_of ds))
functions_stay [] = All-nil (λ t. stays t ≡ true)
functions_stay (variable attributes kind x type e ∷ ds) = functions_stay ds
functions_stay (function attributes f parameters return_attributes type body ∷ ds) = All-cons (λ t. stays t ≡ true) _ (map widen_decl (functions_of ds)) refl (functions_stay ds)

pub part_plain : (found : Finding) (root : ModulePath) (options : Options) (text : List ℕ)
    → IsCompiledText (sources options.features found) (path_text root) options.keep options.max_modules options.max_steps text → IsPlain text
part_plain found root options text t = record {
  unit = widen_unit t.compiled.low;
  says = t.compiled.reads;
  no_imports = mapped_none _ t.compiled.low.imports t.keeps.declares.no_imports;
  all_stay = subst (λ ds. All (λ t. stays t ≡ true) (map widen_decl ds)) t.keeps.declares.functions (functions_stay t.compiled.low.declarations);
}
