-- Lists of items each of which stands for something, as lists of what they stand for.
use Rattle.std.proofs.Common.{◌≡◌, refl, sym, ap, ◌∙◌, subst, List, [], ◌∷◌, map, filter_map, Option, Some, None, Result}
use Rattle.std.specs.List.{cons_option}
use Rattle.std.specs.Option.{option_map}
use Rattle.wgsl_path.specs.declared.span.Spanned.{Spanned}
use Rattle.wgsl_declarations.specs.declared.imports.import.ImportStatement.{ImportStatement}
use Rattle.wgsl_declarations.specs.declared.imports.directive.GlobalDirective.{GlobalDirective}
use Rattle.wgsl_declarations.specs.ImportsView.{importing_tree, directive_tree}
use Rattle.wgsl_declarations.specs.declared.declaration.StructMember.{StructMember}
use Rattle.wgsl_declarations.specs.declared.declaration.FormalParameter.{FormalParameter}
use Rattle.wgsl_declarations.specs.declared.declaration.GlobalDeclaration.{GlobalDeclaration}
use Rattle.wgsl_declarations.specs.Tree.{Decl}
use Rattle.wgsl_declarations.specs.View.{member_tree, members_tree, parameter_tree, declaration_tree, declarations_tree}
use Rattle.wesl_conditions.specs.declared.features.feature.Features.{Features}
use Rattle.wesl_conditions.specs.declared.features.error.CondCompError.{CondCompError}
use Rattle.wesl_conditions.specs.Chains.{HasAttributes, left}
use Rattle.wesl_conditions.specs.Trees.{of_members, of_parameters, of_imports, of_directives, of_declarations}
use Rattle.wesl_conditions.specs.Seen.{list_fault}
use Rattle.wesl_conditions.specs.Faults.{flat_fault}
use Rattle.wesl_conditions.specs.Told.{TellsFault}
use Rattle.wesl_cond.specs.Passing.{see}
use Rattle.wesl_cond.specs.Declarations.{declaration_left}

pub all_some : {X A : Type 0} (f : X → A) (xs : List X) → filter_map (λ x. Some (f x)) xs ≡ map f xs
all_some f [] = refl
all_some f (x ∷ xs) = ap (λ t. f x ∷ t) (all_some f xs)

told : {X A B : Type 0} (f : X → A) (has : HasAttributes A) (features : Features) (xs : List X) (r : Result B CondCompError)
    → TellsFault (list_fault features (map (see has (λ a. None)) (filter_map (λ x. Some (f x)) xs))) r → TellsFault (flat_fault has features (map f xs)) r
told f has features xs r h = subst (λ ys. TellsFault (list_fault features (map (see has (λ a. None)) ys)) r) (all_some f xs) h

module _ {B : Type 0} (features : Features) where
  pub members : (ns : List (Spanned StructMember)) (r : Result B CondCompError)
      → TellsFault (list_fault features (map (see of_members (λ a. None)) (filter_map (λ n. Some (member_tree n.node)) ns))) r → TellsFault (flat_fault of_members features (members_tree ns)) r
  members ns r h = told (λ n. member_tree n.node) of_members features ns r h

  pub parameters : (ns : List FormalParameter) (r : Result B CondCompError)
      → TellsFault (list_fault features (map (see of_parameters (λ a. None)) (filter_map (λ n. Some (parameter_tree n)) ns))) r → TellsFault (flat_fault of_parameters features (map parameter_tree ns)) r
  parameters ns r h = told parameter_tree of_parameters features ns r h

  pub imports : (ns : List ImportStatement) (r : Result B CondCompError)
      → TellsFault (list_fault features (map (see of_imports (λ a. None)) (filter_map (λ n. Some (importing_tree n)) ns))) r → TellsFault (flat_fault of_imports features (map importing_tree ns)) r
  imports ns r h = told importing_tree of_imports features ns r h

  pub directives : (ns : List GlobalDirective) (r : Result B CondCompError)
      → TellsFault (list_fault features (map (see of_directives (λ a. None)) (filter_map (λ n. Some (directive_tree n)) ns))) r → TellsFault (flat_fault of_directives features (map directive_tree ns)) r
  directives ns r h = told directive_tree of_directives features ns r h

-- ---- what is left of them

left_of_all : {X A : Type 0} (f : X → A) (has : HasAttributes A) (features : Features) (old new : List X)
    → filter_map (λ x. Some (f x)) new ≡ left features has (filter_map (λ x. Some (f x)) old) → map f new ≡ left features has (map f old)
left_of_all f has features old new h = sym (all_some f new) ∙ h ∙ ap (left features has) (all_some f old)

pub members_left : (features : Features) (old new : List (Spanned StructMember))
    → filter_map (λ n. Some (member_tree n.node)) new ≡ left features of_members (filter_map (λ n. Some (member_tree n.node)) old)
    → members_tree new ≡ left features of_members (members_tree old)
members_left features old new h = left_of_all (λ n. member_tree n.node) of_members features old new h

pub parameters_left : (features : Features) (old new : List FormalParameter)
    → filter_map (λ n. Some (parameter_tree n)) new ≡ left features of_parameters (filter_map (λ n. Some (parameter_tree n)) old)
    → map parameter_tree new ≡ left features of_parameters (map parameter_tree old)
parameters_left features old new h = left_of_all parameter_tree of_parameters features old new h

pub imports_left : (features : Features) (old new : List ImportStatement)
    → filter_map (λ n. Some (importing_tree n)) new ≡ left features of_imports (filter_map (λ n. Some (importing_tree n)) old)
    → map importing_tree new ≡ left features of_imports (map importing_tree old)
imports_left features old new h = left_of_all importing_tree of_imports features old new h

pub directives_left : (features : Features) (old new : List GlobalDirective)
    → filter_map (λ n. Some (directive_tree n)) new ≡ left features of_directives (filter_map (λ n. Some (directive_tree n)) old)
    → map directive_tree new ≡ left features of_directives (map directive_tree old)
directives_left features old new h = left_of_all directive_tree of_directives features old new h

-- declarations that were settled inside, and then as a list
abbrev node_decl : Spanned GlobalDeclaration → Option Decl
node_decl n = declaration_tree n.node

filter_of_map : (ns : List (Spanned GlobalDeclaration)) → filter_map node_decl ns ≡ filter_map (λ o. o) (map node_decl ns)
filter_of_map [] = refl
filter_of_map (n ∷ ns) = ap (cons_option (node_decl n)) (filter_of_map ns)

filter_left : (features : Features) (os : List (Option Decl))
    → filter_map (λ o. o) (map (option_map (declaration_left features)) os) ≡ map (declaration_left features) (filter_map (λ o. o) os)
filter_left features [] = refl
filter_left features (None ∷ os) = filter_left features os
filter_left features (Some d ∷ os) = ap (λ t. declaration_left features d ∷ t) (filter_left features os)

pub declarations_left : (features : Features) (old middle new : List (Spanned GlobalDeclaration))
    → map node_decl middle ≡ map (option_map (declaration_left features)) (map node_decl old)
    → filter_map node_decl new ≡ left features of_declarations (filter_map node_decl middle)
    → declarations_tree new ≡ left features of_declarations (map (declaration_left features) (declarations_tree old))
declarations_left features old middle new inside list =
    list ∙ ap (left features of_declarations)
    (filter_of_map middle ∙ ap (filter_map (λ o. o)) inside ∙ filter_left features (map node_decl old) ∙ ap (map (declaration_left features)) (sym (filter_of_map old)))
