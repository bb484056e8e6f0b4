-- The productions of modules: what is absent is absent again, and so are declarations of which none is printed.
use Rattle.std.proofs.Common.{◌≡◌, refl, ap, ◌∙◌, ℕ, Bool, List, [], ◌∷◌, ◌++◌, append-nil, map}
use Rattle.wgsl_templates.specs.declared.meaning.token.TemplateToken.{TemplateToken}
use Rattle.wgsl_templates.specs.declared.meaning.token.SpannedTemplateToken.{SpannedTemplateToken}
use Rattle.wgsl_print_laws.specs.Laws.{without_places}
use Rattle.wgsl_print_laws.specs.OptionalMarks.{outside}
use Rattle.wgsl_declarations.specs.ImportsTree.{Importing, Directive}
use Rattle.wgsl_declarations.specs.ImportsView.{importing_tree, directive_tree}
use Rattle.wgsl_declarations.specs.Tree.{Decl, UnitTree}
use Rattle.wgsl_declarations.specs.View.{declarations_tree}
use Rattle.wgsl_print_laws.specs.Directives.{HasTokens}
use Rattle.wgsl_print_laws.specs.Imports.{ImportTokens}
use Rattle.wgsl_print_laws.specs.Declarations.{DeclTokens, RowTokens, row_end, UnitTokens, a_unit}
use Rattle.wgsl_grammar_tables.specs.Grammars.{Symbol, phrase}
use Rattle.wgsl_semantic_values.specs.declared.part.Part.{Part}
use Rattle.wgsl_semantic_values.specs.declared.part.Part.TheVariants as part
use Rattle.wgsl_semantic_values.specs.declared.label.Label.TheVariants as l
use Rattle.wgsl_semantic_values.specs.declared.label.DeclarationLabel.TheVariants as label
use Rattle.wgsl_parser.specs.Phrase.{Phrase}
use Rattle.wgsl_parser.specs.Reading.{imports_of, directives_of, globals_of}
use Rattle.wgsl_read_back.proofs.Views.{View, Stands, some_imports, some_directives, some_declarations, a_module}
use Rattle.wgsl_read_back.proofs.Views as v
use Rattle.wgsl_read_back.proofs.Items.{Again}
use Rattle.wgsl_read_back.proofs.Rows.{make_of, Rebuild}
use Rattle.wgsl_read_back.proofs.Pieces.{Pieces, Fine, pieces_steps, Lined, end, a_part, some_lines, no_part, a_vanished, Made, made_as, made_of_parts, likewise_of, pieces_lined, of_three_parts}
use Rattle.wgsl_read_back.proofs.ModuleRows.{ImportsRowed, DirectivesRowed, DeclarationsRowed, all_void, some_declared}

-- ---- what phrases are

abbrev pub unit : List Importing → List Directive → List Decl → UnitTree
unit is ds gs = record { imports = is; directives = ds; declarations = gs }

-- A module, which may say nothing: then nothing is printed, which no phrase is.
pub data ModuleRead (n : ℕ) (u : List SpannedTemplateToken) (x : Phrase Part) : Type 0 where
  of_nothing : Stands x.part (v.module_tree (unit [] [] []) []) → ((w : List SpannedTemplateToken) → without_places w ≡ without_places u → Again (phrase n) (v.module_tree (unit [] [] []) []) w) → ModuleRead n u x
  of_some : (t : UnitTree) (ts : List TemplateToken) → UnitTokens t ts → Lined n (v.module_tree t ts) u x → ModuleRead n u x

-- ---- what parts are that may be absent

imports_are : (p : Part) (is : List Importing) (ts : List TemplateToken) → Stands p (v.imports is ts) → map importing_tree (imports_of p) ≡ is
imports_are p _ _ (some_imports ys e q) = ap (λ z. map importing_tree (imports_of z)) e ∙ q
imports_are p _ _ (v.no_imports e) = ap (λ z. map importing_tree (imports_of z)) e

directives_are : (p : Part) (ds : List Directive) (ts : List TemplateToken) → Stands p (v.directives ds ts) → map directive_tree (directives_of p) ≡ ds
directives_are p _ _ (some_directives ys e q) = ap (λ z. map directive_tree (directives_of z)) e ∙ q
directives_are p _ _ (v.no_directives e) = ap (λ z. map directive_tree (directives_of z)) e

declarations_are : (p : Part) (gs : List Decl) (ts : List TemplateToken) → Stands p (v.declarations gs ts) → declarations_tree (globals_of p) ≡ gs
declarations_are p _ _ (some_declarations ys e q) = ap (λ z. declarations_tree (globals_of z)) e ∙ q
declarations_are p _ _ (v.no_declarations e) = ap (λ z. declarations_tree (globals_of z)) e

-- ---- modules

module _ (is : List Importing) (ts : List TemplateToken) (ds : List Directive) (us : List TemplateToken) (gs : List Decl) (vs : List TemplateToken) where
  module_makes : (zs : List TemplateToken) (p q r : Part) → Stands p (v.imports is ts) → Stands q (v.directives ds us) → Stands r (v.declarations gs vs) → Made (l.Declaration label.Module) (p ∷ q ∷ r ∷ []) (v.module_tree (unit is ds gs) zs)
  module_makes zs p q r h g k =
      made_as (l.Declaration label.Module) (p ∷ q ∷ r ∷ []) (v.module_tree (unit is ds gs) zs) (λ s. part.Module (record { imports = imports_of p; global_directives = directives_of q; global_declarations = globals_of r })) (λ s. refl)
      (λ s. a_module _ refl (λ i. unit (imports_are p is ts h i) (directives_are q ds us g i) (declarations_are r gs vs k i))) (λ s. refl) refl

  -- a module of these pieces
  module_of : (n : ℕ) (ss : List Symbol) (ns : List ℕ) (r : Symbol) (rs : List Symbol) (ms : List ℕ) → Rebuild n ss (l.Declaration label.Module) ns → Rebuild n (r ∷ rs) (l.Declaration label.Module) ms → RowTokens ImportTokens is ts → RowTokens HasTokens ds us → RowTokens DeclTokens gs vs → {zs : List TemplateToken} {u : List SpannedTemplateToken}
      → {x : Phrase Part} {xs : List (Phrase Part)} → (p : Pieces ss ns (r ∷ rs) ms zs (v.imports is ts ∷ v.directives ds us ∷ v.declarations gs vs ∷ []) u (x ∷ xs)) → zs ≡ ts ++ (us ++ vs) → (fine : (o : List Bool) → Fine p outside o)
      → ((o : List Bool) → (pieces_steps p outside o (fine o)).opened ≡ o) → ((o : List Bool) → (pieces_steps p outside o (fine o)).last ≡ outside) → ModuleRead n u (make_of (l.Declaration label.Module) ns (x ∷ xs))
  module_of n ss ns r rs ms read rebuild h k j p tokens fine level ended =
      of_some (unit is ds gs) (ts ++ (us ++ vs)) (a_unit h k j)
      (pieces_lined n ss ns r rs ms (l.Declaration label.Module) read rebuild (v.module_tree (unit is ds gs) (ts ++ (us ++ vs))) p tokens (of_three_parts (λ qs. Made (l.Declaration label.Module) qs (v.module_tree (unit is ds gs) (ts ++ (us ++ vs)))) (module_makes (ts ++ (us ++ vs))))
      fine level ended)

pub module_of_imports_directives_declarations : (n i d g : ℕ) → Rebuild n (phrase i ∷ phrase d ∷ phrase g ∷ []) (l.Declaration label.Module) (2 ∷ 2 ∷ 2 ∷ []) → Rebuild n (phrase i ∷ phrase d ∷ []) (l.Declaration label.Module) (2 ∷ 2 ∷ 0 ∷ []) → {a b c : List SpannedTemplateToken} {x y z : Phrase Part} → ImportsRowed i a x → DirectivesRowed d b y → DeclarationsRowed g c z
    → ModuleRead n (a ++ (b ++ (c ++ ([])))) (make_of (l.Declaration label.Module) (2 ∷ 2 ∷ 2 ∷ []) (x ∷ y ∷ z ∷ []))
module_of_imports_directives_declarations n i d g rebuild bare h k (some_declared e es vs j b) =
    module_of (h.0 ∷ h.1) h.2 (k.0 ∷ k.1) k.2 (e ∷ es) vs n (phrase i ∷ phrase d ∷ phrase g ∷ []) (2 ∷ 2 ∷ 2 ∷ []) (phrase i) (phrase d ∷ phrase g ∷ []) (2 ∷ 2 ∷ 2 ∷ []) rebuild rebuild h.3 k.3 j (a_part h.4 (a_part k.4 (some_lines b end)))
    (ap (λ z. h.2 ++ (k.2 ++ z)) (append-nil vs)) (λ o. (k.4.ended _ _, tt)) (λ o. refl) (λ o. refl)
module_of_imports_directives_declarations n i d g rebuild bare h k (all_void ys is none b) =
    module_of (h.0 ∷ h.1) h.2 (k.0 ∷ k.1) k.2 [] [] n (phrase i ∷ phrase d ∷ phrase g ∷ []) (2 ∷ 2 ∷ 2 ∷ []) (phrase i) (phrase d ∷ []) (2 ∷ 2 ∷ 0 ∷ []) rebuild bare h.3 k.3 row_end (a_part h.4 (a_part k.4 (a_vanished b end))) refl (λ o. (k.4.ended _ _, tt)) (λ o. refl) (λ o. refl)

pub module_of_imports_directives : (n i d : ℕ) → Rebuild n (phrase i ∷ phrase d ∷ []) (l.Declaration label.Module) (2 ∷ 2 ∷ 0 ∷ []) → {a b : List SpannedTemplateToken} {x y : Phrase Part} → ImportsRowed i a x → DirectivesRowed d b y
    → ModuleRead n (a ++ (b ++ ([]))) (make_of (l.Declaration label.Module) (2 ∷ 2 ∷ 0 ∷ []) (x ∷ y ∷ []))
module_of_imports_directives n i d rebuild h k =
    module_of (h.0 ∷ h.1) h.2 (k.0 ∷ k.1) k.2 [] [] n (phrase i ∷ phrase d ∷ []) (2 ∷ 2 ∷ 0 ∷ []) (phrase i) (phrase d ∷ []) (2 ∷ 2 ∷ 0 ∷ []) rebuild rebuild h.3 k.3 row_end (a_part h.4 (a_part k.4 (no_part (v.declarations [] []) (v.no_declarations refl) end))) refl
    (λ o. tt) (λ o. refl) (λ o. k.4.ended _ _)

pub module_of_imports_declarations : (n i g : ℕ) → Rebuild n (phrase i ∷ phrase g ∷ []) (l.Declaration label.Module) (2 ∷ 0 ∷ 2 ∷ []) → Rebuild n (phrase i ∷ []) (l.Declaration label.Module) (2 ∷ 0 ∷ 0 ∷ []) → {a c : List SpannedTemplateToken} {x z : Phrase Part} → ImportsRowed i a x → DeclarationsRowed g c z
    → ModuleRead n (a ++ (c ++ ([]))) (make_of (l.Declaration label.Module) (2 ∷ 0 ∷ 2 ∷ []) (x ∷ z ∷ []))
module_of_imports_declarations n i g rebuild bare h (some_declared e es vs j b) =
    module_of (h.0 ∷ h.1) h.2 [] [] (e ∷ es) vs n (phrase i ∷ phrase g ∷ []) (2 ∷ 0 ∷ 2 ∷ []) (phrase i) (phrase g ∷ []) (2 ∷ 0 ∷ 2 ∷ []) rebuild rebuild h.3 row_end j (a_part h.4 (no_part (v.directives [] []) (v.no_directives refl) (some_lines b end)))
    (ap (λ z. h.2 ++ z) (append-nil vs)) (λ o. (h.4.ended _ _, tt)) (λ o. refl) (λ o. refl)
module_of_imports_declarations n i g rebuild bare h (all_void ys is none b) =
    module_of (h.0 ∷ h.1) h.2 [] [] [] [] n (phrase i ∷ phrase g ∷ []) (2 ∷ 0 ∷ 2 ∷ []) (phrase i) ([]) (2 ∷ 0 ∷ 0 ∷ []) rebuild bare h.3 row_end row_end (a_part h.4 (no_part (v.directives [] []) (v.no_directives refl) (a_vanished b end))) refl (λ o. (h.4.ended _ _, tt)) (λ o. refl) (λ o. refl)

pub module_of_imports : (n i : ℕ) → Rebuild n (phrase i ∷ []) (l.Declaration label.Module) (2 ∷ 0 ∷ 0 ∷ []) → {a : List SpannedTemplateToken} {x : Phrase Part} → ImportsRowed i a x
    → ModuleRead n (a ++ ([])) (make_of (l.Declaration label.Module) (2 ∷ 0 ∷ 0 ∷ []) (x ∷ []))
module_of_imports n i rebuild h =
    module_of (h.0 ∷ h.1) h.2 [] [] [] [] n (phrase i ∷ []) (2 ∷ 0 ∷ 0 ∷ []) (phrase i) ([]) (2 ∷ 0 ∷ 0 ∷ []) rebuild rebuild h.3 row_end row_end (a_part h.4 (no_part (v.directives [] []) (v.no_directives refl) (no_part (v.declarations [] []) (v.no_declarations refl) end))) refl
    (λ o. tt) (λ o. refl) (λ o. h.4.ended _ _)

pub module_of_directives_declarations : (n d g : ℕ) → Rebuild n (phrase d ∷ phrase g ∷ []) (l.Declaration label.Module) (0 ∷ 2 ∷ 2 ∷ []) → Rebuild n (phrase d ∷ []) (l.Declaration label.Module) (0 ∷ 2 ∷ 0 ∷ []) → {b c : List SpannedTemplateToken} {y z : Phrase Part} → DirectivesRowed d b y → DeclarationsRowed g c z
    → ModuleRead n (b ++ (c ++ ([]))) (make_of (l.Declaration label.Module) (0 ∷ 2 ∷ 2 ∷ []) (y ∷ z ∷ []))
module_of_directives_declarations n d g rebuild bare k (some_declared e es vs j b) =
    module_of [] [] (k.0 ∷ k.1) k.2 (e ∷ es) vs n (phrase d ∷ phrase g ∷ []) (0 ∷ 2 ∷ 2 ∷ []) (phrase d) (phrase g ∷ []) (0 ∷ 2 ∷ 2 ∷ []) rebuild rebuild row_end k.3 j (no_part (v.imports [] []) (v.no_imports refl) (a_part k.4 (some_lines b end)))
    (ap (λ z. k.2 ++ z) (append-nil vs)) (λ o. (k.4.ended _ _, tt)) (λ o. refl) (λ o. refl)
module_of_directives_declarations n d g rebuild bare k (all_void ys is none b) =
    module_of [] [] (k.0 ∷ k.1) k.2 [] [] n (phrase d ∷ phrase g ∷ []) (0 ∷ 2 ∷ 2 ∷ []) (phrase d) ([]) (0 ∷ 2 ∷ 0 ∷ []) rebuild bare row_end k.3 row_end (no_part (v.imports [] []) (v.no_imports refl) (a_part k.4 (a_vanished b end))) refl (λ o. (k.4.ended _ _, tt)) (λ o. refl) (λ o. refl)

pub module_of_directives : (n d : ℕ) → Rebuild n (phrase d ∷ []) (l.Declaration label.Module) (0 ∷ 2 ∷ 0 ∷ []) → {b : List SpannedTemplateToken} {y : Phrase Part} → DirectivesRowed d b y
    → ModuleRead n (b ++ ([])) (make_of (l.Declaration label.Module) (0 ∷ 2 ∷ 0 ∷ []) (y ∷ []))
module_of_directives n d rebuild k =
    module_of [] [] (k.0 ∷ k.1) k.2 [] [] n (phrase d ∷ []) (0 ∷ 2 ∷ 0 ∷ []) (phrase d) ([]) (0 ∷ 2 ∷ 0 ∷ []) rebuild rebuild row_end k.3 row_end (no_part (v.imports [] []) (v.no_imports refl) (a_part k.4 (no_part (v.declarations [] []) (v.no_declarations refl) end))) refl
    (λ o. tt) (λ o. refl) (λ o. k.4.ended _ _)

pub module_of_declarations : (n g : ℕ) → Rebuild n (phrase g ∷ []) (l.Declaration label.Module) (0 ∷ 0 ∷ 2 ∷ []) → {c : List SpannedTemplateToken} {z : Phrase Part} → DeclarationsRowed g c z
    → ModuleRead n (c ++ ([])) (make_of (l.Declaration label.Module) (0 ∷ 0 ∷ 2 ∷ []) (z ∷ []))
module_of_declarations n g rebuild (some_declared e es vs j b) =
    module_of [] [] [] [] (e ∷ es) vs n (phrase g ∷ []) (0 ∷ 0 ∷ 2 ∷ []) (phrase g) ([]) (0 ∷ 0 ∷ 2 ∷ []) rebuild rebuild row_end row_end j (no_part (v.imports [] []) (v.no_imports refl) (no_part (v.directives [] []) (v.no_directives refl) (some_lines b end)))
    ((append-nil vs)) (λ o. (refl, tt)) (λ o. refl) (λ o. refl)
module_of_declarations n g rebuild {z = z} (all_void ys is none b) =
    of_nothing (made_of_parts (l.Declaration label.Module) (0 ∷ 0 ∷ 2 ∷ []) z [] view (module_makes [] [] [] [] [] [] [] part.Absent part.Absent z.part (v.no_imports refl) (v.no_directives refl) b.stands) (b.passes, tt)).stands
    (likewise_of n (phrase g ∷ []) (0 ∷ 0 ∷ 2 ∷ []) (l.Declaration label.Module) rebuild view (no_part (v.imports [] []) (v.no_imports refl) (no_part (v.directives [] []) (v.no_directives refl) (a_vanished b end)))
    (of_three_parts (λ qs. Made (l.Declaration label.Module) qs view) (module_makes [] [] [] [] [] [] [])))
  where
    view : View
    view = v.module_tree (unit [] [] []) []
