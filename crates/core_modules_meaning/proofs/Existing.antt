-- Loaded modules have a program.
use Rattle.std.proofs.Common.{◌≡◌, ◌⊎◌, inl, inr, List, [], ◌∷◌, map, Option, Some, None, Bool, true, false, refl, sym, ap, ◌∙◌, subst, Contains, option_map}
use Rattle.std.specs.Prelude.{if◌then◌else◌}
use Rattle.std.specs.Str.{bytes_eq}
use Rattle.wgsl_path.specs.declared.path.ModulePath.{ModulePath}
use Rattle.wgsl_path.specs.Paths.{path_text}
use Rattle.core_syntax.specs.Tree.{Decl, UnitTree}
use Rattle.core_syntax.specs.Names.{declared_name}
use Rattle.wgsl_base.proofs.Members.{first_in, later_in, in_cases, in_none, same_bytes, bytes_same}
use Rattle.core_modules_meaning.specs.SourcePrograms.{Symbol as PathSymbol, Program as PathProgram}
use Rattle.core_programs.specs.Names.{Symbol}
use Rattle.core_link_spec.specs.Occurrences.{Name}
use Rattle.core_link_spec.specs.Modules.{Path, Modules, IsModule, local_name, IsDeclaration, Denotes, own, imported, Reached}
use Rattle.core_link_spec.specs.Modules.{Symbol as SourceSymbol}
use Rattle.core_link_spec.specs.Names.{IsPrinted, stays, is_mangled}
use Rattle.core_link_spec.specs.Loaded.{AreLoaded}
use Rattle.core_modules_meaning.specs.SourcePrograms.{source_symbol, AreHeld, IsProgramOf, unit_at, declared_at}
use Rattle.core_modules_meaning.specs.Executions.{path_at, texted, denoted_from, printed_from, program_by_texts, source, IsProgramIn, LinkedModulesHaveOne}
use Rattle.core_modules_meaning.proofs.Distinct.{once_right, once_same}
use Rattle.core_modules_meaning.proofs.Symbols.{found_in, finds_one, reached_declared}
use Rattle.core_modules_meaning.proofs.Exists.{unit_is, unit_found, once_in, have_a_program}

-- ---- paths of modules by their texts

record IsPath (modules : Modules) (m : Path) (path : ModulePath) : Type 0 where
  unit : UnitTree
  stands : Contains modules (path, unit)
  printed : path_text path ≡ m

path_is : (modules : Modules) (m : Path) (path : ModulePath) → path_at modules m ≡ Some path → IsPath modules m path
path_is [] m path e = absurd (cc)
path_is (a ∷ rest) m path e = at (path_is rest m path) (bytes_eq (path_text a.0) m) refl e
  where
    at : (path_at rest m ≡ Some path → IsPath rest m path) → (b : Bool) → bytes_eq (path_text a.0) m ≡ b → (if b then Some a.0 else path_at rest m) ≡ Some path → IsPath (a ∷ rest) m path
    at more true is f = let s : a.0 ≡ path = cc in record { unit = a.1; stands = subst (λ z. Contains (a ∷ rest) (z, a.1)) s (first_in a rest); printed = ap path_text (sym s) ∙ same_bytes (path_text a.0) m is }
    at more false is f = let r = more f in record { unit = r.unit; stands = later_in (path, r.unit) a rest r.stands; printed = r.printed }

path_there : (modules : Modules) (m : Path) (path : ModulePath) (u : UnitTree) → Contains modules (path, u) → path_text path ≡ m → (found : ModulePath) × (path_at modules m ≡ Some found)
path_there [] m path u c e = absurd (in_none (path, u) c)
path_there (a ∷ rest) m path u c e = at (λ d. path_there rest m path u d e) (bytes_eq (path_text a.0) m) refl (in_cases a rest (path, u) c)
  where
    at : (Contains rest (path, u) → (found : ModulePath) × (path_at rest m ≡ Some found)) → (b : Bool) → bytes_eq (path_text a.0) m ≡ b → (a ≡ (path, u)) ⊎ Contains rest (path, u)
        → (found : ModulePath) × ((if b then Some a.0 else path_at rest m) ≡ Some found)
    at more true is cases = (a.0, refl)
    at more false is (inl s) = let t : bytes_eq (path_text a.0) m ≡ true = ap (λ z. bytes_eq (path_text z.0) m) s ∙ ap (λ z. bytes_eq z m) e ∙ bytes_same m in absurd (cc)
    at more false is (inr d) = more d

-- ---- the program

module _ (modules : Modules) (root : Path) (keep : List Name) (loaded : AreLoaded modules root keep) (p : PathProgram) (first : IsProgramOf modules root keep p) where
  item_declares : (s : Symbol) (d : Decl) (o : Option UnitTree) → unit_at modules s.home ≡ o → declared_at s.called o ≡ Some d → IsDeclaration modules (source s) d
  item_declares s d None e f = absurd (cc)
  item_declares s d (Some u) e f = let there = found_in s.called u.declarations d f in record { unit = u; is_module = unit_is modules s.home u e; stands = there.0; name = there.1 }

  declared_item : (s : Symbol) (d : Decl) → IsDeclaration modules (source s) d → declared_at s.called (unit_at modules s.home) ≡ Some d
  declared_item s d i =
      let f = finds_one s.called i.unit.declarations d i.stands i.name in
      let there = found_in s.called i.unit.declarations f.0 f.1 in
      let o = once_right (map local_name i.unit.imports) (map declared_name i.unit.declarations) (once_in modules root keep loaded s.home i.unit i.is_module) in
      let same : f.0 ≡ d = once_same declared_name i.unit.declarations o f.0 d there.0 i.stands (there.1 ∙ sym i.name) in
      ap (declared_at s.called) (unit_found modules root keep loaded s.home i.unit i.is_module) ∙ f.1 ∙ ap Some same

  denotes_from : (m : Path) (x : Name) (s : Symbol) (o : Option ModulePath) → path_at modules m ≡ o → denoted_from p x o ≡ Some s → Denotes modules m x (source s)
  denotes_from m x s None e f = absurd (cc)
  denotes_from m x s (Some path) e f = at (p.denotes path x) refl f
    where
      at : (o : Option PathSymbol) → p.denotes path x ≡ o → option_map texted o ≡ Some s → Denotes modules m x (source s)
      at None is g = absurd (cc)
      at (Some t) is g =
          let to : texted t ≡ s = cc in
          subst (λ z. Denotes modules z x (source s)) (path_is modules m path e).printed (subst (λ z. Denotes modules (path_text path) x (source z)) to (first.found path x t is))

  scope_of : (m : Path) (x : Name) (y : SourceSymbol) → Denotes modules m x y → (u : UnitTree) × IsModule modules m u
  scope_of m x _ (own {u = u} i d) = (u, i)
  scope_of m x y (imported i j d) = (i.is_import.unit, i.is_import.is_module)

  denoted_there : (m : Path) (x : Name) (s : Symbol) → Denotes modules m x (source s) → denoted_from p x (path_at modules m) ≡ Some s
  denoted_there m x s d =
      let i = (scope_of m x (source s) d).1 in
      let there = path_there modules m i.path (scope_of m x (source s) d).0 i.stands i.printed in
      let printed : path_text there.0 ≡ m = (path_is modules m there.0 there.1).printed in
      let f = first.finds there.0 x (source s) (subst (λ z. Denotes modules z x (source s)) (sym printed) d) in
      let to : texted f.0 ≡ s = ap (λ z. record { home = z.home; called = z.name }) f.2 in
      ap (denoted_from p x) there.1 ∙ ap (option_map texted) f.1 ∙ ap Some to

  printed_there : (s : Symbol) → Reached modules root keep (source s) → (b : Bool) → bytes_eq s.home root ≡ b → (o : Option ModulePath) → path_at modules s.home ≡ o → IsPrinted modules root (source s) (printed_from b o s.called)
  printed_there s r true e o f = subst (λ z. IsPrinted modules root (record { home = z; name = s.called }) s.called) (sym (same_bytes s.home root e)) stays
  printed_there s r false e (Some path) f =
      let there = path_is modules s.home path f in
      is_mangled (λ same. let t : bytes_eq s.home root ≡ true = ap (λ z. bytes_eq z root) same ∙ bytes_same root in absurd (cc)) there.stands there.printed
  printed_there s r false e None f =
      let i = (reached_declared modules root keep loaded (source s) r).1.is_module in
      let there = path_there modules s.home i.path (reached_declared modules root keep loaded (source s) r).1.unit i.stands i.printed in
      absurd (cc (f, there.1))

  all_texted : (hs : List PathSymbol) → map source (map texted hs) ≡ map source_symbol hs
  all_texted [] = refl
  all_texted (h ∷ hs) = ap (λ l. source_symbol h ∷ l) (all_texted hs)

  pub program_is : IsProgramIn modules root keep (program_by_texts modules root p)
  program_is = record {
    items = λ s d. (λ e. item_declares s d (unit_at modules s.home) refl e, declared_item s d);
    denotes = λ m x s. (λ e. denotes_from m x s (path_at modules m) refl e, denoted_there m x s);
    printed = λ s r. printed_there s r (bytes_eq s.home root) refl (path_at modules s.home) refl;
    held = record {
      order = first.held.order;
      in_order = first.held.in_order;
      are_held = subst (λ l. AreHeld modules root keep first.held.order l) (sym (all_texted p.held)) first.held.are_held;
    };
  }

pub linked_modules_have_one : LinkedModulesHaveOne
linked_modules_have_one modules root keep unit loaded linked =
    let f = have_a_program modules root keep loaded unit linked in (program_by_texts modules root f.0, program_is modules root keep loaded f.0 f.1)
