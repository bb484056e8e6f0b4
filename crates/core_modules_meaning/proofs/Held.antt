-- Held symbols and the declarations of the linked unit.
use Rattle.std.proofs.Common.{◌≡◌, ◌≢◌, ◌⊎◌, inl, inr, Some, sym, ap, ◌∙◌, subst, List}
use Rattle.core_syntax.specs.Tree.{Decl, UnitTree}
use Rattle.core_syntax.specs.Names.{declared_name}
use Rattle.core_programs.specs.Names.{Name}
use Rattle.core_programs.specs.Runs.{find_decl}
use Rattle.core_link_spec.specs.Modules.{Path, Symbol, Modules, Reached}
use Rattle.core_link_spec.specs.Names.{IsPrinted}
use Rattle.core_link_spec.specs.Linked.{IsTaken}
use Rattle.core_modules_meaning.specs.SourcePrograms.{declared_symbol}
use Rattle.core_modules_meaning.specs.Runs.{AreLinkedWell}
use Rattle.core_modules_meaning.proofs.Symbols.{name_renamed, symbol_cases, found_in, named_as, Origin, origin}

module _ (modules : Modules) (root : Path) (keep : List Name) (unit : UnitTree) (well : AreLinkedWell modules root keep unit) where
  abbrev pub From : Decl → Type 0
  From e = Origin modules root keep well.loaded e

  -- the symbol that a declaration of the unit comes from
  abbrev pub symbol_of : (e : Decl) → From e → Symbol
  symbol_of e o = declared_symbol o.home o.declaration

  pub origin_printed : (e : Decl) (o : From e) → IsPrinted modules root (symbol_of e o) (declared_name e)
  origin_printed e o = subst (IsPrinted modules root (symbol_of e o)) (sym (name_renamed o.new o.declaration) ∙ ap declared_name o.is)
      (named_as modules root keep well.loaded o.home o.unit o.new o.declaration o.is_module o.naming o.stands)

  -- held symbols with one name are one
  pub held_once : (s t : Symbol) (y : Name) → Reached modules root keep s → Reached modules root keep t → IsPrinted modules root s y → IsPrinted modules root t y → s ≡ t
  held_once s t y r q a b = at (symbol_cases s t)
    where
      at : (s ≡ t) ⊎ (s ≢ t) → s ≡ t
      at (inl e) = e
      at (inr n) = absurd (well.clash_free.unshared y (record { one = s; other = t; differ = n; one_held = r; other_held = q; one_printed = a; other_printed = b }))

  -- what has a held symbol's name comes from its declaration
  pub origin_same : (s : Symbol) (e : Decl) → Reached modules root keep s → IsPrinted modules root s (declared_name e) → (o : From e) → symbol_of e o ≡ s
  origin_same s e r a o = held_once (symbol_of e o) s (declared_name e) o.reached r (origin_printed e o) a

  -- a name that is declared there is a held symbol's
  pub taken : (x : Name) (e : Decl) → find_decl x unit.declarations ≡ Some e → IsTaken modules root keep x
  taken x e f =
      let there = found_in x unit.declarations e f in
      let o = origin modules root keep well.loaded unit well.linked e there.0 in
      record { symbol = symbol_of e o; held = o.reached; printed = subst (IsPrinted modules root (symbol_of e o)) there.1 (origin_printed e o) }
