-- What is answered for handed-in texts counts their tokens alone.
use Rattle.std.proofs.Common.{◌≡◌, List, ℕ, Option, Some, None, sym, ap, ◌∙◌}
use Rattle.core_syntax.specs.Tree.{UnitTree}
use Rattle.core_texts.specs.Texts.{IsTextOf, IsUnitOfCore}
use Rattle.core_texts.specs.Laws.{HaveSameTokens}
use Rattle.core_texts.proofs.Whole.{texts_have_one_unit, texts_are_one_thing, same_tokens_are_the_same_unit, imports_of_texts_are_apart}
use Rattle.wesl_resolve.specs.Found.{Answer, unit_of, not_found, faulty, unsupported}
use Rattle.core_link_spec.specs.Occurrences.{Name}
use Rattle.core_link_spec.specs.Modules.{Path}
use Rattle.core_modules_meaning.specs.Determined.{IsFunctional}
use Rattle.weslc_errors.specs.Stored.{text_at, Says, SaysOnly, found_in}
use Rattle.weslc_errors.specs.declared.resolver.VirtualResolver.{VirtualResolver}
use Rattle.core_agreement.specs.Asked.{HasAskedUnits}
use Rattle.core_agreement.specs.Texts.{added, AreOfSameTokens, HaveTheSameTokens, AddedImportsAreApart, SameTokensCompileAlike, SameTokensLinkAlike}
use Rattle.core_agreement.proofs.Texts.{compiled_texts_are_one, linked_texts_are_one}

-- ---- what is found

-- at each path one answer
found_once : (o : Option (List ℕ)) (a b : Answer) → found_in o a → found_in o b → a ≡ b
found_once None a b is it = is ∙ sym it
found_once (Some text) a b is it = it.only a is.says

added_once : (r : VirtualResolver) → IsFunctional (added r)
added_once r p = found_once (text_at r p)

-- a unit by its text
found_text : (o : Option (List ℕ)) (u : UnitTree) → found_in o (unit_of u) → (text : List ℕ) × IsTextOf u text
found_text None u is = absurd (cc)
found_text (Some text) u is = (text, is.says.is_text)

-- ---- texts with the same tokens

says_too : (one other : List ℕ) → HaveSameTokens one other → (u : UnitTree) → SaysOnly one (unit_of u) → SaysOnly other (unit_of u)
says_too one other same u s = record { says = is; only = only }
  where
    is : IsUnitOfCore other u
    is = record { is_text = same_tokens_are_the_same_unit one other same u s.says.is_text; in_core = s.says.in_core }

    only : (b : Answer) → Says other b → b ≡ unit_of u
    only (unit_of v) it = ap unit_of (texts_have_one_unit other v u it.is_text is.is_text)
    only not_found none = absurd none
    only (faulty e) fault = absurd (texts_are_one_thing.1 other u e is fault)
    only unsupported beyond = absurd (texts_are_one_thing.0 other u is beyond)

found_too : (o p : Option (List ℕ)) → AreOfSameTokens o p → (u : UnitTree) → found_in o (unit_of u) → found_in p (unit_of u)
found_too None None same u is = is
found_too None (Some other) same u is = absurd same
found_too (Some one) None same u is = absurd same
found_too (Some one) (Some other) same u is = says_too one other same u is

has_units : (one other : VirtualResolver) (root : Path) (asked : List Name) (max : ℕ) → HaveTheSameTokens one other root asked max → HasAskedUnits (added one) root asked max (added other)
has_units one other root asked max same p asks u is = found_too (text_at one p) (text_at other p) (same p asks) u is

-- ---- the laws

pub added_imports_are_apart : AddedImportsAreApart
added_imports_are_apart r p q u v a b found it names other printed =
    let one = found_text (text_at r p) u found in
    let two = found_text (text_at r q) v it in
    imports_of_texts_are_apart one.0 two.0 u v one.1 two.1 names.import other.import a b names.stands other.stands names.is_path other.is_path printed

pub same_tokens_compile_alike : SameTokensCompileAlike
same_tokens_compile_alike one other root asked max steps same =
    compiled_texts_are_one (added one) (added other) (added_once other) (added_imports_are_apart one) root asked max steps (has_units one other root asked max same)

pub same_tokens_link_alike : SameTokensLinkAlike
same_tokens_link_alike one other root asked max same =
    linked_texts_are_one (added one) (added other) (added_once other) (added_imports_are_apart one) root asked max (has_units one other root asked max same)
