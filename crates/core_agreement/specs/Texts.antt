-- Texts that are answered for the same units, and for texts with the same tokens.
use Rattle.std.specs.Prelude.{◌≡◌, ⊤, ℕ, List, Option, Some, None}
use Rattle.core_texts.specs.Laws.{HaveSameTokens}
use Rattle.core_link_spec.specs.Occurrences.{Name}
use Rattle.core_link_spec.specs.Modules.{Path}
use Rattle.core_link_spec.specs.Rounds.{Sources}
use Rattle.core_link_spec.specs.Named.{ImportsAreApart}
use Rattle.weslc_errors.specs.Answers.{IsLinkedText, IsCompiledText}
use Rattle.weslc_errors.specs.Stored.{text_at, found_in}
use Rattle.weslc_errors.specs.declared.resolver.VirtualResolver.{VirtualResolver}
use Rattle.weslc_errors.specs.Asked.{IsAskedOf}
use Rattle.core_agreement.specs.Asked.{HasAskedUnits}

-- Where other sources have each unit that is asked of one, one text is answered.
abbrev pub CompiledTextsAreOne : Sources → Sources → Type 0
CompiledTextsAreOne found other = ImportsAreApart found → (root : Path) (asked : List Name) (max steps : ℕ)
    → HasAskedUnits found root asked max other → (one two : List ℕ) → IsCompiledText found root asked max steps one → IsCompiledText other root asked max steps two
    → one ≡ two

abbrev pub LinkedTextsAreOne : Sources → Sources → Type 0
LinkedTextsAreOne found other = ImportsAreApart found → (root : Path) (asked : List Name) (max : ℕ)
    → HasAskedUnits found root asked max other → (one two : List ℕ) → IsLinkedText found root asked max one → IsLinkedText other root asked max two
    → one ≡ two

-- ---- texts that were handed in

-- what a resolver of handed-in texts finds
abbrev pub added : VirtualResolver → Sources
added r p a = found_in (text_at r p) a

-- Their imports are told apart by their printed paths.
abbrev pub AddedImportsAreApart : Type 0
AddedImportsAreApart = (r : VirtualResolver) → ImportsAreApart (added r)

-- no text in both, or texts with the same tokens
abbrev pub AreOfSameTokens : Option (List ℕ) → Option (List ℕ) → Type 0
AreOfSameTokens None None = ⊤
AreOfSameTokens (Some one) (Some other) = HaveSameTokens one other
AreOfSameTokens None (Some other) = ⊥
AreOfSameTokens (Some one) None = ⊥

-- two resolvers have texts with the same tokens at each path that is asked of the one
abbrev pub HaveTheSameTokens : VirtualResolver → VirtualResolver → Path → List Name → ℕ → Type 0
HaveTheSameTokens one other root asked max = (p : Path) → IsAskedOf (added one) root asked max p → AreOfSameTokens (text_at one p) (text_at other p)

-- Texts of modules with the same tokens are compiled to one text, and linked to one.
abbrev pub SameTokensCompileAlike : Type 0
SameTokensCompileAlike = (one other : VirtualResolver) (root : Path) (asked : List Name) (max steps : ℕ) → HaveTheSameTokens one other root asked max
    → (text more : List ℕ) → IsCompiledText (added one) root asked max steps text → IsCompiledText (added other) root asked max steps more → text ≡ more

abbrev pub SameTokensLinkAlike : Type 0
SameTokensLinkAlike = (one other : VirtualResolver) (root : Path) (asked : List Name) (max : ℕ) → HaveTheSameTokens one other root asked max
    → (text more : List ℕ) → IsLinkedText (added one) root asked max text → IsLinkedText (added other) root asked max more → text ≡ more
