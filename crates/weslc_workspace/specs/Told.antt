-- The invariants of what was parsed.
use Rattle.std.specs.Prelude.{◌≡◌, ℕ, List, Some}
use Rattle.std.specs.HashMap.{HashMap, get_by_text}
use Rattle.std.specs.declared.string.String.{String}
use Rattle.std.specs.declared.alloc.Global.{Global}
use Rattle.weslc_workspace.specs.Outcome.{IsToldOf}
use Rattle.weslc_workspace.specs.declared.parse.Parse.{Parse}
use Rattle.weslc_workspace.specs.declared.parse.ParsedText.{ParsedText}

-- what is kept is what the parser tells of the text there
abbrev pub AreTold : {S T : Type 0} → HashMap (String Global) (List ℕ) S → HashMap (String Global) Parse T → Type 0
AreTold texts parsed = (p : List ℕ) (x : Parse) → get_by_text parsed p ≡ Some x → IsToldOf (get_by_text texts p) x.outcome

-- the same, beside the text
abbrev pub AreOfTexts : {S T : Type 0} → HashMap (String Global) (List ℕ) S → HashMap (String Global) ParsedText T → Type 0
AreOfTexts texts fresh = (p : List ℕ) (x : ParsedText) → get_by_text fresh p ≡ Some x → IsToldOf (get_by_text texts p) x.parse.outcome
