-- What holds of the values of a map, after one key is changed.
use Rattle.std.proofs.Common.{◌≡◌, refl, sym, ap, ◌∙◌, subst, ℕ, List, Bool, true, false, Option, Some, None, Result, Ok, Err}
use denote.Ref.{Bor}
use Rattle.std.specs.Prelude.{if◌then◌else◌, string_bytes, IfSome, OnOk, OnErr}
use Rattle.std.specs.Option.{is_some, option_copied}
use Rattle.std.specs.Map.{lookup}
use Rattle.std.specs.HashMap.{HashMap, get_by_text, UpdatesBy}
use Rattle.std.specs.Str.{bytes_eq}
use Rattle.std.specs.String.{string_eq}
use Rattle.std.specs.declared.string.String.{String}
use Rattle.std.specs.declared.alloc.Global.{Global}
use Rattle.std.proofs.lemmas.Map.Text.{hash_map_updates_text}
use Rattle.wgsl_base.proofs.Members.{same_bytes as same_text}
use Rattle.weslc_workspace.specs.Outcome.{IsToldOf}
use Rattle.weslc_workspace.specs.Told.{AreTold, AreOfTexts}
use Rattle.weslc_workspace.specs.declared.parse.Parse.{Parse}
use Rattle.weslc_workspace.specs.declared.parse.ParsedText.{ParsedText}

-- only the value at this text is changed, to this one or to none
abbrev pub ChangesAt : {X S : Type 0} → List ℕ → HashMap (String Global) X S → HashMap (String Global) X S → Option X → Type 0
ChangesAt p m n w = UpdatesBy string_eq (λ k. bytes_eq p (string_bytes k)) m n w

-- what is found after a change
pub found : {X S : Type 0} (p : List ℕ) (m n : HashMap (String Global) X S) (w : Option X) → ChangesAt p m n w
    → (q : List ℕ) → get_by_text n q ≡ (if bytes_eq p q then w else get_by_text m q)
found p m n w changed q = hash_map_updates_text p m n w changed q

-- what holds of all values holds after a change, if it holds of the new one
pub kept : {X S : Type 0} (P : List ℕ → X → Type 0) (p : List ℕ) (m n : HashMap (String Global) X S) (w : Option X) → ChangesAt p m n w
    → ((x : X) → w ≡ Some x → P p x) → ((q : List ℕ) (x : X) → get_by_text m q ≡ Some x → P q x) → (q : List ℕ) (x : X) → get_by_text n q ≡ Some x → P q x
kept P p m n w changed here all q x at = by (bytes_eq p q) refl (sym (found p m n w changed q) ∙ at)
  where
    by : (b : Bool) → bytes_eq p q ≡ b → (if b then w else get_by_text m q) ≡ Some x → P q x
    by true same is = subst (λ s. P s x) (same_text p q same) (here x is)
    by false other is = all q x is

-- a text is set and is not parsed
pub told_when_set : {S T : Type 0} (p : List ℕ) (texts after : HashMap (String Global) (List ℕ) S) (parsed left : HashMap (String Global) Parse T) (w : Option (List ℕ))
    → ChangesAt p texts after w → ChangesAt p parsed left None → AreTold texts parsed → AreTold after left
told_when_set p texts after parsed left w set dropped told q x at = by (bytes_eq p q) (sym (found p parsed left None dropped q) ∙ at) (found p texts after w set q)
  where
    by : (b : Bool) → (if b then None else get_by_text parsed q) ≡ Some x → get_by_text after q ≡ (if b then w else get_by_text texts q) → IsToldOf (get_by_text after q) x.outcome
    by true is there = (let wrong : None ≡ Some x = is in absurd (cc))
    by false is there = subst (λ o. IsToldOf o x.outcome) (sym there) (told q x is)

-- what the parser tells of the text there is kept
pub told_when_parsed : {S T : Type 0} (p : List ℕ) (texts : HashMap (String Global) (List ℕ) S) (parsed more : HashMap (String Global) Parse T) (x : Parse)
    → ChangesAt p parsed more (Some x) → IsToldOf (get_by_text texts p) x.outcome → AreTold texts parsed → AreTold texts more
told_when_parsed p texts parsed more x changed told all = kept (λ q y. IsToldOf (get_by_text texts q) y.outcome) p parsed more (Some x) changed here all
  where
    here : (y : Parse) → Some x ≡ Some y → IsToldOf (get_by_text texts p) y.outcome
    here y same = let one : x ≡ y = cc in subst (λ (z : Parse). IsToldOf (get_by_text texts p) z.outcome) one told

-- the same, beside the text
pub of_texts_when_kept : {S T : Type 0} (p : List ℕ) (texts : HashMap (String Global) (List ℕ) S) (fresh more : HashMap (String Global) ParsedText T) (x : ParsedText)
    → ChangesAt p fresh more (Some x) → IsToldOf (get_by_text texts p) x.parse.outcome → AreOfTexts texts fresh → AreOfTexts texts more
of_texts_when_kept p texts fresh more x changed told all = kept (λ q y. IsToldOf (get_by_text texts q) y.parse.outcome) p fresh more (Some x) changed here all
  where
    here : (y : ParsedText) → Some x ≡ Some y → IsToldOf (get_by_text texts p) y.parse.outcome
    here y same = let one : x ≡ y = cc in subst (λ (z : ParsedText). IsToldOf (get_by_text texts p) z.parse.outcome) one told

-- ---- what was told, where the entries stay

pub same_found : {X S : Type 0} (m n : HashMap (String Global) X S) → n.entries ≡ m.entries → (p : List ℕ) → get_by_text n p ≡ get_by_text m p
same_found m n same p = ap (lookup (λ k. bytes_eq p (string_bytes k))) same

pub told_when_same : {S T : Type 0} (texts after : HashMap (String Global) (List ℕ) S) (parsed left : HashMap (String Global) Parse T)
    → after.entries ≡ texts.entries → left.entries ≡ parsed.entries → AreTold texts parsed → AreTold after left
told_when_same texts after parsed left same equal told p x at =
    subst (λ o. IsToldOf o x.outcome) (sym (same_found texts after same p)) (told p x (sym (same_found parsed left equal p) ∙ at))

pub of_texts_when_same : {S T : Type 0} (texts : HashMap (String Global) (List ℕ) S) (fresh more : HashMap (String Global) ParsedText T) → more.entries ≡ fresh.entries → AreOfTexts texts fresh → AreOfTexts texts more
of_texts_when_same texts fresh more same all p x at = all p x (sym (same_found fresh more same p) ∙ at)

-- the same after an insertion that may be refused
pub of_texts_when_inserted : {S T A E : Type 0} (result : Result A E) (p : List ℕ) (texts : HashMap (String Global) (List ℕ) S) (fresh more : HashMap (String Global) ParsedText T) (x : ParsedText)
    → OnOk result (ChangesAt p fresh more (Some x)) → OnErr result (more.entries ≡ fresh.entries) → IsToldOf (get_by_text texts p) x.parse.outcome → AreOfTexts texts fresh → AreOfTexts texts more
of_texts_when_inserted (Ok a) p texts fresh more x changed same told all = of_texts_when_kept p texts fresh more x changed told all
of_texts_when_inserted (Err e) p texts fresh more x changed same told all = of_texts_when_same texts fresh more same all

-- what is found was told
pub told_of : {S T : Type 0} (texts : HashMap (String Global) (List ℕ) S) (parsed : HashMap (String Global) Parse T) (r : Option (Bor Parse)) (p : List ℕ)
    → option_copied r ≡ get_by_text parsed p → AreTold texts parsed → IfSome r (λ x. IsToldOf (get_by_text texts p) x.now.outcome)
told_of texts parsed None p is told = tt
told_of texts parsed (Some x) p is told = told p x.now (sym is)

-- what has no text was not parsed
pub not_parsed : {S T : Type 0} (texts : HashMap (String Global) (List ℕ) S) (parsed : HashMap (String Global) Parse T) (p : List ℕ)
    → AreTold texts parsed → get_by_text texts p ≡ None → get_by_text parsed p ≡ None
not_parsed texts parsed p told none = by (get_by_text parsed p) refl
  where
    by : (o : Option Parse) → get_by_text parsed p ≡ o → o ≡ None
    by None is = refl
    by (Some x) is = let wrong : false ≡ true = sym (ap is_some none) ∙ (told p x is).0 in absurd (cc)

-- ---- what a removal leaves

-- nothing is taken where nothing is
pub none_set : {X S : Type 0} (p : List ℕ) (m : HashMap (String Global) X S) → get_by_text m p ≡ None → (q : List ℕ) → get_by_text m q ≡ (if bytes_eq p q then None else get_by_text m q)
none_set p m none q = by (bytes_eq p q) refl
  where
    by : (b : Bool) → bytes_eq p q ≡ b → get_by_text m q ≡ (if b then None else get_by_text m q)
    by true same = subst (λ r. get_by_text m r ≡ None) (same_text p q same) none
    by false other = refl

-- the same of whether something is there
pub dropped : {X S : Type 0} (p : List ℕ) (m n : HashMap (String Global) X S) (q : List ℕ) → get_by_text n q ≡ (if bytes_eq p q then None else get_by_text m q)
    → is_some (get_by_text n q) ≡ (if bytes_eq p q then false else is_some (get_by_text m q))
dropped p m n q is = by (bytes_eq p q) is
  where
    by : (b : Bool) → get_by_text n q ≡ (if b then None else get_by_text m q) → is_some (get_by_text n q) ≡ (if b then false else is_some (get_by_text m q))
    by true is = ap is_some is
    by false is = ap is_some is
