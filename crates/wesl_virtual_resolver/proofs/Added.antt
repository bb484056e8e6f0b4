-- Modules that are added one after another, as the map keeps them and as a list.
use Rattle.std.proofs.Common.{◌≡◌, refl, sym, ap, ◌∙◌, subst, ℕ, zero, suc, List, [], ◌∷◌, map, Bool, true, false, Some, Result, Ok, Err}
use Rattle.std.specs.Prelude.{if◌then◌else◌, string_bytes, OnOk, OnErr}
use Rattle.std.specs.Option.{option_map}
use Rattle.std.specs.Map.{lookup}
use Rattle.std.specs.Str.{bytes_eq}
use Rattle.std.specs.String.{string_eq}
use Rattle.std.specs.declared.string.String.{String}
use Rattle.std.specs.declared.alloc.Global.{Global}
use Rattle.std.proofs.lemmas.Bool.{false_from_ne_true}
use Rattle.std.proofs.lemmas.Slice.Eq.{bytes_eq-Decides}
use Rattle.indexmap.specs.IndexMap.{insert_entry}
use Rattle.wgsl_path.specs.declared.path.ModulePath.{ModulePath}
use Rattle.wgsl_path.specs.Paths.{path_text}
use Rattle.wesl_virtual_resolver.specs.Keyed.{AreKeyed}
use Rattle.wesl_virtual_resolver.specs.Stored.{path_and_text, Added, one_added, text_among}
use Rattle.wesl_virtual_resolver.specs.declared.resolver.VirtualModule.{VirtualModule}
use Rattle.wgsl_base.proofs.Members.{same_bytes as same_text}

abbrev pub Entry : Type 0
Entry = String Global × VirtualModule

-- the list that the entries of the map are
abbrev pub listed : List Entry → Added
listed es = map path_and_text (map (λ e. e.1) es)

turned : (x y : List ℕ) → bytes_eq x y ≡ bytes_eq y x
turned x y = by (bytes_eq x y) refl
  where
    by : (b : Bool) → bytes_eq x y ≡ b → b ≡ bytes_eq y x
    by true is = sym ((bytes_eq-Decides y x).1 (sym (same_text x y is)))
    by false is = sym (false_from_ne_true _ (λ other. (let both : true ≡ false = sym ((bytes_eq-Decides x y).1 (sym (same_text y x other))) ∙ is in absurd (cc))))

-- ---- each under its own printed path

pub none_keyed : AreKeyed []
none_keyed i key m at = absurd (cc)

one_more_keyed : (e : Entry) (es : List Entry) → string_bytes e.0 ≡ path_text e.1.path → AreKeyed es → AreKeyed (e ∷ es)
one_more_keyed e es here rest zero key m at = let same : e ≡ (key, m) = cc in subst (λ (x : Entry). string_bytes x.0 ≡ path_text x.1.path) same here
one_more_keyed e es here rest (suc i) key m at = rest i key m at

first_keyed : (e : Entry) (es : List Entry) → AreKeyed (e ∷ es) → string_bytes e.0 ≡ path_text e.1.path
first_keyed e es keyed = keyed 0 e.0 e.1 refl

rest_keyed : (e : Entry) (es : List Entry) → AreKeyed (e ∷ es) → AreKeyed es
rest_keyed e es keyed i key m at = keyed (suc i) key m at

pub inserted_keyed : (es : List Entry) (key : String Global) (m : VirtualModule) → string_bytes key ≡ path_text m.path → AreKeyed es → AreKeyed (insert_entry string_eq es key m)
inserted_keyed [] key m here keyed = one_more_keyed (key, m) [] here none_keyed
inserted_keyed (e ∷ es) key m here keyed = by (inserted_keyed es key m here (rest_keyed e es keyed)) (string_eq key e.0) refl
  where
    by : AreKeyed (insert_entry string_eq es key m) → (b : Bool) → string_eq key e.0 ≡ b → AreKeyed (if b then (e.0, m) ∷ es else e ∷ insert_entry string_eq es key m)
    by later true is = one_more_keyed (e.0, m) es (sym (same_text (string_bytes key) (string_bytes e.0) is) ∙ here) (rest_keyed e es keyed)
    by later false is = one_more_keyed e (insert_entry string_eq es key m) (first_keyed e es keyed) later

-- what an insertion leaves, whether memory is refused or not
pub kept_keyed : {A E : Type 0} (result : Result A E) (old new : List Entry) (key : String Global) (m : VirtualModule) → string_bytes key ≡ path_text m.path → AreKeyed old
    → OnOk result (new ≡ insert_entry string_eq old key m) → OnErr result (new ≡ old) → AreKeyed new
kept_keyed (Ok done) old new key m here keyed ok err = subst AreKeyed (sym ok) (inserted_keyed old key m here keyed)
kept_keyed (Err e) old new key m here keyed ok err = subst AreKeyed (sym err) keyed

-- ---- the list after an addition

pub inserted_listed : (es : List Entry) (key : String Global) (m : VirtualModule) → string_bytes key ≡ path_text m.path → AreKeyed es
    → listed (insert_entry string_eq es key m) ≡ one_added m.path m.text (listed es)
inserted_listed [] key m here keyed = refl
inserted_listed (e ∷ es) key m here keyed = by (inserted_listed es key m here (rest_keyed e es keyed)) (string_eq key e.0) refl
  where
    test : bytes_eq (path_text m.path) (path_text e.1.path) ≡ string_eq key e.0
    test = ap (λ t. bytes_eq t (path_text e.1.path)) (sym here) ∙ ap (bytes_eq (string_bytes key)) (sym (first_keyed e es keyed))

    by : listed (insert_entry string_eq es key m) ≡ one_added m.path m.text (listed es) → (b : Bool) → string_eq key e.0 ≡ b → listed (if b then (e.0, m) ∷ es else e ∷ insert_entry string_eq es key m)
        ≡ (if bytes_eq (path_text m.path) (path_text e.1.path) then path_and_text m ∷ listed es else path_and_text e.1 ∷ one_added m.path m.text (listed es))
    by later true is = sym (ap (λ b. if b then path_and_text m ∷ listed es else path_and_text e.1 ∷ one_added m.path m.text (listed es)) (test ∙ is))
    by later false is =
        ap (λ l. path_and_text e.1 ∷ l) later
        ∙ sym (ap (λ b. if b then path_and_text m ∷ listed es else path_and_text e.1 ∷ one_added m.path m.text (listed es)) (test ∙ is))

-- ---- what is found in the list

pub text_found : (es : List Entry) → AreKeyed es → (q : List ℕ) → option_map (λ m. m.text) (lookup (λ k. bytes_eq q (string_bytes k)) es) ≡ text_among (listed es) q
text_found [] keyed q = refl
text_found (e ∷ es) keyed q = by (text_found es (rest_keyed e es keyed) q) (bytes_eq q (string_bytes e.0)) refl
  where
    test : bytes_eq (path_text e.1.path) q ≡ bytes_eq q (string_bytes e.0)
    test = ap (λ t. bytes_eq t q) (sym (first_keyed e es keyed)) ∙ turned (string_bytes e.0) q

    by : option_map (λ m. m.text) (lookup (λ k. bytes_eq q (string_bytes k)) es) ≡ text_among (listed es) q → (b : Bool) → bytes_eq q (string_bytes e.0) ≡ b → option_map (λ m. m.text) (if b then Some e.1 else lookup (λ k. bytes_eq q (string_bytes k)) es)
        ≡ (if bytes_eq (path_text e.1.path) q then Some e.1.text else text_among (listed es) q)
    by later true is = sym (ap (λ b. if b then Some e.1.text else text_among (listed es) q) (test ∙ is))
    by later false is = later ∙ sym (ap (λ b. if b then Some e.1.text else text_among (listed es) q) (test ∙ is))

pub among_added : (path : ModulePath) (text : List ℕ) (ms : Added) (q : List ℕ) → text_among (one_added path text ms) q ≡ (if bytes_eq (path_text path) q then Some text else text_among ms q)
among_added path text [] q = refl
among_added path text (m ∷ ms) q = by (bytes_eq (path_text path) (path_text m.0)) (bytes_eq (path_text path) q) (bytes_eq (path_text m.0) q) refl refl refl (among_added path text ms q)
  where
    by : (b c d : Bool) → bytes_eq (path_text path) (path_text m.0) ≡ b → bytes_eq (path_text path) q ≡ c → bytes_eq (path_text m.0) q ≡ d
        → text_among (one_added path text ms) q ≡ (if c then Some text else text_among ms q)
        → text_among (if b then (path, text) ∷ ms else m ∷ one_added path text ms) q ≡ (if c then Some text else (if d then Some m.1 else text_among ms q))
    by true true d f g h rest = ap (λ c. if c then Some text else text_among ms q) g
    by true false true f g h rest = let same : path_text path ≡ q = same_text (path_text path) (path_text m.0) f ∙ same_text (path_text m.0) q h in let both : true ≡ false = sym ((bytes_eq-Decides (path_text path) q).1 same) ∙ g in absurd (cc)
    by true false false f g h rest = ap (λ c. if c then Some text else text_among ms q) g
    by false true true f g h rest = let same : path_text path ≡ path_text m.0 = same_text (path_text path) q g ∙ sym (same_text (path_text m.0) q h) in let both : true ≡ false = sym ((bytes_eq-Decides (path_text path) (path_text m.0)).1 same) ∙ f in absurd (cc)
    by false true false f g h rest = ap (λ d. if d then Some m.1 else text_among (one_added path text ms) q) h ∙ rest
    by false false true f g h rest = ap (λ d. if d then Some m.1 else text_among (one_added path text ms) q) h
    by false false false f g h rest = ap (λ d. if d then Some m.1 else text_among (one_added path text ms) q) h ∙ rest
