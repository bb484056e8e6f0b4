-- A text that is read as a path is what that path is printed as.
use Rattle.std.proofs.Common.{◌≡◌, refl, sym, ap, ◌∙◌, ℕ, suc, List, [], ◌∷◌, ◌++◌, codes, Bool, true, false, Ok, Err, if◌then◌else◌, ◌&&◌, ◌==◌, append_assoc}
use Rattle.std.specs.Str.{bytes_eq}
use Rattle.std.proofs.lemmas.List.{append-nil}
use Rattle.std.proofs.lemmas.Bool.Decides.{Decides-eqb}
use Rattle.wgsl_base.proofs.Members.{same_bytes as same_text}
use Rattle.wgsl_path.specs.declared.path.PathOrigin.{PathOrigin}
use Rattle.wgsl_path.specs.declared.path.PathOrigin.TheVariants.{Absolute, Relative, Package}
use Rattle.wgsl_path.specs.declared.path.ModulePath.{ModulePath}
use Rattle.wgsl_path.specs.Paths.{supers, origin_text, components_text, path_text}
use Rattle.wgsl_path.specs.declared.reading.ModulePathParseError.TheVariants.{Empty, MisplacedPackage, MisplacedSelf, MisplacedSuper}
use Rattle.wgsl_path.specs.Reading.{parts_behind, parts, PathResult, component_of, components_of, then_read, path_behind, path_above, path_of}

-- parts, with `::` between
abbrev joined : List (List ℕ) → List ℕ
joined [] = []
joined (part ∷ rest) = part ++ components_text rest

abbrev behind_mark : List (List ℕ) → List ℕ
behind_mark [] = []
behind_mark (part ∷ rest) = codes "::" ++ joined (part ∷ rest)

marked : (ps : List (List ℕ)) → components_text ps ≡ behind_mark ps
marked [] = refl
marked (part ∷ rest) = append_assoc (codes "::") part (components_text rest)

both : (c d : ℕ) → ((c == 58) && (d == 58)) ≡ true → (c ≡ 58) × (d ≡ 58)
both c d e = ((Decides-eqb c 58).0 (split (c == 58) (d == 58) e).0, (Decides-eqb d 58).0 (split (c == 58) (d == 58) e).1)
  where
    split : (a b : Bool) → (a && b) ≡ true → (a ≡ true) × (b ≡ true)
    split true b e = (refl, e)
    split false b e = cc

-- there is a first part
some_parts : (p t : List ℕ) → (first : List ℕ) × (rest : List (List ℕ)) × (parts_behind p t ≡ first ∷ rest)
some_parts p [] = (p, [], refl)
some_parts p (c ∷ []) = (p ++ c ∷ [], [], refl)
some_parts p (c ∷ d ∷ cs) = by ((c == 58) && (d == 58)) (some_parts (p ++ c ∷ []) (d ∷ cs))
  where
    by : (b : Bool) → (first : List ℕ) × (rest : List (List ℕ)) × (parts_behind (p ++ c ∷ []) (d ∷ cs) ≡ first ∷ rest)
        → (first : List ℕ) × (rest : List (List ℕ)) × ((if b then p ∷ parts_behind [] cs else parts_behind (p ++ c ∷ []) (d ∷ cs)) ≡ first ∷ rest)
    by true later = (p, parts_behind [] cs, refl)
    by false later = later

-- the parts of a text, joined, are the text
parts_joined : (p t : List ℕ) → joined (parts_behind p t) ≡ p ++ t
parts_joined p [] = refl
parts_joined p (c ∷ []) = append-nil (p ++ c ∷ [])
parts_joined p (c ∷ d ∷ cs) = by ((c == 58) && (d == 58)) refl (parts_joined [] cs) (parts_joined (p ++ c ∷ []) (d ∷ cs))
  where
    cut : joined (parts_behind [] cs) ≡ cs → behind_mark (parts_behind [] cs) ≡ codes "::" ++ cs
    cut later =
        let some = some_parts [] cs in
        ap behind_mark some.2 ∙ ap (λ t. codes "::" ++ t) (sym (ap joined some.2) ∙ later)

    by : (b : Bool) → ((c == 58) && (d == 58)) ≡ b → joined (parts_behind [] cs) ≡ cs → joined (parts_behind (p ++ c ∷ []) (d ∷ cs)) ≡ (p ++ c ∷ []) ++ d ∷ cs
        → joined (if b then p ∷ parts_behind [] cs else parts_behind (p ++ c ∷ []) (d ∷ cs)) ≡ p ++ c ∷ d ∷ cs
    by true is later next =
        let colons = both c d is in
        ap (λ t. p ++ t) (marked (parts_behind [] cs) ∙ cut later ∙ ap (λ x. x ∷ 58 ∷ cs) (sym colons.0) ∙ ap (λ x. c ∷ x ∷ cs) (sym colons.1))
    by false is later next = next ∙ append_assoc p (c ∷ []) (d ∷ cs)

-- ---- what is read of parts

one_read : (part name : List ℕ) → component_of part ≡ Ok name → name ≡ part
one_read part name = by (bytes_eq part (codes "")) (bytes_eq part (codes "package")) (bytes_eq part (codes "self")) (bytes_eq part (codes "super"))
  where
    by : (a b c d : Bool) → (if a then Err Empty else if b then Err MisplacedPackage else if c then Err MisplacedSelf else if d then Err MisplacedSuper else Ok part) ≡ Ok name → name ≡ part
    by true b c d is = absurd (cc)
    by false true c d is = absurd (cc)
    by false false true d is = absurd (cc)
    by false false false true is = absurd (cc)
    by false false false false is = let same : part ≡ name = cc in sym same

all_read : (ps names : List (List ℕ)) → components_of ps ≡ Ok names → names ≡ ps
all_read [] names is = let same : [] ≡ names = cc in sym same
all_read (part ∷ rest) names is = by (λ others more. all_read rest others more) (component_of part) refl (components_of rest) refl is
  where
    by : ((others : List (List ℕ)) → components_of rest ≡ Ok others → others ≡ rest) → (one : PathResult (List ℕ)) → component_of part ≡ one
        → (more : PathResult (List (List ℕ))) → components_of rest ≡ more → then_read one (λ name. then_read more (λ names. Ok (name ∷ names))) ≡ Ok names → names ≡ part ∷ rest
    by later (Ok name) one (Ok others) more is =
        let same : name ∷ others ≡ names = cc in
        sym same ∙ ap (λ n. n ∷ others) (one_read part name one) ∙ ap (λ ns. part ∷ ns) (later others more)
    by later (Ok name) one (Err e) more is = absurd (cc)
    by later (Err e) one more rests is = absurd (cc)

behind_read : (origin : PathOrigin) (rest : List (List ℕ)) (q : ModulePath) → path_behind origin rest ≡ Ok q → path_text q ≡ origin_text origin ++ components_text rest
behind_read origin rest q = by (components_of rest) refl
  where
    by : (more : PathResult (List (List ℕ))) → components_of rest ≡ more → then_read more (λ components. Ok (record { origin = origin; components = components })) ≡ Ok q
        → path_text q ≡ origin_text origin ++ components_text rest
    by (Ok names) more is =
        let same : record { origin = origin; components = names } ≡ q = cc in
        ap path_text (sym same) ∙ ap (λ ns. origin_text origin ++ components_text ns) (all_read rest names more)
    by (Err e) more is = absurd (cc)

-- behind so many `super`
above_read : (n : ℕ) (ps : List (List ℕ)) (q : ModulePath) → path_above (suc n) ps ≡ Ok q → path_text q ≡ (codes "super" ++ supers n) ++ components_text ps
above_read n [] q is = behind_read (Relative (suc n)) [] q is
above_read n (part ∷ rest) q is = by (λ more. above_read (suc n) rest q more) (bytes_eq part (codes "super")) refl is
  where
    by : (path_above (suc (suc n)) rest ≡ Ok q → path_text q ≡ (codes "super" ++ supers (suc n)) ++ components_text rest) → (b : Bool) → bytes_eq part (codes "super") ≡ b → (if b then path_above (suc (suc n)) rest else path_behind (Relative (suc n)) (part ∷ rest)) ≡ Ok q
        → path_text q ≡ (codes "super" ++ supers n) ++ components_text (part ∷ rest)
    by later true same is =
        let text : part ≡ codes "super" = same_text part (codes "super") same in
        later is
        ∙ ap (λ t. t ++ components_text rest) (sym (append_assoc (codes "super") (supers n) (codes "::super")))
        ∙ append_assoc (codes "super" ++ supers n) (codes "::super") (components_text rest)
        ∙ ap (λ (t : List ℕ). (codes "super" ++ supers n) ++ ((codes "::" ++ t) ++ components_text rest)) (sym text)
    by later false other is = behind_read (Relative (suc n)) (part ∷ rest) q is

parts_read : (ps : List (List ℕ)) (q : ModulePath) → path_of ps ≡ Ok q → path_text q ≡ joined ps
parts_read [] q is = absurd (cc)
parts_read (part ∷ rest) q is =
    by (bytes_eq part (codes "")) (bytes_eq part (codes "package")) refl (bytes_eq part (codes "self")) refl (bytes_eq part (codes "super")) refl is
  where
    by : (a b : Bool) → bytes_eq part (codes "package") ≡ b → (c : Bool) → bytes_eq part (codes "self") ≡ c → (d : Bool) → bytes_eq part (codes "super") ≡ d
        → (if a then Err Empty else if b then path_behind Absolute rest else if c then path_behind (Relative 0) rest else if d then path_above 1 rest else path_behind (Package part) rest) ≡ Ok q
        → path_text q ≡ part ++ components_text rest
    by true b _ c _ d _ is = absurd (cc)
    by false true same c _ d _ is = behind_read Absolute rest q is ∙ ap (λ (t : List ℕ). t ++ components_text rest) (sym (same_text part (codes "package") same))
    by false false _ true same d _ is = behind_read (Relative 0) rest q is ∙ ap (λ (t : List ℕ). t ++ components_text rest) (sym (same_text part (codes "self") same))
    by false false _ false _ true same is =
        above_read 0 rest q is ∙ ap (λ (t : List ℕ). t ++ components_text rest) (append-nil (codes "super") ∙ sym (same_text part (codes "super") same))
    by false false _ false _ false _ is = behind_read (Package part) rest q is

pub printed_as_read : (text : List ℕ) (q : ModulePath) → path_of (parts text) ≡ Ok q → path_text q ≡ text
printed_as_read text q is = parts_read (parts text) q is ∙ parts_joined [] text
