-- A mangled name is its parts, each behind `_`; an item is its parts.
use denote.Ref.{Bor}
use Rattle.std.proofs.Common.{◌≡◌, Option, Some, ℕ, suc, ◌≤◌, ◌^◌, List, [], ◌∷◌, ◌++◌, length, refl, sym, ap, ap₂, ◌∙◌, arith, append_assoc}
use Rattle.std.specs.List.{AllByRecursion}
use Rattle.std.proofs.lemmas.List.{same_from_push}
use Rattle.std.proofs.lemmas.Grind.{flat_map-append}
use Rattle.std.proofs.lemmas.List.Elements.{recursion_from_All}
use Rattle.wgsl_path.specs.declared.path.PathOrigin.{PathOrigin}
use Rattle.wgsl_path.specs.declared.path.PathOrigin.TheVariants.{Absolute, Relative, Package}
use Rattle.wgsl_path.specs.declared.path.ModulePath.{ModulePath}
use Rattle.wesl_resolve.specs.Mangling.{escaped, escaped_parts, mangled, mangled_origin}
use Rattle.wesl_resolve.specs.Unmangling.{IsPlainName, IsPlainOrigin, IsPlainItem, IsParts, IsFirstPart, IsRead, origin_name, parts_of}
use Rattle.wesl_resolve.specs.Laws.{MangledOnce}
use Rattle.wesl_resolve.proofs.Reading.{same_parts, parts_Ends}

pub escaped_origin : (origin : PathOrigin) → IsPlainOrigin origin → mangled_origin origin ≡ escaped (origin_name origin)
escaped_origin Absolute plain = refl
escaped_origin (Relative levels) plain = absurd plain
escaped_origin (Package name) plain = refl

pub mangled_parts : (path : ModulePath) (item : List ℕ) → IsPlainOrigin path.origin → 95 ∷ mangled path item ≡ escaped_parts (parts_of path item)
mangled_parts path item plain =
    ap (λ s. 95 ∷ s) (append_assoc (mangled_origin path.origin) (escaped_parts path.components) (escaped_parts (item ∷ [])))
    ∙ ap (λ s. 95 ∷ (s ++ (escaped_parts path.components ++ escaped_parts (item ∷ [])))) (escaped_origin path.origin plain)
    ∙ sym (ap (λ s. 95 ∷ (escaped (origin_name path.origin) ++ s)) (flat_map-append (λ part. 95 ∷ escaped part) path.components (item ∷ [])))

pub plain_origin_name : (origin : PathOrigin) → IsPlainOrigin origin → IsPlainName (origin_name origin)
plain_origin_name Absolute plain = (λ e. cc, refl)
plain_origin_name (Relative levels) plain = absurd plain
plain_origin_name (Package name) plain = plain.0

plain_push : (parts : List (List ℕ)) (item : List ℕ) → AllByRecursion IsPlainName parts → IsPlainName item → AllByRecursion IsPlainName (parts ++ item ∷ [])
plain_push [] item plain last = (last, tt)
plain_push (part ∷ parts) item plain last = (plain.0, plain_push parts item plain.1 last)

pub plain_parts : (path : ModulePath) (item : List ℕ) → IsPlainItem path item → AllByRecursion IsPlainName (parts_of path item)
plain_parts path item plain = (plain_origin_name path.origin plain.origin, plain_push path.components item (recursion_from_All IsPlainName path.components plain.components) plain.item_name)

-- a plain origin is known by its name
same_origin : (o p : PathOrigin) → IsPlainOrigin o → IsPlainOrigin p → origin_name o ≡ origin_name p → o ≡ p
same_origin Absolute Absolute plain_o plain_p e = refl
same_origin Absolute (Package name) plain_o plain_p e = absurd (plain_p.1 (sym e))
same_origin Absolute (Relative levels) plain_o plain_p e = absurd plain_p
same_origin (Package name) Absolute plain_o plain_p e = absurd (plain_o.1 e)
same_origin (Package name) (Package other) plain_o plain_p e = ap (λ n. Package n) e
same_origin (Package name) (Relative levels) plain_o plain_p e = absurd plain_p
same_origin (Relative levels) p plain_o plain_p e = absurd plain_o

same_path : (p q : ModulePath) → p.origin ≡ q.origin → p.components ≡ q.components → p ≡ q
same_path p q origins components = let made : PathOrigin → List (List ℕ) → ModulePath = λ o c. record { origin = o; components = c } in ap₂ made origins components

pub same_item : (p q : ModulePath) (i j : List ℕ) → IsPlainItem p i → IsPlainItem q j → parts_of p i ≡ parts_of q j → (p ≡ q) × (i ≡ j)
same_item p q i j plain_p plain_q e =
    let names : origin_name p.origin ≡ origin_name q.origin = cc in
    let behind : p.components ++ i ∷ [] ≡ q.components ++ j ∷ [] = cc in
    let both = same_from_push p.components q.components i j behind in
    (same_path p q (same_origin p.origin q.origin plain_p.origin plain_q.origin names) both.0, both.1)

pub mangled_once : MangledOnce
mangled_once p q i j plain_p plain_q short e =
    let of_p = mangled_parts p i plain_p.origin in
    let of_q = mangled_parts q j plain_q.origin in
    let same : escaped_parts (parts_of p i) ≡ escaped_parts (parts_of q j) = sym of_p ∙ ap (λ s. 95 ∷ s) e ∙ of_q in
    let size : suc (length (mangled p i)) ≡ length (escaped_parts (parts_of p i)) = ap length of_p in
    let fits : length (escaped_parts (parts_of p i)) ≤ 2 ^ 64 = omega (arith, size, short) in
    same_item p q i j plain_p plain_q (same_parts (parts_of p i) (parts_of q j) (plain_parts p i plain_p) (plain_parts q j plain_q) fits same)

-- a mangled name begins with its origin
pub first_named : (path : ModulePath) (item name : List ℕ) (answer : Option (List ℕ × Option (Bor (List ℕ)))) → IsFirstPart name answer → IsPlainItem path item → name ≡ mangled path item
    → IsRead (origin_name path.origin) (escaped_parts (path.components ++ item ∷ [])) answer
first_named path item name answer reads plain is =
    let parts = mangled_parts path item plain.origin in
    let inner : mangled path item ≡ escaped (origin_name path.origin) ++ escaped_parts (path.components ++ item ∷ []) = cc in
    reads (origin_name path.origin) (escaped_parts (path.components ++ item ∷ [])) (plain_origin_name path.origin plain.origin) (parts_Ends (path.components ++ item ∷ [])) (is ∙ inner)

-- behind it stand the components and the item
pub rest_named : (path : ModulePath) (item text : List ℕ) (answer : Option (List (List ℕ))) → IsParts text answer → IsPlainItem path item → text ≡ escaped_parts (path.components ++ item ∷ []) → answer ≡ Some (path.components ++ item ∷ [])
rest_named path item text answer reads plain is = reads (path.components ++ item ∷ []) (plain_parts path item plain).1 is

pub some_behind : {X : Type 0} (xs : List X) (y : X) → [] ≡ xs ++ y ∷ [] → ⊥
some_behind [] y e = cc
some_behind (x ∷ xs) y e = cc

pub whole_item : (path : ModulePath) (item last : List ℕ) (origin : PathOrigin) (components : List (List ℕ)) → origin ≡ path.origin → path.components ++ item ∷ [] ≡ components ++ last ∷ []
    → ◌≡◌ {A = ModulePath × List ℕ} (record { origin = origin; components = components }, last) (path, item)
whole_item path item last origin components origins behind =
    let both = same_from_push path.components components item last behind in
    let made : PathOrigin → List (List ℕ) → List ℕ → ModulePath × List ℕ = λ o c i. (record { origin = o; components = c }, i) in
    ap (λ o. made o components last) origins ∙ ap₂ (λ c i. made path.origin c i) (sym both.0) (sym both.1)
