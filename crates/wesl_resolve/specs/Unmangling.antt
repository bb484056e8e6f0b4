-- The items that can be read back from their mangled names, and what parts such a name has.
use denote.Ref.{Bor}
use Rattle.std.specs.Prelude.{◌≡◌, ◌≢◌, ℕ, ◌<◌, ◌^◌, List, [], ◌∷◌, ◌++◌, codes, Option, Some, None, false, All, ⊤}
use Rattle.std.specs.Char.{is_ascii_digit}
use Rattle.std.specs.Fmt.{decimal}
use Rattle.std.specs.List.{AllByRecursion}
use Rattle.wgsl_path.specs.declared.path.PathOrigin.{PathOrigin}
use Rattle.wgsl_path.specs.declared.path.PathOrigin.TheVariants.{Absolute, Relative, Package}
use Rattle.wgsl_path.specs.declared.path.ModulePath.{ModulePath}
use Rattle.wesl_resolve.specs.Mangling.{underscores, escaped, escaped_parts, mangled}

-- it does not begin with an ASCII digit
abbrev pub BeginsNoDigit : List ℕ → Type 0
BeginsNoDigit [] = ⊤
BeginsNoDigit (first ∷ _) = is_ascii_digit first ≡ false

-- a name that is told from the count before it and from the `_` behind it: not empty, and no digit first
abbrev pub IsPlainName : List ℕ → Type 0
IsPlainName name = (name ≢ []) × BeginsNoDigit name

-- an origin that is not relative; a package of its own is not called `package`
abbrev pub IsPlainOrigin : PathOrigin → Type 0
IsPlainOrigin Absolute = ⊤
IsPlainOrigin (Relative _) = ⊥
IsPlainOrigin (Package name) = IsPlainName name × (name ≢ codes "package")

-- an item of a module, all of whose names are plain
pub record IsPlainItem (path : ModulePath) (item : List ℕ) : Type 0 where
  pub origin : IsPlainOrigin path.origin
  pub components : All IsPlainName path.components
  pub item_name : IsPlainName item

-- the first part of a mangled name
abbrev pub origin_name : PathOrigin → List ℕ
origin_name Absolute = codes "package"
origin_name (Relative _) = []
origin_name (Package name) = name

-- the parts of a mangled name
abbrev pub parts_of : ModulePath → List ℕ → List (List ℕ)
parts_of path item = origin_name path.origin ∷ (path.components ++ item ∷ [])

-- what stands behind a part: nothing, or `_` and a rest
abbrev pub behind : Option (Bor (List ℕ)) → List ℕ
behind None = []
behind (Some rest) = 95 ∷ rest.now

-- what a mangled name is read back as: the item with plain names that it is the name of, where there is one
abbrev pub IsUnmangled : List ℕ → Option (ModulePath × List ℕ) → Type 0
IsUnmangled name answer = (path : ModulePath) (item : List ℕ) → IsPlainItem path item → name ≡ mangled path item → answer ≡ Some (path, item)

-- the plain parts that a text is made of, each behind `_`
abbrev pub IsParts : List ℕ → Option (List (List ℕ)) → Type 0
IsParts text answer = (parts : List (List ℕ)) → AllByRecursion IsPlainName parts → text ≡ escaped_parts parts → answer ≡ Some parts

-- nothing, or `_` first
abbrev pub Ends : List ℕ → Type 0
Ends [] = ⊤
Ends (first ∷ _) = first ≡ 95

-- a part and what stands behind it were read
abbrev pub IsRead : List ℕ → List ℕ → Option (List ℕ × Option (Bor (List ℕ))) → Type 0
IsRead part after None = ⊥
IsRead part after (Some read) = (read.0 ≡ part) × (behind read.1 ≡ after)

-- the plain part that a text begins with
abbrev pub IsFirstPart : List ℕ → Option (List ℕ × Option (Bor (List ℕ))) → Type 0
IsFirstPart text answer = (part after : List ℕ) → IsPlainName part → Ends after → text ≡ escaped part ++ after → IsRead part after answer

-- a text cut before the first underscore past so many, or at its end; it may have fewer
abbrev pub IsCutAfter : ℕ → List ℕ → Option (List ℕ × Option (Bor (List ℕ))) → Type 0
IsCutAfter count text None = underscores text < count
IsCutAfter count text (Some read) = (text ≡ read.0 ++ behind read.1) × (underscores read.0 ≡ count)

-- a number and what stands behind it were read
abbrev pub IsCounted : ℕ → List ℕ → Option (ℕ × Bor (List ℕ)) → Type 0
IsCounted count after None = ⊥
IsCounted count after (Some read) = (read.0 ≡ count) × (read.1.now ≡ after)

-- the decimal number that a text begins with
abbrev pub IsFirstCount : List ℕ → Option (ℕ × Bor (List ℕ)) → Type 0
IsFirstCount text answer = (count : ℕ) (after : List ℕ) → count < 2 ^ 64 → BeginsNoDigit after → text ≡ decimal count ++ after → IsCounted count after answer
