-- What the tables of loaded modules say of their outlines.
use Rattle.std.specs.Prelude.{◌≡◌, ⊤, ℕ, ◌<◌, length, Option, Some, None, slice_get}
use Rattle.std.specs.BTreeMap.{get_by_text}
use Rattle.wesl_module_index.specs.declared.module.Module.{Module}
use Rattle.wesl_module_index.specs.declared.modules.Modules.{Modules}
use Rattle.wesl_module_index.specs.declared.modules.DeclarationId.{DeclarationId}
use Rattle.wesl_chains.specs.Outlines.{Path, Use, Outline, Finder}
use Rattle.wesl_module_index.specs.Counts.{home_in}
use Rattle.wesl_module_index.specs.Tables.{IsTabled, place_number, use_at}

-- ---- modules by number and by path

-- the printed path of the module of a number
abbrev pub home_of : Modules → ℕ → Option Path
home_of ms n = home_in ms.list.items n

abbrev pub numbered_module : Modules → Option ℕ → Option Module
numbered_module ms None = None
numbered_module ms (Some n) = slice_get ms.list.items n

-- the module at a printed path
abbrev pub module_at : Modules → Path → Option Module
module_at ms p = numbered_module ms (get_by_text ms.numbers p)

-- ---- what they say

abbrev pub AreSame : Option Module → Option Outline → Type 0
AreSame None None = ⊤
AreSame None (Some o) = ⊥
AreSame (Some m) None = ⊥
AreSame (Some m) (Some o) = IsTabled m o

-- the modules are those that are found, each at its printed path, and their tables say these outlines
abbrev pub AreTabled : Modules → Finder → Type 0
AreTabled ms find = (p : Path) → AreSame (module_at ms p) (find p)

-- ---- numbers

abbrev pub place_in : Option Module → ℕ → ℕ
place_in None k = 0
place_in (Some m) k = place_number m.places.items k

-- the place of a spot, as the outline counts places
abbrev pub place_at : Modules → DeclarationId → ℕ
place_at ms spot = place_in (slice_get ms.list.items spot.«module») spot.place

-- A reference of the module of this number is this use, in the module at this path, which has this outline.
pub record IsUse (ms : Modules) (find : Finder) (number reference : ℕ) (p : Path) (o : Outline) (u : Use) : Type 0 where
  pub table : Module
  pub is_there : slice_get ms.list.items number ≡ Some table
  pub is_numbered : get_by_text ms.numbers p ≡ Some number
  pub is_module : find p ≡ Some o
  pub within : reference < length table.list.references.keys
  pub is_use : use_at table.list reference ≡ u
