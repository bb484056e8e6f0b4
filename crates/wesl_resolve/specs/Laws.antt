-- Laws of mangled names.
use Rattle.std.specs.Prelude.{◌≡◌, ℕ, ◌<◌, ◌^◌, List, length}
use Rattle.wgsl_path.specs.declared.path.ModulePath.{ModulePath}
use Rattle.wesl_resolve.specs.Mangling.{mangled}
use Rattle.wesl_resolve.specs.Unmangling.{IsPlainItem}

-- Items with one mangled name (of a length that memory can hold) are one item.
abbrev pub MangledOnce : Type 0
MangledOnce = (p q : ModulePath) (i j : List ℕ) → IsPlainItem p i → IsPlainItem q j → length (mangled p i) < 2 ^ 64 → mangled p i ≡ mangled q j → (p ≡ q) × (i ≡ j)
