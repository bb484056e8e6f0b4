-- The modules of a bundle, as a resolver holds them and as the calls find them.
use Rattle.std.specs.Prelude.{◌≡◌, ℕ, List, Option, option_map}
use Rattle.std.specs.List.{find}
use Rattle.std.specs.Str.{bytes_eq}
use Rattle.wgsl_path.specs.Paths.{path_text}
use Rattle.weslc_compile.specs.Stored.{text_at, found_in}
use Rattle.weslc_compile.specs.VirtualResolver.{VirtualResolver}
use Rattle.weslc_compile.specs.OfCore.{Finding}
use Rattle.weslc_bundle.specs.declared.request.Module.{Module}

-- the text of the module at a printed path; in a bundle no two are at one
abbrev pub text_in : List Module → List ℕ → Option (List ℕ)
text_in modules p = option_map (λ m. m.text) (find (λ m. bytes_eq (path_text m.path) p) modules)

-- A resolver holds these modules and no other.
abbrev pub Holds : VirtualResolver → List Module → Type 0
Holds resolver modules = (p : List ℕ) → text_at resolver p ≡ text_in modules p

-- the text at each printed path, if a module is there
abbrev pub Texts : Type 0
Texts = List ℕ → Option (List ℕ)

-- what is found at a path: nothing where no module is, else what its text says: a module, or its fault
abbrev pub found_by : Texts → Finding
found_by texts p a = found_in (texts (path_text p)) a
