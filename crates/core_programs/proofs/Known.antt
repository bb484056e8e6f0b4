-- Known values with one more at the end.
use Rattle.std.proofs.Common.{◌≡◌, [], ◌∷◌, ◌++◌, Option, Some, None, Bool, true, false, refl}
use Rattle.std.specs.Prelude.{if◌then◌else◌}
use Rattle.wgsl_instance.specs.declared.tree.Instance.{Instance}
use Rattle.core_programs.specs.Names.{Symbol, is_same}
use Rattle.core_programs.specs.Programs.{Known, find_known}

abbrev pub or_if : Option Instance → Bool → Instance → Option Instance
or_if (Some x) b v = Some x
or_if None b v = if b then Some v else None

pub find_behind : (s : Symbol) (known : Known) (t : Symbol) (v : Instance) → find_known s (known ++ (t, v) ∷ []) ≡ or_if (find_known s known) (is_same s t) v
find_behind s [] t v = refl
find_behind s (b ∷ bs) t v = at (is_same s b.0) (find_behind s bs t v)
  where
    at : (c : Bool) → find_known s (bs ++ (t, v) ∷ []) ≡ or_if (find_known s bs) (is_same s t) v → (if c then Some b.1 else find_known s (bs ++ (t, v) ∷ [])) ≡ or_if (if c then Some b.1 else find_known s bs) (is_same s t) v
    at true more = refl
    at false more = more
