-- What is put at a name.
use Rattle.std.specs.Prelude.{ℕ, List, Option, Some, None}
use Rattle.std.specs.Option.{unwrap_or}
use Rattle.wgsl_path.specs.declared.path.ModulePath.{ModulePath}
use Rattle.wesl_marks_mut.specs.declared.script.New.{New}

abbrev pub without : Option ModulePath → Option (List ℕ) → Option ModulePath
without path None = path
without path (Some y) = None

abbrev pub put_path : Option ModulePath → Option New → Option ModulePath
put_path path None = path
put_path path (Some n) = without path n.name

abbrev pub put_name : List ℕ → Option New → List ℕ
put_name x None = x
put_name x (Some n) = unwrap_or n.name x
