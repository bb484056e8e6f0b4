-- Laws of occurrences.
use Rattle.std.specs.Prelude.{◌≡◌, List}
use Rattle.std.specs.List.{Contains}
use Rattle.wgsl_skeleton.specs.Skeleton.{Name, Node}
use Rattle.wgsl_skeleton.specs.Occurrences.{Occurrence, occurrences, outside}
use Rattle.wgsl_skeleton.specs.Renaming.{Naming, renamed}

-- Two namings that agree on what occurs and is no local's rename alike: renaming looks at nothing else.
abbrev pub RenamingLooksAtOccurrences : Type 0
RenamingLooksAtOccurrences = (f g : Naming) (locals : List Name) (n : Node)
    → ((o : Occurrence) → Contains (outside (occurrences locals n)) o → f o.path o.name ≡ g o.path o.name) → renamed f locals n ≡ renamed g locals n
