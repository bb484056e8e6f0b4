-- What is printed of a unit.
use Rattle.std.proofs.Common.{◌≡◌, sym, ap, ◌∙◌, subst, ℕ, List, map, Option, Result, Ok, Err, String}
use Rattle.std.specs.Prelude.{string_bytes}
use Rattle.std.specs.declared.alloc.Global.{Global}
use Rattle.wgsl_declarations.specs.Tree as whole
use Rattle.core_syntax.specs.Tree.{UnitTree}
use Rattle.core_widening.specs.Widening.{widen_decl, widen_unit}
use Rattle.core_widening.proofs.Alike.{unit_alike}
use Rattle.wgsl_check_unit.specs.declared.error.Unprintable.TheVariants as told
use Rattle.wgsl_check_unit.specs.Telling as check
use Rattle.core_texts.specs.declared.error.PrintError.TheVariants as refusal
use Rattle.core_texts.specs.Texts.{Prints}
use Rattle.core_texts.proofs.Told.{named_of_none}

pub printed : (u : UnitTree) (m : whole.UnitTree) (text : String Global) → m ≡ widen_unit u → check.Prints m (Ok text) → Prints u (Ok text)
printed u m text same h =
    let P : whole.UnitTree → Type 0 = λ z. check.Prints z (Ok text) in
    let there = subst P same h in
    (there.0 ∙ unit_alike u, there.1)

pub refused : (u : UnitTree) (m : whole.UnitTree) (name : Option (List ℕ)) → m ≡ widen_unit u → check.IsRefused m (told.Node name) → Prints u (Err (refusal.Unprintable name))
refused u m name same h =
    let P : whole.UnitTree → Type 0 = λ z. check.IsRefused z (told.Node name) in
    let there = subst P same h in
    let Q : Option (List ℕ) → Type 0 = λ z. check.IsTold (map widen_decl u.declarations) z in
    record { no_text = there.0; told = subst Q (named_of_none there.1.2) there.1.1 }
