use Rattle.std.proofs.Common.{◌≡◌, sym, ap, ◌∙◌, [], ◌∷◌, List, ℕ, Some, Bor}
use Rattle.std.specs.Prelude.{string_bytes}
use Rattle.std.specs.Option.{option_map}
use Rattle.wgsl_path.specs.declared.path.ModulePath.{ModulePath}
use Rattle.wgsl_path.specs.Joining.{with_names}
use Rattle.wgsl_path.specs.Paths.{path_text}
use Rattle.wesl_chains.specs.Senses.{item_as_module}
use Rattle.wesl_module_index.specs.declared.target.Target.{Target}
use Rattle.wesl_module_index.proofs.Bits.{if_ok}
use Rattle.wesl_module_index.proofs.Sensing.{behind_target}
use Rattle.wesl_module_index.proofs.target.ImportItem.whole_path.Goals as goal

pub returns-in_ok-clone_in-in-Some : goal.returns-in_ok-clone_in-in-Some
returns-in_ok-clone_in-in-Some c = λ base e.
    let printed : Some (string_bytes c.in-Some.target.now.printed_path) ≡ option_map path_text base
    = sym (ap (option_map (λ (t : Bor Target). string_bytes t.now.printed_path)) c.in-Some.is) ∙ e in
    if_ok c.with_name.result (λ path. path ≡ with_names c.in_ok-clone_in-in-Some.field-0 (c.in_ok-name-in-Some.name ∷ [])) (λ path. path_text path ≡ path_text (item_as_module base c.args.self.now.name))
    (λ path is.
    ap path_text is
    ∙ ap (λ (p : ModulePath). path_text (with_names p (c.in_ok-name-in-Some.name ∷ []))) c.in_ok-clone_in-in-Some.ensures
    ∙ ap (λ (x : List ℕ). path_text (with_names c.in-Some.target.now.path (x ∷ []))) c.in_ok-name-in-Some.ensures
    ∙ behind_target c.in-Some.target.now.path (string_bytes c.in-Some.target.now.printed_path) base c.args.self.now.name c.in-Some.target.now.printed printed)
    c.with_name.ensures
