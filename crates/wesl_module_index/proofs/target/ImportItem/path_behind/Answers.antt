use Rattle.std.proofs.Common.{◌≡◌, ap, ◌∙◌, List, ℕ}
use Rattle.wgsl_path.specs.Joining.{with_names}
use Rattle.wgsl_path.specs.Paths.{path_text}
use Rattle.wesl_chains.specs.Senses.{item_as_module}
use Rattle.wesl_module_index.proofs.Bits.{if_ok}
use Rattle.wesl_module_index.proofs.Sensing.{same_text}
use Rattle.wesl_module_index.proofs.target.ImportItem.path_behind.Goals as goal

pub returns : goal.returns
returns c = λ base e.
    if_ok c.join.result (λ path. path ≡ with_names c.in_ok-whole_path.field-0 c.in_ok-names.names) (λ path. path_text path ≡ path_text (with_names (item_as_module base c.args.self.now.name) c.args.names.now))
    (λ path is.
    ap path_text is
    ∙ ap (λ (ns : List (List ℕ)). path_text (with_names c.in_ok-whole_path.field-0 ns)) c.in_ok-names.ensures
    ∙ same_text c.in_ok-whole_path.field-0 (item_as_module base c.args.self.now.name) c.args.names.now (c.in_ok-whole_path.ensures base e))
    c.join.ensures
