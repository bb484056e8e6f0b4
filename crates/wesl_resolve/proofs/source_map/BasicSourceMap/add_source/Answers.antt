use Rattle.std.proofs.Common.{◌≡◌, Some, rules}
use Rattle.std.specs.Option.{option_map, option_and_then}
use Rattle.std.specs.String.{string_bytes}
use Rattle.wgsl_path.specs.Paths.{path_text}
use Rattle.wesl_resolve.proofs.Maps.{set_by_insert}
use Rattle.wesl_resolve.proofs.source_map.BasicSourceMap.add_source.Goals as goal

pub returns-clause-text : goal.returns-clause-text
returns-clause-text c =
    let key : string_bytes c.in_ok-to_string.field-0 ≡ path_text c.args.path.now = search (rules, c.in_ok-to_string.ensures.ok) in
    set_by_insert (option_map (λ s. s.text)) c.args.self.now.sources c.insert.new.self c.in_ok-to_string.field-0 (path_text c.args.path.now) (Some (record { text = c.args.text; display_name = c.args.display_name })) key c.in_ok-insert.ensures.updates

pub returns-clause-display_name : goal.returns-clause-display_name
returns-clause-display_name c =
    let key : string_bytes c.in_ok-to_string.field-0 ≡ path_text c.args.path.now = search (rules, c.in_ok-to_string.ensures.ok) in
    set_by_insert (option_and_then (λ s. s.display_name)) c.args.self.now.sources c.insert.new.self c.in_ok-to_string.field-0 (path_text c.args.path.now) (Some (record { text = c.args.text; display_name = c.args.display_name })) key c.in_ok-insert.ensures.updates
