use Rattle.std.proofs.Common.{◌≡◌, Some, rules, subst}
use Rattle.std.specs.Option.{option_map}
use Rattle.std.specs.String.{string_bytes}
use Rattle.wesl_resolve.specs.declared.source_map.BasicSourceMap.{BasicSourceMap}
use Rattle.wesl_resolve.specs.SourceMaps.{decl_at, IsSet}
use Rattle.wesl_resolve.proofs.Maps.{set_by_insert}
use Rattle.wesl_resolve.proofs.source_map.BasicSourceMap.add_decl.Goals as goal

pub returns-clause-recorded : goal.returns-clause-recorded
returns-clause-recorded c =
    let key : string_bytes c.in_ok-key.key ≡ c.args.decl.now = search (rules, c.in_ok-key.ensures.ok) in
    let new : BasicSourceMap = record { alloc = c.args.self.now.alloc; decls = c.insert.new.self; sources = c.args.self.now.sources; default_source = c.args.self.now.default_source } in
    let set = set_by_insert (option_map (λ d. (d.«module», d.item))) c.args.self.now.decls c.insert.new.self c.in_ok-key.key c.args.decl.now
    (Some (record { «module» = c.in_ok-module.«module»; item = c.in_ok-item.item })) key c.in_ok-insert.ensures.updates in
    let same_module = subst (λ m. IsSet (decl_at c.args.self.now) c.args.decl.now (Some (m, c.in_ok-item.item)) (decl_at new)) c.in_ok-module.ensures set in
    subst (λ i. IsSet (decl_at c.args.self.now) c.args.decl.now (Some (c.args.«module».now, i)) (decl_at new)) c.in_ok-item.ensures same_module
