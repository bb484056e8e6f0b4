-- What an import of the part says in the whole language.
use Rattle.std.specs.Option.{option_map}
use Rattle.core_syntax.specs.declared.import.ImportContent.{ImportContent}
use Rattle.core_syntax.specs.declared.import.ImportContent.TheVariants.{Item}
use Rattle.wgsl_declarations.specs.ImportsTree.{Content, item}

abbrev pub content_widened : ImportContent → Content
content_widened (Item x) = item x.ident.name (option_map (λ r. r.name) x.rename)
