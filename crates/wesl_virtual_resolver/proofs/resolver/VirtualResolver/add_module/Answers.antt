-- The map changes at the printed path alone, and the list at the place of the first addition.
use Rattle.std.proofs.Common.{rules, ◌≡◌, ap, ◌∙◌}
use Rattle.std.specs.String.{string_bytes}
use Rattle.wgsl_path.specs.Paths.{path_text}
use Rattle.wesl_virtual_resolver.specs.Stored.{texts_added, text_among}
use Rattle.wesl_virtual_resolver.proofs.Added.{listed, kept_keyed, inserted_listed, among_added}
use Rattle.wesl_virtual_resolver.proofs.resolver.VirtualResolver.add_module.Goals as goal

pub invariant_of-self : goal.invariant_of-self
invariant_of-self c =
    let key : string_bytes c.in_ok-key.key ≡ path_text c.args.path = search (rules, c.in_ok-key.ensures.ok) in
    record {
      keyed = kept_keyed c.insert.result c.args.self.now.modules.entries c.insert.new.self.entries c.in_ok-key.key (record { path = c.args.path; text = c.args.text }) key c.args.self.now.keyed
          c.insert.ensures.entries c.insert.ensures.err;
    }

pub returns-clause-listed : goal.returns-clause-listed
returns-clause-listed c =
    let key : string_bytes c.in_ok-key.key ≡ path_text c.args.path = search (rules, c.in_ok-key.ensures.ok) in
    ap listed c.in_ok-insert.ensures.entries
    ∙ inserted_listed c.args.self.now.modules.entries c.in_ok-key.key (record { path = c.args.path; text = c.args.text }) key c.args.self.now.keyed

pub returns-clause-added : goal.returns-clause-added
returns-clause-added c q =
    let key : string_bytes c.in_ok-key.key ≡ path_text c.args.path = search (rules, c.in_ok-key.ensures.ok) in
    ap (λ es. text_among (listed es) q) c.in_ok-insert.ensures.entries
    ∙ ap (λ ms. text_among ms q) (inserted_listed c.args.self.now.modules.entries c.in_ok-key.key (record { path = c.args.path; text = c.args.text }) key c.args.self.now.keyed)
    ∙ among_added c.args.path c.args.text (texts_added c.args.self.now) q
