use Rattle.std.proofs.Common.{rules, ◌≡◌, refl, subst, [], ◌∷◌, ◌++◌, length, List, ℕ, Err}
use Rattle.std.proofs.lemmas.Result.{err_from_is_err_and}
use Rattle.wesl_module_index.specs.declared.module.Meaning.TheVariants.{Imported}
use Rattle.wesl_module_index.specs.Naming.{Adds, IsAdded, item_behind, local_of}
use Rattle.wesl_module_index.proofs.Items.{item_gathered, item_refused}
use Rattle.wesl_module_index.proofs.imports.Names.add_item.Goals as goal

pub returns-in_err-add-clause-gathers : goal.returns-in_err-add-clause-gathers
returns-in_err-add-clause-gathers c =
    let p = err_from_is_err_and c.from_residual.result c.from_residual.ensures.1 in
    rw (p.1, p.2)
    (item_refused c.args.self.now (item_behind c.args.is_published c.args.«module».now c.args.item.now) c.in_err-add.field-0.0
    (subst (λ (x : List ℕ). Adds c.args.self.now x (Imported c.len-number.result) (Err c.in_err-add.field-0.0) c.add.new.self) c.local_name.ensures c.in_err-add.ensures))

pub returns-clause-gathers : goal.returns-clause-gathers
returns-clause-gathers c =
    let count : c.len-number.result ≡ length c.args.self.now.items.items = search rules in
    let added : IsAdded c.args.self.now (local_of c.args.item.now) (Imported c.len-number.result) c.add.new.self
    = subst (λ (x : List ℕ). IsAdded c.args.self.now x (Imported c.len-number.result) c.add.new.self) c.local_name.ensures c.in_ok-add.ensures in
    let pushed : c.push.new.self.items ≡ c.add.new.self.items.items ++ record { «module» = c.in_ok-module.«module»; name = c.in_ok-name.name; is_published = c.args.is_published } ∷ [] = search rules in
    let last : c.in_ok-name.name ≡ c.args.item.now.ident.name = search rules in
    item_gathered c.args.self.now c.add.new.self _ (item_behind c.args.is_published c.args.«module».now c.args.item.now) c.in_ok-module.«module»
    (record { «module» = c.in_ok-module.«module»; name = c.in_ok-name.name; is_published = c.args.is_published })
    (subst (λ (n : ℕ). IsAdded c.args.self.now (local_of c.args.item.now) (Imported n) c.add.new.self) count added)
    c.in_ok-module.ensures.path c.in_ok-module.ensures.scope c.in_ok-module.ensures.more pushed refl last refl c.in_ok-module.ensures.number
