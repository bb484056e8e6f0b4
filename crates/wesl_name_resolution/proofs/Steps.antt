-- The steps of tables are those of the outlines that they say.
use Rattle.std.proofs.Common.{◌≡◌, refl, sym, ap, ◌∙◌, subst, Option, Some, None, Bool, true, false}
use Rattle.std.specs.Prelude.{if◌then◌else◌, ℕ, List}
use Rattle.std.specs.Option.{option_map}
use Rattle.std.specs.HashMap.{get_by_text}
use Rattle.wgsl_path.specs.declared.path.ModulePath.{ModulePath}
use Rattle.wgsl_path.specs.Paths.{path_text}
use Rattle.wesl_module_index.specs.declared.module.Meaning.{Meaning}
use Rattle.wesl_module_index.specs.declared.module.Meaning.TheVariants.{Declared, Imported}
use Rattle.wesl_module_index.specs.declared.module.Module.{Module}
use Rattle.wesl_module_index.specs.declared.modules.Modules.{Modules}
use Rattle.wesl_module_index.specs.Tables.{Import, import_of, symbol_named, import_at, place_said, item_said, place_number, IsTabled}
use Rattle.wesl_module_index.specs.Loaded.{module_at, AreSame, AreTabled}
use Rattle.wesl_chains.specs.Outlines.{Name, Symbol, Item, Outline, Finder, item_named, place_of}
use Rattle.wesl_chains.specs.Chains as c
use Rattle.wesl_chains.specs.Chains.{Step, stands, leads, lacks, hides, unknown, step_in, name_step, next}
use Rattle.wesl_name_resolution.specs.declared.denote.Step as code
use Rattle.wesl_name_resolution.specs.Links.{symbol_step, item_step, meaning_step, module_step, next_in, step_of}

base_same : (b : Option ModulePath) (x : Name) → symbol_step (option_map (λ p. let s : Symbol = record { home = p; name = x } in s) (option_map path_text b)) ≡ c.base_step b x
base_same None x = refl
base_same (Some p) x = refl

published_same : (p : Bool) (b : Option ModulePath) (x : Name) → (if p then symbol_step (option_map (λ p. let s : Symbol = record { home = p; name = x } in s) (option_map path_text b)) else hides) ≡ (if p then c.base_step b x else hides)
published_same true b x = base_same b x
published_same false b x = refl

item_same : (i : Option Item) → item_step (option_map import_of i) ≡ c.item_step i
item_same None = refl
item_same (Some i) = published_same i.is_published i.base i.last

meaning_same : (m : Module) (o : Outline) (x : Name) (g : Option Meaning) → place_said m g ≡ place_of x o → item_said m g ≡ option_map import_of (item_named x o.items) → meaning_step m g ≡ name_step o x (place_of x o)
meaning_same m o x None d i = ap item_step i ∙ item_same (item_named x o.items) ∙ ap (name_step o x) d
meaning_same m o x (Some (Declared k)) d i = ap (name_step o x) d
meaning_same m o x (Some (Imported n)) d i = ap item_step i ∙ item_same (item_named x o.items) ∙ ap (name_step o x) d

module_same : (x : Name) (m : Option Module) (o : Option Outline) → AreSame m o → module_step x m ≡ step_in x o
module_same x None None t = refl
module_same x None (Some o) t = absurd t
module_same x (Some m) None t = absurd t
module_same x (Some m) (Some o) t = meaning_same m o x (get_by_text m.scope x) (t.declared x) (t.imported x)

pub next_same : (ms : Modules) (find : Finder) → AreTabled ms find → (s : Symbol) → next_in ms s ≡ next find s
next_same ms find t s = module_same s.name (module_at ms s.home) (find s.home) (t s.home)

pub found : (ms : Modules) (x : code.Step) (s : Symbol) → step_of ms x ≡ next_in ms s → (find : Finder) → AreTabled ms find → step_of ms x ≡ next find s
found ms x s e find t = e ∙ next_same ms find t s
