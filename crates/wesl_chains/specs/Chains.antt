-- Chains of published imports: from a name that is sought in a module to where it stands (WESL, "Imports"). What a module does not declare
-- is sought on in its published imports.
use Rattle.std.specs.Prelude.{◌≡◌, ℕ, List, [], ◌∷◌, ◌++◌, Option, Some, None, if◌then◌else◌}
use Rattle.wgsl_path.specs.declared.path.ModulePath.{ModulePath}
use Rattle.wgsl_path.specs.Paths.{path_text}
use Rattle.wesl_chains.specs.Outlines.{Name, Path, Symbol, Item, Use, Outline, Finder, item_named, place_of}
use Rattle.wesl_chains.specs.Senses.{sense, own, imported, bare}

-- what a module has under a name that is sought there
pub data Step : Type 0 where
  -- a declaration, at this place
  stands : ℕ → Step
  -- a published import of an item of another module
  leads : Symbol → Step
  -- nothing, or a published import of one bare name
  lacks : Step
  -- an import that is not published
  hides : Step
  -- the module is not loaded
  unknown : Step

abbrev pub base_step : Option ModulePath → Name → Step
base_step None x = lacks
base_step (Some p) x = leads (record { home = path_text p; name = x })

abbrev pub item_step : Option Item → Step
item_step None = lacks
item_step (Some i) = if i.is_published then base_step i.base i.last else hides

abbrev pub name_step : Outline → Name → Option ℕ → Step
name_step o x (Some k) = stands k
name_step o x None = item_step (item_named x o.items)

abbrev pub step_in : Name → Option Outline → Step
step_in x None = unknown
step_in x (Some o) = name_step o x (place_of x o)

abbrev pub next : Finder → Symbol → Step
next find s = step_in s.name (find s.home)

-- what comes of a chain
pub data Outcome : Type 0 where
  declared_at : Path → ℕ → Outcome
  -- a name in a module that is not loaded
  unloaded : Symbol → Outcome
  -- names that denote nothing
  missing : Symbol → Outcome
  private : Symbol → Outcome

-- where a step is the last one: what comes of it, and the module that is passed there
abbrev pub outcome_at : Symbol → Step → Option (List Path × Outcome)
outcome_at s (stands k) = Some (s.home ∷ [], declared_at s.home k)
outcome_at s (leads t) = None
outcome_at s lacks = Some ([], missing s)
outcome_at s hides = Some ([], private s)
outcome_at s unknown = Some ([], unloaded s)

module _ (find : Finder) where
  -- a finite chain, by imports of these modules
  pub data Leads : Symbol → List Path → Symbol → Type 0 where
    here : {s : Symbol} → Leads s [] s
    onto : {s t u : Symbol} {ps : List Path} → next find s ≡ leads t → Leads t ps u → Leads s (s.home ∷ ps) u

  -- the chain never ends: it comes to a symbol from which it comes back there
  pub record Loops (s : Symbol) : Type 0 where
    pub there : Symbol
    pub before : List Path
    pub onward : Leads s before there
    pub first : Path
    pub more : List Path
    pub back : Leads there (first ∷ more) there

  -- What the chain from a symbol comes to, and the modules that it passes. One that never ends passes none, and its first symbol is missing.
  pub data Ends (s : Symbol) : List Path → Outcome → Type 0 where
    comes_to : {t : Symbol} {ps more : List Path} {o : Outcome} → Leads s ps t → outcome_at t (next find t) ≡ Some (more, o) → Ends s (ps ++ more) o
    is_endless : Loops s → Ends s [] (missing s)

  -- What a name denotes that is used in the module at a path: its own declaration, or what a chain comes to, or as an import of one bare
  -- name nothing. (A free name denotes nothing of modules, and is no fault.)
  pub data Denotes (m : Path) (o : Outline) (u : Use) : List Path → Outcome → Type 0 where
    by_own : {k : ℕ} → sense o u ≡ own k → Denotes m o u (m ∷ []) (declared_at m k)
    by_item : {s : Symbol} {ps : List Path} {r : Outcome} → sense o u ≡ imported s → Ends s ps r → Denotes m o u ps r
    by_bare : {x : Name} → sense o u ≡ bare x → Denotes m o u [] (missing (record { home = m; name = x }))
