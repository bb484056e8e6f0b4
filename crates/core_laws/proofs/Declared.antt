-- The lowered unit declares the held functions.
use Rattle.std.proofs.Common.{◌≡◌, ◌⊎◌, inl, inr, ℕ, List, [], ◌∷◌, map, Option, true, false, Result, Ok, Err, refl, sym, ap, ◌∙◌, subst, Contains}
use Rattle.core_syntax.specs.Tree.{Attr, Typ, Block, Param, Decl, variable, function, UnitTree as Module}
use Rattle.core_syntax.specs.Names.{declared_name}
use Rattle.core_meaning.specs.Values.{Checked, and_then}
use Rattle.core_meaning.specs.Names.{Name}
use Rattle.core_meaning.specs.ConstStage.{Scope, module_scope}
use Rattle.core_lower.specs.DeclarationFault.{DeclarationFault}
use Rattle.core_lower.specs.Start.{then_more, consts_of}
use Rattle.core_lower.specs.Lowered.{Lowers}
use Rattle.core_lower.specs.Computed.{refusing, lowered_attributes, lowered_parameters, parameter_types, checked_type, lowered_body, with_parameters, lowered_rest, lowered_function, lowered_declarations}
use Rattle.core_lower.proofs.Same.{computed_same}
use Rattle.core_link_spec.specs.Modules.{Path, Symbol, Modules, Declares, local_name, IsDeclaration}
use Rattle.core_link_spec.specs.Names.{IsPrinted}
use Rattle.core_link_spec.specs.Rounds.{scope_names}
use Rattle.core_link_spec.specs.Linked.{renamed_declaration}
use Rattle.core_modules_meaning.specs.Declared.{IsHeldAs, DeclaresWhatIsHeld}
use Rattle.wgsl_base.proofs.Members.{first_in, later_in, in_cases, in_none, in_map, from_map}
use Rattle.core_modules_meaning.proofs.Distinct.{Once, once_of, once_right, once_same}
use Rattle.core_modules_meaning.proofs.Symbols.{found_in, one_unit, origin}
use Rattle.core_modules_meaning.proofs.Held.{symbol_of, origin_printed}
use Rattle.core_modules_meaning.proofs.Declared.{distinct_of, declares_what_is_held}
use Rattle.core_laws.specs.Compiled.{AreCompiled}
use Rattle.core_laws.specs.Declared.{is_function, functions_of, IsFunctionOf, DeclaresHeldFunctions, CompiledUnitsDeclareHeldFunctions}

-- ---- what is there has a property

abbrev Holds : {A : Type 0} → (A → Type 0) → Checked A → Type 0
Holds P (Ok x) = P x
Holds P (Err e) = Unit {0}

holds_then : {A B : Type 0} (P : B → Type 0) (o : Checked A) (f : A → Checked B) → ((x : A) → Holds P (f x)) → Holds P (and_then o f)
holds_then P (Ok x) f h = h x
holds_then P (Err e) f h = tt

-- ---- a function stays a function of its name

record IsNamed (f : Name) (d : Decl) : Type 0 where
  name : declared_name d ≡ f
  function : is_function d ≡ true

rest_named : (s : Scope) (attributes : List Attr) (f : Name) (parameters : List Param) (ts : _) (return_attributes : List Attr) (type : Option Typ) (body : Block)
    → Holds (IsNamed f) (lowered_rest s attributes f parameters ts return_attributes type body)
rest_named s attributes f parameters ts return_attributes type body =
    holds_then (IsNamed f) (lowered_attributes s return_attributes) _ (λ rs.
    holds_then (IsNamed f) (checked_type s type) _ (λ u.
    holds_then (IsNamed f) (lowered_body (with_parameters s ts) type body) _ (λ b. record { name = refl; function = refl })))

function_named : (s : Scope) (attributes : List Attr) (f : Name) (parameters : List Param) (return_attributes : List Attr) (type : Option Typ) (body : Block)
    → Holds (IsNamed f) (lowered_function s attributes f parameters return_attributes type body)
function_named s attributes f parameters return_attributes type body =
    holds_then (IsNamed f) (lowered_attributes s attributes) _ (λ as'.
    holds_then (IsNamed f) (lowered_parameters s parameters) _ (λ ps.
    holds_then (IsNamed f) (parameter_types s parameters) _ (λ ts. rest_named s as' f ps ts return_attributes type body)))

-- ---- lowered declarations

then_ok : {A B : Type 0} (o : Result A DeclarationFault) (f : A → Result B DeclarationFault) (y : B) → then_more o f ≡ Ok y → (x : A) × (o ≡ Ok x) × (f x ≡ Ok y)
then_ok (Ok x) f y e = (x, refl, e)
then_ok (Err r) f y e = absurd (cc)

named_from : (x f : Name) (o : Checked Decl) (d : Decl) → Holds (IsNamed f) o → refusing x o ≡ Ok d → IsNamed f d
named_from x f (Ok e) d h is = let s : e ≡ d = cc in subst (IsNamed f) s h
named_from x f (Err e) d h is = absurd (cc)

record AreFunctions (ds low : List Decl) : Type 0 where
  functions : functions_of low ≡ low
  names : map declared_name low ≡ map declared_name (functions_of ds)

functions_more : (d : Decl) (ds : List Decl) → is_function d ≡ true → functions_of ds ≡ ds → functions_of (d ∷ ds) ≡ d ∷ ds
functions_more (variable attributes kind x t e) ds f is = absurd (cc)
functions_more (function attributes x ps rs t b) ds f is = ap (λ l. function attributes x ps rs t b ∷ l) is

lowered_functions : (s : Scope) (ds low : List Decl) → lowered_declarations s ds ≡ Ok low → AreFunctions ds low
lowered_functions s [] low e = let to : [] ≡ low = cc in subst (AreFunctions []) to (record { functions = refl; names = refl })
lowered_functions s (variable attributes kind x t i ∷ ds) low e = let r = lowered_functions s ds low e in record { functions = r.functions; names = r.names }
lowered_functions s (function attributes f ps rs t b ∷ ds) low e =
    let d = then_ok (refusing f (lowered_function s attributes f ps rs t b)) (λ d. then_more (lowered_declarations s ds) (λ more. Ok (d ∷ more))) low e in
    let more = then_ok (lowered_declarations s ds) (λ more. Ok (d.0 ∷ more)) low d.2 in
    let to : d.0 ∷ more.0 ≡ low = cc in
    let named = named_from f f (lowered_function s attributes f ps rs t b) d.0 (function_named s attributes f ps rs t b) d.1 in
    let r = lowered_functions s ds more.0 more.1 in
    subst (AreFunctions (function attributes f ps rs t b ∷ ds)) to (record {
      functions = functions_more d.0 more.0 named.function r.functions;
      names = ap (λ z. z ∷ map declared_name more.0) named.name ∙ ap (λ l. f ∷ l) r.names;
    })

record IsLowered (u low : Module) : Type 0 where
  no_imports : low.imports ≡ []
  functions : AreFunctions u.declarations low.declarations

is_lowered : (steps : ℕ) (u low : Module) → Lowers steps u (Ok low) → IsLowered u low
is_lowered steps u low l =
    let cs = then_ok (consts_of u.declarations l.order) (λ cs. then_more (lowered_declarations (module_scope u.declarations cs) u.declarations) (λ ds. Ok (record { imports = []; declarations = ds }))) low (sym (computed_same steps l.order u) ∙ l.comes) in
    let ds = then_ok (lowered_declarations (module_scope u.declarations cs.0) u.declarations) (λ ds. Ok (record { imports = []; declarations = ds })) low cs.2 in
    let to : record { imports = []; declarations = ds.0 } ≡ low = cc in
    subst (IsLowered u) to (record { no_imports = refl; functions = lowered_functions (module_scope u.declarations cs.0) u.declarations ds.0 ds.1 })

-- ---- functions of a list

in_functions : (ds : List Decl) (d : Decl) → Contains ds d → is_function d ≡ true → Contains (functions_of ds) d
in_functions [] d c f = absurd (in_none d c)
in_functions (variable attributes kind x t e ∷ ds) d c f = at (in_functions ds d) (in_cases (variable attributes kind x t e) ds d c)
  where
    at : (Contains ds d → is_function d ≡ true → Contains (functions_of ds) d) → (variable attributes kind x t e ≡ d) ⊎ Contains ds d → Contains (functions_of ds) d
    at more (inl s) = let g : false ≡ true = ap is_function s ∙ f in absurd (cc)
    at more (inr b) = more b f
in_functions (function attributes x ps rs t b ∷ ds) d c f = at (in_functions ds d) (in_cases (function attributes x ps rs t b) ds d c)
  where
    at : (Contains ds d → is_function d ≡ true → Contains (functions_of ds) d) → (function attributes x ps rs t b ≡ d) ⊎ Contains ds d → Contains (function attributes x ps rs t b ∷ functions_of ds) d
    at more (inl s) = subst (Contains (function attributes x ps rs t b ∷ functions_of ds)) s (first_in (function attributes x ps rs t b) (functions_of ds))
    at more (inr k) = later_in d (function attributes x ps rs t b) (functions_of ds) (more k f)

from_functions : (ds : List Decl) (d : Decl) → Contains (functions_of ds) d → Contains ds d × (is_function d ≡ true)
from_functions [] d c = absurd (in_none d c)
from_functions (variable attributes kind x t e ∷ ds) d c = let r = from_functions ds d c in (later_in d (variable attributes kind x t e) ds r.0, r.1)
from_functions (function attributes x ps rs t b ∷ ds) d c = at (from_functions ds d) (in_cases (function attributes x ps rs t b) (functions_of ds) d c)
  where
    at : (Contains (functions_of ds) d → Contains ds d × (is_function d ≡ true)) → (function attributes x ps rs t b ≡ d) ⊎ Contains (functions_of ds) d → Contains (function attributes x ps rs t b ∷ ds) d × (is_function d ≡ true)
    at more (inl s) = (subst (Contains (function attributes x ps rs t b ∷ ds)) s (first_in (function attributes x ps rs t b) ds), ap is_function (sym s))
    at more (inr k) = let r = more k in (later_in d (function attributes x ps rs t b) ds r.0, r.1)

once_functions : (ds : List Decl) → Once (map declared_name ds) → Once (map declared_name (functions_of ds))
once_functions [] o = tt
once_functions (variable attributes kind x t e ∷ ds) o = once_functions ds o.1
once_functions (function attributes x ps rs t b ∷ ds) o = (λ c. out (from_map declared_name (functions_of ds) x c), once_functions ds o.1)
  where
    out : (d : Decl) × Contains (functions_of ds) d × (declared_name d ≡ x) → ⊥
    out r = o.0 (subst (Contains (map declared_name ds)) r.2 (in_map declared_name ds r.0 (from_functions ds r.0 r.1).0))

renamed_function : (new : Name → Name) (d : Decl) → is_function (renamed_declaration new d) ≡ is_function d
renamed_function new (variable attributes kind x t e) = refl
renamed_function new (function attributes x ps rs t b) = refl

-- ---- the held ones

module _ (modules : Modules) (root : Path) (keep : List Name) (lowered : Module) (c : AreCompiled modules root keep lowered) where
  held : DeclaresWhatIsHeld modules root keep c.linked
  held = declares_what_is_held modules root keep c.linked c.linked_well

  low : IsLowered c.linked lowered
  low = is_lowered c.steps c.linked lowered c.is_lowered

  -- a symbol has one declaration
  one_declaration : (s : Symbol) (d e : Decl) → IsDeclaration modules s d → IsDeclaration modules s e → d ≡ e
  one_declaration s d e i j =
      let loaded = c.linked_well.loaded in
      let same = one_unit modules root keep loaded s.home j.unit i.unit j.is_module i.is_module in
      let names = once_right (map local_name i.unit.imports) (map declared_name i.unit.declarations) (once_of (scope_names i.unit) (loaded.distinct (i.is_module.path, i.unit) i.is_module.stands)) in
      once_same declared_name i.unit.declarations names d e i.stands (subst (λ u. Contains u.declarations e) same j.stands) (i.name ∙ sym j.name)

  each_there : (s : Symbol) (y : Name) → IsHeldAs modules root keep s y → IsFunctionOf modules root keep s → Declares lowered y
  each_there s y h f =
      let st = held.each s y h in
      let d : Decl = renamed_declaration st.new st.declaration in
      let there = found_in y c.linked.declarations d st.found in
      let is : is_function d ≡ true = renamed_function st.new st.declaration ∙ ap is_function (one_declaration s st.declaration f.declaration st.declares f.declares) ∙ f.function in
      let listed = in_map declared_name (functions_of c.linked.declarations) d (in_functions c.linked.declarations d there.0 is) in
      subst (Contains (map declared_name lowered.declarations)) there.1 (subst (λ l. Contains l (declared_name d)) (sym low.functions.names) listed)

  only_there : (y : Name) → Declares lowered y → (s : Symbol) × IsHeldAs modules root keep s y × IsFunctionOf modules root keep s
  only_there y k =
      let d = from_map declared_name (functions_of c.linked.declarations) y (subst (λ l. Contains l y) low.functions.names k) in
      let there = from_functions c.linked.declarations d.0 d.1 in
      let o = origin modules root keep c.linked_well.loaded c.linked c.linked_well.linked d.0 there.0 in (
        symbol_of modules root keep c.linked c.linked_well d.0 o,
        record { held = o.reached; printed = subst (IsPrinted modules root (symbol_of modules root keep c.linked c.linked_well d.0 o)) d.2 (origin_printed modules root keep c.linked c.linked_well d.0 o) },
        record {
          declaration = o.declaration;
          declares = record { unit = o.unit; is_module = o.is_module; stands = o.stands; name = refl };
          function = sym (renamed_function o.new o.declaration) ∙ ap is_function o.is ∙ there.1;
        },
      )

  pub declares_held_functions : DeclaresHeldFunctions modules root keep c.linked lowered
  declares_held_functions = record {
    no_imports = low.no_imports;
    functions = low.functions.functions;
    in_order = low.functions.names;
    each = each_there;
    only = only_there;
    once = distinct_of (map declared_name lowered.declarations) (subst Once (sym low.functions.names) (once_functions c.linked.declarations (once_of (map declared_name c.linked.declarations) held.once)));
  }

pub compiled_units_declare_held_functions : CompiledUnitsDeclareHeldFunctions
compiled_units_declare_held_functions modules root keep lowered c = declares_held_functions modules root keep lowered c
