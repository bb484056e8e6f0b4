-- A walk that passes items one by one and finds the first error of a list.
use Rattle.std.proofs.Common.{◌≡◌, refl, sym, ap, ◌∙◌, subst, List, [], ◌∷◌, map, filter_map, true, false, ◌⊎◌, inl, inr, Option, Some, None, Result, Ok, Err}
use Rattle.std.specs.List.{cons_option}
use Rattle.std.specs.Option.{option_or, option_map, option_and_then}
use Rattle.wgsl_path.specs.declared.span.Spanned.{Spanned}
use Rattle.wgsl_expressions.specs.AttributesTree.{Attr}
use Rattle.wgsl_statements.specs.declared.statement.Statement.{Statement}
use Rattle.wgsl_statements.specs.View.{statements_tree}
use Rattle.wesl_conditions.specs.declared.features.feature.Features.{Features}
use Rattle.wesl_conditions.specs.declared.features.error.CondCompError.{CondCompError}
use Rattle.wesl_conditions.specs.declared.features.error.CondCompError.TheVariants.{OutOfMemory}
use Rattle.wesl_conditions.specs.declared.meaning.chain.Chain.{Chain}
use Rattle.wesl_conditions.specs.Chains.{marks, HasAttributes}
use Rattle.wesl_conditions.specs.Seen.{Seen, list_fault}
use Rattle.wesl_conditions.specs.Walks.{start, checked}
use Rattle.wesl_conditions.specs.Faults.{seen_statements}
use Rattle.wesl_conditions.proofs.Checking.{checked_is_fault}
use Rattle.wesl_conditions.specs.Told.{TellsFault}
use Rattle.wesl_cond_items.specs.Check.{Check}
use Rattle.wesl_cond_items.specs.Entering.{seen, Enters}
use Rattle.wesl_cond.specs.Passing.{Passes, see, see_node}
use Rattle.wesl_cond.proofs.Lists.{seen_nodes, seen_items}

or_none : (a : Option CondCompError) → option_or a None ≡ a
or_none None = refl
or_none (Some x) = refl

module _ (features : Features) {T : Type 0} (has : HasAttributes T) (inner : T → Option CondCompError) where
  -- a `;`
  pub nothing : (o : Option T) (c : Check) → None ≡ option_map has.attributes o → Passes features c (option_map (see has inner) o) (Ok tt) c
  nothing None c h = λ xs. refl
  nothing (Some t) c h = absurd (cc)

  -- an item inside of which nothing counts
  pub passed : (o : Option T) (attributes : List Attr) (c d : Check) → Some attributes ≡ option_map has.attributes o → Enters features c (marks attributes) (Ok false) d
      → Passes features c (option_map (see has inner) o) (Ok tt) d
  passed None attributes c d h says = absurd (cc)
  passed (Some t) attributes c d h says =
      let same : attributes ≡ has.attributes t = cc in
      λ xs. ap (λ ns. checked features c.chain c.inside (seen (marks ns) (inner t) ∷ xs)) (sym same) ∙ says (inner t) xs
      ∙ ap (λ i. checked features d.chain i xs) (or_none d.inside)

  -- the error of an item's own conditions, or that of its chain before it
  pub refused_before : (o : Option T) (attributes : List Attr) (c d e : Check) (error : CondCompError) → Some attributes ≡ option_map has.attributes o → Enters features c (marks attributes) (Err error) d
      → Passes features c (option_map (see has inner) o) (Err error) e
  refused_before None attributes c d e error h says = absurd (cc)
  refused_before (Some t) attributes c d e error h (inl says) =
      let same : attributes ≡ has.attributes t = cc in
      inl (λ xs. ap (λ ns. checked features c.chain c.inside (seen (marks ns) (inner t) ∷ xs)) (sym same) ∙ says (inner t) xs)
  refused_before (Some t) attributes c d e error h (inr memory) = inr memory

  -- an item inside of which this was found
  pub entered : (o : Option T) (attributes : List Attr) (c d e : Check) → Some attributes ≡ option_map has.attributes o → Enters features c (marks attributes) (Ok true) d
      → e.chain ≡ d.chain → e.inside ≡ option_or d.inside (option_and_then inner o) → Passes features c (option_map (see has inner) o) (Ok tt) e
  entered None attributes c d e h says chain inside = absurd (cc)
  entered (Some t) attributes c d e h says chain inside =
      let same : attributes ≡ has.attributes t = cc in
      λ xs. ap (λ ns. checked features c.chain c.inside (seen (marks ns) (inner t) ∷ xs)) (sym same) ∙ says (inner t) xs
      ∙ (λ i. checked features (sym chain i) (sym inside i) xs)

pub memory : (features : Features) (c d : Check) (item : Option Seen) → Passes features c item (Err OutOfMemory) d
memory features c d item = inr refl

-- ---- whole lists

pub begins : (features : Features) (c : Check) (xs : List Seen) → c.chain ≡ start → c.inside ≡ None → checked features c.chain c.inside xs ≡ list_fault features xs
begins features c xs chain inside = (λ i. checked features (chain i) (inside i) xs) ∙ checked_is_fault features xs

told : {A : Type 0} (p q : Option CondCompError) (r : Result A CondCompError) → p ≡ q → TellsFault p r → TellsFault q r
told p q r same h = subst (λ o. TellsFault o r) same h

refused : (features : Features) (chain : Chain) (inside : Option CondCompError) (items rest : List Seen) (item : Option Seen) (fault : Option CondCompError) (error : CondCompError)
    → ((xs : List Seen) → checked features chain inside (cons_option item xs) ≡ Some error) ⊎ (error ≡ OutOfMemory)
    → items ≡ cons_option item rest → checked features chain inside items ≡ fault → (fault ≡ Some error) ⊎ (error ≡ OutOfMemory)
refused features chain inside items rest item fault error (inl says) same h = inl (sym h ∙ ap (checked features chain inside) same ∙ says rest)
refused features chain inside items rest item fault error (inr memory) same h = inr memory

pub refused_block : (features : Features) (chain : Chain) (inside : Option CondCompError) (nodes ahead rest : List (Spanned Statement)) (node : Spanned Statement) (error : CondCompError)
    → ((xs : List Seen) → checked features chain inside (cons_option (see_node features node) xs) ≡ Some error) ⊎ (error ≡ OutOfMemory)
    → ahead ≡ node ∷ rest → checked features chain inside (filter_map (see_node features) ahead) ≡ list_fault features (filter_map (see_node features) nodes)
    → (list_fault features (seen_statements features (statements_tree nodes)) ≡ Some error) ⊎ (error ≡ OutOfMemory)
refused_block features chain inside nodes ahead rest node error says same h =
    refused features chain inside (filter_map (see_node features) ahead) (filter_map (see_node features) rest) (see_node features node)
    (list_fault features (seen_statements features (statements_tree nodes))) error says (ap (filter_map (see_node features)) same)
    (h ∙ ap (list_fault features) (sym (seen_nodes features nodes)))

-- where all items were passed
pub ended_block : (features : Features) (chain : Chain) (inside : Option CondCompError) (nodes ahead : List (Spanned Statement)) (r : Result Unit CondCompError) → ahead ≡ []
    → checked features chain inside (filter_map (see_node features) ahead) ≡ list_fault features (filter_map (see_node features) nodes)
    → TellsFault inside r → TellsFault (list_fault features (seen_statements features (statements_tree nodes))) r
ended_block features chain inside nodes ahead r same h says =
    told inside (list_fault features (seen_statements features (statements_tree nodes))) r
    (sym (ap (λ ns. checked features chain inside (filter_map (see_node features) ns)) same) ∙ h ∙ ap (list_fault features) (sym (seen_nodes features nodes))) says

module _ {X T : Type 0} (tree : X → Option T) (view : T → Seen) where
  abbrev seen_by : X → Option Seen
  seen_by x = option_map view (tree x)

  pub refused_list : (features : Features) (chain : Chain) (inside : Option CondCompError) (xs ahead rest : List X) (x : X) (error : CondCompError)
      → ((ys : List Seen) → checked features chain inside (cons_option (seen_by x) ys) ≡ Some error) ⊎ (error ≡ OutOfMemory)
      → ahead ≡ x ∷ rest → checked features chain inside (filter_map seen_by ahead) ≡ list_fault features (filter_map seen_by xs)
      → (list_fault features (map view (filter_map tree xs)) ≡ Some error) ⊎ (error ≡ OutOfMemory)
  refused_list features chain inside xs ahead rest x error says same h =
      refused features chain inside (filter_map seen_by ahead) (filter_map seen_by rest) (seen_by x) (list_fault features (map view (filter_map tree xs))) error says
      (ap (filter_map seen_by) same) (h ∙ ap (list_fault features) (sym (seen_items tree view xs)))

  pub ended_list : (features : Features) (chain : Chain) (inside : Option CondCompError) (xs ahead : List X) (r : Result Unit CondCompError) → ahead ≡ []
      → checked features chain inside (filter_map seen_by ahead) ≡ list_fault features (filter_map seen_by xs)
      → TellsFault inside r → TellsFault (list_fault features (map view (filter_map tree xs))) r
  ended_list features chain inside xs ahead r same h says =
      told inside (list_fault features (map view (filter_map tree xs))) r
      (sym (ap (λ ys. checked features chain inside (filter_map seen_by ys)) same) ∙ h ∙ ap (list_fault features) (sym (seen_items tree view xs))) says
