-- Attributes that are rewritten one by one, in place.
use Rattle.std.proofs.Common.{◌≡◌, refl, ap, ◌∙◌, List, [], ◌∷◌, map, Bool, true, false, not, cond, Option, Some, None}
use Rattle.std.specs.Prelude.{if◌then◌else◌}
use Rattle.std.specs.List.{cons_option, filter}
use Rattle.std.specs.List.Retain.{RetainsInTurn}
use Rattle.wgsl_path.specs.declared.span.Spanned.{Spanned}
use Rattle.wgsl_expressions.specs.Tree.{Exp}
use Rattle.wgsl_expressions.specs.declared.attributes.attribute.Attribute.{Attribute}
use Rattle.wgsl_expressions.specs.AttributesTree.{Attr, align, binding, blend_src, builtin, constant, diagnostic, group, id_number, interpolate, invariant, location, must_use, byte_size, workgroup_size, vertex, fragment, compute, publish, if_true, else_if, otherwise, custom}
use Rattle.wgsl_expressions.specs.AttributesView.{attribute_tree, attributes_tree}
use Rattle.wesl_conditions.specs.declared.features.feature.Features.{Features}
use Rattle.wesl_conditions.specs.Conditions.{known, simplified}
use Rattle.wesl_conditions.specs.Chains.{Mark, if_mark, elif_mark, else_mark, mark, is_marked, is_condition, marks, unmarked, remarked, goes, stays, waits, standing}
use Rattle.wesl_cond_attributes.specs.Kinds.{open_as, reopened}

-- a closure that is called at each element, keeps it, and changes what it stands for
pub turned : {S X A : Type 0} (tree : X → A) (g : A → A) (R : S → X → Bool → S → X → Type 0) (Fit : S → Type 0)
    → ((s : S) (x : X) (b : Bool) (t : S) (y : X) → Fit s → R s x b t y → Fit t × (b ≡ true) × (tree y ≡ g (tree x)))
    → (s : S) → Fit s → (xs ys : List X) → RetainsInTurn R s xs ys → map tree ys ≡ map g (map tree xs)
turned tree g R Fit says s fit [] ys h = ap (map tree) h
turned tree g R Fit says s fit (x ∷ xs) ys h =
    let said = says s x h.0 h.1 h.2 fit h.3 in
    ap (map tree) h.6 ∙ (λ i. map tree (cond (said.1 i) (h.2 ∷ h.4) h.4))
    ∙ (λ i. said.2 i ∷ turned tree g R Fit says h.1 said.0 xs h.4 h.5 i)

-- attributes without conditions
pub left_out : (xs : List (Spanned Attribute))
    → attributes_tree (filter (λ n. not (is_condition (attribute_tree n.node))) xs) ≡ unmarked (attributes_tree xs)
left_out [] = refl
left_out (x ∷ xs) = by (left_out xs) (is_condition (attribute_tree x.node))
  where
    by : attributes_tree (filter (λ n. not (is_condition (attribute_tree n.node))) xs) ≡ unmarked (attributes_tree xs) → (b : Bool)
        → attributes_tree (cond (not b) (x ∷ filter (λ n. not (is_condition (attribute_tree n.node))) xs) (filter (λ n. not (is_condition (attribute_tree n.node))) xs))
        ≡ cond (not b) (attribute_tree x.node ∷ unmarked (attributes_tree xs)) (unmarked (attributes_tree xs))
    by rest true = rest
    by rest false = ap (λ t. attribute_tree x.node ∷ t) rest

-- ---- an open condition, simplified

abbrev condition_of : Mark → Option Exp
condition_of (if_mark x) = Some x
condition_of (elif_mark x) = Some x
condition_of else_mark = None

plain : (w : Bool) (features : Features) (a : Attr) → mark a ≡ None → reopened w features a ≡ a
plain w features (align x) h = refl
plain w features (binding x) h = refl
plain w features (blend_src x) h = refl
plain w features (builtin x) h = refl
plain w features constant h = refl
plain w features (diagnostic s r) h = refl
plain w features (group x) h = refl
plain w features (id_number x) h = refl
plain w features (interpolate t s) h = refl
plain w features invariant h = refl
plain w features (location x) h = refl
plain w features must_use h = refl
plain w features (byte_size x) h = refl
plain w features (workgroup_size x y z) h = refl
plain w features vertex h = refl
plain w features fragment h = refl
plain w features compute h = refl
plain w features publish h = refl
plain w features (if_true x) h = absurd (cc)
plain w features (else_if x) h = absurd (cc)
plain w features otherwise h = refl
plain w features (custom n xs) h = refl

opened : (w : Bool) (features : Features) (a : Attr) (m : Mark) (x : Exp) → mark a ≡ Some m → condition_of m ≡ Some x → reopened w features a ≡ open_as w (simplified features x)
opened w features (if_true y) m x h is = let same : if_mark y ≡ m = cc in let also : Some y ≡ Some x = ap condition_of same ∙ is in let eq : y ≡ x = cc in ap (λ z. open_as w (simplified features z)) eq
opened w features (else_if y) m x h is = let same : elif_mark y ≡ m = cc in let also : Some y ≡ Some x = ap condition_of same ∙ is in let eq : y ≡ x = cc in ap (λ z. open_as w (simplified features z)) eq
opened w features otherwise m x h is = let same : else_mark ≡ m = cc in let also : None ≡ Some x = ap condition_of same ∙ is in absurd (cc)
opened w features (align y) m x h is = absurd (cc)
opened w features (binding y) m x h is = absurd (cc)
opened w features (blend_src y) m x h is = absurd (cc)
opened w features (builtin y) m x h is = absurd (cc)
opened w features constant m x h is = absurd (cc)
opened w features (diagnostic s r) m x h is = absurd (cc)
opened w features (group y) m x h is = absurd (cc)
opened w features (id_number y) m x h is = absurd (cc)
opened w features (interpolate t s) m x h is = absurd (cc)
opened w features invariant m x h is = absurd (cc)
opened w features (location y) m x h is = absurd (cc)
opened w features must_use m x h is = absurd (cc)
opened w features (byte_size y) m x h is = absurd (cc)
opened w features (workgroup_size a b c) m x h is = absurd (cc)
opened w features vertex m x h is = absurd (cc)
opened w features fragment m x h is = absurd (cc)
opened w features compute m x h is = absurd (cc)
opened w features publish m x h is = absurd (cc)
opened w features (custom n xs) m x h is = absurd (cc)

none_left : (w : Bool) (features : Features) (new : Attr) (attributes : List Attr) → marks attributes ≡ [] → map (reopened w features) attributes ≡ remarked new attributes
none_left w features new [] h = refl
none_left w features new (a ∷ attributes) h = by (none_left w features new attributes) (mark a) refl h
  where
    by : (marks attributes ≡ [] → map (reopened w features) attributes ≡ remarked new attributes) → (o : Option Mark) → mark a ≡ o → cons_option o (marks attributes) ≡ []
        → reopened w features a ∷ map (reopened w features) attributes ≡ (if is_marked o then new else a) ∷ remarked new attributes
    by rest None e h = λ i. plain w features a e i ∷ rest h i
    by rest (Some m) e h = absurd (cc)

single : (w : Bool) (features : Features) (m : Mark) (x : Exp) → condition_of m ≡ Some x → (attributes : List Attr) → marks attributes ≡ m ∷ []
    → map (reopened w features) attributes ≡ remarked (open_as w (simplified features x)) attributes
single w features m x is [] h = absurd (cc)
single w features m x is (a ∷ attributes) h = by (single w features m x is attributes) (mark a) refl h
  where
    by : (marks attributes ≡ m ∷ [] → map (reopened w features) attributes ≡ remarked (open_as w (simplified features x)) attributes) → (o : Option Mark) → mark a ≡ o → cons_option o (marks attributes) ≡ m ∷ []
        → reopened w features a ∷ map (reopened w features) attributes ≡ (if is_marked o then open_as w (simplified features x) else a) ∷ remarked (open_as w (simplified features x)) attributes
    by rest None e h = λ i. plain w features a e i ∷ rest h i
    by rest (Some n) e h =
        let same : n ≡ m = cc in
        let others : marks attributes ≡ [] = cc in
        λ i. opened w features a n x e (ap condition_of same ∙ is) i ∷ none_left w features (open_as w (simplified features x)) attributes others i

-- the attributes of an item that waits
pub reopened_waits : (w : Bool) (features : Features) (attributes : List Attr) (e : Exp) → standing features (marks attributes) ≡ waits e
    → map (reopened w features) attributes ≡ remarked (open_as w e) attributes
reopened_waits w features attributes e is = by (marks attributes) refl is
  where
    known_of : (x : Exp) (o : Option Bool) → known (simplified features x) ≡ o → elim o [ Some b ↦ (if b then stays else goes) | None ↦ waits (simplified features x) ] ≡ waits e → simplified features x ≡ e
    known_of x (Some true) k h = absurd (cc)
    known_of x (Some false) k h = absurd (cc)
    known_of x None k h = let same : simplified features x ≡ e = cc in same

    by : (ms : List Mark) → marks attributes ≡ ms → standing features ms ≡ waits e → map (reopened w features) attributes ≡ remarked (open_as w e) attributes
    by [] same h = absurd (cc)
    by (if_mark x ∷ []) same h = single w features (if_mark x) x refl attributes same ∙ ap (λ z. remarked (open_as w z) attributes) (known_of x (known (simplified features x)) refl h)
    by (elif_mark x ∷ []) same h = single w features (elif_mark x) x refl attributes same ∙ ap (λ z. remarked (open_as w z) attributes) (known_of x (known (simplified features x)) refl h)
    by (else_mark ∷ []) same h = absurd (cc)
    by (if_mark x ∷ n ∷ ms) same h = absurd (cc)
    by (elif_mark x ∷ n ∷ ms) same h = absurd (cc)
    by (else_mark ∷ n ∷ ms) same h = absurd (cc)
