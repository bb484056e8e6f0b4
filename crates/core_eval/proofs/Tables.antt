-- Tables of names, and the lists that they stand for.
use Rattle.std.proofs.Common.{◌≡◌, ℕ, ◌+◌, ◌<◌, List, [], ◌∷◌, ◌++◌, take, get_or, length, Option, Some, None, Bool, true, false, cond, refl, sym, ap, ◌∙◌}
use Rattle.std.specs.Prelude.{is_some, if◌then◌else◌}
use Rattle.std.specs.Str.{bytes_eq}
use Rattle.std.specs.Borrow.{Bor}
use Rattle.std.specs.HashMap.{HashMap}
use Rattle.std.proofs.lemmas.List.{take_more, map-append}
use Rattle.wgsl_base.proofs.Members.{same_bytes, bytes_same}
use Rattle.wgsl_path.specs.declared.span.Spanned.{Spanned}
use Rattle.core_syntax.specs.Tree.{Decl}
use Rattle.core_syntax.specs.Names.{declared_name}
use Rattle.core_syntax.specs.View.{declaration_tree}
use Rattle.core_syntax.specs.declared.declaration.GlobalDeclaration.{GlobalDeclaration}
use Rattle.wgsl_shader_type.specs.declared.literal.LiteralInstance.{LiteralInstance}
use Rattle.core_meaning.specs.Names.{Name, find, find_decl}
use Rattle.core_meaning.specs.ConstStage.{Consts, module_scope}
use Rattle.core_eval.specs.Scopes.{decls, seen, lookup, Declares, Holds, outside}

-- ---- lists with one more at the end

abbrev pub or_else : {A : Type 0} → Option A → Option A → Option A
or_else (Some x) o = Some x
or_else None o = o

-- what a name has that is the same name
abbrev pub if_named : {A : Type 0} → Name → Name → A → Option A
if_named x y v = if bytes_eq x y then Some v else None

pub find_last : {A : Type 0} (bs : List (Name × A)) (y : Name) (v : A) (x : Name) → find x (bs ++ (y, v) ∷ []) ≡ or_else (find x bs) (if_named x y v)
find_last [] y v x = refl
find_last (b ∷ bs) y v x = step (bytes_eq x b.0) (find_last bs y v x)
  where
    step : (c : Bool) → find x (bs ++ (y, v) ∷ []) ≡ or_else (find x bs) (if_named x y v)
        → (if c then Some b.1 else find x (bs ++ (y, v) ∷ [])) ≡ or_else (if c then Some b.1 else find x bs) (if_named x y v)
    step true e = refl
    step false e = e

pub decl_last : (ds : List Decl) (d : Decl) (x : Name) → find_decl x (ds ++ d ∷ []) ≡ or_else (find_decl x ds) (if_named x (declared_name d) d)
decl_last [] d x = refl
decl_last (e ∷ ds) d x = step (bytes_eq x (declared_name e)) (decl_last ds d x)
  where
    step : (c : Bool) → find_decl x (ds ++ d ∷ []) ≡ or_else (find_decl x ds) (if_named x (declared_name d) d)
        → (if c then Some e else find_decl x (ds ++ d ∷ [])) ≡ or_else (if c then Some e else find_decl x ds) (if_named x (declared_name d) d)
    step true h = refl
    step false h = h

-- ---- a table after one more entry

module _ {A : Type 0} (old was : Name → Option A) (y : Name) (v : A) (is : (x : Name) → old x ≡ was x) where
  none_of : (o : Option A) → is_some o ≡ false → o ≡ None
  none_of (Some w) e = absurd (cc)
  none_of None e = refl

  -- a name that is new
  pub one_more : (new : Name → Option A) → is_some (old y) ≡ false → ((x : Name) → new x ≡ cond (bytes_eq y x) (Some v) (old x)) → (x : Name) → new x ≡ or_else (was x) (if_named x y v)
  one_more new fresh up x = at (bytes_eq y x) refl (bytes_eq x y) refl
    where
      at : (b : Bool) → bytes_eq y x ≡ b → (c : Bool) → bytes_eq x y ≡ c → new x ≡ or_else (was x) (if_named x y v)
      at true e c f =
          let same : y ≡ x = same_bytes y x e in
          let gone : was x ≡ None = sym (ap was same) ∙ sym (is y) ∙ none_of (old y) fresh in
          let again : bytes_eq x y ≡ true = ap (λ z. bytes_eq z y) (sym same) ∙ bytes_same y in
          up x ∙ ap (λ b. cond b (Some v) (old x)) e ∙ sym (ap (λ o. or_else o (if_named x y v)) gone ∙ ap (λ b. if b then Some v else None) again)
      at false e true f = let same : bytes_eq y x ≡ true = ap (bytes_eq y) (same_bytes x y f) ∙ bytes_same y in absurd (cc)
      at false e false f =
          up x ∙ ap (λ b. cond b (Some v) (old x)) e ∙ is x ∙ stays (was x) ∙ sym (ap (λ b. or_else (was x) (if b then Some v else None)) f)
        where
          stays : (o : Option A) → o ≡ or_else o None
          stays (Some w) = refl
          stays None = refl

  -- a name that is there
  pub none_more : is_some (old y) ≡ true → (x : Name) → old x ≡ or_else (was x) (if_named x y v)
  none_more known x = is x ∙ at (was x) refl (bytes_eq x y) refl
    where
      at : (o : Option A) → was x ≡ o → (c : Bool) → bytes_eq x y ≡ c → o ≡ or_else o (if_named x y v)
      at (Some w) e c f = refl
      at None e true f =
          let same : x ≡ y = same_bytes x y f in
          let there : is_some (was x) ≡ true = ap (λ z. is_some (was z)) same ∙ sym (ap is_some (is y)) ∙ known in
          absurd (cc)
      at None e false f = sym (ap (λ b. if b then Some v else None) f)

-- ---- consts

pub holds_new : {S U : Type 0} (old : HashMap (Bor (List ℕ)) LiteralInstance S) (new : HashMap (Bor (List ℕ)) LiteralInstance U) (y z : Name) (v : LiteralInstance) (cs : Consts) → y ≡ z → is_some (lookup old y) ≡ false
    → ((x : Name) → lookup new x ≡ cond (bytes_eq y x) (Some v) (lookup old x)) → Holds old cs → Holds new (cs ++ (z, v) ∷ [])
holds_new old new y z v cs same fresh up h x =
    one_more (lookup old) (λ x. find x cs) y v h (lookup new) fresh up x ∙ ap (λ w. or_else (find x cs) (if_named x w v)) same ∙ sym (find_last cs z v x)

pub holds_old : {S : Type 0} (old : HashMap (Bor (List ℕ)) LiteralInstance S) (y z : Name) (v : LiteralInstance) (cs : Consts) → y ≡ z → is_some (lookup old y) ≡ true → Holds old cs → Holds old (cs ++ (z, v) ∷ [])
holds_old old y z v cs same known h x =
    none_more (lookup old) (λ x. find x cs) y v h known x ∙ ap (λ w. or_else (find x cs) (if_named x w v)) same ∙ sym (find_last cs z v x)

-- ---- declarations

module _ (nodes : List (Spanned GlobalDeclaration)) (i : ℕ) (n : Spanned GlobalDeclaration) (within : i < length nodes) (is : n ≡ get_or nodes i n) where
  abbrev d : Decl
  d = declaration_tree n.node

  decls_more : decls (take (i + 1) nodes) ≡ decls (take i nodes) ++ d ∷ []
  decls_more = ap decls (take_more nodes i n within ∙ ap (λ m. take i nodes ++ m ∷ []) (sym is)) ∙ map-append (λ m. declaration_tree m.node) (take i nodes) (n ∷ [])

  seen_choice : (b : Bool) (o : Option (Bor GlobalDeclaration)) (r : Bor GlobalDeclaration) → seen (cond b (Some r) o) ≡ cond b (Some (declaration_tree r.now)) (seen o)
  seen_choice true o r = refl
  seen_choice false o r = refl

  is_some_seen : (o : Option (Bor GlobalDeclaration)) → is_some (seen o) ≡ is_some o
  is_some_seen (Some r) = refl
  is_some_seen None = refl

  pub declares_new : {S U : Type 0} (old : HashMap (Bor (List ℕ)) (Bor GlobalDeclaration) S) (new : HashMap (Bor (List ℕ)) (Bor GlobalDeclaration) U) (y : Name) (r : Bor GlobalDeclaration) → y ≡ declared_name d → r.now ≡ n.node
      → is_some (lookup old y) ≡ false → ((x : Name) → lookup new x ≡ cond (bytes_eq y x) (Some r) (lookup old x)) → Declares old (decls (take i nodes)) → Declares new (decls (take (i + 1) nodes))
  declares_new old new y r same same_node fresh up h x =
      one_more (λ x. seen (lookup old x)) (λ x. find_decl x (decls (take i nodes))) y (declaration_tree r.now) h (λ x. seen (lookup new x)) (is_some_seen (lookup old y) ∙ fresh)
      (λ x. ap seen (up x) ∙ seen_choice (bytes_eq y x) (lookup old x) r) x
      ∙ (λ k. or_else (find_decl x (decls (take i nodes))) (if_named x (same k) (declaration_tree (same_node k))))
      ∙ sym (decl_last (decls (take i nodes)) d x) ∙ sym (ap (find_decl x) decls_more)

  pub declares_old : {S : Type 0} (old : HashMap (Bor (List ℕ)) (Bor GlobalDeclaration) S) (y : Name) → y ≡ declared_name d → is_some (lookup old y) ≡ true → Declares old (decls (take i nodes)) → Declares old (decls (take (i + 1) nodes))
  declares_old old y same known h x =
      none_more (λ x. seen (lookup old x)) (λ x. find_decl x (decls (take i nodes))) y d h (is_some_seen (lookup old y) ∙ known) x
      ∙ (λ k. or_else (find_decl x (decls (take i nodes))) (if_named x (same k) d))
      ∙ sym (decl_last (decls (take i nodes)) d x) ∙ sym (ap (find_decl x) decls_more)

-- ---- the scope outside of functions

pub scope_is : {S U : Type 0} (declarations : HashMap (Bor (List ℕ)) (Bor GlobalDeclaration) S) (consts : HashMap (Bor (List ℕ)) LiteralInstance U) (ds : List Decl) (cs : Consts) → Declares declarations ds → Holds consts cs
    → outside declarations consts ≡ module_scope ds cs
scope_is declarations consts ds cs h k = λ i. record { declared = λ x. h x i; known = λ x. k x i; parameters = [] }
