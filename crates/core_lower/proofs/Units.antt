-- Whole units: a run of the lowered unit is as good as the run of the unit.
use Rattle.std.proofs.Common.{◌≡◌, ℕ, List, [], ◌∷◌, Option, Some, None, Bool, true, false, Result, Ok, Err, refl, sym, ap, ◌∙◌, subst}
use Rattle.std.specs.Prelude.{if◌then◌else◌}
use Rattle.std.specs.Str.{bytes_eq}
use Rattle.std.specs.Cmp.Lexicographic.{same_text}
use Rattle.core_syntax.specs.Tree.{Exp, Typ, Attr, Block, Param, Decl, variable, function}
use Rattle.core_syntax.specs.declared.declaration.DeclarationKind.{DeclarationKind}
use Rattle.core_syntax.specs.Names.{declared_name}
use Rattle.wgsl_scalar.specs.declared.scalar.ScalarType.{ScalarType}
use Rattle.core_meaning.specs.Values.{Checked, and_then}
use Rattle.core_meaning.specs.Outcome.{Outcome, Done, Failed, Deep, after, bind}
use Rattle.core_meaning.specs.Names.{Name, find, find_decl}
use Rattle.core_meaning.specs.Meaning.{Types}
use Rattle.core_lower_expressions.specs.Programs.{is_value}
use Rattle.core_meaning.specs.ConstStage.{Scope}
use Rattle.core_eval.specs.declared.error.DeclarationFault.{DeclarationFault}
use Rattle.core_eval.specs.Start.{then_more}
use Rattle.core_lower_expressions.specs.Cleared.{does_nothing, cleared}
use Rattle.core_lower_expressions.specs.Computed.{type_here, lowered_attributes, lowered_parameters, parameter_types, checked_type, lowered_statements, with_parameters, lowered_body, lowered_rest, lowered_function, refusing, lowered_declarations}
use Rattle.core_lower.specs.Keeps.{is_clear, ClearParameters, AreClear}
use Rattle.core_lower.proofs.Steps.{then_ok}

-- ---- lists of declarations

pub then_more_ok : {A B : Type 0} (o : Result A DeclarationFault) (f : A → Result B DeclarationFault) (d : B) → then_more o f ≡ Ok d → (x : A) × (o ≡ Ok x) × (f x ≡ Ok d)
then_more_ok (Ok x) f d e = (x, refl, e)
then_more_ok (Err g) f d e = absurd (cc)

refusing_ok : {A : Type 0} (x : Name) (o : Checked A) (d : A) → refusing x o ≡ Ok d → o ≡ Ok d
refusing_ok x (Ok v) d e = let same : v ≡ d = cc in ap Ok same
refusing_ok x (Err f) d e = absurd (cc)

-- what a lowered function is
pub record IsLowered (s : Scope) (as' : List Attr) (f : Name) (ps : List Param) (rs : List Attr) (t : Option Typ) (b : Block) (d : Decl) : Type 0 where
  pub attributes : List Attr
  pub attributes_are : lowered_attributes s as' ≡ Ok attributes
  pub parameters : List Param
  pub parameters_are : lowered_parameters s ps ≡ Ok parameters
  pub types : Types
  pub types_are : parameter_types s ps ≡ Ok types
  pub result : List Attr
  pub type_is : checked_type s t ≡ Ok tt
  pub block : Block
  pub statements_are : lowered_statements (with_parameters s types) t b.statements ≡ Ok block.statements
  pub is : function attributes f parameters result t (cleared (does_nothing attributes parameters t) block) ≡ d

is_lowered : (s : Scope) (as' : List Attr) (f : Name) (ps : List Param) (rs : List Attr) (t : Option Typ) (b : Block) (d : Decl) → lowered_function s as' f ps rs t b ≡ Ok d → IsLowered s as' f ps rs t b d
is_lowered s as' f ps rs t b d h =
    let a = then_ok (lowered_attributes s as') _ d h in
    let p = then_ok (lowered_parameters s ps) (λ qs. and_then (parameter_types s ps) (λ ts. lowered_rest s a.0 f qs ts rs t b)) d a.2 in
    let ts = then_ok (parameter_types s ps) (λ ts. lowered_rest s a.0 f p.0 ts rs t b) d p.2 in
    let r = then_ok (lowered_attributes s rs) (λ r. and_then (checked_type s t) (λ u. and_then (lowered_body (with_parameters s ts.0) t b) (λ c. Ok (function a.0 f p.0 r t (cleared (does_nothing a.0 p.0 t) c))))) d ts.2 in
    let u = then_ok (checked_type s t) (λ u. and_then (lowered_body (with_parameters s ts.0) t b) (λ c. Ok (function a.0 f p.0 r.0 t (cleared (does_nothing a.0 p.0 t) c)))) d r.2 in
    let c = then_ok (lowered_body (with_parameters s ts.0) t b) (λ c. Ok (function a.0 f p.0 r.0 t (cleared (does_nothing a.0 p.0 t) c))) d u.2 in
    let ba = then_ok (lowered_attributes (with_parameters s ts.0) b.attributes) (λ x. and_then (lowered_statements (with_parameters s ts.0) t b.statements) (λ y. Ok (record { attributes = x; statements = y }))) c.0 c.1 in
    let bs = then_ok (lowered_statements (with_parameters s ts.0) t b.statements) (λ y. Ok (record { attributes = ba.0; statements = y })) c.0 ba.2 in
    let to : function a.0 f p.0 r.0 t (cleared (does_nothing a.0 p.0 t) c.0) ≡ d = cc in
    let inner : record { attributes = ba.0; statements = bs.0 } ≡ c.0 = cc in
    record {
      attributes = a.0;
      attributes_are = a.1;
      parameters = p.0;
      parameters_are = p.1;
      types = ts.0;
      types_are = ts.1;
      result = r.0;
      type_is = u.1;
      block = c.0;
      statements_are = bs.1 ∙ ap (λ (x : Block). Ok x.statements) inner;
      is = to;
    }

module _ (s : Scope) where
  step_none : (b : Bool) (d : Decl) (o : Option Decl) (p : Option Decl) → (if b then Some d else o) ≡ None → (o ≡ None → p ≡ None) → (e : Decl) → (if b then Some e else p) ≡ None
  step_none true d o p h go e = absurd (cc)
  step_none false d o p h go e = go h

  past_none : {X : Type 0} (b : Bool) (d : Decl) (o : Option Decl) → (if b then Some d else o) ≡ None → (o ≡ None → X) → X
  past_none true d o e go = absurd (cc)
  past_none false d o e go = go e

  pub gone_too : (ds low : List Decl) → lowered_declarations s ds ≡ Ok low → (x : Name) → find_decl x ds ≡ None → find_decl x low ≡ None
  gone_too [] low h x e = let same : [] ≡ low = cc in ap (find_decl x) (sym same)
  gone_too (variable attributes kind y type i ∷ ds) low h x e = past_none (bytes_eq x y) (variable attributes kind y type i) (find_decl x ds) e (gone_too ds low h x)
  gone_too (function as' f ps rs t b ∷ ds) low h x e =
      let d = then_more_ok (refusing f (lowered_function s as' f ps rs t b)) (λ d. then_more (lowered_declarations s ds) (λ more. Ok (d ∷ more))) low h in
      let l = is_lowered s as' f ps rs t b d.0 (refusing_ok f _ d.0 d.1) in
      let more = then_more_ok (lowered_declarations s ds) (λ more. Ok (d.0 ∷ more)) low d.2 in
      let same : d.0 ∷ more.0 ≡ low = cc in
      ap (find_decl x) (sym same) ∙ ap (λ y. if bytes_eq x y then Some d.0 else find_decl x more.0) (ap declared_name (sym l.is))
      ∙ step_none (bytes_eq x f) (function as' f ps rs t b) (find_decl x ds) (find_decl x more.0) e (gone_too ds more.0 more.1 x) d.0

  past_variable : {X : Type 0} (c : Bool) (attributes : List Attr) (kind : DeclarationKind) (y : Name) (type : Option Typ) (i : Option Exp) (o : Option Decl) (d : Decl) → (variable attributes kind y type i ≡ d → ⊥) →
      (if c then Some (variable attributes kind y type i) else o) ≡ Some d → (o ≡ Some d → X) → X
  past_variable true attributes kind y type i o d differ e go = absurd (differ (cc))
  past_variable false attributes kind y type i o d differ e go = go e

  pub found_too : (ds low : List Decl) → lowered_declarations s ds ≡ Ok low → (x : Name) (as' : List Attr) (f : Name) (ps : List Param) (rs : List Attr) (t : Option Typ) (b : Block) →
      find_decl x ds ≡ Some (function as' f ps rs t b) → (d : Decl) × (find_decl x low ≡ Some d) × IsLowered s as' f ps rs t b d
  found_too [] low h x as' f ps rs t b e = absurd (cc)
  found_too (variable attributes kind y type i ∷ ds) low h x as' f ps rs t b e =
      past_variable (bytes_eq x y) attributes kind y type i (find_decl x ds) (function as' f ps rs t b) (λ e. cc) e (found_too ds low h x as' f ps rs t b)
  found_too (function as2 g qs rs2 t2 b2 ∷ ds) low h x as' f ps rs t b e =
      let d = then_more_ok (refusing g (lowered_function s as2 g qs rs2 t2 b2)) (λ d. then_more (lowered_declarations s ds) (λ more. Ok (d ∷ more))) low h in
      let l = is_lowered s as2 g qs rs2 t2 b2 d.0 (refusing_ok g _ d.0 d.1) in
      let more = then_more_ok (lowered_declarations s ds) (λ more. Ok (d.0 ∷ more)) low d.2 in
      let same : d.0 ∷ more.0 ≡ low = cc in
      let r = at (bytes_eq x g) d.0 more.0 l (found_too ds more.0 more.1 x as' f ps rs t b) e in
      (r.0, ap (find_decl x) (sym same) ∙ ap (λ y. if bytes_eq x y then Some d.0 else find_decl x more.0) (ap declared_name (sym l.is)) ∙ r.1, r.2)
    where
      Found : Option Decl → Type 0
      Found o = (d : Decl) × (o ≡ Some d) × IsLowered s as' f ps rs t b d

      at : (c : Bool) (d : Decl) (more : List Decl) → IsLowered s as2 g qs rs2 t2 b2 d → (find_decl x ds ≡ Some (function as' f ps rs t b) → (d : Decl) × (find_decl x more ≡ Some d) × IsLowered s as' f ps rs t b d) →
          (if c then Some (function as2 g qs rs2 t2 b2) else find_decl x ds) ≡ Some (function as' f ps rs t b) → (e : Decl) × ((if c then Some d else find_decl x more) ≡ Some e) × IsLowered s as' f ps rs t b e
      at true d more l go e =
          let e1 : as2 ≡ as' = cc in
          let e2 : g ≡ f = cc in
          let e3 : qs ≡ ps = cc in
          let e4 : rs2 ≡ rs = cc in
          let e5 : t2 ≡ t = cc in
          let e6 : b2 ≡ b = cc in (
            d,
            refl,
            subst (λ z. IsLowered s z f ps rs t b d) e1 (subst (λ z. IsLowered s as2 z ps rs t b d) e2 (subst (λ z. IsLowered s as2 g z rs t b d) e3
                (subst (λ z. IsLowered s as2 g qs z t b d) e4 (subst (λ z. IsLowered s as2 g qs rs2 z b d) e5 (subst (λ z. IsLowered s as2 g qs rs2 t2 z d) e6 l))))),
          )
      at false d more l go e = go e

  -- a lowered unit declares no values
  pub only_functions : (ds low : List Decl) → lowered_declarations s ds ≡ Ok low → (x : Name) → is_value (find_decl x low) ≡ false
  only_functions [] low h x = let same : [] ≡ low = cc in ap (λ l. is_value (find_decl x l)) (sym same)
  only_functions (variable attributes kind z type i ∷ ds) low h x = only_functions ds low h x
  only_functions (function as' f ps rs t b ∷ ds) low h x =
      let d = then_more_ok (refusing f (lowered_function s as' f ps rs t b)) (λ d. then_more (lowered_declarations s ds) (λ more. Ok (d ∷ more))) low h in
      let l = is_lowered s as' f ps rs t b d.0 (refusing_ok f _ d.0 d.1) in
      let more = then_more_ok (lowered_declarations s ds) (λ more. Ok (d.0 ∷ more)) low d.2 in
      let same : function l.attributes f l.parameters l.result t (cleared (does_nothing l.attributes l.parameters t) l.block) ∷ more.0 ≡ low = cc in
      ap (λ z. is_value (find_decl x z)) (sym same) ∙ at (bytes_eq x f) l more.0 (only_functions ds more.0 more.1 x)
    where
      at : {d : Decl} (c : Bool) (l : IsLowered s as' f ps rs t b d) (more : List Decl) → is_value (find_decl x more) ≡ false →
          is_value (if c then Some (function l.attributes f l.parameters l.result t (cleared (does_nothing l.attributes l.parameters t) l.block)) else find_decl x more) ≡ false
      at true l more e = refl
      at false l more e = e

-- ---- clear names

not_first : (b : Bool) (x y : Name) (d : Decl) (o : Option Decl) → bytes_eq x y ≡ b → (y ≡ x → ⊥) → o ≡ None → (if b then Some d else o) ≡ None
not_first true x y d o h differ e = absurd (differ (sym (same_text x y (sym h))))
not_first false x y d o h differ e = e

pub clear_declaration : (x : Name) → ((y : Name) → is_clear y → y ≡ x → ⊥) → (ds : List Decl) → AreClear ds → find_decl x ds ≡ None
clear_declaration x never [] c = refl
clear_declaration x never (variable attributes kind y type e ∷ ds) c = not_first (bytes_eq x y) x y _ _ refl (never y c.0) (clear_declaration x never ds c.1)
clear_declaration x never (function as' f ps rs t body ∷ ds) c = not_first (bytes_eq x f) x f _ _ refl (never f c.0.0) (clear_declaration x never ds c.1)

either_clear : (k : Bool) (as2 : List Attr) (g : Name) (qs : List Param) (rs2 : List Attr) (t2 : Option Typ) (b2 : Block) (o : Option Decl) (as' : List Attr) (f : Name) (ps : List Param) (rs : List Attr) (t : Option Typ) (b : Block) →
    ClearParameters qs → (o ≡ Some (function as' f ps rs t b) → ClearParameters ps) → (if k then Some (function as2 g qs rs2 t2 b2) else o) ≡ Some (function as' f ps rs t b) → ClearParameters ps
either_clear true as2 g qs rs2 t2 b2 o as' f ps rs t b c go e = let same : qs ≡ ps = cc in subst ClearParameters same c
either_clear false as2 g qs rs2 t2 b2 o as' f ps rs t b c go e = go e

either_past : {X : Type 0} (k : Bool) (attributes : List Attr) (kind : DeclarationKind) (y : Name) (type : Option Typ) (i : Option Exp) (o : Option Decl) (d : Decl) → (variable attributes kind y type i ≡ d → ⊥) →
    (o ≡ Some d → X) → (if k then Some (variable attributes kind y type i) else o) ≡ Some d → X
either_past true attributes kind y type i o d differ go e = absurd (differ (cc))
either_past false attributes kind y type i o d differ go e = go e

pub clear_found : (ds : List Decl) (x : Name) (as' : List Attr) (f : Name) (ps : List Param) (rs : List Attr) (t : Option Typ) (b : Block) → AreClear ds → find_decl x ds ≡ Some (function as' f ps rs t b) → ClearParameters ps
clear_found [] x as' f ps rs t b c e = absurd (cc)
clear_found (variable attributes kind y type i ∷ ds) x as' f ps rs t b c e =
    either_past (bytes_eq x y) attributes kind y type i (find_decl x ds) (function as' f ps rs t b) (λ e. cc) (clear_found ds x as' f ps rs t b c.1) e
clear_found (function as2 g qs rs2 t2 b2 ∷ ds) x as' f ps rs t b c e =
    either_clear (bytes_eq x g) as2 g qs rs2 t2 b2 (find_decl x ds) as' f ps rs t b c.0.1 (clear_found ds x as' f ps rs t b c.1) e

pub clear_types : (y : Name) (s : Scope) (ps : List Param) (ts : Types) → ((p : Param) → is_clear p.name → p.name ≡ y → ⊥) → ClearParameters ps → parameter_types s ps ≡ Ok ts → find y ts ≡ None
clear_types y s [] ts never c h = let same : [] ≡ ts = cc in ap (find y) (sym same)
clear_types y s (p ∷ ps) ts never c h =
    let t = then_ok (type_here s p.type) (λ t. and_then (parameter_types s ps) (λ more. Ok ((p.name, t) ∷ more))) ts h in
    let more = then_ok (parameter_types s ps) (λ more. Ok ((p.name, t.0) ∷ more)) ts t.2 in
    let same : (p.name, t.0) ∷ more.0 ≡ ts = cc in
    ap (find y) (sym same) ∙ at (bytes_eq y p.name) refl t.0 more.0 (clear_types y s ps more.0 never c.1 more.1)
  where
    at : (b : Bool) → bytes_eq y p.name ≡ b → (t : ScalarType) (more : Types) → find y more ≡ None → (if b then Some t else find y more) ≡ None
    at true e t more go = absurd (never p c.0 (sym (same_text y p.name (sym e))))
    at false e t more go = go

-- ---- what an outcome says of its parts

pub after_done : {A : Type 0} (n : ℕ) (o : Outcome A) (y : A) (m : ℕ) → after n o ≡ Done y m → (l : ℕ) × (o ≡ Done y l)
after_done n (Done x k) y m e = let same : x ≡ y = cc in (k, ap (λ z. Done z k) same)
after_done n (Failed f) y m e = absurd (cc)
after_done n Deep y m e = absurd (cc)

pub record Parts (A B : Type 0) (o : Outcome A) (f : A → Outcome B) (y : B) : Type 0 where
  pub first : A
  pub steps : ℕ
  pub first_is : o ≡ Done first steps
  pub more : ℕ
  pub then_is : f first ≡ Done y more

pub parts_of : (A B : Type 0) (o : Outcome A) (f : A → Outcome B) (y : B) (m : ℕ) → bind o f ≡ Done y m → Parts A B o f y
parts_of A B (Done x n) f y m e = let r = after_done n (f x) y m e in record { first = x; steps = n; first_is = refl; more = r.0; then_is = r.1 }
parts_of A B (Failed g) f y m e = absurd (cc)
parts_of A B Deep f y m e = absurd (cc)
