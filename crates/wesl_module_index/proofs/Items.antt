-- Items of imports, one after another.
use Rattle.std.proofs.Common.{◌≡◌, refl, sym, ap, ◌∙◌, subst, ℕ, zero, suc, ◌+◌, ◌<◌, ◌⊎◌, inl, inr, List, [], ◌∷◌, ◌++◌, length, map, take, Bool, Option, Some, None, slice_get, get_or, arith, append_assoc}
use Rattle.std.specs.Prelude.{string_bytes}
use Rattle.std.specs.Option.{option_map}
use Rattle.std.specs.List.{All, Contains, flat_map}
use Rattle.std.proofs.lemmas.List.{append-nil, map-append, length-append, length-map, take_more}
use Rattle.wgsl_path.specs.declared.path.ModulePath.{ModulePath}
use Rattle.wgsl_declarations.specs.declared.imports.import.ImportOf.{ImportOf}
use Rattle.wgsl_declarations.specs.declared.imports.import.ImportContent.{ImportContent}
use Rattle.wgsl_declarations.specs.ImportsTree.{imps}
use Rattle.wgsl_declarations.specs.ImportsView.{content_tree, import_tree}
use Rattle.wesl_module_index.specs.declared.error.ImportError.{ImportError}
use Rattle.wesl_module_index.specs.declared.error.ImportError.TheVariants.{DuplicateSymbol, OutOfMemory}
use Rattle.wesl_module_index.specs.declared.imports.Names.{Names}
use Rattle.wesl_module_index.specs.declared.module.Meaning.TheVariants.{Imported}
use Rattle.wesl_module_index.specs.declared.target.Target.{Target}
use Rattle.wesl_module_index.specs.declared.target.ImportItem.{ImportItem}
use Rattle.wesl_chains.specs.Outlines.{Item}
use Rattle.wesl_linking_spec.specs.Outlining.{longer, items_in, all_items_in}
use Rattle.wesl_linking_spec.specs.Loading.{IsFirstAgain}
use Rattle.wesl_module_index.specs.Tables.{import_of, import_said, target_at}
use Rattle.wesl_module_index.specs.Naming.{Meant, names_in, IsScope, numbered, locals_of, printed_at, IsWithin, HasTarget, IsTarget, OnlyMore, IsAdded, IsGathered, AreGathered, IsRefused, nested_items}
use Rattle.wesl_module_index.proofs.Bits.{all_none, all_head, all_tail, all_cons, all_push}
use Rattle.wesl_module_index.proofs.Scopes.{again_more, again_here}

-- ---- more targets

pub get_kept : (ts more : List Target) (n : ℕ) → n < length ts → slice_get (ts ++ more) n ≡ slice_get ts n
get_kept [] more n lt = absurd (omega arith)
get_kept (t ∷ ts) more zero lt = refl
get_kept (t ∷ ts) more (suc n) lt = let less : n < length ts = omega arith in get_kept ts more n less

pub target_kept : (ts us : List Target) (n : Option ℕ) → OnlyMore ts us → IsWithin ts n → target_at us n ≡ target_at ts n
target_kept ts us None more within = refl
target_kept ts us (Some n) more within = ap (λ l. slice_get l n) more.1 ∙ get_kept ts more.0 n within

within_kept : (ts us : List Target) (n : Option ℕ) → OnlyMore ts us → IsWithin ts n → IsWithin us n
within_kept ts us None more within = tt
within_kept ts us (Some n) more within = let long = ap length more.1 ∙ length-append ts more.0 in omega (arith, long, within)

pub has_kept : (ts us : List Target) (n : Option ℕ) (base : Option ModulePath) → OnlyMore ts us → HasTarget ts n base → HasTarget us n base
has_kept ts us None base more h = tt
has_kept ts us (Some n) base more h =
    (within_kept ts us (Some n) more h.0, ap (option_map (λ (t : Target). string_bytes t.printed_path)) (target_kept ts us (Some n) more h.0) ∙ h.1)

pub same_more : (ts us : List Target) → us ≡ ts → OnlyMore ts us
same_more ts us e = ([], e ∙ sym (append-nil ts))

pub then_more : (ts us vs : List Target) → OnlyMore ts us → OnlyMore us vs → OnlyMore ts vs
then_more ts us vs a b = (a.0 ++ b.0, b.1 ∙ ap (λ l. l ++ b.0) a.1 ∙ append_assoc ts a.0 b.0)

said_kept : (ts us : List Target) (i : ImportItem) → OnlyMore ts us → IsWithin ts i.«module» → import_said us i ≡ import_said ts i
said_kept ts us i more within =
    ap (λ (o : Option Target). record { home = option_map (λ (t : Target). string_bytes t.printed_path) o; last = i.name; is_published = i.is_published }) (target_kept ts us i.«module» more within)

all_said_kept : (ts us : List Target) (is : List ImportItem) → OnlyMore ts us → All (λ (i : ImportItem). IsWithin ts i.«module») is → map (import_said us) is ≡ map (import_said ts) is
all_said_kept ts us [] more h = refl
all_said_kept ts us (i ∷ is) more h =
    ap (λ x. x ∷ map (import_said us) is) (said_kept ts us i more (all_head (λ (i : ImportItem). IsWithin ts i.«module») i is h))
    ∙ ap (λ xs. import_said ts i ∷ xs) (all_said_kept ts us is more (all_tail (λ (i : ImportItem). IsWithin ts i.«module») i is h))

all_within_kept : (ts us : List Target) (is : List ImportItem) → OnlyMore ts us → All (λ (i : ImportItem). IsWithin ts i.«module») is → All (λ (i : ImportItem). IsWithin us i.«module») is
all_within_kept ts us [] more h = all_none (λ (i : ImportItem). IsWithin us i.«module»)
all_within_kept ts us (i ∷ is) more h =
    all_cons (λ (i : ImportItem). IsWithin us i.«module») i is (within_kept ts us i.«module» more (all_head (λ (i : ImportItem). IsWithin ts i.«module») i is h))
    (all_within_kept ts us is more (all_tail (λ (i : ImportItem). IsWithin ts i.«module») i is h))

-- ---- one item more

numbered_push : (n : ℕ) (is : List Item) (i : Item) → numbered n (is ++ i ∷ []) ≡ numbered n is ++ (i.local, Imported (n + length is)) ∷ []
numbered_push n [] i = let here : n ≡ n + 0 = omega arith in ap (λ k. (i.local, Imported k) ∷ []) here
numbered_push n (j ∷ is) i =
    let here : (n + 1) + length is ≡ n + suc (length is) = omega arith in
    ap (λ l. (j.local, Imported n) ∷ l) (numbered_push (n + 1) is i ∙ ap (λ k. numbered (n + 1) is ++ (i.local, Imported k) ∷ []) here)

pub names_numbered : (n : ℕ) (is : List Item) → names_in (numbered n is) ≡ locals_of is
names_numbered n [] = refl
names_numbered n (i ∷ is) = ap (λ l. i.local ∷ l) (names_numbered (n + 1) is)

pub item_gathered : (old mid new : Names) (i : Item) (m : Option ℕ) (it : ImportItem)
    → IsAdded old i.local (Imported (length old.items.items)) mid
    → new.path ≡ mid.path → new.scope ≡ mid.scope → OnlyMore mid.targets.items new.targets.items → new.items.items ≡ mid.items.items ++ it ∷ []
    → it.«module» ≡ m → it.name ≡ i.last → it.is_published ≡ i.is_published → IsTarget new.targets.items i.base m
    → AreGathered old (i ∷ []) new
item_gathered old mid new i m it added path scope more pushed is_module is_last is_published target = record {
  path = path ∙ added.path;
  targets = grown;
  items = λ items g. record {
    imports = ap (map (import_said new.targets.items)) whole
        ∙ map-append (import_said new.targets.items) old.items.items (it ∷ [])
        ∙ ap (λ l. l ++ import_said new.targets.items it ∷ []) (all_said_kept old.targets.items new.targets.items old.items.items grown g.within ∙ g.imports)
        ∙ ap (λ x. map import_of items ++ x ∷ []) one
        ∙ sym (map-append import_of items (i ∷ []));
    within = subst (All (λ (j : ImportItem). IsWithin new.targets.items j.«module»)) (sym whole)
        (all_push (λ (j : ImportItem). IsWithin new.targets.items j.«module») old.items.items it (all_within_kept old.targets.items new.targets.items old.items.items grown g.within)
        (subst (IsWithin new.targets.items) (sym is_module) target.within));
    scope = subst (λ s. IsScope s (numbered 0 (items ++ i ∷ []))) (sym scope)
        (subst (IsScope mid.scope) (sym (numbered_push 0 items i ∙ ap (λ k. numbered 0 items ++ (i.local, Imported k) ∷ []) (count items g))) (added.scope (numbered 0 items) g.scope));
  };
}
  where
    grown : OnlyMore old.targets.items new.targets.items
    grown = (more.0, more.1 ∙ ap (λ l. l ++ more.0) added.targets)

    whole : new.items.items ≡ old.items.items ++ it ∷ []
    whole = pushed ∙ ap (λ l. l ++ it ∷ []) added.items

    one : import_said new.targets.items it ≡ import_of i
    one = λ k. record { home = (ap (printed_at new.targets.items) is_module ∙ target.printed) k; last = is_last k; is_published = is_published k }

    count : (items : List Item) → IsGathered old items → 0 + length items ≡ length old.items.items
    count items g =
        let e : length items ≡ length old.items.items = sym (length-map items import_of) ∙ ap length (sym g.imports) ∙ length-map old.items.items (import_said old.targets.items) in
        omega (arith, e)

-- ---- more items

pub none_gathered : (n : Names) → AreGathered n [] n
none_gathered n = record { path = refl; targets = same_more n.targets.items n.targets.items refl; items = λ items g. subst (IsGathered n) (sym (append-nil items)) g }

pub then_gathered : (old mid new : Names) (xs ys : List Item) → AreGathered old xs mid → AreGathered mid ys new → AreGathered old (xs ++ ys) new
then_gathered old mid new xs ys a b = record {
  path = b.path ∙ a.path;
  targets = then_more old.targets.items mid.targets.items new.targets.items a.targets b.targets;
  items = λ items g. subst (IsGathered new) (append_assoc items xs ys) (b.items (items ++ xs) (a.items items g));
}

-- what is refused is refused with more behind it
pub refused_first : (old : Names) (xs ys : List Item) (e : ImportError) → IsRefused old xs e → IsRefused old (xs ++ ys) e
refused_first old xs ys e (inl memory) = inl memory
refused_first old xs ys e (inr h) = inr (λ items g.
    let r = h items g in
    (r.0, subst (λ l. IsFirstAgain l r.0) (sym (map-append (λ (i : Item). i.local) (items ++ xs) ys) ∙ ap locals_of (append_assoc items xs ys)) (again_more (locals_of (items ++ xs)) (locals_of ys) r.0 r.1), r.2))

-- and behind what was gathered
pub refused_later : (old mid : Names) (xs ys : List Item) (e : ImportError) → AreGathered old xs mid → IsRefused mid ys e → IsRefused old (xs ++ ys) e
refused_later old mid xs ys e a (inl memory) = inl memory
refused_later old mid xs ys e a (inr h) = inr (λ items g.
    let r = h (items ++ xs) (a.items items g) in
    (r.0, subst (λ l. IsFirstAgain (locals_of l) r.0) (append_assoc items xs ys) r.1, r.2 ∙ ap (λ p. DuplicateSymbol p r.0) a.path))

pub item_refused : (old : Names) (i : Item) (e : ImportError)
    → (e ≡ OutOfMemory) ⊎ ((e ≡ DuplicateSymbol old.path i.local) × ((ns : List Meant) → IsScope old.scope ns → Contains (names_in ns) i.local)) → IsRefused old (i ∷ []) e
item_refused old i e (inl memory) = inl memory
item_refused old i e (inr h) = inr (λ items g. (
  i.local,
  subst (λ l. IsFirstAgain l i.local) (ap (λ l. l ++ i.local ∷ []) (names_numbered 0 items) ∙ sym (map-append (λ (j : Item). j.local) items (i ∷ [])))
      (again_here (names_in (numbered 0 items)) i.local g.scope.distinct (h.1 (numbered 0 items) g.scope)),
  h.0,
))

-- ---- imports in braces

pub nested : (published : Bool) (base : Option ModulePath) (is : List (ImportOf ImportContent)) → all_items_in published base (imps (map import_tree is)) ≡ nested_items published base is
nested published base [] = refl
nested published base (i ∷ is) = ap (λ l. items_in published (longer base i.path) (content_tree i.content) ++ l) (nested published base is)

pub flat_append : {A B : Type 0} (f : A → List B) (xs ys : List A) → flat_map f (xs ++ ys) ≡ flat_map f xs ++ flat_map f ys
flat_append f [] ys = refl
flat_append f (x ∷ xs) ys = ap (λ l. f x ++ l) (flat_append f xs ys) ∙ sym (append_assoc (f x) (flat_map f xs) (flat_map f ys))

-- the first of them, with one more
pub flat_more : {A B : Type 0} (f : A → List B) (xs : List A) (k : ℕ) (x : A) → k < length xs → x ≡ get_or xs k x → flat_map f (take (k + 1) xs) ≡ flat_map f (take k xs) ++ f x
flat_more f xs k x lt is =
    ap (flat_map f) (take_more xs k x lt ∙ ap (λ y. take k xs ++ y ∷ []) (sym is)) ∙ flat_append f (take k xs) (x ∷ []) ∙ ap (λ l. flat_map f (take k xs) ++ l) (append-nil (f x))

-- all of them begin with the first and one more
pub flat_begins : {A B : Type 0} (f : A → List B) (xs : List A) (k : ℕ) (x : A) → k < length xs → x ≡ get_or xs k x → (rest : List B) × (flat_map f xs ≡ (flat_map f (take k xs) ++ f x) ++ rest)
flat_begins f [] k x lt is = absurd (omega arith)
flat_begins f (y ∷ xs) zero x lt is = (flat_map f xs, ap (λ z. f z ++ flat_map f xs) (sym is))
flat_begins f (y ∷ xs) (suc k) x lt is =
    let less : k < length xs = omega arith in
    let r = flat_begins f xs k x less is in
    (r.0, ap (λ l. f y ++ l) r.1 ∙ sym (append_assoc (f y) (flat_map f (take k xs) ++ f x) r.0) ∙ ap (λ l. l ++ r.0) (sym (append_assoc (f y) (flat_map f (take k xs)) (f x))))
