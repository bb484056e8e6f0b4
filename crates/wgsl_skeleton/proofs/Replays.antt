-- What a skeleton that is laid out flat says.
use Rattle.std.proofs.Common.{◌≡◌, refl, sym, ap, ◌∙◌, List, [], ◌∷◌, ◌++◌, map, Option, Some, None, Bool, true, false, append_assoc}
use Rattle.std.proofs.lemmas.List.{append-nil}
use Rattle.std.specs.Prelude.{if◌then◌else◌}
use Rattle.wgsl_path.specs.declared.path.ModulePath.{ModulePath}
use Rattle.wgsl_skeleton.specs.Skeleton.{Name, Node, occurrence, local, scope, node, Nodes, nil, cons}
use Rattle.wgsl_skeleton.specs.Occurrences.{Occurrence, hidden_by, behind, occurrences, all_occurrences, outside}
use Rattle.wgsl_skeleton.specs.Flats.{Flat, leaves, flat, all_flat, Trail, names_on, outer, replayed, names_of, IsNoLocal, IsTidy, AreTidy, AreTidyParts, FlatSaysUses}
use Rattle.wgsl_skeleton.proofs.Agreeing.{outside-append}

abbrev after : Node → Trail → Trail
after (occurrence path x arguments) t = t
after (local x) t = Some x ∷ t
after (scope inside) t = t
after (node l inside) t = t

abbrev all_after : Nodes → Trail → Trail
all_after nil t = t
all_after (cons n rest) t = all_after rest (after n t)

names_after : (n : Node) (t : Trail) → names_on (after n t) ≡ behind (names_on t) n
names_after (occurrence path x arguments) t = refl
names_after (local x) t = refl
names_after (scope inside) t = refl
names_after (node l inside) t = refl

-- leaving takes off what was declared since
left_one : (n : Node) (t : Trail) → outer (after n t) ≡ outer t
left_one (occurrence path x arguments) t = refl
left_one (local x) t = refl
left_one (scope inside) t = refl
left_one (node l inside) t = refl

left_all : (ns : Nodes) (t : Trail) → outer (all_after ns t) ≡ outer t
left_all nil t = refl
left_all (cons n rest) t = left_all rest (after n t) ∙ left_one n t

map-append : {X Y : Type 0} (f : X → Y) (xs ys : List X) → map f (xs ++ ys) ≡ map f xs ++ map f ys
map-append f [] ys = refl
map-append f (x ∷ xs) ys = ap (λ l. f x ∷ l) (map-append f xs ys)

abbrev says : List Occurrence → List (Option ModulePath × Name)
says os = names_of (outside os)

says-append : (xs ys : List Occurrence) → says (xs ++ ys) ≡ says xs ++ says ys
says-append xs ys = ap names_of (outside-append xs ys) ∙ map-append (λ o. (o.path, o.name)) (outside xs) (outside ys)

no_local_after : (n : Node) (t : Trail) → IsNoLocal n → after n t ≡ t
no_local_after (occurrence path x arguments) t h = refl
no_local_after (local x) t h = absurd h
no_local_after (scope inside) t h = refl
no_local_after (node l inside) t h = refl

parts_after : (ns : Nodes) (t : Trail) → AreTidyParts ns → all_after ns t ≡ t
parts_after nil t h = refl
parts_after (cons n rest) t h = parts_after rest (after n t) h.2 ∙ no_local_after n t h.0

parts_tidy : (ns : Nodes) → AreTidyParts ns → AreTidy ns
parts_tidy nil h = tt
parts_tidy (cons n rest) h = (h.1, parts_tidy rest h.2)

mutual
  node_says : (n : Node) (ms : List Flat) (t : Trail) → IsTidy n → replayed (flat n ++ ms) t ≡ says (occurrences (names_on t) n) ++ replayed ms (after n t)
  node_says (occurrence path x arguments) ms t h =
      at (hidden_by path x (names_on t)) (nodes_say arguments ms t (parts_tidy arguments h) ∙ ap (λ v. says (all_occurrences (names_on t) arguments) ++ replayed ms v) (parts_after arguments t h))
    where
      at : (b : Bool) → replayed (all_flat arguments ++ ms) t ≡ says (all_occurrences (names_on t) arguments) ++ replayed ms t
          → (if b then replayed (all_flat arguments ++ ms) t else (path, x) ∷ replayed (all_flat arguments ++ ms) t)
          ≡ names_of (if b then outside (all_occurrences (names_on t) arguments) else record { path = path; name = x; locals = names_on t } ∷ outside (all_occurrences (names_on t) arguments)) ++ replayed ms t
      at true e = e
      at false e = ap (λ l. (path, x) ∷ l) e
  node_says (local x) ms t h = refl
  node_says (scope inside) ms t h =
      ap (λ l. replayed l (None ∷ t)) (append_assoc (all_flat inside) (leaves ∷ []) ms)
      ∙ nodes_say inside (leaves ∷ ms) (None ∷ t) h
      ∙ ap (λ v. says (all_occurrences (names_on t) inside) ++ replayed ms v) (left_all inside (None ∷ t))
  node_says (node l inside) ms t h =
      nodes_say inside ms t (parts_tidy inside h) ∙ ap (λ v. says (all_occurrences (names_on t) inside) ++ replayed ms v) (parts_after inside t h)

  nodes_say : (ns : Nodes) (ms : List Flat) (t : Trail) → AreTidy ns → replayed (all_flat ns ++ ms) t ≡ says (all_occurrences (names_on t) ns) ++ replayed ms (all_after ns t)
  nodes_say nil ms t h = refl
  nodes_say (cons n rest) ms t h =
      ap (λ l. replayed l t) (append_assoc (flat n) (all_flat rest) ms)
      ∙ node_says n (all_flat rest ++ ms) t h.0
      ∙ ap (λ l. says (occurrences (names_on t) n) ++ l) (nodes_say rest ms (after n t) h.1)
      ∙ ap (λ v. says (occurrences (names_on t) n) ++ (says (all_occurrences v rest) ++ replayed ms (all_after rest (after n t)))) (names_after n t)
      ∙ sym (append_assoc (says (occurrences (names_on t) n)) (says (all_occurrences (behind (names_on t) n) rest)) (replayed ms (all_after rest (after n t))))
      ∙ ap (λ l. l ++ replayed ms (all_after rest (after n t))) (sym (says-append (occurrences (names_on t) n) (all_occurrences (behind (names_on t) n) rest)))

pub flat_says_uses : FlatSaysUses
flat_says_uses n k h =
    ap (λ l. replayed l []) (sym (append-nil (flat n))) ∙ node_says n [] [] h ∙ ap (λ v. says (occurrences [] n) ++ replayed [] v) (no_local_after n [] k)
    ∙ append-nil (says (occurrences [] n))
