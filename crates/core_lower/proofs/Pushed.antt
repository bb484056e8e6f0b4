-- One declaration after the other.
use Rattle.std.proofs.Common.{◌≡◌, List, [], ◌∷◌, ◌++◌, Result, Ok, Err, refl, sym, ap, ◌∙◌, append_assoc}
use Rattle.core_syntax.specs.Tree.{Decl, variable, function}
use Rattle.core_meaning.specs.ConstStage.{Scope}
use Rattle.core_eval.specs.declared.error.DeclarationFault.{DeclarationFault}
use Rattle.core_eval.specs.Start.{then_more}
use Rattle.core_lower_expressions.specs.Computed.{refusing, lowered_function, lowered_declarations, all_pushed}

abbrev before : List Decl → Result (List Decl) DeclarationFault → Result (List Decl) DeclarationFault
before done (Ok ds) = Ok (done ++ ds)
before done (Err r) = Err r

none_before : (o : Result (List Decl) DeclarationFault) → before [] o ≡ o
none_before (Ok ds) = refl
none_before (Err r) = refl

one_before : (done : List Decl) (d : Decl) (o : Result (List Decl) DeclarationFault) → before (done ++ d ∷ []) o ≡ before done (then_more o (λ more. Ok (d ∷ more)))
one_before done d (Ok ds) = ap Ok (append_assoc done (d ∷ []) ds)
one_before done d (Err r) = refl

nothing_after : (done : List Decl) → done ++ [] ≡ done
nothing_after [] = refl
nothing_after (d ∷ ds) = ap (λ l. d ∷ l) (nothing_after ds)

module _ (s : Scope) where
  after_one : (done ds : List Decl) (o : Result Decl DeclarationFault) → ((more : List Decl) → all_pushed s more ds ≡ before more (lowered_declarations s ds)) →
      then_more (then_more o (λ d. Ok (done ++ d ∷ []))) (λ more. all_pushed s more ds) ≡ before done (then_more o (λ d. then_more (lowered_declarations s ds) (λ more. Ok (d ∷ more))))
  after_one done ds (Ok d) h = h (done ++ d ∷ []) ∙ one_before done d (lowered_declarations s ds)
  after_one done ds (Err r) h = refl

  from : (ds done : List Decl) → all_pushed s done ds ≡ before done (lowered_declarations s ds)
  from [] done = ap Ok (sym (nothing_after done))
  from (variable attributes kind x type e ∷ ds) done = from ds done
  from (function attributes f parameters return_attributes type body ∷ ds) done =
      after_one done ds (refusing f (lowered_function s attributes f parameters return_attributes type body)) (from ds)

  pub all_pushed_is : (ds : List Decl) → all_pushed s [] ds ≡ lowered_declarations s ds
  all_pushed_is ds = from ds [] ∙ none_before (lowered_declarations s ds)
