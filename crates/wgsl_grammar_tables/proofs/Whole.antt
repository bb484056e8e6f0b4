-- The answer of a parser is exact.
use Rattle.std.proofs.Common.{◌≡◌, ◌∙◌, sym, subst, ℕ, refl, List, []}
use Rattle.std.proofs.lemmas.List.{append_cancel_right}
use Rattle.wgsl_grammar_tables.specs.Grammars.{Grammar}
use Rattle.wgsl_grammar_tables.specs.declared.shift_reduce.machine.Entry.{Entry}
use Rattle.wgsl_grammar_tables.specs.Machine.{Tables, Outcome, read, stops, no_memory, Comes}
use Rattle.wgsl_grammar_tables.specs.Fit.{Account, IsFit}
use Rattle.wgsl_grammar_tables.specs.Laws.{IsBegun, Phrases, no_phrase, one_more, Answers, AnswersAreExact, SentencesAreAnswered, TreesAreUnique}
use Rattle.wgsl_grammar_tables.proofs.Replays.{replays}
use Rattle.wgsl_grammar_tables.proofs.Exact.{sentence_read, sentence_comes, one_tree, not_stopped}
use Rattle.wgsl_grammar_tables.proofs.Sound.{Built, bottom, pushed, Viable, said}

module _ {T V : Type 0} (g : Grammar T V) (a : Tables) (w : Account) (from start sentence goal : ℕ) (f : IsFit g a w from start sentence goal) where
  begun : (front : List T) → Viable g a w from start sentence goal f front → IsBegun g goal front
  begun front v = record { more = v.more; value = v.value; derives = v.stands }

  phrases : {es : List (Entry V)} {u : List T} → Built g a w from start sentence goal f es u → Phrases g goal es u
  phrases bottom = no_phrase
  phrases (pushed t s x b step h) = one_more (record { state = t; value = x }) s (phrases b) h

  exact : (tokens left : List T) (r : Outcome V) → Comes g a from [] tokens r left → Answers g goal tokens r left
  exact tokens left (read x) c =
      let h = said g a w from start sentence goal f bottom c in
      (record { derives = h.0; only = λ y k. one_tree g a w from start sentence goal f h.0 k }, h.1)
  exact tokens left (stops es) c =
      let h = said g a w from start sentence goal f bottom c in
      let again = replays g a from c es refl in
      let same : h.front ≡ again.front = append_cancel_right h.front again.front left (sym h.whole ∙ again.whole) in
      record {
        front = again.front;
        whole = again.whole;
        phrases = phrases (subst (λ l. Built g a w from start sentence goal f es l) same h.built);
        begun = begun again.front (subst (λ l. Viable g a w from start sentence goal f l) same h.viable);
        dead = λ other x ahead_same d. not_stopped g a w from start sentence goal f es x (sentence_read g a w from start sentence goal f d (again.again other ahead_same));
      }
  exact tokens left no_memory c = tt

pub answers_are_exact : {T V : Type 0} → AnswersAreExact T V
answers_are_exact g a w from start sentence goal f tokens left r c = exact g a w from start sentence goal f tokens left r c

pub sentences_are_answered : {T V : Type 0} → SentencesAreAnswered T V
sentences_are_answered g a w from start sentence goal f tokens x h = sentence_comes g a w from start sentence goal f h

pub trees_are_unique : {T V : Type 0} → TreesAreUnique T V
trees_are_unique g a w from start sentence goal f tokens x y h k = one_tree g a w from start sentence goal f h k
