-- What the parser's answers say of tokens.
use Rattle.std.proofs.Common.{◌≡◌, refl, sym, subst, ℕ, nat_lt, true, List, [], Option, Some, None, Result, Err}
use Rattle.wgsl_path.specs.declared.span.Span.{Span}
use Rattle.wgsl_templates.specs.declared.meaning.token.SpannedTemplateToken.{SpannedTemplateToken}
use Rattle.wgsl_base.specs.Tops.{first}
use Rattle.wgsl_grammar_tables.specs.declared.shift_reduce.machine.Entry.{Entry}
use Rattle.wgsl_grammar_tables.specs.Machine.{Outcome, read, stops, Comes}
use Rattle.wgsl_grammar_tables.specs.Laws.{IsRead, IsStopped, Answers}
use Rattle.wgsl_grammar_tables.proofs.Whole.{answers_are_exact, sentences_are_answered}
use Rattle.wgsl_grammar_tables.specs.Listed.{account}
use Rattle.wgsl_grammar_tables.specs.Decoded.{listed}
use Rattle.wgsl_grammar_tables.specs.Starts.{start}
use Rattle.wgsl_grammar_tables.proofs.Fits.{tables_fit}
use Rattle.wgsl_grammar_tables.proofs.Read.{from_is}
use Rattle.wgsl_grammar_tables.proofs.Examples as examples
use Rattle.wgsl_semantic_values.specs.declared.part.Part.{Part}
use Rattle.wgsl_lr_driver.specs.declared.phrase.Phrase.{Phrase}
use Rattle.wgsl_lr_driver.specs.declared.phrase.Failure.{Failure}
use Rattle.wgsl_lr_driver.specs.declared.driver.Start.{Start as From}
use Rattle.wgsl_lr_driver.specs.declared.driver.Start.TheVariants.{Module, Expression, Statement, Declaration, Directive, Import, Kind}
use Rattle.wgsl_lr_driver.specs.declared.answer.Unread.{Unread}
use Rattle.wgsl_lr_driver.specs.Phrases.{grammar, number, tables_of}
use Rattle.wgsl_lr_driver.specs.Readings.{goal_of, first_failed, passing, stopping, StopsAt, Derived, Reads, in_tree, in_front}

number_below : (s : From) → nat_lt (number s) 7 ≡ true
number_below Module = refl
number_below Expression = refl
number_below Statement = refl
number_below Declaration = refl
number_below Directive = refl
number_below Import = refl
number_below Kind = refl

a_place : Span
a_place = record { start = 0; end = 0 }

-- a token of each class
token_of : (c : ℕ) → nat_lt c listed.class_count ≡ true → (k : SpannedTemplateToken) × (grammar.class_of k ≡ c)
token_of c lt = let e = examples.each_class c lt in (record { token = e.0; span = a_place }, e.1)

answers : (s : From) (tokens left : List SpannedTemplateToken) (r : Outcome (Phrase Part)) → Comes grammar (tables_of s) (number s) [] tokens r left → Answers grammar (goal_of s) tokens r left
answers s tokens left r c =
    let b = start (number s) in
    answers_are_exact grammar (tables_of s) (account listed b) b.from b.rule b.sentence b.goal (tables_fit grammar (λ p. refl) token_of (number s) (number_below s)) tokens left r
    (subst (λ n. Comes grammar (tables_of s) n [] tokens r left) (sym (from_is (number s))) c)

-- What tokens derive comes of them.
pub derived_comes : (s : From) (tokens : List SpannedTemplateToken) (x : Phrase Part) → Derived s tokens x → Comes grammar (tables_of s) (number s) [] tokens (read x) []
derived_comes s tokens x h =
    let b = start (number s) in
    subst (λ n. Comes grammar (tables_of s) n [] tokens (read x) []) (from_is (number s))
    (sentences_are_answered grammar (tables_of s) (account listed b) b.from b.rule b.sentence b.goal (tables_fit grammar (λ p. refl) token_of (number s) (number_below s)) tokens x h.derives)

read_by : (s : From) (tokens : List SpannedTemplateToken) (x : Phrase Part) → IsRead grammar (goal_of s) tokens x → (o : Option Failure) → x.failure ≡ o → Reads s tokens (passing o x.part)
read_by s tokens x h None e = record { phrase = x; derived = h; passed = e; same = refl }
read_by s tokens x h (Some f) e = in_tree x h e

pub read_is : (s : From) (tokens left : List SpannedTemplateToken) (x : Phrase Part) → Comes grammar (tables_of s) (number s) [] tokens (read x) left → Reads s tokens (passing x.failure x.part)
read_is s tokens left x c = let a = answers s tokens left (read x) c in read_by s tokens x a.0 x.failure refl

failed_by : (s : From) (tokens left : List SpannedTemplateToken) (stack : List (Entry (Phrase Part))) → IsStopped grammar (goal_of s) tokens stack left → StopsAt s tokens stack left → (f : Failure)
    → first_failed stack ≡ Some f → (next : Option SpannedTemplateToken) → first left ≡ next → Reads s tokens (Err (stopping (Some f) next))
failed_by s tokens left stack h c f e None ended = record { stack = stack; left = left; stopped = h; comes = c; failed = e; ended = ended }
failed_by s tokens left stack h c f e (Some k) next = in_front stack left k h c e next

stopped_by : (s : From) (tokens left : List SpannedTemplateToken) (stack : List (Entry (Phrase Part))) → IsStopped grammar (goal_of s) tokens stack left → StopsAt s tokens stack left → (o : Option Failure)
    → first_failed stack ≡ o → Reads s tokens (Err (stopping o (first left)))
stopped_by s tokens left stack h c None e = record { stack = stack; left = left; stopped = h; comes = c; passed = e; first_left = refl }
stopped_by s tokens left stack h c (Some f) e = failed_by s tokens left stack h c f e (first left) refl

pub stopped_is : (s : From) (tokens left : List SpannedTemplateToken) (stack : List (Entry (Phrase Part))) → Comes grammar (tables_of s) (number s) [] tokens (stops stack) left
    → Reads s tokens (Err (stopping (first_failed stack) (first left)))
stopped_is s tokens left stack c = stopped_by s tokens left stack (answers s tokens left (stops stack) c) c (first_failed stack) refl

-- ---- the same for tokens and a state that are said to be these

pub read_said : (s : From) (tokens given : List SpannedTemplateToken) (from : ℕ) (x : Phrase Part) (r : Result Part Unread) → given ≡ tokens → from ≡ number s
    → (left : List SpannedTemplateToken) × Comes grammar (tables_of s) from [] given (read x) left → r ≡ passing x.failure x.part → Reads s tokens r
read_said s tokens given from x r same begin c e =
    subst (λ r. Reads s tokens r) (sym e)
    (read_is s tokens c.0 x (subst (λ n. Comes grammar (tables_of s) n [] tokens (read x) c.0) begin (subst (λ l. Comes grammar (tables_of s) from [] l (read x) c.0) same c.1)))

pub stopped_said : (s : From) (tokens given left : List SpannedTemplateToken) (from : ℕ) (stack : List (Entry (Phrase Part))) (r : Unread) → given ≡ tokens → from ≡ number s
    → Comes grammar (tables_of s) from [] given (stops stack) left → r ≡ stopping (first_failed stack) (first left) → Reads s tokens (Err r)
stopped_said s tokens given left from stack r same begin c e =
    subst (λ r. Reads s tokens (Err r)) (sym e)
    (stopped_is s tokens left stack
    (subst (λ n. Comes grammar (tables_of s) n [] tokens (stops stack) left) begin (subst (λ l. Comes grammar (tables_of s) from [] l (stops stack) left) same c)))
