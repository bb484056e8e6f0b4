-- Tokens that are not read have one reason for it, and such tokens are not read.
use Rattle.std.proofs.Common.{◌≡◌, ◌∙◌, refl, sym, ap, true, false, List, [], Option, Some, None, Err}
use Rattle.wgsl_templates.specs.declared.meaning.token.SpannedTemplateToken.{SpannedTemplateToken}
use Rattle.wgsl_base.specs.Tops.{first}
use Rattle.wgsl_grammar_tables.specs.Machine.{Outcome, read, stops, no_memory, Comes}
use Rattle.wgsl_token.specs.declared.fault.error.Refusal.TheVariants.{OutOfMemory}
use Rattle.wgsl_semantic_values.specs.declared.part.Part.{Part}
use Rattle.wgsl_lr_driver.specs.declared.phrase.Phrase.{Phrase}
use Rattle.wgsl_lr_driver.specs.declared.phrase.Failure.{Failure}
use Rattle.wgsl_lr_driver.specs.declared.driver.Start.{Start as From}
use Rattle.wgsl_lr_driver.specs.declared.answer.Unread.{Unread}
use Rattle.wgsl_lr_driver.specs.declared.answer.Unread.TheVariants.{Refused, Failed, FailedAtEnd, Unexpected}
use Rattle.wgsl_lr_driver.specs.Phrases.{grammar, number, tables_of}
use Rattle.wgsl_lr_driver.specs.Readings.{first_failed, stopping, IsFailed, in_tree, in_front, IsPart, Reads, is_refused}
use Rattle.wgsl_lr_driver.proofs.Answering.{derived_comes}
use Rattle.wgsl_lr_driver.proofs.Deterministic.{comes_once}

-- why no part is told of a tree; where no check fails in it, there is no reason but that the parser gave up
abbrev failing : Option Failure → Unread
failing None = Refused OutOfMemory
failing (Some f) = Failed f

-- why no part is told of what comes of tokens
abbrev reason_of : Outcome (Phrase Part) → List SpannedTemplateToken → Unread
reason_of (read x) left = failing x.failure
reason_of (stops stack) left = stopping (first_failed stack) (first left)
reason_of no_memory left = Refused OutOfMemory

-- something comes of the tokens, of which this is the reason
record Ends (s : From) (tokens : List SpannedTemplateToken) (r : Unread) : Type 0 where
  outcome : Outcome (Phrase Part)
  left : List SpannedTemplateToken
  comes : Comes grammar (tables_of s) (number s) [] tokens outcome left
  some : outcome ≡ no_memory → ⊥
  same : r ≡ reason_of outcome left

ends_failed : (s : From) (tokens : List SpannedTemplateToken) (f : Failure) → IsFailed s tokens f → Ends s tokens (Failed f)
ends_failed s tokens f (in_tree x derived e) = record { outcome = read x; left = []; comes = derived_comes s tokens x derived; some = λ h. absurd cc; same = ap failing (sym e) }
ends_failed s tokens f (in_front stack left next stopped c e n) =
    record { outcome = stops stack; left = left; comes = c; some = λ h. absurd cc; same = ap (stopping (Some f)) (sym n) ∙ ap (λ o. stopping o (first left)) (sym e) }

ends : (s : From) (tokens : List SpannedTemplateToken) (r : Unread) → Reads s tokens (Err r) → is_refused r ≡ false → Ends s tokens r
ends s tokens (Refused e) h told = absurd cc
ends s tokens (Failed f) h told = ends_failed s tokens f h
ends s tokens (FailedAtEnd f) h told = record {
  outcome = stops h.stack;
  left = h.left;
  comes = h.comes;
  some = λ e. absurd cc;
  same = ap (stopping (Some f)) (sym h.ended) ∙ ap (λ o. stopping o (first h.left)) (sym h.failed);
}
ends s tokens (Unexpected next) h told = record {
  outcome = stops h.stack;
  left = h.left;
  comes = h.comes;
  some = λ e. absurd cc;
  same = ap Unexpected h.first_left ∙ ap (λ o. stopping o (first h.left)) (sym h.passed);
}

pub unread_once : (s : From) (tokens : List SpannedTemplateToken) (r q : Unread) → Reads s tokens (Err r) → Reads s tokens (Err q) → is_refused r ≡ false → is_refused q ≡ false → q ≡ r
unread_once s tokens r q h k told tells =
    let e = ends s tokens r h told in
    let o = ends s tokens q k tells in
    let once = comes_once grammar (tables_of s) (number s) e.comes o.comes refl refl e.some o.some in
    o.same ∙ ap (λ x. reason_of x o.left) once.0 ∙ ap (reason_of e.outcome) once.1 ∙ sym e.same

pub read_apart : (s : From) (tokens : List SpannedTemplateToken) (part : Part) (r : Unread) → IsPart s tokens part → Reads s tokens (Err r) → is_refused r ≡ false → ⊥
read_apart s tokens part r p h told =
    let e = ends s tokens r h told in
    let once = comes_once grammar (tables_of s) (number s) (derived_comes s tokens p.phrase p.derived) e.comes refl refl (λ h. absurd cc) e.some in
    let same : r ≡ Refused OutOfMemory = e.same ∙ ap (λ x. reason_of x e.left) once.0 ∙ ap failing p.passed in
    let wrong : true ≡ false = sym (ap is_refused same) ∙ told in absurd cc
