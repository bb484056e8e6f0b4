use Rattle.std.proofs.Common.{◌≡◌, true, false, refl}
use Rattle.wgsl_lex.proofs.Floats.{suffix_refused, suffix_f, suffix_h, suffix_missing}
use Rattle.wgsl_lex.proofs.number.suffixed_float.Goals as goal

pub returns-then-not-takes_suffix : goal.returns-then-not-takes_suffix
returns-then-not-takes_suffix c = suffix_refused _ _ _ c.requires c.if-not-takes_suffix.true

pub returns-then-is_at : goal.returns-then-is_at
returns-then-is_at c = suffix_f _ _ _ _ c.requires c.if-not-takes_suffix.false (c.if-is_at.ensures.0 refl) c.in_ok-text_of.ensures

pub returns-then-is_at-2 : goal.returns-then-is_at-2
returns-then-is_at-2 c = suffix_h _ _ _ _ c.requires c.if-not-takes_suffix.false (c.if-is_at-2.ensures.0 refl) c.in_ok-text_of-2.ensures

pub returns : goal.returns
returns c = suffix_missing _ _ (λ e. let h : false ≡ true = c.if-is_at.ensures.1 e in cc) (λ e. let h : false ≡ true = c.if-is_at-2.ensures.1 e in cc)
