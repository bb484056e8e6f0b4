use Rattle.std.proofs.Common.{arith, length, sym, ap}
use Rattle.wgsl_lex.proofs.Sizes.{size_parts}
use Rattle.wgsl_templates.proofs.Ascii.{front_bytes, back_bytes, behind_bytes}
use Rattle.wgsl_templates.proofs.ReadingLemmas.{lex_start, lex_trivia, lex_token, lex_all, stands_more}
use Rattle.wgsl_templates.proofs.Blanks.{lex_blank, lex_alone, lex_word, word_ends, found_word}
use Rattle.wgsl_templates.proofs.lexer.lex_characters.Goals as goal

pub loop-first-smaller-then-is_blankspace : goal.loop-first-smaller-then-is_blankspace
loop-first-smaller-then-is_blankspace g c = omega (arith, ap length c.in-Some.ensures.cases.0)

pub loop-first-preserved-then-is_blankspace : goal.loop-first-preserved-then-is_blankspace
loop-first-preserved-then-is_blankspace g c = (
  lex_blank _ _ _ _ _ _ _ c.loop-first.invariant.0 _ _ c.in-Some.ensures.cases.0 (sym c.if-is_blankspace.ensures) _ c.len_utf8-at.ensures.value,
  λ narrow. behind_bytes _ _ _ c.in-Some.ensures.cases.0 (c.loop-first.invariant.1 narrow),
)

pub push_token-requires : goal.push_token-requires
push_token-requires g c = omega (arith, c.requires.bounded, (word_ends _ _ _ c.loop-first.invariant.0.ends _ _ c.in-Some.ensures.cases.0 _ (found_word _ _ _ _ c.in_ok-word.ensures c.in-Some-2.is)).1)

pub overflow_add-at : goal.overflow_add-at
overflow_add-at g c = omega (arith, c.requires.bounded, (word_ends _ _ _ c.loop-first.invariant.0.ends _ _ c.in-Some.ensures.cases.0 _ (found_word _ _ _ _ c.in_ok-word.ensures c.in-Some-2.is)).1)

pub loop-first-smaller-in-Some-2 : goal.loop-first-smaller-in-Some-2
loop-first-smaller-in-Some-2 g c = omega (arith, c.split_at.ensures.back_len, (word_ends _ _ _ c.loop-first.invariant.0.ends _ _ c.in-Some.ensures.cases.0 _ (found_word _ _ _ _ c.in_ok-word.ensures c.in-Some-2.is)).2)

pub loop-first-preserved-in-Some-2 : goal.loop-first-preserved-in-Some-2
loop-first-preserved-in-Some-2 g c =
    let ends = word_ends _ _ _ c.loop-first.invariant.0.ends _ _ c.in-Some.ensures.cases.0 _ (found_word _ _ _ _ c.in_ok-word.ensures c.in-Some-2.is) in (
      lex_word _ _ _ _ _ _ _ c.loop-first.invariant.0 _ _ c.in-Some.ensures.cases.0 _ (found_word _ _ _ _ c.in_ok-word.ensures c.in-Some-2.is) _ c.split_at.ensures.back _ _ _ c.in_ok-after_word.ensures.taken c.in_ok-after_word.ensures.word c.in_ok-after_word.ensures.brackets,
      λ narrow. back_bytes _ _ _ _ c.split_at.ensures.front c.split_at.ensures.back ends.0 (c.loop-first.invariant.1 narrow),
    )

pub loop-first-preserved-in-Some-symbol_alone : goal.loop-first-preserved-in-Some-symbol_alone
loop-first-preserved-in-Some-symbol_alone g c = (
  lex_alone _ _ _ _ _ _ _ c.loop-first.invariant.0 _ _ c.in-Some.ensures.cases.0 c.in-Some-symbol_alone.ensures.ascii _ _ c.as_slice-list.ensures.value c.told_symbol-token.ensures _ _ _ c.in_ok-after_word-2.ensures.taken c.in_ok-after_word-2.ensures.word c.in_ok-after_word-2.ensures.brackets,
  λ narrow. behind_bytes _ _ _ c.in-Some.ensures.cases.0 (c.loop-first.invariant.1 narrow),
)

pub size_in-size-requires-clause-bytes : goal.size_in-size-requires-clause-bytes
size_in-size-requires-clause-bytes g c = λ narrow.
    front_bytes _ _ _ _ c.split_at-in-Some.ensures.front c.split_at-in-Some.ensures.back (omega (arith, ap length c.in-Some.ensures.cases.0, c.in_ok-piece.ensures.within)) (c.loop-first.invariant.1 narrow)

pub size_in-size-requires-clause-bounded : goal.size_in-size-requires-clause-bounded
size_in-size-requires-clause-bounded g c = omega (arith, c.loop-first.invariant.0.ends, size_parts _ _ _ _ c.split_at-in-Some.ensures.front c.split_at-in-Some.ensures.back)

pub overflow_add-end : goal.overflow_add-end
overflow_add-end g c = omega (arith, c.requires.bounded, c.loop-first.invariant.0.ends, size_parts _ _ _ _ c.split_at-in-Some.ensures.front c.split_at-in-Some.ensures.back, c.size_in-size.ensures)

pub push_token-requires-in-Some-token : goal.push_token-requires-in-Some-token
push_token-requires-in-Some-token g c = omega (arith, c.requires.bounded, c.loop-first.invariant.0.ends, size_parts _ _ _ _ c.split_at-in-Some.ensures.front c.split_at-in-Some.ensures.back, c.size_in-size.ensures)

pub loop-first-smaller-in_ok-after_word-3 : goal.loop-first-smaller-in_ok-after_word-3
loop-first-smaller-in_ok-after_word-3 g c = omega (arith, c.split_at-in-Some.ensures.back_len, stands_more _ _ _ _ (c.in_ok-piece.ensures.first 0))

pub loop-first-preserved-in_ok-after_word-3 : goal.loop-first-preserved-in_ok-after_word-3
loop-first-preserved-in_ok-after_word-3 g c = (
  lex_token _ _ _ _ _ _ _ c.loop-first.invariant.0 _ _ c.in-Some.ensures.cases.0 _ _ _ c.split_at-in-Some.ensures.front c.split_at-in-Some.ensures.back _ c.size_in-size.ensures _ c.as_slice-list-in-Some.ensures.value _ c.in_ok-piece.ensures.first _ _ _ _ c.in-Some-token.is c.in_ok-after_word-3.ensures.taken c.in_ok-after_word-3.ensures.word c.in_ok-after_word-3.ensures.brackets,
  λ narrow. back_bytes _ _ _ _ c.split_at-in-Some.ensures.front c.split_at-in-Some.ensures.back (omega (arith, ap length c.in-Some.ensures.cases.0, c.in_ok-piece.ensures.within)) (c.loop-first.invariant.1 narrow),
)

pub loop-first-smaller : goal.loop-first-smaller
loop-first-smaller g c = omega (arith, c.split_at-in-Some.ensures.back_len, stands_more _ _ _ _ (c.in_ok-piece.ensures.first 0))

pub loop-first-preserved : goal.loop-first-preserved
loop-first-preserved g c = (
  lex_trivia _ _ _ _ _ _ _ c.loop-first.invariant.0 _ _ c.in-Some.ensures.cases.0 _ _ _ c.split_at-in-Some.ensures.front c.split_at-in-Some.ensures.back _ c.size_in-size.ensures _ c.as_slice-list-in-Some.ensures.value _ c.in_ok-piece.ensures.first c.in_default-token.is,
  λ narrow. back_bytes _ _ _ _ c.split_at-in-Some.ensures.front c.split_at-in-Some.ensures.back (omega (arith, ap length c.in-Some.ensures.cases.0, c.in_ok-piece.ensures.within)) (c.loop-first.invariant.1 narrow),
)

pub returns : goal.returns
returns g c = lex_all _ _ _ _ _ _ _ c.loop-first.invariant.0 c.in_default.ensures.cases

pub loop-first-init : goal.loop-first-init
loop-first-init g c = (
  lex_start _ _ _ _ c.requires.table c.requires.covered c.new-opened.ensures.items c.requires.empty,
  c.requires.bytes,
)
