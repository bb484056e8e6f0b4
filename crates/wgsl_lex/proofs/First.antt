-- What stands first, from the parts that the code finds.
use Rattle.std.specs.Prelude.{◌≢◌, Option, Some, None, nat_lt, slice_get}
use Rattle.std.proofs.Common.{◌≡◌, ℕ, zero, suc, ◌+◌, ◌-◌, ◌*◌, ◌<◌, ◌≤◌, Bool, true, false, ◌&&◌, ◌||◌, ◌==◌, ◌⊎◌, inl, inr, List, [], ◌∷◌, ◌++◌, length, take, drop, get_or, refl, sym, ◌∙◌, ap, subst, arith, append_assoc, append-nil, add-one, length-drop}
use Rattle.std.specs.List.{list_all}
use Rattle.std.specs.Char.{is_ascii_digit, is_ascii_hexdigit}
use Rattle.unicode_ident.specs.Ident.{is_xid_start, is_xid_continue}
use Rattle.wgsl_token.specs.declared.token.Token.{Token}
use Rattle.wgsl_token.specs.declared.token.Token.TheVariants.{Fixed, Invalid}
use Rattle.wgsl_token.specs.declared.token.Fixed.{Fixed as FixedToken}
use Rattle.wgsl_lex.specs.declared.piece.Piece.{Piece}
use Rattle.wgsl_lex.specs.Tokens.{digit_value, is_blank, is_trivia, is_word, is_line_comment_tail, is_block_comment_tail, fixed_of, token_form, form, Form, trivia, token, NoLonger, IsLongest}
use Rattle.wgsl_lex.specs.Runs.{IsRun, IsLongestRun, IsLongestMagnitude, IsValue, is_no_line_break, begins_with_pair, value_behind}
use Rattle.wgsl_lex.specs.Pieces.{IsCommentAnswer, no_comment, comment, opens_word, StandsFirst, trivia_first, token_first, nothing_first, BeginsNothingElse, HasMagnitude, opens_comment, begins_with_continue, spelled_by_two, spelled_by_three, goes_on, opens_number}
use Rattle.wgsl_lex.specs.Floats.{is_mark}
use Rattle.wgsl_lex.proofs.Bools.{and_false, covered, covered_word, neither, not_both, is_number}
use Rattle.wgsl_lex.proofs.Tables.{begins_word}
use Rattle.wgsl_lex.proofs.Forms.{fixed_form, opens_less, no_form}
use Rattle.wgsl_lex.proofs.Longest.{longest_run, word_longest, blank_longest, line_comment_longest, block_comment_longest}
use Rattle.wgsl_lex.proofs.Numbers.{decimal_longest, hexadecimal_longest, zero_longest}
use Rattle.wgsl_lex.proofs.Symbols.{four_is_none}
use Rattle.wgsl_base.proofs.Bools.{and_both as both, false_if as fails}

-- The first and so many behind it
pub one_more : (c : ℕ) (behind : List ℕ) (n m : ℕ) (what : Form) → suc n ≡ m → IsLongest (c ∷ take n behind) (drop n behind) what → IsLongest (take m (c ∷ behind)) (drop m (c ∷ behind)) what
one_more c behind n m what e h = let P : ℕ → Type 0 = λ k. IsLongest (take k (c ∷ behind)) (drop k (c ∷ behind)) what in subst P e h

pub blank_first : (c : ℕ) (behind : List ℕ) → is_blank c ≡ true → StandsFirst (c ∷ behind) 1 None
blank_first c behind blank = trivia_first (blank_longest c behind blank)

pub is_the_word : (c : ℕ) (behind : List ℕ) (n : ℕ) → opens_word c behind ≡ true → IsRun is_xid_continue behind n → is_word (c ∷ take n behind) ≡ true
is_the_word c behind n opens run = whole (take n behind) refl (longest_run is_xid_continue behind n run).passes
  where
    first_stays : (cs : List ℕ) → IsRun is_xid_continue cs n → take n cs ≡ [] → begins_with_continue cs ≡ false
    first_stays [] r e = refl
    first_stays (d ∷ ds) r e =
        let none : n ≡ 0 = zero_is n e in
        ap (λ k. is_xid_continue (get_or (d ∷ ds) k 0)) (sym none) ∙ r.stops (omega arith)
      where
        zero_is : (k : ℕ) → take k (d ∷ ds) ≡ [] → k ≡ 0
        zero_is zero h = refl
        zero_is (suc k) h = cc

    starts : (s u k : Bool) → (s || (u && k)) ≡ true → k ≡ false → s ≡ true
    starts true u k e f = refl
    starts false true k e f = absurd (not_both k e f)
    starts false false k e f = cc

    begins : (s u k : Bool) → (s || (u && k)) ≡ true → (s || u) ≡ true
    begins true u k e = refl
    begins false true k e = refl
    begins false false k e = cc

    whole : (ds : List ℕ) → take n behind ≡ ds → list_all is_xid_continue ds ≡ true → is_word (c ∷ ds) ≡ true
    whole [] e all = starts (is_xid_start c) (c == 95) (begins_with_continue behind) opens (first_stays behind run e)
    whole (d ∷ ds) e all = rw (begins (is_xid_start c) (c == 95) (begins_with_continue behind) opens, all)

pub word_begins : (c : ℕ) (cs : List ℕ) → is_word (c ∷ cs) ≡ true → begins_word c ≡ true
word_begins c [] e = rw e
word_begins c (d ∷ cs) e = (both (begins_word c) (list_all is_xid_continue (d ∷ cs)) e).0

pub word_first : (c : ℕ) (behind word : List ℕ) (n : ℕ) (t : Token) → is_word (c ∷ word) ≡ true → IsRun is_xid_continue behind n → word ≡ take n behind → length word ≡ n → token_form (c ∷ word) ≡ Some t
    → StandsFirst (c ∷ behind) (1 + length word) (Some t)
word_first c behind word n t begins run w size e =
    token_first (one_more c behind n (1 + length word) (token t) (omega arith) (word_longest c (take n behind) (drop n behind) t (word_begins c word begins) (longest_run is_xid_continue behind n run) (ap (λ x. token_form (c ∷ x)) (sym w) ∙ e)))

-- Comments

pub line_answer : (c d : ℕ) (behind tail : List ℕ) (n : ℕ) → c ≡ 47 → behind ≡ d ∷ tail → d ≡ 47 → IsRun is_no_line_break tail n → IsCommentAnswer c behind (Some (2 + n))
line_answer c d behind tail n slash b other run =
    let whole : 47 ∷ 47 ∷ tail ≡ c ∷ behind = (λ i. sym slash i ∷ (ap (λ x. x ∷ tail) (sym other) ∙ sym b) i) in
    let P : List ℕ → Type 0 = λ xs. StandsFirst xs (2 + n) None in
    let size : length behind ≡ length tail + 1 = ap length b ∙ sym (add-one (length tail)) in
    comment (omega (arith, run.within)) (subst P whole (trivia_first (one_more 47 (47 ∷ tail) (suc n) (2 + n) trivia (omega arith) (line_comment_longest (take n tail) (drop n tail) (longest_run is_no_line_break tail n run)))))

pub block_answer : (c d : ℕ) (behind tail : List ℕ) (n : ℕ) → c ≡ 47 → behind ≡ d ∷ tail → d ≡ 42 → n ≤ length tail → IsLongestRun (is_block_comment_tail 1) (take n tail) (drop n tail)
    → IsCommentAnswer c behind (Some (2 + n))
block_answer c d behind tail n slash b other within run =
    let whole : 47 ∷ 42 ∷ tail ≡ c ∷ behind = (λ i. sym slash i ∷ (ap (λ x. x ∷ tail) (sym other) ∙ sym b) i) in
    let P : List ℕ → Type 0 = λ xs. StandsFirst xs (2 + n) None in
    let size : length behind ≡ length tail + 1 = ap length b ∙ sym (add-one (length tail)) in
    comment (omega arith) (subst P whole (trivia_first (one_more 47 (42 ∷ tail) (suc n) (2 + n) trivia (omega arith) (block_comment_longest (take n tail) (drop n tail) run))))

pub comment_stands : (c : ℕ) (behind : List ℕ) (n : ℕ) → IsCommentAnswer c behind (Some n) → (n ≤ length behind + 1) × StandsFirst (c ∷ behind) n None
comment_stands c behind n (comment within stands) = (within, stands)

pub no_comment_opens : (c : ℕ) (behind : List ℕ) → IsCommentAnswer c behind None → ((c == 47) && opens_comment behind) ≡ false
no_comment_opens c behind (no_comment none) = none

pub no_slash : (c : ℕ) (behind : List ℕ) → (c ≡ 47 → ⊥) → IsCommentAnswer c behind None
no_slash c behind other = let h : (c == 47) ≡ false = fails _ (λ e. other (is_number c 47 e)) in no_comment (rw h)

pub slash_alone : (c : ℕ) (behind : List ℕ) → opens_comment behind ≡ false → IsCommentAnswer c behind None
slash_alone c behind h = no_comment (rw h (and_false (c == 47)))

pub empty_alone : (c : ℕ) (behind : List ℕ) (r : Option ℕ) → length behind ≡ 0 → r ≡ None → IsCommentAnswer c behind r
empty_alone c [] r e none = let P : Option ℕ → Type 0 = λ o. IsCommentAnswer c [] o in subst P (sym none) (slash_alone c [] refl)
empty_alone c (d ∷ ds) r e none = absurd (omega arith)

pub no_second : (c d : ℕ) (behind tail : List ℕ) → behind ≡ d ∷ tail → (d ≡ 47 → ⊥) → (d ≡ 42 → ⊥) → IsCommentAnswer c behind None
no_second c d behind tail b h k =
    let h' : (d == 47) ≡ false = fails _ (λ e. h (is_number d 47 e)) in
    let k' : (d == 42) ≡ false = fails _ (λ e. k (is_number d 42 e)) in
    slash_alone c behind (ap opens_comment b ∙ rw (h', k'))

pub pair_is : (cs : List ℕ) (c d x y : ℕ) → 2 ≤ length cs → x ≡ get_or cs 0 x → y ≡ get_or cs 1 y → ((x == c) && (y == d)) ≡ begins_with_pair c d cs
pair_is [] c d x y h e f = absurd (omega arith)
pair_is (a ∷ []) c d x y h e f = absurd (omega arith)
pair_is (a ∷ b ∷ cs) c d x y h e f = rw (e, f)

pub no_pair : (cs : List ℕ) (c d : ℕ) → length cs < 2 → false ≡ begins_with_pair c d cs
no_pair [] c d h = refl
no_pair (a ∷ []) c d h = refl
no_pair (a ∷ b ∷ cs) c d h = absurd (omega arith)

-- so far so many comments are open: what stands behind closes the whole just if it closes these
pub record IsOpen (behind : List ℕ) (at depth : ℕ) : Type 0 where
  pub within : at ≤ length behind
  pub shallow : depth ≤ at + 1
  pub goes_on : (more rest : List ℕ) → drop at behind ≡ more ++ rest → is_block_comment_tail 1 (take at behind ++ more) ≡ is_block_comment_tail depth more

-- the parts of a list at an index
pub drop_one : (cs : List ℕ) (at c : ℕ) (ds : List ℕ) → drop at cs ≡ c ∷ ds → (at < length cs) × (drop (at + 1) cs ≡ ds) × (take (at + 1) cs ≡ take at cs ++ c ∷ [])
drop_one [] zero c ds e = cc
drop_one [] (suc at) c ds e = cc
drop_one (x ∷ cs) zero c ds e = let same : x ≡ c = cc in let rest : cs ≡ ds = cc in (omega arith, rest, ap (λ y. y ∷ []) same)
drop_one (x ∷ cs) (suc at) c ds e =
    let h = drop_one cs at c ds e in
    let one : suc at + 1 ≡ suc (at + 1) = omega arith in
    (omega (arith, h.0), ap (λ n. drop n (x ∷ cs)) one ∙ h.1, ap (λ n. take n (x ∷ cs)) one ∙ ap (λ ys. x ∷ ys) h.2)

module _ (behind : List ℕ) (at depth : ℕ) (still : IsOpen behind at depth) where
  -- one character goes by
  past_one : (c : ℕ) (ds : List ℕ) → drop at behind ≡ c ∷ ds → ((more rest : List ℕ) → ds ≡ more ++ rest → is_block_comment_tail depth (c ∷ more) ≡ is_block_comment_tail depth more) → IsOpen behind (at + 1) depth
  past_one c ds e same =
      let h = drop_one behind at c ds e in
      record {
        within = omega (arith, h.0);
        shallow = omega (arith, still.shallow);
        goes_on = λ more rest f.
            let behind' : ds ≡ more ++ rest = sym h.1 ∙ f in
            ap (λ front. is_block_comment_tail 1 (front ++ more)) h.2 ∙ ap (is_block_comment_tail 1) (append_assoc (take at behind) (c ∷ []) more)
            ∙ still.goes_on (c ∷ more) rest (e ∙ ap (λ xs. c ∷ xs) behind') ∙ same more rest behind';
      }

  -- two go by
  past_two : (c d : ℕ) (ds : List ℕ) (deep : ℕ) → drop at behind ≡ c ∷ d ∷ ds → deep ≤ depth + 1 → ((more : List ℕ) → is_block_comment_tail depth (c ∷ d ∷ more) ≡ is_block_comment_tail deep more)
      → IsOpen behind (at + 2) deep
  past_two c d ds deep e bound same =
      let h = drop_one behind at c (d ∷ ds) e in
      let k = drop_one behind (at + 1) d ds h.1 in
      let two : at + 2 ≡ at + 1 + 1 = omega arith in
      record {
        within = omega (arith, k.0);
        shallow = omega (arith, still.shallow);
        goes_on = λ more rest f.
            let behind' : ds ≡ more ++ rest = sym k.1 ∙ ap (λ n. drop n behind) (sym two) ∙ f in
            let front : take (at + 2) behind ≡ (take at behind ++ c ∷ []) ++ d ∷ [] = ap (λ n. take n behind) two ∙ k.2 ∙ ap (λ xs. xs ++ d ∷ []) h.2 in
            ap (λ xs. is_block_comment_tail 1 (xs ++ more)) front
            ∙ ap (is_block_comment_tail 1) (append_assoc (take at behind ++ c ∷ []) (d ∷ []) more ∙ append_assoc (take at behind) (c ∷ []) (d ∷ more))
            ∙ still.goes_on (c ∷ d ∷ more) rest (e ∙ ap (λ xs. c ∷ d ∷ xs) behind') ∙ same more;
      }

-- the cases of what stands there
begins_two : (c d : ℕ) (cs : List ℕ) → begins_with_pair c d cs ≡ true → (xs : List ℕ) × (cs ≡ c ∷ d ∷ xs)
begins_two c d [] e = cc
begins_two c d (x ∷ []) e = cc
begins_two c d (x ∷ y ∷ xs) e =
    let h = both (x == c) (y == d) e in
    let h0 : x ≡ c = is_number x c h.0 in
    let h1 : y ≡ d = is_number y d h.1 in
    (xs, (λ i. h0 i ∷ h1 i ∷ xs))

pub starts_open : (behind : List ℕ) → IsOpen behind 0 1
starts_open behind = record { within = omega arith; shallow = omega arith; goes_on = λ more rest e. refl }

pub closes_one : (behind rest : List ℕ) (at depth : ℕ) → IsOpen behind at depth → 0 < depth → rest ≡ drop at behind → begins_with_pair 42 47 rest ≡ true → IsOpen behind (at + 2) (depth - 1)
closes_one behind rest at depth still positive r e =
    let (xs, is) = begins_two 42 47 rest e in
    past_two behind at depth still 42 47 xs (depth - 1) (sym r ∙ is) (omega arith) (λ more. closes depth more positive)
  where
    closes : (n : ℕ) (more : List ℕ) → 0 < n → is_block_comment_tail n (42 ∷ 47 ∷ more) ≡ is_block_comment_tail (n - 1) more
    closes zero more h = absurd (omega arith)
    closes (suc n) more h = let same : n ≡ suc n - 1 = omega arith in ap (λ m. is_block_comment_tail m more) same

pub opens_one : (behind rest : List ℕ) (at depth : ℕ) → IsOpen behind at depth → 0 < depth → rest ≡ drop at behind → begins_with_pair 47 42 rest ≡ true → IsOpen behind (at + 2) (depth + 1)
opens_one behind rest at depth still positive r e =
    let (xs, is) = begins_two 47 42 rest e in
    past_two behind at depth still 47 42 xs (depth + 1) (sym r ∙ is) (omega arith) (λ more. opens depth more positive)
  where
    opens : (n : ℕ) (more : List ℕ) → 0 < n → is_block_comment_tail n (47 ∷ 42 ∷ more) ≡ is_block_comment_tail (n + 1) more
    opens zero more h = absurd (omega arith)
    opens (suc n) more h = let same : suc (suc n) ≡ suc n + 1 = omega arith in ap (λ m. is_block_comment_tail m more) same

pub passes_one : (behind rest : List ℕ) (at depth : ℕ) → IsOpen behind at depth → 0 < depth → at < length behind → rest ≡ drop at behind → begins_with_pair 42 47 rest ≡ false → begins_with_pair 47 42 rest ≡ false
    → IsOpen behind (at + 1) depth
passes_one behind [] at depth still positive within r e f = absurd (omega (arith, ap length r, length-drop at behind))
passes_one behind (c ∷ ds) at depth still positive within r e f = past_one behind at depth still c ds (sym r) (λ more rest g. passes depth c more rest positive (ap (λ xs. begins_with_pair 42 47 (c ∷ xs)) (sym g) ∙ e) (ap (λ xs. begins_with_pair 47 42 (c ∷ xs)) (sym g) ∙ f))
  where
    passes : (n c : ℕ) (more rest : List ℕ) → 0 < n → begins_with_pair 42 47 (c ∷ (more ++ rest)) ≡ false → begins_with_pair 47 42 (c ∷ (more ++ rest)) ≡ false → is_block_comment_tail n (c ∷ more) ≡ is_block_comment_tail n more
    passes zero c more rest h e f = absurd (omega arith)
    passes (suc n) c [] rest h e f = refl
    passes (suc n) c (d ∷ more) rest h e f = rw (e, f)

-- where the loop ends
pub ends_open : (behind : List ℕ) (at depth : ℕ) → IsOpen behind at depth → ((depth ≡ 0) ⊎ (length behind ≤ at)) → IsLongestRun (is_block_comment_tail 1) (take at behind) (drop at behind)
ends_open behind at depth still why = record {
  passes = ap (is_block_comment_tail 1) (sym (append-nil (take at behind))) ∙ still.goes_on [] (drop at behind) refl ∙ ended depth;
  longest = λ more rest nonempty e. still.goes_on more rest e ∙ closed why more rest nonempty e;
}
  where
    ended : (n : ℕ) → is_block_comment_tail n [] ≡ true
    ended zero = refl
    ended (suc n) = refl

    closed : ((depth ≡ 0) ⊎ (length behind ≤ at)) → (more rest : List ℕ) → more ≢ [] → drop at behind ≡ more ++ rest → is_block_comment_tail depth more ≡ false
    closed w [] rest nonempty e = absurd (nonempty refl)
    closed (inl none) (c ∷ more) rest nonempty e = ap (λ n. is_block_comment_tail n (c ∷ more)) none
    closed (inr all) (c ∷ more) rest nonempty e = let h = drop_one behind at c (more ++ rest) e in absurd (omega (arith, h.0))

-- Numbers

pub decimal_has : (c : ℕ) (behind digits : List ℕ) (n : ℕ) (word : Option ℕ) → is_ascii_digit c ≡ true → (c ≡ 48 → ⊥) → IsRun is_ascii_digit behind n → digits ≡ take n behind → length digits ≡ n
    → IsValue word (value_behind 10 (digit_value c) digits) → HasMagnitude c behind (length digits) word
decimal_has c behind digits n word digit nonzero run d size value =
    let other : (c == 48) ≡ false = fails _ (λ same. nonzero (is_number c 48 same)) in
    let first : 0 * 10 + digit_value c ≡ digit_value c = omega arith in
    let runs = longest_run is_ascii_digit behind n run in
    let whole : IsLongestRun (list_all is_ascii_digit) (c ∷ take n behind) (drop n behind) = record { passes = rw (digit, runs.passes); longest = λ more rest nonempty e. rw (digit, runs.longest more rest nonempty e) } in
    let P : ℕ → Type 0 = λ k. HasMagnitude c behind k word in
    let V : ℕ → Type 0 = λ v. IsValue word v in
    subst P (sym size) (record {
      value = value_behind 10 (0 * 10 + digit_value c) (take n behind);
      longest = decimal_longest c (take n behind) (drop n behind) other whole;
      is_value = subst V (λ i. value_behind 10 (sym first i) (d i)) value;
    })

pub zero_has : (behind : List ℕ) → goes_on behind ≡ false → HasMagnitude 48 behind 0 (Some 0)
zero_has behind ended = record { value = 0; longest = zero_longest behind ended; is_value = refl }

pub hexadecimal_has : (x : ℕ) (behind tail digits : List ℕ) (n : ℕ) (word : Option ℕ) → behind ≡ x ∷ tail → is_mark x ≡ true → IsRun is_ascii_hexdigit tail n → digits ≡ take n tail → length digits ≡ n
    → 0 < n → IsValue word (value_behind 16 0 digits) → HasMagnitude 48 behind (1 + length digits) word
hexadecimal_has x behind tail digits n word b mark run d size some value =
    let m : suc n ≡ 1 + length digits = omega arith in
    let P : ℕ → Type 0 = λ k. HasMagnitude 48 behind k word in
    let Q : List ℕ → Type 0 = λ xs. HasMagnitude 48 xs (suc n) word in
    let V : List ℕ → Type 0 = λ xs. IsValue word (value_behind 16 0 xs) in
    subst P m (subst Q (sym b) (record {
      value = value_behind 16 0 (take n tail);
      longest = longest (take n tail) (drop n tail) (longest_run is_ascii_hexdigit tail n run) (omega (arith, ap length d));
      is_value = subst V d value;
    }))
  where
    longest : (cs rest : List ℕ) → IsLongestRun (list_all is_ascii_hexdigit) cs rest → 0 < length cs → IsLongestMagnitude (48 ∷ x ∷ cs) rest (value_behind 16 0 cs)
    longest [] rest run some = absurd (omega arith)
    longest (c ∷ cs) rest run some = hexadecimal_longest x c cs rest mark run

pub mark_alone : (x : ℕ) (behind tail digits : List ℕ) (n : ℕ) → behind ≡ x ∷ tail → IsRun is_ascii_hexdigit tail n → digits ≡ take n tail → length digits ≡ n → length digits ≡ 0 → goes_on behind ≡ false
mark_alone x behind tail digits n b run d size none = ap goes_on b ∙ alone tail run
  where
    alone : (cs : List ℕ) → IsRun is_ascii_hexdigit cs n → goes_on (x ∷ cs) ≡ false
    alone [] r = refl
    alone (c ∷ cs) r =
        let stop : is_ascii_hexdigit (get_or (c ∷ cs) n 0) ≡ false = r.stops (omega arith) in
        let zeroth : n ≡ 0 = omega arith in
        let here : is_ascii_hexdigit c ≡ false = ap (λ k. is_ascii_hexdigit (get_or (c ∷ cs) k 0)) (sym zeroth) ∙ stop in
        rw here (and_false (is_mark x))

pub no_mark : (x : ℕ) (behind tail : List ℕ) → behind ≡ x ∷ tail → is_mark x ≡ false → goes_on behind ≡ false
no_mark x behind tail b h = ap goes_on b ∙ unmarked tail
  where
    unmarked : (cs : List ℕ) → goes_on (x ∷ cs) ≡ false
    unmarked [] = refl
    unmarked (c ∷ cs) = rw h

-- Symbols

module _ (c : ℕ) (behind : List ℕ) (plain : BeginsNothingElse c behind) where
  pub starts : is_xid_start c ≡ false
  starts = (neither (is_xid_start c) ((c == 95) && begins_with_continue behind) plain.word).0

  underscore : ((c == 95) && begins_with_continue behind) ≡ false
  underscore = (neither (is_xid_start c) ((c == 95) && begins_with_continue behind) plain.word).1

  trivial : (ds rest : List ℕ) → behind ≡ ds ++ rest → is_trivia (c ∷ ds) ≡ false
  trivial [] rest e = plain.blank
  trivial (d ∷ ds) rest e =
      covered (c == 47) (d == 47) (d == 42) (is_line_comment_tail ds) (is_block_comment_tail 1 ds) (ap (λ xs. (c == 47) && opens_comment xs) (sym e) ∙ plain.comment)

  -- with more characters, a form is a fixed token
  more_form : (ds rest : List ℕ) → ds ≢ [] → behind ≡ ds ++ rest → fixed_of (c ∷ ds) ≡ None → form (c ∷ ds) ≡ None
  more_form [] rest nonempty e fixed = absurd (nonempty refl)
  more_form (d ∷ ds) rest nonempty e fixed =
      no_form c (d ∷ ds) (trivial (d ∷ ds) rest e) fixed
      (covered_word (is_xid_start c) (c == 95) (is_xid_continue d) (list_all is_xid_continue ds) starts (ap (λ xs. (c == 95) && begins_with_continue xs) (sym e) ∙ underscore)) (opens_less c (d ∷ ds) rest (ap (opens_number c) (sym e) ∙ plain.number))

  fixed_is : (ds rest : List ℕ) (fixed : FixedToken) → behind ≡ ds ++ rest → fixed_of (c ∷ ds) ≡ Some fixed → form (c ∷ ds) ≡ Some (token (Fixed fixed))
  fixed_is ds rest fixed e f = fixed_form (c ∷ ds) fixed (trivial ds rest e) f

  -- three are no fixed token with more
  past_three : (d e g : ℕ) (ms rest : List ℕ) → behind ≡ d ∷ e ∷ g ∷ (ms ++ rest) → form (c ∷ d ∷ e ∷ g ∷ ms) ≡ None
  past_three d e g ms rest is = more_form (d ∷ e ∷ g ∷ ms) rest (λ n. cc) is (four_is_none c d e g ms starts)

  past_two_fixed : (d e : ℕ) (ms rest : List ℕ) → spelled_by_three c behind ≡ None → behind ≡ d ∷ e ∷ (ms ++ rest) → form (c ∷ d ∷ e ∷ ms) ≡ None
  past_two_fixed d e [] rest none is = more_form (d ∷ e ∷ []) rest (λ n. cc) is (ap (spelled_by_three c) (sym is) ∙ none)
  past_two_fixed d e (g ∷ ms) rest none is = past_three d e g ms rest is

  past_one_fixed : (d : ℕ) (ms rest : List ℕ) → spelled_by_three c behind ≡ None → spelled_by_two c behind ≡ None → behind ≡ d ∷ (ms ++ rest) → form (c ∷ d ∷ ms) ≡ None
  past_one_fixed d [] rest none nor is = more_form (d ∷ []) rest (λ n. cc) is (ap (spelled_by_two c) (sym is) ∙ nor)
  past_one_fixed d (e ∷ ms) rest none nor is = past_two_fixed d e ms rest none is

  alone : spelled_by_three c behind ≡ None → spelled_by_two c behind ≡ None → NoLonger (c ∷ []) behind
  alone none nor [] rest nonempty is = absurd (nonempty refl)
  alone none nor (d ∷ ms) rest nonempty is = past_one_fixed d ms rest none nor is

  pub one_first : (fixed : FixedToken) → spelled_by_three c behind ≡ None → spelled_by_two c behind ≡ None → fixed_of (c ∷ []) ≡ Some fixed → StandsFirst (c ∷ behind) 1 (Some (Fixed fixed))
  one_first fixed none nor f = token_first (record { is = fixed_is [] behind fixed refl f; longest = alone none nor })

  pub none_first : spelled_by_three c behind ≡ None → spelled_by_two c behind ≡ None → fixed_of (c ∷ []) ≡ None → StandsFirst (c ∷ behind) 1 (Some Invalid)
  none_first none nor f = nothing_first refl (no_form c [] plain.blank f starts (opens_less c [] behind plain.number)) (alone none nor)

two_longest : (c d : ℕ) (ds : List ℕ) (plain : BeginsNothingElse c (d ∷ ds)) (fixed : FixedToken) → spelled_by_three c (d ∷ ds) ≡ None → fixed_of (c ∷ d ∷ []) ≡ Some fixed
    → IsLongest (c ∷ d ∷ []) ds (token (Fixed fixed))
two_longest c d ds plain fixed none f = record { is = fixed_is c (d ∷ ds) plain (d ∷ []) ds fixed refl f; longest = stops }
  where
    stops : NoLonger (c ∷ d ∷ []) ds
    stops [] rest nonempty is = absurd (nonempty refl)
    stops (e ∷ ms) rest nonempty is = past_two_fixed c (d ∷ ds) plain d e ms rest none (ap (λ xs. d ∷ xs) is)

three_longest : (c d e : ℕ) (ds : List ℕ) (plain : BeginsNothingElse c (d ∷ e ∷ ds)) (fixed : FixedToken) → fixed_of (c ∷ d ∷ e ∷ []) ≡ Some fixed → IsLongest (c ∷ d ∷ e ∷ []) ds (token (Fixed fixed))
three_longest c d e ds plain fixed f = record { is = fixed_is c (d ∷ e ∷ ds) plain (d ∷ e ∷ []) ds fixed refl f; longest = stops }
  where
    stops : NoLonger (c ∷ d ∷ e ∷ []) ds
    stops [] rest nonempty is = absurd (nonempty refl)
    stops (g ∷ ms) rest nonempty is = past_three c (d ∷ e ∷ ds) plain d e g ms rest (ap (λ xs. d ∷ e ∷ xs) is)

pub two_first : (c : ℕ) (behind : List ℕ) → BeginsNothingElse c behind → (fixed : FixedToken) → spelled_by_three c behind ≡ None → spelled_by_two c behind ≡ Some fixed → StandsFirst (c ∷ behind) 2 (Some (Fixed fixed))
two_first c [] plain fixed none f = cc
two_first c (d ∷ ds) plain fixed none f = token_first (two_longest c d ds plain fixed none f)

pub three_first : (c : ℕ) (behind : List ℕ) → BeginsNothingElse c behind → (fixed : FixedToken) → spelled_by_three c behind ≡ Some fixed → StandsFirst (c ∷ behind) 3 (Some (Fixed fixed))
three_first c [] plain fixed f = cc
three_first c (d ∷ []) plain fixed f = cc
three_first c (d ∷ e ∷ ds) plain fixed f = token_first (three_longest c d e ds plain fixed f)

pub spelled_two : (c d : ℕ) (cs : List ℕ) → Some d ≡ slice_get cs 0 → fixed_of (c ∷ d ∷ []) ≡ spelled_by_two c cs
spelled_two c d [] h = cc
spelled_two c d (a ∷ cs) h = let same : d ≡ a = cc in ap (λ x. fixed_of (c ∷ x ∷ [])) same

pub spelled_three : (c d e : ℕ) (cs : List ℕ) → Some d ≡ slice_get cs 0 → true ≡ nat_lt 1 (length cs) → e ≡ get_or cs 1 e → fixed_of (c ∷ d ∷ e ∷ []) ≡ spelled_by_three c cs
spelled_three c d e [] h within k = cc
spelled_three c d e (a ∷ []) h within k = cc
spelled_three c d e (a ∷ b ∷ cs) h within k = let same : d ≡ a = cc in (λ i. fixed_of (c ∷ same i ∷ k i ∷ []))

pub piece_stands : (cs : List ℕ) (n : ℕ) (t : Option Token) (piece : Piece) → piece ≡ record { length = n; token = t } → StandsFirst cs n t → StandsFirst cs piece.length piece.token
piece_stands cs n t piece e h = let P : Piece → Type 0 = λ p. StandsFirst cs p.length p.token in subst P (sym e) h
