-- Bytes of characters.
use Rattle.std.proofs.Common.{◌≡◌, ℕ, ◌+◌, ◌<◌, ◌≤◌, List, [], ◌∷◌, ◌++◌, length, get_or, take, drop, sym, ap, ◌∙◌, arith, length-append, append_assoc, append-nil, take-append-drop}
use Rattle.std.specs.Char.{encode_utf8, len_utf8}
use Rattle.std.specs.Str.{encode_utf8_all}
use Rattle.std.proofs.Math.ListN.{set}
use Rattle.std.proofs.lemmas.List.{take_more, take_more_set}
use Rattle.std.proofs.lemmas.Str.{encodes-append, length-encode, encode_ascii}
use Rattle.wgsl_lex.specs.Tokens.{size}

-- One character more. The character at i is x.
pub encodes_more : (cs : List ℕ) (i x : ℕ) → i < length cs → x ≡ get_or cs i x → encode_utf8_all (take (i + 1) cs) ≡ encode_utf8_all (take i cs) ++ encode_utf8 x
encodes_more cs i x h e =
    ap encode_utf8_all (take_more cs i x h ∙ ap (λ y. take i cs ++ y ∷ []) (sym e)) ∙ encodes-append (take i cs) (x ∷ []) ∙ ap (λ bs. encode_utf8_all (take i cs) ++ bs) (append-nil (encode_utf8 x))

-- ASCII, written one byte after another
pub spells_first : (bytes : List ℕ) (c : ℕ) → 0 < length bytes → c < 128 → take 1 (set bytes 0 c) ≡ encode_utf8_all (c ∷ [])
spells_first bytes c some ascii = take_more_set bytes 0 c some ∙ sym (append-nil (encode_utf8 c) ∙ encode_ascii c ascii)

pub spells_more : (bytes cs : List ℕ) (first i c : ℕ) → i + 1 < length bytes → i < length cs → c ≡ get_or cs i c → c < 128 → take (i + 1) bytes ≡ encode_utf8_all (first ∷ take i cs)
    → take (i + 1 + 1) (set bytes (i + 1) c) ≡ encode_utf8_all (first ∷ take (i + 1) cs)
spells_more bytes cs first i c room within e ascii so_far =
    take_more_set bytes (i + 1) c room ∙ ap (λ bs. bs ++ c ∷ []) so_far ∙ append_assoc (encode_utf8 first) (encode_utf8_all (take i cs)) (c ∷ [])
    ∙ ap (λ bs. encode_utf8 first ++ bs) (ap (λ x. encode_utf8_all (take i cs) ++ x) (sym (encode_ascii c ascii)) ∙ sym (encodes_more cs i c within e))

pub size-append : (cs ds : List ℕ) → size (cs ++ ds) ≡ size cs + size ds
size-append cs ds = ap length (encodes-append cs ds) ∙ length-append (encode_utf8_all cs) (encode_utf8_all ds)

pub size_more : (cs : List ℕ) (i x : ℕ) → i < length cs → x ≡ get_or cs i x → size (take (i + 1) cs) ≡ size (take i cs) + len_utf8 x
size_more cs i x h e = ap length (encodes_more cs i x h e) ∙ length-append (encode_utf8_all (take i cs)) (encode_utf8 x) ∙ ap (λ n. size (take i cs) + n) (length-encode x)

pub size_split : (cs : List ℕ) (n : ℕ) → size (take n cs) + size (drop n cs) ≡ size cs
size_split cs n = sym (size-append (take n cs) (drop n cs)) ∙ ap size (take-append-drop n cs)

pub size_parts : (cs front behind : List ℕ) (n : ℕ) → front ≡ take n cs → behind ≡ drop n cs → size front + size behind ≡ size cs
size_parts cs front behind n f b = omega (arith, ap size f, ap size b, size_split cs n)

pub size_within : (cs : List ℕ) (i x : ℕ) → i < length cs → x ≡ get_or cs i x → size (take i cs) + len_utf8 x ≤ size cs
size_within cs i x h e = omega (arith, size_more cs i x h e, size_split cs (i + 1))
