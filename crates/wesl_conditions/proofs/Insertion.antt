-- What is found after an insertion.
use Rattle.std.proofs.Common.{◌≡◌, refl, sym, ap, ◌∙◌, ℕ, List, [], ◌∷◌, Bool, true, false, Option, Some}
use Rattle.std.specs.Prelude.{if◌then◌else◌, string_bytes}
use Rattle.std.specs.Option.{unwrap_or}
use Rattle.std.specs.Map.{lookup}
use Rattle.std.specs.Str.{bytes_eq}
use Rattle.std.specs.String.{string_eq}
use Rattle.std.specs.declared.string.String.{String}
use Rattle.std.specs.declared.alloc.Global.{Global}
use Rattle.std.proofs.lemmas.Slice.Eq.{bytes_eq-Decides}
use Rattle.indexmap.specs.IndexMap.{insert_entry}
use Rattle.wgsl_base.proofs.Members.{same_bytes}

module _ {X : Type 0} where
  abbrev found : List (String Global × X) → List ℕ → Option X
  found es n = lookup (λ k. bytes_eq n (string_bytes k)) es

  pub found_after : (es : List (String Global × X)) (key : String Global) (v : X) (n : List ℕ)
      → found (insert_entry string_eq es key v) n ≡ (if bytes_eq n (string_bytes key) then Some v else found es n)
  found_after [] key v n = refl
  found_after (e ∷ es) key v n =
      by (bytes_eq (string_bytes key) (string_bytes e.0)) (bytes_eq n (string_bytes key)) (bytes_eq n (string_bytes e.0)) refl refl refl (found_after es key v n)
    where
      by : (b c d : Bool) → bytes_eq (string_bytes key) (string_bytes e.0) ≡ b → bytes_eq n (string_bytes key) ≡ c → bytes_eq n (string_bytes e.0) ≡ d
          → found (insert_entry string_eq es key v) n ≡ (if c then Some v else found es n)
          → found (if b then (e.0, v) ∷ es else e ∷ insert_entry string_eq es key v) n ≡ (if c then Some v else (if d then Some e.1 else found es n))
      by true true d f g h rest = ap (λ d. if d then Some v else found es n) (ap (bytes_eq n) (sym (same_bytes (string_bytes key) (string_bytes e.0) f)) ∙ g)
      by true false true f g h rest =
          let same : n ≡ string_bytes key = same_bytes n (string_bytes e.0) h ∙ sym (same_bytes (string_bytes key) (string_bytes e.0) f) in
          let both : true ≡ false = sym ((bytes_eq-Decides n (string_bytes key)).1 same) ∙ g in
          absurd (cc)
      by true false false f g h rest = ap (λ d. if d then Some v else found es n) h
      by false true true f g h rest =
          let same : string_bytes key ≡ string_bytes e.0 = sym (same_bytes n (string_bytes key) g) ∙ same_bytes n (string_bytes e.0) h in
          let both : true ≡ false = sym ((bytes_eq-Decides (string_bytes key) (string_bytes e.0)).1 same) ∙ f in
          absurd (cc)
      by false true false f g h rest = ap (λ d. if d then Some e.1 else found (insert_entry string_eq es key v) n) h ∙ rest
      by false false true f g h rest = ap (λ d. if d then Some e.1 else found (insert_entry string_eq es key v) n) h
      by false false false f g h rest = ap (λ d. if d then Some e.1 else found (insert_entry string_eq es key v) n) h ∙ rest

  pub chosen_default : (b : Bool) (v : X) (o : Option X) (d : X) → unwrap_or (if b then Some v else o) d ≡ (if b then v else unwrap_or o d)
  chosen_default true v o d = refl
  chosen_default false v o d = refl
