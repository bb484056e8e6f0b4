-- A printed path is inserted, and what was asked for stays noted.
use Rattle.std.proofs.Common.{◌≡◌, refl, sym, ap, subst, ◌∙◌, ⊎_elim, ℕ, List, [], ◌∷◌, ◌++◌, Bool, true, false, Result, Ok, Err}
use Rattle.std.specs.Prelude.{string_bytes, if◌then◌else◌, OnOk, OnErr}
use Rattle.std.specs.List.{list_any}
use Rattle.std.specs.HashSet.{HashSet, UpdatesBy, contains_text}
use Rattle.std.specs.Str.{bytes_eq}
use Rattle.std.specs.String.{string_eq}
use Rattle.std.specs.declared.string.String.{String}
use Rattle.std.proofs.lemmas.Map.Text.{hash_set_updates_text}
use Rattle.std.proofs.lemmas.List.Elements.{Contains-append_cases}
use Rattle.wgsl_base.proofs.Members.{bytes_same, in_cases, in_none}
use Rattle.wgsl_path.specs.declared.path.ModulePath.{ModulePath}
use Rattle.wgsl_path.specs.Paths.{path_text}
use Rattle.weslc_workspace.specs.Noted.{IsNoted, AreNoted}

pub noted : {Y S : Type 0} (p : List ℕ) (s n : HashSet (String Y) S) → UpdatesBy string_eq (λ k. bytes_eq p (string_bytes k)) s n true → IsNoted s p n
noted p s n changed q = hash_set_updates_text p s n true changed q

-- what was noted is still noted
noted_still : {Y S : Type 0} (p : List ℕ) (requests : List ModulePath) (s n : HashSet (String Y) S) → IsNoted s p n → AreNoted requests s → AreNoted requests n
noted_still p requests s n is all q there = is (path_text q) ∙ by (bytes_eq p (path_text q)) (all q there)
  where
    by : (b : Bool) → contains_text s (path_text q) ≡ true → (if b then true else contains_text s (path_text q)) ≡ true
    by true before = refl
    by false before = before

pub noted_more : {Y S A E : Type 0} (result : Result A E) (p : List ℕ) (requests : List ModulePath) (s n : HashSet (String Y) S) → OnOk result (UpdatesBy string_eq (λ k. bytes_eq p (string_bytes k)) s n true)
    → OnErr result (n.keys ≡ s.keys) → AreNoted requests s → AreNoted requests n
noted_more (Ok a) p requests s n changed same all = noted_still p requests s n (noted p s n changed) all
noted_more (Err e) p requests s n changed same all = λ q there. ap (λ ks. list_any (λ k. bytes_eq (path_text q) (string_bytes k)) ks) same ∙ all q there

-- and one more is
pub noted_then : {Y S A E : Type 0} (result : Result A E) (path : ModulePath) (requests more : List ModulePath) (s n : HashSet (String Y) S) → UpdatesBy string_eq (λ k. bytes_eq (path_text path) (string_bytes k)) s n true
    → OnOk result (more ≡ requests ++ path ∷ []) → OnErr result (more ≡ requests) → AreNoted requests s → AreNoted more n
noted_then (Err e) path requests more s n changed pushed same all = subst (λ (ps : List ModulePath). AreNoted ps n) (sym same) (noted_still (path_text path) requests s n (noted (path_text path) s n changed) all)
noted_then (Ok a) path requests more s n changed pushed same all = subst (λ (ps : List ModulePath). AreNoted ps n) (sym pushed) each
  where
    now : IsNoted s (path_text path) n
    now = noted (path_text path) s n changed

    each : AreNoted (requests ++ path ∷ []) n
    each q there = ⊎_elim
        (λ before. noted_still (path_text path) requests s n now all q before)
        (λ here.
        let same : path ≡ q = ⊎_elim (λ is. is) (λ none. absurd (in_none q none)) (in_cases path [] q here) in
        now (path_text q) ∙ ap (λ (b : Bool). if b then true else contains_text s (path_text q)) (subst (λ (r : ModulePath). bytes_eq (path_text path) (path_text r) ≡ true) same (bytes_same (path_text path))))
        (Contains-append_cases requests (path ∷ []) q there)
