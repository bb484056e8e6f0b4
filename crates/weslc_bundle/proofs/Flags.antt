-- Feature flags, one after another.
use Rattle.std.proofs.Common.{◌≡◌, refl, sym, ap, ◌∙◌, ℕ, List, [], ◌∷◌, ◌++◌, ◌+◌, ◌<◌, length, drop, get_or, Option, Some, None, option_map, append_assoc, bytes_eq, if◌then◌else◌, string_bytes}
use Rattle.std.proofs.lemmas.List.{append-nil, at_drop_more}
use Rattle.serde_json.specs.View.{view, members_view}
use Rattle.wesl_conditions.specs.declared.features.feature.Feature.{Feature}
use Rattle.wesl_conditions.specs.declared.features.feature.Features.{Features}
use Rattle.wesl_conditions.specs.Settings.{setting}
use Rattle.weslc_bundle.specs.declared.features.Flag.{Flag}
use Rattle.weslc_bundle.specs.Bundles.{feature_of, flag_at, flags_in, set_to}
use Rattle.weslc_bundle.proofs.Keys.{Entry}

-- ---- read from an object

-- what is read of all, where this much was read and these are left
abbrev pub left : List Flag → List Entry → Option (List Flag)
left done es = option_map (λ rest. done ++ rest) (flags_in (members_view es))

left_none : (es : List Entry) → flags_in (members_view es) ≡ left [] es
left_none es = by_option (flags_in (members_view es))
  where
    by_option : (o : Option (List Flag)) → o ≡ option_map (λ rest. [] ++ rest) o
    by_option None = refl
    by_option (Some xs) = refl

pub left_start : (es it : List Entry) (done : List Flag) → done ≡ [] → it ≡ es → flags_in (members_view es) ≡ left done it
left_start es it done none is = left_none es ∙ ap (left []) (sym is) ∙ ap (λ d. left d it) (sym none)

pub left_all : (done : List Flag) (es rest : List Entry) → rest ≡ [] → flags_in (members_view es) ≡ left done rest → flags_in (members_view es) ≡ Some done
left_all done es rest none is = is ∙ ap (left done) none ∙ ap Some (append-nil done)

pub left_more : (done : List Flag) (all es : List Entry) (e : Entry) (rest : List Entry) (feature : Feature) (flag : Flag) → es ≡ e ∷ rest → feature_of (view e.1) ≡ Some feature → flag ≡ flag_at (string_bytes e.0) feature
    → flags_in (members_view all) ≡ left done es → flags_in (members_view all) ≡ left (done ++ flag ∷ []) rest
left_more done all es e rest feature flag steps is same so_far = so_far ∙ ap (left done) steps ∙ rw is (rw same (by_option (flags_in (members_view rest))))
  where
    by_option : (o : Option (List Flag))
        → option_map (λ rest. done ++ rest) (option_map (λ flags. flag_at (string_bytes e.0) feature ∷ flags) o) ≡ option_map (λ rest. (done ++ flag_at (string_bytes e.0) feature ∷ []) ++ rest) o
    by_option None = refl
    by_option (Some xs) = ap Some (sym (append_assoc done (flag_at (string_bytes e.0) feature ∷ []) xs))

pub left_fault : (done : List Flag) (all es : List Entry) (e : Entry) (rest : List Entry) → es ≡ e ∷ rest → feature_of (view e.1) ≡ None
    → flags_in (members_view all) ≡ left done es → flags_in (members_view all) ≡ None
left_fault done all es e rest steps is so_far = so_far ∙ ap (left done) steps ∙ rw is refl

-- ---- set

pub set_more : (flags : List Flag) (i : ℕ) (flag : Flag) (bs : List ℕ) (default : Feature) (old new : Features) → i < length flags → flag ≡ get_or flags i flag → bs ≡ flag.name
    → ((name : List ℕ) → setting new name ≡ (if bytes_eq name bs then flag.feature else setting old name))
    → ((name : List ℕ) → set_to (drop i flags) (setting old name) name ≡ set_to flags default name)
    → (name : List ℕ) → set_to (drop (i + 1) flags) (setting new name) name ≡ set_to flags default name
set_more flags i flag bs default old new within item named set so_far name =
    ap (λ feature. set_to (drop (i + 1) flags) feature name) (set name ∙ ap (λ b. if bytes_eq name b then flag.feature else setting old name) named)
    ∙ ap (λ f. set_to (drop (i + 1) flags) (if bytes_eq name f.name then f.feature else setting old name) name) item
    ∙ sym (at_drop_more (λ fs. set_to fs (setting old name) name) flags i flag within) ∙ so_far name
