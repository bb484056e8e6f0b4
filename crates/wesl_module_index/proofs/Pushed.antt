-- One module more.
use Rattle.std.proofs.Common.{◌≡◌, refl, sym, ap, ◌∙◌, ℕ, zero, suc, ◌+◌, ◌≤◌, List, [], ◌∷◌, ◌++◌, length, Bool, true, false, Some, arith}
use Rattle.std.specs.Prelude.{string_bytes, String, if◌then◌else◌, Result, Ok, Err, OnOk, OnErr}
use Rattle.std.specs.Str.{bytes_eq}
use Rattle.std.specs.BTreeMap.{BTreeMap, get_by_text}
use Rattle.std.specs.declared.alloc.Global.{Global}
use Rattle.wgsl_base.proofs.Members.{same_bytes}
use Rattle.wesl_module_index.specs.declared.module.Module.{Module}
use Rattle.wesl_module_index.specs.Counts.{item_total, home_in, AreKeyed}

total_append : (ms : List Module) (m : Module) → item_total (ms ++ m ∷ []) ≡ item_total ms + length m.items.items
total_append [] m = omega arith
total_append (x ∷ ms) m = let e = total_append ms m in omega (arith, e)

pub total_more : (ms : List Module) (m : Module) (count : ℕ) → item_total ms + length m.items.items ≤ count → item_total (ms ++ m ∷ []) ≤ count
total_more ms m count less = let e = total_append ms m in omega (arith, e, less)

home_more : (ms : List Module) (m : Module) (n : ℕ) (p : List ℕ) → home_in ms n ≡ Some p → home_in (ms ++ m ∷ []) n ≡ Some p
home_more [] m n p e = absurd (cc)
home_more (x ∷ ms) m zero p e = e
home_more (x ∷ ms) m (suc n) p e = home_more ms m n p e

pub keyed_more : (numbers : BTreeMap (String Global) ℕ) (ms : List Module) (m : Module) → AreKeyed numbers ms → AreKeyed numbers (ms ++ m ∷ [])
keyed_more numbers ms m keyed p n e = home_more ms m n p (keyed p n e)

home_last : (ms : List Module) (m : Module) → home_in (ms ++ m ∷ []) (length ms) ≡ Some (string_bytes m.target.printed_path)
home_last [] m = refl
home_last (x ∷ ms) m = home_last ms m

-- with the new module's number under its printed path
pub keyed_pushed : (old new : BTreeMap (String Global) ℕ) (ms : List Module) (m : Module)
    → ((p : List ℕ) → get_by_text new p ≡ (if bytes_eq (string_bytes m.target.printed_path) p then Some (length ms) else get_by_text old p))
    → AreKeyed old ms → AreKeyed new (ms ++ m ∷ [])
keyed_pushed old new ms m noted keyed p n e = by (bytes_eq (string_bytes m.target.printed_path) p) refl (sym (noted p) ∙ e)
  where
    by : (b : Bool) → bytes_eq (string_bytes m.target.printed_path) p ≡ b → (if b then Some (length ms) else get_by_text old p) ≡ Some n → home_in (ms ++ m ∷ []) n ≡ Some p
    by true is e =
        let same : length ms ≡ n = cc in
        ap (home_in (ms ++ m ∷ [])) (sym same) ∙ home_last ms m ∙ ap Some (same_bytes (string_bytes m.target.printed_path) p is)
    by false is e = keyed_more old ms m keyed p n e

-- where no number changes
pub keyed_same : (old new : BTreeMap (String Global) ℕ) (ms : List Module) (m : Module)
    → ((p : List ℕ) → get_by_text new p ≡ get_by_text old p) → AreKeyed old ms → AreKeyed new (ms ++ m ∷ [])
keyed_same old new ms m same keyed p n e = keyed_more old ms m keyed p n (sym (same p) ∙ e)

-- whatever noting it comes to
pub keyed_either : (old new : BTreeMap (String Global) ℕ) (ms : List Module) (m : Module) (text : List ℕ) (number : ℕ) {A E : Type 0} (r : Result A E)
    → text ≡ string_bytes m.target.printed_path → number ≡ length ms
    → OnOk r ((p : List ℕ) → get_by_text new p ≡ (if bytes_eq text p then Some number else get_by_text old p)) → OnErr r ((p : List ℕ) → get_by_text new p ≡ get_by_text old p)
    → AreKeyed old ms → AreKeyed new (ms ++ m ∷ [])
keyed_either old new ms m text number (Ok x) is counts noted same keyed =
    keyed_pushed old new ms m
    (λ p. noted p ∙ ap (λ t. if bytes_eq t p then Some number else get_by_text old p) is ∙ ap (λ n. if bytes_eq (string_bytes m.target.printed_path) p then Some n else get_by_text old p) counts) keyed
keyed_either old new ms m text number (Err e) is counts noted same keyed = keyed_same old new ms m same keyed
