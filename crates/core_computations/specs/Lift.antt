-- Relations of two computations, from a relation of their answers, that going on keeps.
use Rattle.std.specs.Prelude.{◌≡◌, ℕ}
use Rattle.wgsl_shader_type.specs.declared.error.Error.{Error}
use Rattle.wgsl_memory.specs.Instance.{Instance}
use Rattle.wgsl_memory.specs.RefInstance.{RefInstance}
use Rattle.core_computations.specs.Machine.{Computation, pure, fail, deep, bind, tick, read, loaded, write, fresh, scoped}

-- F: the faults of both
abbrev pub Lift : Type 0 → Type 1
Lift F = (A B : Type 0) → (A → B → Type 0) → Computation F A → Computation F B → Type 0

abbrev pub Same : {A : Type 0} → A → A → Type 0
Same x y = x ≡ y

-- What leaves memory alone, or goes back to it, keeps the relation. SameFault: which faults count as one. A computation may look at how
-- many steps are left, so not each is related to itself
pub record Kept (F : Type 0) (SameFault : F → F → Type 0) (R : Lift F) : Type 1 where
  pub pure_of : (A B : Type 0) (S : A → B → Type 0) (x : A) (y : B) → S x y → R A B S (pure x) (pure y)
  pub fail_of : (A B : Type 0) (S : A → B → Type 0) (f g : F) → SameFault f g → R A B S (fail f) (fail g)
  pub going_on : (A B C D : Type 0) (S : A → B → Type 0) (T : C → D → Type 0) (m : Computation F A) (n : Computation F B) (f : A → Computation F C) (g : B → Computation F D)
      → R A B S m n → ((x : A) (y : B) → S x y → R C D T (f x) (g y)) → R C D T (bind m f) (bind n g)
  pub tick_of : (f g : F) → SameFault f g → R (Unit {0}) (Unit {0}) Same (tick f) (tick g)
  pub read_of : (f g : Error → F) (r : RefInstance) → ((e : Error) → SameFault (f e) (g e)) → R Instance Instance Same (read f r) (read g r)
  pub loaded_of : (f g : Error → F) (x : Instance) → ((e : Error) → SameFault (f e) (g e)) → R Instance Instance Same (loaded f x) (loaded g x)
  pub scoped_of : (A B : Type 0) (S : A → B → Type 0) (m : Computation F A) (n : Computation F B) → R A B S m n → R A B S (scoped m) (scoped n)

-- what also the bound of the definition, writes and new cells keep
pub record KeptThroughout (F : Type 0) (SameFault : F → F → Type 0) (R : Lift F) : Type 1 where
  pub kept : Kept F SameFault R
  pub deep_of : (A B : Type 0) (S : A → B → Type 0) → R A B S deep deep
  pub write_of : (f g : Error → F) (r : RefInstance) (x : Instance) → ((e : Error) → SameFault (f e) (g e)) → R (Unit {0}) (Unit {0}) Same (write f r x) (write g r x)
  pub fresh_of : (x : Instance) → R ℕ ℕ Same (fresh x) (fresh x)
