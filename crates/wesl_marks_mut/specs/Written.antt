-- An expression whose names take what a script holds for them, and what is left of the script.
use Rattle.std.specs.Prelude.{List, Some, None, Bool, false, codes, if◌then◌else◌}
use Rattle.std.specs.Str.{bytes_eq}
use Rattle.wgsl_expressions.specs.Tree.{Exp, literal, parenthesized, component, indexed, unary, binary, call, named, Exps, nil, cons, Typ, simple, templated}
use Rattle.wesl_marks_mut.specs.declared.script.New.{New}
use Rattle.wesl_marks_mut.specs.Lasts.{init, last}
use Rattle.wesl_marks_mut.specs.Putting.{put_path, put_name}

abbrev pub Left : Type 0
Left = List New

-- `_` alone takes none
abbrev pub takes_none : Typ → Bool
takes_none (simple None x) = bytes_eq x (codes "_")
takes_none (simple (Some p) x) = false
takes_none (templated path x xs) = false

abbrev mutual
  pub written : Exp → Left → Exp × Left
  written (literal l) s = (literal l, s)
  written (parenthesized x) s = let r = written x s in (parenthesized r.0, r.1)
  written (component x name) s = let r = written x s in (component r.0 name, r.1)
  written (indexed x y) s = let a = written x s in let b = written y a.1 in (indexed a.0 b.0, b.1)
  written (unary o x) s = let r = written x s in (unary o r.0, r.1)
  written (binary o x y) s = let a = written x s in let b = written y a.1 in (binary o a.0 b.0, b.1)
  written (call t xs) s = let a = type_written t s in let b = all_written xs a.1 in (call a.0 b.0, b.1)
  written (named t) s = let a = type_written t s in (named a.0, a.1)

  pub all_written : Exps → Left → Exps × Left
  all_written nil s = (nil, s)
  all_written (cons x xs) s = let a = written x s in let b = all_written xs a.1 in (cons a.0 b.0, b.1)

  pub type_written : Typ → Left → Typ × Left
  type_written (simple path x) s = if takes_none (simple path x) then (simple path x, s) else (simple (put_path path (last s)) (put_name x (last s)), init s)
  type_written (templated path x xs) s = let b = all_written xs (init s) in (templated (put_path path (last s)) (put_name x (last s)) b.0, b.1)
