-- Attributes whose names take what a script holds for them. Conditions take nothing: what they name are flags.
use Rattle.std.specs.Prelude.{List}
use Rattle.wgsl_expressions.specs.AttributesTree.{Attr, align, binding, blend_src, group, id_number, location, byte_size, workgroup_size, custom}
use Rattle.wesl_marks_mut.specs.Walks.{each, if_there}
use Rattle.wesl_marks_mut.specs.Written.{Left, written}

abbrev pub attribute_written : Attr → Left → Attr × Left
attribute_written (align x) s = let r = written x s in (align r.0, r.1)
attribute_written (binding x) s = let r = written x s in (binding r.0, r.1)
attribute_written (blend_src x) s = let r = written x s in (blend_src r.0, r.1)
attribute_written (group x) s = let r = written x s in (group r.0, r.1)
attribute_written (id_number x) s = let r = written x s in (id_number r.0, r.1)
attribute_written (location x) s = let r = written x s in (location r.0, r.1)
attribute_written (byte_size x) s = let r = written x s in (byte_size r.0, r.1)
attribute_written (workgroup_size x y z) s =
    let a = written x s in let b = if_there written y a.1 in let c = if_there written z b.1 in (workgroup_size a.0 b.0 c.0, c.1)
attribute_written (custom name xs) s = let r = if_there (each written) xs s in (custom name r.0, r.1)
attribute_written x s = (x, s)

abbrev pub attributes_written : List Attr → Left → List Attr × Left
attributes_written = each attribute_written
