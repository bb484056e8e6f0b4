use Rattle.wgsl_types.proofs.constructor.bare_array.Goals as goal

pub returns-in-None : goal.returns-in-None
returns-in-None c = λ made is. c.in-None.ensures is.0 is.2
