-- The table of names alone grows.
use Rattle.std.proofs.Common.{refl}
use Rattle.wesl_mark.proofs.Growing.{refl_keeps, named_kept, within_kept, same_says, same_flats, grows_by_tables}
use Rattle.wesl_mark.proofs.mark.MarkList.number.Goals as goal

pub invariant_of-self : goal.invariant_of-self
invariant_of-self c = record {
  apart = c.name_number.ensures.apart;
  named = named_kept c.args.self.now.names.keys c.name_number.new.names.keys c.args.self.now.references.keys c.name_number.ensures.keeps c.args.self.now.named;
  within = within_kept c.args.self.now.names.keys c.name_number.new.names.keys c.args.self.now.references.keys c.args.self.now.references.keys c.args.self.now.marks.items c.name_number.ensures.keeps (refl_keeps c.args.self.now.references.keys) c.args.self.now.within;
}

pub returns-clause-says : goal.returns-clause-says
returns-clause-says c = same_says c.args.self.now _ c.name_number.ensures.keeps (refl_keeps c.args.self.now.references.keys) refl

pub returns-clause-flats : goal.returns-clause-flats
returns-clause-flats c = same_flats c.args.self.now _ c.name_number.ensures.keeps (refl_keeps c.args.self.now.references.keys) refl

pub returns-clause-grows : goal.returns-clause-grows
returns-clause-grows c = grows_by_tables c.args.self.now _ c.name_number.ensures.keeps (refl_keeps c.args.self.now.references.keys) refl
