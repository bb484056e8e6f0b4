-- The table of references alone grows.
use Rattle.std.proofs.Common.{refl}
use Rattle.wesl_mark.proofs.Growing.{refl_keeps, within_kept, same_says, same_flats, grows_by_tables}
use Rattle.wesl_mark.proofs.mark.MarkList.number_reference.Goals as goal

pub invariant_of-self : goal.invariant_of-self
invariant_of-self c = record {
  apart = c.args.self.now.apart;
  named = c.reference_number.ensures.named c.args.self.now.names.keys c.requires c.args.self.now.named;
  within = within_kept c.args.self.now.names.keys c.args.self.now.names.keys c.args.self.now.references.keys c.reference_number.new.references.keys c.args.self.now.marks.items (refl_keeps c.args.self.now.names.keys) c.reference_number.ensures.keeps c.args.self.now.within;
}

pub returns-clause-says : goal.returns-clause-says
returns-clause-says c = same_says c.args.self.now _ (refl_keeps c.args.self.now.names.keys) c.reference_number.ensures.keeps refl

pub returns-clause-flats : goal.returns-clause-flats
returns-clause-flats c = same_flats c.args.self.now _ (refl_keeps c.args.self.now.names.keys) c.reference_number.ensures.keeps refl

pub returns-clause-grows : goal.returns-clause-grows
returns-clause-grows c = grows_by_tables c.args.self.now _ (refl_keeps c.args.self.now.names.keys) c.reference_number.ensures.keeps refl
