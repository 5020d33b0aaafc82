use mathlib.Core.Path.{refl, ◌∙◌}
use Rattle.loaded.proofs.Reading.{few_read, certificate_declared, certificate_term}
use Rattle.loaded.proofs.file.Loaded.certificate_of.Goals as goal

pub certificate_noted-requires : goal.certificate_noted-requires
certificate_noted-requires c = few_read c.args.self.now.reads c.args.t (certificate_declared c.args.self.now.reads c.args.t c.requires)

pub returns : goal.returns
returns c = c.certificate_noted.ensures ∙ certificate_term c.args.self.now.reads c.args.t c.requires refl refl refl refl refl
