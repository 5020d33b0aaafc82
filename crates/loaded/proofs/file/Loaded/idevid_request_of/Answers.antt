use mathlib.Core.Path.{refl, ◌∙◌}
use Rattle.loaded.proofs.Reading.{few_read, request_declared, request_term}
use Rattle.loaded.proofs.file.Loaded.idevid_request_of.Goals as goal

pub idevid_request_noted-requires : goal.idevid_request_noted-requires
idevid_request_noted-requires c = few_read c.args.self.now.reads c.args.t (request_declared c.args.self.now.reads c.args.t c.requires)

pub returns : goal.returns
returns c = c.idevid_request_noted.ensures ∙ request_term c.args.self.now.reads c.args.t c.requires refl refl refl refl refl
