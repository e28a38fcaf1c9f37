use Rattle.units.specs.Samples.{bits_of}
use Rattle.units.proofs.Bits.{samples_below}
use Rattle.units.proofs.Checking.{none_unfit}
use Rattle.units.proofs.packed.U8Entry.first_misfit.Goals as goal

pub returns-clause-first : goal.returns-clause-first
returns-clause-first c = none_unfit c.args._bytes.now

pub returns-clause-fit : goal.returns-clause-fit
returns-clause-fit c = samples_below (bits_of c.args._width) c.args._bytes.now
