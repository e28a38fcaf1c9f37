use Rattle.std.proofs.Common.{length, vec_items}
use Rattle.command.specs.Left.{text}
use Rattle.command.proofs.Listing.{Keeps}
use Rattle.command.proofs.words.Words.floats.Given as goal

abbrev pub invariant-loop-word : goal.invariant-loop-word
invariant-loop-word l = Keeps (text l.initial.self) (text l.self) (vec_items l.all)

abbrev pub decreases-loop-word : goal.decreases-loop-word
decreases-loop-word l = length (text l.self)
