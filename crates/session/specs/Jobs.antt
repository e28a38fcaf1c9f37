-- What the lines of a job say, and how they are read. Assumes nothing.
use Rattle.std.specs.Prelude.{ℕ, ◌≤◌, List, Option, length}
use Rattle.std.specs.List.{All}
use Rattle.command.specs.Cutting.{first_word}
use Rattle.command.specs.Lines.{Unreturned, Silent, Says}
use Rattle.command.specs.declared.line.Command.{Command}

-- the line says a call, or nothing
pub record IsUnderstood (line : List ℕ) : Type 0 where
  pub call : Option Command
  pub words : List ℕ
  pub unreturned : Unreturned line words
  pub says : Says words call

-- the line is blank, or a comment
pub record IsSilent (line : List ℕ) : Type 0 where
  pub words : List ℕ
  pub unreturned : Unreturned line words
  pub silent : Silent (first_word words)

-- of the lines `before`, those `after` are left, and the others are understood
pub record ReadsOn (before after : List (List ℕ)) : Type 0 where
  pub no_longer : length after ≤ length before
  pub understood : All IsUnderstood after → All IsUnderstood before
