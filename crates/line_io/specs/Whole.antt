-- What a whole run of a program on lines does. Assumes nothing.
use Rattle.std.specs.Prelude.{◌≡◌, List, ◌++◌, ℕ, Option, IfSome, Result, Ok, Err}
use Rattle.std.specs.Io.KnownBytes.{Appends}
use Rattle.lines.specs.{declared.Task.Task, Tasks.all_handed}
use Rattle.line_io.specs.declared.Failure.{Failure, TheVariants.Unread, TheVariants.Unwritten}

-- the writer's known bytes grew by a beginning of w
abbrev pub Begun : Option (List ℕ) → Option (List ℕ) → List ℕ → Type 0
Begun old new w = (begun rest : List ℕ) × Appends old new begun × (begun ++ rest ≡ w)

-- if it is known which bytes the reader had left, `left`: all that is passed on for them was written, if the run ended whole; and
-- a beginning of it, if a read failed
abbrev pub Ends : Task → Option (List ℕ) → Option (List ℕ) → Option (List ℕ) → Result (Unit {0}) Failure → Type 0
Ends t left held held' (Ok u) = IfSome left (λ s. Appends held held' (all_handed t s))
Ends t left held held' (Err Unread) = IfSome left (λ s. Begun held held' (all_handed t s))
Ends t left held held' (Err Unwritten) = Unit {0}

-- the status that a program ends with: 0 if all was read and written, 1 if a read failed, 2 if a write failed
abbrev pub status_of : Result (Unit {0}) Failure → ℕ
status_of (Ok u) = 0
status_of (Err Unread) = 1
status_of (Err Unwritten) = 2
