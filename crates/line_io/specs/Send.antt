-- Bytes that were passed on. Assumes nothing.
use Rattle.std.specs.Prelude.{◌≡◌, List, ℕ, Option, Result, Ok, Err}
use Rattle.std.specs.Io.KnownBytes.{Appends}
use Rattle.sheet.specs.declared.Margin.{Margin}
use Rattle.line_io.specs.declared.Failure.{Failure, TheVariants.Unwritten}

-- the sheet stands at m then, or a write failed
abbrev pub SentIs : Margin → Result Margin Failure → Type 0
SentIs m (Ok n) = n ≡ m
SentIs m (Err e) = e ≡ Unwritten

-- if all was written, the known bytes of the writer grew by w
abbrev pub Grows : Option (List ℕ) → Option (List ℕ) → List ℕ → Result Margin Failure → Type 0
Grows old new w (Ok n) = Appends old new w
Grows old new w (Err e) = Unit {0}

-- the known bytes of the writer grew by w, or a write failed
abbrev pub ClosesBy : Option (List ℕ) → Option (List ℕ) → List ℕ → Result (Unit {0}) Failure → Type 0
ClosesBy old new w (Ok u) = Appends old new w
ClosesBy old new w (Err e) = e ≡ Unwritten
