-- What a round of a program on lines leaves: it passes lines of a chunk, or reads the next one. Assumes nothing.
use Rattle.std.specs.Prelude.{◌≡◌, List, [], length, take, ℕ, ◌<◌, ◌≤◌, Option, Result, Ok, Err}
use Rattle.std.specs.Io.KnownBytes.{Appends, Consumes, IsAtEnd}
use Rattle.line_stream.specs.{declared.Progress.Progress, Fill.Filled}
use Rattle.sheet.specs.declared.Margin.{Margin}
use Rattle.lines.specs.{declared.Task.Task, Tasks.job_of, Tasks.handed_of, Tasks.margin_of}
use Rattle.line_io.specs.declared.{Round.Round, Round.TheVariants.More, Round.TheVariants.Over, Failure.Failure, Failure.TheVariants.Unread, Failure.TheVariants.Unwritten}

-- a read into a buffer of this length: the next chunk is begun with as many bytes held, or the input is over with as many
abbrev pub ReadOn : ℕ → ℕ → Margin → Result Round Failure → Type 0
ReadOn held size m (Ok (More p n q)) = (p ≡ record { held = held; at = 0; used = 0 }) × (n ≤ size) × (q ≡ m)
ReadOn held size m (Ok (Over n)) = n ≡ held
ReadOn held size m (Err Unread) = Unit {0}
ReadOn held size m (Err Unwritten) = ⊥

-- lines of the chunk s from at on: the output up to used is what was passed on when the sheet stood at m, and the chunk is the
-- same
abbrev pub PassedOn : Task → List ℕ → ℕ → List ℕ → ℕ → List ℕ → Margin → Result Round Failure → List ℕ → List ℕ → Type 0
PassedOn t line held s at out m (Ok (More p n q)) line' out' =
    Filled (job_of t) line held s at out p line' out' × (n ≡ length s) × (q ≡ margin_of t m (take p.used out'))
PassedOn t line held s at out m (Ok (Over n)) line' out' = ⊥
PassedOn t line held s at out m (Err Unread) line' out' = ⊥
PassedOn t line held s at out m (Err Unwritten) line' out' = Unit {0}

-- a round, if the chunk is the first n bytes of buf and was passed up to the place of p: it is passed further as long as there is
-- some of it
pub record RoundIs (t : Task) (line : List ℕ) (p : Progress) (buf : List ℕ) (n : ℕ) (out : List ℕ) (m : Margin)
    (r : Result Round Failure) (line' buf' out' : List ℕ) : Type 0 where
  pub on : p.at < n → PassedOn t line p.held (take n buf) p.at out m r line' out' × (buf' ≡ buf)
  pub next : n ≤ p.at → ReadOn p.held (length buf) m r × (line' ≡ line) × (out' ≡ out)

-- a read into a buffer, which is buf' after it: the chunk is taken off the known bytes of the reader; if the input is over, none
-- of them are left
abbrev pub Takes : Option (List ℕ) → Option (List ℕ) → List ℕ → Result Round Failure → Type 0
Takes old new buf' (Ok (More p n q)) = Consumes old new (take n buf')
Takes old new buf' (Ok (Over n)) = Consumes old new [] × (0 < length buf' → IsAtEnd new)
Takes old new buf' (Err Unread) = Consumes old new []
Takes old new buf' (Err Unwritten) = ⊥

-- lines of a chunk, if the sheet stood at m: what is passed on of the output came to the known bytes of the writer
abbrev pub Gives : Task → Margin → Option (List ℕ) → Option (List ℕ) → List ℕ → Result Round Failure → Type 0
Gives t m old new out' (Ok (More p n q)) = Appends old new (handed_of t m (take p.used out'))
Gives t m old new out' (Ok (Over n)) = ⊥
Gives t m old new out' (Err Unread) = ⊥
Gives t m old new out' (Err Unwritten) = Unit {0}

-- what a round does to the known bytes that the reader has left and to those that the writer holds
pub record Flows (t : Task) (p : Progress) (n : ℕ) (m : Margin) (r : Result Round Failure) (buf' out' : List ℕ)
    (left left' held held' : Option (List ℕ)) : Type 0 where
  pub on : p.at < n → Gives t m held held' out' r × (left' ≡ left)
  pub next : n ≤ p.at → Takes left left' buf' r × (held' ≡ held)
