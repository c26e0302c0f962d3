-- What the functions that take a part of the input promise, whatever is written for a line. Assumes nothing.
use Rattle.std.specs.Prelude.{◌≡◌, Bool, true, false, cond, ◌&&◌, ◌⊎◌, List, [], ◌++◌, length, take, drop, ℕ, zero, suc, ◌+◌, ◌-◌, ◌<◌, ◌≤◌, eqb, ltb, leb}
use Rattle.line_frame.specs.Sizes.{most_held}
use Rattle.line_fields.specs.Put.{put, Wrote}
use Rattle.line_frame.specs.Begun.{line_length, has_feed, kept_of, passed_of, held_of}
use Rattle.line_stream.specs.Stream.{told_of, Job, Fed}
use Rattle.line_stream.specs.declared.Progress.{Progress}

-- what a line that ends after the bytes r leaves in the buffer: if none of it was held, it is read in place; any other line is
-- put together in the buffer
abbrev pub line_ended : List ℕ → ℕ → List ℕ → List ℕ
line_ended line held r = cond (eqb held 0) line (put (kept_of (take held line ++ r)) 0 line)

-- a line that does not end in the chunk is put together there too
abbrev pub line_after : List ℕ → ℕ → List ℕ → List ℕ
line_after line held s =
    cond (has_feed s) (line_ended line held (take (line_length s) s)) (put (kept_of (take held line ++ s)) 0 line)

-- one line, or the rest of a chunk that has no more line feed
pub record FedLine (J : Job) (line : List ℕ) (held : ℕ) (s : List ℕ) (at : ℕ) (out : List ℕ) (used : ℕ) (r : Progress)
    (line' out' : List ℕ) : Type 0 where
  pub output : Wrote (told_of J (take held line) s) used out r.used out'
  pub passed : r.at ≡ at + passed_of s
  pub count : r.held ≡ length (held_of (take held line) s)
  pub holds : take r.held line' ≡ held_of (take held line) s
  pub buffer : line' ≡ line_after line held s

-- what lines of a chunk come to: the bytes written, the buffer of the line begun, how many bytes it holds, and the bytes that are
-- left
pub record Block : Type 0 where
  pub told : List ℕ
  pub line : List ℕ
  pub held : ℕ
  pub rest : List ℕ

-- there are bytes left, and the output of this size is long enough for the most that is written for a line
abbrev pub goes_on : ℕ → ℕ → List ℕ → List ℕ → Bool
goes_on most size w s = ltb 0 (length s) && leb (length w + most) size

-- line after line while that is so, after the bytes w. The second argument bounds how many lines there are
unfoldable pub fill_of : Job → ℕ → ℕ → List ℕ → List ℕ → ℕ → List ℕ → Block
fill_of J zero size w line held s = record { told = w; line = line; held = held; rest = s }
fill_of J (suc n) size w line held s =
    elim (goes_on J.most size w s) [
      | true ↦ fill_of J n size (w ++ told_of J (take held line) s) (line_after line held s)
          (length (held_of (take held line) s)) (drop (passed_of s) s)
      | false ↦ record { told = w; line = line; held = held; rest = s }
    ]

-- lines, until the chunk is passed or the output is too short for one more
pub record Filled (J : Job) (line : List ℕ) (held : ℕ) (s : List ℕ) (at : ℕ) (out : List ℕ) (r : Progress)
    (line' out' : List ℕ) : Type 0 where
  pub fed : Fed J (take held line) (take (r.at - at) (drop at s)) (take r.used out') (take r.held line')
  pub kept : drop r.used out' ≡ drop r.used out
  pub most : r.held ≤ most_held
  pub long : length out' ≡ length out
  pub room : r.used ≤ length out
  pub from : at ≤ r.at
  pub to : r.at ≤ length s
  pub until : (r.at ≡ length s) ⊎ (length out < r.used + J.most)
  pub moves : at < length s → J.most ≤ length out → at < r.at
  pub exact : record { told = take r.used out'; line = line'; held = r.held; rest = drop r.at s }
      ≡ fill_of J (length (drop at s)) (length out) [] line held (drop at s)
